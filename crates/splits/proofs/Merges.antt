-- A tree, then another, which is lent.
use Rattle.std.proofs.Common.{◌≡◌, ℕ, ◌+◌, ◌^◌, ◌<◌, ◌≤◌, false, List, [], ◌∷◌, ◌++◌, Some, None, Option, sym, refl, ap, ◌∙◌, subst, arith}
use Rattle.std.specs.List.{AllByRecursion}
use Rattle.faults.specs.Limits.{limit}
use Rattle.kinds.specs.Kinds.{Meaning, Laws, Lawful}
use Rattle.balance.specs.Trees.{Tree, count, elements}
use Rattle.balance.specs.Lists.{Shape, extents}
use Rattle.balance.specs.Ways.{span}
use Rattle.balance.specs.Edits.{more, listed, tail, Parted, joined, parted, merge}
use Rattle.balance.specs.Levels.{most}
use Rattle.balance.specs.Costs.{joined_cost, parted_cost, merge_cost}
use Rattle.balance.proofs.Edits.{Sound, parted_sound}
use Rattle.cells.specs.declared.cell.Cell.{Cell}
use Rattle.cells.specs.declared.pool.Pool.{Pool}
use Rattle.cells.specs.Cells.{shape, cell_count, tree, Live}
use Rattle.cells.specs.Reach.{Among, Stays}
use Rattle.cells.specs.References.{Arena, Owned}
use Rattle.cells.specs.Moves.{Moved, Moves, Releases}
use Rattle.cells.proofs.Names.{hit_same}
use Rattle.cells.proofs.Staying.{occurs_append}
use Rattle.cells.proofs.Arenas.{rooted, rerooted}
use Rattle.cells.proofs.Moving.{moves_none, moves_then, seen_stays}
use Rattle.cells.proofs.Trees.{known}
use Rattle.walks.proofs.Atoms.{tree_lawful}
use Rattle.splits.specs.declared.split.Loose.{Loose}
use Rattle.splits.specs.declared.split.Split.{Split}
use Rattle.splits.specs.Owning.{Owns}
use Rattle.splits.specs.Splitting.{behind, loose_roots, Grows, Splits}
use Rattle.splits.proofs.Places.{parted_extents}

-- what lies behind a place stays while its root does
pub behind_stays : {E S : Type 0} (a b : List (Cell E S)) (o : Option (Loose E S)) → ((i : ℕ) → Among (loose_roots o) i → Stays a b i) → behind b o ≡ behind a o
behind_stays a b None stays = refl
behind_stays a b (Some l) stays = ap (more l.element) (seen_stays false a b l.root (stays l.root (let h = hit_same l.root in omega arith)))

merge_is : {E : Type 0} (s : Shape E) (l r : Tree E) → merge s l r ≡ joined l (parted s r 0).rest
unfolding merge
merge_is s l r = refl

merge_cost_is : {E : Type 0} (s : Shape E) (l r : Tree E) → merge_cost s l r ≡ parted_cost s r 0 + joined_cost l (parted s r 0).rest
unfolding merge_cost
merge_cost_is s l r = refl

module _ {E A S : Type 0} {k : Meaning E A S} {a : List (Cell E S)} {p : Pool} {left right : ℕ} (owns : Owns k a p (left ∷ []) (right ∷ []) (2 ^ 18)) where
  abbrev L : Tree E
  L = tree a left

  abbrev R : Tree E
  R = tree a right

  abbrev s : Parted E
  s = parted (shape k) R 0

  abbrev n : ℕ
  n = parted_cost (shape k) R 0

  right_live : Live a right
  right_live = rooted k a p (left ∷ owns.rest) owns.arena right (let h = owns.kept right (let h = hit_same right in omega arith) in omega arith)

  sound : Sound (count R) s.before s.rest
  sound = parted_sound (shape k) R 0 (known k a owns.arena.sound right right_live).balanced

  pub right_lawful : AllByRecursion (Lawful k) (elements R)
  right_lawful = tree_lawful k a owns.arena.sound right right_live

  pub merge_some : merge_cost (shape k) L R ≤ p.free → n ≤ p.free
  merge_some some = omega (arith, some, merge_cost_is (shape k) L R)

  module _ (few : count L + count R < most) {b : List (Cell E S)} {q : Pool} {r : Split E S} (split : Splits k a p [] b q r s n) where
    abbrev xs : List ℕ
    xs = loose_roots r.loose

    pub split_arena : Arena k b q (r.before ∷ (xs ++ (left ∷ owns.rest)))
    split_arena = (split.each (left ∷ owns.rest) owns.arena).arena

    pub split_owned : Owned k b q (r.before ∷ [])
    split_owned = (xs ++ (left ∷ owns.rest), split_arena)

    pub split_few : cell_count b r.before ≤ most
    split_few =
        let live = rooted k b q (r.before ∷ (xs ++ (left ∷ owns.rest))) split_arena r.before (let h = hit_same r.before in omega arith) in
        omega (arith, (known k b split_arena.sound r.before live).counts, ap count split.before_is, sound.before_few, few)

    module _ {c : List (Cell E S)} {o : Pool} (drop : (rs : List ℕ) → Arena k b q (r.before ∷ rs) → Releases k b q rs c o) where
      to_c : Moves k a p [] c o xs (n + 0)
      to_c = moves_then k a p [] b q (r.before ∷ xs) n split.each (r.before ∷ []) xs (λ i. omega arith) c o [] 0 (λ rs ar. (drop rs ar).moved) xs (λ i. omega arith)

      at_c : Moved k a p (left ∷ owns.rest) c o xs (n + 0)
      at_c = to_c (left ∷ owns.rest) owns.arena

      left_is : tree c left ≡ L
      left_is = seen_stays false a c left (at_c.stay left (let h = hit_same left in omega arith))

      rest_is : behind c r.loose ≡ s.rest
      rest_is =
          behind_stays b c r.loose (λ i among. (drop (xs ++ (left ∷ owns.rest)) split_arena).moved.stay i (omega (arith, occurs_append xs (left ∷ owns.rest) i)))
          ∙ split.rest_is

      pub join_owns : Owns k c o (left ∷ xs) [] (2 ^ 20)
      join_owns = record {
        rest = owns.rest;
        arena = rerooted k c o (xs ++ (left ∷ owns.rest)) at_c.arena (left ∷ (xs ++ owns.rest)) (λ i h. omega (arith, occurs_append xs (left ∷ owns.rest) i, occurs_append xs owns.rest i));
        kept = λ i among. absurd (omega arith);
        few = omega (arith, owns.few);
      }

      pub join_few : count (tree c left) + count (tail (behind c r.loose)) < most
      join_few = omega (arith, few, ap count left_is, ap (λ s. count (tail s)) rest_is, sound.rest_few)

      pub join_short : Laws k → span (shape k) L + span (shape k) R ≤ limit → span (shape k) (tree c left) + extents (shape k) (listed (behind c r.loose)) ≤ limit
      join_short laws short = omega (arith, short, ap (span (shape k)) left_is, ap (λ s. extents (shape k) (listed s)) rest_is, parted_extents k laws R 0 right_lawful)

      cost_is : joined_cost (tree c left) (behind c r.loose) ≡ joined_cost L s.rest
      cost_is = ap (λ t. joined_cost t (behind c r.loose)) left_is ∙ ap (joined_cost L) rest_is

      pub join_some : merge_cost (shape k) L R ≤ p.free → joined_cost (tree c left) (behind c r.loose) ≤ o.free
      join_some some = omega (arith, cost_is, some, merge_cost_is (shape k) L R, at_c.free)

      pub merged : {z : List (Cell E S)} {w : Pool} {x : ℕ} → Grows k false c o (left ∷ xs) z w x (joined (tree c left) (behind c r.loose)) (joined_cost (tree c left) (behind c r.loose))
          → Grows k false a p (left ∷ []) z w x (merge (shape k) L R) (merge_cost (shape k) L R)
      merged {z} {w} {x} join =
          let cost : 0 + (n + 0) + joined_cost (tree c left) (behind c r.loose) ≡ merge_cost (shape k) L R = omega (arith, cost_is, merge_cost_is (shape k) L R) in
          let first : Moves k a p (left ∷ []) c o (left ∷ xs) (0 + (n + 0)) =
          moves_then k a p (left ∷ []) a p (left ∷ []) 0 (moves_none k a p (left ∷ [])) [] (left ∷ []) (λ i. omega arith) c o xs (n + 0) to_c (left ∷ xs) (λ i. omega arith) in
          record {
            each = subst (Moves k a p (left ∷ []) z w (x ∷ [])) cost
                (moves_then k a p (left ∷ []) c o (left ∷ xs) (0 + (n + 0)) first (left ∷ xs) [] (λ i. omega arith) z w (x ∷ []) (joined_cost (tree c left) (behind c r.loose)) join.each (x ∷ []) (λ i. omega arith));
            tree_is = join.tree_is ∙ ap (λ t. joined t (behind c r.loose)) left_is ∙ ap (joined L) rest_is ∙ sym (merge_is (shape k) L R);
          }
