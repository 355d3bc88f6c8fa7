-- An element by itself, and put into a list.
use Rattle.std.proofs.Common.{◌≡◌, ℕ, ◌+◌, ◌^◌, ◌<◌, ◌≤◌, false, List, [], ◌∷◌, length, sym, ap, ◌∙◌, subst, ⊎_elim, arith}
use Rattle.std.proofs.lemmas.Bool.{cases_eq}
use Rattle.faults.specs.Limits.{limit}
use Rattle.flat.specs.Refusals.{element_limit}
use Rattle.kinds.specs.Kinds.{Meaning, Laws}
use Rattle.kinds.specs.Places.{extent_of, put_at}
use Rattle.balance.specs.Trees.{leaf, node, elements}
use Rattle.balance.specs.Levels.{most}
use Rattle.cells.specs.declared.cell.Cell.{Cell}
use Rattle.cells.specs.declared.item.Item.{Item}
use Rattle.cells.specs.declared.pool.Pool.{Pool}
use Rattle.cells.specs.Cells.{cell_count, tree, Whole}
use Rattle.cells.specs.Reach.{hit}
use Rattle.cells.specs.References.{Arena}
use Rattle.cells.specs.Moves.{Moved, Fits, Yields, Releases}
use Rattle.cells.proofs.Names.{hit_same}
use Rattle.cells.proofs.Staying.{tree_stays}
use Rattle.cells.proofs.Arenas.{rerooted}
use Rattle.cells.proofs.Moving.{moves_then}
use Rattle.splits.specs.Owning.{Owns}
use Rattle.edits.specs.Edits.{edit_takes, insert_takes, list, Makes}
use Rattle.splits.proofs.Nones.{owning_none, none_leaf}
use Rattle.edits.proofs.Roots.{top_count}

-- ---- a cell over two roots i that are no cells

module _ {E A S : Type 0} {k : Meaning E A S} (laws : Laws k) {a : List (Cell E S)} {p : Pool} (owns : Owns k a p [] [] (2 ^ 16)) (i : ℕ) (far : 65535 ≤ i) {item : Item E S} (whole : Whole k item) where
  both_owned : (rs : List ℕ) → Arena k a p rs → Arena k a p (i ∷ i ∷ rs)
  both_owned rs arena = owning_none k a p i far (i ∷ rs) (owning_none k a p i far rs arena)

  empty : tree a i ≡ leaf
  empty = none_leaf k a p i far owns.rest owns.arena

  pub one_owned : Arena k a p (i ∷ i ∷ owns.rest)
  one_owned = both_owned owns.rest owns.arena

  pub one_fits : Fits k (tree a i) item (tree a i)
  one_fits = subst (λ t. Fits k t item t) (sym empty) (record {
    lawful = whole.lawful;
    owns = whole.owns;
    left_light = omega arith;
    right_light = omega arith;
    few = omega arith;
    short = omega (arith, laws.few item.element whole.lawful);
  })

  pub makes_one : {e : E} → item.element ≡ e → (b : List (Cell E S)) (q : Pool) (r : ℕ)
      → ((rs : List ℕ) → Arena k a p (i ∷ i ∷ rs) → Yields k false a p rs b q r (node (tree a i) item.element (tree a i)) 1) → Makes k a p b q r (e ∷ []) 1
  makes_one same b q r make = record {
    each = λ rs arena. (make rs (both_owned rs arena)).moved;
    listed = ap elements ((make owns.rest one_owned).tree_is ∙ ap (λ t. node t item.element t) empty) ∙ ap (λ x. x ∷ []) same;
  }

-- ---- putting it in

module _ {E A S : Type 0} {k : Meaning E A S} {a : List (Cell E S)} {p : Pool} {root : ℕ} (place : ℕ) (e : E)
    (owns : Owns k a p [] (root ∷ []) (2 ^ 15)) (few : length (list a root) < element_limit)
    (short : extent_of k (list a root) + length (k.atoms e) ≤ limit) (some : insert_takes ≤ p.free) where
  module _ {b : List (Cell E S)} {q : Pool} {one : ℕ} (first : Makes k a p b q one (e ∷ []) 1) where
    moved_b : Moved k a p owns.rest b q (one ∷ []) 1
    moved_b = first.each owns.rest owns.arena

    pub put_owns : Owns k b q [] (root ∷ one ∷ []) (2 ^ 16)
    put_owns = record {
      rest = one ∷ owns.rest;
      arena = moved_b.arena;
      kept = λ i h. ⊎_elim (λ none. omega arith) (λ some. omega (arith, owns.kept i (omega arith))) (cases_eq (hit root i) 0);
      few = omega (arith, owns.few);
    }

    list_b : list b root ≡ list a root
    list_b = ap elements (sym (tree_stays a b root (moved_b.stay root (owns.kept root (let h = hit_same root in omega arith)))))

    pub put_few : length (list b root) + length (list b one) ≤ element_limit
    put_few = omega (arith, ap length list_b, ap length first.listed, few)

    pub put_short : extent_of k (list b root) + extent_of k (list b one) ≤ limit
    put_short = omega (arith, ap (extent_of k) list_b, ap (extent_of k) first.listed, short)

    pub put_some : edit_takes ≤ q.free
    put_some = omega (arith, some, moved_b.free)

    module _ {c : List (Cell E S)} {o : Pool} {r : ℕ} (second : Makes k b q c o r (put_at k place (list b one) (list b root)) edit_takes) where
      moved_c : Moved k b q (one ∷ owns.rest) c o (r ∷ []) edit_takes
      moved_c = second.each (one ∷ owns.rest) moved_b.arena

      pub one_arena : Arena k c o (one ∷ r ∷ owns.rest)
      one_arena = rerooted k c o (r ∷ one ∷ owns.rest) moved_c.arena (one ∷ r ∷ owns.rest) (λ i h. omega arith)

      pub one_few : cell_count c one ≤ most
      one_few =
          let same = ap elements (sym (tree_stays b c one (moved_c.stay one (let h = hit_same one in omega arith)))) ∙ first.listed in
          omega (arith, top_count one_arena, ap length same)

      module _ (d : List (Cell E S)) (w : Pool) (third : (rs : List ℕ) → Arena k c o (one ∷ rs) → Releases k c o rs d w) where
        pub inserts : Makes k a p d w r (put_at k place (e ∷ []) (list a root)) insert_takes
        inserts = record {
          each = moves_then k a p [] c o (r ∷ one ∷ []) (1 + edit_takes)
              (moves_then k a p [] b q (one ∷ []) 1 first.each [] (one ∷ []) (λ i. omega arith) c o (r ∷ []) edit_takes second.each (r ∷ one ∷ []) (λ i. omega arith))
              (one ∷ []) (r ∷ []) (λ i. omega arith) d w [] 0 (λ rs ar. (third rs ar).moved) (r ∷ []) (λ i. omega arith);
          listed =
              ap elements (sym (tree_stays c d r ((third (r ∷ owns.rest) one_arena).moved.stay r (let h = hit_same r in omega arith))))
              ∙ second.listed ∙ ap (λ l. put_at k place l (list b root)) first.listed ∙ ap (put_at k place (e ∷ [])) list_b;
        }
