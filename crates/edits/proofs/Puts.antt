-- Putting in: a tree taken apart, what is put in behind its front, and its rest behind that.
use Rattle.std.proofs.Common.{◌≡◌, ℕ, ◌+◌, ◌^◌, ◌<◌, ◌≤◌, false, List, [], ◌∷◌, ◌++◌, length, sym, ap, ◌∙◌, arith, length-append}
use Rattle.std.specs.List.{AllByRecursion}
use Rattle.faults.specs.Limits.{limit}
use Rattle.flat.specs.Refusals.{element_limit}
use Rattle.kinds.specs.Kinds.{Meaning, Laws, Lawful}
use Rattle.kinds.specs.Places.{extent_of, put_at}
use Rattle.balance.specs.Trees.{Tree, elements, count, Balanced}
use Rattle.balance.specs.Lists.{extents}
use Rattle.balance.specs.Ways.{span}
use Rattle.balance.specs.Edits.{Parted, listed, tail, joined, parted, merge, put}
use Rattle.balance.specs.Levels.{most}
use Rattle.balance.specs.Costs.{parted_cost, merge_cost, joined_cost, put_cost}
use Rattle.balance.proofs.Mirrors.{count_length}
use Rattle.balance.proofs.Lists.{extents_append}
use Rattle.balance.proofs.Ways.{span_extents}
use Rattle.balance.proofs.Edits.{Sound, parted_sound, merge_elements, merge_count, put_elements}
use Rattle.balance.proofs.Costs.{put_cost_lem}
use Rattle.cells.specs.declared.cell.Cell.{Cell}
use Rattle.cells.specs.declared.pool.Pool.{Pool}
use Rattle.cells.specs.Cells.{shape, tree}
use Rattle.cells.specs.Reach.{Among}
use Rattle.cells.specs.Moves.{Moved, Moves}
use Rattle.cells.proofs.Names.{hit_same}
use Rattle.cells.proofs.Staying.{occurs_append, tree_stays}
use Rattle.cells.proofs.Moving.{moves_then, moves_more}
use Rattle.splits.specs.declared.split.Split.{Split}
use Rattle.splits.specs.Owning.{Owns}
use Rattle.splits.specs.Splitting.{behind, loose_roots, Grows, Splits}
use Rattle.edits.specs.Edits.{edit_takes, list, Makes}
use Rattle.splits.proofs.Places.{same_extent, same_put, all_solid, parted_extents}
use Rattle.splits.proofs.Merges.{behind_stays}
use Rattle.splits.proofs.LooseParts.{loose_one}
use Rattle.edits.proofs.Roots.{both_counts, owned_balanced, owned_lawful}

-- what putting the list of new into that of root is given
pub record Putting {E A S : Type 0} (k : Meaning E A S) (a : List (Cell E S)) (p : Pool) (root new : ℕ) : Type 0 where
  pub laws : Laws k
  pub owns : Owns k a p [] (root ∷ new ∷ []) (2 ^ 16)
  pub few : length (list a root) + length (list a new) ≤ element_limit
  pub short : extent_of k (list a root) + extent_of k (list a new) ≤ limit
  pub some : edit_takes ≤ p.free

abbrev pub putting : {E A S : Type 0} {k : Meaning E A S} {a : List (Cell E S)} {p : Pool} {root new : ℕ} → Laws k → Owns k a p [] (root ∷ new ∷ []) (2 ^ 16)
    → length (list a root) + length (list a new) ≤ element_limit → extent_of k (list a root) + extent_of k (list a new) ≤ limit → edit_takes ≤ p.free → Putting k a p root new
putting laws owns few short some = record { laws = laws; owns = owns; few = few; short = short; some = some }

module _ {E A S : Type 0} {k : Meaning E A S} {a : List (Cell E S)} {p : Pool} {root new : ℕ} (at : Putting k a p root new) (place : ℕ) where
  abbrev T : Tree E
  T = tree a root

  abbrev N : Tree E
  N = tree a new

  abbrev s : Parted E
  s = parted (shape k) T place

  root_owned : Among at.owns.rest root
  root_owned = at.owns.kept root (let h = hit_same root in omega arith)

  new_owned : Among at.owns.rest new
  new_owned = at.owns.kept new (let h = hit_same new in omega arith)

  T-balanced : Balanced T
  T-balanced = owned_balanced at.owns.arena root root_owned

  N-balanced : Balanced N
  N-balanced = owned_balanced at.owns.arena new new_owned

  T-lawful : AllByRecursion (Lawful k) (elements T)
  T-lawful = owned_lawful at.owns.arena root root_owned

  N-lawful : AllByRecursion (Lawful k) (elements N)
  N-lawful = owned_lawful at.owns.arena new new_owned

  counts : count T + count N ≤ element_limit
  counts = omega (arith, at.few, count_length T, count_length N)

  spans : span (shape k) T + span (shape k) N ≤ limit
  spans = omega (arith, at.short, span_extents (shape k) T ∙ same_extent k (elements T), span_extents (shape k) N ∙ same_extent k (elements N))

  sound : Sound (count T) s.before s.rest
  sound = parted_sound (shape k) T place T-balanced

  costs : parted_cost (shape k) T place + merge_cost (shape k) s.before N + joined_cost (merge (shape k) s.before N) s.rest ≤ edit_takes
  unfolding put_cost
  costs = put_cost_lem (shape k) T place N T-balanced N-balanced (omega (arith, counts))

  pub part_owns : Owns k a p [] (root ∷ []) (2 ^ 20)
  part_owns = record { rest = at.owns.rest; arena = at.owns.arena; kept = λ i h. at.owns.kept i (omega arith); few = omega (arith, at.owns.few) }

  pub part_few : count T ≤ most
  part_few = omega (arith, counts)

  pub part_some : parted_cost (shape k) T place ≤ p.free
  part_some = omega (arith, costs, at.some)

  module _ {b : List (Cell E S)} {q : Pool} {split : Split E S} (one : Splits k a p [] b q split s (parted_cost (shape k) T place)) where
    abbrev loose : List ℕ
    loose = loose_roots split.loose

    moved_b : Moved k a p at.owns.rest b q (split.before ∷ loose) (parted_cost (shape k) T place)
    moved_b = one.each at.owns.rest at.owns.arena

    new_b : tree b new ≡ N
    new_b = sym (tree_stays a b new (moved_b.stay new new_owned))

    pub merge_owns : Owns k b q (split.before ∷ []) (new ∷ []) (2 ^ 18)
    merge_owns = record {
      rest = loose ++ at.owns.rest;
      arena = moved_b.arena;
      kept = λ i h. omega (arith, at.owns.kept i (omega arith), occurs_append loose at.owns.rest i);
      few = omega (arith, at.owns.few, length-append loose at.owns.rest, loose_one split.loose);
    }

    pub merge_few : count (tree b split.before) + count (tree b new) < most
    merge_few = omega (arith, ap count one.before_is, ap count new_b, sound.before_few, counts)

    parts_extents : span (shape k) s.before + extents (shape k) (listed s.rest) ≡ span (shape k) T
    parts_extents = parted_extents k at.laws T place T-lawful

    pub merge_short : span (shape k) (tree b split.before) + span (shape k) (tree b new) ≤ limit
    merge_short = omega (arith, ap (span (shape k)) one.before_is, ap (span (shape k)) new_b, parts_extents, spans)

    merge_cost_is_here : merge_cost (shape k) (tree b split.before) (tree b new) ≡ merge_cost (shape k) s.before N
    merge_cost_is_here = ap (λ t. merge_cost (shape k) t (tree b new)) one.before_is ∙ ap (merge_cost (shape k) s.before) new_b

    pub merge_some : merge_cost (shape k) (tree b split.before) (tree b new) ≤ q.free
    merge_some = omega (arith, merge_cost_is_here, costs, at.some, moved_b.free)

    module _ {c : List (Cell E S)} {o : Pool} {front : ℕ}
        (two : Grows k false b q (split.before ∷ []) c o front (merge (shape k) (tree b split.before) (tree b new)) (merge_cost (shape k) (tree b split.before) (tree b new))) where
      moved_c : Moved k b q (loose ++ at.owns.rest) c o (front ∷ []) (merge_cost (shape k) (tree b split.before) (tree b new))
      moved_c = two.each (loose ++ at.owns.rest) moved_b.arena

      front_c : tree c front ≡ merge (shape k) s.before N
      front_c = two.tree_is ∙ ap (λ t. merge (shape k) t (tree b new)) one.before_is ∙ ap (merge (shape k) s.before) new_b

      behind_c : behind c split.loose ≡ s.rest
      behind_c = behind_stays b c split.loose (λ i h. moved_c.stay i (omega (arith, occurs_append loose at.owns.rest i))) ∙ one.rest_is

      pub join_owns : Owns k c o (front ∷ loose) [] (2 ^ 20)
      join_owns = record { rest = at.owns.rest; arena = moved_c.arena; kept = λ i h. absurd (omega (arith, h)); few = omega (arith, at.owns.few) }

      pub join_few : count (tree c front) + count (tail (behind c split.loose)) < most
      join_few = omega (
        arith,
        ap count front_c,
        ap (λ r. count (tail r)) behind_c,
        merge_count (shape k) s.before N N-balanced,
        both_counts (shape k) T place,
        counts,
      )

      merged_span : span (shape k) (merge (shape k) s.before N) ≡ span (shape k) s.before + span (shape k) N
      merged_span =
          span_extents (shape k) (merge (shape k) s.before N)
          ∙ ap (extents (shape k)) (merge_elements (shape k) s.before N (all_solid k at.laws (elements N) N-lawful))
          ∙ omega (arith, extents_append (shape k) (elements s.before) (elements N), span_extents (shape k) s.before, span_extents (shape k) N)

      pub join_short : span (shape k) (tree c front) + extents (shape k) (listed (behind c split.loose)) ≤ limit
      join_short = omega (arith, ap (span (shape k)) front_c, ap (λ r. extents (shape k) (listed r)) behind_c, merged_span, parts_extents, spans)

      join_cost_is : joined_cost (tree c front) (behind c split.loose) ≡ joined_cost (merge (shape k) s.before N) s.rest
      join_cost_is = ap (λ t. joined_cost t (behind c split.loose)) front_c ∙ ap (joined_cost (merge (shape k) s.before N)) behind_c

      pub join_some : joined_cost (tree c front) (behind c split.loose) ≤ o.free
      join_some = omega (arith, merge_cost_is_here, join_cost_is, costs, at.some, moved_b.free, moved_c.free)

      module _ {d : List (Cell E S)} {w : Pool} {r : ℕ}
          (three : Grows k false c o (front ∷ loose) d w r (joined (tree c front) (behind c split.loose)) (joined_cost (tree c front) (behind c split.loose))) where
        moves_c : Moves k a p [] c o (front ∷ loose) (parted_cost (shape k) T place + merge_cost (shape k) (tree b split.before) (tree b new))
        moves_c = moves_then k a p [] b q (split.before ∷ loose) (parted_cost (shape k) T place) one.each (split.before ∷ []) loose (λ i. omega arith)
            c o (front ∷ []) (merge_cost (shape k) (tree b split.before) (tree b new)) two.each (front ∷ loose) (λ i. omega arith)

        tree_d : tree d r ≡ put (shape k) T place N
        unfolding put
        tree_d = three.tree_is ∙ ap (λ t. joined t (behind c split.loose)) front_c ∙ ap (joined (merge (shape k) s.before N)) behind_c

        pub puts : Makes k a p d w r (put_at k place (list a new) (list a root)) edit_takes
        puts = record {
          each = moves_more k a p [] d w (r ∷ []) _ edit_takes (omega (arith, merge_cost_is_here, join_cost_is, costs))
              (moves_then k a p [] c o (front ∷ loose) _ moves_c (front ∷ loose) [] (λ i. omega arith)
              d w (r ∷ []) (joined_cost (tree c front) (behind c split.loose)) three.each (r ∷ []) (λ i. omega arith));
          listed = ap elements tree_d ∙ put_elements (shape k) T place N (all_solid k at.laws (elements N) N-lawful) ∙ same_put k place (elements N) (elements T);
        }
