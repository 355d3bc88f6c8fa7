-- A range of a tree: taken apart where it begins, and what lies behind that where it ends.
use Rattle.std.proofs.Common.{◌≡◌, ℕ, ◌+◌, ◌^◌, ◌<◌, ◌≤◌, false, List, [], ◌∷◌, ◌++◌, length, sym, ap, ◌∙◌, subst, arith}
use Rattle.std.specs.List.{AllByRecursion}
use Rattle.faults.specs.Limits.{limit}
use Rattle.flat.specs.Refusals.{element_limit}
use Rattle.kinds.specs.Kinds.{Meaning, Laws, Lawful}
use Rattle.kinds.specs.Places as places
use Rattle.balance.specs.Trees.{Tree, elements, count, Balanced}
use Rattle.balance.specs.Lists.{extents}
use Rattle.balance.specs.Ways.{span}
use Rattle.balance.specs.Edits.{Parted, listed, tail, joined, parted, parted_rest, taken, cut}
use Rattle.balance.specs.Levels.{most}
use Rattle.balance.specs.Costs.{parted_cost, parted_rest_cost, joined_cost, taken_cost, cut_cost}
use Rattle.balance.proofs.Mirrors.{count_length}
use Rattle.balance.proofs.Edits.{Sound, parted_divides, parted_sound, parted_rest_sound, taken_elements, cut_elements}
use Rattle.balance.proofs.Costs.{taken_cost_lem, cut_cost_lem}
use Rattle.cells.specs.declared.cell.Cell.{Cell}
use Rattle.cells.specs.declared.pool.Pool.{Pool}
use Rattle.cells.specs.Cells.{shape, cell_count, tree}
use Rattle.cells.specs.Reach.{Among}
use Rattle.cells.specs.References.{Arena}
use Rattle.cells.specs.Moves.{Moved, Moves, Releases}
use Rattle.cells.proofs.Names.{hit_same}
use Rattle.cells.proofs.Staying.{occurs_append, tree_stays}
use Rattle.cells.proofs.Arenas.{rerooted}
use Rattle.cells.proofs.Moving.{moves_then, moves_more}
use Rattle.splits.specs.declared.split.Split.{Split}
use Rattle.splits.specs.Owning.{Owns}
use Rattle.splits.specs.Splitting.{behind, loose_roots, Grows, Splits}
use Rattle.edits.specs.Edits.{edit_takes, copy_takes, list, Makes, Cuts}
use Rattle.splits.proofs.Places.{same_taken, same_without, back_lawful, parted_extents, rest_extents}
use Rattle.splits.proofs.Merges.{behind_stays}
use Rattle.edits.proofs.Roots.{both_counts, owned_balanced, owned_lawful, owned_short, top_count, wide}

-- what copying or cutting a range out of the list of root is given
pub record Ranging {E A S : Type 0} (k : Meaning E A S) (a : List (Cell E S)) (p : Pool) (root : ℕ) : Type 0 where
  pub laws : Laws k
  pub owns : Owns k a p [] (root ∷ []) (2 ^ 16)
  pub few : length (list a root) ≤ element_limit

abbrev pub ranging : {E A S : Type 0} {k : Meaning E A S} {a : List (Cell E S)} {p : Pool} {root : ℕ} → Laws k → Owns k a p [] (root ∷ []) (2 ^ 16) → length (list a root) ≤ element_limit → Ranging k a p root
ranging laws owns few = record { laws = laws; owns = owns; few = few }

module _ {E A S : Type 0} {k : Meaning E A S} {a : List (Cell E S)} {p : Pool} {root : ℕ} (at : Ranging k a p root) (from len : ℕ) where
  abbrev T : Tree E
  T = tree a root

  -- taken apart where the range begins, and where it ends
  abbrev s : Parted E
  s = parted (shape k) T from

  abbrev z : Parted E
  z = parted_rest (shape k) s.rest len

  root_owned : Among at.owns.rest root
  root_owned = at.owns.kept root (let h = hit_same root in omega arith)

  T-balanced : Balanced T
  T-balanced = owned_balanced at.owns.arena root root_owned

  T-lawful : AllByRecursion (Lawful k) (elements T)
  T-lawful = owned_lawful at.owns.arena root root_owned

  T-few : count T ≤ element_limit
  T-few = omega (arith, at.few, count_length T)

  sound : Sound (count T) s.before s.rest
  sound = parted_sound (shape k) T from T-balanced

  end_sound : Sound (count (tail s.rest) + 1) z.before z.rest
  end_sound = parted_rest_sound (shape k) s.rest len sound.rest_balanced

  short : span (shape k) s.before + extents (shape k) (listed s.rest) ≤ limit
  short = omega (arith, parted_extents k at.laws T from T-lawful, owned_short at.owns.arena root root_owned, wide k a root)

  end_short : extents (shape k) (listed z.rest) ≤ extents (shape k) (listed s.rest)
  end_short =
      let lawful = subst (AllByRecursion (Lawful k)) (sym (parted_divides (shape k) T from).aft) (back_lawful k at.laws from (elements T) T-lawful) in
      omega (arith, rest_extents k at.laws s.rest len lawful)

  copy_costs : parted_cost (shape k) T from + parted_rest_cost (shape k) s.rest len ≤ copy_takes
  unfolding taken_cost
  copy_costs = taken_cost_lem (shape k) T from len T-balanced (omega (arith, T-few))

  cut_costs : parted_cost (shape k) T from + parted_rest_cost (shape k) s.rest len + joined_cost s.before z.rest ≤ edit_takes
  unfolding cut_cost taken_cost
  cut_costs = cut_cost_lem (shape k) T from len T-balanced (omega (arith, T-few))

  pub first_owns : Owns k a p [] (root ∷ []) (2 ^ 20)
  first_owns = record { rest = at.owns.rest; arena = at.owns.arena; kept = at.owns.kept; few = omega (arith, at.owns.few) }

  pub first_few : count T ≤ most
  first_few = omega (arith, T-few)

  pub first_some : copy_takes ≤ p.free → parted_cost (shape k) T from ≤ p.free
  first_some some = omega (arith, copy_costs)

  module _ {b : List (Cell E S)} {q : Pool} {first : Split E S} (one : Splits k a p [] b q first s (parted_cost (shape k) T from)) where
    abbrev loose : List ℕ
    loose = loose_roots first.loose

    moved_b : Moved k a p at.owns.rest b q (first.before ∷ loose) (parted_cost (shape k) T from)
    moved_b = one.each at.owns.rest at.owns.arena

    -- ---- copying: what lies before is given back

    pub before_arena : Arena k b q (first.before ∷ (loose ++ at.owns.rest))
    before_arena = moved_b.arena

    pub before_few : cell_count b first.before ≤ most
    before_few = omega (
      arith,
      top_count before_arena,
      count_length (tree b first.before),
      ap count one.before_is,
      sound.before_few,
      T-few,
    )

    module _ (c : List (Cell E S)) (o : Pool) (two : (rs : List ℕ) → Arena k b q (first.before ∷ rs) → Releases k b q rs c o) where
      moved_c : Moved k b q (loose ++ at.owns.rest) c o [] 0
      moved_c = (two (loose ++ at.owns.rest) before_arena).moved

      behind_c : behind c first.loose ≡ s.rest
      behind_c = behind_stays b c first.loose (λ i h. moved_c.stay i (omega (arith, occurs_append loose at.owns.rest i))) ∙ one.rest_is

      pub second_owns : Owns k c o loose [] (2 ^ 19)
      second_owns = record { rest = at.owns.rest; arena = moved_c.arena; kept = λ i h. absurd (omega (arith, h)); few = omega (arith, at.owns.few) }

      pub second_few : count (tail (behind c first.loose)) < most
      second_few = omega (arith, ap (λ r. count (tail r)) behind_c, sound.rest_few, T-few)

      pub second_short : extents (shape k) (listed (behind c first.loose)) ≤ limit
      second_short = omega (arith, ap (λ r. extents (shape k) (listed r)) behind_c, short)

      cost_c : parted_rest_cost (shape k) (behind c first.loose) len ≡ parted_rest_cost (shape k) s.rest len
      cost_c = ap (λ r. parted_rest_cost (shape k) r len) behind_c

      pub second_some : copy_takes ≤ p.free → parted_rest_cost (shape k) (behind c first.loose) len ≤ o.free
      second_some some = omega (arith, cost_c, copy_costs, moved_b.free, moved_c.free)

      module _ {d : List (Cell E S)} {w : Pool} {second : Split E S}
          (three : Splits k c o loose d w second (parted_rest (shape k) (behind c first.loose) len) (parted_rest_cost (shape k) (behind c first.loose) len)) where
        abbrev last : List ℕ
        last = loose_roots second.loose

        moves_d : Moves k a p [] d w (second.before ∷ last) (parted_cost (shape k) T from + 0 + parted_rest_cost (shape k) (behind c first.loose) len)
        moves_d =
            let m : ℕ = parted_cost (shape k) T from in
            moves_then k a p [] c o loose (m + 0)
            (moves_then k a p [] b q (first.before ∷ loose) m one.each (first.before ∷ []) loose (λ i. omega arith)
            c o [] 0 (λ rs ar. (two rs ar).moved) loose (λ i. omega arith))
            loose [] (λ i. omega arith) d w (second.before ∷ last) (parted_rest_cost (shape k) (behind c first.loose) len) three.each (second.before ∷ last) (λ i. omega arith)

        arena_d : Arena k d w (last ++ (second.before ∷ at.owns.rest))
        arena_d = rerooted k d w (second.before ∷ (last ++ at.owns.rest)) (moves_d at.owns.rest at.owns.arena).arena (last ++ (second.before ∷ at.owns.rest))
            (λ i h. omega (arith, occurs_append last at.owns.rest i, occurs_append last (second.before ∷ at.owns.rest) i))

        pub last_owns : Owns k d w last [] (2 ^ 20)
        last_owns = record { rest = second.before ∷ at.owns.rest; arena = arena_d; kept = λ i h. absurd (omega (arith, h)); few = omega (arith, at.owns.few) }

        pub last_few : count (tail (behind d second.loose)) ≤ most
        last_few = omega (
          arith,
          ap (λ r. count (tail r)) (three.rest_is ∙ ap (λ r. (parted_rest (shape k) r len).rest) behind_c),
          end_sound.rest_few,
          sound.rest_few,
          T-few,
        )

        module _ (e : List (Cell E S)) (v : Pool) (four : Moves k d w last e v [] 0) where
          tree_e : tree e second.before ≡ taken (shape k) T from len
          unfolding taken
          tree_e =
              sym (tree_stays d e second.before ((four (second.before ∷ at.owns.rest) arena_d).stay second.before (let h = hit_same second.before in omega arith)))
              ∙ three.before_is ∙ ap (λ r. (parted_rest (shape k) r len).before) behind_c

          pub copies : Makes k a p e v second.before (places.taken k from len (list a root)) copy_takes
          copies = record {
            each = moves_more k a p [] e v (second.before ∷ []) _ copy_takes (omega (arith, cost_c, copy_costs))
                (moves_then k a p [] d w (second.before ∷ last) _ moves_d last (second.before ∷ []) (λ i. omega arith) e v [] 0 four (second.before ∷ []) (λ i. omega arith));
            listed = ap elements tree_e ∙ taken_elements (shape k) T from len ∙ same_taken k from len (elements T);
          }

    -- ---- cutting: what lies before stands by

    arena_b : Arena k b q (loose ++ (first.before ∷ at.owns.rest))
    arena_b = rerooted k b q (first.before ∷ (loose ++ at.owns.rest)) moved_b.arena (loose ++ (first.before ∷ at.owns.rest))
        (λ i h. omega (arith, occurs_append loose at.owns.rest i, occurs_append loose (first.before ∷ at.owns.rest) i))

    pub rest_owns : Owns k b q loose [] (2 ^ 19)
    rest_owns = record { rest = first.before ∷ at.owns.rest; arena = arena_b; kept = λ i h. absurd (omega (arith, h)); few = omega (arith, at.owns.few) }

    pub rest_few : count (tail (behind b first.loose)) < most
    rest_few = omega (arith, ap (λ r. count (tail r)) one.rest_is, sound.rest_few, T-few)

    pub rest_short : extents (shape k) (listed (behind b first.loose)) ≤ limit
    rest_short = omega (arith, ap (λ r. extents (shape k) (listed r)) one.rest_is, short)

    cost_b : parted_rest_cost (shape k) (behind b first.loose) len ≡ parted_rest_cost (shape k) s.rest len
    cost_b = ap (λ r. parted_rest_cost (shape k) r len) one.rest_is

    pub rest_some : copy_takes ≤ p.free → parted_rest_cost (shape k) (behind b first.loose) len ≤ q.free
    rest_some some = omega (arith, cost_b, copy_costs, moved_b.free)

    module _ {c : List (Cell E S)} {o : Pool} {second : Split E S}
        (two : Splits k b q loose c o second (parted_rest (shape k) (behind b first.loose) len) (parted_rest_cost (shape k) (behind b first.loose) len)) where
      abbrev end : List ℕ
      end = loose_roots second.loose

      moved_end : Moved k b q (first.before ∷ at.owns.rest) c o (second.before ∷ end) (parted_rest_cost (shape k) (behind b first.loose) len)
      moved_end = two.each (first.before ∷ at.owns.rest) arena_b

      before_c : tree c first.before ≡ s.before
      before_c = sym (tree_stays b c first.before (moved_end.stay first.before (let h = hit_same first.before in omega arith))) ∙ one.before_is

      end_c : behind c second.loose ≡ z.rest
      end_c = two.rest_is ∙ ap (λ r. (parted_rest (shape k) r len).rest) one.rest_is

      arena_c : Arena k c o (first.before ∷ (end ++ (second.before ∷ at.owns.rest)))
      arena_c = rerooted k c o (second.before ∷ (end ++ (first.before ∷ at.owns.rest))) moved_end.arena (first.before ∷ (end ++ (second.before ∷ at.owns.rest)))
          (λ i h. omega (arith, occurs_append end (first.before ∷ at.owns.rest) i, occurs_append end (second.before ∷ at.owns.rest) i))

      pub join_owns : Owns k c o (first.before ∷ end) [] (2 ^ 20)
      join_owns = record { rest = second.before ∷ at.owns.rest; arena = arena_c; kept = λ i h. absurd (omega (arith, h)); few = omega (arith, at.owns.few) }

      pub join_few : count (tree c first.before) + count (tail (behind c second.loose)) < most
      join_few = omega (arith, ap count before_c, ap (λ r. count (tail r)) end_c, end_sound.rest_few, both_counts (shape k) T from, T-few)

      pub join_short : span (shape k) (tree c first.before) + extents (shape k) (listed (behind c second.loose)) ≤ limit
      join_short = omega (arith, ap (span (shape k)) before_c, ap (λ r. extents (shape k) (listed r)) end_c, end_short, short)

      joined_is : joined_cost (tree c first.before) (behind c second.loose) ≡ joined_cost s.before z.rest
      joined_is = ap (λ t. joined_cost t (behind c second.loose)) before_c ∙ ap (joined_cost s.before) end_c

      pub join_some : edit_takes ≤ p.free → joined_cost (tree c first.before) (behind c second.loose) ≤ o.free
      join_some some = omega (arith, cost_b, joined_is, cut_costs, moved_b.free, moved_end.free)

      module _ {d : List (Cell E S)} {w : Pool} {left : ℕ}
          (three : Grows k false c o (first.before ∷ end) d w left (joined (tree c first.before) (behind c second.loose)) (joined_cost (tree c first.before) (behind c second.loose))) where
        moves_c : Moves k a p [] c o (first.before ∷ second.before ∷ end) (parted_cost (shape k) T from + parted_rest_cost (shape k) (behind b first.loose) len)
        moves_c = moves_then k a p [] b q (first.before ∷ loose) (parted_cost (shape k) T from) one.each loose (first.before ∷ []) (λ i. omega arith)
            c o (second.before ∷ end) (parted_rest_cost (shape k) (behind b first.loose) len) two.each (first.before ∷ second.before ∷ end) (λ i. omega arith)

        left_d : tree d left ≡ cut (shape k) T from len
        unfolding cut
        left_d = three.tree_is ∙ ap (λ t. joined t (behind c second.loose)) before_c ∙ ap (joined s.before) end_c

        range_d : tree d second.before ≡ taken (shape k) T from len
        unfolding taken
        range_d =
            sym (tree_stays c d second.before ((three.each (second.before ∷ at.owns.rest) arena_c).stay second.before (let h = hit_same second.before in omega arith)))
            ∙ two.before_is ∙ ap (λ r. (parted_rest (shape k) r len).before) one.rest_is

        pub cuts : Cuts k a p d w (record { left = left; taken = second.before }) (list a root) from len edit_takes
        cuts = record {
          each = moves_more k a p [] d w (left ∷ second.before ∷ []) _ edit_takes (omega (arith, cost_b, joined_is, cut_costs))
              (moves_then k a p [] c o (first.before ∷ second.before ∷ end) _ moves_c (first.before ∷ end) (second.before ∷ []) (λ i. omega arith)
              d w (left ∷ []) (joined_cost (tree c first.before) (behind c second.loose)) three.each (left ∷ second.before ∷ []) (λ i. omega arith));
          left = ap elements left_d ∙ cut_elements (shape k) T from len ∙ same_without k from len (elements T);
          range = ap elements range_d ∙ taken_elements (shape k) T from len ∙ same_taken k from len (elements T);
        }
