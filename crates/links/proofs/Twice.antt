-- A rotation by which a grandchild comes to stand on top.
use Rattle.std.proofs.Common.{◌≡◌, ℕ, ◌+◌, ◌^◌, ◌<◌, ◌≤◌, Bool, List, [], ◌∷◌, length, Some, None, Option, sym, refl, ap, ◌∙◌, subst, arith}
use Rattle.std.proofs.lemmas.Option.{slice_get_within}
use Rattle.std.specs.List.{slice_get}
use Rattle.kinds.specs.Kinds.{Meaning}
use Rattle.balance.specs.Trees.{Tree, node, count, weight}
use Rattle.balance.specs.Links.{rotated_twice}
use Rattle.balance.specs.Levels.{most}
use Rattle.cells.specs.declared.cell.Cell.{Cell}
use Rattle.cells.specs.declared.item.Item.{Item}
use Rattle.cells.specs.declared.pool.Pool.{Pool}
use Rattle.cells.specs.Cells.{counted, cell_count, seen, Live, Sound}
use Rattle.cells.specs.Reach.{Among}
use Rattle.cells.specs.References.{Arena, Holds}
use Rattle.cells.specs.Moves.{Moves, Fits, Makes, Releases}
use Rattle.cells.proofs.Names.{hit_same}
use Rattle.cells.proofs.Arenas.{rooted, rerooted}
use Rattle.cells.proofs.Moving.{moves_none, moves_then, seen_stays}
use Rattle.links.specs.declared.parts.Parts.{Parts}
use Rattle.links.specs.Opened.{Whole, Opens}
use Rattle.links.specs.Sitting.{Sits}
use Rattle.links.proofs.Sides.{seen_known}
use Rattle.links.proofs.Rotations.{sits_left, sits_right, sits_fits}

inside_at : {X : Type 0} (n : ℕ) (count_of : Option X → ℕ) → count_of None ≡ 0 → (a : List X) (i : ℕ) (o : Option X) → slice_get a i ≡ o → 0 < count_of o → i < length a
inside_at n count_of none a i None e h = absurd (omega arith)
inside_at n count_of none a i (Some c) e h = slice_get_within a i c e

-- what is not a leaf stands in a cell
pub seen_inside : {E A S : Type 0} (k : Meaning E A S) (flip : Bool) (a : List (Cell E S)) → Sound k a → (i : ℕ) → Live a i → 1 < weight (seen flip a i) → i < length a
seen_inside k flip a sound i live h = inside_at 0 counted refl a i (slice_get a i) refl (let c = seen_known k flip a sound i live in omega arith)

twice_is : {E : Type 0} (a : Tree E) (y : E) (b : Tree E) (c : Tree E) (z : E) (d : Tree E) (e : E) (r : Tree E) → b ≡ node c z d
    → rotated_twice a y b e r ≡ node (node a y c) z (node d e r)
unfolding rotated_twice
twice_is a y b c z d e r same = ap (λ t. rotated_twice a y t e r) same

-- an opened cell is still owned
pub opened_moves : {E A S : Type 0} (k : Meaning E A S) (flip : Bool) (a : List (Cell E S)) (p : Pool) (i : ℕ) (b : List (Cell E S)) (parts : Parts E S) → Opens k flip a i b parts
    → Moves k a p (i ∷ []) b p (i ∷ parts.near ∷ parts.far ∷ []) 0
opened_moves k flip a p i b parts opens rs arena =
    let m = opens.each p rs arena in
    record {
      arena = rerooted k b p (parts.near ∷ parts.far ∷ i ∷ rs) m.arena (i ∷ parts.near ∷ parts.far ∷ rs) (λ j h. omega arith);
      stay = λ r among. m.stay r (omega arith);
      takes = m.takes;
      free = m.free;
    }

module _ {E A S : Type 0} {k : Meaning E A S} (flip : Bool) {a : List (Cell E S)} {p : Pool} {x y z : ℕ} (top item : Item E S)
    (holds : Holds k a p (x ∷ y ∷ z ∷ []) (2 ^ 28)) where
  abbrev rest : List ℕ
  rest = holds.rest

  abbrev X : Tree E
  X = seen flip a x

  abbrev Y : Tree E
  Y = seen flip a y

  abbrev Z : Tree E
  Z = seen flip a z

  pub far_first : Arena k a p (y ∷ (x ∷ z ∷ rest))
  far_first = rerooted k a p (x ∷ y ∷ z ∷ rest) holds.arena (y ∷ (x ∷ z ∷ rest)) (λ i h. omega arith)

  pub far_holds : Holds k a p (y ∷ []) (2 ^ 29)
  far_holds = record { rest = x ∷ z ∷ rest; arena = far_first; few = omega (arith, holds.few) }

  far_live : Live a y
  far_live = rooted k a p (y ∷ (x ∷ z ∷ rest)) far_first y (let h = hit_same y in omega arith)

  pub far_inside : 1 < weight Y → y < length a
  far_inside h = seen_inside k flip a holds.arena.sound y far_live h

  module _ (sits : Sits k (rotated_twice X top.element Y item.element Z)) {b : List (Cell E S)} {inner : Parts E S} (opens : Opens k flip a y b inner) where
    abbrev C : Tree E
    C = seen flip b inner.near

    abbrev D : Tree E
    D = seen flip b inner.far

    result_is : rotated_twice X top.element Y item.element Z ≡ node (node X top.element C) inner.item.element (node D item.element Z)
    result_is = twice_is X top.element Y C inner.item.element D item.element Z opens.tree_is

    result_sits : Sits k (node (node X top.element C) inner.item.element (node D item.element Z))
    result_sits = subst (Sits k) result_is sits

    move_1 : Moves k a p (x ∷ y ∷ z ∷ []) b p (x ∷ y ∷ z ∷ inner.near ∷ inner.far ∷ []) (0 + 0)
    move_1 = moves_then k a p (x ∷ y ∷ z ∷ []) a p (x ∷ y ∷ z ∷ []) 0 (moves_none k a p (x ∷ y ∷ z ∷ [])) (y ∷ []) (x ∷ z ∷ []) (λ i. omega arith)
        b p (y ∷ inner.near ∷ inner.far ∷ []) 0 (opened_moves k flip a p y b inner opens) (x ∷ y ∷ z ∷ inner.near ∷ inner.far ∷ []) (λ i. omega arith)

    stay_1 : (i : ℕ) → Among (y ∷ x ∷ z ∷ []) i → seen flip b i ≡ seen flip a i
    stay_1 i among = seen_stays flip a b i ((opens.each p (x ∷ z ∷ rest) far_first).stay i (omega arith))

    pub arena_1 : Arena k b p (x ∷ inner.near ∷ (y ∷ z ∷ inner.far ∷ rest))
    arena_1 = rerooted k b p (x ∷ y ∷ z ∷ inner.near ∷ inner.far ∷ rest) (move_1 rest holds.arena).arena (x ∷ inner.near ∷ (y ∷ z ∷ inner.far ∷ rest)) (λ i h. omega arith)

    pub fits_1 : Whole k top → Fits k (seen flip b x) top C
    fits_1 w = subst (λ t. Fits k t top C) (sym (stay_1 x (let h = hit_same x in omega arith)))
        (sits_fits k X top C (sits_left k (node X top.element C) inner.item.element (node D item.element Z) result_sits) w)

    module _ {b2 : List (Cell E S)} {q2 : Pool} {l : ℕ}
        (one : Makes k flip b p (x ∷ inner.near ∷ []) b2 q2 l (node (seen flip b x) top.element C) 1) where
      move_2 : Moves k a p (x ∷ y ∷ z ∷ []) b2 q2 (l ∷ y ∷ z ∷ inner.far ∷ []) (0 + 1)
      move_2 = moves_then k a p (x ∷ y ∷ z ∷ []) b p (x ∷ y ∷ z ∷ inner.near ∷ inner.far ∷ []) 0 move_1 (x ∷ inner.near ∷ []) (y ∷ z ∷ inner.far ∷ []) (λ i. omega arith)
          b2 q2 (l ∷ []) 1 (λ rs ar. (one rs ar).moved) (l ∷ y ∷ z ∷ inner.far ∷ []) (λ i. omega arith)

      stay_2 : (i : ℕ) → Among (y ∷ z ∷ inner.far ∷ []) i → seen flip b2 i ≡ seen flip b i
      stay_2 i among = seen_stays flip b b2 i ((one (y ∷ z ∷ inner.far ∷ rest) arena_1).moved.stay i (omega arith))

      l_is : seen flip b2 l ≡ node X top.element C
      l_is = (one (y ∷ z ∷ inner.far ∷ rest) arena_1).tree_is ∙ ap (λ t. node t top.element C) (stay_1 x (let h = hit_same x in omega arith))

      pub arena_2 : Arena k b2 q2 (inner.far ∷ z ∷ (l ∷ y ∷ rest))
      arena_2 = rerooted k b2 q2 (l ∷ y ∷ z ∷ inner.far ∷ rest) (move_2 rest holds.arena).arena (inner.far ∷ z ∷ (l ∷ y ∷ rest)) (λ i h. omega arith)

      d_is : seen flip b2 inner.far ≡ D
      d_is = stay_2 inner.far (let h = hit_same inner.far in omega arith)

      z_is : seen flip b2 z ≡ Z
      z_is = stay_2 z (let h = hit_same z in omega arith) ∙ stay_1 z (let h = hit_same z in omega arith)

      pub fits_2 : Whole k item → Fits k (seen flip b2 inner.far) item (seen flip b2 z)
      fits_2 w = subst (λ t. Fits k t item (seen flip b2 z)) (sym d_is) (subst (λ t. Fits k D item t) (sym z_is)
          (sits_fits k D item Z (sits_right k (node X top.element C) inner.item.element (node D item.element Z) result_sits) w))

      module _ {b3 : List (Cell E S)} {q3 : Pool} {r : ℕ}
          (two : Makes k flip b2 q2 (inner.far ∷ z ∷ []) b3 q3 r (node (seen flip b2 inner.far) item.element (seen flip b2 z)) 1) where
        move_3 : Moves k a p (x ∷ y ∷ z ∷ []) b3 q3 (l ∷ r ∷ y ∷ []) (1 + 1)
        move_3 = moves_then k a p (x ∷ y ∷ z ∷ []) b2 q2 (l ∷ y ∷ z ∷ inner.far ∷ []) 1 move_2 (inner.far ∷ z ∷ []) (l ∷ y ∷ []) (λ i. omega arith)
            b3 q3 (r ∷ []) 1 (λ rs ar. (two rs ar).moved) (l ∷ r ∷ y ∷ []) (λ i. omega arith)

        stay_3 : (i : ℕ) → Among (l ∷ y ∷ []) i → seen flip b3 i ≡ seen flip b2 i
        stay_3 i among = seen_stays flip b2 b3 i ((two (l ∷ y ∷ rest) arena_2).moved.stay i (omega arith))

        r_is : seen flip b3 r ≡ node D item.element Z
        r_is = (two (l ∷ y ∷ rest) arena_2).tree_is ∙ ap (λ t. node t item.element (seen flip b2 z)) d_is ∙ ap (node D item.element) z_is

        l_still : seen flip b3 l ≡ node X top.element C
        l_still = stay_3 l (let h = hit_same l in omega arith) ∙ l_is

        pub arena_3 : Arena k b3 q3 (l ∷ r ∷ (y ∷ rest))
        arena_3 = (move_3 rest holds.arena).arena

        pub fits_3 : Fits k (seen flip b3 l) inner.item (seen flip b3 r)
        fits_3 = subst (λ t. Fits k t inner.item (seen flip b3 r)) (sym l_still) (subst (λ t. Fits k (node X top.element C) inner.item t) (sym r_is)
            (sits_fits k (node X top.element C) inner.item (node D item.element Z) result_sits opens.whole))

        module _ {b4 : List (Cell E S)} {q4 : Pool} {t : ℕ}
            (three : Makes k flip b3 q3 (l ∷ r ∷ []) b4 q4 t (node (seen flip b3 l) inner.item.element (seen flip b3 r)) 1) where
          move_4 : Moves k a p (x ∷ y ∷ z ∷ []) b4 q4 (t ∷ y ∷ []) (2 + 1)
          move_4 = moves_then k a p (x ∷ y ∷ z ∷ []) b3 q3 (l ∷ r ∷ y ∷ []) 2 move_3 (l ∷ r ∷ []) (y ∷ []) (λ i. omega arith)
              b4 q4 (t ∷ []) 1 (λ rs ar. (three rs ar).moved) (t ∷ y ∷ []) (λ i. omega arith)

          t_is : seen flip b4 t ≡ rotated_twice X top.element Y item.element Z
          t_is = (three (y ∷ rest) arena_3).tree_is ∙ ap (λ u. node u inner.item.element (seen flip b3 r)) l_still ∙ ap (node (node X top.element C) inner.item.element) r_is ∙ sym result_is

          pub arena_4 : Arena k b4 q4 (y ∷ (t ∷ rest))
          arena_4 = rerooted k b4 q4 (t ∷ y ∷ rest) (move_4 rest holds.arena).arena (y ∷ (t ∷ rest)) (λ i h. omega arith)

          y_is : seen flip b4 y ≡ Y
          y_is = seen_stays flip b3 b4 y ((three (y ∷ rest) arena_3).moved.stay y (let h = hit_same y in omega arith))
              ∙ stay_3 y (let h = hit_same y in omega arith) ∙ stay_2 y (let h = hit_same y in omega arith) ∙ stay_1 y (let h = hit_same y in omega arith)

          -- what was the far child is not larger than the result
          pub few_4 : cell_count b4 y ≤ most
          few_4 =
              let n = seen_known k flip b4 arena_4.sound y (rooted k b4 q4 (y ∷ (t ∷ rest)) arena_4 y (let h = hit_same y in omega arith)) in
              omega (arith, ap count y_is, ap count opens.tree_is, result_sits.few)

          module _ {b5 : List (Cell E S)} {q5 : Pool} (four : (rs : List ℕ) → Arena k b4 q4 (y ∷ rs) → Releases k b4 q4 rs b5 q5) where
            pub rotated_twice_lem : Makes k flip a p (x ∷ y ∷ z ∷ []) b5 q5 t (rotated_twice X top.element Y item.element Z) 3
            rotated_twice_lem rs ar = record {
              moved = moves_then k a p (x ∷ y ∷ z ∷ []) b4 q4 (t ∷ y ∷ []) 3 move_4 (y ∷ []) (t ∷ []) (λ i. omega arith)
                  b5 q5 [] 0 (λ rs ar. (four rs ar).moved) (t ∷ []) (λ i. omega arith) rs ar;
              tree_is = seen_stays flip b4 b5 t ((four (t ∷ rest) arena_4).moved.stay t (let h = hit_same t in omega arith)) ∙ t_is;
            }
