-- Which rotation, and none where the trees are even.
use Rattle.std.proofs.Common.{◌≡◌, ℕ, ◌+◌, ◌*◌, ◌^◌, ◌<◌, ◌≤◌, Bool, true, false, ltb, List, [], ◌∷◌, length, sym, ap, ◌∙◌, subst, arith}
use Rattle.kinds.specs.Kinds.{Meaning}
use Rattle.balance.specs.Trees.{Tree, leaf, node, count, weight, Δ, Γ}
use Rattle.balance.specs.Links.{rotated, rotated_twice, rebalanced}
use Rattle.balance.specs.Levels.{most}
use Rattle.balance.proofs.Tests.{tests, by_test, test_true, test_false}
use Rattle.balance.proofs.Mirrors.{same_count}
use Rattle.balance.proofs.Links.{rebalanced_elements}
use Rattle.cells.specs.declared.cell.Cell.{Cell}
use Rattle.cells.specs.declared.item.Item.{Item}
use Rattle.cells.specs.declared.pool.Pool.{Pool}
use Rattle.cells.specs.Cells.{cell_count, seen}
use Rattle.cells.specs.Reach.{Among}
use Rattle.cells.specs.References.{Arena, Holds}
use Rattle.cells.specs.Moves.{Moves, Fits, Makes, Releases}
use Rattle.cells.proofs.Names.{hit_same}
use Rattle.cells.proofs.Arenas.{rooted, rerooted}
use Rattle.cells.proofs.Moving.{moves_none, moves_more, moves_then, seen_stays}
use Rattle.links.specs.declared.parts.Parts.{Parts}
use Rattle.links.specs.Opened.{Whole, Opens}
use Rattle.links.specs.Sitting.{Sits}
use Rattle.links.proofs.Sides.{seen_known}
use Rattle.links.proofs.Rotations.{sits_fits}
use Rattle.links.proofs.Twice.{opened_moves, seen_inside}

pub once_is : {E : Type 0} (a : Tree E) (y : E) (b : Tree E) (e : E) (r : Tree E) → ltb (weight b) (Γ * weight a) ≡ true → rotated (node a y b) e r ≡ node a y (node b e r)
unfolding rotated
once_is a y b e r t = test_true (ltb (weight b) (Γ * weight a)) _ _ t

pub twice_is : {E : Type 0} (a : Tree E) (y : E) (b : Tree E) (e : E) (r : Tree E) → ltb (weight b) (Γ * weight a) ≡ false → rotated (node a y b) e r ≡ rotated_twice a y b e r
unfolding rotated
twice_is a y b e r t = test_false (ltb (weight b) (Γ * weight a)) _ _ t

heavy_is : {E : Type 0} (l : Tree E) (e : E) (r : Tree E) → ltb (Δ * weight r) (weight l) ≡ true → rebalanced l e r ≡ rotated l e r
unfolding rebalanced
heavy_is l e r t = test_true (ltb (Δ * weight r) (weight l)) _ _ t

even_is : {E : Type 0} (l : Tree E) (e : E) (r : Tree E) → ltb (Δ * weight r) (weight l) ≡ false → rebalanced l e r ≡ node l e r
unfolding rebalanced
even_is l e r t = test_false (ltb (Δ * weight r) (weight l)) _ _ t

twice_count : {E : Type 0} (a : Tree E) (y : E) (b : Tree E) (e : E) (r : Tree E) → count (rotated_twice a y b e r) ≡ count a + count b + count r + 2
unfolding rotated_twice
twice_count a y leaf e r = omega arith
twice_count a y (node c z d) e r = omega arith

rotated_count : {E : Type 0} (a : Tree E) (y : E) (b : Tree E) (e : E) (r : Tree E) → count (rotated (node a y b) e r) ≡ count a + count b + count r + 2
unfolding rotated
rotated_count a y b e r =
    by_test (λ t. count t ≡ count a + count b + count r + 2) (ltb (weight b) (Γ * weight a)) (node a y (node b e r)) (rotated_twice a y b e r)
    (λ once. omega arith) (λ twice. twice_count a y b e r)

-- an owned link's count is that of its tree, as seen
pub owned_count : {E A S : Type 0} (k : Meaning E A S) (flip : Bool) (a : List (Cell E S)) (p : Pool) (rs : List ℕ) → Arena k a p rs → (i : ℕ) → Among rs i → count (seen flip a i) ≡ cell_count a i
owned_count k flip a p rs arena i among = seen_known k flip a arena.sound i (rooted k a p rs arena i among)

module _ {E A S : Type 0} {k : Meaning E A S} (flip : Bool) {a : List (Cell E S)} {p : Pool} {x y z : ℕ} (top item : Item E S)
    (holds : Holds k a p (x ∷ y ∷ z ∷ []) (2 ^ 28)) (sits : Sits k (rotated (node (seen flip a x) top.element (seen flip a y)) item.element (seen flip a z))) where
  abbrev X : Tree E
  X = seen flip a x

  abbrev Y : Tree E
  Y = seen flip a y

  abbrev Z : Tree E
  Z = seen flip a z

  x_counts : count X ≡ cell_count a x
  x_counts = owned_count k flip a p (x ∷ y ∷ z ∷ holds.rest) holds.arena x (let h = hit_same x in omega arith)

  y_counts : count Y ≡ cell_count a y
  y_counts = owned_count k flip a p (x ∷ y ∷ z ∷ holds.rest) holds.arena y (let h = hit_same y in omega arith)

  pub x_fits : cell_count a x + 1 < 2 ^ 32
  x_fits = omega (arith, x_counts, rotated_count X top.element Y item.element Z, sits.few)

  pub y_fits : cell_count a y + 1 < 2 ^ 32
  y_fits = omega (arith, y_counts, rotated_count X top.element Y item.element Z, sits.few)

  -- the test that the code makes
  module _ {inner outer : ℕ} (inner_is : inner ≡ cell_count a y) (outer_is : outer ≡ cell_count a x) {once : Bool} (test : once ≡ ltb (inner + 1) (Γ * (outer + 1))) where
    on_weights : once ≡ ltb (weight Y) (Γ * weight X)
    on_weights =
        let i : inner + 1 ≡ weight Y = omega (arith, y_counts) in
        let o : outer + 1 ≡ weight X = omega (arith, x_counts) in
        test ∙ ap (λ n. ltb n (Γ * (outer + 1))) i ∙ ap (λ n. ltb (weight Y) (Γ * n)) o

    once_same : once ≡ true → rotated (node X top.element Y) item.element Z ≡ node X top.element (node Y item.element Z)
    once_same t = once_is X top.element Y item.element Z (sym on_weights ∙ t)

    twice_same : once ≡ false → rotated (node X top.element Y) item.element Z ≡ rotated_twice X top.element Y item.element Z
    twice_same t = twice_is X top.element Y item.element Z (sym on_weights ∙ t)

    pub sits_once : once ≡ true → Sits k (node X top.element (node Y item.element Z))
    sits_once t = subst (Sits k) (once_same t) sits

    pub sits_twice : once ≡ false → Sits k (rotated_twice X top.element Y item.element Z)
    sits_twice t = subst (Sits k) (twice_same t) sits

    pub inner_heavy : once ≡ false → 1 < weight Y
    inner_heavy t = let f : ltb (weight Y) (Γ * weight X) ≡ false = sym on_weights ∙ t in omega tests

    module _ {b : List (Cell E S)} {q : Pool} {r : ℕ} where
      pub yields_once : once ≡ true → (Makes k flip a p (x ∷ y ∷ z ∷ []) b q r (node X top.element (node Y item.element Z)) 2)
          → Makes k flip a p (x ∷ y ∷ z ∷ []) b q r (rotated (node X top.element Y) item.element Z) 3
      yields_once t yields rs arena =
          let w = yields rs arena in
          record { moved = moves_more k a p (x ∷ y ∷ z ∷ []) b q (r ∷ []) 2 3 (omega arith) (λ rs ar. (yields rs ar).moved) rs arena; tree_is = w.tree_is ∙ sym (once_same t) }

      pub yields_twice : once ≡ false → (Makes k flip a p (x ∷ y ∷ z ∷ []) b q r (rotated_twice X top.element Y item.element Z) 3)
          → Makes k flip a p (x ∷ y ∷ z ∷ []) b q r (rotated (node X top.element Y) item.element Z) 3
      yields_twice t yields rs arena = let w = yields rs arena in record { moved = w.moved; tree_is = w.tree_is ∙ sym (twice_same t) }

-- ---- rebalancing

module _ {E A S : Type 0} {k : Meaning E A S} (flip : Bool) {a : List (Cell E S)} {p : Pool} {x z : ℕ} (item : Item E S)
    (holds : Holds k a p (x ∷ z ∷ []) (2 ^ 27)) (sits : Sits k (rebalanced (seen flip a x) item.element (seen flip a z))) where
  abbrev L : Tree E
  L = seen flip a x

  abbrev R : Tree E
  R = seen flip a z

  l_counts : count L ≡ cell_count a x
  l_counts = owned_count k flip a p (x ∷ z ∷ holds.rest) holds.arena x (let h = hit_same x in omega arith)

  r_counts : count R ≡ cell_count a z
  r_counts = owned_count k flip a p (x ∷ z ∷ holds.rest) holds.arena z (let h = hit_same z in omega arith)

  all_count : count L + count R + 1 ≤ most
  all_count = omega (arith, sits.few, same_count (rebalanced L item.element R) (node L item.element R) (rebalanced_elements L item.element R))

  pub left_fits : cell_count a x + 1 < 2 ^ 32
  left_fits = omega (arith, l_counts, all_count)

  pub right_fits : cell_count a z + 1 < 2 ^ 32
  right_fits = omega (arith, r_counts, all_count)

  pub heavy_holds : Holds k a p (x ∷ []) (2 ^ 29)
  heavy_holds = record { rest = z ∷ holds.rest; arena = holds.arena; few = omega (arith, holds.few) }

  module _ {heavy light : ℕ} (heavy_of : heavy ≡ cell_count a x) (light_of : light ≡ cell_count a z) {too : Bool} (test : too ≡ ltb (Δ * (light + 1)) (heavy + 1)) where
    weighs : too ≡ ltb (Δ * weight R) (weight L)
    weighs =
        let h : heavy + 1 ≡ weight L = omega (arith, l_counts) in
        let l : light + 1 ≡ weight R = omega (arith, r_counts) in
        test ∙ ap (λ n. ltb (Δ * n) (heavy + 1)) l ∙ ap (λ n. ltb (Δ * weight R) n) h

    even_same : too ≡ false → rebalanced L item.element R ≡ node L item.element R
    even_same t = even_is L item.element R (sym weighs ∙ t)

    heavy_same : too ≡ true → rebalanced L item.element R ≡ rotated L item.element R
    heavy_same t = heavy_is L item.element R (sym weighs ∙ t)

    pub even_fits : too ≡ false → Whole k item → Fits k L item R
    even_fits t whole = sits_fits k L item R (subst (Sits k) (even_same t) sits) whole

    pub yields_even : too ≡ false → {b : List (Cell E S)} {q : Pool} {r : ℕ} → (Makes k flip a p (x ∷ z ∷ []) b q r (node L item.element R) 1)
        → Makes k flip a p (x ∷ z ∷ []) b q r (rebalanced L item.element R) 3
    yields_even t {b} {q} {r} yields rs arena =
        record { moved = moves_more k a p (x ∷ z ∷ []) b q (r ∷ []) 1 3 (omega arith) (λ rs ar. (yields rs ar).moved) rs arena; tree_is = (yields rs arena).tree_is ∙ sym (even_same t) }

    pub heavy_inside : too ≡ true → x < length a
    heavy_inside t =
        let f : ltb (Δ * weight R) (weight L) ≡ true = sym weighs ∙ t in
        seen_inside k flip a holds.arena.sound x (rooted k a p (x ∷ z ∷ holds.rest) holds.arena x (let h = hit_same x in omega arith)) (omega tests)

    module _ (t : too ≡ true) {b : List (Cell E S)} {parts : Parts E S} (opens : Opens k flip a x b parts) where
      open_move : Moves k a p (x ∷ z ∷ []) b p (x ∷ z ∷ parts.near ∷ parts.far ∷ []) (0 + 0)
      open_move = moves_then k a p (x ∷ z ∷ []) a p (x ∷ z ∷ []) 0 (moves_none k a p (x ∷ z ∷ [])) (x ∷ []) (z ∷ []) (λ i. omega arith)
          b p (x ∷ parts.near ∷ parts.far ∷ []) 0 (opened_moves k flip a p x b parts opens) (x ∷ z ∷ parts.near ∷ parts.far ∷ []) (λ i. omega arith)

      open_arena : Arena k b p (parts.near ∷ parts.far ∷ z ∷ (x ∷ holds.rest))
      open_arena = rerooted k b p (x ∷ z ∷ parts.near ∷ parts.far ∷ holds.rest) (open_move holds.rest holds.arena).arena (parts.near ∷ parts.far ∷ z ∷ (x ∷ holds.rest)) (λ i h. omega arith)

      pub parts_hold : Holds k b p (parts.near ∷ parts.far ∷ z ∷ []) (2 ^ 28)
      parts_hold = record { rest = x ∷ holds.rest; arena = open_arena; few = omega (arith, holds.few) }

      open_stay : (i : ℕ) → Among (x ∷ z ∷ []) i → seen flip b i ≡ seen flip a i
      open_stay i among = seen_stays flip a b i ((opens.each p (z ∷ holds.rest) holds.arena).stay i (omega arith))

      abbrev P : Tree E
      P = node (seen flip b parts.near) parts.item.element (seen flip b parts.far)

      turned_is : rebalanced L item.element R ≡ rotated P item.element (seen flip b z)
      turned_is = heavy_same t ∙ ap (λ u. rotated u item.element R) opens.tree_is ∙ ap (rotated P item.element) (sym (open_stay z (let h = hit_same z in omega arith)))

      pub turned_sits : Sits k (rotated P item.element (seen flip b z))
      turned_sits = subst (Sits k) turned_is sits

      module _ {c : List (Cell E S)} {q : Pool} {r : ℕ}
          (turn : Makes k flip b p (parts.near ∷ parts.far ∷ z ∷ []) c q r (rotated P item.element (seen flip b z)) 3) where
        turn_move : Moves k a p (x ∷ z ∷ []) c q (r ∷ x ∷ []) (0 + 3)
        turn_move = moves_then k a p (x ∷ z ∷ []) b p (x ∷ z ∷ parts.near ∷ parts.far ∷ []) 0 open_move (parts.near ∷ parts.far ∷ z ∷ []) (x ∷ []) (λ i. omega arith)
            c q (r ∷ []) 3 (λ rs ar. (turn rs ar).moved) (r ∷ x ∷ []) (λ i. omega arith)

        pub turn_arena : Arena k c q (x ∷ (r ∷ holds.rest))
        turn_arena = rerooted k c q (r ∷ x ∷ holds.rest) (turn_move holds.rest holds.arena).arena (x ∷ (r ∷ holds.rest)) (λ i h. omega arith)

        pub turn_few : cell_count c x ≤ most
        turn_few =
            let n = owned_count k flip c q (x ∷ (r ∷ holds.rest)) turn_arena x (let h = hit_same x in omega arith) in
            let s = seen_stays flip b c x ((turn (x ∷ holds.rest) open_arena).moved.stay x (let h = hit_same x in omega arith)) in
            omega (arith, ap count s, ap count (open_stay x (let h = hit_same x in omega arith)), all_count)

        module _ {d : List (Cell E S)} {o : Pool} (drop : (rs : List ℕ) → Arena k c q (x ∷ rs) → Releases k c q rs d o) where
          pub yields_heavy : Makes k flip a p (x ∷ z ∷ []) d o r (rebalanced L item.element R) 3
          yields_heavy rs arena = record {
            moved = moves_then k a p (x ∷ z ∷ []) c q (r ∷ x ∷ []) 3 turn_move (x ∷ []) (r ∷ []) (λ i. omega arith) d o [] 0 (λ rs ar. (drop rs ar).moved) (r ∷ []) (λ i. omega arith) rs arena;
            tree_is = seen_stays flip c d r ((drop (r ∷ holds.rest) turn_arena).moved.stay r (let h = hit_same r in omega arith)) ∙ (turn (x ∷ holds.rest) open_arena).tree_is ∙ sym turned_is;
          }
