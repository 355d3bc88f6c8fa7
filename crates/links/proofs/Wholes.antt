-- Linking, from whichever side.
use Rattle.std.proofs.Common.{◌≡◌, ℕ, ◌+◌, ◌*◌, ◌^◌, ◌<◌, ◌≤◌, Bool, true, false, ltb, List, [], ◌∷◌, ◌++◌, length, sym, ap, ◌∙◌, subst, arith}
use Rattle.kinds.specs.Kinds.{Meaning}
use Rattle.balance.specs.Trees.{Tree, node, count, weight, elements, mirror, Δ}
use Rattle.balance.specs.Links.{hung, spine, link}
use Rattle.balance.specs.Costs.{passes, link_cost}
use Rattle.balance.proofs.Tests.{tests}
use Rattle.balance.proofs.Mirrors.{mirror_mirror, mirror_count, mirror_span}
use Rattle.balance.proofs.Links.{weighed_right, weighed_left, weighed_even, link_elements}
use Rattle.cells.specs.declared.cell.Cell.{Cell}
use Rattle.cells.specs.declared.item.Item.{Item}
use Rattle.cells.specs.declared.pool.Pool.{Pool}
use Rattle.cells.specs.Cells.{shape, cell_count, tree}
use Rattle.cells.specs.References.{Arena, Holds}
use Rattle.cells.specs.Moves.{Fits, Yields, Makes}
use Rattle.cells.proofs.Names.{hit_same}
use Rattle.cells.proofs.Arenas.{rerooted}
use Rattle.links.specs.Opened.{Whole}
use Rattle.links.specs.Sitting.{Linkable}
use Rattle.links.proofs.Turns.{owned_count}
use Rattle.links.proofs.Hangs.{right_cost}

link_right : {E : Type 0} (l : Tree E) (e : E) (r : Tree E) → Δ * weight l < weight r → link l e r ≡ hung l e r
unfolding link
link_right l e r heavy = weighed_right (weight l) (weight r) _ _ _ heavy

link_left : {E : Type 0} (l : Tree E) (e : E) (r : Tree E) → Δ * weight r < weight l → link l e r ≡ mirror (hung (mirror r) e (mirror l))
unfolding link
link_left l e r heavy = weighed_left (weight l) (weight r) _ _ _ heavy

link_even : {E : Type 0} (l : Tree E) (e : E) (r : Tree E) → weight r ≤ Δ * weight l → weight l ≤ Δ * weight r → link l e r ≡ node l e r
unfolding link
link_even l e r right left = weighed_even (weight l) (weight r) _ _ _ right left

left_cost : {E : Type 0} (l r : Tree E) → Δ * weight r < weight l → link_cost l r ≡ 3 * length (spine (mirror r) (mirror l)) + 1
unfolding link_cost passes
left_cost l r heavy = ap (λ n. 3 * n + 1) (weighed_left (weight l) (weight r) _ _ _ heavy)

even_cost : {E : Type 0} (l r : Tree E) → weight r ≤ Δ * weight l → weight l ≤ Δ * weight r → link_cost l r ≡ 1
unfolding link_cost passes
even_cost l r right left = ap (λ n. 3 * n + 1) (weighed_even (weight l) (weight r) (length (spine l r)) (length (spine (mirror r) (mirror l))) 0 right left)

-- what a call of link ensures
pub record Linked {E A S : Type 0} (k : Meaning E A S) (a : List (Cell E S)) (p : Pool) (x : ℕ) (e : E) (y : ℕ) (b : List (Cell E S)) (q : Pool) (r : ℕ) : Type 0 where
  pub yields : Makes k false a p (x ∷ y ∷ []) b q r (link (tree a x) e (tree a y)) (link_cost (tree a x) (tree a y))
  pub order : elements (tree b r) ≡ elements (tree a x) ++ (e ∷ elements (tree a y))

module _ {E A S : Type 0} {k : Meaning E A S} {a : List (Cell E S)} {p : Pool} {x y : ℕ} (item : Item E S) (holds : Holds k a p (x ∷ y ∷ []) (2 ^ 24))
    (linkable : Linkable k (tree a x) item.element (tree a y)) where
  abbrev L : Tree E
  L = tree a x

  abbrev R : Tree E
  R = tree a y

  abbrev e : E
  e = item.element

  x_counts : count L ≡ cell_count a x
  x_counts = owned_count k false a p (x ∷ y ∷ holds.rest) holds.arena x (let h = hit_same x in omega arith)

  y_counts : count R ≡ cell_count a y
  y_counts = owned_count k false a p (x ∷ y ∷ holds.rest) holds.arena y (let h = hit_same y in omega arith)

  pub x_fits : cell_count a x + 1 < 2 ^ 32
  x_fits = omega (arith, x_counts, linkable.few)

  pub y_fits : cell_count a y + 1 < 2 ^ 32
  y_fits = omega (arith, y_counts, linkable.few)

  turned : (rs : List ℕ) → Arena k a p (x ∷ y ∷ rs) → Arena k a p (y ∷ x ∷ rs)
  turned rs arena = rerooted k a p (x ∷ y ∷ rs) arena (y ∷ x ∷ rs) (λ i h. omega arith)

  pub holds_turned : Holds k a p (y ∷ x ∷ []) (2 ^ 24)
  holds_turned = record { rest = holds.rest; arena = turned holds.rest holds.arena; few = holds.few }

  pub linkable_turned : Linkable k (mirror R) e (mirror L)
  linkable_turned = record {
    few = omega (arith, linkable.few, mirror_count L, mirror_count R);
    short = omega (arith, linkable.short, mirror_span (shape k) L, mirror_span (shape k) R);
  }

  module _ {b : List (Cell E S)} {q : Pool} {r : ℕ} where
    linked : (Makes k false a p (x ∷ y ∷ []) b q r (link L e R) (link_cost L R)) → Linked k a p x e y b q r
    linked yields = record { yields = yields; order = ap elements (yields holds.rest holds.arena).tree_is ∙ link_elements L e R }

    linked_by : (t : Tree E) (n : ℕ) → t ≡ link L e R → n ≡ link_cost L R → (Makes k false a p (x ∷ y ∷ []) b q r t n) → Linked k a p x e y b q r
    linked_by t n t_is n_is yields = linked (λ rs ar. subst (Yields k false a p rs b q r (link L e R)) n_is (subst (λ u. Yields k false a p rs b q r u n) t_is (yields rs ar)))

  -- the two tests that the code makes
  module _ {before behind : ℕ} (before_is : before ≡ cell_count a x) (behind_is : behind ≡ cell_count a y) where
    module _ {too : Bool} (test : too ≡ ltb (Δ * (before + 1)) (behind + 1)) where
      right_heavy : too ≡ true → Δ * weight L < weight R
      right_heavy t = let f : ltb (Δ * (before + 1)) (behind + 1) ≡ true = sym test ∙ t in omega (tests, x_counts, y_counts)

      right_light : too ≡ false → weight R ≤ Δ * weight L
      right_light t = let f : ltb (Δ * (before + 1)) (behind + 1) ≡ false = sym test ∙ t in omega (tests, x_counts, y_counts)

      pub right_heavy_is : too ≡ true → Δ * weight L < weight R
      right_heavy_is t = right_heavy t

      pub right_some : too ≡ true → link_cost L R ≤ p.free → 3 * length (spine L R) + 1 ≤ p.free
      right_some t some = omega (arith, right_cost L R (right_heavy t))

      pub linked_right : too ≡ true → {b : List (Cell E S)} {q : Pool} {r : ℕ}
          → (Makes k false a p (x ∷ y ∷ []) b q r (hung L e R) (3 * length (spine L R) + 1)) → Linked k a p x e y b q r
      linked_right t yields = linked_by (hung L e R) (3 * length (spine L R) + 1) (sym (link_right L e R (right_heavy t))) (sym (right_cost L R (right_heavy t))) yields

      module _ {other : Bool} (second : other ≡ ltb (Δ * (behind + 1)) (before + 1)) where
        left_heavy : other ≡ true → Δ * weight R < weight L
        left_heavy t = let f : ltb (Δ * (behind + 1)) (before + 1) ≡ true = sym second ∙ t in omega (tests, x_counts, y_counts)

        left_light : other ≡ false → weight L ≤ Δ * weight R
        left_light t = let f : ltb (Δ * (behind + 1)) (before + 1) ≡ false = sym second ∙ t in omega (tests, x_counts, y_counts)

        pub left_heavy_is : other ≡ true → Δ * weight (mirror R) < weight (mirror L)
        left_heavy_is t = omega (arith, left_heavy t, mirror_count L, mirror_count R)

        pub left_some : other ≡ true → link_cost L R ≤ p.free → 3 * length (spine (mirror R) (mirror L)) + 1 ≤ p.free
        left_some t some = omega (arith, left_cost L R (left_heavy t))

        pub linked_left : other ≡ true → {b : List (Cell E S)} {q : Pool} {r : ℕ}
            → (Makes k true a p (y ∷ x ∷ []) b q r (hung (mirror R) e (mirror L)) (3 * length (spine (mirror R) (mirror L)) + 1)) → Linked k a p x e y b q r
        linked_left t {b} {r = r} yields =
            linked_by (mirror (hung (mirror R) e (mirror L))) (3 * length (spine (mirror R) (mirror L)) + 1) (sym (link_left L e R (left_heavy t))) (sym (left_cost L R (left_heavy t)))
            (λ rs ar. let w = yields rs (turned rs ar) in record { moved = w.moved; tree_is = sym (mirror_mirror (tree b r)) ∙ ap mirror w.tree_is })

        pub even_fits : too ≡ false → other ≡ false → Whole k item → Fits k L item R
        even_fits s t whole = record {
          lawful = whole.lawful;
          owns = whole.owns;
          left_light = left_light t;
          right_light = right_light s;
          few = omega (arith, linkable.few);
          short = linkable.short;
        }

        pub even_some : too ≡ false → other ≡ false → link_cost L R ≤ p.free → 0 < p.free
        even_some s t some = omega (arith, even_cost L R (right_light s) (left_light t))

        pub linked_even : too ≡ false → other ≡ false → {b : List (Cell E S)} {q : Pool} {r : ℕ}
            → (Makes k false a p (x ∷ y ∷ []) b q r (node L e R) 1) → Linked k a p x e y b q r
        linked_even s t yields = linked_by (node L e R) 1 (sym (link_even L e R (right_light s) (left_light t))) (sym (even_cost L R (right_light s) (left_light t))) yields
