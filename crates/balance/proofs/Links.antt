-- Linking keeps order and balance.
use Rattle.std.proofs.Common.{◌≡◌, ℕ, ◌+◌, ◌*◌, ◌<◌, ◌≤◌, cond, ltb, ◌∷◌, ◌++◌, refl, ap, ◌∙◌, append_assoc, arith, le-ltb, lt-ltb}
use Rattle.balance.specs.Trees.{Tree, leaf, node, elements, count, weight, Balanced, mirror, Δ, Γ}
use Rattle.balance.specs.Links.{rotated_twice, rotated, rebalanced, hung, weighed, link}
use Rattle.balance.proofs.Tests.{tests, by_test, by_tests, either_order, cond_ap, test_true, test_false}
use Rattle.balance.proofs.Mirrors.{same_count, mirror_mirror, mirror_count, mirror_balanced, mirror_same}

-- ---- weighing

pub by_weight : {A : Type 0} (P : A → Type 0) (v w : ℕ) (right left even : A)
    → (Δ * v < w → P right) → (Δ * w < v → P left) → (w ≤ Δ * v → v ≤ Δ * w → P even) → P (weighed v w right left even)
unfolding weighed
by_weight P v w right left even on_right on_left on_even =
    by_tests P (ltb (Δ * v) w) (ltb (Δ * w) v) right left even
    (λ heavy. on_right (omega tests)) (λ light heavy. on_left (omega tests)) (λ light light'. on_even (omega tests) (omega tests))

-- seen from the other side
pub weighed_swap : {A : Type 0} (v w : ℕ) (right left even : A) → weighed v w right left even ≡ weighed w v left right even
unfolding weighed
weighed_swap v w right left even = either_order (ltb (Δ * v) w) (ltb (Δ * w) v) right left even (λ right_heavy left_heavy. omega tests)

weighed_ap : {A B : Type 0} (f : A → B) (v w : ℕ) (right left even : A) → f (weighed v w right left even) ≡ weighed v w (f right) (f left) (f even)
unfolding weighed
weighed_ap f v w right left even =
    cond_ap f (ltb (Δ * v) w) right _ ∙ ap (cond (ltb (Δ * v) w) (f right)) (cond_ap f (ltb (Δ * w) v) left even)

pub weighed_right : {A : Type 0} (v w : ℕ) (right left even : A) → Δ * v < w → weighed v w right left even ≡ right
unfolding weighed
weighed_right v w right left even heavy = test_true (ltb (Δ * v) w) _ _ (lt-ltb (Δ * v) w heavy)

pub weighed_left : {A : Type 0} (v w : ℕ) (right left even : A) → Δ * w < v → weighed v w right left even ≡ left
weighed_left v w right left even heavy = weighed_swap v w right left even ∙ weighed_right w v left right even heavy

pub weighed_even : {A : Type 0} (v w : ℕ) (right left even : A) → w ≤ Δ * v → v ≤ Δ * w → weighed v w right left even ≡ even
unfolding weighed
weighed_even v w right left even right_light left_light =
    test_false (ltb (Δ * v) w) _ _ (le-ltb (Δ * v) w right_light) ∙ test_false (ltb (Δ * w) v) _ _ (le-ltb (Δ * w) v left_light)

-- ---- order

rotated_twice_elements : {E : Type 0} (a : Tree E) (y : E) (b : Tree E) (e : E) (r : Tree E) → elements (rotated_twice a y b e r) ≡ elements (node (node a y b) e r)
unfolding rotated_twice
rotated_twice_elements a y leaf e r = simp append_assoc
rotated_twice_elements a y (node c z d) e r = simp append_assoc

rotated_elements : {E : Type 0} (l : Tree E) (e : E) (r : Tree E) → elements (rotated l e r) ≡ elements (node l e r)
unfolding rotated
rotated_elements leaf e r = refl
rotated_elements (node a y b) e r =
    by_test (λ t. elements t ≡ elements (node (node a y b) e r)) (ltb (weight b) (Γ * weight a)) (node a y (node b e r)) (rotated_twice a y b e r)
    (λ once. simp append_assoc)
    (λ twice. rotated_twice_elements a y b e r)

pub rebalanced_elements : {E : Type 0} (l : Tree E) (e : E) (r : Tree E) → elements (rebalanced l e r) ≡ elements (node l e r)
unfolding rebalanced
rebalanced_elements l e r =
    by_test (λ t. elements t ≡ elements (node l e r)) (ltb (Δ * weight r) (weight l)) (rotated l e r) (node l e r)
    (λ heavy. rotated_elements l e r)
    (λ even. refl)

pub hung_elements : {E : Type 0} (l : Tree E) (e : E) (r : Tree E) → elements (hung l e r) ≡ elements (node l e r)
unfolding hung
hung_elements l e leaf = refl
hung_elements l e (node a x b) =
    by_test (λ t. elements t ≡ elements (node l e (node a x b))) (ltb (Δ * weight l) (weight (node a x b))) (rebalanced (hung l e a) x b) (node l e (node a x b))
    (λ heavy. rebalanced_elements (hung l e a) x b ∙ rw (hung_elements l e a) (simp append_assoc))
    (λ even. refl)

pub link_elements : {E : Type 0} (l : Tree E) (e : E) (r : Tree E) → elements (link l e r) ≡ elements l ++ (e ∷ elements r)
unfolding link
link_elements l e r =
    by_weight (λ t. elements t ≡ elements (node l e r)) (weight l) (weight r) _ _ _
    (λ right_heavy. hung_elements l e r)
    (λ left_heavy. mirror_same (hung (mirror r) e (mirror l)) (node (mirror r) e (mirror l)) (hung_elements (mirror r) e (mirror l)) ∙ rw (mirror_mirror l, mirror_mirror r))
    (λ right_light left_light. refl)

pub link_count : {E : Type 0} (l : Tree E) (e : E) (r : Tree E) → count (link l e r) ≡ count l + count r + 1
link_count l e r = same_count (link l e r) (node l e r) (link_elements l e r)

-- ---- balance

-- A left child has grown too heavy, but by no more than linking makes it: rotations balance every node.
rotated_twice_balanced : {E : Type 0} (a : Tree E) (y : E) (b : Tree E) (e : E) (r : Tree E) → Balanced (node a y b) → Balanced r
    → Δ * weight r < weight (node a y b) → 2 * weight (node a y b) ≤ 9 * weight r → Γ * weight a ≤ weight b → Balanced (rotated_twice a y b e r)
unfolding rotated_twice
rotated_twice_balanced a y leaf e r bl br heavy near inner = absurd (omega arith)
rotated_twice_balanced a y (node c z d) e r bl br heavy near inner = record {
  left_light = omega arith;
  right_light = omega arith;
  left = record { left_light = omega arith; right_light = omega arith; left = bl.left; right = bl.right.left };
  right = record { left_light = omega arith; right_light = omega arith; left = bl.right.right; right = br };
}

rotated_balanced : {E : Type 0} (l : Tree E) (e : E) (r : Tree E) → Balanced l → Balanced r
    → Δ * weight r < weight l → 2 * weight l ≤ 9 * weight r → Balanced (rotated l e r)
unfolding rotated
rotated_balanced leaf e r bl br heavy near = absurd (omega arith)
rotated_balanced (node a y b) e r bl br heavy near =
    by_test Balanced (ltb (weight b) (Γ * weight a)) (node a y (node b e r)) (rotated_twice a y b e r)
    (λ once. record {
      left_light = omega tests;
      right_light = omega tests;
      left = bl.left;
      right = record { left_light = omega tests; right_light = omega tests; left = bl.right; right = br };
    })
    (λ twice. rotated_twice_balanced a y b e r bl br heavy near (omega tests))

pub rebalanced_balanced : {E : Type 0} (l : Tree E) (e : E) (r : Tree E) → Balanced l → Balanced r
    → weight r ≤ Δ * weight l → 2 * weight l ≤ 9 * weight r → Balanced (rebalanced l e r)
unfolding rebalanced
rebalanced_balanced l e r bl br light near =
    by_test Balanced (ltb (Δ * weight r) (weight l)) (rotated l e r) (node l e r)
    (λ heavy. rotated_balanced l e r bl br (omega tests) near)
    (λ even. record { left_light = omega tests; right_light = light; left = bl; right = br })

pub hung_balanced : {E : Type 0} (l : Tree E) (e : E) (r : Tree E) → Balanced l → Balanced r → weight l ≤ Δ * weight r → Balanced (hung l e r)
unfolding hung
hung_balanced l e leaf bl br light = record { left_light = light; right_light = omega arith; left = bl; right = tt }
hung_balanced l e (node a x b) bl br light =
    let same = same_count (hung l e a) (node l e a) (hung_elements l e a) in
    by_test Balanced (ltb (Δ * weight l) (weight (node a x b))) (rebalanced (hung l e a) x b) (node l e (node a x b))
    (λ heavy. rebalanced_balanced (hung l e a) x b (hung_balanced l e a bl br.left (omega tests)) br.right (omega tests) (omega tests))
    (λ even. record { left_light = light; right_light = omega tests; left = bl; right = br })

pub link_balanced : {E : Type 0} (l : Tree E) (e : E) (r : Tree E) → Balanced l → Balanced r → Balanced (link l e r)
unfolding link
link_balanced l e r bl br =
    by_weight Balanced (weight l) (weight r) _ _ _
    (λ right_heavy. hung_balanced l e r bl br (omega arith))
    (λ left_heavy. mirror_balanced (hung (mirror r) e (mirror l)) (hung_balanced (mirror r) e (mirror l) (mirror_balanced r br) (mirror_balanced l bl) (omega (arith, mirror_count l, mirror_count r))))
    (λ right_light left_light. record { left_light = left_light; right_light = right_light; left = bl; right = br })

-- ---- mirror images

pub mirror_link : {E : Type 0} (l : Tree E) (e : E) (r : Tree E) → mirror (link l e r) ≡ link (mirror r) e (mirror l)
unfolding link
mirror_link l e r =
    rw (mirror_count l, mirror_count r, mirror_mirror l, mirror_mirror r)
    (weighed_ap mirror (weight l) (weight r) _ _ _
    ∙ rw (mirror_mirror (hung (mirror r) e (mirror l))) (weighed_swap (weight l) (weight r) _ _ _))
