-- Linking: two trees and an element between them become one tree. All else that is made of trees is made by links.
use Rattle.std.specs.Prelude.{ℕ, ◌+◌, ◌*◌, cond, List, [], ◌∷◌, nat_lt}
use Rattle.balance.specs.Trees.{Tree, leaf, node, count, weight, mirror, Δ, Γ}

-- The list of node (node a y b) e r, with the root of b on top: two rotations.
unfoldable pub rotated_twice : {E : Type 0} → Tree E → E → Tree E → E → Tree E → Tree E
rotated_twice a y leaf e r = node a y (node leaf e r)
rotated_twice a y (node c z d) e r = node (node a y c) z (node d e r)

-- The list of node l e r, where l is too heavy for r: the root of l on top, or the root of its inner child.
unfoldable pub rotated : {E : Type 0} → Tree E → E → Tree E → Tree E
rotated leaf e r = node leaf e r
rotated (node a y b) e r = cond (nat_lt (weight b) (Γ * weight a)) (node a y (node b e r)) (rotated_twice a y b e r)

-- The list of node l e r, where l may be too heavy for r.
unfoldable pub rebalanced : {E : Type 0} → Tree E → E → Tree E → Tree E
rebalanced l e r = cond (nat_lt (Δ * weight r) (weight l)) (rotated l e r) (node l e r)

-- The list of node l e r, where r may be too heavy for l: l goes down the left spine of r to a tree that it can stand
-- beside, and what it passed is rebalanced from there up.
unfoldable pub hung : {E : Type 0} → Tree E → E → Tree E → Tree E
hung l e leaf = node l e leaf
hung l e (node a x b) = cond (nat_lt (Δ * weight l) (weight (node a x b))) (rebalanced (hung l e a) x b) (node l e (node a x b))

-- One of three, by the weights v on the left and w on the right: the right is too heavy, or the left is, or neither.
unfoldable pub weighed : {A : Type 0} → ℕ → ℕ → A → A → A → A
weighed v w right left even = cond (nat_lt (Δ * v) w) right (cond (nat_lt (Δ * w) v) left even)

-- The elements of l, then e, then the elements of r. The right spine of a heavy l is the left spine of its mirror image.
unfoldable pub link : {E : Type 0} → Tree E → E → Tree E → Tree E
link l e r = weighed (weight l) (weight r) (hung l e r) (mirror (hung (mirror r) e (mirror l))) (node l e r)

-- What a loop with a table does in place of a recursion: it goes down to the left, keeps each node's element and right
-- child, the topmost first, and goes up again from the tree t that it reached, joining by f.
unfoldable pub rebuilt : {E : Type 0} → (Tree E → E → Tree E → Tree E) → List (E × Tree E) → Tree E → Tree E
rebuilt f [] t = t
rebuilt f (s ∷ ss) t = f (rebuilt f ss t) s.0 s.1

-- What l passes on its way down the left spine of r, and the tree that it stops at.
unfoldable pub spine : {E : Type 0} → Tree E → Tree E → List (E × Tree E)
spine l leaf = []
spine l (node a x b) = cond (nat_lt (Δ * weight l) (weight (node a x b))) ((x, b) ∷ spine l a) []

unfoldable pub foot : {E : Type 0} → Tree E → Tree E → Tree E
foot l leaf = leaf
foot l (node a x b) = cond (nat_lt (Δ * weight l) (weight (node a x b))) (foot l a) (node a x b)

-- how many elements such a table passes
abbrev pub passed_count : {E : Type 0} → List (E × Tree E) → ℕ
passed_count [] = 0
passed_count (s ∷ ss) = count s.1 + 1 + passed_count ss
