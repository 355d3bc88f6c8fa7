-- Weight-balanced trees. A tree keeps a list of elements; balance keeps every element near the root.
use Rattle.std.specs.Prelude.{ℕ, ◌+◌, ◌*◌, ◌≤◌, List, [], ◌∷◌, ◌++◌}

pub data Tree (E : Type 0) : Type 0 where
  leaf : Tree E
  node : Tree E → E → Tree E → Tree E

-- the list that a tree keeps: its left child's, its own element, its right child's
abbrev pub elements : {E : Type 0} → Tree E → List E
elements leaf = []
elements (node l e r) = elements l ++ (e ∷ elements r)

-- the length of that list
abbrev pub count : {E : Type 0} → Tree E → ℕ
count leaf = 0
count (node l e r) = count l + count r + 1

-- Weights are compared, not counts: a node weighs exactly what its two children weigh together.
abbrev pub weight : {E : Type 0} → Tree E → ℕ
weight t = count t + 1

-- The two parameters of balance. A child weighs at most Δ times its sibling. Where a left child has grown heavier than
-- that, one rotation restores balance if its inner child weighs less than Γ times its outer one, and two do otherwise.
-- Linking leaves a child at most 4½ times as heavy as its sibling, and with Δ = 3 and Γ = 2 the rotations then balance
-- every node that they make. It is known, though not shown here, that no other pair of whole numbers does.
abbrev pub Δ : ℕ
Δ = 3

abbrev pub Γ : ℕ
Γ = 2

-- the children of a node weigh v and w, neither more than Δ times the other, and A and B hold of them
pub record Even (v w : ℕ) (A B : Type 0) : Type 0 where
  pub left_light : v ≤ Δ * w
  pub right_light : w ≤ Δ * v
  pub left : A
  pub right : B

-- so at every node
abbrev pub Balanced : {E : Type 0} → Tree E → Type 0
Balanced leaf = Unit {0}
Balanced (node l e r) = Even (weight l) (weight r) (Balanced l) (Balanced r)

-- the tree with its sides changed, which keeps the list the other way round
abbrev pub mirror : {E : Type 0} → Tree E → Tree E
mirror leaf = leaf
mirror (node l e r) = node (mirror r) e (mirror l)
