-- Ways: how a walk goes from the root of a tree to the element that holds a place.
use Rattle.std.specs.Prelude.{ℕ, suc, ◌+◌, ◌-◌, ◌<◌, cond, List, [], ◌∷◌, Some, None, Option, nat_lt}
use Rattle.balance.specs.Trees.{Tree, leaf, node, mirror}
use Rattle.balance.specs.Lists.{Shape}

-- A way through a tree. It is lost at a leaf, or ends here, at a node (left child, element, right child) with an offset
-- into its element; or it goes to the left child, past an element and a right child, or to the right child, past a left
-- child and an element.
pub data Way (E : Type 0) : Type 0 where
  lost : Way E
  here : Tree E → E → Tree E → ℕ → Way E
  left : Way E → E → Tree E → Way E
  right : Tree E → E → Way E → Way E

-- the tree that a way goes through
abbrev pub whole : {E : Type 0} → Way E → Tree E
whole lost = leaf
whole (here l e r d) = node l e r
whole (left w e r) = node (whole w) e r
whole (right l e w) = node l e (whole w)

-- how many nodes a way has, from the root to the holding node, both included
abbrev pub depth : {E : Type 0} → Way E → ℕ
depth lost = 0
depth (here l e r d) = 1
depth (left w e r) = suc (depth w)
depth (right l e w) = suc (depth w)

-- where a way ends
pub record Spot (E : Type 0) : Type 0 where
  pub before : Tree E
  pub element : E
  pub behind : Tree E
  pub offset : ℕ

abbrev pub spot : {E : Type 0} → Way E → Option (Spot E)
spot lost = None
spot (here l e r d) = Some (record { before = l; element = e; behind = r; offset = d })
spot (left w e r) = spot w
spot (right l e w) = spot w

-- the way to another offset of the same element: where an element is found by one measure and the atom in it by another
abbrev pub aimed : {E : Type 0} → Way E → ℕ → Way E
aimed lost n = lost
aimed (here l e r d) n = here l e r n
aimed (left w e r) n = left (aimed w n) e r
aimed (right l e w) n = right l e (aimed w n)

module _ {E : Type 0} (k : Shape E) where
  -- the extent of a tree's list
  abbrev pub span : Tree E → ℕ
  span leaf = 0
  span (node l e r) = span l + k.extent e + span r

  -- the way to the place p: to the element that holds the atom p
  unfoldable pub way : Tree E → ℕ → Way E
  way leaf p = lost
  way (node l e r) p =
      cond (nat_lt p (span l)) (left (way l p) e r)
      (cond (nat_lt p (span l + k.extent e)) (here l e r (p - span l))
      (right l e (way r (p - (span l + k.extent e)))))

  -- the place that a way leads to
  abbrev pub place : Way E → ℕ
  place lost = 0
  place (here l e r d) = span l + d
  place (left w e r) = place w
  place (right l e w) = span l + k.extent e + place w

  -- a way that leads to an atom of an element
  abbrev pub Found : Way E → Type 0
  Found lost = ⊥
  Found (here l e r d) = d < k.extent e
  Found (left w e r) = Found w
  Found (right l e w) = Found w

-- A way is walked by steps, the first from the root.
pub data Step (E : Type 0) : Type 0 where
  to_left : E → Tree E → Step E
  to_right : Tree E → E → Step E

abbrev pub stepped : {E : Type 0} → Step E → Way E → Way E
stepped (to_left e r) w = left w e r
stepped (to_right l e) w = right l e w

-- the way that begins with some steps and goes on by w
abbrev pub walked : {E : Type 0} → List (Step E) → Way E → Way E
walked [] w = w
walked (s ∷ ss) w = stepped s (walked ss w)

-- What is passed by the steps to the left, and by those to the right, seen in a mirror: elements and the children
-- behind them. Walks keep them in two tables, since what lies before a place is rebuilt from one of them and what lies
-- behind it from the other.
abbrev pub passed_left : {E : Type 0} → List (Step E) → List (E × Tree E)
passed_left [] = []
passed_left (to_left e r ∷ ss) = (e, r) ∷ passed_left ss
passed_left (to_right l e ∷ ss) = passed_left ss

abbrev pub passed_right : {E : Type 0} → List (Step E) → List (E × Tree E)
passed_right [] = []
passed_right (to_left e r ∷ ss) = passed_right ss
passed_right (to_right l e ∷ ss) = (e, mirror l) ∷ passed_right ss

-- the extent of what a table passes
abbrev pub passed_span : {E : Type 0} → Shape E → List (E × Tree E) → ℕ
passed_span k [] = 0
passed_span k (s ∷ ss) = span k s.1 + k.extent s.0 + passed_span k ss
