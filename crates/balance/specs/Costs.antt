-- How many nodes are made, at most, by what is done with trees. None is given back on the way.
use Rattle.std.specs.Prelude.{ℕ, ◌+◌, ◌-◌, ◌*◌, cond, List, [], ◌∷◌, length, ◌==◌, nat_lt}
use Rattle.balance.specs.Trees.{Tree, leaf, weight, mirror}
use Rattle.balance.specs.Lists.{Shape}
use Rattle.balance.specs.Links.{weighed, link, rebuilt, spine}
use Rattle.balance.specs.Ways.{Way, lost, here, left, right, way, span}
use Rattle.balance.specs.Edits.{Rest, done, more, before, rest, parted, parted_rest, merge}

-- how many nodes a link passes
unfoldable pub passes : {E : Type 0} → Tree E → Tree E → ℕ
passes l r = weighed (weight l) (weight r) (length (spine l r)) (length (spine (mirror r) (mirror l))) 0

-- A link makes one node, and for each that it passes at most three: as many as two rotations make.
unfoldable pub link_cost : {E : Type 0} → Tree E → Tree E → ℕ
link_cost l r = 3 * passes l r + 1

-- the links of a way rebuilt from the tree t
unfoldable pub rebuilt_cost : {E : Type 0} → List (E × Tree E) → Tree E → ℕ
rebuilt_cost [] t = 0
rebuilt_cost (s ∷ ss) t = rebuilt_cost ss t + link_cost (rebuilt link ss t) s.1

unfoldable pub onward_cost : {E : Type 0} → Rest E → Tree E → ℕ
onward_cost done r = 0
onward_cost (more f t) r = link_cost t r

unfoldable pub joined_cost : {E : Type 0} → Tree E → Rest E → ℕ
joined_cost t done = 0
joined_cost t (more e r) = link_cost t r

unfoldable pub up_to_cost : {E : Type 0} → Tree E → ℕ → ℕ
up_to_cost l d = cond (d == 0) 0 (link_cost l leaf)

module _ {E : Type 0} (k : Shape E) where
  unfoldable pub before_cost : Way E → ℕ
  before_cost lost = 0
  before_cost (here l e r d) = up_to_cost l d
  before_cost (left w e r) = before_cost w
  before_cost (right l e w) = before_cost w + link_cost l (before k w)

  unfoldable pub rest_cost : Way E → ℕ
  rest_cost lost = 0
  rest_cost (here l e r d) = 0
  rest_cost (left w e r) = rest_cost w + onward_cost (rest k w) r
  rest_cost (right l e w) = rest_cost w

  unfoldable pub parted_cost : Tree E → ℕ → ℕ
  parted_cost t p = cond (nat_lt p (span k t)) (before_cost (way k t p) + rest_cost (way k t p)) 0

  unfoldable pub parted_rest_cost : Rest E → ℕ → ℕ
  parted_rest_cost done p = 0
  parted_rest_cost (more e t) p =
      cond (nat_lt p (k.extent e)) (up_to_cost {E = E} leaf p)
      (parted_cost t (p - k.extent e) + link_cost leaf (parted k t (p - k.extent e)).before)

  unfoldable pub merge_cost : Tree E → Tree E → ℕ
  merge_cost l r = parted_cost r 0 + joined_cost l (parted k r 0).rest

  unfoldable pub put_cost : Tree E → ℕ → Tree E → ℕ
  put_cost t p new =
      parted_cost t p + merge_cost (parted k t p).before new
      + joined_cost (merge k (parted k t p).before new) (parted k t p).rest

  unfoldable pub taken_cost : Tree E → ℕ → ℕ → ℕ
  taken_cost t from len = parted_cost t from + parted_rest_cost (parted k t from).rest len

  -- taking out, and joining what is left
  unfoldable pub cut_cost : Tree E → ℕ → ℕ → ℕ
  cut_cost t from len =
      taken_cost t from len + joined_cost (parted k t from).before (parted_rest k (parted k t from).rest len).rest
