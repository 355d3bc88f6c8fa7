-- Trees divided at places, taken apart and put together, all by links.
use Rattle.std.specs.Prelude.{ℕ, ◌-◌, cond, List, [], ◌∷◌, ◌==◌, nat_lt}
use Rattle.balance.specs.Trees.{Tree, leaf, elements}
use Rattle.balance.specs.Lists.{Shape}
use Rattle.balance.specs.Links.{link}
use Rattle.balance.specs.Ways.{Way, lost, here, left, right, way, span}

-- What lies behind a place: nothing, or an element and the tree of those behind it. The element is not linked
-- yet: most often it is linked elsewhere, or divided once more.
pub data Rest (E : Type 0) : Type 0 where
  done : Rest E
  more : E → Tree E → Rest E

-- its list
abbrev pub listed : {E : Type 0} → Rest E → List E
listed done = []
listed (more e t) = e ∷ elements t

-- the tree in it
abbrev pub tail : {E : Type 0} → Rest E → Tree E
tail done = leaf
tail (more e t) = t

-- The list of a rest, then e and the elements of r.
unfoldable pub onward : {E : Type 0} → Rest E → E → Tree E → Rest E
onward done e r = more e r
onward (more f t) e r = more f (link t e r)

-- The elements of t, then the list of a rest.
unfoldable pub joined : {E : Type 0} → Tree E → Rest E → Tree E
joined t done = t
joined t (more e r) = link t e r

-- A tree taken apart at a place.
pub record Parted (E : Type 0) : Type 0 where
  pub before : Tree E
  pub rest : Rest E

module _ {E : Type 0} (k : Shape E) where
  -- The elements of l, then what e has before its offset d.
  unfoldable pub up_to : Tree E → E → ℕ → Tree E
  up_to l e d = cond (d == 0) l (link l (k.part e 0 d) leaf)

  -- What e has from its offset d on.
  unfoldable pub on_from : E → ℕ → E
  on_from e d = cond (d == 0) e (k.part e d (k.extent e - d))

  -- What lies before the place that a way leads to, and what lies behind it.
  unfoldable pub before : Way E → Tree E
  before lost = leaf
  before (here l e r d) = up_to l e d
  before (left w e r) = before w
  before (right l e w) = link l e (before w)

  unfoldable pub rest : Way E → Rest E
  rest lost = done
  rest (here l e r d) = more (on_from e d) r
  rest (left w e r) = onward (rest w) e r
  rest (right l e w) = rest w

  -- A tree taken apart at the place p; at its end, or beyond, nothing is made.
  unfoldable pub parted : Tree E → ℕ → Parted E
  parted t p = cond (nat_lt p (span k t)) (record { before = before (way k t p); rest = rest (way k t p) }) (record { before = t; rest = done })

  -- A rest taken apart at the place p.
  unfoldable pub parted_rest : Rest E → ℕ → Parted E
  parted_rest done p = record { before = leaf; rest = done }
  parted_rest (more e t) p =
      cond (nat_lt p (k.extent e)) (record { before = up_to leaf e p; rest = more (on_from e p) t })
      (record { before = link leaf e (parted t (p - k.extent e)).before; rest = (parted t (p - k.extent e)).rest })

  -- The elements of l, then those of r.
  unfoldable pub merge : Tree E → Tree E → Tree E
  merge l r = joined l (parted r 0).rest

  -- The tree t with the elements of new put in at the place p.
  unfoldable pub put : Tree E → ℕ → Tree E → Tree E
  put t p new = joined (merge (parted t p).before new) (parted t p).rest

  -- What t has between the places from and from + len, and t without that.
  unfoldable pub taken : Tree E → ℕ → ℕ → Tree E
  taken t from len = (parted_rest (parted t from).rest len).before

  unfoldable pub cut : Tree E → ℕ → ℕ → Tree E
  cut t from len = joined (parted t from).before (parted_rest (parted t from).rest len).rest
