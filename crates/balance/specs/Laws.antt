-- The laws of lists and trees over elements E, whatever their extents and parts are.
use Rattle.std.specs.Prelude.{◌≡◌, ℕ, ◌+◌, ◌-◌, ◌*◌, ◌^◌, ◌<◌, ◌≤◌, List, [], ◌∷◌, ◌++◌, Some}
use Rattle.balance.specs.Trees.{Tree, node, elements, count, Balanced, mirror}
use Rattle.balance.specs.Links.{rebalanced, hung, link, rebuilt, spine, foot}
use Rattle.balance.specs.Lists.{Shape, extents, Solid, holding, front, back, put_in, between, without}
use Rattle.balance.specs.Ways.{Way, whole, depth, Spot, spot, aimed, span, way, place, Found, Step, walked, passed_left, passed_right}
use Rattle.balance.specs.Edits.{Rest, more, listed, tail, before, rest, parted, parted_rest, merge, put, taken, cut}
use Rattle.balance.specs.Levels.{most, deepest}
use Rattle.balance.specs.Costs.{link_cost, rebuilt_cost, before_cost, rest_cost, parted_cost, parted_rest_cost, merge_cost, put_cost, taken_cost, cut_cost}

-- Dividing lists: nothing happens between two elements, and one that holds the place becomes its two parts.
pub record ListLaws (E : Type 0) : Type 0 where
  pub between_front : (k : Shape E) (xs ys : List E) → Solid k ys → front k (extents k xs) (xs ++ ys) ≡ xs
  pub between_back : (k : Shape E) (xs ys : List E) → Solid k ys → back k (extents k xs) (xs ++ ys) ≡ ys
  pub inside_front : (k : Shape E) (xs : List E) (e : E) (ys : List E) (d : ℕ) → 1 ≤ d → d < k.extent e
      → front k (extents k xs + d) (xs ++ (e ∷ ys)) ≡ xs ++ (k.part e 0 d ∷ [])
  pub inside_back : (k : Shape E) (xs : List E) (e : E) (ys : List E) (d : ℕ) → 1 ≤ d → d < k.extent e
      → back k (extents k xs + d) (xs ++ (e ∷ ys)) ≡ k.part e d (k.extent e - d) ∷ ys
  pub holds : (k : Shape E) (xs : List E) (e : E) (ys : List E) (d : ℕ) → d < k.extent e
      → holding k (extents k xs + d) (xs ++ (e ∷ ys)) ≡ Some (record { element = e; offset = d })

-- A link keeps the list in order and the tree in balance, on either side alike.
pub record LinkLaws (E : Type 0) : Type 0 where
  pub order : (l : Tree E) (e : E) (r : Tree E) → elements (link l e r) ≡ elements l ++ (e ∷ elements r)
  pub balanced : (l : Tree E) (e : E) (r : Tree E) → Balanced l → Balanced r → Balanced (link l e r)
  pub mirrored : (l : Tree E) (e : E) (r : Tree E) → mirror (link l e r) ≡ link (mirror r) e (mirror l)

-- The way to a place goes through the tree, leads there, is the only one, ends at the element that holds the place,
-- and is short.
pub record WayLaws (E : Type 0) : Type 0 where
  pub through : (k : Shape E) (t : Tree E) (p : ℕ) → whole (way k t p) ≡ t
  pub leads : (k : Shape E) (t : Tree E) (p : ℕ) → p < span k t → place k (way k t p) ≡ p
  pub found : (k : Shape E) (t : Tree E) (p : ℕ) → p < span k t → Found k (way k t p)
  pub only : (k : Shape E) (w : Way E) → Found k w → way k (whole w) (place k w) ≡ w
  pub holds : (k : Shape E) (w : Way E) (s : Spot E) → Found k w → spot w ≡ Some s
      → holding k (place k w) (elements (whole w)) ≡ Some (record { element = s.element; offset = s.offset })
  pub deep : (k : Shape E) (t : Tree E) (p : ℕ) → Balanced t → 4 ^ depth (way k t p) ≤ 3 ^ depth (way k t p) * (count t + 1)
  pub short : (k : Shape E) (t : Tree E) (p : ℕ) → Balanced t → count t ≤ most → depth (way k t p) ≤ deepest

-- What was found by one measure lies on the way to its place by another.
pub record AimLaws (E : Type 0) : Type 0 where
  pub same_whole : (w : Way E) (n : ℕ) → whole (aimed w n) ≡ whole w
  pub same_depth : (w : Way E) (n : ℕ) → depth (aimed w n) ≡ depth w
  pub found : (k : Shape E) (w : Way E) (s : Spot E) (n : ℕ) → spot w ≡ Some s → n < k.extent s.element → Found k (aimed w n)

-- Trees taken apart and put together keep the lists that dividing, putting in and taking out give.
pub record OrderLaws (E : Type 0) : Type 0 where
  pub parted_front : (k : Shape E) (t : Tree E) (p : ℕ) → elements (parted k t p).before ≡ front k p (elements t)
  pub parted_back : (k : Shape E) (t : Tree E) (p : ℕ) → listed (parted k t p).rest ≡ back k p (elements t)
  pub rest_front : (k : Shape E) (s : Rest E) (p : ℕ) → elements (parted_rest k s p).before ≡ front k p (listed s)
  pub rest_back : (k : Shape E) (s : Rest E) (p : ℕ) → listed (parted_rest k s p).rest ≡ back k p (listed s)
  pub of_merge : (k : Shape E) (l r : Tree E) → Solid k (elements r) → elements (merge k l r) ≡ elements l ++ elements r
  pub of_put : (k : Shape E) (t : Tree E) (p : ℕ) (new : Tree E) → Solid k (elements new)
      → elements (put k t p new) ≡ put_in k (elements t) p (elements new)
  pub of_taken : (k : Shape E) (t : Tree E) (from len : ℕ) → elements (taken k t from len) ≡ between k (elements t) from len
  pub of_cut : (k : Shape E) (t : Tree E) (from len : ℕ) → elements (cut k t from len) ≡ without k (elements t) from len

-- They are balanced.
pub record BalanceLaws (E : Type 0) : Type 0 where
  pub parted_before : (k : Shape E) (t : Tree E) (p : ℕ) → Balanced t → Balanced (parted k t p).before
  pub parted_rest_lem : (k : Shape E) (t : Tree E) (p : ℕ) → Balanced t → Balanced (tail (parted k t p).rest)
  pub of_merge : (k : Shape E) (l r : Tree E) → Balanced l → Balanced r → Balanced (merge k l r)
  pub of_put : (k : Shape E) (t : Tree E) (p : ℕ) (new : Tree E) → Balanced t → Balanced new → Balanced (put k t p new)
  pub of_taken : (k : Shape E) (t : Tree E) (from len : ℕ) → Balanced t → Balanced (taken k t from len)
  pub of_cut : (k : Shape E) (t : Tree E) (from len : ℕ) → Balanced t → Balanced (cut k t from len)

-- Few nodes are made: an edit needs at most 562.
pub record CostLaws (E : Type 0) : Type 0 where
  pub of_link : (l r : Tree E) → Balanced l → Balanced r → count l ≤ most → count r ≤ most → link_cost l r ≤ 85
  pub of_parted : (k : Shape E) (t : Tree E) (p : ℕ) → Balanced t → count t ≤ most → parted_cost k t p ≤ 196
  pub of_rest : (k : Shape E) (s : Rest E) (p : ℕ) → Balanced (tail s) → count (tail s) ≤ most → parted_rest_cost k s p ≤ 281
  pub of_merge : (k : Shape E) (l r : Tree E) → Balanced l → Balanced r → count l ≤ most → count r ≤ most → merge_cost k l r ≤ 281
  pub of_put : (k : Shape E) (t : Tree E) (p : ℕ) (new : Tree E) → Balanced t → Balanced new → count t + count new < most → put_cost k t p new ≤ 562
  pub of_taken : (k : Shape E) (t : Tree E) (from len : ℕ) → Balanced t → count t ≤ most → taken_cost k t from len ≤ 477
  pub of_cut : (k : Shape E) (t : Tree E) (from len : ℕ) → Balanced t → count t < most → cut_cost k t from len ≤ 562

-- Loops with tables do the same: down a spine and up again is a link with a heavy tree; and what lies behind a place and
-- before it is rebuilt, by links, from what the steps to the left and to the right have passed.
pub record LoopLaws (E : Type 0) : Type 0 where
  pub of_hung : (l : Tree E) (e : E) (r : Tree E) → hung l e r ≡ rebuilt rebalanced (spine l r) (node l e (foot l r))
  pub of_rest : (k : Shape E) (ss : List (Step E)) (w : Way E) (f : E) (t : Tree E) → rest k w ≡ more f t
      → rest k (walked ss w) ≡ more f (rebuilt link (passed_left ss) t)
  pub of_before : (k : Shape E) (ss : List (Step E)) (w : Way E)
      → mirror (before k (walked ss w)) ≡ rebuilt link (passed_right ss) (mirror (before k w))
  pub of_rest_cost : (k : Shape E) (ss : List (Step E)) (w : Way E) (f : E) (t : Tree E) → rest k w ≡ more f t
      → rest_cost k (walked ss w) ≡ rest_cost k w + rebuilt_cost (passed_left ss) t
  pub of_before_cost : (k : Shape E) (ss : List (Step E)) (w : Way E)
      → before_cost k (walked ss w) ≡ before_cost k w + rebuilt_cost (passed_right ss) (mirror (before k w))
