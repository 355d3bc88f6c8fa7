-- Ways lead to their places, and are short.
use Rattle.std.proofs.Common.{◌≡◌, ℕ, suc, ◌+◌, ◌-◌, ◌*◌, ◌^◌, ◌<◌, ◌≤◌, ltb, [], ◌∷◌, Some, sym, refl, ap, ◌∙◌, subst, add_assoc, arith, le-ltb, lt-ltb}
use Rattle.balance.specs.Trees.{Tree, leaf, node, elements, count, weight, Balanced}
use Rattle.balance.specs.Links.{link}
use Rattle.balance.specs.Lists.{Shape, extents, holding}
use Rattle.balance.specs.Ways.{Way, lost, here, left, right, whole, depth, Spot, spot, aimed, span, way, place, Found}
use Rattle.balance.specs.Levels.{Levels, most, deepest}
use Rattle.balance.proofs.Tests.{tests, by_tests, test_true, test_false}
use Rattle.balance.proofs.Links.{link_elements}
use Rattle.balance.proofs.Lists.{extents_append, holding_high, holding_inside, holding_low}
use Rattle.balance.proofs.Levels.{levels_none, levels_more, levels_few}

module _ {E : Type 0} (k : Shape E) where
  pub span_extents : (t : Tree E) → span k t ≡ extents k (elements t)
  span_extents leaf = refl
  span_extents (node l e r) = omega (arith, span_extents l, span_extents r, extents_append k (elements l) (e ∷ elements r))

  pub link_span : (l : Tree E) (e : E) (r : Tree E) → span k (link l e r) ≡ span k l + k.extent e + span k r
  link_span l e r = span_extents (link l e r) ∙ ap (extents k) (link_elements l e r) ∙ sym (span_extents (node l e r))

  -- the three turns of a walk
  pub way_left : (l : Tree E) (e : E) (r : Tree E) (p : ℕ) → p < span k l → way k (node l e r) p ≡ left (way k l p) e r
  unfolding way
  way_left l e r p low = test_true (ltb p (span k l)) _ _ (lt-ltb p (span k l) low)

  pub way_here : (l : Tree E) (e : E) (r : Tree E) (d : ℕ) → d < k.extent e → way k (node l e r) (span k l + d) ≡ here l e r d
  unfolding way
  way_here l e r d inside =
      let d_is : span k l + d - span k l ≡ d = omega arith in
      test_false (ltb (span k l + d) (span k l)) _ _ (le-ltb (span k l + d) (span k l) (omega arith))
      ∙ test_true (ltb (span k l + d) (span k l + k.extent e)) _ _ (lt-ltb (span k l + d) (span k l + k.extent e) (omega arith))
      ∙ ap (here l e r) d_is

  pub way_right : (l : Tree E) (e : E) (r : Tree E) (q : ℕ) → way k (node l e r) (span k l + k.extent e + q) ≡ right l e (way k r q)
  unfolding way
  way_right l e r q =
      let before = span k l + k.extent e in
      let q_is : before + q - before ≡ q = omega arith in
      test_false (ltb (before + q) (span k l)) _ _ (le-ltb (before + q) (span k l) (omega arith))
      ∙ test_false (ltb (before + q) before) _ _ (le-ltb (before + q) before (omega arith))
      ∙ ap (λ (n : ℕ). right l e (way k r n)) q_is

  pub found_inside : (w : Way E) → Found k w → place k w < span k (whole w)
  found_inside lost found = absurd found
  found_inside (here l e r d) found = omega arith
  found_inside (left w e r) found = omega (arith, found_inside w found)
  found_inside (right l e w) found = omega (arith, found_inside w found)

  pub way_through : (t : Tree E) (p : ℕ) → whole (way k t p) ≡ t
  unfolding way
  way_through leaf p = refl
  way_through (node l e r) p =
      by_tests (λ w. whole w ≡ node l e r) (ltb p (span k l)) (ltb p (span k l + k.extent e)) _ _ _
      (λ low. ap (λ t. node t e r) (way_through l p))
      (λ past low. refl)
      (λ past high. ap (node l e) (way_through r (p - (span k l + k.extent e))))

  -- the way to a place inside a tree leads there
  pub record Leads (p : ℕ) (w : Way E) : Type 0 where
    pub to : place k w ≡ p
    pub found : Found k w

  pub way_leads : (t : Tree E) (p : ℕ) → p < span k t → Leads p (way k t p)
  unfolding way
  way_leads leaf p inside = absurd (omega arith)
  way_leads (node l e r) p inside =
      by_tests (Leads p) (ltb p (span k l)) (ltb p (span k l + k.extent e)) _ _ _
      (λ low. let below = way_leads l p (omega tests) in record { to = below.to; found = below.found })
      (λ past low. record { to = omega tests; found = omega tests })
      (λ past high. let below = way_leads r (p - (span k l + k.extent e)) (omega tests) in record { to = omega (tests, below.to); found = below.found })

  -- and it is the only one
  pub way_only : (w : Way E) → Found k w → way k (whole w) (place k w) ≡ w
  way_only lost found = absurd found
  way_only (here l e r d) found = way_here l e r d found
  way_only (left w e r) found = way_left (whole w) e r (place k w) (found_inside w found) ∙ ap (λ v. left v e r) (way_only w found)
  way_only (right l e w) found = way_right l e (whole w) (place k w) ∙ ap (right l e) (way_only w found)

  -- it ends at the element that holds the place
  pub spot_holding : (w : Way E) (s : Spot E) → Found k w → spot w ≡ Some s
      → holding k (place k w) (elements (whole w)) ≡ Some (record { element = s.element; offset = s.offset })
  spot_holding lost s found is = absurd found
  spot_holding (here l e r d) s found is =
      let same : holding k (span k l + d) (elements (node l e r)) ≡ Some (record { element = e; offset = d }) =
      rw (span_extents l) (holding_inside k (elements l) e (elements r) d found) in
      same ∙ cc
  spot_holding (left w e r) s found is =
      holding_low k (elements (whole w)) (e ∷ elements r) (place k w) (omega (arith, found_inside w found, span_extents (whole w)))
      ∙ spot_holding w s found is
  spot_holding (right l e w) s found is =
      rw (span_extents l, add_assoc (extents k (elements l)) (k.extent e) (place k w))
      (holding_high k (elements l) (e ∷ elements (whole w)) (k.extent e + place k w)
      ∙ ap (λ (n : ℕ). holding k n (e ∷ elements (whole w))) (omega arith)
      ∙ holding_high k (e ∷ []) (elements (whole w)) (place k w)
      ∙ spot_holding w s found is)

pub aimed_whole : {E : Type 0} (w : Way E) (n : ℕ) → whole (aimed w n) ≡ whole w
aimed_whole lost n = refl
aimed_whole (here l e r d) n = refl
aimed_whole (left w e r) n = ap (λ t. node t e r) (aimed_whole w n)
aimed_whole (right l e w) n = ap (node l e) (aimed_whole w n)

pub aimed_depth : {E : Type 0} (w : Way E) (n : ℕ) → depth (aimed w n) ≡ depth w
aimed_depth lost n = refl
aimed_depth (here l e r d) n = refl
aimed_depth (left w e r) n = ap suc (aimed_depth w n)
aimed_depth (right l e w) n = ap suc (aimed_depth w n)

-- a way that ends at an atom of its element is found, whatever measure it was walked by
pub aimed_found : {E : Type 0} (k : Shape E) (w : Way E) (s : Spot E) (n : ℕ) → spot w ≡ Some s → n < k.extent s.element → Found k (aimed w n)
aimed_found k lost s n is inside = absurd (let none : ◌≡◌ {A = ℕ} 0 1 = cc in omega arith)
aimed_found k (here l e r d) s n is inside = let same : s.element ≡ e = cc in omega (arith, ap k.extent same)
aimed_found k (left w e r) s n is inside = aimed_found k w s n is inside
aimed_found k (right l e w) s n is inside = aimed_found k w s n is inside

-- each node of a way lies one level below the node before
pub way_levels : {E : Type 0} (w : Way E) → Balanced (whole w) → Levels (depth w) 1 (weight (whole w))
way_levels lost b = levels_none 1 1 (omega arith)
way_levels (here l e r d) b = omega arith
way_levels (left w e r) b = levels_more (depth w) 1 (weight (whole w)) (weight (whole (left w e r))) (way_levels w b.left) (omega arith)
way_levels (right l e w) b = levels_more (depth w) 1 (weight (whole w)) (weight (whole (right l e w))) (way_levels w b.right) (omega arith)

pub way_short : {E : Type 0} (w : Way E) → Balanced (whole w) → weight (whole w) ≤ most + 1 → depth w ≤ deepest
way_short w b small = levels_few (depth w) (weight (whole w)) small (way_levels w b)

module _ {E : Type 0} (k : Shape E) where
  pub way_deep : (t : Tree E) (p : ℕ) → Balanced t → 4 ^ depth (way k t p) ≤ 3 ^ depth (way k t p) * (count t + 1)
  way_deep t p b =
      let w = way k t p in
      let through = way_through k t p in
      let levels : Levels (depth w) 1 (weight t) = subst (λ u. Levels (depth w) 1 (weight u)) through (way_levels w (subst Balanced (sym through) b)) in
      omega arith

  pub way_shallow : (t : Tree E) (p : ℕ) → Balanced t → count t ≤ most → depth (way k t p) ≤ deepest
  way_shallow t p b few = levels_few (depth (way k t p)) (weight t) (omega arith) (omega (arith, way_deep t p b))
