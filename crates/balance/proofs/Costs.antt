-- How many nodes are made. What a link passes is paid by what its lighter side gains in weight, so all the links on
-- one side of a way together pass no more nodes than one of them may.
use Rattle.std.proofs.Common.{◌≡◌, ℕ, suc, ◌+◌, ◌-◌, ◌*◌, ◌<◌, ◌≤◌, eqb, ltb, ◌⊎◌, List, [], ◌∷◌, length, sym, refl, subst, inl, inr, ⊎_elim, arith}
use Rattle.balance.specs.Trees.{Tree, leaf, node, count, weight, Balanced, mirror, Δ}
use Rattle.balance.specs.Lists.{Shape}
use Rattle.balance.specs.Links.{link, spine}
use Rattle.balance.specs.Ways.{Way, lost, here, left, right, whole, depth, span, way}
use Rattle.balance.specs.Edits.{Rest, done, more, tail, onward, up_to, before, rest, parted, parted_rest, merge}
use Rattle.balance.specs.Levels.{Levels, most, deepest}
use Rattle.balance.specs.Costs.{passes, link_cost, onward_cost, joined_cost, up_to_cost, before_cost, rest_cost, parted_cost, parted_rest_cost, merge_cost, put_cost, taken_cost, cut_cost}
use Rattle.balance.proofs.Tests.{tests, by_test, by_one_test}
use Rattle.balance.proofs.Mirrors.{mirror_mirror, mirror_count, mirror_balanced}
use Rattle.balance.proofs.Links.{by_weight, weighed_swap, link_count}
use Rattle.balance.proofs.Levels.{levels_none, levels_more, levels_wider, levels_narrower, levels_join, levels_few}
use Rattle.balance.proofs.Ways.{way_through, way_short}
use Rattle.balance.proofs.Edits.{way_sound, parted_sound, parted_rest_sound, merge_balanced, merge_count}

-- ---- one link

-- a spine has a level for each node
spine_levels : {E : Type 0} (l r : Tree E) → Balanced r → (length (spine l r) ≡ 0) ⊎ Levels (length (spine l r)) (weight l) (weight r)
unfolding spine
spine_levels {E} l leaf br = inl refl
spine_levels {E} l (node a x b) br =
    by_test (λ (ss : List (E × Tree E)). (length ss ≡ 0) ⊎ Levels (length ss) (weight l) (weight (node a x b))) (ltb (Δ * weight l) (weight (node a x b))) ((x, b) ∷ spine l a) []
    (λ heavy. inr (⊎_elim
    (λ none. rw none (omega tests))
    (λ below. levels_more (length (spine l a)) (weight l) (weight a) (weight (node a x b)) below (omega arith))
    (spine_levels l a br.left)))
    (λ even. inl refl)

-- the light side of a link gains what it pays for
pub gain_right : {E : Type 0} (l : Tree E) (e : E) (r : Tree E) → Balanced r → weight l ≤ Δ * weight r → Levels (passes l r) (weight l) (weight (link l e r))
unfolding passes
gain_right l e r br light =
    let all = link_count l e r in
    let P : ℕ → Type 0 = λ k. Levels k (weight l) (weight (link l e r)) in
    by_weight P (weight l) (weight r) _ _ _
    (λ right_heavy. ⊎_elim
    (λ none. rw none (omega arith))
    (λ below. levels_wider (length (spine l r)) (weight l) (weight r) (weight (link l e r)) below (omega arith))
    (spine_levels l r br))
    (λ left_heavy. absurd (omega arith))
    (λ right_light left_light. omega arith)

passes_mirror : {E : Type 0} (l r : Tree E) → passes (mirror r) (mirror l) ≡ passes l r
unfolding passes
passes_mirror l r =
    rw (mirror_count l, mirror_count r, mirror_mirror l, mirror_mirror r)
    (weighed_swap (weight r) (weight l) _ _ _)

pub link_cost_mirror : {E : Type 0} (l r : Tree E) → link_cost (mirror r) (mirror l) ≡ link_cost l r
unfolding link_cost
link_cost_mirror l r = omega (arith, passes_mirror l r)

pub gain_left : {E : Type 0} (l : Tree E) (e : E) (r : Tree E) → Balanced l → weight r ≤ Δ * weight l → Levels (passes l r) (weight r) (weight (link l e r))
gain_left l e r bl light =
    let x = mirror_count l in
    let y = mirror_count r in
    let gain = gain_right (mirror r) e (mirror l) (mirror_balanced l bl) (omega arith) in
    let all : weight (link (mirror r) e (mirror l)) ≡ weight (link l e r) = omega (arith, link_count l e r, link_count (mirror r) e (mirror l)) in
    rw (passes_mirror l r, y, all) at gain

-- and the levels are few
spine_few : {E : Type 0} (l r : Tree E) → Balanced r → count r ≤ most → length (spine l r) ≤ deepest
spine_few l r br few = ⊎_elim
    (λ none. omega arith)
    (λ levels. levels_few (length (spine l r)) (weight r) (omega arith) (levels_narrower (length (spine l r)) (weight l) (weight r) levels (omega arith)))
    (spine_levels l r br)

passes_few : {E : Type 0} (l r : Tree E) → Balanced l → Balanced r → count l ≤ most → count r ≤ most → passes l r ≤ deepest
unfolding passes
passes_few l r bl br few_l few_r =
    by_weight (λ k. k ≤ deepest) (weight l) (weight r) _ _ _
    (λ right_heavy. spine_few l r br few_r)
    (λ left_heavy. spine_few (mirror r) (mirror l) (mirror_balanced l bl) (omega (arith, mirror_count l)))
    (λ right_light left_light. omega arith)

pub link_cost_lem : {E : Type 0} (l r : Tree E) → Balanced l → Balanced r → count l ≤ most → count r ≤ most → link_cost l r ≤ 85
unfolding link_cost
link_cost_lem l r bl br few_l few_r = omega (arith, passes_few l r bl br few_l few_r)

pub joined_cost_lem : {E : Type 0} (t : Tree E) (s : Rest E) → Balanced t → Balanced (tail s) → count t ≤ most → count (tail s) ≤ most → joined_cost t s ≤ 85
unfolding joined_cost
joined_cost_lem t done bt bs few_t few_s = omega arith
joined_cost_lem t (more e r) bt bs few_t few_s = link_cost_lem t r bt bs few_t few_s

-- ---- all the links along a way

-- The nodes made by the links on one side of a way: at most three for each node passed and one for each link. The nodes
-- passed are levels below the weight w of that side's tree.
record Paid (cost links w : ℕ) : Type 0 where
  sunk : ℕ
  most_of : cost ≤ 3 * sunk + links
  levels : Levels sunk 1 w

paid_nothing : (w : ℕ) → 1 ≤ w → Paid 0 0 w
paid_nothing w some = record { sunk = 0; most_of = omega arith; levels = levels_none 1 w some }

-- one link more, which passes k nodes
paid_link : (cost links v w k : ℕ) → Paid cost links v → Levels k v w → Paid (cost + (3 * k + 1)) (suc links) w
paid_link cost links v w k paid gain = record {
  sunk = paid.sunk + k;
  most_of = omega (arith, paid.most_of);
  levels = levels_join paid.sunk k 1 v w paid.levels gain;
}

-- no link, and a heavier tree
paid_wider : (cost links v w : ℕ) → Paid cost links v → v ≤ w → Paid (cost + 0) (suc links) w
paid_wider cost links v w paid wider = record {
  sunk = paid.sunk;
  most_of = omega (arith, paid.most_of);
  levels = levels_wider paid.sunk 1 v w paid.levels wider;
}

up_to_paid : {E : Type 0} (k : Shape E) (l : Tree E) (e : E) (d : ℕ) → Balanced l → Paid (up_to_cost l d) 1 (weight (up_to k l e d))
unfolding up_to up_to_cost link_cost
up_to_paid k l e d bl =
    by_one_test (λ k t. Paid k 1 (weight t)) (eqb d 0) 0 (3 * passes l leaf + 1) l (link l (k.part e 0 d) leaf)
    (λ none. paid_wider 0 0 1 (weight l) (paid_nothing 1 (omega arith)) (omega arith))
    (λ some. record { sunk = passes l leaf; most_of = omega arith; levels = gain_left l (k.part e 0 d) leaf bl (omega arith) })

onward_paid : {E : Type 0} (cost links : ℕ) (s : Rest E) (e : E) (r : Tree E) → Balanced r → weight (tail s) ≤ Δ * weight r
    → Paid cost links (weight (tail s)) → Paid (cost + onward_cost s r) (suc links) (weight (tail (onward s e r)))
unfolding onward onward_cost link_cost
onward_paid cost links done e r br light paid = paid_wider cost links 1 (weight r) paid (omega arith)
onward_paid cost links (more f t) e r br light paid = paid_link cost links (weight t) (weight (link t e r)) (passes t r) paid (gain_right t e r br light)

module _ {E : Type 0} (k : Shape E) where
  -- both sides of a way, with no more links than the way has nodes
  record Spent (w : Way E) : Type 0 where
    before_links : ℕ
    rest_links : ℕ
    before_paid : Paid (before_cost k w) before_links (weight (before k w))
    rest_paid : Paid (rest_cost k w) rest_links (weight (tail (rest k w)))
    few : before_links + rest_links ≤ depth w

  way_spent : (w : Way E) → Balanced (whole w) → Spent w
  unfolding before rest before_cost rest_cost link_cost
  way_spent lost b = record {
    before_links = 0;
    rest_links = 0;
    before_paid = paid_nothing 1 (omega arith);
    rest_paid = paid_nothing 1 (omega arith);
    few = omega arith;
  }
  way_spent (here l e r d) b = record {
    before_links = 1;
    rest_links = 0;
    before_paid = up_to_paid k l e d b.left;
    rest_paid = paid_nothing (weight r) (omega arith);
    few = omega arith;
  }
  way_spent (left w e r) b =
      let below = way_spent w b.left in
      let sound = way_sound k w b.left in
      record {
        before_links = below.before_links;
        rest_links = suc below.rest_links;
        before_paid = below.before_paid;
        rest_paid = onward_paid (rest_cost k w) below.rest_links (rest k w) e r b.right (omega (arith, b.left_light, sound.rest_few)) below.rest_paid;
        few = omega (arith, below.few);
      }
  way_spent (right l e w) b =
      let below = way_spent w b.right in
      let sound = way_sound k w b.right in
      let a = before k w in
      record {
        before_links = suc below.before_links;
        rest_links = below.rest_links;
        before_paid = paid_link (before_cost k w) below.before_links (weight a) (weight (link l e a)) (passes l a) below.before_paid
            (gain_left l e a b.left (omega (arith, b.right_light, sound.before_few)));
        rest_paid = below.rest_paid;
        few = omega (arith, below.few);
      }

  -- at most 28 levels on either side, and 28 links
  pub way_cost : (w : Way E) → Balanced (whole w) → count (whole w) ≤ most → before_cost k w + rest_cost k w ≤ 196
  way_cost w b small =
      let spent = way_spent w b in
      let sound = way_sound k w b in
      let x = levels_few spent.before_paid.sunk (weight (before k w)) (omega (arith, sound.before_few)) spent.before_paid.levels in
      let y = levels_few spent.rest_paid.sunk (weight (tail (rest k w))) (omega (arith, sound.rest_few)) spent.rest_paid.levels in
      let z = way_short w b (omega arith) in
      omega (arith, spent.few, spent.before_paid.most_of, spent.rest_paid.most_of)

  -- ---- edits

  pub parted_cost_lem : (t : Tree E) (p : ℕ) → Balanced t → count t ≤ most → parted_cost k t p ≤ 196
  unfolding parted_cost
  parted_cost_lem t p b small =
      by_test (λ k. k ≤ 196) (ltb p (span k t)) _ _
      (λ inside.
      let through = way_through k t p in
      way_cost (way k t p) (subst Balanced (sym through) b) (rw through small))
      (λ beyond. omega arith)

  pub parted_rest_cost_lem : (s : Rest E) (p : ℕ) → Balanced (tail s) → count (tail s) ≤ most → parted_rest_cost k s p ≤ 281
  unfolding parted_rest_cost up_to_cost
  parted_rest_cost_lem done p b small = omega arith
  parted_rest_cost_lem (more e t) p b small =
      let s = parted k t (p - k.extent e) in
      let sound = parted_sound k t (p - k.extent e) b in
      by_test (λ k. k ≤ 281) (ltb p (k.extent e)) _ _
      (λ inside. by_test (λ k. k ≤ 281) (eqb p 0) _ _ (λ none. omega arith) (λ some. omega (arith, link_cost_lem {E = E} leaf leaf tt tt (omega arith) (omega arith))))
      (λ past. omega (arith, parted_cost_lem t (p - k.extent e) b small, link_cost_lem leaf s.before tt sound.before_balanced (omega arith) (omega (arith, sound.before_few))))

  pub merge_cost_lem : (l r : Tree E) → Balanced l → Balanced r → count l ≤ most → count r ≤ most → merge_cost k l r ≤ 281
  unfolding merge_cost
  merge_cost_lem l r bl br few_l few_r =
      let sound = parted_sound k r 0 br in
      omega (arith, parted_cost_lem r 0 br few_r, joined_cost_lem l (parted k r 0).rest bl sound.rest_balanced few_l (omega (arith, sound.rest_few)))

  -- an edit starts from a tree with room for the element that dividing may add
  pub put_cost_lem : (t : Tree E) (p : ℕ) (new : Tree E) → Balanced t → Balanced new → count t + count new < most → put_cost k t p new ≤ 562
  unfolding put_cost
  put_cost_lem t p new bt bn few =
      let s = parted k t p in
      let sound = parted_sound k t p bt in
      omega (
        arith,
        parted_cost_lem t p bt (omega arith),
        merge_cost_lem s.before new sound.before_balanced bn (omega (arith, sound.before_few)) (omega arith),
        joined_cost_lem (merge k s.before new) s.rest (merge_balanced k s.before new sound.before_balanced bn) sound.rest_balanced
            (omega (arith, sound.before_few, merge_count k s.before new bn)) (omega (arith, sound.rest_few)),
      )

  pub taken_cost_lem : (t : Tree E) (from len : ℕ) → Balanced t → count t ≤ most → taken_cost k t from len ≤ 477
  unfolding taken_cost
  taken_cost_lem t from len b few =
      let sound = parted_sound k t from b in
      omega (arith, parted_cost_lem t from b few, parted_rest_cost_lem (parted k t from).rest len sound.rest_balanced (omega (arith, sound.rest_few)))

  pub cut_cost_lem : (t : Tree E) (from len : ℕ) → Balanced t → count t < most → cut_cost k t from len ≤ 562
  unfolding cut_cost
  cut_cost_lem t from len b few =
      let s = parted k t from in
      let sound = parted_sound k t from b in
      let sound' = parted_rest_sound k s.rest len sound.rest_balanced in
      omega (
        arith,
        taken_cost_lem t from len b (omega arith),
        joined_cost_lem s.before (parted_rest k s.rest len).rest sound.before_balanced sound'.rest_balanced
            (omega (arith, sound.before_few)) (omega (arith, sound.rest_few, sound'.rest_few)),
      )
