-- What is defined by recursion, as loops with tables do it.
use Rattle.std.proofs.Common.{◌≡◌, ℕ, ◌+◌, ◌*◌, ◌<◌, ◌≤◌, Bool, true, false, cond, ltb, List, [], ◌∷◌, ◌++◌, length, sym, refl, ap, ◌∙◌, subst, arith, le-ltb, lt-ltb}
use Rattle.balance.specs.Trees.{Tree, leaf, node, count, weight, Balanced, mirror, Δ, Γ}
use Rattle.balance.specs.Lists.{Shape}
use Rattle.balance.specs.Links.{rotated_twice, rotated, rebalanced, hung, link, rebuilt, spine, foot, passed_count}
use Rattle.balance.specs.Ways.{Way, whole, depth, spot, Step, to_left, to_right, stepped, walked, passed_left, passed_right, span, passed_span}
use Rattle.balance.specs.Edits.{more, onward, before, rest}
use Rattle.balance.specs.Costs.{link_cost, rebuilt_cost, onward_cost, before_cost, rest_cost}
use Rattle.balance.proofs.Tests.{tests, test_true, test_false}
use Rattle.balance.proofs.Mirrors.{mirror_count, mirror_span}
use Rattle.balance.proofs.Links.{link_count, hung_balanced, mirror_link}
use Rattle.balance.proofs.Ways.{link_span}
use Rattle.balance.proofs.Costs.{link_cost_mirror}

-- ---- up a table

-- the last node of a table is joined before the others
pub rebuilt_last : {E : Type 0} (f : Tree E → E → Tree E → Tree E) (ss : List (E × Tree E)) (x : E) (b t : Tree E)
    → rebuilt f (ss ++ ((x, b) ∷ [])) t ≡ rebuilt f ss (f t x b)
unfolding rebuilt
rebuilt_last f [] x b t = refl
rebuilt_last f (s ∷ ss) x b t = ap (λ u. f u s.0 s.1) (rebuilt_last f ss x b t)

pub rebuilt_cost_last : {E : Type 0} (ss : List (E × Tree E)) (x : E) (b t : Tree E)
    → rebuilt_cost (ss ++ ((x, b) ∷ [])) t ≡ link_cost t b + rebuilt_cost ss (link t x b)
unfolding rebuilt_cost rebuilt
rebuilt_cost_last [] x b t = omega arith
rebuilt_cost_last (s ∷ ss) x b t = omega (arith, rebuilt_cost_last ss x b t, ap (λ u. link_cost u s.1) (rebuilt_last link ss x b t))

-- links up a table keep all that it passed
pub rebuilt_count : {E : Type 0} (ss : List (E × Tree E)) (t : Tree E) → count (rebuilt link ss t) ≡ count t + passed_count ss
unfolding rebuilt
rebuilt_count [] t = omega arith
rebuilt_count (s ∷ ss) t = omega (arith, link_count (rebuilt link ss t) s.0 s.1, rebuilt_count ss t)

pub rebuilt_span : {E : Type 0} (k : Shape E) (ss : List (E × Tree E)) (t : Tree E) → span k (rebuilt link ss t) ≡ span k t + passed_span k ss
unfolding rebuilt
rebuilt_span k [] t = omega arith
rebuilt_span k (s ∷ ss) t = omega (arith, link_span k (rebuilt link ss t) s.0 s.1, rebuilt_span k ss t)

-- ---- rebalancing: as it is, by one rotation or by two

pub rebalanced_kept : {E : Type 0} (l : Tree E) (e : E) (r : Tree E) → weight l ≤ Δ * weight r → rebalanced l e r ≡ node l e r
unfolding rebalanced
rebalanced_kept l e r even = test_false (ltb (Δ * weight r) (weight l)) _ _ (le-ltb (Δ * weight r) (weight l) even)

rebalanced_heavy : {E : Type 0} (l : Tree E) (e : E) (r : Tree E) → Δ * weight r < weight l → rebalanced l e r ≡ rotated l e r
unfolding rebalanced
rebalanced_heavy l e r heavy = test_true (ltb (Δ * weight r) (weight l)) _ _ (lt-ltb (Δ * weight r) (weight l) heavy)

pub rebalanced_once : {E : Type 0} (a : Tree E) (y : E) (b : Tree E) (e : E) (r : Tree E) → Δ * weight r < weight (node a y b) → weight b < Γ * weight a
    → rebalanced (node a y b) e r ≡ node a y (node b e r)
unfolding rotated
rebalanced_once a y b e r heavy outer =
    rebalanced_heavy (node a y b) e r heavy ∙ test_true (ltb (weight b) (Γ * weight a)) _ _ (lt-ltb (weight b) (Γ * weight a) outer)

pub rebalanced_twice : {E : Type 0} (a : Tree E) (y : E) (c : Tree E) (z : E) (d : Tree E) (e : E) (r : Tree E)
    → Δ * weight r < weight (node a y (node c z d)) → Γ * weight a ≤ weight (node c z d)
    → rebalanced (node a y (node c z d)) e r ≡ node (node a y c) z (node d e r)
unfolding rotated rotated_twice
rebalanced_twice a y c z d e r heavy inner =
    rebalanced_heavy (node a y (node c z d)) e r heavy
    ∙ test_false (ltb (weight (node c z d)) (Γ * weight a)) _ _ (le-ltb (weight (node c z d)) (Γ * weight a) inner)

-- ---- a link: down a spine, a node at its foot, and up

pub spine_down : {E : Type 0} (l a : Tree E) (x : E) (b : Tree E) → Δ * weight l < weight (node a x b) → spine l (node a x b) ≡ (x, b) ∷ spine l a
unfolding spine
spine_down l a x b heavy = test_true (ltb (Δ * weight l) (weight (node a x b))) _ _ (lt-ltb (Δ * weight l) (weight (node a x b)) heavy)

pub foot_down : {E : Type 0} (l a : Tree E) (x : E) (b : Tree E) → Δ * weight l < weight (node a x b) → foot l (node a x b) ≡ foot l a
unfolding foot
foot_down l a x b heavy = test_true (ltb (Δ * weight l) (weight (node a x b))) _ _ (lt-ltb (Δ * weight l) (weight (node a x b)) heavy)

pub spine_end : {E : Type 0} (l r : Tree E) → weight r ≤ Δ * weight l → spine l r ≡ []
unfolding spine
spine_end l leaf light = refl
spine_end l (node a x b) light = test_false (ltb (Δ * weight l) (weight (node a x b))) _ _ (le-ltb (Δ * weight l) (weight (node a x b)) light)

pub foot_end : {E : Type 0} (l r : Tree E) → weight r ≤ Δ * weight l → foot l r ≡ r
unfolding foot
foot_end l leaf light = refl
foot_end l (node a x b) light = test_false (ltb (Δ * weight l) (weight (node a x b))) _ _ (le-ltb (Δ * weight l) (weight (node a x b)) light)

pub hung_rebuilt : {E : Type 0} (l : Tree E) (e : E) (r : Tree E) → hung l e r ≡ rebuilt rebalanced (spine l r) (node l e (foot l r))
unfolding hung spine foot rebuilt
hung_rebuilt l e leaf = refl
hung_rebuilt l e (node a x b) = step (ltb (Δ * weight l) (weight (node a x b))) (hung_rebuilt l e a)
  where
    step : (heavy : Bool) → hung l e a ≡ rebuilt rebalanced (spine l a) (node l e (foot l a))
        → cond heavy (rebalanced (hung l e a) x b) (node l e (node a x b))
        ≡ rebuilt rebalanced (cond heavy ((x, b) ∷ spine l a) []) (node l e (cond heavy (foot l a) (node a x b)))
    step true below = ap (λ t. rebalanced t x b) below
    step false below = refl

nil_cons : {A : Type 0} (x : A) (xs : List A) → [] ≡ x ∷ xs → ⊥
nil_cons x xs same = let none : ◌≡◌ {A = ℕ} 0 1 = cc in omega arith

-- on the way up the tree is balanced after each node
pub spine_balanced : {E : Type 0} (l : Tree E) (e : E) (r : Tree E) → Balanced l → Balanced r → weight l ≤ Δ * weight r
    → (ss ts : List (E × Tree E)) → spine l r ≡ ss ++ ts → Balanced (rebuilt rebalanced ts (node l e (foot l r)))
spine_balanced l e r bl br light [] ts all = subst (λ us. Balanced (rebuilt rebalanced us (node l e (foot l r)))) all (subst Balanced (hung_rebuilt l e r) (hung_balanced l e r bl br light))
spine_balanced l e leaf bl br light (s ∷ ss) ts all = let none = spine_end l leaf (omega arith) in absurd (nil_cons s (ss ++ ts) (sym none ∙ all))
spine_balanced l e (node a x b) bl br light (s ∷ ss) ts all =
    step (ltb (Δ * weight l) (weight (node a x b))) refl (λ beside same. spine_balanced l e a bl br.left beside ss ts same)
  where
    step : (heavy : Bool) → ltb (Δ * weight l) (weight (node a x b)) ≡ heavy
        → (weight l ≤ Δ * weight a → spine l a ≡ ss ++ ts → Balanced (rebuilt rebalanced ts (node l e (foot l a))))
        → Balanced (rebuilt rebalanced ts (node l e (foot l (node a x b))))
    step true is below =
        let heavy : Δ * weight l < weight (node a x b) = omega tests in
        let down = spine_down l a x b heavy in
        subst (λ f. Balanced (rebuilt rebalanced ts (node l e f))) (sym (foot_down l a x b heavy)) (below (omega arith) (cc))
    step false is below = absurd (nil_cons s (ss ++ ts) (sym (spine_end l (node a x b) (omega tests)) ∙ all))

-- ---- a way: down by steps, and up the two tables

pub walked_last : {E : Type 0} (ss : List (Step E)) (s : Step E) (w : Way E) → walked (ss ++ (s ∷ [])) w ≡ walked ss (stepped s w)
walked_last [] s w = refl
walked_last (t ∷ ss) s w = ap (stepped t) (walked_last ss s w)

pub passed_left_append : {E : Type 0} (ss ts : List (Step E)) → passed_left (ss ++ ts) ≡ passed_left ss ++ passed_left ts
passed_left_append [] ts = refl
passed_left_append (to_left e r ∷ ss) ts = ap (λ l. (e, r) ∷ l) (passed_left_append ss ts)
passed_left_append (to_right l e ∷ ss) ts = passed_left_append ss ts

pub passed_right_append : {E : Type 0} (ss ts : List (Step E)) → passed_right (ss ++ ts) ≡ passed_right ss ++ passed_right ts
passed_right_append [] ts = refl
passed_right_append (to_left e r ∷ ss) ts = passed_right_append ss ts
passed_right_append (to_right l e ∷ ss) ts = ap (λ t. (e, mirror l) ∷ t) (passed_right_append ss ts)

pub walked_spot : {E : Type 0} (ss : List (Step E)) (w : Way E) → spot (walked ss w) ≡ spot w
walked_spot [] w = refl
walked_spot (to_left e r ∷ ss) w = walked_spot ss w
walked_spot (to_right l e ∷ ss) w = walked_spot ss w

pub walked_depth : {E : Type 0} (ss : List (Step E)) (w : Way E) → depth (walked ss w) ≡ length (passed_left ss) + length (passed_right ss) + depth w
walked_depth [] w = omega arith
walked_depth (to_left e r ∷ ss) w = omega (arith, walked_depth ss w)
walked_depth (to_right l e ∷ ss) w = omega (arith, walked_depth ss w)

-- a tree has what lies at the end of a way and what the steps passed
pub walked_count : {E : Type 0} (ss : List (Step E)) (w : Way E)
    → count (whole (walked ss w)) ≡ count (whole w) + passed_count (passed_left ss) + passed_count (passed_right ss)
walked_count [] w = omega arith
walked_count (to_left e r ∷ ss) w = omega (arith, walked_count ss w)
walked_count (to_right l e ∷ ss) w = omega (arith, walked_count ss w, mirror_count l)

module _ {E : Type 0} (k : Shape E) where
  pub walked_span : (ss : List (Step E)) (w : Way E)
      → span k (whole (walked ss w)) ≡ span k (whole w) + passed_span k (passed_left ss) + passed_span k (passed_right ss)
  walked_span [] w = omega arith
  walked_span (to_left e r ∷ ss) w = omega (arith, walked_span ss w)
  walked_span (to_right l e ∷ ss) w = omega (arith, walked_span ss w, mirror_span k l)

  pub rest_walked : (ss : List (Step E)) (w : Way E) (f : E) (t : Tree E) → rest k w ≡ more f t
      → rest k (walked ss w) ≡ more f (rebuilt link (passed_left ss) t)
  unfolding rest onward rebuilt
  rest_walked [] w f t is = is
  rest_walked (to_left e r ∷ ss) w f t is = ap (λ s. onward s e r) (rest_walked ss w f t is)
  rest_walked (to_right l e ∷ ss) w f t is = rest_walked ss w f t is

  pub before_walked : (ss : List (Step E)) (w : Way E) → mirror (before k (walked ss w)) ≡ rebuilt link (passed_right ss) (mirror (before k w))
  unfolding before rebuilt
  before_walked [] w = refl
  before_walked (to_left e r ∷ ss) w = before_walked ss w
  before_walked (to_right l e ∷ ss) w = mirror_link l e (before k (walked ss w)) ∙ ap (λ t. link t e (mirror l)) (before_walked ss w)

  pub rest_cost_walked : (ss : List (Step E)) (w : Way E) (f : E) (t : Tree E) → rest k w ≡ more f t
      → rest_cost k (walked ss w) ≡ rest_cost k w + rebuilt_cost (passed_left ss) t
  unfolding rest_cost onward_cost rebuilt_cost
  rest_cost_walked [] w f t is = omega arith
  rest_cost_walked (to_left e r ∷ ss) w f t is =
      omega (arith, rest_cost_walked ss w f t is, ap (λ s. onward_cost s r) (rest_walked ss w f t is))
  rest_cost_walked (to_right l e ∷ ss) w f t is = rest_cost_walked ss w f t is

  pub before_cost_walked : (ss : List (Step E)) (w : Way E)
      → before_cost k (walked ss w) ≡ before_cost k w + rebuilt_cost (passed_right ss) (mirror (before k w))
  unfolding before_cost rebuilt_cost
  before_cost_walked [] w = omega arith
  before_cost_walked (to_left e r ∷ ss) w = before_cost_walked ss w
  before_cost_walked (to_right l e ∷ ss) w =
      omega (
        arith,
        before_cost_walked ss w,
        sym (link_cost_mirror l (before k (walked ss w))) ∙ ap (λ t. link_cost t (mirror l)) (before_walked ss w),
      )
