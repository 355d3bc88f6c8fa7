-- What a root reaches in one state of the cells, and in another.
use Rattle.std.proofs.Common.{◌≡◌, ℕ, zero, suc, ◌+◌, ◌≤◌, Bool, true, false, List, [], ◌∷◌, ◌++◌, Some, None, Option, sym, refl, ap, ◌∙◌, subst, inl, inr, ⊎_elim, arith, length-append}
use Rattle.std.specs.List.{slice_get}
use Rattle.kinds.specs.Kinds.{Meaning}
use Rattle.cells.specs.declared.cell.Cell.{Cell}
use Rattle.cells.specs.Cells.{counted, cell_count, around, tree_to, tree, linked, Live, Sound}
use Rattle.cells.specs.Reach.{occurs, child, follow, SameCell, Alike, Stays, Remains, Takes}

-- ---- alike

pub same_refl : {E S : Type 0} (c : Cell E S) → SameCell c c
same_refl c = record { element = refl; own = refl; left = refl; right = refl; count = refl; summary = refl }

pub alike_refl : {E S : Type 0} (o : Option (Cell E S)) → Alike o o
alike_refl None = tt
alike_refl (Some c) = same_refl c

pub alike_sym : {E S : Type 0} (o p : Option (Cell E S)) → Alike o p → Alike p o
alike_sym None None h = tt
alike_sym None (Some d) h = absurd h
alike_sym (Some c) None h = absurd h
alike_sym (Some c) (Some d) h =
    record { element = sym h.element; own = sym h.own; left = sym h.left; right = sym h.right; count = sym h.count; summary = sym h.summary }

pub alike_trans : {E S : Type 0} (o p q : Option (Cell E S)) → Alike o p → Alike p q → Alike o q
alike_trans None None q h g = g
alike_trans None (Some x) q h g = absurd h
alike_trans (Some c) None q h g = absurd h
alike_trans (Some c) (Some x) None h g = absurd g
alike_trans (Some c) (Some x) (Some y) h g = record {
  element = h.element ∙ g.element;
  own = h.own ∙ g.own;
  left = h.left ∙ g.left;
  right = h.right ∙ g.right;
  count = h.count ∙ g.count;
  summary = h.summary ∙ g.summary;
}

pub alike_child : {E S : Type 0} (side : Bool) (i : ℕ) (o p : Option (Cell E S)) → Alike o p → child side i o ≡ child side i p
alike_child side i None None h = refl
alike_child side i None (Some d) h = absurd h
alike_child side i (Some c) None h = absurd h
alike_child false i (Some c) (Some d) h = h.left
alike_child true i (Some c) (Some d) h = h.right

pub alike_count : {E S : Type 0} (o p : Option (Cell E S)) → Alike o p → counted o ≡ counted p
alike_count None None h = refl
alike_count None (Some d) h = absurd h
alike_count (Some c) None h = absurd h
alike_count (Some c) (Some d) h = h.count

-- ---- staying

pub stays_refl : {E S : Type 0} (a : List (Cell E S)) (r : ℕ) → Stays a a r
stays_refl a r path = alike_refl (slice_get a (follow a r path))

pub follow_same : {E S : Type 0} (a b : List (Cell E S)) (r : ℕ) (path : List Bool) → Stays a b r → follow a r path ≡ follow b r path
follow_same a b r [] stays = refl
follow_same a b r (side ∷ path) stays =
    follow_same a b (child side r (slice_get a r)) path (λ p. stays (side ∷ p))
    ∙ ap (λ i. follow b i path) (alike_child side r (slice_get a r) (slice_get b r) (stays []))

pub stays_trans : {E S : Type 0} (a b c : List (Cell E S)) (r : ℕ) → Stays a b r → Stays b c r → Stays a c r
stays_trans a b c r ab bc path =
    alike_trans (slice_get a (follow a r path)) (slice_get b (follow a r path)) (slice_get c (follow a r path)) (ab path)
    (subst (λ i. Alike (slice_get b i) (slice_get c i)) (sym (follow_same a b r path ab)) (bc path))

pub stays_sym : {E S : Type 0} (a b : List (Cell E S)) (r : ℕ) → Stays a b r → Stays b a r
stays_sym a b r ab path =
    subst (λ i. Alike (slice_get b i) (slice_get a i)) (follow_same a b r path ab) (alike_sym (slice_get a (follow a r path)) (slice_get b (follow a r path)) (ab path))

pub tree_to_lem : {E S : Type 0} (f : ℕ) (a b : List (Cell E S)) (r : ℕ) → Stays a b r → tree_to f a r ≡ tree_to f b r
unfolding tree_to
tree_to_lem zero a b r stays = refl
tree_to_lem (suc f) a b r stays = step (slice_get a r) (slice_get b r) refl (stays []) (λ side. tree_to_lem f a b (child side r (slice_get a r)) (λ p. stays (side ∷ p)))
  where
    step : (o p : Option (Cell _ _)) → slice_get a r ≡ o → Alike o p
        → ((side : Bool) → tree_to f a (child side r (slice_get a r)) ≡ tree_to f b (child side r (slice_get a r)))
        → around o (tree_to f a) ≡ around p (tree_to f b)
    step None None is h below = refl
    step None (Some d) is h below = absurd h
    step (Some c) None is h below = absurd h
    step (Some c) (Some d) is h below =
        let l = ap (λ o. tree_to f a (child false r o)) (sym is) ∙ below false ∙ ap (λ o. tree_to f b (child false r o)) is in
        let r' = ap (λ o. tree_to f a (child true r o)) (sym is) ∙ below true ∙ ap (λ o. tree_to f b (child true r o)) is in
        let x = h.element in let y = h.left in let z = h.right in
        cc

-- one step more at the end of a path
pub follow_more : {E S : Type 0} (a : List (Cell E S)) (r : ℕ) (path : List Bool) (side : Bool) → follow a r (path ++ (side ∷ [])) ≡ child side (follow a r path) (slice_get a (follow a r path))
follow_more a r [] side = refl
follow_more a r (s ∷ path) side = follow_more a (child s r (slice_get a r)) path side

-- the tree under a root that stays is the same
pub tree_stays : {E S : Type 0} (a b : List (Cell E S)) (r : ℕ) → Stays a b r → tree a r ≡ tree b r
tree_stays a b r stays = tree_to_lem (cell_count a r) a b r stays ∙ ap (λ f. tree_to f b r) (alike_count (slice_get a r) (slice_get b r) (stays []))

pub count_stays : {E S : Type 0} (a b : List (Cell E S)) (r : ℕ) → Stays a b r → cell_count a r ≡ cell_count b r
count_stays a b r stays = alike_count (slice_get a r) (slice_get b r) (stays [])

-- what a cell that stays has for children stays
pub child_stays : {E S : Type 0} (a b : List (Cell E S)) (r : ℕ) (c : Cell E S) (side : Bool) → slice_get a r ≡ Some c → Stays a b r → Stays a b (child side r (Some c))
child_stays a b r c side at stays = subst (λ o. Stays a b (child side r o)) at (λ path. stays (side ∷ path))

-- ---- what is in use remains

pub remains_refl : {E S : Type 0} (a : List (Cell E S)) (i : ℕ) → Live a i → Remains a a i
remains_refl a i live = record { alike = alike_refl (slice_get a i); live = live }

pub remains_trans : {E S : Type 0} (a b c : List (Cell E S)) (i : ℕ) → Remains a b i → Remains b c i → Remains a c i
remains_trans a b c i p q = record { alike = alike_trans (slice_get a i) (slice_get b i) (slice_get c i) p.alike q.alike; live = q.live }

pub takes_none : {E S : Type 0} (a b : List (Cell E S)) → ((i : ℕ) → Live b i → Remains b a i) → (n : ℕ) → Takes a b n
takes_none a b keeps n = record { new = []; few = omega arith; old = λ i live. inr (keeps i live) }

pub takes_refl : {E S : Type 0} (a : List (Cell E S)) (n : ℕ) → Takes a a n
takes_refl a n = takes_none a a (remains_refl a) n

pub occurs_append : (xs ys : List ℕ) (i : ℕ) → occurs (xs ++ ys) i ≡ occurs xs i + occurs ys i
occurs_append [] ys i = omega arith
occurs_append (x ∷ xs) ys i = let h = occurs_append xs ys i in omega arith

pub takes_trans : {E S : Type 0} (a b c : List (Cell E S)) (m n : ℕ) → Takes a b m → Takes b c n → Takes a c (m + n)
takes_trans a b c m n s t = record {
  new = t.new ++ s.new;
  few = omega (arith, length-append t.new s.new, s.few, t.few);
  old = λ i live. ⊎_elim
      (λ h. inl (omega (arith, occurs_append t.new s.new i)))
      (λ r. ⊎_elim
      (λ h. inl (omega (arith, occurs_append t.new s.new i)))
      (λ q. inr (remains_trans c b a i r q))
      (s.old i r.live))
      (t.old i live);
}

pub takes_more : {E S : Type 0} (a b : List (Cell E S)) (m n : ℕ) → m ≤ n → Takes a b m → Takes a b n
takes_more a b m n h t = record { new = t.new; few = omega (arith, t.few); old = t.old }

module _ {E A S : Type 0} (k : Meaning E A S) (a : List (Cell E S)) (sound : Sound k a) where
  child_live : (side : Bool) (i : ℕ) (o : Option (Cell E S)) → slice_get a i ≡ o → linked o → Live a (child side i o)
  child_live side i None e live = subst linked (sym e) tt
  child_live false i (Some c) e live = (sound i c e live).left_live
  child_live true i (Some c) e live = (sound i c e live).right_live

  -- what a live link reaches is live
  pub reached_live : (r : ℕ) (path : List Bool) → Live a r → Live a (follow a r path)
  reached_live r [] live = live
  reached_live r (side ∷ path) live = reached_live (child side r (slice_get a r)) path (child_live side r (slice_get a r) refl live)

  -- where all that is in use remains, every live link stays
  pub remains_stays : (b : List (Cell E S)) → ((i : ℕ) → Live a i → Remains a b i) → (r : ℕ) → Live a r → Stays a b r
  remains_stays b keeps r live path = (keeps (follow a r path) (reached_live r path live)).alike
