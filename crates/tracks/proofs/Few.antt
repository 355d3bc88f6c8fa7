-- A track takes a cell for each of its elements, and no more.
use Rattle.std.proofs.Common.{◌≡◌, ℕ, zero, suc, ◌+◌, ◌<◌, ◌≤◌, Bool, true, false, cond, eqb, ◌≢◌, List, [], ◌∷◌, ◌++◌, length, Some, None, Option, sym, refl, ap, ◌∙◌, subst, arith, length-append, eqb-true}
use borrow.Author.Tests.{eqb-false}
use Rattle.std.specs.List.{slice_get}
use Rattle.kinds.specs.Kinds.{Meaning}
use Rattle.balance.specs.Trees.{count}
use Rattle.balance.proofs.Mirrors.{count_length}
use Rattle.cells.specs.declared.cell.Cell.{Cell}
use Rattle.cells.specs.declared.pool.Pool.{Pool}
use Rattle.cells.specs.Cells.{counted, cell_count, referred, around, tree_to, tree, linked, Live, Sound}
use Rattle.cells.specs.Reach.{occurs, Among, child, follow, Reached, HowMany, none, one, other}
use Rattle.cells.specs.References.{Arena, NoneLost}
use Rattle.cells.proofs.Names.{hit_same, hit_other}
use Rattle.cells.proofs.Staying.{occurs_append}
use Rattle.cells.proofs.Arenas.{rooted}
use Rattle.cells.proofs.Lost.{none_lost}
use Rattle.edits.specs.Edits.{list}

-- the list without one x
abbrev less : ℕ → List ℕ → List ℕ
less x [] = []
less x (y ∷ ys) = cond (eqb y x) ys (y ∷ less x ys)

short_by : (x y : ℕ) (ys : List ℕ) (b : Bool) → eqb y x ≡ b → (Among ys x → length (less x ys) + 1 ≤ length ys) → Among (y ∷ ys) x
    → length (cond b ys (y ∷ less x ys)) + 1 ≤ length (y ∷ ys)
short_by x y ys true e rest among = omega arith
short_by x y ys false e rest among = let r = rest (let o = hit_other y x (λ q. eqb-false y x e (sym q)) in omega (arith, among)) in omega arith

less_short : (x : ℕ) (ys : List ℕ) → Among ys x → length (less x ys) + 1 ≤ length ys
less_short x [] among = absurd (omega (arith, among))
less_short x (y ∷ ys) among = short_by x y ys (eqb y x) refl (less_short x ys) among

keeps_by : (x y : ℕ) (ys : List ℕ) (i : ℕ) → i ≢ x → (b : Bool) → eqb y x ≡ b → occurs (less x ys) i ≡ occurs ys i → occurs (cond b ys (y ∷ less x ys)) i ≡ occurs (y ∷ ys) i
keeps_by x y ys i ne true e h = let o = hit_other y i (λ q. ne (q ∙ eqb-true y x e)) in omega arith
keeps_by x y ys i ne false e h = omega arith

less_keeps : (x : ℕ) (ys : List ℕ) (i : ℕ) → i ≢ x → occurs (less x ys) i ≡ occurs ys i
less_keeps x [] i ne = refl
less_keeps x (y ∷ ys) i ne = keeps_by x y ys i ne (eqb y x) refl (less_keeps x ys i ne)

-- what all stands in a list is not more than the list has
few_by : {P : ℕ → Type 0} {n m : ℕ} → HowMany P n m → (xs : List ℕ) → ((i : ℕ) → i < n → P i → Among xs i) → m ≤ length xs
few_by none xs all = omega arith
few_by (one {n} {m} p h) xs all =
    let s = less_short n xs (all n (omega arith) p) in
    let r = few_by h (less n xs) (λ i l q. let ne : i ≢ n = λ e. omega arith in omega (arith, less_keeps n xs i ne, all i (omega arith) q)) in
    omega arith
few_by (other {n} {m} p h) xs all = few_by h xs (λ i l q. all i (omega arith) q)

-- the cells of a tree, in order
abbrev named_at : {E S : Type 0} → Option (Cell E S) → ℕ → (ℕ → List ℕ) → List ℕ
named_at None i below = []
named_at (Some c) i below = below c.left ++ (i ∷ below c.right)

unfoldable named : {E S : Type 0} → ℕ → List (Cell E S) → ℕ → List ℕ
named zero cells i = []
named (suc f) cells i = named_at (slice_get cells i) i (named f cells)

module _ {E S : Type 0} (cells : List (Cell E S)) where
  count_by : (f i : ℕ) (o : Option (Cell E S)) → ((j : ℕ) → length (named f cells j) ≡ count (tree_to f cells j))
      → length (named_at o i (named f cells)) ≡ count (around o (tree_to f cells))
  count_by f i None below = refl
  count_by f i (Some c) below = omega (arith, length-append (named f cells c.left) (i ∷ named f cells c.right), below c.left, below c.right)

  named_count : (f i : ℕ) → length (named f cells i) ≡ count (tree_to f cells i)
  unfolding named tree_to
  named_count zero i = refl
  named_count (suc f) i = count_by f i (slice_get cells i) (named_count f)

  follow_none : (i : ℕ) (path : List Bool) → slice_get cells i ≡ None → follow cells i path ≡ i
  follow_none i [] e = refl
  follow_none i (side ∷ path) e = ap (λ o. follow cells (child side i o) path) e ∙ follow_none i path e

  lost_in : (i : ℕ) (path : List Bool) (d : Cell E S) → slice_get cells i ≡ None → slice_get cells (follow cells i path) ≡ Some d → ⊥
  lost_in i path d e h = let s = ap (slice_get cells) (follow_none i path e) in let z : ◌≡◌ {A = ℕ} 0 1 = cc in omega arith

  module _ {A : Type 0} (k : Meaning E A S) (sound : Sound k cells) where
    abbrev Inside : ℕ → Type 0
    Inside f = (i : ℕ) (path : List Bool) (d : Cell E S) → Live cells i → cell_count cells i ≤ f → slice_get cells (follow cells i path) ≡ Some d → Among (named f cells i) (follow cells i path)

    no_cell : (i : ℕ) (path : List Bool) (d : Cell E S) (o : Option (Cell E S)) → slice_get cells i ≡ o → linked o → counted o ≤ 0 → slice_get cells (follow cells i path) ≡ Some d → ⊥
    no_cell i path d None e live few h = lost_in i path d e h
    no_cell i path d (Some c) e live few h = omega (arith, (sound i c e live).counts, few)

    inside_by : (f i : ℕ) (path : List Bool) (d : Cell E S) (o : Option (Cell E S)) → slice_get cells i ≡ o → linked o → counted o ≤ suc f → Inside f
        → slice_get cells (follow cells i path) ≡ Some d → Among (named_at o i (named f cells)) (follow cells i path)
    inside_by f i path d None e live few below h = absurd (lost_in i path d e h)
    inside_by f i [] d (Some c) e live few below h =
        omega (arith, occurs_append (named f cells c.left) (i ∷ named f cells c.right) i, hit_same i)
    inside_by f i (false ∷ path) d (Some c) e live few below h =
        let good = sound i c e live in
        let to = ap (λ o. follow cells (child false i o) path) e in
        let P : ℕ → Type 0 = λ x. Among (named f cells c.left ++ (i ∷ named f cells c.right)) x in
        subst P (sym to) (omega (
          arith,
          occurs_append (named f cells c.left) (i ∷ named f cells c.right) (follow cells c.left path),
          below c.left path d good.left_live (omega (arith, good.counts, few)) (sym (ap (slice_get cells) to) ∙ h),
        ))
    inside_by f i (true ∷ path) d (Some c) e live few below h =
        let good = sound i c e live in
        let to = ap (λ o. follow cells (child true i o) path) e in
        let P : ℕ → Type 0 = λ x. Among (named f cells c.left ++ (i ∷ named f cells c.right)) x in
        subst P (sym to) (omega (
          arith,
          occurs_append (named f cells c.left) (i ∷ named f cells c.right) (follow cells c.right path),
          below c.right path d good.right_live (omega (arith, good.counts, few)) (sym (ap (slice_get cells) to) ∙ h),
        ))

    inside : (f : ℕ) → Inside f
    unfolding named
    inside zero i path d live few h = absurd (no_cell i path d (slice_get cells i) refl live few h)
    inside (suc f) i path d live few h = inside_by f i path d (slice_get cells i) refl live few (inside f) h

hit_by : (x i : ℕ) (b : Bool) → eqb x i ≡ b → 0 < cond b 1 0 → x ≡ i
hit_by x i true e h = eqb-true x i e
hit_by x i false e h = absurd (omega arith)

in_use : {E S : Type 0} (o : Option (Cell E S)) → 0 < referred o → (d : Cell E S) × (o ≡ Some d)
in_use None h = absurd (omega arith)
in_use (Some d) h = (d, refl)

module _ {E A S : Type 0} (k : Meaning E A S) (a : List (Cell E S)) (p : Pool) (root : ℕ) (arena : Arena k a p (root ∷ [])) where
  lost : NoneLost k a p (root ∷ [])
  lost = none_lost k a p (root ∷ []) arena

  among_named : (i : ℕ) → i < length a → Reached a (root ∷ []) i → Among (named (cell_count a root) a root) i
  among_named i within r =
      let stands = in_use (slice_get a i) (lost.reached_used i within r) in
      let same : root ≡ r.root = hit_by root r.root (eqb root r.root) refl (omega (arith, r.among)) in
      let leads : follow a root r.path ≡ i = ap (λ x. follow a x r.path) same ∙ r.leads in
      subst (Among (named (cell_count a root) a root)) leads
      (inside a k arena.sound (cell_count a root) root r.path stands.0 (rooted k a p (root ∷ []) arena root (let h = hit_same root in omega arith)) (omega arith)
      (ap (slice_get a) leads ∙ stands.1))

  pub one_each : length a ≤ p.free + length (list a root)
  one_each =
      let n = few_by lost.counted (named (cell_count a root) a root) among_named in
      omega (arith, lost.all, named_count a (cell_count a root) root, count_length (tree a root))
