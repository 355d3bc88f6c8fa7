-- What a root reaches, and that it stays.
use Rattle.std.specs.Prelude.{◌≡◌, ℕ, suc, ◌+◌, ◌<◌, ◌≤◌, Bool, true, false, cond, ◌⊎◌, List, [], ◌∷◌, length, Some, None, Option, ◌==◌}
use Rattle.std.specs.List.{slice_get}
use Rattle.cells.specs.declared.cell.Cell.{Cell}
use Rattle.cells.specs.Cells.{Live}

-- 1 where the link names the cell i
abbrev pub hit : ℕ → ℕ → ℕ
hit link i = cond (link == i) 1 0

-- how often i stands among the roots rs, and that it does
abbrev pub occurs : List ℕ → ℕ → ℕ
occurs [] i = 0
occurs (r ∷ rs) i = hit r i + occurs rs i

abbrev pub Among : List ℕ → ℕ → Type 0
Among rs i = 0 < occurs rs i

-- the left child of what stands at i, or the right one; where nothing stands, i again
abbrev pub child : {E S : Type 0} → Bool → ℕ → Option (Cell E S) → ℕ
child side i None = i
child false i (Some c) = c.left
child true i (Some c) = c.right

-- where a path of sides leads from i, the first step first
abbrev pub follow : {E S : Type 0} → List (Cell E S) → ℕ → List Bool → ℕ
follow cells i [] = i
follow cells i (side ∷ path) = follow cells (child side i (slice_get cells i)) path

-- Some path from one of the roots rs leads to i. However many do, the cell i is reached once: this is a set.
pub record Reached {E S : Type 0} (cells : List (Cell E S)) (rs : List ℕ) (i : ℕ) : Type 0 where
  pub root : ℕ
  pub among : Among rs root
  pub path : List Bool
  pub leads : follow cells root path ≡ i

-- How many of the numbers below n have the property P: each has it, and counts, or has it not.
pub data HowMany (P : ℕ → Type 0) : ℕ → ℕ → Type 0 where
  none : HowMany P 0 0
  one : {n m : ℕ} → P n → HowMany P n m → HowMany P (suc n) (suc m)
  other : {n m : ℕ} → (P n → ⊥) → HowMany P n m → HowMany P (suc n) m

-- two cells are alike in all but the number of references
pub record SameCell {E S : Type 0} (c d : Cell E S) : Type 0 where
  pub element : c.element ≡ d.element
  pub own : c.own ≡ d.own
  pub left : c.left ≡ d.left
  pub right : c.right ≡ d.right
  pub count : c.count ≡ d.count
  pub summary : c.summary ≡ d.summary

abbrev pub Alike : {E S : Type 0} → Option (Cell E S) → Option (Cell E S) → Type 0
Alike None None = Unit {0}
Alike None (Some d) = ⊥
Alike (Some c) None = ⊥
Alike (Some c) (Some d) = SameCell c d

-- what the root r reaches in a is alike in b
abbrev pub Stays : {E S : Type 0} → List (Cell E S) → List (Cell E S) → ℕ → Type 0
Stays a b r = (path : List Bool) → Alike (slice_get a (follow a r path)) (slice_get b (follow a r path))

abbrev pub AllStay : {E S : Type 0} → List (Cell E S) → List (Cell E S) → List ℕ → Type 0
AllStay a b rs = (r : ℕ) → Among rs r → Stays a b r

-- what i names in a is alike in b, and in use there
pub record Remains {E S : Type 0} (a b : List (Cell E S)) (i : ℕ) : Type 0 where
  pub alike : Alike (slice_get a i) (slice_get b i)
  pub live : Live b i

-- From a to b at most n cells are taken: each cell in use in b is one of n, or was in use in a and alike.
pub record Takes {E S : Type 0} (a b : List (Cell E S)) (n : ℕ) : Type 0 where
  pub new : List ℕ
  pub few : length new ≤ n
  pub old : (i : ℕ) → Live b i → Among new i ⊎ Remains b a i
