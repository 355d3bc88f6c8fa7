-- A cursor goes through the elements of a range.
use Rattle.std.specs.Prelude.{◌≡◌, ℕ, ◌+◌, ◌-◌, ◌<◌, ◌≤◌, List, [], ◌∷◌, length, take, drop}
use Rattle.std.specs.List.{flat_map}
use Rattle.kinds.specs.Kinds.{Meaning, Lawful}
use Rattle.balance.specs.Trees.{elements}
use Rattle.balance.specs.Levels.{most}
use Rattle.balance.specs.Lists.{Shape, extents, front, back, between}
use Rattle.balance.specs.Edits.{on_from}
use Rattle.cells.specs.declared.cell.Cell.{Cell}
use Rattle.cells.specs.Cells.{shape, tree, meant}
use Rattle.walks.specs.declared.cursor.Cursor.{Cursor}
use Rattle.walks.specs.Nesting.{Nested, pending}

-- r is what the element e has from its atom d on
pub record Behind {E A S : Type 0} (k : Meaning E A S) (e : E) (d : ℕ) (r : E) : Type 0 where
  pub lawful : Lawful k r
  pub wide : length (k.atoms r) ≡ length (k.atoms e) - d
  pub is : r ≡ on_from (shape k) e d

-- the offset d is inside the first element of a list, if there is one
abbrev pub Begun : {E : Type 0} → Shape E → ℕ → List E → Type 0
Begun k d [] = Unit {0}
Begun k d (e ∷ es) = d < k.extent e

-- what lies behind the cursor's place, its first element still whole
abbrev pub waiting : {E S : Type 0} → List (Cell E S) → Cursor → List E
waiting cells c = pending cells (take c.depth c.table)

-- the elements that the cursor will give: from its offset on, and as many atoms as are left
abbrev pub ahead : {E A S : Type 0} → Meaning E A S → List (Cell E S) → Cursor → List E
ahead k cells c = front (shape k) c.left (back (shape k) c.offset (waiting cells c))

-- a cursor over these cells, as made and as left by each step
pub record Ready {E A S : Type 0} (k : Meaning E A S) (cells : List (Cell E S)) (c : Cursor) : Type 0 where
  pub long : length c.table ≡ 64
  pub fits : c.depth ≤ 64
  pub spare : ℕ
  pub some : 1 ≤ spare
  pub nested : Nested cells (most + 1) (take c.depth c.table) spare
  pub begun : Begun (shape k) c.offset (waiting cells c)
  pub within : c.offset + c.left ≤ extents (shape k) (waiting cells c)

-- a cursor at the start of a range: it will give the elements between its ends, which mean the atoms of the range
pub record Begins {E A S : Type 0} (k : Meaning E A S) (cells : List (Cell E S)) (root from len : ℕ) (c : Cursor) : Type 0 where
  pub ready : Ready k cells c
  pub gives : ahead k cells c ≡ between (shape k) (elements (tree cells root)) from len
  pub atoms : flat_map k.atoms (ahead k cells c) ≡ take len (drop from (meant k (tree cells root)))
  pub all : c.left ≡ len

-- a cursor gave e, and will give what it would have given behind e
pub record Gave {E A S : Type 0} (k : Meaning E A S) (cells : List (Cell E S)) (before after : Cursor) (e : E) : Type 0 where
  pub lawful : Lawful k e
  pub next : ahead k cells before ≡ e ∷ ahead k cells after
  pub spent : before.left ≡ length (k.atoms e) + after.left

-- a cursor had nothing more to give
pub record Ended {E A S : Type 0} (k : Meaning E A S) (cells : List (Cell E S)) (before after : Cursor) : Type 0 where
  pub none : ahead k cells before ≡ []
  pub spent : before.left ≡ 0
  pub same : after ≡ before
