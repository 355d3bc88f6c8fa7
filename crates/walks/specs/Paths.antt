-- Paths from a root to the cell whose element holds a place. A path is a list of sides, false for the left child; `follow`
-- of cells says where it leads.
use Rattle.std.specs.Prelude.{◌≡◌, ℕ, ◌+◌, ◌<◌, ◌≤◌, Bool, true, false, List, [], ◌∷◌, length, Some, None, Option}
use Rattle.std.specs.List.{slice_get}
use Rattle.kinds.specs.Kinds.{Meaning}
use Rattle.balance.specs.Ways.{span}
use Rattle.cells.specs.declared.cell.Cell.{Cell}
use Rattle.cells.specs.Cells.{shape, tree}
use Rattle.cells.specs.Reach.{child, follow}

module _ {E A S : Type 0} (k : Meaning E A S) (cells : List (Cell E S)) where
  -- how many atoms a step passes: to the left child none, to the right child those of the left child's tree and of the
  -- cell's element; none where no cell stands
  abbrev pub skipped : Bool → Option (Cell E S) → ℕ
  skipped side None = 0
  skipped false (Some c) = 0
  skipped true (Some c) = span (shape k) (tree cells c.left) + length (k.atoms c.element)

  -- how many atoms of the tree under i lie before the subtree that a path leads to
  abbrev pub start_of : ℕ → List Bool → ℕ
  start_of i [] = 0
  start_of i (side ∷ path) = skipped side (slice_get cells i) + start_of (child side i (slice_get cells i)) path

  -- The path leads from the root to a cell in use whose element holds the place p: the element begins behind the cell's
  -- left child, at p or before, and ends behind p.
  pub record OnPath (root p : ℕ) (path : List Bool) : Type 0 where
    pub cell : Cell E S
    pub at : slice_get cells (follow cells root path) ≡ Some cell
    pub live : 0 < cell.refs
    pub begins : start_of root path + span (shape k) (tree cells cell.left) ≤ p
    pub ends : p < start_of root path + span (shape k) (tree cells cell.left) + length (k.atoms cell.element)

  -- c is the number of cells from the root to the cell whose element holds the place p, both included: one path, and no
  -- other, holds p, and it has c - 1 sides.
  pub record ByPath (root p c : ℕ) : Type 0 where
    pub path : List Bool
    pub on_path : OnPath root p path
    pub only : (other : List Bool) → OnPath root p other → other ≡ path
    pub counted_cells : c ≡ length path + 1

  -- and the cell that this path leads to is the cell i
  pub record PathTo (root p c i : ℕ) : Type 0 where
    pub by_path : ByPath root p c
    pub ended : follow cells root by_path.path ≡ i
