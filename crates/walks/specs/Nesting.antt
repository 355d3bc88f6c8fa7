-- Cells that lie inside one another, as a table keeps them while a walk goes down or round.
use Rattle.std.specs.Prelude.{◌≡◌, ℕ, ◌+◌, ◌<◌, ◌≤◌, List, [], ◌∷◌, ◌++◌, Some, None, Option}
use Rattle.std.specs.List.{slice_get}
use Rattle.balance.specs.Trees.{elements}
use Rattle.cells.specs.declared.cell.Cell.{Cell}
use Rattle.cells.specs.Cells.{tree, cell_count}

-- the cell i is in use and weighs at most w; of what lies under its left child P holds
pub record Under {E S : Type 0} (cells : List (Cell E S)) (i w : ℕ) (P : ℕ → Type 0) : Type 0 where
  pub cell : Cell E S
  pub at : slice_get cells i ≡ Some cell
  pub live : 0 < cell.refs
  pub light : cell_count cells i + 1 ≤ w
  pub left : P (cell_count cells cell.left + 1)

-- Each cell of a table, the topmost first, weighs no more than the left child of the one before it, the first at most w;
-- and v is at most the weight of the last one's left child.
abbrev pub Nested : {E S : Type 0} → List (Cell E S) → ℕ → List ℕ → ℕ → Type 0
Nested cells w [] v = v ≤ w
Nested cells w (i ∷ is) v = Under cells i w (λ u. Nested cells u is v)

-- what a cell has from its own element on
abbrev pub from_own : {E S : Type 0} → List (Cell E S) → Option (Cell E S) → List E
from_own cells None = []
from_own cells (Some c) = c.element ∷ elements (tree cells c.right)

-- What lies behind the left children of the cells of a table, in order: the last cell of the table comes first.
abbrev pub pending : {E S : Type 0} → List (Cell E S) → List ℕ → List E
pending cells [] = []
pending cells (i ∷ is) = pending cells is ++ from_own cells (slice_get cells i)
