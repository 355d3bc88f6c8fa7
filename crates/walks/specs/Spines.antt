-- A table filled with a cell and the left children below it.
use Rattle.std.specs.Prelude.{◌≡◌, ℕ, ◌+◌, ◌≤◌, List, ◌++◌, length, take}
use Rattle.balance.specs.Trees.{elements}
use Rattle.balance.specs.Levels.{most}
use Rattle.cells.specs.declared.cell.Cell.{Cell}
use Rattle.cells.specs.Cells.{tree}
use Rattle.walks.specs.Nesting.{Nested, pending}

-- the first n places of the table have what stood in it before and then, before that in order, all that lies under a link
pub record Spine {E S : Type 0} (cells : List (Cell E S)) (old : List ℕ) (link : ℕ) (table : List ℕ) (n : ℕ) : Type 0 where
  pub long : length table ≡ 64
  pub fits : n ≤ 64
  pub nested : Nested cells (most + 1) (take n table) 1
  pub waits : pending cells (take n table) ≡ elements (tree cells link) ++ pending cells old
