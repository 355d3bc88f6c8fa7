-- Where a range parts.
use Rattle.std.specs.Prelude.{◌≡◌, ℕ, ◌+◌, ◌<◌, ◌≤◌, List, length, take, drop, Some}
use Rattle.std.specs.List.{slice_get}
use Rattle.kinds.specs.Kinds.{Meaning}
use Rattle.balance.specs.Ways.{span}
use Rattle.cells.specs.declared.cell.Cell.{Cell}
use Rattle.cells.specs.Cells.{shape, tree, meant, Live}
use Rattle.walks.specs.declared.answers.Fork.{Fork}

-- The range is the len atoms from the atom from on under the cell of r, and neither all before the cell's element nor all
-- behind it.
pub record Forked {E A S : Type 0} (k : Meaning E A S) (cells : List (Cell E S)) (root from len : ℕ) (r : Fork) : Type 0 where
  pub cell : Cell E S
  pub at : slice_get cells r.cell ≡ Some cell
  pub live : Live cells r.cell
  pub listed : take len (drop from (meant k (tree cells root))) ≡ take len (drop r.from (meant k (tree cells r.cell)))
  pub inside : r.from + len ≤ span (shape k) (tree cells r.cell)
  pub not_before : span (shape k) (tree cells cell.left) < r.from + len
  pub not_behind : r.from < span (shape k) (tree cells cell.left) + length (k.atoms cell.element)
