-- A version of a list: a kind, the cells, and a root among them.
use Rattle.std.specs.Prelude.{ℕ, List}
use Rattle.kinds.specs.Kinds.{Meaning}
use Rattle.cells.specs.declared.cell.Cell.{Cell}
use Rattle.cells.specs.Cells.{Live, Sound}

pub record Version (K E S : Type 0) : Type 0 where
  pub kind : K
  pub cells : List (Cell E S)
  pub root : ℕ

-- what every cell in use tells is true, and the root names one of them or none
pub record Standing {E A S : Type 0} (k : Meaning E A S) (cells : List (Cell E S)) (root : ℕ) : Type 0 where
  pub sound : Sound k cells
  pub live : Live cells root
