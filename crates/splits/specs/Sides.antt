-- What the two sides of a place are grown from.
use Rattle.std.specs.Prelude.{ℕ, ◌-◌, ◌^◌, ◌<◌, ◌≤◌, true, false, List, length}
use Rattle.kinds.specs.Kinds.{Meaning, Lawful}
use Rattle.balance.specs.Trees.{mirror}
use Rattle.balance.specs.Edits.{up_to}
use Rattle.balance.specs.Costs.{up_to_cost}
use Rattle.cells.specs.declared.cell.Cell.{Cell}
use Rattle.cells.specs.declared.pool.Pool.{Pool}
use Rattle.cells.specs.Cells.{shape, tree, Live, Whole}
use Rattle.cells.specs.References.{Arena}
use Rattle.splits.specs.Regrowing.{Climbable}

-- the element of the cell c from its atom d on, then the tree under its right child, and behind it what the cells is have
pub record Behind {E A S : Type 0} (k : Meaning E A S) (cells : List (Cell E S)) (pool : Pool) (c : Cell E S) (d : ℕ) (is : List ℕ) : Type 0 where
  pub rest : List ℕ
  pub arena : Arena k cells pool rest
  pub room : length rest ≤ 2 ^ 21
  pub live : Live cells c.right
  pub whole : Whole k (record { element = c.element; own = c.own })
  pub inside : d < length (k.atoms c.element)
  pub climbs : Climbable k false cells rest (tree cells c.right) is pool.free

-- what the cells is have, and behind it the tree under the left child of c and the first d atoms of its element
pub record Before {E A S : Type 0} (k : Meaning E A S) (cells : List (Cell E S)) (pool : Pool) (c : Cell E S) (d : ℕ) (is : List ℕ) : Type 0 where
  pub rest : List ℕ
  pub arena : Arena k cells pool rest
  pub room : length rest ≤ 2 ^ 21
  pub live : Live cells c.left
  pub lawful : Lawful k c.element
  pub inside : d < length (k.atoms c.element)
  pub some : up_to_cost (tree cells c.left) d ≤ pool.free
  pub climbs : Climbable k true cells rest (mirror (up_to (shape k) (tree cells c.left) c.element d)) is (pool.free - up_to_cost (tree cells c.left) d)
