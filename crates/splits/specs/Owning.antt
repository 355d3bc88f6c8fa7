-- What a call finds: the roots that are owned.
use Rattle.std.specs.Prelude.{ℕ, ◌≤◌, List, ◌++◌, length}
use Rattle.kinds.specs.Kinds.{Meaning}
use Rattle.cells.specs.declared.cell.Cell.{Cell}
use Rattle.cells.specs.declared.pool.Pool.{Pool}
use Rattle.cells.specs.Reach.{Among}
use Rattle.cells.specs.References.{Arena}

-- The roots xs are given away, and at most n others are owned besides, among them those that are lent: a lent root stays
-- owned, and what it reaches stays.
pub record Owns {E A S : Type 0} (k : Meaning E A S) (cells : List (Cell E S)) (pool : Pool) (xs lent : List ℕ) (n : ℕ) : Type 0 where
  pub rest : List ℕ
  pub arena : Arena k cells pool (xs ++ rest)
  pub kept : (i : ℕ) → Among lent i → Among rest i
  pub few : length rest ≤ n
