-- Work that leaves everything as it was.
use Rattle.std.specs.Prelude.{◌≡◌, ℕ, List}
use Rattle.kinds.specs.Kinds.{Meaning}
use Rattle.cells.specs.declared.cell.Cell.{Cell}
use Rattle.cells.specs.declared.pool.Pool.{Pool}
use Rattle.cells.specs.Reach.{AllStay}
use Rattle.cells.specs.References.{Arena}

-- the roots rs are owned still, what they reach has stayed, and as many cells are free as before
pub record Kept {E A S : Type 0} (k : Meaning E A S) (a : List (Cell E S)) (p : Pool) (rs : List ℕ) (b : List (Cell E S)) (q : Pool) : Type 0 where
  pub arena : Arena k b q rs
  pub stay : AllStay a b rs
  pub free : q.free ≡ p.free

-- so whatever is owned
abbrev pub Rests : {E A S : Type 0} → Meaning E A S → List (Cell E S) → Pool → List (Cell E S) → Pool → Type 0
Rests k a p b q = (rs : List ℕ) → Arena k a p rs → Kept k a p rs b q
