-- Places found by a tally.
use Rattle.std.specs.Prelude.{ℕ, ◌+◌, ◌<◌, ◌≤◌, List, length, take}
use Rattle.kinds.specs.Kinds.{Meaning, total}
use Rattle.cells.specs.declared.cell.Cell.{Cell}
use Rattle.cells.specs.Cells.{tree, meant}
use Rattle.walks.specs.declared.answers.Located.{Located}
use Rattle.walks.specs.Walks.{Leads}

-- The atom p is where the tally of a list passes t: that of the first p atoms is at most t, that of the first p + 1
-- exceeds t.
pub record Passes {E A S : Type 0} (k : Meaning E A S) (tally : S → ℕ) (atoms : List A) (t p : ℕ) : Type 0 where
  pub inside : p < length atoms
  pub before : tally (total k (take p atoms)) ≤ t
  pub past : t < tally (total k (take (p + 1) atoms))

-- r tells the place where the tally of the tree under a root passes t, and how many cells lead there
pub record Finds {E A S : Type 0} (k : Meaning E A S) (tally : S → ℕ) (cells : List (Cell E S)) (root t : ℕ) (r : Located) : Type 0 where
  pub passes : Passes k tally (meant k (tree cells root)) t r.place
  pub leads : Leads k cells root r.place r.count
