-- Up the cells that a walk passed, by links.
use Rattle.std.specs.Prelude.{ℕ, ◌+◌, ◌^◌, ◌≤◌, Bool, List, [], ◌∷◌, length}
use Rattle.faults.specs.Limits.{limit}
use Rattle.kinds.specs.Kinds.{Meaning}
use Rattle.balance.specs.Trees.{Tree, count}
use Rattle.balance.specs.Links.{link, rebuilt, passed_count}
use Rattle.balance.specs.Ways.{span, passed_span}
use Rattle.balance.specs.Levels.{most}
use Rattle.balance.specs.Costs.{link_cost, rebuilt_cost}
use Rattle.cells.specs.declared.cell.Cell.{Cell}
use Rattle.cells.specs.declared.pool.Pool.{Pool}
use Rattle.cells.specs.Cells.{shape, seen}
use Rattle.cells.specs.Reach.{Among, Reached}
use Rattle.cells.specs.References.{Arena}
use Rattle.links.specs.Sitting.{Linkable}
use Rattle.walks.specs.Walks.{Passed, Table}
use Rattle.splits.specs.Splitting.{Grows}

-- The tree of the owned root low can be linked with what the cell i holds, which other roots reach.
pub record Joinable {E A S : Type 0} (k : Meaning E A S) (flip : Bool) (cells : List (Cell E S)) (pool : Pool) (low i : ℕ) : Type 0 where
  pub rest : List ℕ
  pub arena : Arena k cells pool (low ∷ rest)
  pub reached : Reached cells rest i
  pub room : length rest ≤ 2 ^ 22
  pub step : E × Tree E
  pub passed : Passed flip cells i step
  pub linkable : Linkable k (seen flip cells low) step.0 step.1
  pub some : link_cost (seen flip cells low) step.1 ≤ pool.free

-- A tree t can be linked with all that the cells is stand for, which the roots rest reach, by so many free cells.
pub record Climbable {E A S : Type 0} (k : Meaning E A S) (flip : Bool) (cells : List (Cell E S)) (rest : List ℕ) (t : Tree E) (is : List ℕ) (free : ℕ) : Type 0 where
  pub steps : List (E × Tree E)
  pub passed : Table flip cells is steps
  pub reached : (i : ℕ) → Among is i → Reached cells rest i
  pub few : count t + passed_count steps ≤ most
  pub short : span (shape k) t + passed_span (shape k) steps ≤ limit
  pub some : rebuilt_cost steps t ≤ free

-- so for the tree of the owned root low
pub record Growable {E A S : Type 0} (k : Meaning E A S) (flip : Bool) (cells : List (Cell E S)) (pool : Pool) (low : ℕ) (is : List ℕ) : Type 0 where
  pub rest : List ℕ
  pub arena : Arena k cells pool (low ∷ rest)
  pub room : length rest ≤ 2 ^ 22
  pub climbs : Climbable k flip cells rest (seen flip cells low) is pool.free

module _ {E A S : Type 0} (k : Meaning E A S) (flip : Bool) (a : List (Cell E S)) (p : Pool) where
  -- low was linked with what the cell i holds
  abbrev pub Grown : ℕ → ℕ → List (Cell E S) → Pool → ℕ → Type 0
  Grown low i b q r = (s : E × Tree E) → Passed flip a i s
      → Grows k flip a p (low ∷ []) b q r (link (seen flip a low) s.0 s.1) (link_cost (seen flip a low) s.1)

  -- From the given roots xs, and by n cells, a tree t was made, and linked with all that the cells is stand for.
  abbrev pub Regrown : List ℕ → Tree E → ℕ → List ℕ → List (Cell E S) → Pool → ℕ → Type 0
  Regrown xs t n is b q r = (ss : List (E × Tree E)) → Table flip a is ss
      → Grows k flip a p xs b q r (rebuilt link ss t) (n + rebuilt_cost ss t)
