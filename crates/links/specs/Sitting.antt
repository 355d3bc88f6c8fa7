-- Trees that can stand in cells.
use Rattle.std.specs.Prelude.{◌+◌, ◌<◌, ◌≤◌}
use Rattle.faults.specs.Limits.{limit}
use Rattle.kinds.specs.Kinds.{Meaning}
use Rattle.balance.specs.Trees.{Tree, node, count, Balanced}
use Rattle.balance.specs.Ways.{span}
use Rattle.balance.specs.Levels.{most}
use Rattle.cells.specs.Cells.{shape}

pub record Sits {E A S : Type 0} (k : Meaning E A S) (t : Tree E) : Type 0 where
  pub few : count t ≤ most
  pub short : span (shape k) t ≤ limit
  pub balanced : Balanced t

-- Two trees with an element between them are few elements and few atoms.
pub record Linkable {E A S : Type 0} (k : Meaning E A S) (l : Tree E) (e : E) (r : Tree E) : Type 0 where
  pub few : count l + count r < most
  pub short : span (shape k) (node l e r) ≤ limit
