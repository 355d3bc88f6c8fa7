-- The element that holds a place, in words of lists.
use Rattle.std.specs.Prelude.{◌≡◌, ℕ, ◌+◌, ◌<◌, List, ◌∷◌, ◌++◌}
use Rattle.kinds.specs.Kinds.{Meaning}
use Rattle.balance.specs.Trees.{elements}
use Rattle.balance.specs.Lists.{Shape, extents}
use Rattle.cells.specs.declared.cell.Cell.{Cell}
use Rattle.cells.specs.Cells.{shape, tree}
use Rattle.walks.specs.declared.answers.Reading.{Reading}
use Rattle.walks.specs.Walks.{Leads}
use Rattle.walks.specs.Paths.{ByPath}

-- The atom p of the list es is the atom d of its element e: the extents before e and the offset d make p.
pub record AtomOf {E : Type 0} (k : Shape E) (es : List E) (p : ℕ) (e : E) (d : ℕ) : Type 0 where
  pub before : List E
  pub behind : List E
  pub listed : es ≡ before ++ (e ∷ behind)
  pub reached : extents k before + d ≡ p
  pub inside : d < k.extent e

-- r tells the element that holds the place p under a root, and how many cells lead there
pub record Reads {E A S : Type 0} (k : Meaning E A S) (cells : List (Cell E S)) (root p : ℕ) (r : Reading) : Type 0 where
  pub element : E
  pub holds : AtomOf (shape k) (elements (tree cells root)) p element r.offset
  pub first : r.first ≡ k.first element
  pub second : r.second ≡ k.second element
  pub leads : Leads k cells root p r.count

-- r tells the element of the cell that the one path that holds p leads to, and how many cells that path has
pub record ReadsByPath {E A S : Type 0} (k : Meaning E A S) (cells : List (Cell E S)) (root p : ℕ) (r : Reading) : Type 0 where
  pub by_path : ByPath k cells root p r.count
  pub holds : AtomOf (shape k) (elements (tree cells root)) p by_path.on_path.cell.element r.offset
  pub first : r.first ≡ k.first by_path.on_path.cell.element
  pub second : r.second ≡ k.second by_path.on_path.cell.element
