-- What a walk to a place has found, and what its lists of cell numbers stand for.
use Rattle.std.specs.Prelude.{◌≡◌, ℕ, ◌+◌, ◌*◌, ◌^◌, ◌<◌, ◌≤◌, Bool, true, false, List, [], ◌∷◌, length, Some}
use Rattle.std.specs.List.{slice_get}
use Rattle.kinds.specs.Kinds.{Meaning}
use Rattle.balance.specs.Trees.{Tree, count}
use Rattle.balance.specs.Levels.{deepest}
use Rattle.balance.specs.Ways.{here, depth, Step, walked, passed_left, passed_right, way}
use Rattle.cells.specs.declared.cell.Cell.{Cell}
use Rattle.cells.specs.Cells.{shape, tree, seen, far, cell_count}
use Rattle.walks.specs.declared.answers.Found.{Found}
use Rattle.walks.specs.Nesting.{Nested}

-- the cell i holds what a step passed: its element and the child behind it, as seen
pub record Passed {E S : Type 0} (flip : Bool) (cells : List (Cell E S)) (i : ℕ) (s : E × Tree E) : Type 0 where
  pub cell : Cell E S
  pub at : slice_get cells i ≡ Some cell
  pub live : 0 < cell.refs
  pub is : s ≡ (cell.element, seen flip cells (far flip cell))

-- a list of cell numbers, and what it stands for
abbrev pub Table : {E S : Type 0} → Bool → List (Cell E S) → List ℕ → List (E × Tree E) → Type 0
Table flip cells [] [] = Unit {0}
Table flip cells [] (s ∷ ss) = ⊥
Table flip cells (i ∷ is) [] = ⊥
Table flip cells (i ∷ is) (s ∷ ss) = Passed flip cells i s × Table flip cells is ss

-- c cells lead to the place p of the tree under a root, the root and the holding cell included. A tree of n elements is
-- so balanced that c is at most the logarithm of n + 1 to the base 4/3.
pub record Leads {E A S : Type 0} (k : Meaning E A S) (cells : List (Cell E S)) (root p c : ℕ) : Type 0 where
  pub counted : c ≡ depth (way (shape k) (tree cells root) p)
  pub deep : 4 ^ c ≤ 3 ^ c * (count (tree cells root) + 1)
  pub short : c ≤ deepest

-- The walk to the place p ended at a cell: the way to p ends there, and the two lists of cells have what it passed. The
-- cells that it left to their left child lie inside one another, and the one where it ended inside them all.
pub record Walked {E A S : Type 0} (k : Meaning E A S) (cells : List (Cell E S)) (root p : ℕ) (lefts rights : List ℕ) (r : Found) : Type 0 where
  pub cell : Cell E S
  pub at : slice_get cells r.cell ≡ Some cell
  pub live : 0 < cell.refs
  pub steps : List (Step E)
  pub is : way (shape k) (tree cells root) p ≡ walked steps (here (tree cells cell.left) cell.element (tree cells cell.right) r.offset)
  pub inside : r.offset < length (k.atoms cell.element)
  pub to_left : Table false cells lefts (passed_left steps)
  pub to_right : Table true cells rights (passed_right steps)
  pub nested : Nested cells (cell_count cells root + 1) lefts (cell_count cells r.cell + 1)
  pub leads : Leads k cells root p (length lefts + length rights + 1)
