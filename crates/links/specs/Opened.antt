-- A cell taken apart.
use Rattle.std.specs.Prelude.{◌≡◌, ℕ, Bool, List, [], ◌∷◌}
use Rattle.kinds.specs.Kinds.{Meaning}
use Rattle.balance.specs.Trees.{node}
use Rattle.cells.specs.declared.cell.Cell.{Cell}
use Rattle.cells.specs.declared.pool.Pool.{Pool}
use Rattle.cells.specs.Cells.{seen}
pub use Rattle.cells.specs.Cells.{Whole}
use Rattle.cells.specs.References.{Arena}
use Rattle.cells.specs.Moves.{Moved}
use Rattle.links.specs.declared.parts.Parts.{Parts}

module _ {E A S : Type 0} (k : Meaning E A S) where
  -- the owned cell i has the given parts, and both children are owned too
  pub record Opens (flip : Bool) (a : List (Cell E S)) (i : ℕ) (b : List (Cell E S)) (parts : Parts E S) : Type 0 where
    pub each : (p : Pool) (rs : List ℕ) → Arena k a p (i ∷ rs) → Moved k a p (i ∷ rs) b p (parts.near ∷ parts.far ∷ []) 0
    pub tree_is : seen flip a i ≡ node (seen flip b parts.near) parts.item.element (seen flip b parts.far)
    pub whole : Whole k parts.item
