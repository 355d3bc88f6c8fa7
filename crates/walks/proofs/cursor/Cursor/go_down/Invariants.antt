use Rattle.std.proofs.Common.{take}
use Rattle.cells.specs.Cells.{cell_count}
use Rattle.walks.proofs.Nestings.{SpineAt}
use Rattle.walks.proofs.cursor.Cursor.go_down.Given as goal

abbrev pub invariant-loop-self : goal.invariant-loop-self
invariant-loop-self g l = SpineAt l.cells (take l.initial.self.depth l.initial.self.table) l.link l.self.table l.self.depth l.cell

abbrev pub decreases-loop-self : goal.decreases-loop-self
decreases-loop-self g l = cell_count l.cells l.cell
