use Rattle.cells.specs.Cells.{cell_count}
use Rattle.walks.proofs.Summing.{TailAt}
use Rattle.walks.proofs.view.View.tail_summary.Given as goal

abbrev pub invariant-loop-at : goal.invariant-loop-at
invariant-loop-at g l = TailAt (g.K.Kind.meaning l.self-inside.kind.now) l.self-inside.cells.now l.self-inside.root l.from l.cell l.at l.sum

abbrev pub decreases-loop-at : goal.decreases-loop-at
decreases-loop-at g l = cell_count l.self-inside.cells.now l.cell
