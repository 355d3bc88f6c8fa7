use Rattle.cells.specs.Cells.{cell_count}
use Rattle.walks.proofs.Summing.{HeadAt}
use Rattle.walks.proofs.view.View.head_summary.Given as goal

abbrev pub invariant-loop-rest : goal.invariant-loop-rest
invariant-loop-rest g l = HeadAt (g.K.Kind.meaning l.self-inside.kind.now) l.self-inside.cells.now l.self-inside.root l.len l.cell l.rest l.sum

abbrev pub decreases-loop-rest : goal.decreases-loop-rest
decreases-loop-rest g l = cell_count l.self-inside.cells.now l.cell
