use Rattle.cells.specs.Cells.{cell_count}
use Rattle.walks.proofs.Descent.{Descent}
use Rattle.walks.proofs.view.View.descend.Given as goal

abbrev pub invariant-loop-at : goal.invariant-loop-at
invariant-loop-at g l = Descent (g.K.Kind.meaning l.self-inside.kind.now) l.self-inside.cells.now l.self-inside.root l.place l.cell l.at l.lefts.items l.rights.items

abbrev pub decreases-loop-at : goal.decreases-loop-at
decreases-loop-at g l = cell_count l.self-inside.cells.now l.cell
