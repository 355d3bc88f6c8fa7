use Rattle.std.proofs.Common.{◌∙◌}
use Rattle.edits.proofs.Roots.{wide}
use Rattle.edits.proofs.extents.extent_at.Goals as goal

pub returns : goal.returns
returns g c = (rw c.of.ensures at c.width.ensures) ∙ wide (g.K.Kind.meaning c.args.store.now.kind.now) c.args.store.now.cells.now c.args.root
