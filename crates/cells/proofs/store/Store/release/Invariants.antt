use Rattle.std.proofs.Common.{◌+◌, ◌*◌, length}
use Rattle.cells.specs.References.{used}
use Rattle.cells.specs.Lent.{SameLoan}
use Rattle.cells.proofs.Debts.{Paying}
use Rattle.cells.proofs.store.Store.release.Given as goal

abbrev pub invariant-loop-link : goal.invariant-loop-link
invariant-loop-link g l =
    SameLoan l.fn.self l.self × Paying (g.K.Kind.meaning l.fn.self.kind.now) l.fn.self.cells.now l.fn.self.pool l.root l.self.cells.now l.self.pool l.owed.items

abbrev pub decreases-loop-link : goal.decreases-loop-link
decreases-loop-link g l = 2 * used l.self.cells.now + length l.owed.items
