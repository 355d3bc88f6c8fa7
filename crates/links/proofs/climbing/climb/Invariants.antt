use Rattle.std.proofs.Common.{length}
use Rattle.cells.specs.Lent.{SameLoan}
use Rattle.links.proofs.Climbs.{Climbing}
use Rattle.links.proofs.climbing.climb.Given as goal

abbrev pub invariant-loop-i : goal.invariant-loop-i
invariant-loop-i g l =
    SameLoan l.fn.store l.store × Climbing (g.K.Kind.meaning l.fn.store.kind.now) l.flip l.fn.store.cells.now l.fn.store.pool l.low l.right l.path.items l.store.cells.now l.store.pool l.x (length l.yielded)
