use Rattle.std.specs.Iterator.Adapters.{rev_source}
use Rattle.std.specs.Slice.Iter.{iter_rest}
use Rattle.cells.specs.Lent.{SameLoan}
use Rattle.splits.specs.Regrowing.{Growable}
use Rattle.splits.proofs.Loops.{Regrowing}
use Rattle.splits.proofs.regrowing.regrow.Given as goal

abbrev pub invariant-loop-i : goal.invariant-loop-i
invariant-loop-i g l =
    SameLoan l.fn.store l.store
    × ((grows : Growable (g.K.Kind.meaning l.fn.store.kind.now) l.flip l.fn.store.cells.now l.fn.store.pool l.low l.passed)
    → Regrowing grows l.store.cells.now l.store.pool l.x (iter_rest (rev_source l.i-iterator)))
