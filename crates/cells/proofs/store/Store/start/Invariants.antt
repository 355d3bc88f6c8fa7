use Rattle.cells.proofs.Starts.{FreeTo}
use Rattle.cells.proofs.store.Store.start.Given as goal

abbrev pub invariant-loop-i : goal.invariant-loop-i
invariant-loop-i g l = FreeTo l.cells l.i
