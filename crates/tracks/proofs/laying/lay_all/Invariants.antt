use Rattle.cells.specs.Lent.{SameLoan}
use Rattle.tracks.proofs.Pieces.{SoFar}
use Rattle.tracks.proofs.laying.lay_all.Given as goal

abbrev pub invariant-loop-laid : goal.invariant-loop-laid
invariant-loop-laid g l = SameLoan l.fn.store l.store × SoFar (g.K.Kind.meaning l.fn.store.kind.now) l.fn.store.cells.now l.fn.store.pool l.pieces l.store.cells.now l.store.pool l.root l.laid
