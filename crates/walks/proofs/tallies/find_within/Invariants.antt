use Rattle.walks.proofs.Halving.{Halved}
use Rattle.walks.proofs.tallies.find_within.Given as goal

abbrev pub invariant-loop-len : goal.invariant-loop-len
invariant-loop-len g l = Halved (g.K.Kind.meaning l.kind) (g.K.Tally.tallied l.kind) ((g.K.Kind.meaning l.kind).atoms l.element) l.t l.from l.len l.rest

abbrev pub decreases-loop-len : goal.decreases-loop-len
decreases-loop-len g l = l.len
