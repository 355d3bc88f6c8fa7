use Rattle.std.proofs.Common.{arith}
use Rattle.cells.specs.Lent.{same_loan_refl, same_loan_trans}
use Rattle.tracks.proofs.Pieces.{so_far_none, so_far_more, so_far_stopped, so_far_all}
use Rattle.tracks.proofs.laying.lay_all.Goals as goal

pub loop-laid-init : goal.loop-laid-init
loop-laid-init g c = (same_loan_refl _, so_far_none (g.K.Kind.meaning c.args.store.now.kind.now) c.args.store.now.cells.now c.args.store.now.pool c.requires.rest c.requires.arena c.args.pieces.now 4294967295 (omega arith))

pub lay-requires-clause-owns : goal.lay-requires-clause-owns
lay-requires-clause-owns g c = rw c.loop-laid.invariant.0.kind (record { rest = c.requires.rest; arena = (c.loop-laid.invariant.1.each c.requires.rest c.requires.arena).arena; kept = λ i h. omega (arith, h); few = c.requires.few })

pub returns-in-Err-clause-lays : goal.returns-in-Err-clause-lays
returns-in-Err-clause-lays g c = so_far_stopped (g.K.Kind.meaning c.args.store.now.kind.now) c.loop-laid.invariant.1 _ (omega arith) (rw c.loop-laid.invariant.0.kind at c.in-Err.ensures.lays)

pub loop-laid-preserved : goal.loop-laid-preserved
loop-laid-preserved g c = (same_loan_trans c.loop-laid.invariant.0 c.in-Ok.ensures.same, so_far_more (g.K.Kind.meaning c.args.store.now.kind.now) c.loop-laid.invariant.1 _ (omega arith) (rw c.loop-laid.invariant.0.kind at c.in-Ok.ensures.lays))

pub returns-clause-lays : goal.returns-clause-lays
returns-clause-lays g c = so_far_all (g.K.Kind.meaning c.args.store.now.kind.now) c.loop-laid.invariant.1 (omega arith)
