use Rattle.splits.proofs.BothSides.{behind_grows, behind_regrown}
use Rattle.splits.proofs.siding.behind_of.Goals as goal

pub regrow-requires : goal.regrow-requires
regrow-requires g c = rw (c.retain.ensures.same.kind, c.retain.ensures.pool) (behind_grows c.requires c.retain.ensures.retains)

pub returns-clause-regrown : goal.returns-clause-regrown
returns-clause-regrown g c = rw c.from_on.ensures.root (behind_regrown c.requires c.retain.ensures.retains c.regrow.new.store.cells.now c.regrow.new.store.pool c.regrow.result (rw (c.retain.ensures.same.kind, c.retain.ensures.pool) at c.regrow.ensures.regrown))
