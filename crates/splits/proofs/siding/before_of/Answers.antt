use Rattle.splits.proofs.BothSides.{before_owns, before_few, before_short, before_some, before_grows, before_regrown}
use Rattle.splits.proofs.siding.before_of.Goals as goal

pub up_to-low-requires-clause-owns : goal.up_to-low-requires-clause-owns
up_to-low-requires-clause-owns g c = rw (c.retain.ensures.same.kind, c.retain.ensures.pool) (before_owns c.requires c.retain.ensures.retains)

pub up_to-low-requires-clause-few : goal.up_to-low-requires-clause-few
up_to-low-requires-clause-few g c = rw c.retain.ensures.same.kind (before_few c.requires c.retain.ensures.retains)

pub up_to-low-requires-clause-short : goal.up_to-low-requires-clause-short
up_to-low-requires-clause-short g c = rw c.retain.ensures.same.kind (before_short c.requires c.retain.ensures.retains)

pub up_to-low-requires-clause-some : goal.up_to-low-requires-clause-some
up_to-low-requires-clause-some g c = rw c.retain.ensures.pool (before_some c.requires c.retain.ensures.retains)

pub regrow-requires : goal.regrow-requires
regrow-requires g c =
    let low = rw (c.retain.ensures.same.kind, c.retain.ensures.pool) at c.up_to-low.ensures.grows in
    rw (c.up_to-low.ensures.same.kind, c.retain.ensures.same.kind) (before_grows c.requires c.retain.ensures.retains low)

pub returns-clause-regrown : goal.returns-clause-regrown
returns-clause-regrown g c =
    let low = rw (c.retain.ensures.same.kind, c.retain.ensures.pool) at c.up_to-low.ensures.grows in
    let up = rw (c.up_to-low.ensures.same.kind, c.retain.ensures.same.kind) at c.regrow.ensures.regrown in
    before_regrown c.requires c.retain.ensures.retains low c.regrow.new.store.cells.now c.regrow.new.store.pool c.regrow.result up
