use Rattle.links.proofs.Raises.{far_alive, both_hold, both_sit, passed_whole, raises}
use Rattle.links.proofs.climbing.raise.Goals as goal

pub retain-requires-clause-live : goal.retain-requires-clause-live
retain-requires-clause-live g c = far_alive c.args.flip c.requires.above c.cell_at-c.ensures c.far_of-far.ensures

pub rebalance-requires : goal.rebalance-requires
rebalance-requires g c = rw (c.retain.ensures.same.kind, c.retain.ensures.pool) (record {
  holds = both_hold c.args.flip c.requires.above c.cell_at-c.ensures c.retain.ensures.retains;
  sits = both_sit c.args.flip c.requires.above c.cell_at-c.ensures c.retain.ensures.retains c.far_of-far.ensures c.from.ensures c.requires.sits;
  whole = passed_whole c.args.flip c.requires.above c.cell_at-c.ensures c.from.ensures;
  some = c.requires.some;
})

pub returns-clause-yields : goal.returns-clause-yields
returns-clause-yields g c =
    raises c.args.flip c.requires.above c.cell_at-c.ensures c.retain.ensures.retains c.far_of-far.ensures c.from.ensures (rw (c.retain.ensures.same.kind, c.retain.ensures.pool) at c.rebalance.ensures.yields)
