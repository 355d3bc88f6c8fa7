use Rattle.links.proofs.Openings.{near_alive, room_left, far_alive, opens}
use Rattle.links.proofs.opening.open.Goals as goal

pub retain-requires-clause-live : goal.retain-requires-clause-live
retain-requires-clause-live g c = near_alive c.args.flip c.requires.holds.1 c.cell_at-c.ensures c.near_of-near.ensures

pub retain-requires-2 : goal.retain-requires-2
retain-requires-2 g c = rw c.retain.ensures.same.kind (record {
  holds = (c.requires.holds.0, room_left c.args.flip c.requires.holds.1 c.cell_at-c.ensures c.retain.ensures.retains);
  live = far_alive c.args.flip c.requires.holds.1 c.cell_at-c.ensures c.retain.ensures.retains c.far_of-far.ensures;
})

pub returns-clause-opens : goal.returns-clause-opens
returns-clause-opens g c =
    opens c.args.flip c.requires.holds.1 c.cell_at-c.ensures c.retain.ensures.retains c.near_of-near.ensures c.far_of-far.ensures (rw c.retain.ensures.same.kind at c.retain-2.ensures.retains) c.from.ensures
