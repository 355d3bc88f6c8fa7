use Rattle.splits.proofs.Steps.{far_alive, whole, both_hold, linkable_b, some_b, grown}
use Rattle.splits.proofs.regrowing.regrow_one.Goals as goal

pub retain-requires-clause-live : goal.retain-requires-clause-live
retain-requires-clause-live g c = far_alive c.requires c.cell_at-c.ensures c.far_of-far.ensures

pub link_facing-requires : goal.link_facing-requires
link_facing-requires g c =
    let j = c.requires in
    let at = c.cell_at-c.ensures in
    let item = c.from.ensures in
    let far = c.far_of-far.ensures in
    let one = c.retain.ensures.retains in
    let kind = c.retain.ensures.same.kind in
    record {
      holds = rw (kind, c.retain.ensures.pool) (both_hold j at item far one);
      linkable = rw kind (linkable_b j at item far one);
      whole = rw kind (whole j at item);
      some = rw c.retain.ensures.pool (some_b j at item far one);
    }

pub returns-clause-grown : goal.returns-clause-grown
returns-clause-grown g c =
    grown c.requires c.cell_at-c.ensures c.from.ensures c.far_of-far.ensures c.retain.ensures.retains
    (rw (c.retain.ensures.same.kind, c.retain.ensures.pool) at c.link_facing.ensures.grows)
