use Rattle.std.proofs.Common.{[], ◌∙◌, arith}
use Rattle.paces.proofs.Runs.{none_owned, run_owns, end_arena, end_light, all_back}
use Rattle.paces.proofs.entry.run.Goals as goal

pub lay_all-laid-requires : goal.lay_all-laid-requires
lay_all-laid-requires g c = none_owned c.start-store.ensures.arena

pub worked-sum-requires : goal.worked-sum-requires
worked-sum-requires g c =
    let laid = c.lay_all-laid.ensures in
    record { owns = rw laid.same.kind (run_owns c.start-store.ensures.arena laid.lays); few = laid.lays.few }

pub release-requires : goal.release-requires
release-requires g c =
    let laid = c.lay_all-laid.ensures in
    let rests = rw laid.same.kind at c.worked-sum.ensures.rests in
    record {
      owned = ([], rw (c.worked-sum.ensures.same.kind ∙ laid.same.kind) (end_arena c.start-store.ensures.arena laid.lays rests));
      few = end_light c.start-store.ensures.arena laid.lays rests;
    }

pub returns : goal.returns
returns g c =
    let laid = c.lay_all-laid.ensures in
    let worked = c.worked-sum.ensures in
    let rests = rw laid.same.kind at worked.rests in
    let released = rw (worked.same.kind ∙ laid.same.kind) at c.release.ensures.releases in
    let long = c.release.ensures.same.size ∙ worked.same.size ∙ laid.same.size in
    let all = all_back c.start-store.ensures.arena laid.lays rests c.release.new.self.cells.now c.release.new.self.pool released long in
    omega (arith, c.free.ensures.0, c.start-store.ensures.free, c.requires)
