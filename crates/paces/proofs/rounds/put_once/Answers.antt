use Rattle.std.proofs.Common.{◌∙◌}
use Rattle.paces.proofs.Onces.{made_owned, made_light, made_count, made_rests}
use Rattle.paces.proofs.rounds.put_once.Goals as goal

pub release-requires : goal.release-requires
release-requires g c =
    let put = c.put-r.ensures in
    record {
      owned = rw put.same.kind (made_owned c.requires.owns c.args.root c.args.place c.args.clip c.requires.few put.makes);
      few = made_light c.requires.owns c.args.root c.args.place c.args.clip c.requires.few put.makes;
    }

pub returns-clause-rests : goal.returns-clause-rests
returns-clause-rests g c =
    let put = c.put-r.ensures in
    let released = rw put.same.kind at c.release.ensures.releases in
    made_rests c.requires.owns c.args.root c.args.place c.args.clip c.requires.few put.makes c.release.new.self.cells.now c.release.new.self.pool released (c.release.ensures.same.size ∙ put.same.size)

pub returns-clause-count : goal.returns-clause-count
returns-clause-count g c = made_count c.requires.owns c.args.root c.args.place c.args.clip c.requires.few c.put-r.ensures.makes c.count_at-n.ensures
