use Rattle.std.proofs.Common.{◌∙◌}
use Rattle.paces.proofs.Onces.{left_owned, left_light, left_count, taken_owned, taken_light, cut_rests}
use Rattle.paces.proofs.rounds.cut_once.Goals as goal

pub release-requires : goal.release-requires
release-requires g c =
    let cut = c.cut-r.ensures in
    record {
      owned = rw cut.same.kind (left_owned c.requires.owns c.args.root c.args.from c.args.len c.requires.few cut.cuts);
      few = left_light c.requires.owns c.args.root c.args.from c.args.len c.requires.few cut.cuts;
    }

pub release-requires-2 : goal.release-requires-2
release-requires-2 g c =
    let cut = c.cut-r.ensures in
    let left = rw cut.same.kind at c.release.ensures.releases in
    record {
      owned = rw (c.release.ensures.same.kind ∙ cut.same.kind) (taken_owned c.requires.owns c.args.root c.args.from c.args.len c.requires.few cut.cuts c.release.new.self.cells.now c.release.new.self.pool left);
      few = taken_light c.requires.owns c.args.root c.args.from c.args.len c.requires.few cut.cuts c.release.new.self.cells.now c.release.new.self.pool left;
    }

pub returns-clause-rests : goal.returns-clause-rests
returns-clause-rests g c =
    let cut = c.cut-r.ensures in
    let left = rw cut.same.kind at c.release.ensures.releases in
    let taken = rw (c.release.ensures.same.kind ∙ cut.same.kind) at c.release-2.ensures.releases in
    let long = c.release-2.ensures.same.size ∙ c.release.ensures.same.size ∙ cut.same.size in
    cut_rests c.requires.owns c.args.root c.args.from c.args.len c.requires.few cut.cuts c.release.new.self.cells.now c.release.new.self.pool left c.release-2.new.self.cells.now c.release-2.new.self.pool taken long

pub returns-clause-count : goal.returns-clause-count
returns-clause-count g c = left_count c.requires.owns c.args.root c.args.from c.args.len c.requires.few c.cut-r.ensures.cuts c.count_at-n.ensures
