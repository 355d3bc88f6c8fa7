use Rattle.std.proofs.Common.{◌∷◌, ◌∙◌}
use Rattle.edits.proofs.Ones.{put_owns, put_few, put_short, put_some, one_arena, one_few, inserts}
use Rattle.edits.proofs.editing.insert.Goals as goal

pub put-r-requires : goal.put-r-requires
put-r-requires g c =
    let kind = c.single-one.ensures.same.kind in
    record {
      owns = rw kind (put_owns c.args.place c.args.element c.requires.owns c.requires.few c.requires.short c.requires.some c.single-one.ensures.makes);
      few = put_few c.args.place c.args.element c.requires.owns c.requires.few c.requires.short c.requires.some c.single-one.ensures.makes;
      short = rw kind (put_short c.args.place c.args.element c.requires.owns c.requires.few c.requires.short c.requires.some c.single-one.ensures.makes);
      some = put_some c.args.place c.args.element c.requires.owns c.requires.few c.requires.short c.requires.some c.single-one.ensures.makes;
    }

pub release-requires : goal.release-requires
release-requires g c =
    let put = rw c.single-one.ensures.same.kind at c.put-r.ensures.makes in
    record {
      owned = (c.put-r.result ∷ c.requires.owns.rest, rw (c.put-r.ensures.same.kind ∙ c.single-one.ensures.same.kind) (one_arena c.args.place c.args.element c.requires.owns c.requires.few c.requires.short c.requires.some c.single-one.ensures.makes put));
      few = one_few c.args.place c.args.element c.requires.owns c.requires.few c.requires.short c.requires.some c.single-one.ensures.makes put;
    }

pub returns-clause-makes : goal.returns-clause-makes
returns-clause-makes g c =
    let put = rw c.single-one.ensures.same.kind at c.put-r.ensures.makes in
    inserts c.args.place c.args.element c.requires.owns c.requires.few c.requires.short c.requires.some c.single-one.ensures.makes put c.release.new.self.cells.now c.release.new.self.pool
    (rw (c.put-r.ensures.same.kind ∙ c.single-one.ensures.same.kind) at c.release.ensures.releases)
