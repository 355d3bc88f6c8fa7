use Rattle.std.proofs.Common.{◌∙◌}
use Rattle.splits.proofs.Merges.{merge_some, split_owned, split_few, join_owns, join_few, join_short, join_some, merged, right_lawful}
use Rattle.splits.proofs.InLists.{merges_lists}
use Rattle.splits.proofs.joining.merge.Goals as goal

pub part-split-requires-clause-some : goal.part-split-requires-clause-some
part-split-requires-clause-some g c = merge_some c.requires.owns c.requires.some

pub release-requires : goal.release-requires
release-requires g c =
    let split = c.part-split.ensures.splits in
    record { owned = rw c.part-split.ensures.same.kind (split_owned c.requires.owns c.requires.few split); few = split_few c.requires.owns c.requires.few split }

pub join-requires : goal.join-requires
join-requires g c =
    let split = c.part-split.ensures.splits in
    let let_go = rw c.part-split.ensures.same.kind at c.release.ensures.releases in
    let kind = c.release.ensures.same.kind ∙ c.part-split.ensures.same.kind in
    record {
      owns = rw kind (join_owns c.requires.owns c.requires.few split let_go);
      tied = rw kind split.tied;
      few = join_few c.requires.owns c.requires.few split let_go;
      short = rw kind (join_short c.requires.owns c.requires.few split let_go (g.K.Kind.laws c.args.store.now.kind.now) c.requires.short);
      some = join_some c.requires.owns c.requires.few split let_go c.requires.some;
    }

pub returns-clause-grows : goal.returns-clause-grows
returns-clause-grows g c =
    let let_go = rw c.part-split.ensures.same.kind at c.release.ensures.releases in
    let kind = c.release.ensures.same.kind ∙ c.part-split.ensures.same.kind in
    merged c.requires.owns c.requires.few c.part-split.ensures.splits let_go (rw kind at c.join.ensures.grows)

pub returns-clause-lists : goal.returns-clause-lists
returns-clause-lists g c = merges_lists (g.K.Kind.laws c.args.store.now.kind.now) _ _ (right_lawful c.requires.owns) (returns-clause-grows g c)
