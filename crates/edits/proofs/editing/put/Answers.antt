use Rattle.std.proofs.Common.{◌∙◌}
use Rattle.edits.proofs.Puts.{putting, part_owns, part_few, part_some, merge_owns, merge_few, merge_short, merge_some, join_owns, join_few, join_short, join_some, puts}
use Rattle.edits.proofs.editing.put.Goals as goal

pub part-split-requires : goal.part-split-requires
part-split-requires g c =
    let at = putting (g.K.Kind.laws c.args.store.now.kind.now) c.requires.owns c.requires.few c.requires.short c.requires.some in
    record {
      owns = part_owns at c.args.place;
      few = part_few at c.args.place;
      some = part_some at c.args.place;
    }

pub merge-front-requires : goal.merge-front-requires
merge-front-requires g c =
    let at = putting (g.K.Kind.laws c.args.store.now.kind.now) c.requires.owns c.requires.few c.requires.short c.requires.some in
    let split = c.part-split.ensures in
    record {
      owns = rw split.same.kind (merge_owns at c.args.place split.splits);
      few = merge_few at c.args.place split.splits;
      short = rw split.same.kind (merge_short at c.args.place split.splits);
      some = rw split.same.kind (merge_some at c.args.place split.splits);
    }

pub join-requires : goal.join-requires
join-requires g c =
    let at = putting (g.K.Kind.laws c.args.store.now.kind.now) c.requires.owns c.requires.few c.requires.short c.requires.some in
    let split = c.part-split.ensures in
    let front = rw split.same.kind at c.merge-front.ensures.grows in
    let kind = c.merge-front.ensures.same.kind ∙ split.same.kind in
    record {
      owns = rw kind (join_owns at c.args.place split.splits front);
      tied = rw kind split.splits.tied;
      few = join_few at c.args.place split.splits front;
      short = rw kind (join_short at c.args.place split.splits front);
      some = join_some at c.args.place split.splits front;
    }

pub returns-clause-makes : goal.returns-clause-makes
returns-clause-makes g c =
    let at = putting (g.K.Kind.laws c.args.store.now.kind.now) c.requires.owns c.requires.few c.requires.short c.requires.some in
    let split = c.part-split.ensures in
    let front = rw split.same.kind at c.merge-front.ensures.grows in
    puts at c.args.place split.splits front (rw (c.merge-front.ensures.same.kind ∙ split.same.kind) at c.join.ensures.grows)
