use Rattle.std.proofs.Common.{arith, ◌∙◌}
use Rattle.edits.proofs.Ranges.{ranging, first_owns, first_few, first_some, rest_owns, rest_few, rest_short, rest_some, join_owns, join_few, join_short, join_some, cuts}
use Rattle.edits.proofs.editing.cut.Goals as goal

pub part-first-requires : goal.part-first-requires
part-first-requires g c =
    let at = ranging (g.K.Kind.laws c.args.store.now.kind.now) c.requires.owns c.requires.few in
    record {
      owns = first_owns at c.args.from c.args.len;
      few = first_few at c.args.from c.args.len;
      some = first_some at c.args.from c.args.len (omega (arith, c.requires.some));
    }

pub part_rest-second-requires : goal.part_rest-second-requires
part_rest-second-requires g c =
    let at = ranging (g.K.Kind.laws c.args.store.now.kind.now) c.requires.owns c.requires.few in
    let first = c.part-first.ensures in
    record {
      owns = rw first.same.kind (rest_owns at c.args.from c.args.len first.splits);
      tied = rw first.same.kind first.splits.tied;
      few = rest_few at c.args.from c.args.len first.splits;
      short = rw first.same.kind (rest_short at c.args.from c.args.len first.splits);
      some = rw first.same.kind (rest_some at c.args.from c.args.len first.splits (omega (arith, c.requires.some)));
    }

pub join-left-requires : goal.join-left-requires
join-left-requires g c =
    let at = ranging (g.K.Kind.laws c.args.store.now.kind.now) c.requires.owns c.requires.few in
    let first = c.part-first.ensures in
    let second = rw first.same.kind at c.part_rest-second.ensures.splits in
    let kind = c.part_rest-second.ensures.same.kind ∙ first.same.kind in
    record {
      owns = rw kind (join_owns at c.args.from c.args.len first.splits second);
      tied = rw kind second.tied;
      few = join_few at c.args.from c.args.len first.splits second;
      short = rw kind (join_short at c.args.from c.args.len first.splits second);
      some = join_some at c.args.from c.args.len first.splits second c.requires.some;
    }

pub returns-clause-cuts : goal.returns-clause-cuts
returns-clause-cuts g c =
    let at = ranging (g.K.Kind.laws c.args.store.now.kind.now) c.requires.owns c.requires.few in
    let first = c.part-first.ensures in
    let second = rw first.same.kind at c.part_rest-second.ensures.splits in
    cuts at c.args.from c.args.len first.splits second (rw (c.part_rest-second.ensures.same.kind ∙ first.same.kind) at c.join-left.ensures.grows)
