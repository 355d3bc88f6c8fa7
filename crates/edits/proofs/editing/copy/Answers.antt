use Rattle.std.proofs.Common.{◌++◌, ◌∙◌}
use Rattle.splits.specs.Splitting.{loose_roots}
use Rattle.edits.proofs.Ranges.{ranging, first_owns, first_few, first_some, before_arena, before_few, second_owns, second_few, second_short, second_some, last_owns, last_few, copies}
use Rattle.edits.proofs.editing.copy.Goals as goal

pub part-first-requires : goal.part-first-requires
part-first-requires g c =
    let at = ranging (g.K.Kind.laws c.args.store.now.kind.now) c.requires.owns c.requires.few in
    record {
      owns = first_owns at c.args.from c.args.len;
      few = first_few at c.args.from c.args.len;
      some = first_some at c.args.from c.args.len c.requires.some;
    }

pub release-requires : goal.release-requires
release-requires g c =
    let at = ranging (g.K.Kind.laws c.args.store.now.kind.now) c.requires.owns c.requires.few in
    record {
      owned = (loose_roots c.part-first.result.loose ++ c.requires.owns.rest, rw c.part-first.ensures.same.kind (before_arena at c.args.from c.args.len c.part-first.ensures.splits));
      few = before_few at c.args.from c.args.len c.part-first.ensures.splits;
    }

pub part_rest-second-requires : goal.part_rest-second-requires
part_rest-second-requires g c =
    let at = ranging (g.K.Kind.laws c.args.store.now.kind.now) c.requires.owns c.requires.few in
    let first = c.part-first.ensures in
    let let_go = rw first.same.kind at c.release.ensures.releases in
    let kind = c.release.ensures.same.kind ∙ first.same.kind in
    record {
      owns = rw kind (second_owns at c.args.from c.args.len first.splits c.release.new.self.cells.now c.release.new.self.pool let_go);
      tied = rw kind first.splits.tied;
      few = second_few at c.args.from c.args.len first.splits c.release.new.self.cells.now c.release.new.self.pool let_go;
      short = rw kind (second_short at c.args.from c.args.len first.splits c.release.new.self.cells.now c.release.new.self.pool let_go);
      some = rw kind (second_some at c.args.from c.args.len first.splits c.release.new.self.cells.now c.release.new.self.pool let_go c.requires.some);
    }

pub let_go-requires : goal.let_go-requires
let_go-requires g c =
    let at = ranging (g.K.Kind.laws c.args.store.now.kind.now) c.requires.owns c.requires.few in
    let first = c.part-first.ensures in
    let let_go = rw first.same.kind at c.release.ensures.releases in
    let kind = c.release.ensures.same.kind ∙ first.same.kind in
    let second = rw kind at c.part_rest-second.ensures.splits in
    record {
      owns = rw (c.part_rest-second.ensures.same.kind ∙ kind) (last_owns at c.args.from c.args.len first.splits c.release.new.self.cells.now c.release.new.self.pool let_go second);
      few = last_few at c.args.from c.args.len first.splits c.release.new.self.cells.now c.release.new.self.pool let_go second;
    }

pub returns-clause-makes : goal.returns-clause-makes
returns-clause-makes g c =
    let at = ranging (g.K.Kind.laws c.args.store.now.kind.now) c.requires.owns c.requires.few in
    let first = c.part-first.ensures in
    let let_go = rw first.same.kind at c.release.ensures.releases in
    let kind = c.release.ensures.same.kind ∙ first.same.kind in
    let second = rw kind at c.part_rest-second.ensures.splits in
    copies at c.args.from c.args.len first.splits c.release.new.self.cells.now c.release.new.self.pool let_go second c.let_go.new.store.cells.now c.let_go.new.store.pool
    (rw (c.part_rest-second.ensures.same.kind ∙ kind) at c.let_go.ensures.moves)
