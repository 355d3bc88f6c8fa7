use Rattle.edits.proofs.Roots.{gone_none, gone_arena, gone_few, gone_some}
use Rattle.edits.proofs.editing.let_go.Goals as goal

pub release-requires : goal.release-requires
release-requires g c = record {
  owned = (c.requires.owns.rest, gone_arena (g.K.Kind.meaning c.args.store.now.kind.now) c.args.store.now.cells.now c.args.store.now.pool c.args.rest c.in-Some.loose c.in-Some.is c.requires.owns c.requires.few);
  few = gone_few (g.K.Kind.meaning c.args.store.now.kind.now) c.args.store.now.cells.now c.args.store.now.pool c.args.rest c.in-Some.loose c.in-Some.is c.requires.owns c.requires.few;
}

pub returns-in-Some-clause-moves : goal.returns-in-Some-clause-moves
returns-in-Some-clause-moves g c = gone_some (g.K.Kind.meaning c.args.store.now.kind.now) c.args.store.now.cells.now c.args.store.now.pool c.args.rest c.in-Some.loose c.in-Some.is c.requires.owns c.requires.few c.release.new.self.cells.now c.release.new.self.pool c.release.ensures.releases

pub returns-in_default-clause-moves : goal.returns-in_default-clause-moves
returns-in_default-clause-moves g c = gone_none (g.K.Kind.meaning c.args.store.now.kind.now) c.args.store.now.cells.now c.args.store.now.pool c.args.rest c.in_default.is
