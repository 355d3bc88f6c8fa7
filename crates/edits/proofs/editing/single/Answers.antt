use Rattle.std.proofs.Common.{lit≤}
use Rattle.edits.proofs.Ones.{one_owned, one_fits, makes_one}
use Rattle.edits.proofs.editing.single.Goals as goal

pub make-requires : goal.make-requires
make-requires g c =
    let whole = c.of.ensures.whole c.requires.lawful in
    record {
      owned = (c.requires.owns.rest, one_owned (g.K.Kind.laws c.args.store.now.kind.now) c.requires.owns 4294967295 (lit≤ tt) whole);
      fits = one_fits (g.K.Kind.laws c.args.store.now.kind.now) c.requires.owns 4294967295 (lit≤ tt) whole;
      some = c.requires.some;
    }

pub returns-clause-makes : goal.returns-clause-makes
returns-clause-makes g c = makes_one (g.K.Kind.laws c.args.store.now.kind.now) c.requires.owns 4294967295 (lit≤ tt) (c.of.ensures.whole c.requires.lawful) c.of.ensures.element c.make.new.self.cells.now c.make.new.self.pool c.make.result c.make.ensures.yields
