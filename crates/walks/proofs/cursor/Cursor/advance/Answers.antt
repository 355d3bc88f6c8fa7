use Rattle.std.proofs.Common.{refl, arith}
use Rattle.kinds.specs.Kinds.{Within}
use Rattle.walks.proofs.Cursors.{ready_deep, ready_named, ready_live, ready_inside, ready_nested, next_ready, gave_last, gave_whole, ready_ended}
use Rattle.walks.proofs.cursor.Cursor.advance.Goals as goal

pub returns-then-left-eq0-clause-given : goal.returns-then-left-eq0-clause-given
returns-then-left-eq0-clause-given g c = record {
  none = ready_ended (g.K.Kind.laws c.args.kind.now) c.requires.sound c.requires.ready c.if-left-eq0.true;
  spent = c.if-left-eq0.true;
  same = refl;
}

pub cell_at-c-requires : goal.cell_at-c-requires
cell_at-c-requires g c = ready_named (g.K.Kind.laws c.args.kind.now) c.requires.sound c.requires.ready (ready_deep (g.K.Kind.laws c.args.kind.now) c.requires.sound c.requires.ready c.if-left-eq0.false)

pub from_offset-rest-requires : goal.from_offset-rest-requires
from_offset-rest-requires g c =
    let deep = ready_deep (g.K.Kind.laws c.args.kind.now) c.requires.sound c.requires.ready c.if-left-eq0.false in
    record {
      lawful = (c.requires.sound _ c.cell_at-c.result c.cell_at-c.ensures (ready_live (g.K.Kind.laws c.args.kind.now) c.requires.sound c.requires.ready deep c.cell_at-c.ensures)).lawful;
      inside = ready_inside (g.K.Kind.laws c.args.kind.now) c.requires.sound c.requires.ready deep c.cell_at-c.ensures;
    }

pub go_down-requires-clause-live : goal.go_down-requires-clause-live
go_down-requires-clause-live g c =
    (c.requires.sound _ c.cell_at-c.result c.cell_at-c.ensures (ready_live (g.K.Kind.laws c.args.kind.now) c.requires.sound c.requires.ready (ready_deep (g.K.Kind.laws c.args.kind.now) c.requires.sound c.requires.ready c.if-left-eq0.false) c.cell_at-c.ensures)).right_live

pub go_down-requires-clause-nested : goal.go_down-requires-clause-nested
go_down-requires-clause-nested g c = ready_nested (g.K.Kind.laws c.args.kind.now) c.requires.sound c.requires.ready (ready_deep (g.K.Kind.laws c.args.kind.now) c.requires.sound c.requires.ready c.if-left-eq0.false) c.cell_at-c.ensures

pub returns-then-left-width : goal.returns-then-left-width
returns-then-left-width g c =
    let k = g.K.Kind.meaning c.args.kind.now in
    let deep = ready_deep (g.K.Kind.laws c.args.kind.now) c.requires.sound c.requires.ready c.if-left-eq0.false in
    let behind = c.from_offset-rest.ensures in
    let width = c.extent-width.ensures behind.lawful in
    let within : Within k c.from_offset-rest.result 0 c.args.self.now.left = record { some = omega (arith, c.if-left-eq0.false); inside = omega (arith, width, c.if-left-width.true) } in
    record {
      ready = next_ready (g.K.Kind.laws c.args.kind.now) c.requires.sound c.requires.ready deep c.cell_at-c.ensures c.go_down.ensures behind 0 (omega arith);
      given = gave_last (g.K.Kind.laws c.args.kind.now) c.requires.sound c.requires.ready deep c.cell_at-c.ensures c.go_down.ensures behind (omega (arith, width, c.if-left-width.true)) _ within (c.part.ensures behind.lawful within);
    }

pub returns : goal.returns
returns g c =
    let deep = ready_deep (g.K.Kind.laws c.args.kind.now) c.requires.sound c.requires.ready c.if-left-eq0.false in
    let behind = c.from_offset-rest.ensures in
    let width = c.extent-width.ensures behind.lawful in
    record {
      ready = next_ready (g.K.Kind.laws c.args.kind.now) c.requires.sound c.requires.ready deep c.cell_at-c.ensures c.go_down.ensures behind _ (omega (arith, width));
      given = gave_whole (g.K.Kind.laws c.args.kind.now) c.requires.sound c.requires.ready deep c.cell_at-c.ensures c.go_down.ensures behind _ (omega (arith, width, c.if-left-width.false)) (omega (arith, width));
    }
