use Rattle.std.proofs.Common.{◌-◌, arith}
use Rattle.kinds.specs.Kinds.{Within}
use Rattle.profile.proofs.Made.{part_total}
use Rattle.profile.proofs.columns.stretch.Goals as goal

pub returns-else-from-to : goal.returns-else-from-to
returns-else-from-to g c =
    let lawful = c.requires.lawful in
    let within : Within (g.K.Kind.meaning c.args.k.now) c.args.e c.args.from (c.args.to - c.args.from) = record { some = omega arith; inside = omega (arith, c.requires.inside) } in
    part_total _ (g.K.Kind.laws c.args.k.now) c.args.e _ _ lawful within c.part.result (c.part.ensures lawful within) c.summary.result c.summary.ensures
