use Rattle.std.proofs.Common.{ℕ, ◌-◌, length, ap, ◌∙◌, arith}
use Rattle.kinds.specs.Kinds.{Within}
use Rattle.walks.proofs.Cursors.{behind_none, behind_some}
use Rattle.walks.proofs.rounds.from_offset.Goals as goal

pub returns-then-d-eq0 : goal.returns-then-d-eq0
returns-then-d-eq0 g c = behind_none (g.K.Kind.meaning c.args.kind.now) c.args.element c.args.d c.requires.lawful c.if-d-eq0.true

pub returns-else-d-eq0 : goal.returns-else-d-eq0
returns-else-d-eq0 g c =
    let k = g.K.Kind.meaning c.args.kind.now in
    let own = c.extent.ensures c.requires.lawful in
    let within : Within k c.args.element c.args.d (length (k.atoms c.args.element) - c.args.d) = record { some = omega (arith, c.requires.inside); inside = omega (arith, c.requires.inside) } in
    let within' : Within k c.args.element c.args.d (c.extent.result - c.args.d) = record { some = omega (arith, own, c.requires.inside); inside = omega (arith, own, c.requires.inside) } in
    behind_some k (g.K.Kind.laws c.args.kind.now) c.args.element c.args.d c.part.result c.requires.lawful c.if-d-eq0.false within
    (c.part.ensures c.requires.lawful within' ∙ ap (λ (n : ℕ). k.part c.args.element c.args.d (n - c.args.d)) own)
