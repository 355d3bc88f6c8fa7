use Rattle.std.proofs.Common.{sym, ◌∙◌, subst}
use Rattle.kinds.specs.Kinds.{Lawful}
use Rattle.cells.specs.Cells.{shape}
use Rattle.splits.proofs.UpTo.{on_from_none, rest_is, rest_within, rest_lawful, none_owns}
use Rattle.splits.proofs.loosening.from_on.Goals as goal

pub returns-then-d-eq0-clause-element : goal.returns-then-d-eq0-clause-element
returns-then-d-eq0-clause-element g c = sym (on_from_none (shape (g.K.Kind.meaning c.args.kind.now)) c.args.loose.element c.args.d c.if-d-eq0.true)

pub returns-clause-tied : goal.returns-clause-tied
returns-clause-tied g c =
    let laws = g.K.Kind.laws c.args.kind.now in
    let lawful = c.requires.tied.lawful in
    let extent = c.extent.ensures lawful in
    let is = c.part.ensures lawful (rest_within laws lawful c.args.d c.requires.inside extent) in
    record { lawful = subst (Lawful (g.K.Kind.meaning c.args.kind.now)) (sym is) (rest_lawful laws lawful c.args.d c.requires.inside extent); owns = λ s none. absurd (none_owns s none) }

pub returns-clause-element : goal.returns-clause-element
returns-clause-element g c =
    let laws = g.K.Kind.laws c.args.kind.now in
    let lawful = c.requires.tied.lawful in
    let extent = c.extent.ensures lawful in
    c.part.ensures lawful (rest_within laws lawful c.args.d c.requires.inside extent) ∙ rest_is laws lawful c.args.d c.requires.inside extent c.if-d-eq0.false
