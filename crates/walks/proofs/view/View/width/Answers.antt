use Rattle.std.proofs.Common.{ap, ◌∙◌}
use Rattle.walks.proofs.Sums.{width_is}
use Rattle.walks.proofs.view.View.width.Goals as goal

pub returns : goal.returns
returns g c =
    let k = g.K.Kind.meaning c.self.inside.kind.now in
    rw (← c.self.view_is)
    (c.width.ensures ∙ ap k.width c.summary_at.ensures
    ∙ width_is k (g.K.Kind.laws c.self.inside.kind.now) c.self.inside.cells.now c.self.invariant.sound c.self.inside.root c.self.invariant.live)
