use Rattle.std.proofs.Common.{◌≤◌, ◌-◌, sym, ap, ◌∙◌, subst, arith}
use Rattle.walks.proofs.Views.{width, at_width, at_live}
use Rattle.walks.proofs.Nodes.{node_good, node_count}
use Rattle.walks.proofs.Summing.{tail_none, tail_start, tail_named, tail_whole, tail_left, tail_own, tail_right}
use Rattle.walks.proofs.view.View.tail_summary.Goals as goal

pub returns-then-from-width : goal.returns-then-from-width
returns-then-from-width g c =
    rw (← c.self.view_is)
    (tail_none (g.K.Kind.laws c.self.inside.kind.now) c.self.invariant.sound _ _ _ c.empty-sum.ensures
    (c.if-from-width.true ∙ c.width.ensures ∙ ap (width g.K.Kind.meaning) (sym c.self.view_is)))

pub loop-at-init : goal.loop-at-init
loop-at-init g c =
    tail_start (g.K.Kind.laws c.self.inside.kind.now) c.self.invariant.sound _ _ _ c.self.invariant.live
    (subst (λ v. c.args.from ≤ width g.K.Kind.meaning v) (sym c.self.view_is) c.requires) c.empty-sum.ensures

pub returns-then-at-eq0 : goal.returns-then-at-eq0
returns-then-at-eq0 g c =
    rw (← c.self.view_is)
    (tail_whole (g.K.Kind.laws c.self.inside.kind.now) c.self.invariant.sound c.self.invariant.live c.loop-at.invariant _ _ c.if-at-eq0.true c.summary_at.ensures c.join.ensures)

pub cell_at-c-requires : goal.cell_at-c-requires
cell_at-c-requires g c = tail_named (g.K.Kind.laws c.self.inside.kind.now) c.self.invariant.sound c.self.invariant.live c.loop-at.invariant (omega (arith, c.if-at-eq0.false))

pub at-requires : goal.at-requires
at-requires g c =
    at_live c.self.view_is _
    (node_good c.self.invariant.sound _ c.cell_at-c.ensures c.loop-at.invariant.live).left_live

pub loop-at-smaller-then-at-before : goal.loop-at-smaller-then-at-before
loop-at-smaller-then-at-before g c =
    omega (arith, node_count c.self.invariant.sound _ c.cell_at-c.ensures c.loop-at.invariant.live)

pub loop-at-preserved-then-at-before : goal.loop-at-preserved-then-at-before
loop-at-preserved-then-at-before g c =
    let before = at_width g.K.Kind.meaning c.self.view_is c.width-before.ensures c.at.ensures in
    tail_left (g.K.Kind.laws c.self.inside.kind.now) c.self.invariant.sound c.self.invariant.live c.loop-at.invariant c.cell_at-c.ensures _ _ _
    (omega (arith, c.if-at-before.true, before)) c.summary_at-right.ensures c.join-then-at-before.ensures c.join-sum.ensures

pub piece-requires : goal.piece-requires
piece-requires g c =
    let good = node_good c.self.invariant.sound _ c.cell_at-c.ensures c.loop-at.invariant.live in
    let own = c.extent-own.ensures good.lawful in
    record {
      lawful = good.lawful;
      owns = good.owns;
      within = record { some = omega (arith, c.if-past-own.true); inside = omega (arith, own, c.if-past-own.true) };
    }

pub returns-then-past-own : goal.returns-then-past-own
returns-then-past-own g c =
    let before = at_width g.K.Kind.meaning c.self.view_is c.width-before.ensures c.at.ensures in
    let own = c.extent-own.ensures (node_good c.self.invariant.sound _ c.cell_at-c.ensures c.loop-at.invariant.live).lawful in
    rw (← c.self.view_is)
    (tail_own (g.K.Kind.laws c.self.inside.kind.now) c.self.invariant.sound c.self.invariant.live c.loop-at.invariant c.cell_at-c.ensures (c.loop-at.at - c.width-before.result) _ _ _ _ _
    (omega (arith, c.if-at-before.false, before)) (omega (arith, own, c.if-past-own.true)) (omega (arith, own))
    c.piece.ensures c.summary_at-right-then-past-own.ensures c.join-then-past-own.ensures c.join-then-past-own-2.ensures)

pub loop-at-smaller : goal.loop-at-smaller
loop-at-smaller g c =
    omega (arith, node_count c.self.invariant.sound _ c.cell_at-c.ensures c.loop-at.invariant.live)

pub loop-at-preserved : goal.loop-at-preserved
loop-at-preserved g c =
    let before = at_width g.K.Kind.meaning c.self.view_is c.width-before.ensures c.at.ensures in
    let own = c.extent-own.ensures (node_good c.self.invariant.sound _ c.cell_at-c.ensures c.loop-at.invariant.live).lawful in
    tail_right (g.K.Kind.laws c.self.inside.kind.now) c.self.invariant.sound c.self.invariant.live c.loop-at.invariant c.cell_at-c.ensures _ (omega (arith, own, c.if-at-before.false, c.if-past-own.false, before))
