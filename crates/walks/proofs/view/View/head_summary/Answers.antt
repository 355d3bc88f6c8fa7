use Rattle.std.proofs.Common.{◌-◌, ap, ◌∙◌, arith}
use Rattle.walks.proofs.Nodes.{node_good, node_count}
use Rattle.walks.proofs.Sums.{width_is}
use Rattle.walks.proofs.Summing.{head_named, head_whole, head_left, head_own, head_right}
use Rattle.walks.proofs.view.View.head_summary.Goals as goal

pub returns-then-rest-width : goal.returns-then-rest-width
returns-then-rest-width g c =
    let k = g.K.Kind.meaning c.self.inside.kind.now in
    let laws = g.K.Kind.laws c.self.inside.kind.now in
    let cells = c.self.inside.cells.now in
    let sound = c.self.invariant.sound in
    rw (← c.self.view_is)
    (head_whole laws sound c.self.invariant.live c.loop-rest.invariant _ _
    (c.if-rest-width.true ∙ c.width.ensures ∙ ap k.width c.summary_at-whole.ensures ∙ width_is k laws cells sound _ c.loop-rest.invariant.live)
    c.summary_at-whole.ensures c.join.ensures)

pub cell_at-c-requires : goal.cell_at-c-requires
cell_at-c-requires g c = head_named (g.K.Kind.laws c.self.inside.kind.now) c.self.invariant.sound c.self.invariant.live c.loop-rest.invariant

pub loop-rest-smaller-then-rest-before : goal.loop-rest-smaller-then-rest-before
loop-rest-smaller-then-rest-before g c =
    omega (arith, node_count c.self.invariant.sound _ c.cell_at-c.ensures c.loop-rest.invariant.live)

pub loop-rest-preserved-then-rest-before : goal.loop-rest-preserved-then-rest-before
loop-rest-preserved-then-rest-before g c =
    let k = g.K.Kind.meaning c.self.inside.kind.now in
    let laws = g.K.Kind.laws c.self.inside.kind.now in
    let cells = c.self.inside.cells.now in
    let sound = c.self.invariant.sound in
    let good = node_good sound _ c.cell_at-c.ensures c.loop-rest.invariant.live in
    let before = c.width-before.ensures ∙ ap k.width c.summary_at-left.ensures ∙ width_is k laws cells sound _ good.left_live in
    head_left laws sound c.self.invariant.live c.loop-rest.invariant c.cell_at-c.ensures (omega (arith, c.if-rest-before.true, before))

pub piece-requires : goal.piece-requires
piece-requires g c =
    let good = node_good c.self.invariant.sound _ c.cell_at-c.ensures c.loop-rest.invariant.live in
    let own = c.extent-own.ensures good.lawful in
    record {
      lawful = good.lawful;
      owns = good.owns;
      within = record { some = omega (arith, c.if-rest-before.false); inside = omega (arith, own, c.if-past-own.true) };
    }

pub returns-then-past-own : goal.returns-then-past-own
returns-then-past-own g c =
    let k = g.K.Kind.meaning c.self.inside.kind.now in
    let laws = g.K.Kind.laws c.self.inside.kind.now in
    let cells = c.self.inside.cells.now in
    let sound = c.self.invariant.sound in
    let good = node_good sound _ c.cell_at-c.ensures c.loop-rest.invariant.live in
    let before = c.width-before.ensures ∙ ap k.width c.summary_at-left.ensures ∙ width_is k laws cells sound _ good.left_live in
    let own = c.extent-own.ensures good.lawful in
    rw (← c.self.view_is)
    (head_own laws sound c.self.invariant.live c.loop-rest.invariant c.cell_at-c.ensures (c.loop-rest.rest - c.width-before.result) _ _ _ _
    (omega (arith, c.if-rest-before.false, before)) (omega (arith, own, c.if-past-own.true))
    c.piece.ensures c.summary_at-left.ensures c.join-sum.ensures c.join-then-past-own.ensures)

pub loop-rest-smaller : goal.loop-rest-smaller
loop-rest-smaller g c =
    omega (arith, node_count c.self.invariant.sound _ c.cell_at-c.ensures c.loop-rest.invariant.live)

pub loop-rest-preserved : goal.loop-rest-preserved
loop-rest-preserved g c =
    let k = g.K.Kind.meaning c.self.inside.kind.now in
    let laws = g.K.Kind.laws c.self.inside.kind.now in
    let cells = c.self.inside.cells.now in
    let sound = c.self.invariant.sound in
    let good = node_good sound _ c.cell_at-c.ensures c.loop-rest.invariant.live in
    let before = c.width-before.ensures ∙ ap k.width c.summary_at-left.ensures ∙ width_is k laws cells sound _ good.left_live in
    let own = c.extent-own.ensures good.lawful in
    head_right laws sound c.self.invariant.live c.loop-rest.invariant c.cell_at-c.ensures _ _ _ _
    (omega (arith, own, c.if-rest-before.false, c.if-past-own.false, before)) (omega (arith, c.if-past-own.false))
    c.summary_at-left.ensures c.join-sum.ensures c.join-sum-else-rest-before.ensures
