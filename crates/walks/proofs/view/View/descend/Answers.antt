use Rattle.std.proofs.Common.{◌-◌, ◌<◌, ◌≤◌, sym, subst, arith}
use Rattle.balance.specs.Levels.{most}
use Rattle.cells.specs.Cells.{cell_count}
use Rattle.walks.proofs.Views.{width, at_width, at_live}
use Rattle.walks.proofs.Nodes.{node_count}
use Rattle.walks.proofs.Descent.{start, descent_named, descent_short, descent_good, go_left, go_right, arrive, arrive_path}
use Rattle.walks.proofs.view.View.descend.Goals as goal

pub loop-at-init : goal.loop-at-init
loop-at-init g c =
    rw (c.clear.ensures, c.clear-2.ensures)
    (start (g.K.Kind.meaning c.self.inside.kind.now) c.self.inside.cells.now c.self.invariant.sound c.self.inside.root c.args.place c.self.invariant.live
    (subst (λ v. c.args.place < width g.K.Kind.meaning v) (sym c.self.view_is) c.requires.within))

pub cell_at-c-requires : goal.cell_at-c-requires
cell_at-c-requires g c = descent_named c.self.invariant.sound c.loop-at.invariant

pub at-requires : goal.at-requires
at-requires g c =
    at_live c.self.view_is _
    (descent_good c.self.invariant.sound c.loop-at.invariant c.cell_at-c.ensures).left_live

pub push-requires : goal.push-requires
push-requires g c =
    omega (
      arith,
      descent_short c.self.invariant.sound c.loop-at.invariant c.self.invariant.live
          (subst (λ v. cell_count v.cells v.root ≤ most) (sym c.self.view_is) c.requires.few),
    )

pub push-requires-else-at-before : goal.push-requires-else-at-before
push-requires-else-at-before g c =
    omega (
      arith,
      descent_short c.self.invariant.sound c.loop-at.invariant c.self.invariant.live
          (subst (λ v. cell_count v.cells v.root ≤ most) (sym c.self.view_is) c.requires.few),
    )

pub loop-at-smaller-then-at-before : goal.loop-at-smaller-then-at-before
loop-at-smaller-then-at-before g c =
    omega (arith, node_count c.self.invariant.sound _ c.cell_at-c.ensures c.loop-at.invariant.live)

pub loop-at-smaller : goal.loop-at-smaller
loop-at-smaller g c =
    omega (arith, node_count c.self.invariant.sound _ c.cell_at-c.ensures c.loop-at.invariant.live)

pub loop-at-preserved-then-at-before : goal.loop-at-preserved-then-at-before
loop-at-preserved-then-at-before g c =
    let k = g.K.Kind.meaning c.self.inside.kind.now in
    let before = at_width g.K.Kind.meaning c.self.view_is c.width-before.ensures c.at.ensures in
    rw c.push.ensures.items
    (go_left c.self.invariant.sound c.loop-at.invariant c.cell_at-c.ensures (omega (arith, before, c.if-at-before.true)))

pub returns-then-past-own : goal.returns-then-past-own
returns-then-past-own g c =
    let k = g.K.Kind.meaning c.self.inside.kind.now in
    let cells = c.self.inside.cells.now in
    let sound = c.self.invariant.sound in
    let v = c.loop-at.invariant in
    let before = at_width g.K.Kind.meaning c.self.view_is c.width-before.ensures c.at.ensures in
    let own = c.extent-own.ensures (descent_good c.self.invariant.sound v c.cell_at-c.ensures).lawful in
    let few = subst (λ v. cell_count v.cells v.root ≤ most) (sym c.self.view_is) c.requires.few in
    rw (← c.self.view_is)
    (record {
      walked =
          arrive c.self.invariant.sound v c.cell_at-c.ensures (c.loop-at.at - c.width-before.result)
          c.self.invariant.live few (omega (arith, before, c.if-at-before.false)) (omega (arith, own, c.if-past-own.true));
      path =
          arrive_path c.self.invariant.sound v c.cell_at-c.ensures (c.loop-at.at - c.width-before.result)
          c.self.invariant.live (omega (arith, before, c.if-at-before.false)) (omega (arith, own, c.if-past-own.true));
    })

pub loop-at-preserved : goal.loop-at-preserved
loop-at-preserved g c =
    let k = g.K.Kind.meaning c.self.inside.kind.now in
    let cells = c.self.inside.cells.now in
    let sound = c.self.invariant.sound in
    let v = c.loop-at.invariant in
    let before = at_width g.K.Kind.meaning c.self.view_is c.width-before.ensures c.at.ensures in
    let own = c.extent-own.ensures (descent_good c.self.invariant.sound v c.cell_at-c.ensures).lawful in
    rw c.push-else-at-before.ensures.items
    (go_right c.self.invariant.sound v c.cell_at-c.ensures (c.loop-at.at - c.width-before.result - c.extent-own.result)
    (omega (arith, own, before, c.if-at-before.false, c.if-past-own.false)))
