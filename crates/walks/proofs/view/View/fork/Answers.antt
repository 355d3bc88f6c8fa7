use Rattle.std.proofs.Common.{arith}
use Rattle.walks.proofs.Views.{at_width, at_live}
use Rattle.walks.proofs.Nodes.{node_good, node_count, node_span}
use Rattle.walks.proofs.Summing.{fork_named, fork_left, fork_right, fork_here, span_few}
use Rattle.walks.proofs.view.View.fork.Goals as goal

pub cell_at-c-requires : goal.cell_at-c-requires
cell_at-c-requires g c =
    fork_named (g.K.Kind.laws c.self.inside.kind.now) c.self.invariant.sound c.requires.some c.loop-at.invariant

pub at-requires : goal.at-requires
at-requires g c =
    at_live c.self.view_is _
    (node_good c.self.invariant.sound _ c.cell_at-c.ensures c.loop-at.invariant.live).left_live

pub overflow_add-at : goal.overflow_add-at
overflow_add-at g c =
    omega (
      arith,
      c.loop-at.invariant.inside,
      span_few (g.K.Kind.laws c.self.inside.kind.now) c.self.invariant.sound _ c.loop-at.invariant.live,
    )

pub loop-at-smaller-then-at-len : goal.loop-at-smaller-then-at-len
loop-at-smaller-then-at-len g c =
    omega (arith, node_count c.self.invariant.sound _ c.cell_at-c.ensures c.loop-at.invariant.live)

pub loop-at-preserved-then-at-len : goal.loop-at-preserved-then-at-len
loop-at-preserved-then-at-len g c =
    let before = at_width g.K.Kind.meaning c.self.view_is c.width-before.ensures c.at.ensures in
    fork_left (g.K.Kind.laws c.self.inside.kind.now) c.self.invariant.sound c.requires.some c.loop-at.invariant
    c.cell_at-c.ensures (omega (arith, c.if-at-len.true, before))

pub overflow_add-past : goal.overflow_add-past
overflow_add-past g c =
    let k = g.K.Kind.meaning c.self.inside.kind.now in
    let cells = c.self.inside.cells.now in
    let sound = c.self.invariant.sound in
    let before = at_width g.K.Kind.meaning c.self.view_is c.width-before.ensures c.at.ensures in
    let own = c.extent.ensures (node_good sound _ c.cell_at-c.ensures c.loop-at.invariant.live).lawful in
    omega (
      arith,
      own,
      before,
      node_span sound _ c.cell_at-c.ensures c.loop-at.invariant.live,
      span_few (g.K.Kind.laws c.self.inside.kind.now) sound _ c.loop-at.invariant.live,
    )

pub returns-then-at-past : goal.returns-then-at-past
returns-then-at-past g c =
    let k = g.K.Kind.meaning c.self.inside.kind.now in
    let cells = c.self.inside.cells.now in
    let sound = c.self.invariant.sound in
    let before = at_width g.K.Kind.meaning c.self.view_is c.width-before.ensures c.at.ensures in
    let own = c.extent.ensures (node_good sound _ c.cell_at-c.ensures c.loop-at.invariant.live).lawful in
    rw (← c.self.view_is)
    (fork_here (g.K.Kind.laws c.self.inside.kind.now) sound c.requires.some c.loop-at.invariant c.cell_at-c.ensures
    (omega (arith, c.if-at-len.false, before)) (omega (arith, own, c.if-at-past.true, before)))

pub loop-at-smaller : goal.loop-at-smaller
loop-at-smaller g c =
    omega (arith, node_count c.self.invariant.sound _ c.cell_at-c.ensures c.loop-at.invariant.live)

pub loop-at-preserved : goal.loop-at-preserved
loop-at-preserved g c =
    let k = g.K.Kind.meaning c.self.inside.kind.now in
    let cells = c.self.inside.cells.now in
    let sound = c.self.invariant.sound in
    let before = at_width g.K.Kind.meaning c.self.view_is c.width-before.ensures c.at.ensures in
    let own = c.extent.ensures (node_good sound _ c.cell_at-c.ensures c.loop-at.invariant.live).lawful in
    fork_right (g.K.Kind.laws c.self.inside.kind.now) sound c.requires.some c.loop-at.invariant c.cell_at-c.ensures _
    (omega (arith, own, c.if-at-past.false, before))
