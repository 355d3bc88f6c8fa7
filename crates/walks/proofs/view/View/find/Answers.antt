use Rattle.std.proofs.Common.{◌<◌, ◌≤◌, ◌-◌, refl, sym, ap, subst, arith}
use Rattle.kinds.specs.Kinds.{Tallies, total}
use Rattle.balance.specs.Levels.{most}
use Rattle.cells.specs.Cells.{cell_count, tree, meant}
use Rattle.walks.proofs.Seeking.{sought_start, sought_named, sought_short, sought_good, sought_sum, sought_width, sought_left, sought_right, sought_few, sought_found, sought_path}
use Rattle.walks.proofs.view.View.find.Goals as goal

pub loop-rest-init : goal.loop-rest-init
loop-rest-init g c =
    let adds = subst (λ v. Tallies (g.K.Kind.meaning v.kind) (g.K.Tally.tallied v.kind)) (sym c.self.view_is) c.requires.adds in
    record {
      adds = adds;
      few = subst (λ v. cell_count v.cells v.root ≤ most) (sym c.self.view_is) c.requires.few;
      sought =
          sought_start (g.K.Kind.meaning c.self.inside.kind.now) (g.K.Kind.laws c.self.inside.kind.now) (g.K.Tally.tallied c.self.inside.kind.now) adds c.self.inside.cells.now c.self.invariant.sound
          c.self.inside.root c.args.t c.self.invariant.live
          (subst (λ v. c.args.t < g.K.Tally.tallied v.kind (total (g.K.Kind.meaning v.kind) (meant (g.K.Kind.meaning v.kind) (tree v.cells v.root)))) (sym c.self.view_is) c.requires.below);
    }

pub cell_at-c-requires : goal.cell_at-c-requires
cell_at-c-requires g c = sought_named (g.K.Kind.laws c.self.inside.kind.now) c.loop-rest.invariant.adds c.self.invariant.sound c.self.invariant.live c.loop-rest.invariant.sought

pub overflow_add-count : goal.overflow_add-count
overflow_add-count g c = omega (arith, sought_short (g.K.Kind.laws c.self.inside.kind.now) c.loop-rest.invariant.adds c.self.invariant.sound c.self.invariant.live c.loop-rest.invariant.sought c.loop-rest.invariant.few)

pub loop-rest-preserved-then-rest-before : goal.loop-rest-preserved-then-rest-before
loop-rest-preserved-then-rest-before g c =
    let tally = g.K.Tally.tallied c.self.inside.kind.now in
    let sum = sought_sum (g.K.Kind.laws c.self.inside.kind.now) c.loop-rest.invariant.adds c.self.invariant.sound c.self.invariant.live c.loop-rest.invariant.sought c.cell_at-c.ensures c.summary_at-left.ensures in
    record {
      adds = c.loop-rest.invariant.adds;
      few = c.loop-rest.invariant.few;
      sought = sought_left (g.K.Kind.laws c.self.inside.kind.now) c.loop-rest.invariant.adds c.self.invariant.sound c.self.invariant.live c.loop-rest.invariant.sought c.cell_at-c.ensures (omega (arith, c.if-rest-before.true, c.tally-before.ensures.value, ap tally sum));
    }

pub overflow_add-start : goal.overflow_add-start
overflow_add-start g c = omega (arith, c.width.ensures, sought_width (g.K.Kind.laws c.self.inside.kind.now) c.loop-rest.invariant.adds c.self.invariant.sound c.self.invariant.live c.loop-rest.invariant.sought c.cell_at-c.ensures c.summary_at-left.ensures, sought_few (g.K.Kind.laws c.self.inside.kind.now) c.loop-rest.invariant.adds c.self.invariant.sound c.self.invariant.live c.loop-rest.invariant.sought c.cell_at-c.ensures)

pub overflow_add-result : goal.overflow_add-result
overflow_add-result g c =
    omega (arith, c.find_within.ensures.inside, c.width.ensures, sought_width (g.K.Kind.laws c.self.inside.kind.now) c.loop-rest.invariant.adds c.self.invariant.sound c.self.invariant.live c.loop-rest.invariant.sought c.cell_at-c.ensures c.summary_at-left.ensures, sought_few (g.K.Kind.laws c.self.inside.kind.now) c.loop-rest.invariant.adds c.self.invariant.sound c.self.invariant.live c.loop-rest.invariant.sought c.cell_at-c.ensures)

pub overflow_add-base : goal.overflow_add-base
overflow_add-base g c =
    let own = c.extent.ensures (sought_good (g.K.Kind.laws c.self.inside.kind.now) c.loop-rest.invariant.adds c.self.invariant.sound c.self.invariant.live c.loop-rest.invariant.sought c.cell_at-c.ensures).lawful in
    omega (arith, own, c.width.ensures, sought_width (g.K.Kind.laws c.self.inside.kind.now) c.loop-rest.invariant.adds c.self.invariant.sound c.self.invariant.live c.loop-rest.invariant.sought c.cell_at-c.ensures c.summary_at-left.ensures, sought_few (g.K.Kind.laws c.self.inside.kind.now) c.loop-rest.invariant.adds c.self.invariant.sound c.self.invariant.live c.loop-rest.invariant.sought c.cell_at-c.ensures)

pub returns-then-past-own : goal.returns-then-past-own
returns-then-past-own g c =
    let tally = g.K.Tally.tallied c.self.inside.kind.now in
    let sum = sought_sum (g.K.Kind.laws c.self.inside.kind.now) c.loop-rest.invariant.adds c.self.invariant.sound c.self.invariant.live c.loop-rest.invariant.sought c.cell_at-c.ensures c.summary_at-left.ensures in
    let width = sought_width (g.K.Kind.laws c.self.inside.kind.now) c.loop-rest.invariant.adds c.self.invariant.sound c.self.invariant.live c.loop-rest.invariant.sought c.cell_at-c.ensures c.summary_at-left.ensures in
    rw (← c.self.view_is)
    (record {
      finds =
          sought_found (g.K.Kind.laws c.self.inside.kind.now) c.loop-rest.invariant.adds c.self.invariant.sound c.self.invariant.live c.loop-rest.invariant.sought c.cell_at-c.ensures (c.loop-rest.rest - c.tally-before.result) c.find_within.result _ _ c.loop-rest.invariant.few
          (omega (arith, c.if-rest-before.false, c.tally-before.ensures.value, ap tally sum)) c.find_within.ensures (omega (arith, c.width.ensures, width)) refl;
      path =
          sought_path (g.K.Kind.laws c.self.inside.kind.now) c.loop-rest.invariant.adds c.self.invariant.sound c.self.invariant.live c.loop-rest.invariant.sought c.cell_at-c.ensures c.find_within.result _ _ c.find_within.ensures.inside (omega (arith, c.width.ensures, width)) refl;
    })

pub loop-rest-preserved : goal.loop-rest-preserved
loop-rest-preserved g c =
    let tally = g.K.Tally.tallied c.self.inside.kind.now in
    let good = sought_good (g.K.Kind.laws c.self.inside.kind.now) c.loop-rest.invariant.adds c.self.invariant.sound c.self.invariant.live c.loop-rest.invariant.sought c.cell_at-c.ensures in
    let sum = sought_sum (g.K.Kind.laws c.self.inside.kind.now) c.loop-rest.invariant.adds c.self.invariant.sound c.self.invariant.live c.loop-rest.invariant.sought c.cell_at-c.ensures c.summary_at-left.ensures in
    let width = sought_width (g.K.Kind.laws c.self.inside.kind.now) c.loop-rest.invariant.adds c.self.invariant.sound c.self.invariant.live c.loop-rest.invariant.sought c.cell_at-c.ensures c.summary_at-left.ensures in
    record {
      adds = c.loop-rest.invariant.adds;
      few = c.loop-rest.invariant.few;
      sought =
          sought_right (g.K.Kind.laws c.self.inside.kind.now) c.loop-rest.invariant.adds c.self.invariant.sound c.self.invariant.live c.loop-rest.invariant.sought c.cell_at-c.ensures _ _
          (omega (arith, c.if-rest-before.false, c.if-past-own.false, c.tally-before.ensures.value, ap tally sum, c.tally-own.ensures.value, ap tally good.owns))
          (omega (arith, c.width.ensures, width, c.extent.ensures good.lawful));
    }
