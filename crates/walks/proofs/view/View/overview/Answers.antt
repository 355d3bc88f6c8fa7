use Rattle.std.proofs.Common.{◌≡◌, ℕ, ◌-◌, min, take, drop, sym, ap, ◌∙◌, subst, arith}
use Rattle.kinds.specs.Kinds.{total}
use Rattle.cells.specs.Cells.{tree, meant}
use Rattle.walks.specs.Ranges.{Forked}
use Rattle.walks.proofs.Views.{width, at_is, at_width, at_live}
use Rattle.walks.proofs.Nodes.{node_good}
use Rattle.walks.proofs.Summing.{parted_late, parted_early, parted_inside, parted_sum}
use Rattle.walks.proofs.view.View.overview.Goals as goal

pub at-left-requires : goal.at-left-requires
at-left-requires g c =
    let k = g.K.Kind.meaning c.self.inside.kind.now in
    let laws = g.K.Kind.laws c.self.inside.kind.now in
    let cells = c.self.inside.cells.now in
    let sound = c.self.invariant.sound in
    let parted = c.fork-parted.result in
    let forked = subst (λ v. Forked (g.K.Kind.meaning v.kind) v.cells v.root c.args.from c.args.len parted) (sym c.self.view_is) c.fork-parted.ensures in
    let cell = c.cell_at-c.result in
    let at = c.cell_at-c.ensures in
    at_live c.self.view_is _ (node_good sound _ at forked.live).left_live

pub overflow_sub-own : goal.overflow_sub-own
overflow_sub-own g c =
    let k = g.K.Kind.meaning c.self.inside.kind.now in
    let laws = g.K.Kind.laws c.self.inside.kind.now in
    let cells = c.self.inside.cells.now in
    let sound = c.self.invariant.sound in
    let parted = c.fork-parted.result in
    let forked = subst (λ v. Forked (g.K.Kind.meaning v.kind) v.cells v.root c.args.from c.args.len parted) (sym c.self.view_is) c.fork-parted.ensures in
    let cell = c.cell_at-c.result in
    let at = c.cell_at-c.ensures in
    let good = node_good sound _ at forked.live in
    let before = at_width g.K.Kind.meaning c.self.view_is c.width-before.ensures c.at-left.ensures in
    let own = c.extent-own.ensures good.lawful in
    omega (arith, own, before, c.saturating_sub-skipped.ensures, parted_early laws sound forked at)

pub piece-middle-requires : goal.piece-middle-requires
piece-middle-requires g c =
    let k = g.K.Kind.meaning c.self.inside.kind.now in
    let laws = g.K.Kind.laws c.self.inside.kind.now in
    let cells = c.self.inside.cells.now in
    let sound = c.self.invariant.sound in
    let parted = c.fork-parted.result in
    let forked = subst (λ v. Forked (g.K.Kind.meaning v.kind) v.cells v.root c.args.from c.args.len parted) (sym c.self.view_is) c.fork-parted.ensures in
    let cell = c.cell_at-c.result in
    let at = c.cell_at-c.ensures in
    let good = node_good sound _ at forked.live in
    let before = at_width g.K.Kind.meaning c.self.view_is c.width-before.ensures c.at-left.ensures in
    let own = c.extent-own.ensures good.lawful in
    let early = parted_early laws sound forked at in
    let late = parted_late laws sound forked at in
    record {
      lawful = good.lawful;
      owns = good.owns;
      within = record {
        some = omega (arith, own, laws.some _ good.lawful, before, c.saturating_sub-skipped.ensures, c.saturating_sub.ensures, c.min-taken.ensures);
        inside = omega (arith, own, before, c.saturating_sub-skipped.ensures, c.min-taken.ensures);
      };
    }

pub at-requires : goal.at-requires
at-requires g c =
    let k = g.K.Kind.meaning c.self.inside.kind.now in
    let laws = g.K.Kind.laws c.self.inside.kind.now in
    let cells = c.self.inside.cells.now in
    let sound = c.self.invariant.sound in
    let parted = c.fork-parted.result in
    let forked = subst (λ v. Forked (g.K.Kind.meaning v.kind) v.cells v.root c.args.from c.args.len parted) (sym c.self.view_is) c.fork-parted.ensures in
    let cell = c.cell_at-c.result in
    let at = c.cell_at-c.ensures in
    at_live c.self.view_is _ (node_good sound _ at forked.live).right_live

pub head_summary-head-requires : goal.head_summary-head-requires
head_summary-head-requires g c =
    let k = g.K.Kind.meaning c.self.inside.kind.now in
    let laws = g.K.Kind.laws c.self.inside.kind.now in
    let cells = c.self.inside.cells.now in
    let sound = c.self.invariant.sound in
    let parted = c.fork-parted.result in
    let forked = subst (λ v. Forked (g.K.Kind.meaning v.kind) v.cells v.root c.args.from c.args.len parted) (sym c.self.view_is) c.fork-parted.ensures in
    let cell = c.cell_at-c.result in
    let at = c.cell_at-c.ensures in
    let good = node_good sound _ at forked.live in
    let before = at_width g.K.Kind.meaning c.self.view_is c.width-before.ensures c.at-left.ensures in
    let own = c.extent-own.ensures good.lawful in
    let there = ap (width g.K.Kind.meaning) (at_is c.self.view_is c.at.ensures) in
    omega (arith, there, own, before, c.saturating_sub-skipped.ensures, c.saturating_sub.ensures, c.min-taken.ensures, parted_inside laws sound forked at)

pub returns : goal.returns
returns g c =
    let k = g.K.Kind.meaning c.self.inside.kind.now in
    let laws = g.K.Kind.laws c.self.inside.kind.now in
    let cells = c.self.inside.cells.now in
    let sound = c.self.invariant.sound in
    let parted = c.fork-parted.result in
    let forked = subst (λ v. Forked (g.K.Kind.meaning v.kind) v.cells v.root c.args.from c.args.len parted) (sym c.self.view_is) c.fork-parted.ensures in
    let cell = c.cell_at-c.result in
    let at = c.cell_at-c.ensures in
    let good = node_good sound _ at forked.live in
    let before = at_width g.K.Kind.meaning c.self.view_is c.width-before.ensures c.at-left.ensures in
    let own = c.extent-own.ensures good.lawful in
    let rest = c.args.len - c.saturating_sub.result in
    let taken = c.min-taken.result in
    let tail = subst (λ v. c.tail_summary-tail.result ≡ total (g.K.Kind.meaning v.kind) (drop c.min.result (meant (g.K.Kind.meaning v.kind) (tree v.cells v.root))))
    (at_is c.self.view_is c.at-left.ensures) c.tail_summary-tail.ensures in
    let head = subst (λ v. c.head_summary-head.result ≡ total (g.K.Kind.meaning v.kind) (take (rest - taken) (meant (g.K.Kind.meaning v.kind) (tree v.cells v.root))))
    (at_is c.self.view_is c.at.ensures) c.head_summary-head.ensures in
    rw (← c.self.view_is)
    (parted_sum laws sound forked at
    c.saturating_sub-skipped.result rest taken _ _ _ _ _ c.self.invariant.live
    (omega (arith, before, c.saturating_sub-skipped.ensures)) (omega (arith, before, c.saturating_sub.ensures)) (omega (arith, own, c.min-taken.ensures))
    (tail ∙ ap (λ (n : ℕ). total k (drop n (meant k (tree cells cell.left)))) (c.min.ensures ∙ ap (min parted.from) before))
    c.piece-middle.ensures head c.join.ensures c.join-2.ensures)
