use Rattle.std.proofs.Common.{ℕ, [], length, ap, ◌∙◌, arith}
use Rattle.cells.specs.Lent.{same_loan_trans}
use Rattle.edits.specs.Edits.{list}
use Rattle.edits.proofs.Roots.{at_top, lent_live}
use Rattle.paces.specs.Sums.{step, cut_from}
use Rattle.paces.proofs.Sums.{left_more, sum_more, cut_told}
use Rattle.paces.proofs.Onces.{rests_owns, rests_list, rests_free, rests_then}
use Rattle.paces.proofs.rounds.cuts.Goals as goal

pub extent_at-end-requires : goal.extent_at-end-requires
extent_at-end-requires g c = record { sound = c.requires.owns.arena.sound; live = lent_live c.requires.owns }

pub cut_once-n-requires : goal.cut_once-n-requires
cut_once-n-requires g c = record {
  owns = rw c.loop.invariant.same.kind (rests_owns c.requires.owns c.loop.invariant.rests);
  few = omega (arith, c.requires.few, ap length (rests_list c.requires.owns c.loop.invariant.rests c.args.root (at_top c.args.root [])));
  some = omega (arith, c.requires.some, rests_free c.requires.owns c.loop.invariant.rests);
}

pub loop-preserved : goal.loop-preserved
loop-preserved g c =
    let k = g.K.Kind.meaning c.args.store.now.kind.now in
    let root = rests_list c.requires.owns c.loop.invariant.rests c.args.root (at_top c.args.root []) in
    let end = c.extent_at-end.ensures in
    let gives = cut_from k (list c.args.store.now.cells.now c.args.root) in
    let after = λ (s : ℕ). step (step s) in
    record {
      same = same_loan_trans c.loop.invariant.same c.cut_once-n.ensures.same;
      rests = rests_then k c.args.store.now.cells.now c.args.store.now.pool c.loop.store.cells.now c.loop.store.pool c.cut_once-n.new.store.cells.now c.cut_once-n.new.store.pool c.loop.invariant.rests (rw c.loop.invariant.same.kind at c.cut_once-n.ensures.rests);
      state = left_more after gives c.loop.counter c.loop.invariant.state (c.next-len.ensures.state ∙ ap step c.next-from.ensures.state);
      sum = sum_more after gives c.loop.counter c.loop.invariant.state c.loop.invariant.sum (cut_told k root end c.loop.places.state c.next-from.ensures.state c.next-from.ensures.place c.next-len.ensures.state c.next-len.ensures.place (rw c.loop.invariant.same.kind at c.cut_once-n.ensures.count));
    }
