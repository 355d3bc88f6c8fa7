use Rattle.std.proofs.Common.{length, ap, arith}
use Rattle.kinds.specs.Places.{extent_of}
use Rattle.cells.proofs.Names.{hit_same}
use Rattle.cells.specs.Lent.{same_loan_trans}
use Rattle.edits.specs.Edits.{list}
use Rattle.edits.proofs.Roots.{lent_live}
use Rattle.paces.specs.Sums.{step, put_from}
use Rattle.paces.proofs.Sums.{left_more, sum_more, put_told}
use Rattle.paces.proofs.Onces.{rests_owns, rests_list, rests_free, rests_then}
use Rattle.paces.proofs.rounds.puts.Goals as goal

pub extent_at-end-requires : goal.extent_at-end-requires
extent_at-end-requires g c = record { sound = c.requires.owns.arena.sound; live = lent_live c.requires.owns }

pub put_once-n-requires : goal.put_once-n-requires
put_once-n-requires g c =
    let root = rests_list c.requires.owns c.loop.invariant.rests c.args.root (let h = hit_same c.args.root in omega arith) in
    let clip = rests_list c.requires.owns c.loop.invariant.rests c.args.clip (let h = hit_same c.args.clip in omega arith) in
    record {
      owns = rw c.loop.invariant.same.kind (rests_owns c.requires.owns c.loop.invariant.rests);
      few = omega (arith, c.requires.few, ap length root, ap length clip);
      short = rw c.loop.invariant.same.kind (omega (arith, c.requires.short, ap (extent_of (g.K.Kind.meaning c.args.store.now.kind.now)) root, ap (extent_of (g.K.Kind.meaning c.args.store.now.kind.now)) clip));
      some = omega (arith, c.requires.some, rests_free c.requires.owns c.loop.invariant.rests);
    }

pub loop-preserved : goal.loop-preserved
loop-preserved g c =
    let k = g.K.Kind.meaning c.args.store.now.kind.now in
    let root = rests_list c.requires.owns c.loop.invariant.rests c.args.root (let h = hit_same c.args.root in omega arith) in
    let clip = rests_list c.requires.owns c.loop.invariant.rests c.args.clip (let h = hit_same c.args.clip in omega arith) in
    let end = c.extent_at-end.ensures in
    let gives = put_from k (list c.args.store.now.cells.now c.args.root) (list c.args.store.now.cells.now c.args.clip) in
    record {
      same = same_loan_trans c.loop.invariant.same c.put_once-n.ensures.same;
      rests = rests_then k c.args.store.now.cells.now c.args.store.now.pool c.loop.store.cells.now c.loop.store.pool c.put_once-n.new.store.cells.now c.put_once-n.new.store.pool c.loop.invariant.rests (rw c.loop.invariant.same.kind at c.put_once-n.ensures.rests);
      state = left_more step gives c.loop.counter c.loop.invariant.state c.next.ensures.state;
      sum = sum_more step gives c.loop.counter c.loop.invariant.state c.loop.invariant.sum (put_told k root end c.loop.places.state c.next.ensures.state c.next.ensures.place clip (rw c.loop.invariant.same.kind at c.put_once-n.ensures.count));
    }
