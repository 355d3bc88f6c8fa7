use Rattle.std.proofs.Common.{◌≡◌, ◌-◌, arith}
use Rattle.kinds.specs.Places.{extent_of}
use Rattle.walks.specs.Holding.{Reads}
use Rattle.edits.specs.Edits.{list}
use Rattle.edits.proofs.Roots.{wide}
use Rattle.paces.specs.Sums.{step, offset_from}
use Rattle.paces.proofs.Sums.{left_more, sum_more, offset_told}
use Rattle.paces.proofs.rounds.reads.Goals as goal

pub read-found-requires : goal.read-found-requires
read-found-requires g c = rw c.of-view.ensures (record {
  within = omega (arith, c.if-extent-eq0.false, c.extent_at-extent.ensures, c.next.ensures.inside, wide (g.K.Kind.meaning c.args.store.now.kind.now) c.args.store.now.cells.now c.args.root);
  few = c.requires.few;
})

pub loop-preserved : goal.loop-preserved
loop-preserved g c =
    let k = g.K.Kind.meaning c.args.store.now.kind.now in
    let is : c.extent_at-extent.result - 1 ≡ extent_of k (list c.args.store.now.cells.now c.args.root) - 1 = omega (arith, c.extent_at-extent.ensures) in
    let reads : Reads k c.args.store.now.cells.now c.args.root c.next.result c.read-found.result = rw c.of-view.ensures at c.read-found.ensures.reads in
    let gives = offset_from k (list c.args.store.now.cells.now c.args.root) in
    record {
      state = left_more step gives c.loop.counter c.loop.invariant.state c.next.ensures.state;
      sum = sum_more step gives c.loop.counter c.loop.invariant.state c.loop.invariant.sum (offset_told k c.args.store.now.cells.now c.args.root is c.loop.places.state c.next.ensures.state c.next.ensures.place reads);
    }
