use Rattle.std.proofs.Common.{◌≡◌, ℕ, ◌+◌, ◌-◌, take, drop, ap, ◌∙◌, arith}
use Rattle.kinds.specs.Kinds.{total}
use Rattle.kinds.specs.Places.{extent_of}
use Rattle.cells.specs.Cells.{tree, meant}
use Rattle.edits.specs.Edits.{list}
use Rattle.edits.proofs.Roots.{wide}
use Rattle.paces.specs.Sums.{step, length_from}
use Rattle.paces.proofs.Sums.{left_more, sum_more, length_told, width_found}
use Rattle.paces.proofs.rounds.overviews.Goals as goal

pub overview-s-requires-clause-within : goal.overview-s-requires-clause-within
overview-s-requires-clause-within g c = rw c.of-view.ensures
    (omega (arith, c.if-extent-eq0.false, c.extent_at-extent.ensures, c.next-from.ensures.inside, c.next-len.ensures.inside, wide (g.K.Kind.meaning c.args.store.now.kind.now) c.args.store.now.cells.now c.args.root))

pub loop-preserved : goal.loop-preserved
loop-preserved g c =
    let k = g.K.Kind.meaning c.args.store.now.kind.now in
    let is : c.extent_at-extent.result - 1 ≡ extent_of k (list c.args.store.now.cells.now c.args.root) - 1 = omega (arith, c.extent_at-extent.ensures) in
    let gives = length_from k (list c.args.store.now.cells.now c.args.root) in
    let told = length_told k c.args.store.now.cells.now c.args.root is c.loop.places.state c.next-from.ensures.state c.next-from.ensures.place c.next-len.ensures.state c.next-len.ensures.place in
    let seen : c.overview-s.result ≡ total k (take (c.next-len.result + 1) (drop c.next-from.result (meant k (tree c.args.store.now.cells.now c.args.root)))) = rw c.of-view.ensures at c.overview-s.ensures in
    let width : c.width.result ≡ c.next-len.result + 1 =
    c.width.ensures ∙ ap k.width seen
    ∙ width_found k (g.K.Kind.laws c.args.store.now.kind.now) c.args.store.now.cells.now c.requires.sound c.args.root c.requires.live c.next-from.result (c.next-len.result + 1)
    (omega (arith, c.if-extent-eq0.false, c.extent_at-extent.ensures, c.next-from.ensures.inside, c.next-len.ensures.inside, wide k c.args.store.now.cells.now c.args.root)) in
    let after = λ (s : ℕ). step (step s) in
    record {
      state = left_more after gives c.loop.counter c.loop.invariant.state (c.next-len.ensures.state ∙ ap step c.next-from.ensures.state);
      sum = sum_more after gives c.loop.counter c.loop.invariant.state c.loop.invariant.sum (width ∙ told);
    }
