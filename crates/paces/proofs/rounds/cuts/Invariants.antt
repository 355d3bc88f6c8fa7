use Rattle.std.proofs.Common.{◌≡◌}
use Rattle.cells.specs.Lent.{SameLoan}
use Rattle.edits.specs.Edits.{list}
use Rattle.paces.specs.Rests.{Rests}
use Rattle.paces.specs.Sums.{step, left_by, cut_counts}
use Rattle.paces.proofs.rounds.cuts.Given as goal

abbrev pub invariant-loop : goal.invariant-loop
invariant-loop g l = record {
  same : SameLoan l.fn.store l.store;
  rests : Rests (g.K.Kind.meaning l.fn.store.kind.now) l.fn.store.cells.now l.fn.store.pool l.store.cells.now l.store.pool;
  state : l.places.state ≡ left_by (λ s. step (step s)) l.counter;
  sum : l.sum ≡ cut_counts (g.K.Kind.meaning l.fn.store.kind.now) (list l.fn.store.cells.now l.root) l.counter;
}
