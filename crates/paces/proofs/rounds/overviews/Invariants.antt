use Rattle.std.proofs.Common.{◌≡◌}
use Rattle.edits.specs.Edits.{list}
use Rattle.paces.specs.Sums.{step, left_by, lengths}
use Rattle.paces.proofs.rounds.overviews.Given as goal

abbrev pub invariant-loop : goal.invariant-loop
invariant-loop g l = record {
  state : l.places.state ≡ left_by (λ s. step (step s)) l.counter;
  sum : l.sum ≡ lengths (g.K.Kind.meaning l.store.kind.now) (list l.store.cells.now l.root) l.counter;
}
