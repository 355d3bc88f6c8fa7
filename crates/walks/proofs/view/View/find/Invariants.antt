use Rattle.std.proofs.Common.{◌≤◌}
use Rattle.kinds.specs.Kinds.{Tallies}
use Rattle.balance.specs.Levels.{most}
use Rattle.cells.specs.Cells.{cell_count}
use Rattle.walks.proofs.Seeking.{Sought}
use Rattle.walks.proofs.view.View.find.Given as goal

abbrev pub invariant-loop-rest : goal.invariant-loop-rest
invariant-loop-rest g l = record {
  adds : Tallies (g.K.Kind.meaning l.self-inside.kind.now) (g.K.Tally.tallied l.self-inside.kind.now);
  few : cell_count l.self-inside.cells.now l.self-inside.root ≤ most;
  sought : Sought (g.K.Kind.meaning l.self-inside.kind.now) (g.K.Tally.tallied l.self-inside.kind.now) l.self-inside.cells.now l.self-inside.root l.t l.cell l.rest l.base l.count;
}

abbrev pub decreases-loop-rest : goal.decreases-loop-rest
decreases-loop-rest g l = cell_count l.self-inside.cells.now l.cell
