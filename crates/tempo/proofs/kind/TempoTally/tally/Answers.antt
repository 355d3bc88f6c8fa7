use Rattle.std.proofs.Common.{refl}
use Rattle.tempo.specs.Lawfulness.{tempo_tallies}
use Rattle.tempo.proofs.kind.TempoTally.tally.Goals as goal

pub returns : goal.returns
returns c = record { value = refl; adds = tempo_tallies }
