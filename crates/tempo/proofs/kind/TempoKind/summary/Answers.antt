use Rattle.std.proofs.Common.{sym}
use Rattle.tempo.specs.Lawfulness.{total_replicate}
use Rattle.tempo.proofs.kind.TempoKind.summary.Goals as goal

pub returns : goal.returns
returns c l = sym (total_replicate c.args.e.ticks c.args.e.tempo)
