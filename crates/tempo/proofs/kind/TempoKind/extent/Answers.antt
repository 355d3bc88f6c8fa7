use Rattle.std.proofs.Common.{sym}
use lib.ListN.{length-replicate}
use Rattle.tempo.proofs.kind.TempoKind.extent.Goals as goal

pub returns : goal.returns
returns c l = sym (length-replicate c.args.e.ticks c.args.e.tempo)
