use Rattle.std.proofs.Common.{rules}
use Rattle.audio.proofs.Louder.{louder_levels}
use Rattle.audio.proofs.measure.louder.Goals as goal

pub returns : goal.returns
returns c p q = search (rules, louder_levels)
