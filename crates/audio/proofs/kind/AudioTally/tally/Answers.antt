use Rattle.audio.specs.Lawfulness.{audio_tallies}
use Rattle.audio.proofs.kind.AudioTally.tally.Goals as goal

pub returns-clause-adds : goal.returns-clause-adds
returns-clause-adds g c = audio_tallies (g.R.Reel.samples c.args.self.now.reel) (g.R.Reel.bounds c.args.self.now.reel)
