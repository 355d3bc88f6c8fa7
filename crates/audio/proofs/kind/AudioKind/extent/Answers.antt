use Rattle.std.proofs.Common.{sym}
use Rattle.audio.specs.Lawfulness.{clip_extent, inside}
use Rattle.audio.proofs.kind.AudioKind.extent.Goals as goal

pub returns : goal.returns
returns g c l =
    let samples = g.R.Reel.samples c.args.self.now.reel in
    sym (clip_extent samples c.args.e (inside samples l).within)
