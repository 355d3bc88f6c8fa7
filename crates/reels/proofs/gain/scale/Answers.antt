use Rattle.std.proofs.Common.{arith, w16, SFits}
use Rattle.std.proofs.lemmas.Int.{to_z-of_z}
use Rattle.reels.specs.Gain.{scaled}
use Rattle.reels.proofs.gain.scale.Goals as goal

pub returns : goal.returns
unfolding scaled
returns c =
    let f : SFits w16 c.args.s = c.ranges.s in
    grind (arith, to_z-of_z)
