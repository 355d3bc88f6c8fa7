use Rattle.std.proofs.Common.{arith, w32, SFits}
use Rattle.std.proofs.lemmas.Int.{to_z-of_z, ints}
use Rattle.reels.specs.Gain.{held}
use Rattle.reels.proofs.gain.hold.Goals as goal

pub returns : goal.returns
unfolding held
returns c =
    let f : SFits w32 c.args.x = c.ranges.x in
    grind (arith, to_z-of_z, ints)
