use Rattle.std.proofs.Common.{arith, rules, w16, SFits, length-take}
use lib.ListN.{length-map}
use Rattle.std.proofs.lemmas.Int.{to_z-of_z}
use Rattle.std.proofs.lemmas.List.{map_more}
use Rattle.reels.proofs.Lists.{over_step}
use Rattle.reels.proofs.mulaw.expand.Goals as goal

pub loop-i-preserved : goal.loop-i-preserved
loop-i-preserved c =
    let r : SFits w16 c.decode.result = search rules in
    grind (arith, over_step, to_z-of_z, map_more, length-map, length-take, c.decode.ensures.means)
