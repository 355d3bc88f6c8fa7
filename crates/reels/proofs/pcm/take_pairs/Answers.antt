use Rattle.std.proofs.Common.{arith, rules, w16, SFits, length-take}
use Rattle.std.proofs.lemmas.Int.{to_z-of_z}
use Rattle.reels.proofs.Lists.{over_step}
use Rattle.reels.proofs.Pairs.{length_pairs, pairs_more}
use Rattle.reels.proofs.pcm.take_pairs.Goals as goal

pub loop-i-preserved : goal.loop-i-preserved
loop-i-preserved c =
    let r : SFits w16 c.from_le_bytes.result = search rules in
    grind (arith, over_step, to_z-of_z, pairs_more, length_pairs, length-take)
