use Rattle.std.proofs.Common.{arith, w16, SFits, rules}
use Rattle.std.proofs.lemmas.Int.{to_z-of_z}
use Rattle.reels.proofs.Pairs.{pcm_at}
use Rattle.reels.proofs.pcm.PcmReel.sample.Goals as goal

pub returns : goal.returns
returns c =
    let f : SFits w16 c.from_le_bytes.result = search rules in
    let here = pcm_at c.args.self.now.bytes.now c.args.i (omega arith) in
    grind (arith, to_z-of_z)
