use Rattle.std.proofs.Common.{arith}
use Rattle.reels.proofs.Pairs.{pcm_stretch}
use Rattle.reels.proofs.pcm.PcmReel.copy_to.Goals as goal

pub returns : goal.returns
returns c =
    let here = pcm_stretch c.args.self.now.bytes.now c.args.start c.fitting-n.result (omega arith) in
    record { count = omega arith; block = grind arith }
