use Rattle.std.proofs.Common.{refl, arith}
use Rattle.reels.proofs.Lists.{cut_short}
use Rattle.reels.proofs.Pairs.{length_pairs}
use Rattle.reels.proofs.pcm.Pcm.new.Goals as goal

pub returns-clause-reel : goal.returns-clause-reel
returns-clause-reel c = let n = length_pairs c.args.bytes.now in (refl, cut_short _ (omega (arith, n)))
