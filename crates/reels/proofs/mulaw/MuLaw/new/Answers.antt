use Rattle.std.proofs.Common.{refl, arith}
use lib.ListN.{length-map}
use Rattle.reels.proofs.Lists.{cut_short}
use Rattle.reels.proofs.mulaw.MuLaw.new.Goals as goal

pub returns-clause-reel : goal.returns-clause-reel
returns-clause-reel c = (refl, cut_short _ (rw length-map (omega arith)))
