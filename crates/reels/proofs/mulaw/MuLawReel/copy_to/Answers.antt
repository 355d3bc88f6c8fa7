use Rattle.std.proofs.Common.{arith}
use Rattle.reels.proofs.Codes.{mu_law_stretch}
use Rattle.reels.proofs.mulaw.MuLawReel.copy_to.Goals as goal

pub returns : goal.returns
returns c =
    let here = mu_law_stretch c.args.self.now.bytes.now c.args.start c.fitting-n.result (omega arith) in
    record { count = omega arith; block = grind arith }
