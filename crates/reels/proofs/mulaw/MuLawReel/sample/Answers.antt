use Rattle.std.proofs.Common.{arith, w16, SFits, rules}
use Rattle.std.proofs.lemmas.Int.{to_z-of_z}
use Rattle.reels.proofs.Codes.{mu_law_at}
use Rattle.reels.proofs.mulaw.MuLawReel.sample.Goals as goal

pub returns : goal.returns
returns c =
    let f : SFits w16 c.decode.result = search rules in
    let here = mu_law_at c.args.self.now.bytes.now c.args.i (omega arith) in
    let is = c.decode.ensures.means in
    grind (arith, to_z-of_z)
