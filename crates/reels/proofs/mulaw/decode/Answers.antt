use Rattle.std.proofs.Common.{◌∙◌, arith}
use Rattle.reels.proofs.MuTable.{rule, by_formula}
use Rattle.reels.proofs.mulaw.decode.Goals as goal

pub returns : goal.returns
returns c =
    let r = rule c.args.byte (omega arith) in
    record { means = r; rule = r ∙ by_formula c.args.byte }
