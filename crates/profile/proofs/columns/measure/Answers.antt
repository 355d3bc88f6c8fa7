use Rattle.std.proofs.Common.{sym, arith, rules}
use Rattle.profile.proofs.Made.{summary_made}
use Rattle.profile.proofs.columns.measure.Goals as goal

pub returns : goal.returns
returns g c =
    let made = summary_made (g.K.Kind.meaning c.args.k.now) c.args.a c.args.b c.in_ok-e.e (omega arith) (omega arith) (sym c.in_ok-e.ensures) in
    search (rules, made)
