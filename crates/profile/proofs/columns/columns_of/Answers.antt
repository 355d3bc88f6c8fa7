use Rattle.std.proofs.Common.{rules}
use Rattle.profile.proofs.Values.{columns_known}
use Rattle.profile.proofs.columns.columns_of.Goals as goal

pub returns : goal.returns
returns g c =
    let k = g.K.Kind.meaning c.args.k.now in
    columns_known k (k.atoms c.args.e) _ c.args.n _ (λ v. v.items) c.in_columns.result (c.extent.ensures c.requires) c.in_columns.ensures (λ from to s this. search rules)
