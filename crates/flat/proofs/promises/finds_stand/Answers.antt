use Rattle.flat.proofs.Finding.{find_some, find_one, find_none}
use Rattle.flat.proofs.promises.finds_stand.Goals as goal

pub returns : goal.returns
returns g c =
    let k = g.K.Kind.meaning c.args.kind.now in
    record {
      some = λ tally laws tallies es t l few. find_some k tally laws tallies es l few t;
      one = λ tally laws tallies es t p q l few. find_one k tally laws tallies es l few t p q;
      none = λ tally laws tallies es t p l few. find_none k tally laws tallies es l few t p;
    }
