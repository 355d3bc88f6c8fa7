use Rattle.flat.proofs.Reading.{read_some, read_one, read_atom}
use Rattle.flat.proofs.promises.reads_stand.Goals as goal

pub returns : goal.returns
returns g c =
    let k = g.K.Kind.meaning c.args.kind.now in
    record { some = read_some k; one = read_one k; atom = read_atom k }
