use Rattle.flat.proofs.Refusals.{call_smallest, questions_smallest, refused_changes_nothing}
use Rattle.flat.proofs.promises.refusals_stand.Goals as goal

pub returns : goal.returns
returns g c =
    let k = g.K.Kind.meaning c.args.kind.now in
    record { calls = call_smallest k; questions = questions_smallest k; unchanged = refused_changes_nothing k }
