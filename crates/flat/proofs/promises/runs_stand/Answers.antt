use Rattle.flat.proofs.Runs.{run_tied, run_undo, run_redo}
use Rattle.flat.proofs.Soundness.{run_sound}
use Rattle.flat.proofs.promises.runs_stand.Goals as goal

pub returns : goal.returns
returns g c =
    let k = g.K.Kind.meaning c.args.kind.now in
    record { tied = run_tied k; undo = run_undo k; redo = run_redo k; sound = run_sound k }
