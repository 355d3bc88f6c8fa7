use Rattle.flat.proofs.Holds.{hold_finds, run_places, run_held, run_apart, run_release, run_hold}
use Rattle.flat.proofs.promises.holds_stand.Goals as goal

pub returns : goal.returns
returns g c =
    let k = g.K.Kind.meaning c.args.kind.now in
    record {
      finds = hold_finds;
      places = run_places k;
      held = run_held k;
      apart = run_apart k;
      release = run_release k;
      hold = run_hold k;
    }
