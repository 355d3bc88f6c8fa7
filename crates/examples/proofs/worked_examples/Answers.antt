use Rattle.std.proofs.Common.{refl, lit<, lit≤}
use Rattle.faults.specs.declared.session.SessionFault.TheVariants.{BeyondTally}
use Rattle.kinds.specs.Places.{before, after, put_at, taken, without}
use Rattle.flat.specs.States.{kept}
use Rattle.reels.specs.Samples.{cut}
use Rattle.reels.specs.MuLaw.{decoded}
use Rattle.reels.specs.Gain.{scaled, held}
use Rattle.examples.specs.Table.{two_beats}
use Rattle.examples.proofs.worked_examples.Goals as goal

pub returns : goal.returns
unfolding before after put_at taken without kept cut decoded scaled held
returns c =
    record {
      no_length = refl;
      no_atoms = refl;
      within_reel = refl;
      past_reel = refl;
      one = refl;
      divided = refl;
      left = refl;
      clipboard = refl;
      accepted = refl;
      pasted = refl;
      undone = refl;
      mu_law = refl;
      gain = refl;
      first_beat = (refl, (two_beats.present, refl, record { reached = lit≤ tt; passed = lit< tt }));
      second_beat = (refl, (two_beats.present, refl, record { reached = lit≤ tt; passed = lit< tt }));
      beyond = (BeyondTally, refl, refl);
    }
