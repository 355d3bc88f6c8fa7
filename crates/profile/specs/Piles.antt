-- A pile of layers as audio.
use Rattle.std.specs.Prelude.{ℕ, List, Some, None, Ok, Err, Option, Result}
use Rattle.faults.specs.declared.reel.ReelFault.{ReelFault}
use Rattle.faults.specs.declared.session.SessionFault.{SessionFault}
use Rattle.audio.specs.Audio.{audio, clip_made}
use Rattle.audio.specs.declared.levels.Levels.{Levels}
pub use Rattle.reels.specs.Piles.{pile, pile_refusal}
use Rattle.profile.specs.Columns.{summary_of}
use Rattle.profile.specs.declared.fault.SurveyFault.{SurveyFault}
use Rattle.profile.specs.declared.fault.SurveyFault.TheVariants.{Reel, Session}

-- bytes that are no reel are refused before anything else is looked at
abbrev pub over_reel : {X : Type 0} → Option ReelFault → Result X SurveyFault → Result X SurveyFault
over_reel (Some f) later = Err (Reel f)
over_reel None later = later

-- a session's refusal, carried whole inside the survey's
abbrev pub surveyed : {X : Type 0} → Result X SessionFault → Result X SurveyFault
surveyed (Ok x) = Ok x
surveyed (Err f) = Err (Session f)

-- the levels of a stretch of the pile, or the first reason against them
abbrev pub pile_levels : List ℕ → List ℕ → ℕ → ℕ → ℕ → Result Levels SurveyFault
pile_levels first second n start frames =
    over_reel (pile_refusal first second) (surveyed (summary_of (audio (pile first second n)) (clip_made (pile first second n) start frames)))
