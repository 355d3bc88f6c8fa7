-- The ten calls that change a session, by their numbers, and how a call can end.
use Rattle.std.specs.Prelude.{ℕ, ◌^◌, ◌<◌, Bool, true, false, Ok, Err, Result}
use Rattle.faults.specs.Numbers.{session_number, session_cause}
use Rattle.faults.specs.declared.session.SessionFault.{SessionFault}

pub data Call : Type 0 where
  -- a place and the two numbers of an element
  insert : ℕ → ℕ → ℕ → Call
  -- ranges: where they start, and how many atoms they have
  cut : ℕ → ℕ → Call
  copy : ℕ → ℕ → Call
  -- a place
  paste : ℕ → Call
  erase : ℕ → ℕ → Call
  undo : Call
  redo : Call
  forget : Call
  hold : Call
  -- the mark and the place of a slip
  release : ℕ → ℕ → Call

-- accepted; a hold accepted with a slip, by its mark and its place; or refused
pub data Outcome : Type 0 where
  accepted : Outcome
  gave : ℕ → ℕ → Outcome
  refused : SessionFault → Outcome

abbrev pub was_accepted : Outcome → Bool
was_accepted accepted = true
was_accepted (gave mark place) = true
was_accepted (refused f) = false

-- the number of a refusal and the cause inside it; (0, 0) where there was none
abbrev pub told : Outcome → ℕ × ℕ
told accepted = (0, 0)
told (gave mark place) = (0, 0)
told (refused f) = (session_number f, session_cause f)

-- How the answer of a call's code is an outcome: of a call that gives nothing,
abbrev pub outcome_of : {V : Type 0} → Result V SessionFault → Outcome
outcome_of (Ok v) = accepted
outcome_of (Err f) = refused f

-- of a hold, which gives a slip: mark_of and place_of tell the slip's numbers,
abbrev pub hold_outcome : {V : Type 0} → (V → ℕ) → (V → ℕ) → Result V SessionFault → Outcome
hold_outcome mark_of place_of (Ok slip) = gave (mark_of slip) (place_of slip)
hold_outcome mark_of place_of (Err f) = refused f

-- and of a release, which where it is refused hands its slip back beside the fault. That this is the very
-- slip that was handed in is no part of an outcome: a contract says it in a clause beside Leads.
abbrev pub release_outcome : {V W : Type 0} → Result V (SessionFault × W) → Outcome
release_outcome (Ok v) = accepted
release_outcome (Err f) = refused f.0

-- elements are made of numbers of 32 bits
abbrev pub Fits32 : Call → Type 0
Fits32 (insert p a b) = (a < 2 ^ 32) × (b < 2 ^ 32)
Fits32 (cut from len) = Unit {0}
Fits32 (copy from len) = Unit {0}
Fits32 (paste p) = Unit {0}
Fits32 (erase from len) = Unit {0}
Fits32 undo = Unit {0}
Fits32 redo = Unit {0}
Fits32 forget = Unit {0}
Fits32 hold = Unit {0}
Fits32 (release mark place) = Unit {0}
