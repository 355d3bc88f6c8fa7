-- One call on a state, and lists of calls.
use Rattle.std.specs.Prelude.{◌≡◌, ℕ, true, List, [], ◌∷◌, Some, None, Option}
use Rattle.faults.specs.declared.session.SessionFault.{SessionFault}
use Rattle.kinds.specs.Kinds.{Meaning}
use Rattle.flat.specs.States.{State, FreePlace, after_insert, after_cut, after_copy, after_paste, after_erase}
use Rattle.flat.specs.States.{after_undo, after_redo, after_forget, after_hold, after_release}
use Rattle.flat.specs.Calls.{Call, insert, cut, copy, paste, erase, undo, redo, forget, hold, release, Fits32}
use Rattle.flat.specs.Calls.{Outcome, accepted, gave, refused, was_accepted}
use Rattle.flat.specs.Refusals.{refusal}

-- A call with what the lists leave open: how many cells it finds free, and the place that a hold gives.
pub record Turn : Type 0 where
  pub call : Call
  pub free : ℕ
  pub place : ℕ

abbrev pub calling : Call → ℕ → ℕ → Turn
calling c free place = record { call = c; free = free; place = place }

-- a refused call changes nothing
abbrev pub decided : {E : Type 0} → State E → Option SessionFault → State E × Outcome → State E × Outcome
decided s None done = done
decided s (Some f) done = (s, refused f)

module _ {E A S : Type 0} (k : Meaning E A S) where
  -- an accepted call
  abbrev pub performed : State E → ℕ → Call → State E × Outcome
  performed s place (insert p a b) = (after_insert k s p a b, accepted)
  performed s place (cut from len) = (after_cut k s from len, accepted)
  performed s place (copy from len) = (after_copy k s from len, accepted)
  performed s place (paste p) = (after_paste k s p, accepted)
  performed s place (erase from len) = (after_erase k s from len, accepted)
  performed s place undo = (after_undo s, accepted)
  performed s place redo = (after_redo s, accepted)
  performed s place forget = (after_forget s, accepted)
  performed s place hold = (after_hold s place, gave s.mark place)
  performed s place (release mark at) = (after_release s at, accepted)

  -- a call: the state that it leaves, and how it ends
  abbrev pub step : State E → Turn → State E × Outcome
  step s t = decided s (refusal k s t.free t.call) (performed s t.place t.call)

  abbrev pub Accepts : State E → Turn → Type 0
  Accepts s t = was_accepted (step s t).1 ≡ true

  -- the turn can be: its numbers have 32 bits, and a hold that is accepted gives a free place
  pub record Possible (s : State E) (t : Turn) : Type 0 where
    pub fits : Fits32 t.call
    pub place_free : (step s t).1 ≡ gave s.mark t.place → FreePlace s t.place

  -- A call that finds so many cells free leads from one state to another, with an outcome.
  pub record Leads (s : State E) (c : Call) (free : ℕ) (s' : State E) (o : Outcome) : Type 0 where
    pub turn : Turn
    pub calls : turn.call ≡ c
    pub finds : turn.free ≡ free
    pub possible : Possible s turn
    pub leads : step s turn ≡ (s', o)

  -- the state after a list of turns
  abbrev pub run : State E → List Turn → State E
  run s [] = s
  run s (t ∷ ts) = run (step s t).0 ts

  -- each call with how it ended
  abbrev pub outcomes : State E → List Turn → List (Call × Outcome)
  outcomes s [] = []
  outcomes s (t ∷ ts) = (t.call, (step s t).1) ∷ outcomes (step s t).0 ts

  -- each turn can be, in the state that it meets
  abbrev pub AllPossible : State E → List Turn → Type 0
  AllPossible s [] = Unit {0}
  AllPossible s (t ∷ ts) = Possible s t × AllPossible (step s t).0 ts
