-- Worked examples, as one table of equations about the definitions themselves: the real kinds, the real
-- layers and the calls of the flat sequence.
use Rattle.std.specs.Prelude.{◌≡◌, ℕ, List, [], ◌∷◌, map, replicate, ℤ, pos, negsuc, Ok, Err, Result}
use Rattle.faults.specs.Numbers.{session_number}
use Rattle.faults.specs.declared.session.SessionFault.{SessionFault}
use Rattle.reels.specs.MuLaw.{mu_law_samples}
use Rattle.reels.specs.Gain.{scaled}
use Rattle.kinds.specs.Kinds.{Meaning}
use Rattle.audio.specs.Audio.{audio}
use Rattle.audio.specs.declared.clip.Clip.{Clip}
use Rattle.audio.specs.declared.levels.Levels.{Levels}
use Rattle.tempo.specs.Tempo.{tempo}
use Rattle.tempo.specs.declared.span.Span.{Span}
use Rattle.flat.specs.States.{State, fresh, at_present, version_of}
use Rattle.flat.specs.Calls.{Call, insert, cut, paste, undo, told}
use Rattle.flat.specs.Refusals.{fewest_cells, against_find}
use Rattle.flat.specs.Questions.{length_of, Finds, Answered}
use Rattle.flat.specs.Steps.{Turn, calling, step, run}

module _ {E A S : Type 0} (k : Meaning E A S) where
  -- each call finds every cell of a session free
  abbrev pub turn : Call → Turn
  turn c = calling c fewest_cells 0

  -- the state after calls on a session just started
  abbrev pub after : List Call → State E
  after calls = run k (fresh 1) (map turn calls)

  -- the number and the cause by which one call more is refused; (0, 0) where it is accepted
  abbrev pub answer : List Call → Call → ℕ × ℕ
  answer calls c = told (step k (after calls) (turn c)).1

  -- the two numbers that each element tells
  abbrev pub numbers : List E → List (ℕ × ℕ)
  numbers es = map (λ e. (k.first e, k.second e)) es

-- audio over a reel of 200 samples
abbrev pub over_reel : Meaning Clip ℤ Levels
over_reel = audio (replicate 200 (pos 0))

abbrev pub two_inserts : List Call
two_inserts = insert 0 100 50 ∷ insert 20 0 10 ∷ []

abbrev pub then_cut : List Call
then_cut = insert 0 100 50 ∷ insert 20 0 10 ∷ cut 15 10 ∷ []

abbrev pub then_paste : List Call
then_paste = insert 0 100 50 ∷ insert 20 0 10 ∷ cut 15 10 ∷ paste 50 ∷ []

abbrev pub then_undone : List Call
then_undone = insert 0 100 50 ∷ insert 20 0 10 ∷ cut 15 10 ∷ paste 50 ∷ undo ∷ undo ∷ []

-- two beats, the second at twice the speed of the first
abbrev pub two_beats : State Span
two_beats = after tempo (insert 0 960 500000 ∷ insert 960 960 250000 ∷ [])

-- how a find on them ends
abbrev pub FindEnds : ℕ → Result ℕ SessionFault → Type 0
FindEnds t r =
    Answered (version_of two_beats at_present) (against_find tempo (λ s. s.units) t) (λ es p. Finds tempo (λ s. s.units) es t p) r

pub record Examples : Type 0 where
  -- an empty track
  pub no_length : answer over_reel [] (cut 0 0) ≡ (3, 0)
  pub no_atoms : answer over_reel [] (cut 0 1) ≡ (4, 0)
  -- the end of the reel
  pub within_reel : answer over_reel [] (insert 0 150 50) ≡ (0, 0)
  pub past_reel : answer over_reel [] (insert 0 151 50) ≡ (5, 2)
  -- an element divided by an insert, a range cut out across two elements, pasted at the end, and both undone
  pub one : numbers over_reel (after over_reel (insert 0 100 50 ∷ [])).present ≡ (100, 50) ∷ []
  pub divided : numbers over_reel (after over_reel two_inserts).present ≡ (100, 20) ∷ (0, 10) ∷ (120, 30) ∷ []
  pub left : numbers over_reel (after over_reel then_cut).present ≡ (100, 15) ∷ (5, 5) ∷ (120, 30) ∷ []
  pub clipboard : numbers over_reel (after over_reel then_cut).clipboard ≡ (115, 5) ∷ (0, 5) ∷ []
  pub accepted : answer over_reel then_cut (paste 50) ≡ (0, 0)
  pub pasted : length_of over_reel (after over_reel then_paste).present ≡ 60
  pub undone : numbers over_reel (after over_reel then_undone).present ≡ (100, 20) ∷ (0, 10) ∷ (120, 30) ∷ []
  -- layers
  pub mu_law : mu_law_samples (0xFF ∷ 0x7F ∷ 0xF0 ∷ 0x80 ∷ 0x00 ∷ []) ≡ pos 0 ∷ pos 0 ∷ pos 120 ∷ pos 32124 ∷ negsuc 32123 ∷ []
  pub gain : map (scaled 128) (pos 1 ∷ negsuc 0 ∷ []) ≡ pos 0 ∷ negsuc 0 ∷ []
  -- places by their time
  pub first_beat : FindEnds 479999999 (Ok 959)
  pub second_beat : FindEnds 480000000 (Ok 960)
  pub beyond : (f : SessionFault) × (session_number f ≡ 13) × FindEnds 720000000 (Err f)
