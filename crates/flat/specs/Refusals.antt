-- When a call or a question is refused, and by which fault. Each condition stands under its number. For
-- each call its conditions are listed by ascending numbers, so that of several that apply the smallest is told.
use Rattle.std.specs.Prelude.{ℕ, ◌+◌, ◌*◌, Bool, true, false, cond, ◌||◌, List, [], ◌∷◌, ◌++◌, length, is_some, Some, None, Ok, Err, count_by, Option, Result, ◌==◌, nat_le, nat_lt}
use Rattle.faults.specs.declared.causes.Cause.{Cause}
use Rattle.faults.specs.declared.session.SessionFault.{SessionFault}
use Rattle.faults.specs.declared.session.SessionFault.TheVariants.{NotHeld, BeyondEnd, EmptyRange, RangePastEnd, Unlawful}
use Rattle.faults.specs.declared.session.SessionFault.TheVariants.{ClipboardEmpty, PastEmpty, FutureEmpty, HoldsOut, ExtentLimit}
use Rattle.faults.specs.declared.session.SessionFault.TheVariants.{ElementLimit, FewCells, BeyondTally, OutputShort}
use Rattle.faults.specs.declared.session.SessionFault.TheVariants.{RenderTooLong, NoSample, CellsOutside}
use Rattle.faults.specs.Limits.{limit}
use Rattle.kinds.specs.Kinds.{Meaning, total}
use Rattle.kinds.specs.Places.{elements_of, extent_of, atoms_of, put_at, taken, without}
use Rattle.flat.specs.States.{State, hold_limit, held_by}
use Rattle.flat.specs.Calls.{Call, insert, cut, copy, paste, erase, undo, redo, forget, hold, release}

-- the most elements of a track
abbrev pub element_limit : ℕ
element_limit = 4095

-- how many cells an edit or a copy must find free
abbrev pub cells_wanted : ℕ
cells_wanted = 2048

-- the fewest and the most cells that a session starts with
abbrev pub fewest_cells : ℕ
fewest_cells = 4096

abbrev pub most_cells : ℕ
most_cells = 65535

-- the most frames of one render
abbrev pub render_limit : ℕ
render_limit = 16384

-- the fault, where its condition holds
abbrev pub fault_if : Bool → SessionFault → Option SessionFault
fault_if b f = cond b (Some f) None

-- the first that applies, in a list by ascending numbers: the smallest
abbrev pub first_of : List (Option SessionFault) → Option SessionFault
first_of [] = None
first_of (None ∷ rest) = first_of rest
first_of (Some f ∷ rest) = Some f

-- conditions that have a meaning only where no earlier fault applies
abbrev pub unless : Option SessionFault → List (Option SessionFault) → List (Option SessionFault)
unless None later = later
unless (Some f) later = []

abbrev pub is_empty : {X : Type 0} → List X → Bool
is_empty [] = true
is_empty (x ∷ xs) = false

-- 1: the mark is not this session's, or the place is not held
abbrev pub not_held : {E : Type 0} → Option (List E) → Option SessionFault
not_held None = Some NotHeld
not_held (Some es) = None

-- 3: the length is 0
abbrev pub empty_range_fault : ℕ → Option SessionFault
empty_range_fault len = fault_if (len == 0) EmptyRange

-- 5: the two numbers make no element, with the kind's cause
abbrev pub unlawful : {E : Type 0} → Result E Cause → Option SessionFault
unlawful (Ok e) = None
unlawful (Err c) = Some (Unlawful c)

-- 6: the clipboard is empty
abbrev pub clipboard_empty : {E : Type 0} → State E → Option SessionFault
clipboard_empty s = fault_if (is_empty s.clipboard) ClipboardEmpty

-- 7: the past is empty
abbrev pub past_empty : {E : Type 0} → State E → Option SessionFault
past_empty s = fault_if (is_empty s.past) PastEmpty

-- 8: the future is empty
abbrev pub future_empty : {E : Type 0} → State E → Option SessionFault
future_empty s = fault_if (is_empty s.future) FutureEmpty

-- 9: as many holds are out as there are places
abbrev pub holds_out : {E : Type 0} → State E → Option SessionFault
holds_out s = fault_if (nat_le hold_limit (count_by is_some s.held)) HoldsOut

-- 11: the elements of the list that an edit would leave are too many
abbrev pub too_many : {E : Type 0} → List E → Option SessionFault
too_many es = fault_if (nat_lt element_limit (length es)) ElementLimit

-- 12: an edit or a copy finds too few cells free
abbrev pub few_cells_fault : ℕ → Option SessionFault
few_cells_fault free = fault_if (nat_lt free cells_wanted) FewCells

-- 14: the output has not two bytes for each frame
abbrev pub output_short : ℕ → ℕ → Option SessionFault
output_short len bytes = fault_if (nat_lt bytes (2 * len)) OutputShort

-- 15: a render wants too many frames
abbrev pub render_too_long : ℕ → Option SessionFault
render_too_long len = fault_if (nat_lt render_limit len) RenderTooLong

-- 18: a session is started with too few cells or too many
abbrev pub cells_outside : ℕ → Option SessionFault
cells_outside cells = fault_if (nat_lt cells fewest_cells || nat_lt most_cells cells) CellsOutside

module _ {E A S : Type 0} (k : Meaning E A S) where
  -- 2: the place is beyond the end
  abbrev pub beyond_end : List E → ℕ → Option SessionFault
  beyond_end es p = fault_if (nat_lt (extent_of k es) p) BeyondEnd

  -- 2, where an atom is asked for: the place is beyond the end or at it
  abbrev pub no_atom : List E → ℕ → Option SessionFault
  no_atom es p = fault_if (nat_le (extent_of k es) p) BeyondEnd

  -- 4: the range passes the end
  abbrev pub range_past_end : List E → ℕ → ℕ → Option SessionFault
  range_past_end es from len = fault_if (nat_lt (extent_of k es) (from + len)) RangePastEnd

  -- 10: the extent would pass its limit when new elements are put into the list
  abbrev pub too_long : List E → List E → Option SessionFault
  too_long es new = fault_if (nat_lt limit (extent_of k es + extent_of k new)) ExtentLimit

  -- 13: the tally looked for is the total tally or more
  abbrev pub beyond_tally : (S → ℕ) → List E → ℕ → Option SessionFault
  beyond_tally tally es t = fault_if (nat_le (tally (total k (atoms_of k es))) t) BeyondTally

  -- What can be said against elements put at a place: against the place, against the elements, and where
  -- both are good against the list that would be left.
  abbrev pub against_put : List E → ℕ → Option SessionFault → List E → List (Option SessionFault)
  against_put es p bad new =
      beyond_end es p ∷ bad ∷ unless (first_of (beyond_end es p ∷ bad ∷ [])) (too_long es new ∷ too_many (put_at k p new es) ∷ [])

  -- against a range, and against taking it out
  abbrev pub against_range : List E → ℕ → ℕ → List (Option SessionFault)
  against_range es from len = empty_range_fault len ∷ range_past_end es from len ∷ []

  abbrev pub against_removal : List E → ℕ → ℕ → List (Option SessionFault)
  against_removal es from len =
      against_range es from len ++ unless (first_of (against_range es from len)) (too_many (without k from len es) ∷ [])

  -- Every refusal of a call in a state, by ascending numbers; free is the number of cells that the
  -- call finds free.
  abbrev pub refusals : State E → ℕ → Call → List (Option SessionFault)
  refusals s free (insert p a b) =
      against_put s.present p (unlawful (k.made a b)) (elements_of (k.made a b)) ++ (few_cells_fault free ∷ [])
  refusals s free (cut from len) = against_removal s.present from len ++ (few_cells_fault free ∷ [])
  refusals s free (copy from len) = against_range s.present from len ++ (few_cells_fault free ∷ [])
  refusals s free (paste p) = against_put s.present p (clipboard_empty s) s.clipboard ++ (few_cells_fault free ∷ [])
  refusals s free (erase from len) = against_removal s.present from len ++ (few_cells_fault free ∷ [])
  refusals s free undo = past_empty s ∷ []
  refusals s free redo = future_empty s ∷ []
  refusals s free forget = []
  refusals s free hold = holds_out s ∷ []
  refusals s free (release mark place) = not_held (held_by s mark place) ∷ []

  -- why the call is refused, if it is
  abbrev pub refusal : State E → ℕ → Call → Option SessionFault
  refusal s free c = first_of (refusals s free c)

-- What can be said against a question put to a version: 1 where there is none, and else what can be
-- said against it of the version's list.
abbrev pub at_version : {E : Type 0} → Option (List E) → (List E → List (Option SessionFault)) → List (Option SessionFault)
at_version None against = Some NotHeld ∷ []
at_version (Some es) against = against es

-- length is told of every list
abbrev pub against_length : {E : Type 0} → List E → List (Option SessionFault)
against_length es = []

module _ {E A S : Type 0} (k : Meaning E A S) where
  abbrev pub against_read : ℕ → List E → List (Option SessionFault)
  against_read p es = no_atom k es p ∷ []

  abbrev pub against_overview : ℕ → ℕ → List E → List (Option SessionFault)
  against_overview from len es = against_range k es from len

  abbrev pub against_find : (S → ℕ) → ℕ → List E → List (Option SessionFault)
  against_find tally t es = beyond_tally k tally es t ∷ []

  -- Against a render into an output of so many bytes. No reel is known here: missing says of the
  -- range's elements whether the reel lacks a sample that they mean, and a session's contract must
  -- pass exactly that, as lacks below has it for the reel's samples.
  abbrev pub against_render : ℕ → ℕ → ℕ → (List E → Bool) → List E → List (Option SessionFault)
  against_render from len bytes missing es =
      against_range k es from len
      ++ (output_short len bytes ∷ render_too_long len ∷ fault_if (missing (taken k from len es)) NoSample ∷ [])

  -- Of elements that tell their first sample's index and how many samples they mean: a list of samples
  -- ends before the last one of some element.
  abbrev pub lacks : {X : Type 0} → List X → List E → Bool
  lacks samples [] = false
  lacks samples (e ∷ es) = nat_lt (length samples) (k.first e + k.second e) || lacks samples es
