-- What the flat sequence keeps, as statements: of places, questions, refusals, acceptance and runs.
use Rattle.std.specs.Prelude.{◌≡◌, ℕ, ◌+◌, ◌-◌, ◌*◌, ◌<◌, ◌≤◌, Bool, false, ◌↔◌, List, [], ◌∷◌, ◌++◌, length, take, drop, ℤ, Some, None, Ok, Option, ◌≢◌, slice_index_or}
use Rattle.std.specs.List.{ContainsAt, AllByRecursion, slice_get}
use Rattle.faults.specs.Limits.{limit}
use Rattle.faults.specs.Numbers.{session_number}
use Rattle.faults.specs.declared.session.SessionFault.{SessionFault}
use Rattle.kinds.specs.Kinds.{Meaning, Laws, Lawful, Tallies, total}
use Rattle.kinds.specs.Places.{extent, extent_of, atoms_of, before, after, divided, put_at, taken, without}
use Rattle.flat.specs.States.{State, at_slip, version_of, FreePlace, fresh, history_limit, hold_limit}
use Rattle.flat.specs.Calls.{Call, insert, cut, copy, paste, erase, undo, redo, forget, hold, release, gave, refused}
use Rattle.flat.specs.Refusals.{element_limit, cells_wanted, render_limit, fewest_cells, most_cells}
use Rattle.flat.specs.Refusals.{cells_outside, first_of, holds_out, refusals, at_version}
use Rattle.flat.specs.Refusals.{against_length, against_read, against_overview, against_find, against_render, lacks}
use Rattle.flat.specs.Questions.{HoldsAtom, Finds, atoms_in}
use Rattle.flat.specs.Steps.{Turn, calling, step, Accepts, run, outcomes, AllPossible}
use Rattle.flat.specs.Force.{Log, no_edits, makes, logged, undoable, acceptances}

-- Of the faults that apply, the first is the one with the smallest number; it is none only where none applies.
pub record Smallest (faults : List (Option SessionFault)) : Type 0 where
  pub applies : (f : SessionFault) → first_of faults ≡ Some f → ContainsAt faults (Some f)
  pub least : (f g : SessionFault) → first_of faults ≡ Some f → ContainsAt faults (Some g) → session_number f ≤ session_number g
  pub none : first_of faults ≡ None → (g : SessionFault) → ContainsAt faults (Some g) → ⊥

-- a session starts with cells within the limits, and with no others
abbrev pub StartAccepted : Type 0
StartAccepted = (cells : ℕ) → (cells_outside cells ≡ None) ↔ ((fewest_cells ≤ cells) × (cells ≤ most_cells))

-- the versions at the places that are held
abbrev pub held_lists : {E : Type 0} → List (Option (List E)) → List (List E)
held_lists [] = []
held_lists (None ∷ rest) = held_lists rest
held_lists (Some es ∷ rest) = es ∷ held_lists rest

-- every list that a state keeps
abbrev pub kept_lists : {E : Type 0} → State E → List (List E)
kept_lists s = s.present ∷ s.clipboard ∷ (s.past ++ (s.future ++ held_lists s.held))

module _ {E A S : Type 0} (k : Meaning E A S) where
  -- ## Places

  -- the extent of a list is the number of its atoms
  abbrev pub ExtentCounts : Type 0
  ExtentCounts = (es : List E) → extent_of k es ≡ length (atoms_of k es)

  -- at a place between two elements nothing is divided
  abbrev pub DividesNothing : Type 0
  DividesNothing = Laws k → (xs ys : List E) → AllByRecursion (Lawful k) ys
      → (before k (extent_of k xs) (xs ++ ys) ≡ xs) × (after k (extent_of k xs) (xs ++ ys) ≡ ys)

  -- inside an element, at offset d, it is divided into its parts (0, d) and (d, extent - d)
  abbrev pub DividesInside : Type 0
  DividesInside = (xs ys : List E) (e : E) (d : ℕ) → 1 ≤ d → d < extent k e
      → (before k (extent_of k xs + d) (xs ++ (e ∷ ys)) ≡ xs ++ (k.part e 0 d ∷ []))
      × (after k (extent_of k xs + d) (xs ++ (e ∷ ys)) ≡ k.part e d (extent k e - d) ∷ ys)

  -- before the place p lie the first p atoms and after it the others, so dividing changes no atom
  abbrev pub DividesAtoms : Type 0
  DividesAtoms = Laws k → (es : List E) (p : ℕ) → AllByRecursion (Lawful k) es
      → (atoms_of k (before k p es) ≡ take p (atoms_of k es))
      × (atoms_of k (after k p es) ≡ drop p (atoms_of k es))
      × (atoms_of k (divided k p es) ≡ atoms_of k es)

  -- A range is what lies between from and from + len, once the list is divided at from and then at
  -- from + len; what is left is what lies before from and after from + len.
  abbrev pub DividesTwice : Type 0
  DividesTwice = Laws k → (es : List E) (from len : ℕ) → AllByRecursion (Lawful k) es → from + len ≤ extent_of k es
      → let twice : List E = divided k (from + len) (divided k from es) in
      (taken k from len es ≡ after k from (before k (from + len) twice))
      × (without k from len es ≡ before k from twice ++ after k (from + len) twice)

  -- elements put at a place put their atoms there
  abbrev pub PutsAtoms : Type 0
  PutsAtoms = Laws k → (es new : List E) (p : ℕ) → AllByRecursion (Lawful k) es
      → atoms_of k (put_at k p new es) ≡ take p (atoms_of k es) ++ (atoms_of k new ++ drop p (atoms_of k es))

  -- a range means the atoms from its start on, and what is left those before it and behind it
  abbrev pub TakesAtoms : Type 0
  TakesAtoms = Laws k → (es : List E) (from len : ℕ) → AllByRecursion (Lawful k) es
      → (atoms_of k (taken k from len es) ≡ atoms_in k from len es)
      × (atoms_of k (without k from len es) ≡ take from (atoms_of k es) ++ drop (from + len) (atoms_of k es))

  -- a paste of a cut at its place gives the same atoms back
  abbrev pub PasteOfCut : Type 0
  PasteOfCut = Laws k → (es : List E) (from len : ℕ) → AllByRecursion (Lawful k) es → from + len ≤ extent_of k es
      → atoms_of k (put_at k from (taken k from len es) (without k from len es)) ≡ atoms_of k es

  -- ## Questions

  -- an atom within the extent is held by one element at one offset, and is that element's atom there
  abbrev pub ReadSome : Type 0
  ReadSome = (es : List E) (p : ℕ) → p < extent_of k es → (e : E) × (d : ℕ) × HoldsAtom k es p e d

  abbrev pub ReadOne : Type 0
  ReadOne = (es : List E) (p : ℕ) (e f : E) (c d : ℕ) → HoldsAtom k es p e c → HoldsAtom k es p f d → (e ≡ f) × (c ≡ d)

  abbrev pub ReadAtom : Type 0
  ReadAtom = (es : List E) (p : ℕ) (e : E) (d : ℕ) → HoldsAtom k es p e d → slice_get (atoms_of k es) p ≡ slice_get (k.atoms e) d

  -- a tally below the total is found at one place, and that is the place of an atom; no other is found
  abbrev pub FindSome : Type 0
  FindSome = (tally : S → ℕ) → Laws k → Tallies k tally → (es : List E) (t : ℕ) → AllByRecursion (Lawful k) es → extent_of k es ≤ limit
      → t < tally (total k (atoms_of k es)) → (p : ℕ) × (p < extent_of k es) × Finds k tally es t p

  abbrev pub FindOne : Type 0
  FindOne = (tally : S → ℕ) → Laws k → Tallies k tally → (es : List E) (t p q : ℕ) → AllByRecursion (Lawful k) es → extent_of k es ≤ limit
      → Finds k tally es t p → Finds k tally es t q → p ≡ q

  abbrev pub FindNone : Type 0
  FindNone = (tally : S → ℕ) → Laws k → Tallies k tally → (es : List E) (t p : ℕ) → AllByRecursion (Lawful k) es → extent_of k es ≤ limit
      → Finds k tally es t p → t < tally (total k (atoms_of k es))

  -- ## Refusals

  -- of several faults that apply the smallest number is told, for every call and every question
  abbrev pub CallSmallest : Type 0
  CallSmallest = (s : State E) (free : ℕ) (c : Call) → Smallest (refusals k s free c)

  pub record QuestionSmallest : Type 0 where
    pub length : (v : Option (List E)) → Smallest (at_version v against_length)
    pub read : (v : Option (List E)) (p : ℕ) → Smallest (at_version v (against_read k p))
    pub overview : (v : Option (List E)) (from len : ℕ) → Smallest (at_version v (against_overview k from len))
    pub find : (tally : S → ℕ) (v : Option (List E)) (t : ℕ) → Smallest (at_version v (against_find k tally t))
    pub render : (v : Option (List E)) (from len bytes : ℕ) (missing : List E → Bool)
        → Smallest (at_version v (against_render k from len bytes missing))

  -- a refused call changes nothing
  abbrev pub RefusedChangesNothing : Type 0
  RefusedChangesNothing = (s : State E) (t : Turn) (f : SessionFault) → (step k s t).1 ≡ refused f → (step k s t).0 ≡ s

  -- ## Acceptance: each call is accepted exactly where the following holds

  -- an element can be put at a place
  pub record MayInsert (s : State E) (p a b free : ℕ) : Type 0 where
    pub place : p ≤ extent_of k s.present
    pub element : E
    pub made : k.made a b ≡ Ok element
    pub extent : extent_of k s.present + extent k element ≤ limit
    pub elements : length (put_at k p (element ∷ []) s.present) ≤ element_limit
    pub cells : cells_wanted ≤ free

  -- a range can be taken out
  pub record MayRemove (s : State E) (from len free : ℕ) : Type 0 where
    pub some : 1 ≤ len
    pub inside : from + len ≤ extent_of k s.present
    pub elements : length (without k from len s.present) ≤ element_limit
    pub cells : cells_wanted ≤ free

  pub record MayCopy (s : State E) (from len free : ℕ) : Type 0 where
    pub some : 1 ≤ len
    pub inside : from + len ≤ extent_of k s.present
    pub cells : cells_wanted ≤ free

  pub record MayPaste (s : State E) (p free : ℕ) : Type 0 where
    pub place : p ≤ extent_of k s.present
    pub some : 1 ≤ length s.clipboard
    pub extent : extent_of k s.present + extent_of k s.clipboard ≤ limit
    pub elements : length (put_at k p s.clipboard s.present) ≤ element_limit
    pub cells : cells_wanted ≤ free

  abbrev pub InsertAccepted : Type 0
  InsertAccepted = (s : State E) (p a b free place : ℕ) → Accepts k s (calling (insert p a b) free place) ↔ MayInsert s p a b free

  abbrev pub CutAccepted : Type 0
  CutAccepted = (s : State E) (from len free place : ℕ) → Accepts k s (calling (cut from len) free place) ↔ MayRemove s from len free

  abbrev pub EraseAccepted : Type 0
  EraseAccepted = (s : State E) (from len free place : ℕ)
      → Accepts k s (calling (erase from len) free place) ↔ MayRemove s from len free

  abbrev pub CopyAccepted : Type 0
  CopyAccepted = (s : State E) (from len free place : ℕ) → Accepts k s (calling (copy from len) free place) ↔ MayCopy s from len free

  abbrev pub PasteAccepted : Type 0
  PasteAccepted = (s : State E) (p free place : ℕ) → Accepts k s (calling (paste p) free place) ↔ MayPaste s p free

  abbrev pub ForgetAccepted : Type 0
  ForgetAccepted = (s : State E) (free place : ℕ) → Accepts k s (calling forget free place)

  -- A question is answered exactly where there is a version to put it to and of the version's list the
  -- following holds.
  abbrev pub AnsweredWhere : Option (List E) → (List E → List (Option SessionFault)) → (List E → Type 0) → Type 0
  AnsweredWhere v against Good = (first_of (at_version v against) ≡ None) ↔ ((es : List E) × (v ≡ Some es) × Good es)

  -- a range has an atom and lies within the list
  pub record MayAsk (from len : ℕ) (es : List E) : Type 0 where
    pub some : 1 ≤ len
    pub inside : from + len ≤ extent_of k es

  -- a range can be rendered into an output of so many bytes
  pub record MayRender (from len bytes : ℕ) (missing : List E → Bool) (es : List E) : Type 0 where
    pub some : 1 ≤ len
    pub inside : from + len ≤ extent_of k es
    pub room : 2 * len ≤ bytes
    pub short : len ≤ render_limit
    pub sampled : missing (taken k from len es) ≡ false

  pub record QuestionAnswered : Type 0 where
    pub length : (v : Option (List E)) → AnsweredWhere v against_length (λ es. Unit {0})
    pub read : (v : Option (List E)) (p : ℕ) → AnsweredWhere v (against_read k p) (λ es. p < extent_of k es)
    pub overview : (v : Option (List E)) (from len : ℕ) → AnsweredWhere v (against_overview k from len) (MayAsk from len)
    pub find : (tally : S → ℕ) (v : Option (List E)) (t : ℕ)
        → AnsweredWhere v (against_find k tally t) (λ es. t < tally (total k (atoms_of k es)))
    pub render : (v : Option (List E)) (from len bytes : ℕ) (missing : List E → Bool)
        → AnsweredWhere v (against_render k from len bytes missing) (MayRender from len bytes missing)

  -- a reel has every sample that a range's elements need exactly where none of them ends past its last one
  abbrev pub LacksNone : Type 0
  LacksNone = (samples : List ℤ) (es : List E)
      → (lacks k samples es ≡ false) ↔ AllByRecursion (λ e. k.first e + k.second e ≤ length samples) es

  -- a hold that is not refused finds a place
  abbrev pub HoldFinds : Type 0
  HoldFinds = (s : State E) → length s.held ≡ hold_limit → holds_out s ≡ None → (place : ℕ) × FreePlace s place

  -- ## Runs: every list of calls on a session just started, refused ones included

  abbrev pub state_after : ℕ → List Turn → State E
  state_after mark ts = run k (fresh mark) ts

  abbrev pub log_after : ℕ → List Turn → Log E
  log_after mark ts = logged k no_edits (acceptances (outcomes k (fresh mark) ts))

  abbrev pub undoable_after : ℕ → List Turn → ℕ
  undoable_after mark ts = undoable 0 (acceptances (outcomes k (fresh mark) ts))

  -- How a state is tied to the edits in force and undone, and to how many can be undone. The present list
  -- is what those in force make of an empty sequence, the i-th of the past what they make without the last
  -- i, the i-th of the future what they make with the first i undone (i from 1 on), and the clipboard what
  -- the last cut or copy took.
  pub record Tied (s : State E) (g : Log E) (most : ℕ) : Type 0 where
    pub present : s.present ≡ makes k [] g.in_force
    pub past : (i : ℕ) → i < length s.past
        → slice_index_or s.past i [] ≡ makes k [] (take (length g.in_force - (i + 1)) g.in_force)
    pub past_count : length s.past ≡ most
    pub past_length : length s.past ≤ length g.in_force
    pub future : (i : ℕ) → i < length s.future → slice_index_or s.future i [] ≡ makes k [] (g.in_force ++ take (i + 1) g.undone)
    pub future_length : length s.future ≡ length g.undone
    pub few : length s.past + length s.future ≤ history_limit
    pub clipboard : s.clipboard ≡ g.took

  abbrev pub RunTied : Type 0
  RunTied = (mark : ℕ) (ts : List Turn) → Tied (state_after mark ts) (log_after mark ts) (undoable_after mark ts)

  -- an undo is accepted where an edit can be undone, and a redo where one was undone
  abbrev pub RunUndo : Type 0
  RunUndo = (mark : ℕ) (ts : List Turn) (free place : ℕ)
      → Accepts k (state_after mark ts) (calling undo free place) ↔ 1 ≤ undoable_after mark ts

  abbrev pub RunRedo : Type 0
  RunRedo = (mark : ℕ) (ts : List Turn) (free place : ℕ)
      → Accepts k (state_after mark ts) (calling redo free place) ↔ 1 ≤ length (log_after mark ts).undone

  -- a list within the limits, each element of which is lawful
  pub record Sound (es : List E) : Type 0 where
    pub lawful : AllByRecursion (Lawful k) es
    pub extent : extent_of k es ≤ limit
    pub elements : length es ≤ element_limit

  abbrev pub RunSound : Type 0
  RunSound = Laws k → (mark : ℕ) (ts : List Turn) → AllPossible k (fresh mark) ts → AllByRecursion Sound (kept_lists (state_after mark ts))

  -- the version held at a place: a hold gave it when this list was present, and no release of it came since
  pub record HeldSince (mark : ℕ) (ts : List Turn) (place : ℕ) (es : List E) : Type 0 where
    pub earlier : List Turn
    pub turn : Turn
    pub later : List Turn
    pub whole : ts ≡ earlier ++ (turn ∷ later)
    pub given : (step k (state_after mark earlier) turn).1 ≡ gave mark place
    pub list : es ≡ (state_after mark earlier).present
    pub unreleased : AllByRecursion (λ t. t.call ≢ release mark place) later

  abbrev pub RunHeld : Type 0
  RunHeld = (mark : ℕ) (ts : List Turn) → AllPossible k (fresh mark) ts → (m place : ℕ) (es : List E)
      → (version_of (state_after mark ts) (at_slip m place) ≡ Some es) ↔ ((m ≡ mark) × HeldSince mark ts place es)

  -- Two unreleased slips never share a place: of two holds that gave it, the first one's slip was released
  -- before the second.
  abbrev pub RunApart : Type 0
  RunApart = (mark : ℕ) (earlier between later : List Turn) (one other : Turn) (place : ℕ)
      → AllPossible k (fresh mark) (earlier ++ (one ∷ (between ++ (other ∷ later))))
      → (step k (state_after mark earlier) one).1 ≡ gave mark place
      → (step k (state_after mark (earlier ++ (one ∷ between))) other).1 ≡ gave mark place
      → AllByRecursion (λ t. t.call ≢ release mark place) between → ⊥

  -- a slip's release is accepted where its version is held, and a hold where some place is free
  abbrev pub RunRelease : Type 0
  RunRelease = (mark : ℕ) (ts : List Turn) → AllPossible k (fresh mark) ts → (m at free place : ℕ)
      → Accepts k (state_after mark ts) (calling (release m at) free place) ↔ ((m ≡ mark) × ((es : List E) × HeldSince mark ts at es))

  abbrev pub RunHold : Type 0
  RunHold = (mark : ℕ) (ts : List Turn) (free place : ℕ)
      → Accepts k (state_after mark ts) (calling hold free place) ↔ ((p : ℕ) × FreePlace (state_after mark ts) p)

  -- a session keeps its mark and its places
  abbrev pub RunPlaces : Type 0
  RunPlaces = (mark : ℕ) (ts : List Turn) → ((state_after mark ts).mark ≡ mark) × (length (state_after mark ts).held ≡ hold_limit)
