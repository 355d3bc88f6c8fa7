-- The flat sequence: what a session means, as plain lists, and what each accepted call makes of it.
use Rattle.std.specs.Prelude.{◌≡◌, ℕ, ◌<◌, cond, List, [], ◌∷◌, take, replicate, Some, None, Option, ◌==◌, slice_index_or, slice_set}
use Rattle.kinds.specs.Kinds.{Meaning}
use Rattle.kinds.specs.Places.{elements_of, put_at, taken, without}

-- how many earlier versions the history keeps
abbrev pub history_limit : ℕ
history_limit = 128

-- how many places there are for held versions
abbrev pub hold_limit : ℕ
hold_limit = 8

pub record State (E : Type 0) : Type 0 where
  -- the number that tells this session's slips from those of others
  pub mark : ℕ
  pub present : List E
  -- earlier versions, the newest first
  pub past : List (List E)
  -- undone versions, the next one first
  pub future : List (List E)
  pub clipboard : List E
  -- at each place the version held there, or none
  pub held : List (Option (List E))

-- What a question is put to: the present list, or that of a slip, by the slip's numbers: the mark of
-- the session that gave it, and its place there.
pub data Asked : Type 0 where
  at_present : Asked
  at_slip : ℕ → ℕ → Asked

-- of earlier versions, the newest first, those that the history keeps: the oldest goes
unfoldable pub kept : {E : Type 0} → List (List E) → List (List E)
kept versions = take history_limit versions

module _ {E : Type 0} where
  -- a session just started
  abbrev pub fresh : ℕ → State E
  fresh mark = record { mark = mark; present = []; past = []; future = []; clipboard = []; held = replicate hold_limit None }

  -- the list that a slip stands for, if its mark is this session's and its place is held
  abbrev pub held_by : State E → ℕ → ℕ → Option (List E)
  held_by s mark place = cond (mark == s.mark) (slice_index_or s.held place None) None

  -- the list that a question is put to, if there is one
  abbrev pub version_of : State E → Asked → Option (List E)
  version_of s at_present = Some s.present
  version_of s (at_slip mark place) = held_by s mark place

  -- a place at which a hold may keep a version
  abbrev pub FreePlace : State E → ℕ → Type 0
  FreePlace s place = (place < hold_limit) × (slice_index_or s.held place None ≡ None)

  -- the present list, the past and the future change
  abbrev pub with_history : State E → List E → List (List E) → List (List E) → State E
  with_history s new past future =
      record { mark = s.mark; present = new; past = past; future = future; clipboard = s.clipboard; held = s.held }

  -- the clipboard alone changes
  abbrev pub with_clipboard : State E → List E → State E
  with_clipboard s es =
      record { mark = s.mark; present = s.present; past = s.past; future = s.future; clipboard = es; held = s.held }

  -- one place alone changes
  abbrev pub with_place : State E → ℕ → Option (List E) → State E
  with_place s place v =
      record {
        mark = s.mark;
        present = s.present;
        past = s.past;
        future = s.future;
        clipboard = s.clipboard;
        held = slice_set s.held place v;
      }

  -- An edit: the old present list becomes the newest of the past, of which the oldest goes where
  -- they are too many, and the future is emptied. The clipboard and what is held stay.
  abbrev pub edited : State E → List E → State E
  edited s new = with_history s new (kept (s.present ∷ s.past)) []

  -- Undo: the newest of the past becomes the present list, and that the next of the future.
  abbrev pub undone_to : State E → List (List E) → State E
  undone_to s [] = s
  undone_to s (newest ∷ older) = with_history s newest older (s.present ∷ s.future)

  -- Redo: the next of the future becomes the present list, and that the newest of the past.
  abbrev pub redone_to : State E → List (List E) → State E
  redone_to s [] = s
  redone_to s (next ∷ later) = with_history s next (s.present ∷ s.past) later

  abbrev pub after_undo : State E → State E
  after_undo s = undone_to s s.past

  abbrev pub after_redo : State E → State E
  after_redo s = redone_to s s.future

  -- Forget empties the past and the future.
  abbrev pub after_forget : State E → State E
  after_forget s = with_history s s.present [] []

  -- Hold keeps the present list at a place; release gives the place up.
  abbrev pub after_hold : State E → ℕ → State E
  after_hold s place = with_place s place (Some s.present)

  abbrev pub after_release : State E → ℕ → State E
  after_release s place = with_place s place None

module _ {E A S : Type 0} (k : Meaning E A S) where
  -- Insert puts the element of two numbers at a place.
  abbrev pub after_insert : State E → ℕ → ℕ → ℕ → State E
  after_insert s p a b = edited s (put_at k p (elements_of (k.made a b)) s.present)

  -- Cut takes a range out, and makes it the clipboard; erase spares the clipboard.
  abbrev pub after_erase : State E → ℕ → ℕ → State E
  after_erase s from len = edited s (without k from len s.present)

  abbrev pub after_cut : State E → ℕ → ℕ → State E
  after_cut s from len = with_clipboard (after_erase s from len) (taken k from len s.present)

  -- Copy makes the same elements the clipboard; the present list stays undivided.
  abbrev pub after_copy : State E → ℕ → ℕ → State E
  after_copy s from len = with_clipboard s (taken k from len s.present)

  -- Paste puts the clipboard's elements at a place.
  abbrev pub after_paste : State E → ℕ → State E
  after_paste s p = edited s (put_at k p s.clipboard s.present)
