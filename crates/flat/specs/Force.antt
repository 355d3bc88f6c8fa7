-- Edits in force and edits undone: drawn from the calls, their numbers and which were accepted, and from
-- nothing else. No state and no cell enters here.
use Rattle.std.specs.Prelude.{ℕ, ◌+◌, ◌-◌, min, Bool, true, false, List, [], ◌∷◌, ◌++◌, length, take, drop}
use Rattle.kinds.specs.Kinds.{Meaning}
use Rattle.kinds.specs.Places.{elements_of, put_at, taken, without}
use Rattle.flat.specs.States.{history_limit}
use Rattle.flat.specs.Calls.{Call, insert, cut, copy, paste, erase, undo, redo, forget, hold, release, Outcome, was_accepted}

-- each call with whether it was accepted: all that is drawn upon below
abbrev pub acceptances : List (Call × Outcome) → List (Call × Bool)
acceptances [] = []
acceptances (c ∷ cs) = (c.0, was_accepted c.1) ∷ acceptances cs

-- an edit: an element inserted, by its place and numbers; a range removed by a cut or an erase; a
-- paste, with the elements that it put
pub data Edit (E : Type 0) : Type 0 where
  inserting : ℕ → ℕ → ℕ → Edit E
  removing : ℕ → ℕ → Edit E
  pasting : ℕ → List E → Edit E

pub record Log (E : Type 0) : Type 0 where
  -- in the order of the edits
  pub in_force : List (Edit E)
  -- the next one to redo first
  pub undone : List (Edit E)
  -- what the last accepted cut or copy took
  pub took : List E

module _ {E : Type 0} where
  abbrev pub no_edits : Log E
  no_edits = record { in_force = []; undone = []; took = [] }

  -- an edit goes last among those in force, and empties those undone
  abbrev pub with_edit : Log E → Edit E → Log E
  with_edit g e = record { in_force = g.in_force ++ (e ∷ []); undone = []; took = g.took }

  abbrev pub with_took : Log E → List E → Log E
  with_took g es = record { in_force = g.in_force; undone = g.undone; took = es }

  -- the last in force moves to the front of those undone
  abbrev pub with_undo : Log E → Log E
  with_undo g = let others = length g.in_force - 1 in
      record { in_force = take others g.in_force; undone = drop others g.in_force ++ g.undone; took = g.took }

  -- the front one of those undone moves back
  abbrev pub with_redo : Log E → Log E
  with_redo g = record { in_force = g.in_force ++ take 1 g.undone; undone = drop 1 g.undone; took = g.took }

  -- those undone are emptied
  abbrev pub with_forget : Log E → Log E
  with_forget g = record { in_force = g.in_force; undone = []; took = g.took }

module _ {E A S : Type 0} (k : Meaning E A S) where
  -- what an edit makes of a list of elements
  abbrev pub makes_one : List E → Edit E → List E
  makes_one es (inserting p a b) = put_at k p (elements_of (k.made a b)) es
  makes_one es (removing from len) = without k from len es
  makes_one es (pasting p new) = put_at k p new es

  -- what a list of edits, in order, makes of a list of elements
  abbrev pub makes : List E → List (Edit E) → List E
  makes es [] = es
  makes es (e ∷ rest) = makes (makes_one es e) rest

  -- what a cut or copy of the range takes, of what the edits in force make of an empty sequence
  abbrev pub took_from : Log E → ℕ → ℕ → List E
  took_from g from len = taken k from len (makes [] g.in_force)

  -- an accepted call
  abbrev pub noted : Log E → Call → Log E
  noted g (insert p a b) = with_edit g (inserting p a b)
  noted g (cut from len) = with_took (with_edit g (removing from len)) (took_from g from len)
  noted g (copy from len) = with_took g (took_from g from len)
  noted g (paste p) = with_edit g (pasting p g.took)
  noted g (erase from len) = with_edit g (removing from len)
  noted g undo = with_undo g
  noted g redo = with_redo g
  noted g forget = with_forget g
  noted g hold = g
  noted g (release mark place) = g

  -- a refused call leaves both
  abbrev pub noted_if : Bool → Log E → Call → Log E
  noted_if true g c = noted g c
  noted_if false g c = g

  -- the log of calls, each with whether it was accepted
  abbrev pub logged : Log E → List (Call × Bool) → Log E
  logged g [] = g
  logged g (c ∷ cs) = logged (noted_if c.1 g c.0) cs

-- How many of the edits in force can be undone: an edit adds one, up to what the history keeps, an undo
-- takes one and a redo adds it again, and a forget leaves none.
abbrev pub undoable_once : ℕ → Call → ℕ
undoable_once n (insert p a b) = min history_limit (n + 1)
undoable_once n (cut from len) = min history_limit (n + 1)
undoable_once n (copy from len) = n
undoable_once n (paste p) = min history_limit (n + 1)
undoable_once n (erase from len) = min history_limit (n + 1)
undoable_once n undo = n - 1
undoable_once n redo = n + 1
undoable_once n forget = 0
undoable_once n hold = n
undoable_once n (release mark place) = n

abbrev pub undoable_if : Bool → ℕ → Call → ℕ
undoable_if true n c = undoable_once n c
undoable_if false n c = n

abbrev pub undoable : ℕ → List (Call × Bool) → ℕ
undoable n [] = n
undoable n (c ∷ cs) = undoable (undoable_if c.1 n c.0) cs
