-- Every list that a session keeps is within the limits, and each of its elements is lawful: each call keeps
-- it so.
use Rattle.std.proofs.Common.{◌≡◌, ℕ, zero, suc, ◌+◌, ◌≤◌, List, [], ◌∷◌, length, set, Some, None, Option, Result, sym, subst, arith}
use Rattle.std.specs.List.{AllByRecursion}
use Rattle.std.proofs.ByRecursion.{All-append, All-take}
use Rattle.faults.specs.Limits.{limit}
use Rattle.faults.specs.declared.causes.Cause.{Cause}
use Rattle.kinds.specs.Kinds.{Meaning, Laws, Lawful, of_numbers}
use Rattle.kinds.specs.Places.{elements_of, extent_of, put_at, taken, without}
use Rattle.kinds.proofs.Places.{put_lawful, taken_lawful, without_lawful, put_extent, taken_extent, without_extent, taken_fewer}
use Rattle.flat.specs.States.{State, fresh, kept, history_limit, edited, undone_to, redone_to, with_clipboard, with_place}
use Rattle.flat.specs.Calls.{Call, insert, cut, copy, paste, erase, undo, redo, forget, hold, release, Fits32}
use Rattle.flat.specs.Refusals.{element_limit, refusal}
use Rattle.flat.specs.Steps.{Turn, performed, step, run, AllPossible}
use Rattle.flat.specs.Promises.{Sound, RunSound, held_lists, kept_lists}
use Rattle.flat.proofs.Acceptance.{insert_none, remove_none, copy_none, paste_none}
use Rattle.flat.proofs.Refusals.{step_cases}

kept_all : {E : Type 0} (P : List E → Type 0) (versions : List (List E)) → AllByRecursion P versions → AllByRecursion P (kept versions)
unfolding kept
kept_all P versions a = All-take P history_limit versions a

-- a place alone changes, to a version with the property or to none
held_none : {E : Type 0} (P : List E → Type 0) (held : List (Option (List E))) (place : ℕ) → AllByRecursion P (held_lists held)
    → AllByRecursion P (held_lists (set held place None))
held_none P [] place a = tt
held_none P (None ∷ rest) zero a = a
held_none P (Some es ∷ rest) zero a = a.1
held_none P (None ∷ rest) (suc place) a = held_none P rest place a
held_none P (Some es ∷ rest) (suc place) a = (a.0, held_none P rest place a.1)

held_some : {E : Type 0} (P : List E → Type 0) (held : List (Option (List E))) (place : ℕ) (new : List E) → P new → AllByRecursion P (held_lists held)
    → AllByRecursion P (held_lists (set held place (Some new)))
held_some P [] place new p a = tt
held_some P (None ∷ rest) zero new p a = (p, a)
held_some P (Some es ∷ rest) zero new p a = (p, a.1)
held_some P (None ∷ rest) (suc place) new p a = held_some P rest place new p a
held_some P (Some es ∷ rest) (suc place) new p a = (a.0, held_some P rest place new p a.1)

module _ {E A S : Type 0} (k : Meaning E A S) where
  -- every list that a state keeps, part by part
  record AllSound (s : State E) : Type 0 where
    present : Sound k s.present
    clipboard : Sound k s.clipboard
    past : AllByRecursion (Sound k) s.past
    future : AllByRecursion (Sound k) s.future
    held : AllByRecursion (Sound k) (held_lists s.held)

  sound_lists : (s : State E) → AllSound s → AllByRecursion (Sound k) (kept_lists s)
  sound_lists s a = (
    a.present,
    (a.clipboard, All-append (Sound k) s.past _ a.past (All-append (Sound k) s.future _ a.future a.held)),
  )

  sound_none : Sound k []
  sound_none = record { lawful = tt; extent = omega arith; elements = omega arith }

  sound_fresh : (mark : ℕ) → AllSound (fresh mark)
  sound_fresh mark = record { present = sound_none; clipboard = sound_none; past = tt; future = tt; held = tt }

  sound_edited : (s : State E) (new : List E) → Sound k new → AllSound s → AllSound (edited s new)
  sound_edited s new sound a =
      record {
        present = sound;
        clipboard = a.clipboard;
        past = kept_all (Sound k) (s.present ∷ s.past) (a.present, a.past);
        future = tt;
        held = a.held;
      }

  sound_undone : (s : State E) (past : List (List E)) → AllByRecursion (Sound k) past → AllSound s → AllSound (undone_to s past)
  sound_undone s [] before a = a
  sound_undone s (newest ∷ older) before a =
      record {
        present = before.0;
        clipboard = a.clipboard;
        past = before.1;
        future = (a.present, a.future);
        held = a.held;
      }

  sound_redone : (s : State E) (future : List (List E)) → AllByRecursion (Sound k) future → AllSound s → AllSound (redone_to s future)
  sound_redone s [] ahead a = a
  sound_redone s (next ∷ later) ahead a =
      record {
        present = ahead.0;
        clipboard = a.clipboard;
        past = (a.present, a.past);
        future = ahead.1;
        held = a.held;
      }

  module _ (laws : Laws k) where
    sound_put : (es new : List E) (p : ℕ) → Sound k es → AllByRecursion (Lawful k) new → extent_of k es + extent_of k new ≤ limit
        → length (put_at k p new es) ≤ element_limit → Sound k (put_at k p new es)
    sound_put es new p sound lawful short few =
        record {
          lawful = put_lawful k laws es new p sound.lawful lawful;
          extent = omega (arith, put_extent k laws es new p sound.lawful);
          elements = few;
        }

    sound_without : (es : List E) (from len : ℕ) → Sound k es → from + len ≤ extent_of k es
        → length (without k from len es) ≤ element_limit → Sound k (without k from len es)
    sound_without es from len sound inside few =
        record {
          lawful = without_lawful k laws es from len sound.lawful;
          extent = omega (arith, sound.extent, without_extent k laws es from len sound.lawful inside);
          elements = few;
        }

    sound_taken : (es : List E) (from len : ℕ) → Sound k es → from + len ≤ extent_of k es → Sound k (taken k from len es)
    sound_taken es from len sound inside =
        record {
          lawful = taken_lawful k laws es from len sound.lawful;
          extent = omega (arith, sound.extent, taken_extent k laws es from len sound.lawful inside);
          elements = omega (arith, sound.elements, taken_fewer k es from len);
        }

    sound_clipped : (s : State E) (es : List E) → Sound k es → AllSound s → AllSound (with_clipboard s es)
    sound_clipped s es sound a =
        record { present = a.present; clipboard = sound; past = a.past; future = a.future; held = a.held }

    sound_placed : (s : State E) (place : ℕ) (v : Option (List E)) → AllByRecursion (Sound k) (held_lists (set s.held place v)) → AllSound s
        → AllSound (with_place s place v)
    sound_placed s place v held a =
        record { present = a.present; clipboard = a.clipboard; past = a.past; future = a.future; held = held }

    call_sound : (s : State E) (free place : ℕ) (c : Call) → refusal k s free c ≡ None → Fits32 c → AllSound s
        → AllSound (performed k s place c).0
    call_sound s free place (insert p a b) ok fits sound =
        let m = (insert_none k s p a b free).0 ok in
        let made = of_numbers a b m.element fits.0 fits.1 m.made in
        let Put : Result E Cause → Type 0 = λ r. Sound k (put_at k p (elements_of r) s.present) in
        sound_edited s _
        (subst Put (sym m.made)
        (sound_put s.present (m.element ∷ []) p sound.present (made, tt) (omega (arith, m.extent)) m.elements))
        sound
    call_sound s free place (cut from len) ok fits sound =
        let m = (remove_none k s from len free).0 ok in
        sound_clipped _ _ (sound_taken s.present from len sound.present m.inside)
        (sound_edited s _ (sound_without s.present from len sound.present m.inside m.elements) sound)
    call_sound s free place (copy from len) ok fits sound =
        let m = (copy_none k s from len free).0 ok in
        sound_clipped s _ (sound_taken s.present from len sound.present m.inside) sound
    call_sound s free place (paste p) ok fits sound =
        let m = (paste_none k s p free).0 ok in
        sound_edited s _
        (sound_put s.present s.clipboard p sound.present sound.clipboard.lawful m.extent m.elements) sound
    call_sound s free place (erase from len) ok fits sound =
        let m = (remove_none k s from len free).0 ok in
        sound_edited s _ (sound_without s.present from len sound.present m.inside m.elements) sound
    call_sound s free place undo ok fits sound = sound_undone s s.past sound.past sound
    call_sound s free place redo ok fits sound = sound_redone s s.future sound.future sound
    call_sound s free place forget ok fits sound =
        record { present = sound.present; clipboard = sound.clipboard; past = tt; future = tt; held = sound.held }
    call_sound s free place hold ok fits sound =
        sound_placed s place _ (held_some (Sound k) s.held place s.present sound.present sound.held) sound
    call_sound s free place (release mark at) ok fits sound =
        sound_placed s at _ (held_none (Sound k) s.held at sound.held) sound

    run_sound_from : (ts : List Turn) (s : State E) → AllPossible k s ts → AllSound s → AllSound (run k s ts)
    run_sound_from [] s possible sound = sound
    run_sound_from (t ∷ ts) s possible sound =
        run_sound_from ts (step k s t).0 possible.1
        (step_cases k (λ r. AllSound r.0) s t (λ f told. sound)
        (λ ok. call_sound s t.free t.place t.call ok possible.0.fits sound))

  pub run_sound : RunSound k
  run_sound laws mark ts possible =
      sound_lists (run k (fresh mark) ts) (run_sound_from laws ts (fresh mark) possible (sound_fresh mark))
