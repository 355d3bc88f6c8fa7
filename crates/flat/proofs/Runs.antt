-- Every list of calls keeps a state tied to the edits in force and undone: each call keeps it so.
use Rattle.std.proofs.Common.{◌≡◌, ℕ, zero, suc, ◌+◌, ◌-◌, ◌<◌, ◌≤◌, min, Bool, ◌↔◌, List, [], ◌∷◌, ◌++◌, length, get_or, take, drop, None, Option, sym, refl, ap, ◌∙◌, subst, append_assoc, append-nil, arith, length-append, length-drop, length-take, get_or-take, take-take, take_at, take-add}
use mathlib.Core.Logic.Iff
use lib.Seq.{take-append-le, take-append-add}
use Rattle.std.proofs.lemmas.List.{take-append-drop}
use Rattle.faults.specs.declared.session.SessionFault.TheVariants.{PastEmpty, FutureEmpty}
use Rattle.kinds.specs.Kinds.{Meaning}
use Rattle.kinds.specs.Places.{put_at, taken}
use Rattle.flat.specs.States.{State, fresh, kept, history_limit, edited, undone_to, redone_to, after_forget}
use Rattle.flat.specs.Calls.{Call, insert, cut, copy, paste, erase, undo, redo, forget, hold, release, was_accepted}
use Rattle.flat.specs.Refusals.{refusal, past_empty, future_empty}
use Rattle.flat.specs.Steps.{Turn, calling, performed, step, run, outcomes}
use Rattle.flat.specs.Force.{Edit, inserting, removing, pasting, Log, no_edits, with_edit, with_took, with_undo, with_redo, with_forget}
use Rattle.flat.specs.Force.{makes_one, makes, noted, noted_if, logged, acceptances, undoable_once, undoable_if, undoable}
use Rattle.flat.specs.Promises.{Tied, RunTied, RunUndo, RunRedo}
use Rattle.flat.proofs.Acceptance.{only_none, not_empty, accepts}
use Rattle.flat.proofs.Refusals.{performed_accepted, step_cases}

kept_length : {E : Type 0} (versions : List (List E)) → length (kept versions) ≡ min history_limit (length versions)
unfolding kept
kept_length versions = length-take history_limit versions

kept_at : {E : Type 0} (versions : List (List E)) (i : ℕ) → i < history_limit → get_or (kept versions) i [] ≡ get_or versions i []
unfolding kept
kept_at versions i h = get_or-take history_limit versions i [] h

module _ {E A S : Type 0} (k : Meaning E A S) where
  makes_append : (es : List E) (xs ys : List (Edit E)) → makes k es (xs ++ ys) ≡ makes k (makes k es xs) ys
  makes_append es [] ys = refl
  makes_append es (x ∷ xs) ys = makes_append (makes_one k es x) xs ys

  -- ## The past and the future against the edits

  -- the i-th version of the past is what the edits in force make without the last i + 1
  abbrev PastOf : List (List E) → List (Edit E) → Type 0
  PastOf past force = (i : ℕ) → i < length past → get_or past i [] ≡ makes k [] (take (length force - (i + 1)) force)

  -- the i-th version of the future is what they make with the first i + 1 undone
  abbrev FutureOf : List (List E) → List (Edit E) → List (Edit E) → Type 0
  FutureOf future undone force = (i : ℕ) → i < length future → get_or future i [] ≡ makes k [] (force ++ take (i + 1) undone)

  -- one edit more, and the version before it
  past_more : (past : List (List E)) (force last : List (Edit E)) (present : List E) → length last ≡ 1 → present ≡ makes k [] force
      → PastOf past force → PastOf (present ∷ past) (force ++ last)
  past_more past force last present one now before zero h =
      let count : length force ≡ length (force ++ last) - (0 + 1) = rw length-append (omega arith) in
      now ∙ ap (makes k []) (sym (take_at force last (length (force ++ last) - (0 + 1)) count))
  past_more past force last present one now before (suc i) h =
      let count : length (force ++ last) - (suc i + 1) ≡ length force - (i + 1) = rw length-append (omega arith) in
      let fewer : length force - (i + 1) ≤ length force = omega arith in
      before i (omega arith)
      ∙ ap (makes k []) (sym (ap (λ (n : ℕ). take n (force ++ last)) count ∙ take-append-le (length force - (i + 1)) force last fewer))

  past_kept : (past : List (List E)) (force : List (Edit E)) → PastOf past force → PastOf (kept past) force
  past_kept past force before i h =
      kept_at past i (omega (arith, kept_length past)) ∙ before i (omega (arith, kept_length past))

  -- the last edit less
  past_less : (newest : List E) (older : List (List E)) (force : List (Edit E)) → PastOf (newest ∷ older) force
      → PastOf older (take (length force - 1) force)
  past_less newest older force before i h =
      let others = length force - 1 in
      let count : length (take others force) - (i + 1) ≡ length force - (suc i + 1) = rw length-take (omega arith) in
      let fewer : length force - (suc i + 1) ≤ others = omega arith in
      before (suc i) (omega arith)
      ∙ ap (makes k [])
      (sym (ap (λ (n : ℕ). take n (take others force)) count ∙ take-take (length force - (suc i + 1)) others force fewer))

  -- the last edit moves from those in force to those undone
  regroup : (force undone : List (Edit E)) (n : ℕ) → 1 ≤ length force
      → take (length force - 1) force ++ take (n + 1) (drop (length force - 1) force ++ undone) ≡ force ++ take n undone
  regroup force undone n some =
      let others = length force - 1 in
      let last = drop others force in
      let count : n + 1 ≡ length last + n = rw length-drop (omega arith) in
      ap (λ (m : ℕ). take others force ++ take m (last ++ undone)) count
      ∙ ap (λ l. take others force ++ l) (take-append-add last undone n)
      ∙ sym (append_assoc (take others force) last (take n undone))
      ∙ ap (λ l. l ++ take n undone) (take-append-drop others force)

  future_more : (future : List (List E)) (undone force : List (Edit E)) (present : List E) → 1 ≤ length force → present ≡ makes k [] force
      → FutureOf future undone force
      → FutureOf (present ∷ future) (drop (length force - 1) force ++ undone) (take (length force - 1) force)
  future_more future undone force present some now ahead zero h =
      now ∙ ap (makes k []) (sym (regroup force undone 0 some ∙ append-nil force))
  future_more future undone force present some now ahead (suc i) h =
      let count : i + 1 ≡ suc i = omega arith in
      ahead i (omega arith)
      ∙ ap (λ (n : ℕ). makes k [] (force ++ take n undone)) count
      ∙ ap (makes k []) (sym (regroup force undone (suc i) some))

  -- the first of those undone moves back
  future_less : (next : List E) (later : List (List E)) (undone force : List (Edit E)) → FutureOf (next ∷ later) undone force
      → FutureOf later (drop 1 undone) (force ++ take 1 undone)
  future_less next later undone force ahead i h =
      let count : suc i + 1 ≡ 1 + (i + 1) = omega arith in
      ahead (suc i) (omega arith)
      ∙ ap (λ (n : ℕ). makes k [] (force ++ take n undone)) count
      ∙ ap (λ l. makes k [] (force ++ l)) (take-add 1 (i + 1) undone)
      ∙ ap (makes k []) (sym (append_assoc force (take 1 undone) (take (i + 1) (drop 1 undone))))

  -- ## Each call keeps a state tied

  tied_edit : (s : State E) (g : Log E) (n : ℕ) (e : Edit E) → Tied k s g n
      → Tied k (edited s (makes_one k s.present e)) (with_edit g e) (min history_limit (n + 1))
  tied_edit s g n e t =
      let force = g.in_force in
      let before = s.present ∷ s.past in
      record {
        present = ap (λ l. makes_one k l e) t.present ∙ sym (makes_append [] force (e ∷ []));
        past = past_kept before (force ++ (e ∷ [])) (past_more s.past force (e ∷ []) s.present refl t.present t.past);
        past_count = kept_length before ∙ omega (arith, t.past_count);
        past_length = rw length-append (omega (arith, kept_length before, t.past_length));
        future = λ i h. absurd (omega arith);
        future_length = refl;
        few = omega (arith, kept_length before);
        clipboard = t.clipboard;
      }

  -- the clipboard and the places are beside the history
  tied_beside : (s : State E) (g : Log E) (n : ℕ) (clipboard took : List E) (held : List (Option (List E))) → clipboard ≡ took
      → Tied k s g n
      → Tied k
      record { mark = s.mark; present = s.present; past = s.past; future = s.future; clipboard = clipboard; held = held }
      (with_took g took) n
  tied_beside s g n clipboard took held same t =
      record {
        present = t.present;
        past = t.past;
        past_count = t.past_count;
        past_length = t.past_length;
        future = t.future;
        future_length = t.future_length;
        few = t.few;
        clipboard = same;
      }

  tied_undo : (s : State E) (g : Log E) (n : ℕ) (past : List (List E)) → s.past ≡ past → 1 ≤ length past → Tied k s g n
      → Tied k (undone_to s past) (with_undo g) (n - 1)
  tied_undo s g n [] same some t = absurd (omega arith)
  tied_undo s g n (newest ∷ older) same some t =
      let force = g.in_force in
      let others = length force - 1 in
      let before : PastOf (newest ∷ older) force = subst (λ l. PastOf l force) same t.past in
      let count : length s.past ≡ suc (length older) = ap length same in
      let enough : 1 ≤ length force = omega (arith, t.past_length) in
      record {
        present = before 0 (omega arith);
        past = past_less newest older force before;
        past_count = omega (arith, t.past_count);
        past_length = rw length-take (omega (arith, t.past_length));
        future = future_more s.future g.undone force s.present enough t.present t.future;
        future_length = rw length-append (rw length-drop (omega (arith, t.future_length)));
        few = omega (arith, t.few);
        clipboard = t.clipboard;
      }

  tied_redo : (s : State E) (g : Log E) (n : ℕ) (future : List (List E)) → s.future ≡ future → 1 ≤ length future → Tied k s g n
      → Tied k (redone_to s future) (with_redo g) (n + 1)
  tied_redo s g n [] same some t = absurd (omega arith)
  tied_redo s g n (next ∷ later) same some t =
      let force = g.in_force in
      let undone = g.undone in
      let ahead : FutureOf (next ∷ later) undone force = subst (λ l. FutureOf l undone force) same t.future in
      let count : length s.future ≡ suc (length later) = ap length same in
      let one : length (take 1 undone) ≡ 1 = rw length-take (omega (arith, t.future_length)) in
      record {
        present = ahead 0 (omega arith);
        past = past_more s.past force (take 1 undone) s.present one t.present t.past;
        past_count = omega (arith, t.past_count);
        past_length = rw length-append (omega (arith, t.past_length));
        future = future_less next later undone force ahead;
        future_length = rw length-drop (omega (arith, t.future_length));
        few = omega (arith, t.few);
        clipboard = t.clipboard;
      }

  tied_forget : (s : State E) (g : Log E) (n : ℕ) → Tied k s g n → Tied k (after_forget s) (with_forget g) 0
  tied_forget s g n t =
      record {
        present = t.present;
        past = λ i h. absurd (omega arith);
        past_count = refl;
        past_length = omega arith;
        future = λ i h. absurd (omega arith);
        future_length = refl;
        few = omega arith;
        clipboard = t.clipboard;
      }

  -- an undo that is not refused finds a version in the past, and a redo one in the future
  undo_none : (s : State E) (free : ℕ) → (refusal k s free undo ≡ None) ↔ (1 ≤ length s.past)
  undo_none s free = only_none (past_empty s) (1 ≤ length s.past) (not_empty s.past PastEmpty)

  redo_none : (s : State E) (free : ℕ) → (refusal k s free redo ≡ None) ↔ (1 ≤ length s.future)
  redo_none s free = only_none (future_empty s) (1 ≤ length s.future) (not_empty s.future FutureEmpty)

  call_tied : (s : State E) (g : Log E) (n free place : ℕ) (c : Call) → refusal k s free c ≡ None → Tied k s g n
      → Tied k (performed k s place c).0 (noted k g c) (undoable_once n c)
  call_tied s g n free place (insert p a b) ok t = tied_edit s g n (inserting p a b) t
  call_tied s g n free place (cut from len) ok t =
      tied_beside _ _ _ _ _ _ (ap (taken k from len) t.present) (tied_edit s g n (removing from len) t)
  call_tied s g n free place (copy from len) ok t = tied_beside s g n _ _ _ (ap (taken k from len) t.present) t
  call_tied s g n free place (paste p) ok t =
      subst (λ l. Tied k (edited s (put_at k p s.clipboard s.present)) (with_edit g (pasting p l)) (min history_limit (n + 1)))
      t.clipboard (tied_edit s g n (pasting p s.clipboard) t)
  call_tied s g n free place (erase from len) ok t = tied_edit s g n (removing from len) t
  call_tied s g n free place undo ok t = tied_undo s g n s.past refl ((undo_none s free).0 ok) t
  call_tied s g n free place redo ok t = tied_redo s g n s.future refl ((redo_none s free).0 ok) t
  call_tied s g n free place forget ok t = tied_forget s g n t
  call_tied s g n free place hold ok t = tied_beside s g n _ _ _ t.clipboard t
  call_tied s g n free place (release mark at) ok t = tied_beside s g n _ _ _ t.clipboard t

  turn_tied : (s : State E) (g : Log E) (n : ℕ) (t : Turn) → Tied k s g n
      → let ended = step k s t in
      Tied k ended.0 (noted_if k (was_accepted ended.1) g t.call) (undoable_if (was_accepted ended.1) n t.call)
  turn_tied s g n t tied =
      let Next : State E → Bool → Type 0 = λ after b. Tied k after (noted_if k b g t.call) (undoable_if b n t.call) in
      step_cases k (λ r. Next r.0 (was_accepted r.1)) s t
      (λ f told. tied)
      (λ ok. subst (Next (performed k s t.place t.call).0) (sym (performed_accepted k s t.place t.call))
      (call_tied s g n t.free t.place t.call ok tied))

  run_tied_from : (ts : List Turn) (s : State E) (g : Log E) (n : ℕ) → Tied k s g n
      → Tied k (run k s ts) (logged k g (acceptances (outcomes k s ts))) (undoable n (acceptances (outcomes k s ts)))
  run_tied_from [] s g n tied = tied
  run_tied_from (t ∷ ts) s g n tied = run_tied_from ts (step k s t).0 _ _ (turn_tied s g n t tied)

  fresh_tied : (mark : ℕ) → Tied k (fresh mark) no_edits 0
  fresh_tied mark =
      record {
        present = refl;
        past = λ i h. absurd (omega arith);
        past_count = refl;
        past_length = omega arith;
        future = λ i h. absurd (omega arith);
        future_length = refl;
        few = omega arith;
        clipboard = refl;
      }

  pub run_tied : RunTied k
  run_tied mark ts = run_tied_from ts (fresh mark) no_edits 0 (fresh_tied mark)

  pub run_undo : RunUndo k
  run_undo mark ts free place =
      let s = run k (fresh mark) ts in
      let count = (run_tied mark ts).past_count in
      Iff.trans (accepts k s (calling undo free place))
      (Iff.trans (undo_none s free) (λ h. omega (arith, count), λ h. omega (arith, count)))

  pub run_redo : RunRedo k
  run_redo mark ts free place =
      let s = run k (fresh mark) ts in
      let count = (run_tied mark ts).future_length in
      Iff.trans (accepts k s (calling redo free place))
      (Iff.trans (redo_none s free) (λ h. omega (arith, count), λ h. omega (arith, count)))
