-- Held versions: where a place is free, and since when a version is held there.
use Rattle.std.proofs.Common.{◌≡◌, ℕ, zero, suc, ◌<◌, Bool, true, false, eqb, ◌⊎◌, ◌↔◌, List, [], ◌∷◌, ◌++◌, length, get_or, set, replicate, is_some, Some, None, count_by, filter, Option, sym, refl, ap, ◌∙◌, subst, inl, inr, arith, length-set, get_or-set_other, get_or-set_same}
use mathlib.Core.Logic.Iff
use Rattle.std.specs.List.{AllByRecursion}
use Rattle.std.proofs.lemmas.List.Sums.{length-filter, count_by-le-length}
use Rattle.std.proofs.lemmas.Bool.{both_ways, eqb-true, eq-eqb, cond-true, cond_both}
use Rattle.faults.specs.declared.session.SessionFault.{SessionFault}
use Rattle.faults.specs.declared.session.SessionFault.TheVariants.{HoldsOut}
use Rattle.kinds.specs.Kinds.{Meaning}
use Rattle.flat.specs.States.{State, fresh, hold_limit, held_by, FreePlace, after_hold, after_release, undone_to, redone_to}
use Rattle.flat.specs.Calls.{Call, insert, cut, copy, paste, erase, undo, redo, forget, hold, release}
use Rattle.flat.specs.Calls.{Outcome, accepted, gave, refused}
use Rattle.flat.specs.Refusals.{refusal, holds_out, not_held}
use Rattle.flat.specs.Steps.{Turn, calling, performed, step, run, Possible, AllPossible}
use Rattle.flat.specs.Promises.{HeldSince, RunHeld, RunApart, RunRelease, RunHold, RunPlaces}
use Rattle.flat.proofs.Acceptance.{only_none, not_reached, accepts}
use Rattle.flat.proofs.Refusals.{never_some, same_some, step_cases}

-- ## Free places

free_some : {X : Type 0} (held : List (Option X)) → length (filter is_some held) < length held
    → (i : ℕ) × (i < length held) × (get_or held i None ≡ None)
free_some [] h = absurd (omega arith)
free_some (None ∷ rest) h = (0, omega arith, refl)
free_some (Some es ∷ rest) h =
    let behind = free_some rest (omega arith) in (suc behind.0, omega (arith, behind.1), behind.2)

some_free : {X : Type 0} (held : List (Option X)) (i : ℕ) → i < length held → get_or held i None ≡ None
    → length (filter is_some held) < length held
some_free [] i h e = absurd (omega arith)
some_free (None ∷ rest) i h e = omega (arith, length-filter is_some rest, count_by-le-length is_some rest)
some_free (Some es ∷ rest) zero h e = absurd (never_some (sym e))
some_free (Some es ∷ rest) (suc i) h e = omega (arith, some_free rest i (omega arith) e)

-- fewer versions are held than there are places exactly where a place is free
free_place : {E : Type 0} (s : State E) → length s.held ≡ hold_limit
    → (holds_out s ≡ None) ↔ ((place : ℕ) × FreePlace s place)
free_place s places =
    let fewer = not_reached hold_limit (count_by is_some s.held) HoldsOut in
    let count = length-filter is_some s.held in (
      λ e.
          let room : length (filter is_some s.held) < length s.held = omega (arith, fewer.0 e) in
          let found = free_some s.held room in
          (found.0, (omega (arith, found.1), found.2)),
      λ found.
          let below : found.0 < length s.held = omega (arith, found.1.0) in
          fewer.1 (omega (arith, some_free s.held found.0 below found.1.1)),
    )

pub hold_finds : {E : Type 0} (s : State E) → length s.held ≡ hold_limit → holds_out s ≡ None → (place : ℕ) × FreePlace s place
hold_finds s places = (free_place s places).0

-- no place of a session just started is held
fresh_free : {X : Type 0} (n i : ℕ) → ◌≡◌ {A = Option X} (get_or (replicate n None) i None) None
fresh_free zero i = refl
fresh_free (suc n) zero = refl
fresh_free (suc n) (suc i) = fresh_free n i

-- what stands at a place after one place is set
set_some : {X : Type 0} (held : List (Option X)) (i j : ℕ) (v : Option X) (x : X) → get_or (set held i v) j None ≡ Some x
    → ((i ≡ j) × (v ≡ Some x)) ⊎ ((i ≡ j → ⊥) × (get_or held j None ≡ Some x))
set_some [] i j v x e = absurd (never_some e)
set_some (o ∷ rest) zero zero v x e = inl (refl, e)
set_some (o ∷ rest) zero (suc j) v x e = inr (λ z. omega arith, e)
set_some (o ∷ rest) (suc i) zero v x e = inr (λ z. omega arith, e)
set_some (o ∷ rest) (suc i) (suc j) v x e =
    elim (set_some rest i j v x e) [
      | inl here ↦ inl (ap suc here.0, here.1)
      | inr there ↦ inr (λ z. there.0 (omega arith), there.1)
    ]

same_release : (mark other at place : ℕ) → release mark at ≡ release other place → at ≡ place
same_release mark other at place e = cc

same_gave : (mark other at place : ℕ) → gave mark at ≡ gave other place → (mark ≡ other) × (at ≡ place)
same_gave mark other at place e = (cc, cc)

refused_gave : (f : SessionFault) (mark place : ℕ) → refused f ≡ gave mark place → ⊥
refused_gave f mark place e = let z : ◌≡◌ {A = ℕ} 0 1 = cc in omega arith

accepted_gave : (mark place : ℕ) → accepted ≡ gave mark place → ⊥
accepted_gave mark place e = let z : ◌≡◌ {A = ℕ} 0 1 = cc in omega arith

-- releases are told apart from the other calls
abbrev is_release : Call → Bool
is_release (insert p a b) = false
is_release (cut from len) = false
is_release (copy from len) = false
is_release (paste p) = false
is_release (erase from len) = false
is_release undo = false
is_release redo = false
is_release forget = false
is_release hold = false
is_release (release mark place) = true

no_release : (c : Call) (mark place : ℕ) → is_release c ≡ false → c ≡ release mark place → ⊥
no_release c mark place other e = both_ways (is_release c) other (ap is_release e)

-- ## Slips

-- a slip stands for a version where its mark is the session's and its place is held
by_slip : {E : Type 0} (s : State E) (mark place : ℕ) (es : List E)
    → (held_by s mark place ≡ Some es) ↔ ((mark ≡ s.mark) × (get_or s.held place None ≡ Some es))
by_slip s mark place es =
    let there = get_or s.held place None in (
      cond_both (eqb mark s.mark) there None (λ v. v ≡ Some es → (mark ≡ s.mark) × (there ≡ Some es))
          (λ same e. (eqb-true mark s.mark same, e)) (λ other e. absurd (never_some e)),
      λ h. cond-true (eqb mark s.mark) there None (eq-eqb mark s.mark h.0) ∙ h.1,
    )

held_some : {E : Type 0} (o : Option (List E)) → (not_held o ≡ None) ↔ ((es : List E) × (o ≡ Some es))
held_some None = (λ e. absurd (never_some (sym e)), λ h. absurd (never_some h.1))
held_some (Some es) = (λ e. (es, refl), λ h. refl)

module _ {E A S : Type 0} (k : Meaning E A S) where
  -- a release is accepted where its slip stands for a version
  release_none : (s : State E) (free mark place : ℕ)
      → (refusal k s free (release mark place) ≡ None) ↔ ((es : List E) × (held_by s mark place ≡ Some es))
  release_none s free mark place = only_none (not_held (held_by s mark place)) _ (held_some (held_by s mark place))

  -- ## One call

  -- a call that leaves mark and places alone, and is no release
  record Beside (s : State E) (c : Call) (after : State E) : Type 0 where
    mark : after.mark ≡ s.mark
    held : after.held ≡ s.held
    other : is_release c ≡ false

  undo_beside : (s : State E) (past : List (List E)) → Beside s undo (undone_to s past)
  undo_beside s [] = record { mark = refl; held = refl; other = refl }
  undo_beside s (newest ∷ older) = record { mark = refl; held = refl; other = refl }

  redo_beside : (s : State E) (future : List (List E)) → Beside s redo (redone_to s future)
  redo_beside s [] = record { mark = refl; held = refl; other = refl }
  redo_beside s (next ∷ later) = record { mark = refl; held = refl; other = refl }

  -- only a hold and a release change a place
  place_cases : (P : Call → State E × Outcome → Type 0) (s : State E) (place : ℕ)
      → ((c : Call) (after : State E) → Beside s c after → P c (after, accepted))
      → P hold (after_hold s place, gave s.mark place)
      → ((mark at : ℕ) → P (release mark at) (after_release s at, accepted))
      → (c : Call) → P c (performed k s place c)
  place_cases P s place aside held released (insert p a b) = aside _ _ record { mark = refl; held = refl; other = refl }
  place_cases P s place aside held released (cut from len) = aside _ _ record { mark = refl; held = refl; other = refl }
  place_cases P s place aside held released (copy from len) = aside _ _ record { mark = refl; held = refl; other = refl }
  place_cases P s place aside held released (paste p) = aside _ _ record { mark = refl; held = refl; other = refl }
  place_cases P s place aside held released (erase from len) = aside _ _ record { mark = refl; held = refl; other = refl }
  place_cases P s place aside held released undo = aside _ _ (undo_beside s s.past)
  place_cases P s place aside held released redo = aside _ _ (redo_beside s s.future)
  place_cases P s place aside held released forget = aside _ _ record { mark = refl; held = refl; other = refl }
  place_cases P s place aside held released hold = held
  place_cases P s place aside held released (release mark at) = released mark at

  -- the mark and the places stay
  record SamePlaces (s after : State E) : Type 0 where
    mark : after.mark ≡ s.mark
    places : length after.held ≡ length s.held

  step_places : (s : State E) (t : Turn) → SamePlaces s (step k s t).0
  step_places s t =
      step_cases k (λ r. SamePlaces s r.0) s t (λ f told. record { mark = refl; places = refl })
      (λ ok. place_cases (λ c r. SamePlaces s r.0) s t.place
      (λ c after b. record { mark = b.mark; places = ap length b.held })
      record { mark = refl; places = length-set s.held t.place (Some s.present) }
      (λ mark at. record { mark = refl; places = length-set s.held at None })
      t.call)

  run_places_from : (ts : List Turn) (s : State E) → SamePlaces s (run k s ts)
  run_places_from [] s = record { mark = refl; places = refl }
  run_places_from (t ∷ ts) s =
      let here = step_places s t in
      let there = run_places_from ts (step k s t).0 in
      record { mark = there.mark ∙ here.mark; places = there.places ∙ here.places }

  pub run_places : RunPlaces k
  run_places mark ts =
      let same = run_places_from ts (fresh mark) in (same.mark, same.places)

  -- a version that is held stays so, unless it is released
  version_kept : (s : State E) (t : Turn) (place : ℕ) (es : List E) → Possible k s t
      → (t.call ≡ release s.mark place → ⊥) → get_or s.held place None ≡ Some es
      → get_or (step k s t).0.held place None ≡ Some es
  version_kept s t place es possible unreleased here =
      let Stays : Call → State E × Outcome → Type 0 =
      λ c r. (r.1 ≡ gave s.mark t.place → FreePlace s t.place) → refusal k s t.free c ≡ None
      → (c ≡ release s.mark place → ⊥) → get_or r.0.held place None ≡ Some es in
      let free : (step k s t).1 ≡ gave s.mark t.place → FreePlace s t.place = possible.place_free in
      step_cases k
      (λ r. (r.1 ≡ gave s.mark t.place → FreePlace s t.place) → get_or r.0.held place None ≡ Some es)
      s t
      (λ f told free. here)
      (λ ok free. place_cases Stays s t.place
      (λ c after b free ok unreleased. ap (λ l. get_or l place None) b.held ∙ here)
      (λ free ok unreleased. get_or-set_other s.held t.place place (Some s.present) None
      (λ same. never_some (sym (free refl).1 ∙ sym (ap (λ (i : ℕ). get_or s.held i None) same) ∙ here)) ∙ here)
      (λ mark at free ok unreleased.
      let own : mark ≡ s.mark = ((by_slip s mark at _).0 ((release_none s t.free mark at).0 ok).1).0 in
      get_or-set_other s.held at place None None
      (λ same. unreleased (ap (λ (m : ℕ). release m at) own ∙ ap (release s.mark) (sym same))) ∙ here)
      t.call free ok unreleased)
      free

  -- a version that is held was held before and not released, or it was given now
  version_from : (s : State E) (t : Turn) (place : ℕ) (es : List E) → get_or (step k s t).0.held place None ≡ Some es
      → ((get_or s.held place None ≡ Some es) × (t.call ≡ release s.mark place → ⊥))
      ⊎ (((step k s t).1 ≡ gave s.mark place) × (es ≡ s.present))
  version_from s t place es =
      let Came : Call → State E × Outcome → Type 0 =
      λ c r. get_or r.0.held place None ≡ Some es
      → ((get_or s.held place None ≡ Some es) × (c ≡ release s.mark place → ⊥))
      ⊎ ((r.1 ≡ gave s.mark place) × (es ≡ s.present)) in
      step_cases k (Came t.call) s t
      (λ f told here. inl (
        here,
        λ e.
            let ok = (release_none s t.free s.mark place).1 (es, (by_slip s s.mark place es).1 (refl, here)) in
            never_some (sym ok ∙ sym (ap (refusal k s t.free) e) ∙ told),
      ))
      (λ ok. place_cases Came s t.place
      (λ c after b here. inl (sym (ap (λ l. get_or l place None) b.held) ∙ here, no_release c s.mark place b.other))
      (λ here.
      elim (set_some s.held t.place place (Some s.present) es here) [
        | inl now ↦ inr (ap (gave s.mark) now.0, sym (same_some s.present es now.1))
        | inr before ↦ inl (before.1, no_release hold s.mark place refl)
      ])
      (λ mark at here.
      elim (set_some s.held at place None es here) [
        | inl now ↦ absurd (never_some now.1)
        | inr before ↦ inl (before.1, λ e. before.0 (same_release mark s.mark at place e))
      ])
      t.call)

  -- a slip has the session's mark, and the place that the turn says
  gave_by : (s : State E) (t : Turn) (mark place : ℕ) → (step k s t).1 ≡ gave mark place
      → (s.mark ≡ mark) × (t.place ≡ place) × ((step k s t).0 ≡ after_hold s t.place)
  gave_by s t mark place =
      let By : State E × Outcome → Type 0 =
      λ r. r.1 ≡ gave mark place → (s.mark ≡ mark) × (t.place ≡ place) × (r.0 ≡ after_hold s t.place) in
      step_cases k By s t
      (λ f told e. absurd (refused_gave f mark place e))
      (λ ok. place_cases (λ c r. By r) s t.place
      (λ c after b e. absurd (accepted_gave mark place e))
      (λ e. let same = same_gave s.mark mark t.place place e in (same.0, same.1, refl))
      (λ m at e. absurd (accepted_gave mark place e))
      t.call)

  given_free : (s : State E) (t : Turn) (mark place : ℕ) → Possible k s t → (step k s t).1 ≡ gave mark place → FreePlace s place
  given_free s t mark place possible given =
      let by = gave_by s t mark place given in
      let own : gave mark place ≡ gave s.mark t.place =
      ap (λ (m : ℕ). gave m place) (sym by.0) ∙ ap (gave s.mark) (sym by.1) in
      subst (FreePlace s) by.1 (possible.place_free (given ∙ own))

  -- a place that a hold gave holds the present list
  version_given : (s : State E) (t : Turn) (mark place : ℕ) → Possible k s t → length s.held ≡ hold_limit
      → (step k s t).1 ≡ gave mark place → get_or (step k s t).0.held place None ≡ Some s.present
  version_given s t mark place possible places given =
      let by = gave_by s t mark place given in
      let free = given_free s t mark place possible given in
      ap (λ (r : State E). get_or r.held place None) by.2
      ∙ ap (λ (i : ℕ). get_or (set s.held i (Some s.present)) place None) by.1
      ∙ get_or-set_same s.held place (Some s.present) None (omega (arith, free.0))

  -- ## Every list of calls

  run_append : (xs ys : List Turn) (s : State E) → run k s (xs ++ ys) ≡ run k (run k s xs) ys
  run_append [] ys s = refl
  run_append (t ∷ xs) ys s = run_append xs ys (step k s t).0

  possible_append : (xs ys : List Turn) (s : State E) → AllPossible k s (xs ++ ys) → AllPossible k (run k s xs) ys
  possible_append [] ys s possible = possible
  possible_append (t ∷ xs) ys s possible = possible_append xs ys (step k s t).0 possible.1

  possible_front : (xs ys : List Turn) (s : State E) → AllPossible k s (xs ++ ys) → AllPossible k s xs
  possible_front [] ys s possible = tt
  possible_front (t ∷ xs) ys s possible = (possible.0, possible_front xs ys (step k s t).0 possible.1)

  abbrev Unreleased : ℕ → ℕ → List Turn → Type 0
  Unreleased mark place ts = AllByRecursion (λ t. t.call ≡ release mark place → ⊥) ts

  version_stays : (ts : List Turn) (s : State E) (place : ℕ) (es : List E) → AllPossible k s ts → Unreleased s.mark place ts
      → get_or s.held place None ≡ Some es → get_or (run k s ts).held place None ≡ Some es
  version_stays [] s place es possible unreleased here = here
  version_stays (t ∷ ts) s place es possible unreleased here =
      let own = (step_places s t).mark in
      version_stays ts (step k s t).0 place es possible.1
      (subst (λ (m : ℕ). Unreleased m place ts) (sym own) unreleased.1)
      (version_kept s t place es possible.0 unreleased.0 here)

  -- a place that is given is not given again before it is released
  pub run_apart : RunApart k
  run_apart mark earlier between later one other place possible first second unreleased =
      let s = run k (fresh mark) earlier in
      let after = (step k s one).0 in
      let before = run k after between in
      let own : after.mark ≡ mark = (step_places s one).mark ∙ (run_places mark earlier).0 in
      let on = possible_append earlier (one ∷ (between ++ (other ∷ later))) (fresh mark) possible in
      let still : get_or before.held place None ≡ Some s.present =
      version_stays between after place s.present (possible_front between (other ∷ later) after on.1)
      (subst (λ (m : ℕ). Unreleased m place between) (sym own) unreleased)
      (version_given s one mark place on.0 (run_places mark earlier).1 first) in
      let there : run k (fresh mark) (earlier ++ (one ∷ between)) ≡ before = run_append earlier (one ∷ between) (fresh mark) in
      let again = subst (λ (r : State E). (step k r other).1 ≡ gave mark place) there second in
      never_some (sym (given_free before other mark place (possible_append between (other ∷ later) after on.1).0 again).1 ∙ still)

  -- as HeldSince, from any state on
  record HeldFrom (mark : ℕ) (s : State E) (ts : List Turn) (place : ℕ) (es : List E) : Type 0 where
    earlier : List Turn
    turn : Turn
    later : List Turn
    whole : ts ≡ earlier ++ (turn ∷ later)
    given : (step k (run k s earlier) turn).1 ≡ gave mark place
    list : es ≡ (run k s earlier).present
    unreleased : Unreleased mark place later

  version_since : (ts : List Turn) (s : State E) (mark place : ℕ) (es : List E) → s.mark ≡ mark
      → get_or (run k s ts).held place None ≡ Some es
      → ((get_or s.held place None ≡ Some es) × Unreleased mark place ts) ⊎ HeldFrom mark s ts place es
  version_since [] s mark place es own here = inl (here, tt)
  version_since (t ∷ ts) s mark place es own here =
      elim (version_since ts (step k s t).0 mark place es ((step_places s t).mark ∙ own) here) [
        | inl after ↦
            elim (version_from s t place es after.0) [
              | inl before ↦
                  inl (before.0, (λ e. before.1 (e ∙ ap (λ (m : ℕ). release m place) (sym own)), after.1))
              | inr now ↦
                  inr record {
                    earlier = [];
                    turn = t;
                    later = ts;
                    whole = refl;
                    given = now.0 ∙ ap (λ (m : ℕ). gave m place) own;
                    list = now.1;
                    unreleased = after.1;
                  }
            ]
        | inr since ↦
            inr record {
              earlier = t ∷ since.earlier;
              turn = since.turn;
              later = since.later;
              whole = ap (λ l. t ∷ l) since.whole;
              given = since.given;
              list = since.list;
              unreleased = since.unreleased;
            }
      ]

  held_since : (mark : ℕ) (ts : List Turn) (place : ℕ) (es : List E) → get_or (run k (fresh mark) ts).held place None ≡ Some es
      → HeldSince k mark ts place es
  held_since mark ts place es here =
      elim (version_since ts (fresh mark) mark place es refl here) [
        | inl before ↦ absurd (never_some (sym (fresh_free hold_limit place) ∙ before.0))
        | inr since ↦
            record {
              earlier = since.earlier;
              turn = since.turn;
              later = since.later;
              whole = since.whole;
              given = since.given;
              list = since.list;
              unreleased = since.unreleased;
            }
      ]

  still_held : (mark : ℕ) (ts : List Turn) (place : ℕ) (es : List E) → AllPossible k (fresh mark) ts → HeldSince k mark ts place es
      → get_or (run k (fresh mark) ts).held place None ≡ Some es
  still_held mark ts place es possible since =
      let s = run k (fresh mark) since.earlier in
      let after = (step k s since.turn).0 in
      let own : after.mark ≡ mark = (step_places s since.turn).mark ∙ (run_places mark since.earlier).0 in
      let all = subst (AllPossible k (fresh mark)) since.whole possible in
      let on = possible_append since.earlier (since.turn ∷ since.later) (fresh mark) all in
      let here = version_given s since.turn mark place on.0 (run_places mark since.earlier).1 since.given in
      ap (λ l. get_or (run k (fresh mark) l).held place None) since.whole
      ∙ ap (λ (r : State E). get_or r.held place None) (run_append since.earlier (since.turn ∷ since.later) (fresh mark))
      ∙ version_stays since.later after place es on.1
      (subst (λ (m : ℕ). Unreleased m place since.later) (sym own) since.unreleased)
      (here ∙ ap {B = Option (List E)} Some (sym since.list))

  pub run_held : RunHeld k
  run_held mark ts possible m place es =
      let s = run k (fresh mark) ts in
      let own = (run_places mark ts).0 in
      Iff.trans (by_slip s m place es) (
        λ h. (h.0 ∙ own, held_since mark ts place es h.1),
        λ h. (h.0 ∙ sym own, still_held mark ts place es possible h.1),
      )

  pub run_release : RunRelease k
  run_release mark ts possible m at free place =
      let s = run k (fresh mark) ts in
      let held = run_held mark ts possible m at in
      Iff.trans (accepts k s (calling (release m at) free place))
      (Iff.trans (release_none s free m at) (
        λ h. let since = (held h.0).0 h.1 in (since.0, (h.0, since.1)),
        λ h. (h.1.0, (held h.1.0).1 (h.0, h.1.1)),
      ))

  pub run_hold : RunHold k
  run_hold mark ts free place =
      let s = run k (fresh mark) ts in
      Iff.trans (accepts k s (calling hold free place)) (only_none (holds_out s) _ (free_place s (run_places mark ts).1))
