-- Acceptance: a call is accepted, and a question answered, exactly where none of its conditions applies;
-- what that means in plain words, call by call.
use Rattle.std.proofs.Common.{◌≡◌, ℕ, ◌+◌, ◌*◌, ◌<◌, ◌≤◌, Bool, true, false, ◌||◌, eqb, ltb, leb, ◌↔◌, List, [], ◌∷◌, ◌++◌, length, Some, None, Ok, Err, Option, Result, sym, refl, ap, ◌∙◌, subst, arith}
use mathlib.Core.Logic.Iff
use Rattle.std.proofs.lemmas.Bool.{both_ways, ltb-false, le-ltb, leb-false, lt-leb, eqb-false, ne_eqb, or_parts, or_from}
use Rattle.faults.specs.Limits.{limit}
use Rattle.faults.specs.declared.causes.Cause.{Cause}
use Rattle.faults.specs.declared.session.SessionFault.{SessionFault}
use Rattle.faults.specs.declared.session.SessionFault.TheVariants.{BeyondEnd, EmptyRange, RangePastEnd}
use Rattle.faults.specs.declared.session.SessionFault.TheVariants.{ClipboardEmpty, ExtentLimit}
use Rattle.faults.specs.declared.session.SessionFault.TheVariants.{ElementLimit, FewCells, BeyondTally, OutputShort, RenderTooLong}
use Rattle.faults.specs.declared.session.SessionFault.TheVariants.{NoSample, CellsOutside}
use Rattle.kinds.specs.Kinds.{Meaning, total}
use Rattle.kinds.specs.Places.{elements_of, extent_of, atoms_of, put_at, taken, without}
use Rattle.flat.specs.States.{State}
use Rattle.flat.specs.Calls.{insert, cut, copy, paste, erase}
use Rattle.flat.specs.Calls.{Outcome, was_accepted}
use Rattle.flat.specs.Refusals.{fault_if, first_of, unless, is_empty, unlawful, element_limit, cells_wanted}
use Rattle.flat.specs.Refusals.{empty_range_fault, clipboard_empty, too_many, few_cells_fault, output_short, render_too_long, render_limit, fewest_cells, most_cells}
use Rattle.flat.specs.Refusals.{beyond_end, range_past_end, too_long}
use Rattle.flat.specs.Refusals.{against_put, against_range, against_removal, refusal}
use Rattle.flat.specs.Refusals.{against_length, against_read, against_overview, against_find, against_render, lacks}
use Rattle.flat.specs.Steps.{Turn, calling, decided, performed, Accepts}
use Rattle.flat.specs.Promises.{MayInsert, MayRemove, MayCopy, MayPaste}
use Rattle.flat.specs.Promises.{AnsweredWhere, MayAsk, MayRender, QuestionAnswered, StartAccepted, LacksNone}
use Rattle.flat.specs.Promises.{InsertAccepted, CutAccepted, EraseAccepted, CopyAccepted, PasteAccepted, ForgetAccepted}
use Rattle.flat.proofs.Refusals.{never_some, same_some, performed_accepted}

module _ {E A S : Type 0} (k : Meaning E A S) where
  decided_accepted : (s : State E) (o : Option SessionFault) (done : State E × Outcome) → was_accepted done.1 ≡ true
      → (was_accepted (decided s o done).1 ≡ true) ↔ (o ≡ None)
  decided_accepted s None done ok = (λ e. refl, λ e. ok)
  decided_accepted s (Some g) done ok = (λ e. absurd (both_ways false refl e), λ e. absurd (never_some (sym e)))

  -- a call is accepted exactly where there is no reason to refuse it
  pub accepts : (s : State E) (t : Turn) → Accepts k s t ↔ (refusal k s t.free t.call ≡ None)
  accepts s t =
      decided_accepted s (refusal k s t.free t.call) (performed k s t.place t.call) (performed_accepted k s t.place t.call)

-- ## Where no condition applies

first_none : (o : Option SessionFault) (rest : List (Option SessionFault))
    → (first_of (o ∷ rest) ≡ None) ↔ ((o ≡ None) × (first_of rest ≡ None))
first_none None rest = (λ e. (refl, e), λ h. h.1)
first_none (Some f) rest = (λ e. absurd (never_some (sym e)), λ h. absurd (never_some (sym h.0)))

-- where there is one condition alone
pub only_none : (o : Option SessionFault) (P : Type 0) → (o ≡ None) ↔ P → (first_of (o ∷ []) ≡ None) ↔ P
only_none o P each = let only = first_none o [] in (λ e. each.0 (only.0 e).0, λ h. only.1 (each.1 h, refl))

-- conditions that have a meaning only where the two before them do not apply
guarded_none : (a b : Option SessionFault) (ys zs : List (Option SessionFault))
    → (first_of (a ∷ b ∷ (unless (first_of (a ∷ b ∷ [])) ys ++ zs)) ≡ None)
    ↔ ((a ≡ None) × (b ≡ None) × (first_of (ys ++ zs) ≡ None))
guarded_none None None ys zs = (λ e. (refl, refl, e), λ h. h.2)
guarded_none None (Some f) ys zs = (λ e. absurd (never_some (sym e)), λ h. absurd (never_some (sym h.1)))
guarded_none (Some f) b ys zs = (λ e. absurd (never_some (sym e)), λ h. absurd (never_some (sym h.0)))

if_none : (b : Bool) (f : SessionFault) → (fault_if b f ≡ None) ↔ (b ≡ false)
if_none true f = (λ e. absurd (never_some (sym e)), λ e. absurd (both_ways true e refl))
if_none false f = (λ e. refl, λ e. refl)

-- what each condition says where it does not apply
pub not_above : (most n : ℕ) (f : SessionFault) → (fault_if (ltb most n) f ≡ None) ↔ (n ≤ most)
not_above most n f = (λ e. ltb-false most n ((if_none _ f).0 e), λ h. (if_none _ f).1 (le-ltb most n h))

pub not_reached : (end n : ℕ) (f : SessionFault) → (fault_if (leb end n) f ≡ None) ↔ (n < end)
not_reached end n f = (λ e. leb-false end n ((if_none _ f).0 e), λ h. (if_none _ f).1 (lt-leb end n h))

not_zero : (n : ℕ) (f : SessionFault) → (fault_if (eqb n 0) f ≡ None) ↔ (1 ≤ n)
not_zero n f = (
  λ e. let some : n ≡ 0 → ⊥ = eqb-false n 0 ((if_none _ f).0 e) in omega arith,
  λ h. (if_none _ f).1 (ne_eqb n 0 (λ z. omega arith)),
)

pub not_empty : {X : Type 0} (xs : List X) (f : SessionFault) → (fault_if (is_empty xs) f ≡ None) ↔ (1 ≤ length xs)
not_empty [] f = (λ e. absurd (never_some (sym e)), λ h. absurd (omega arith))
not_empty (x ∷ xs) f = (λ e. omega arith, λ h. refl)

-- a session starts with so many cells exactly where they are within the limits
pub start_accepted : StartAccepted
start_accepted cells =
    let few = ltb cells fewest_cells in
    let many = ltb most_cells cells in
    let none = if_none (few || many) CellsOutside in (
      λ e.
          let within = or_parts few many (none.0 e) in
          (ltb-false cells fewest_cells within.0, ltb-false most_cells cells within.1),
      λ h. none.1 (or_from few many (le-ltb cells fewest_cells h.0) (le-ltb most_cells cells h.1)),
    )

makes_some : {E : Type 0} (r : Result E Cause) → unlawful r ≡ None → (e : E) × (r ≡ Ok e)
makes_some (Ok e) h = (e, refl)
makes_some (Err c) h = absurd (never_some (sym h))

module _ {E A S : Type 0} (k : Meaning E A S) where
  -- ## Acceptance in plain words

  -- elements can be put at a place
  record MayPut (es : List E) (p : ℕ) (bad : Option SessionFault) (new : List E) (free : ℕ) : Type 0 where
    place : p ≤ extent_of k es
    good : bad ≡ None
    extent : extent_of k es + extent_of k new ≤ limit
    elements : length (put_at k p new es) ≤ element_limit
    cells : cells_wanted ≤ free

  put_none : (es : List E) (p : ℕ) (bad : Option SessionFault) (new : List E) (free : ℕ)
      → (first_of (against_put k es p bad new ++ (few_cells_fault free ∷ [])) ≡ None) ↔ MayPut es p bad new free
  put_none es p bad new free =
      let split = guarded_none (beyond_end k es p) bad (too_long k es new ∷ too_many (put_at k p new es) ∷ []) (few_cells_fault free ∷ []) in
      let long = first_none (too_long k es new) (too_many (put_at k p new es) ∷ few_cells_fault free ∷ []) in
      let many = first_none (too_many (put_at k p new es)) (few_cells_fault free ∷ []) in
      let few = first_none (few_cells_fault free) [] in
      let inside = not_above (extent_of k es) p BeyondEnd in
      let short = not_above limit (extent_of k es + extent_of k new) ExtentLimit in
      let sparse = not_above element_limit (length (put_at k p new es)) ElementLimit in
      let roomy = not_above free cells_wanted FewCells in (
        λ e.
            let h = split.0 e in
            let l = long.0 h.2 in
            let m = many.0 l.1 in
            record {
              place = inside.0 h.0;
              good = h.1;
              extent = short.0 l.0;
              elements = sparse.0 m.0;
              cells = roomy.0 (few.0 m.1).0;
            },
        λ m.
            split.1 (
              inside.1 m.place,
              m.good,
              long.1 (short.1 m.extent, many.1 (sparse.1 m.elements, few.1 (roomy.1 m.cells, refl))),
            ),
      )

  pub remove_none : (s : State E) (from len free : ℕ)
      → (first_of (against_removal k s.present from len ++ (few_cells_fault free ∷ [])) ≡ None) ↔ MayRemove k s from len free
  remove_none s from len free =
      let es = s.present in
      let split = guarded_none (empty_range_fault len) (range_past_end k es from len) (too_many (without k from len es) ∷ []) (few_cells_fault free ∷ []) in
      let many = first_none (too_many (without k from len es)) (few_cells_fault free ∷ []) in
      let few = first_none (few_cells_fault free) [] in
      let some = not_zero len EmptyRange in
      let inside = not_above (extent_of k es) (from + len) RangePastEnd in
      let sparse = not_above element_limit (length (without k from len es)) ElementLimit in
      let roomy = not_above free cells_wanted FewCells in (
        λ e.
            let h = split.0 e in
            let m = many.0 h.2 in
            record {
              some = some.0 h.0;
              inside = inside.0 h.1;
              elements = sparse.0 m.0;
              cells = roomy.0 (few.0 m.1).0;
            },
        λ m.
            split.1 (
              some.1 m.some,
              inside.1 m.inside,
              many.1 (sparse.1 m.elements, few.1 (roomy.1 m.cells, refl)),
            ),
      )

  -- a range with what else is said against it
  range_none : (es : List E) (from len : ℕ) (rest : List (Option SessionFault))
      → (first_of (against_range k es from len ++ rest) ≡ None) ↔ (MayAsk k from len es × (first_of rest ≡ None))
  range_none es from len rest =
      let first = first_none (empty_range_fault len) (range_past_end k es from len ∷ rest) in
      let second = first_none (range_past_end k es from len) rest in
      let some = not_zero len EmptyRange in
      let inside = not_above (extent_of k es) (from + len) RangePastEnd in (
        λ e.
            let h = first.0 e in
            let i = second.0 h.1 in (record { some = some.0 h.0; inside = inside.0 i.0 }, i.1),
        λ h. first.1 (some.1 h.0.some, second.1 (inside.1 h.0.inside, h.1)),
      )

  pub copy_none : (s : State E) (from len free : ℕ)
      → (first_of (against_range k s.present from len ++ (few_cells_fault free ∷ [])) ≡ None) ↔ MayCopy k s from len free
  copy_none s from len free =
      let range = range_none s.present from len (few_cells_fault free ∷ []) in
      let few = first_none (few_cells_fault free) [] in
      let roomy = not_above free cells_wanted FewCells in (
        λ e.
            let h = range.0 e in
            record { some = h.0.some; inside = h.0.inside; cells = roomy.0 (few.0 h.1).0 },
        λ m. range.1 (record { some = m.some; inside = m.inside }, few.1 (roomy.1 m.cells, refl)),
      )

  render_none : (es : List E) (from len bytes : ℕ) (missing : List E → Bool)
      → (first_of (against_render k from len bytes missing es) ≡ None) ↔ MayRender k from len bytes missing es
  render_none es from len bytes missing =
      let lacking = fault_if (missing (taken k from len es)) NoSample in
      let range = range_none es from len (output_short len bytes ∷ render_too_long len ∷ lacking ∷ []) in
      let room = first_none (output_short len bytes) (render_too_long len ∷ lacking ∷ []) in
      let short = first_none (render_too_long len) (lacking ∷ []) in
      let sampled = first_none lacking [] in
      let enough = not_above bytes (2 * len) OutputShort in
      let frames = not_above render_limit len RenderTooLong in
      let there = if_none (missing (taken k from len es)) NoSample in (
        λ e.
            let h = range.0 e in
            let i = room.0 h.1 in
            let j = short.0 i.1 in
            record {
              some = h.0.some;
              inside = h.0.inside;
              room = enough.0 i.0;
              short = frames.0 j.0;
              sampled = there.0 (sampled.0 j.1).0;
            },
        λ m.
            range.1 (
              record { some = m.some; inside = m.inside },
              room.1 (enough.1 m.room, short.1 (frames.1 m.short, sampled.1 (there.1 m.sampled, refl))),
            ),
      )

  pub lacks_none : LacksNone k
  lacks_none samples [] = (λ e. tt, λ h. refl)
  lacks_none samples (e ∷ es) =
      let here = ltb (length samples) (k.first e + k.second e) in
      let rest = lacks_none samples es in (
        λ h.
            let both = or_parts here (lacks k samples es) h in
            (ltb-false (length samples) (k.first e + k.second e) both.0, rest.0 both.1),
        λ h. or_from here (lacks k samples es) (le-ltb (length samples) (k.first e + k.second e) h.0) (rest.1 h.1),
      )

  asked : (v : Option (List E)) (against : List E → List (Option SessionFault)) (Good : List E → Type 0)
      → ((es : List E) → (first_of (against es) ≡ None) ↔ Good es) → AnsweredWhere k v against Good
  asked None against Good each = (λ e. absurd (never_some (sym e)), λ h. absurd (never_some h.1))
  asked (Some es) against Good each = (
    λ e. (es, refl, (each es).0 e),
    λ h. (each es).1 (subst Good (sym (same_some es h.0 h.1)) h.2),
  )

  pub question_answered : QuestionAnswered k
  question_answered =
      record {
        length = λ v. asked v against_length (λ es. Unit {0}) (λ es. (λ e. tt, λ h. refl));
        read =
            λ v p.
            asked v (against_read k p) (λ es. p < extent_of k es)
            (λ es. only_none _ _ (not_reached (extent_of k es) p BeyondEnd));
        overview =
            λ v from len.
            asked v (against_overview k from len) (MayAsk k from len)
            (λ es. let range = range_none es from len [] in (λ e. (range.0 e).0, λ m. range.1 (m, refl)));
        find =
            λ tally v t.
            asked v (against_find k tally t) (λ es. t < tally (total k (atoms_of k es)))
            (λ es. only_none _ _ (not_reached (tally (total k (atoms_of k es))) t BeyondTally));
        render =
            λ v from len bytes missing.
            asked v (against_render k from len bytes missing) (MayRender k from len bytes missing)
            (λ es. render_none es from len bytes missing);
      }

  pub paste_none : (s : State E) (p free : ℕ) → (refusal k s free (paste p) ≡ None) ↔ MayPaste k s p free
  paste_none s p free =
      let put = put_none s.present p (clipboard_empty s) s.clipboard free in
      let some = not_empty s.clipboard ClipboardEmpty in (
        λ e.
            let m = put.0 e in
            record {
              place = m.place;
              some = some.0 m.good;
              extent = m.extent;
              elements = m.elements;
              cells = m.cells;
            },
        λ m.
            put.1
            record {
              place = m.place;
              good = some.1 m.some;
              extent = m.extent;
              elements = m.elements;
              cells = m.cells;
            },
      )

  -- over what the two numbers make
  pub insert_none : (s : State E) (p a b free : ℕ) → (refusal k s free (insert p a b) ≡ None) ↔ MayInsert k s p a b free
  insert_none s p a b free =
      let es = s.present in
      let against : Result E Cause → Option SessionFault =
      λ r. first_of (against_put k es p (unlawful r) (elements_of r) ++ (few_cells_fault free ∷ [])) in (
        λ e.
            let good = ((put_none es p (unlawful (k.made a b)) (elements_of (k.made a b)) free).0 e).good in
            let some = makes_some (k.made a b) good in
            let one = some.0 in
            let m = (put_none es p None (one ∷ []) free).0 (ap against (sym some.1) ∙ e) in
            record {
              place = m.place;
              element = one;
              made = some.1;
              extent = omega (arith, m.extent);
              elements = m.elements;
              cells = m.cells;
            },
        λ m.
            let one = m.element in
            ap against m.made
            ∙ (put_none es p None (one ∷ []) free).1
            record {
              place = m.place;
              good = refl;
              extent = omega (arith, m.extent);
              elements = m.elements;
              cells = m.cells;
            },
      )

  pub insert_accepted : InsertAccepted k
  insert_accepted s p a b free place = Iff.trans (accepts k s (calling (insert p a b) free place)) (insert_none s p a b free)

  pub cut_accepted : CutAccepted k
  cut_accepted s from len free place = Iff.trans (accepts k s (calling (cut from len) free place)) (remove_none s from len free)

  pub erase_accepted : EraseAccepted k
  erase_accepted s from len free place = Iff.trans (accepts k s (calling (erase from len) free place)) (remove_none s from len free)

  pub copy_accepted : CopyAccepted k
  copy_accepted s from len free place = Iff.trans (accepts k s (calling (copy from len) free place)) (copy_none s from len free)

  pub paste_accepted : PasteAccepted k
  paste_accepted s p free place = Iff.trans (accepts k s (calling (paste p) free place)) (paste_none s p free)

  pub forget_accepted : ForgetAccepted k
  forget_accepted s free place = refl
