-- Refusals: conditions listed by ascending numbers tell the smallest, and a refused call changes nothing.
use Rattle.std.proofs.Common.{◌≡◌, ℕ, ◌≤◌, Bool, true, false, List, [], ◌∷◌, ◌++◌, Some, None, Ok, Err, Option, Result, sym, refl, ap, arith}
use Rattle.std.specs.List.{ContainsAt, AllByRecursion}
use Rattle.std.proofs.ByRecursion.{all-has, has_append_right, All-weaker}
use Rattle.std.proofs.lemmas.Bool.{both_ways}
use Rattle.faults.specs.Numbers.{session_number}
use Rattle.faults.specs.declared.causes.Cause.{Cause}
use Rattle.faults.specs.declared.session.SessionFault.{SessionFault}
use Rattle.faults.specs.declared.session.SessionFault.TheVariants.{NotHeld, BeyondEnd, EmptyRange, RangePastEnd, Unlawful}
use Rattle.faults.specs.declared.session.SessionFault.TheVariants.{ClipboardEmpty, PastEmpty, FutureEmpty, HoldsOut, ExtentLimit}
use Rattle.faults.specs.declared.session.SessionFault.TheVariants.{ElementLimit, FewCells, BeyondTally, OutputShort, RenderTooLong}
use Rattle.faults.specs.declared.session.SessionFault.TheVariants.{NoSample}
use Rattle.kinds.specs.Kinds.{Meaning}
use Rattle.flat.specs.States.{State}
use Rattle.flat.specs.Calls.{Call, insert, cut, copy, paste, erase, undo, redo, forget, hold, release}
use Rattle.flat.specs.Calls.{Outcome, refused, was_accepted}
use Rattle.flat.specs.Refusals.{fault_if, first_of, unless, unlawful, not_held}
use Rattle.flat.specs.Refusals.{refusals, refusal}
use Rattle.flat.specs.Refusals.{at_version, against_length, against_read, against_overview, against_find, against_render}
use Rattle.flat.specs.Steps.{Turn, decided, performed, step}
use Rattle.flat.specs.Promises.{Smallest, QuestionSmallest}

-- ## The first of conditions by ascending numbers

-- where it is a fault, its number is n or more
abbrev AtLeast : ℕ → Option SessionFault → Type 0
AtLeast n o = (g : SessionFault) → o ≡ Some g → n ≤ session_number g

-- where it is a fault, its number is n
record Numbered (n : ℕ) (o : Option SessionFault) : Type 0 where
  told : (g : SessionFault) → o ≡ Some g → session_number g ≡ n

-- no fault has a number below n, and none one below the first
record Ascending (n : ℕ) (faults : List (Option SessionFault)) : Type 0 where
  bounded : AllByRecursion (AtLeast n) faults
  least : (f : SessionFault) → first_of faults ≡ Some f → AllByRecursion (AtLeast (session_number f)) faults

pub never_some : {X : Type 0} {x : X} → None ≡ Some x → ⊥
never_some {X} {x} e = let z : ◌≡◌ {A = ℕ} 0 1 = cc in omega arith

pub same_some : {X : Type 0} (x y : X) → Some x ≡ Some y → x ≡ y
same_some x y e = cc

none_least : (n : ℕ) → AtLeast n None
none_least n g e = absurd (never_some e)

all_lower : (m n : ℕ) (faults : List (Option SessionFault)) → m ≤ n → AllByRecursion (AtLeast n) faults → AllByRecursion (AtLeast m) faults
all_lower m n faults h a = All-weaker (AtLeast n) (AtLeast m) (λ o l g e. omega (arith, l g e)) faults a

ascending_none : (n : ℕ) → Ascending n []
ascending_none n = record { bounded = tt; least = λ f e. tt }

-- a condition with its number stands before those from that number on
ascending_next : (n m : ℕ) (o : Option SessionFault) (rest : List (Option SessionFault)) → n ≤ m → Numbered m o → Ascending m rest
    → Ascending n (o ∷ rest)
ascending_next n m None rest h t a =
    record {
      bounded = (none_least n, all_lower n m rest h a.bounded);
      least = λ f e. (none_least (session_number f), a.least f e);
    }
ascending_next n m (Some f) rest h t a =
    record {
      bounded = (λ g e. omega (arith, t.told g e), all_lower n m rest h a.bounded);
      least =
          λ g e.
          let own : session_number g ≡ m = t.told g e in
          (λ x i. omega (arith, t.told x i), all_lower (session_number g) m rest (omega arith) a.bounded);
    }

-- conditions that may be left out
ascending_unless : (n : ℕ) (o : Option SessionFault) (ys zs : List (Option SessionFault)) → Ascending n (ys ++ zs) → Ascending n zs
    → Ascending n (unless o ys ++ zs)
ascending_unless n None ys zs a b = a
ascending_unless n (Some f) ys zs a b = b

numbered_if : (f : SessionFault) (b : Bool) → Numbered (session_number f) (fault_if b f)
numbered_if f true = record { told = λ g e. ap session_number (sym (same_some f g e)) }
numbered_if f false = record { told = λ g e. absurd (never_some e) }

numbered_made : {E : Type 0} (r : Result E Cause) → Numbered 5 (unlawful r)
numbered_made (Ok e) = record { told = λ g e. absurd (never_some e) }
numbered_made (Err c) = record { told = λ g e. ap session_number (sym (same_some (Unlawful c) g e)) }

numbered_held : {E : Type 0} (o : Option (List E)) → Numbered 1 (not_held o)
numbered_held None = record { told = λ g e. ap session_number (sym (same_some NotHeld g e)) }
numbered_held (Some es) = record { told = λ g e. absurd (never_some e) }

first_applies : (faults : List (Option SessionFault)) (f : SessionFault) → first_of faults ≡ Some f → ContainsAt faults (Some f)
first_applies [] f e = absurd (never_some e)
first_applies (None ∷ rest) f e = has_append_right (None ∷ []) rest (Some f) (first_applies rest f e)
first_applies (Some g ∷ rest) f e = (0, omega arith, λ d. e)

none_applies : (faults : List (Option SessionFault)) → first_of faults ≡ None → AllByRecursion (λ o. o ≡ None) faults
none_applies [] e = tt
none_applies (None ∷ rest) e = (refl, none_applies rest e)
none_applies (Some f ∷ rest) e = absurd (never_some (sym e))

-- so the first is the smallest
smallest : (n : ℕ) (faults : List (Option SessionFault)) → Ascending n faults → Smallest faults
smallest n faults a =
    record {
      applies = first_applies faults;
      least = λ f g e h. all-has (AtLeast (session_number f)) faults (Some g) (a.least f e) h g refl;
      none = λ e g h. never_some (sym (all-has (λ o. o ≡ None) faults (Some g) (none_applies faults e) h));
    }

last : (n m : ℕ) (o : Option SessionFault) → n ≤ m → Numbered m o → Ascending n (o ∷ [])
last n m o h t = ascending_next n m o [] h t (ascending_none m)

-- what is said against the list that an edit leaves, and against the cells
ascending_limits : (n : ℕ) (o : Option SessionFault) (long many few : Bool) → n ≤ 10
    → Ascending n (unless o (fault_if long ExtentLimit ∷ fault_if many ElementLimit ∷ []) ++ (fault_if few FewCells ∷ []))
ascending_limits n o long many few h =
    let cells : Ascending 11 (fault_if few FewCells ∷ []) = last 11 12 _ (omega arith) (numbered_if FewCells few) in
    ascending_unless n o (fault_if long ExtentLimit ∷ fault_if many ElementLimit ∷ []) (fault_if few FewCells ∷ [])
    (ascending_next n 10 _ _ h (numbered_if ExtentLimit long)
    (ascending_next 10 11 _ _ (omega arith) (numbered_if ElementLimit many) cells))
    (last n 12 _ (omega arith) (numbered_if FewCells few))

-- what is said against a range, before what has larger numbers
ascending_range : (empty past : Bool) (rest : List (Option SessionFault)) → Ascending 4 rest
    → Ascending 0 (fault_if empty EmptyRange ∷ fault_if past RangePastEnd ∷ rest)
ascending_range empty past rest a =
    ascending_next 0 3 _ _ (omega arith) (numbered_if EmptyRange empty)
    (ascending_next 3 4 _ _ (omega arith) (numbered_if RangePastEnd past) a)

ascending_removal : (empty past many few : Bool) (o : Option SessionFault)
    → Ascending 0
    (fault_if empty EmptyRange ∷ fault_if past RangePastEnd ∷ (unless o (fault_if many ElementLimit ∷ []) ++ (fault_if few FewCells ∷ [])))
ascending_removal empty past many few o =
    ascending_range empty past _
    (ascending_unless 4 o (fault_if many ElementLimit ∷ []) (fault_if few FewCells ∷ [])
    (ascending_next 4 11 _ _ (omega arith) (numbered_if ElementLimit many) (last 11 12 _ (omega arith) (numbered_if FewCells few)))
    (last 4 12 _ (omega arith) (numbered_if FewCells few)))

module _ {E A S : Type 0} (k : Meaning E A S) where
  ascending_call : (s : State E) (free : ℕ) (c : Call) → Ascending 0 (refusals k s free c)
  ascending_call s free (insert p a b) =
      ascending_next 0 2 _ _ (omega arith) (numbered_if BeyondEnd _)
      (ascending_next 2 5 _ _ (omega arith) (numbered_made (k.made a b)) (ascending_limits 5 _ _ _ _ (omega arith)))
  ascending_call s free (cut from len) = ascending_removal _ _ _ _ _
  ascending_call s free (copy from len) = ascending_range _ _ _ (last 4 12 _ (omega arith) (numbered_if FewCells _))
  ascending_call s free (paste p) =
      ascending_next 0 2 _ _ (omega arith) (numbered_if BeyondEnd _)
      (ascending_next 2 6 _ _ (omega arith) (numbered_if ClipboardEmpty _) (ascending_limits 6 _ _ _ _ (omega arith)))
  ascending_call s free (erase from len) = ascending_removal _ _ _ _ _
  ascending_call s free undo = last 0 7 _ (omega arith) (numbered_if PastEmpty _)
  ascending_call s free redo = last 0 8 _ (omega arith) (numbered_if FutureEmpty _)
  ascending_call s free forget = ascending_none 0
  ascending_call s free hold = last 0 9 _ (omega arith) (numbered_if HoldsOut _)
  ascending_call s free (release mark place) = last 0 1 _ (omega arith) (numbered_held _)

  pub call_smallest : (s : State E) (free : ℕ) (c : Call) → Smallest (refusals k s free c)
  call_smallest s free c = smallest 0 (refusals k s free c) (ascending_call s free c)

-- a question is refused by 1 where there is no version to put it to
question_smallest : {E : Type 0} (v : Option (List E)) (against : List E → List (Option SessionFault))
    → ((es : List E) → Ascending 0 (against es)) → Smallest (at_version v against)
question_smallest None against a = smallest 0 (Some NotHeld ∷ []) (last 0 1 _ (omega arith) (numbered_if NotHeld true))
question_smallest (Some es) against a = smallest 0 (against es) (a es)

module _ {E A S : Type 0} (k : Meaning E A S) where
  pub questions_smallest : QuestionSmallest k
  questions_smallest =
      record {
        length = λ v. question_smallest v against_length (λ es. ascending_none 0);
        read = λ v p. question_smallest v (against_read k p) (λ es. last 0 2 _ (omega arith) (numbered_if BeyondEnd _));
        overview = λ v from len. question_smallest v (against_overview k from len) (λ es. ascending_range _ _ [] (ascending_none 4));
        find = λ tally v t. question_smallest v (against_find k tally t) (λ es. last 0 13 _ (omega arith) (numbered_if BeyondTally _));
        render =
            λ v from len bytes missing.
            question_smallest v (against_render k from len bytes missing)
            (λ es. ascending_range _ _ _
            (ascending_next 4 14 _ _ (omega arith) (numbered_if OutputShort _)
            (ascending_next 14 15 _ _ (omega arith) (numbered_if RenderTooLong _)
            (last 15 17 _ (omega arith) (numbered_if NoSample _)))));
      }

  -- ## Accepted or refused

  -- a call that is not refused is accepted
  pub performed_accepted : (s : State E) (place : ℕ) (c : Call) → was_accepted (performed k s place c).1 ≡ true
  performed_accepted s place (insert p a b) = refl
  performed_accepted s place (cut from len) = refl
  performed_accepted s place (copy from len) = refl
  performed_accepted s place (paste p) = refl
  performed_accepted s place (erase from len) = refl
  performed_accepted s place undo = refl
  performed_accepted s place redo = refl
  performed_accepted s place forget = refl
  performed_accepted s place hold = refl
  performed_accepted s place (release mark at) = refl

  -- a call is refused, and then it leaves the state, or it is performed
  decided_cases : (P : State E × Outcome → Type 0) (s : State E) (o : Option SessionFault) (done : State E × Outcome)
      → ((f : SessionFault) → o ≡ Some f → P (s, refused f)) → (o ≡ None → P done) → P (decided s o done)
  decided_cases P s None done told ok = ok refl
  decided_cases P s (Some f) done told ok = told f refl

  pub step_cases : (P : State E × Outcome → Type 0) (s : State E) (t : Turn)
      → ((f : SessionFault) → refusal k s t.free t.call ≡ Some f → P (s, refused f))
      → (refusal k s t.free t.call ≡ None → P (performed k s t.place t.call)) → P (step k s t)
  step_cases P s t = decided_cases P s (refusal k s t.free t.call) (performed k s t.place t.call)

  pub refused_changes_nothing : (s : State E) (t : Turn) (f : SessionFault) → (step k s t).1 ≡ refused f → (step k s t).0 ≡ s
  refused_changes_nothing s t f =
      let done = performed k s t.place t.call in
      step_cases (λ r. r.1 ≡ refused f → r.0 ≡ s) s t (λ g told e. refl)
      (λ ok e. absurd (both_ways (was_accepted done.1) (ap was_accepted e) (performed_accepted s t.place t.call)))
