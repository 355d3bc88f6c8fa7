-- An element seen in n columns of as equal extents as there can be.
use Rattle.std.specs.Prelude.{◌≡◌, ℕ, ◌+◌, ◌-◌, ◌*◌, ◌/◌, ◌≤◌, List, map, length, take, drop, Ok, Err, Result}
use Rattle.std.specs.List.{AllZip, range_with_len}
use Rattle.faults.specs.declared.causes.Cause.{Cause}
use Rattle.faults.specs.declared.session.SessionFault.{SessionFault}
use Rattle.faults.specs.declared.session.SessionFault.TheVariants.{Unlawful}
use Rattle.kinds.specs.Kinds.{Meaning, total}
use Rattle.profile.specs.declared.fault.SurveyFault.{SurveyFault}
use Rattle.profile.specs.declared.fault.SurveyFault.TheVariants.{Session, NoMemory}

-- a kind's refusal, carried whole inside the session's
abbrev pub carried : {E : Type 0} → Result E Cause → Result E SessionFault
carried (Ok e) = Ok e
carried (Err c) = Err (Unlawful c)

-- where the column i begins, and the column before it ends
abbrev pub edge : ℕ → ℕ → ℕ → ℕ
edge extent n i = i * extent / n

-- a call may be made at any two places of the extent, the first of them not behind the second
abbrev pub TakesStretches : (ℕ → ℕ → Type 0) → ℕ → Type 0
TakesStretches Takes extent = (from to : ℕ) → from ≤ to → to ≤ extent → Takes from to

-- the values of n columns, each as it is given of the column's two edges
pub record Columns {S : Type 0} (Gives : ℕ → ℕ → S → Type 0) (extent n : ℕ) (values : List S) : Type 0 where
  pub each : AllZip (λ i s. Gives (edge extent n i) (edge extent n (i + 1)) s) (range_with_len 0 n) values

module _ {E A S : Type 0} (k : Meaning E A S) where
  -- the summary of what was made, or why nothing was
  abbrev pub summary_of : Result E Cause → Result S SessionFault
  summary_of (Ok e) = Ok (total k (k.atoms e))
  summary_of (Err c) = Err (Unlawful c)

  -- the summary of the atoms from one place to another
  abbrev pub between : List A → ℕ → ℕ → S
  between xs from to = total k (take (to - from) (drop from xs))

  abbrev pub column : List A → ℕ → ℕ → S
  column xs n i = between xs (edge (length xs) n i) (edge (length xs) n (i + 1))

  -- the summaries of the n columns, and that of all atoms
  pub record Surveyed (xs : List A) (n : ℕ) (columns : List S) (whole : S) : Type 0 where
    pub each : columns ≡ map (column xs n) (range_with_len 0 n)
    pub all : 1 ≤ n → whole ≡ total k xs

-- why there is no survey of what was made: for want of memory alone, if something was
abbrev pub NoSurvey : {E : Type 0} → Result E Cause → SurveyFault → Type 0
NoSurvey (Ok e) f = f ≡ NoMemory
NoSurvey (Err c) f = f ≡ Session (Unlawful c)
