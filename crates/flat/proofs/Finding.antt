-- The place at which a tally is reached: there is one below the total, and no other.
use Rattle.std.proofs.Common.{◌≡◌, ℕ, zero, suc, ◌+◌, ◌<◌, ◌≤◌, List, length, take, drop, sym, ap, ◌∙◌, inl, inr, add-one, arith, length-append, length-take}
use Rattle.std.specs.List.{AllByRecursion}
use Rattle.std.proofs.ByRecursion.{All-take, All-drop}
use Rattle.std.proofs.lemmas.List.{take_all, take-take, take-append-drop}
use Rattle.std.proofs.lemmas.Bool.{cases_lt, cases_order}
use Rattle.faults.specs.Limits.{limit}
use Rattle.kinds.specs.Kinds.{Meaning, Laws, Lawful, IsAtom, Tallies, total}
use Rattle.kinds.specs.Places.{extent_of, atoms_of}
use Rattle.kinds.proofs.Places.{extent_counts}
use Rattle.kinds.proofs.Totals.{joined_atomic, joinable, total_append}
use Rattle.flat.specs.Questions.{Finds, tally_to}

-- a function of places that starts at t or below and ends above it crosses t at some place
crossing : (f : ℕ → ℕ) (t n : ℕ) → f 0 ≤ t → t < f n → (p : ℕ) × (p < n) × ((f p ≤ t) × (t < f (p + 1)))
crossing f t zero low high = absurd (omega arith)
crossing f t (suc n) low high =
    elim (cases_lt t (f n)) [
      | inl lt ↦ let rest = crossing f t n low lt in (rest.0, omega (arith, rest.1), rest.2)
      | inr le ↦ (n, omega arith, (le, rw add-one high))
    ]

module _ {E A S : Type 0} (k : Meaning E A S) (tally : S → ℕ) (laws : Laws k) (tallies : Tallies k tally) where
  -- the tally of atoms is that of the first p and that of the others, added
  tally_split : (xs : List A) (p : ℕ) → AllByRecursion (IsAtom k) xs → length xs ≤ limit
      → tally (total k xs) ≡ tally (total k (take p xs)) + tally (total k (drop p xs))
  tally_split xs p atomic few =
      let front = All-take (IsAtom k) p xs atomic in
      let back = All-drop (IsAtom k) p xs atomic in
      let whole = take-append-drop p xs in
      let both : length (take p xs) + length (drop p xs) ≤ limit = omega (arith, simp length-append at (ap length whole)) in
      ap (λ l. tally (total k l)) (sym whole)
      ∙ ap tally (total_append k laws (take p xs) (drop p xs) front back both)
      ∙ tallies.adds (total k (take p xs)) (total k (drop p xs)) (joinable k (take p xs) (drop p xs) front back both)

  -- more atoms have no smaller tally
  tally_grows : (xs : List A) (p q : ℕ) → AllByRecursion (IsAtom k) xs → length xs ≤ limit → p ≤ q
      → tally (total k (take p xs)) ≤ tally (total k (take q xs))
  tally_grows xs p q atomic few h =
      let fewer : length (take q xs) ≤ limit = simp length-take (omega arith) in
      let front : take p (take q xs) ≡ take p xs = take-take p q xs h in
      omega (arith, tally_split (take q xs) p (All-take (IsAtom k) q xs atomic) fewer, ap (λ l. tally (total k l)) front)

  module _ (es : List E) (lawful : AllByRecursion (Lawful k) es) (few : extent_of k es ≤ limit) where
    atomic : AllByRecursion (IsAtom k) (atoms_of k es)
    atomic = joined_atomic k es lawful

    few_atoms : length (atoms_of k es) ≤ limit
    few_atoms = omega (arith, extent_counts k es)

    pub find_some : (t : ℕ) → t < tally (total k (atoms_of k es)) → (p : ℕ) × (p < extent_of k es) × Finds k tally es t p
    find_some t h =
        let all : take (extent_of k es) (atoms_of k es) ≡ atoms_of k es = take_all _ (atoms_of k es) (omega (arith, extent_counts k es)) in
        let low : tally_to k tally es 0 ≤ t = omega (arith, tallies.none) in
        let high : t < tally_to k tally es (extent_of k es) = omega (arith, ap (λ l. tally (total k l)) all) in
        let found = crossing (tally_to k tally es) t (extent_of k es) low high in
        (found.0, found.1, record { reached = found.2.0; passed = found.2.1 })

    -- a tally passed at a place is not reached behind it
    passed_before : (t p q : ℕ) → Finds k tally es t p → Finds k tally es t q → p < q → ⊥
    passed_before t p q a b h =
        omega (arith, a.passed, b.reached, tally_grows (atoms_of k es) (p + 1) q atomic few_atoms (omega arith))

    pub find_one : (t p q : ℕ) → Finds k tally es t p → Finds k tally es t q → p ≡ q
    find_one t p q a b =
        elim (cases_order p q) [
          | inl same ↦ same
          | inr (inl lt) ↦ absurd (passed_before t p q a b lt)
          | inr (inr gt) ↦ absurd (passed_before t q p b a gt)
        ]

    pub find_none : (t p : ℕ) → Finds k tally es t p → t < tally (total k (atoms_of k es))
    find_none t p a = omega (arith, a.passed, tally_split (atoms_of k es) (p + 1) atomic few_atoms)
