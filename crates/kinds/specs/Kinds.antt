-- What a kind of element means, and the laws that a lawful kind shows.
use Rattle.std.specs.Prelude.{◌≡◌, ℕ, ◌+◌, ◌^◌, ◌<◌, ◌≤◌, List, [], ◌∷◌, length, take, drop, Ok, Err, Result}
use Rattle.std.specs.List.{ContainsAt, AllByRecursion}
use Rattle.faults.specs.declared.causes.Cause.{Cause}
use Rattle.faults.specs.Limits.{limit}
use Rattle.faults.specs.Numbers.{cause_number}

-- A kind's meaning, over its elements E, its atoms A and its summaries S.
pub record Meaning (E A S : Type 0) : Type 0 where
  -- the element made of two numbers, or why there is none
  pub made : ℕ → ℕ → Result E Cause
  -- the two numbers that an element tells
  pub first : E → ℕ
  pub second : E → ℕ
  -- the atoms that an element means, in order; their number is its extent
  pub atoms : E → List A
  -- the part of m atoms from the atom d on
  pub part : E → ℕ → ℕ → E
  -- the summary of one atom, the empty summary and joining
  pub single : A → S
  pub none : S
  pub plus : S → S → S
  -- the extent that a summary tells
  pub width : S → ℕ

-- d and m name a part of the element e: at least one atom, within its extent
pub record Within {E A S : Type 0} (k : Meaning E A S) (e : E) (d m : ℕ) : Type 0 where
  pub some : 1 ≤ m
  pub inside : d + m ≤ length (k.atoms e)

-- The elements of a kind: what is made of two 32-bit numbers, and the parts of elements.
pub data Lawful {E A S : Type 0} (k : Meaning E A S) : E → Type 0 where
  of_numbers : (a b : ℕ) (e : E) → a < 2 ^ 32 → b < 2 ^ 32 → k.made a b ≡ Ok e → Lawful k e
  of_part : (whole : E) (d m : ℕ) (e : E) → Lawful k whole → Within k whole d m → k.part whole d m ≡ e → Lawful k e

-- an atom of a kind: what occurs in some element
pub record IsAtom {E A S : Type 0} (k : Meaning E A S) (a : A) : Type 0 where
  pub element : E
  pub lawful : Lawful k element
  pub occurs : ContainsAt (k.atoms element) a

-- the summary of a list of atoms: their summaries joined in order
abbrev pub total : {E A S : Type 0} → Meaning E A S → List A → S
total k [] = k.none
total k (a ∷ rest) = k.plus (k.single a) (total k rest)

-- s is the summary of the atoms xs
pub record Sums {E A S : Type 0} (k : Meaning E A S) (xs : List A) (s : S) : Type 0 where
  pub atomic : AllByRecursion (IsAtom k) xs
  pub summed : s ≡ total k xs

-- s and t are summaries of two lists of atoms that have at most the limit together
pub record Joinable {E A S : Type 0} (k : Meaning E A S) (s t : S) : Type 0 where
  pub left : List A
  pub right : List A
  pub sums_left : Sums k left s
  pub sums_right : Sums k right t
  pub few : length left + length right ≤ limit

-- The laws of a kind.
pub record Laws {E A S : Type 0} (k : Meaning E A S) : Type 0 where
  -- what is made of two 32-bit numbers tells them, and a refusal has a cause
  pub made_first : (a b : ℕ) (e : E) → a < 2 ^ 32 → b < 2 ^ 32 → k.made a b ≡ Ok e → k.first e ≡ a
  pub made_second : (a b : ℕ) (e : E) → a < 2 ^ 32 → b < 2 ^ 32 → k.made a b ≡ Ok e → k.second e ≡ b
  pub caused : (a b : ℕ) (c : Cause) → a < 2 ^ 32 → b < 2 ^ 32 → k.made a b ≡ Err c → 1 ≤ cause_number c
  -- an element means at least one atom and at most the limit
  pub some : (e : E) → Lawful k e → 1 ≤ length (k.atoms e)
  pub few : (e : E) → Lawful k e → length (k.atoms e) ≤ limit
  -- the part (d, m) means the atoms d to d + m - 1
  pub part_atoms : (e : E) (d m : ℕ) → Lawful k e → Within k e d m → k.atoms (k.part e d m) ≡ take m (drop d (k.atoms e))
  -- the empty summary is neutral to the summary of one atom and of any list of atoms
  pub one_none : (a : A) → IsAtom k a → k.plus (k.single a) k.none ≡ k.single a
  pub none_left : (xs : List A) → AllByRecursion (IsAtom k) xs → length xs ≤ limit → k.plus k.none (total k xs) ≡ total k xs
  pub none_right : (xs : List A) → AllByRecursion (IsAtom k) xs → length xs ≤ limit → k.plus (total k xs) k.none ≡ total k xs
  -- joining is associative
  pub assoc : (xs ys zs : List A) → AllByRecursion (IsAtom k) xs → AllByRecursion (IsAtom k) ys → AllByRecursion (IsAtom k) zs → length xs + length ys + length zs ≤ limit → k.plus (k.plus (total k xs) (total k ys)) (total k zs) ≡ k.plus (total k xs) (k.plus (total k ys) (total k zs))
  -- the summary of n atoms tells n
  pub total_width : (xs : List A) → AllByRecursion (IsAtom k) xs → length xs ≤ limit → k.width (total k xs) ≡ length xs

-- The tally of a kind's summaries: a number that adds under joining.
pub record Tallies {E A S : Type 0} (k : Meaning E A S) (tally : S → ℕ) : Type 0 where
  pub none : tally k.none ≡ 0
  pub atom : (a : A) → IsAtom k a → tally (k.single a) ≤ 16777215
  pub adds : (s t : S) → Joinable k s t → tally (k.plus s t) ≡ tally s + tally t
