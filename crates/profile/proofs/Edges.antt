-- The columns' edges rise from 0 to the extent, and the columns joined are the whole.
use Rattle.std.proofs.Common.{◌≡◌, ℕ, ◌+◌, ◌-◌, ◌*◌, ◌^◌, ◌<◌, ◌≤◌, List, length, take, drop, Ok, Err, Result, sym, ap, ◌∙◌, le_trans, mul-le-mul_right, le-div_iff_mul-le, div-mul-le_self, arith, length-drop, length-take}
use native.Mathlib.Nat.{div-le_of_le-mul, mul-div_cancel_left}
use Rattle.std.specs.List.{AllByRecursion}
use Rattle.std.proofs.ByRecursion.{All-take, All-drop}
use Rattle.reels.proofs.Copies.{take_both}
use Rattle.faults.specs.Limits.{limit}
use Rattle.faults.specs.declared.causes.Cause.{Cause}
use Rattle.kinds.specs.Kinds.{Meaning, Laws, Lawful, of_numbers, IsAtom, Joinable, total}
use Rattle.kinds.proofs.Totals.{joinable, total_append}
use Rattle.profile.specs.Columns.{edge, between, carried}

pub edge_inside : (extent n i : ℕ) → i ≤ n → edge extent n i ≤ extent
edge_inside extent n i h = div-le_of_le-mul n (mul-le-mul_right extent h)

pub edge_rises : (extent n i : ℕ) → 0 < n → edge extent n i ≤ edge extent n (i + 1)
edge_rises extent n i h =
    let more : i ≤ i + 1 = omega arith in
    (le-div_iff_mul-le h).1 (le_trans (div-mul-le_self (i * extent) n) (mul-le-mul_right extent more))

pub edge_last : (extent n : ℕ) → 0 < n → edge extent n n ≡ extent
edge_last extent n h = mul-div_cancel_left extent h

-- a made element is one that is carried on
carried_ok : {E : Type 0} (r : Result E Cause) (e : E) → Ok e ≡ carried r → r ≡ Ok e
carried_ok (Ok x) e h = cc
carried_ok (Err c) e h = cc

-- what was made of two 32-bit numbers is an element
pub made_lawful : {E A S : Type 0} (k : Meaning E A S) (a b : ℕ) (e : E) → a < 2 ^ 32 → b < 2 ^ 32 → Ok e ≡ carried (k.made a b) → Lawful k e
made_lawful k a b e p q h = of_numbers a b e p q (carried_ok (k.made a b) e h)

-- what is said of a summary is said of it wherever it is known by an equation
pub joinable_at : {E A S : Type 0} (k : Meaning E A S) (s t u v : S) → s ≡ u → t ≡ v → Joinable k u v → Joinable k s t
joinable_at k s t u v p q j = rw (p, q) j

-- One stretch more of what is summed up from the front.
module _ {E A S : Type 0} (k : Meaning E A S) (laws : Laws k) (xs : List A) (atomic : AllByRecursion (IsAtom k) xs) (few : length xs ≤ limit) (from to : ℕ) (order : from ≤ to) (inside : to ≤ length xs) where
  front : AllByRecursion (IsAtom k) (take from xs)
  front = All-take (IsAtom k) from xs atomic

  next : AllByRecursion (IsAtom k) (take (to - from) (drop from xs))
  next = All-take (IsAtom k) (to - from) (drop from xs) (All-drop (IsAtom k) from xs atomic)

  short : length (take from xs) + length (take (to - from) (drop from xs)) ≤ limit
  short = simp (length-take, length-drop) (omega arith)

  pub can_join : Joinable k (total k (take from xs)) (between k xs from to)
  can_join = joinable k (take from xs) (take (to - from) (drop from xs)) front next short

  pub stretch_more : k.plus (total k (take from xs)) (between k xs from to) ≡ total k (take to xs)
  stretch_more =
      let whole : from + (to - from) ≡ to = omega arith in
      sym (total_append k laws (take from xs) (take (to - from) (drop from xs)) front next short)
      ∙ ap (total k) (sym (take_both from (to - from) xs) ∙ ap (λ n. take n xs) whole)
