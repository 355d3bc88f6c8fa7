-- What is common to all bulk copies of a stretch of samples.
use Rattle.std.proofs.Common.{◌≡◌, ℕ, zero, suc, ◌+◌, ◌-◌, ◌<◌, ◌≤◌, min, List, [], ◌∷◌, ◌++◌, length, get_or, take, drop, ℤ, Some, None, inl, inr, sym, refl, ap, ◌∙◌, arith, length-drop, length-take}
use Rattle.std.specs.List.{slice_get}
use Rattle.std.proofs.Math.Seq.{drop-append-add}
use Rattle.std.proofs.lemmas.List.{take-append-drop, take-take, drop-take, drop-drop, drop-append-le, drop_all, append-nil, append_assoc, take_at, drop_at, take_more, take_rest, get_or-drop}
use Rattle.std.proofs.lemmas.Option.{slice_get_cases, slice_get_within, get_or_from_slice_get}
use borrow.Rule.Slice.PartMut.{put_mid}
use Rattle.reels.specs.Samples.{Copied, stretch}
use Rattle.reels.proofs.Lists.{nth_take, nth_drop}

pub length_stretch : (samples : List ℤ) (start n : ℕ) → n ≤ length samples - start → length (stretch samples start n) ≡ n
length_stretch samples start n h = simp (length-take, length-drop) (omega arith)

-- where there is no sample, the samples are over
pub nth_end : (samples : List ℤ) (i : ℕ) → None ≡ slice_get samples i → length samples ≤ i
nth_end samples i e =
    elim (slice_get_cases samples i).1 [
      | inl w ↦ let some = w.2 in let z : ◌≡◌ {A = ℕ} 0 1 = cc in absurd (omega arith)
      | inr w ↦ w.0
    ]

-- one sample more of a stretch
pub stretch_more : (samples : List ℤ) (start i : ℕ) (x : ℤ) → Some x ≡ slice_get samples (start + i) → stretch samples start (i + 1) ≡ stretch samples start i ++ x ∷ []
stretch_more samples start i x e =
    let h = slice_get_within samples (start + i) x (sym e) in
    let here : get_or (drop start samples) i x ≡ x = get_or-drop start samples i x ∙ get_or_from_slice_get samples (start + i) x x (sym e) in
    take_more (drop start samples) i x (rw length-drop (omega arith)) ∙ ap (λ v. stretch samples start i ++ v ∷ []) here

-- a stretch in two parts
pub take_both : {X : Type 0} (a b : ℕ) (xs : List X) → take (a + b) xs ≡ take a xs ++ take b (drop a xs)
take_both a b xs =
    sym (take-append-drop a (take (a + b) xs)) ∙ ap (λ v. v ++ drop a (take (a + b) xs)) (take-take a (a + b) xs (omega arith)) ∙ ap (λ v. take a xs ++ v) (drop-take a b xs)

pub stretch_both : (samples : List ℤ) (start a b : ℕ) → stretch samples start (a + b) ≡ stretch samples start a ++ stretch samples (start + a) b
stretch_both samples start a b = take_both a b (drop start samples) ∙ ap (λ v. stretch samples start a ++ take b v) (drop-drop a start samples)

-- a stretch of two lists, one after the other
take_over : {X : Type 0} (k : ℕ) (xs ys : List X) → take k (xs ++ ys) ≡ take (min k (length xs)) xs ++ take (k - length xs) ys
take_over zero xs ys = let e : min 0 (length xs) ≡ 0 = omega arith in let f : 0 - length xs ≡ 0 = omega arith in rw (e, f)
take_over (suc k) [] ys = let e : min (suc k) 0 ≡ 0 = omega arith in let f : suc k - 0 ≡ suc k = omega arith in rw (e, f)
take_over (suc k) (x ∷ xs) ys =
    let e : min (suc k) (suc (length xs)) ≡ suc (min k (length xs)) = omega arith in
    let f : suc k - suc (length xs) ≡ k - length xs = omega arith in
    rw (e, f) (ap (λ v. x ∷ v) (take_over k xs ys))

drop_over : {X : Type 0} (k : ℕ) (xs ys : List X) → length xs ≤ k → drop k (xs ++ ys) ≡ drop (k - length xs) ys
drop_over k xs ys h =
    let e : k ≡ length xs + (k - length xs) = omega arith in
    ap (λ m. drop m (xs ++ ys)) e ∙ drop-append-add xs ys (k - length xs)

pub stretch_front : (xs ys : List ℤ) (start k : ℕ) → start ≤ length xs → stretch (xs ++ ys) start k ≡ stretch xs start (min k (length xs - start)) ++ take (k - (length xs - start)) ys
stretch_front xs ys start k h =
    let n = length-drop start xs in
    ap (take k) (drop-append-le start xs ys h) ∙ rw n at (take_over k (drop start xs) ys)

pub stretch_back : (xs ys : List ℤ) (start k : ℕ) → length xs ≤ start → stretch (xs ++ ys) start k ≡ stretch ys (start - length xs) k
stretch_back xs ys start k h = ap (take k) (drop_over start xs ys h)

-- A block that lies within two lists, filled from the first and then from the second.
module _ (xs ys : List ℤ) (start : ℕ) (block : List ℤ) (inside : start + length block ≤ length xs + length ys) where
  pub filled_both : (one two : List ℤ) (n m : ℕ) → start ≤ length xs → Copied xs start block one n → Copied ys 0 (take (length one - n) (drop n one)) two m → put_mid n (length one - n) one two ≡ stretch (xs ++ ys) start (length block)
  filled_both one two n m h a b =
      let some = stretch xs start n in
      let long : length (stretch xs start n) ≡ n = length_stretch xs start n (omega (arith, a.count)) in
      let front : take n one ≡ stretch xs start n = ap (take n) a.block ∙ take_at some (drop n block) n long in
      let back : drop n one ≡ drop n block = ap (drop n) a.block ∙ drop_at some (drop n block) n long in
      let part : take (length one - n) (drop n one) ≡ drop n block = take_rest one n ∙ back in
      let left : length (take (length one - n) (drop n one)) ≡ length block - n = ap length part ∙ length-drop n block in
      let rest : m ≡ length block - (length xs - start) = omega (arith, a.count, b.count, left) in
      let none : drop m (take (length one - n) (drop n one)) ≡ [] = drop_all m (take (length one - n) (drop n one)) (omega (arith, a.count, b.count, left)) in
      let filled : two ≡ take m ys = b.block ∙ ap (λ v. take m ys ++ v) none ∙ append-nil (take m ys) in
      let over : drop (length one - n) (drop n one) ≡ [] = drop_all (length one - n) (drop n one) (rw length-drop (omega arith)) in
      let whole : take n one ++ (two ++ drop (length one - n) (drop n one)) ≡ stretch xs start n ++ take m ys =
      ap (λ v. take n one ++ (two ++ v)) over ∙ ap (λ v. take n one ++ v) (append-nil two ∙ filled) ∙ ap (λ v. v ++ take m ys) front in
      whole ∙ ap (λ v. stretch xs start v ++ take m ys) a.count ∙ ap (λ v. stretch xs start (min (length block) (length xs - start)) ++ take v ys) rest ∙ sym (stretch_front xs ys start (length block) h)

  pub filled_back : (one : List ℤ) (n : ℕ) → length xs ≤ start → Copied ys (start - length xs) block one n → one ≡ stretch (xs ++ ys) start (length block)
  filled_back one n h a =
      let all : n ≡ length block = omega (arith, a.count) in
      a.block ∙ ap (λ v. stretch ys (start - length xs) n ++ v) (drop_all n block (omega arith)) ∙ append-nil (stretch ys (start - length xs) n)
      ∙ ap (stretch ys (start - length xs)) all ∙ sym (stretch_back xs ys start (length block) h)

-- the copied samples, read from the front of what holds the block
pub read_back : (samples : List ℤ) (start : ℕ) (before after rest : List ℤ) (n : ℕ) → Copied samples start before after n → take n (after ++ rest) ≡ stretch samples start n
read_back samples start before after rest n a =
    ap (λ v. take n (v ++ rest)) a.block ∙ ap (take n) (append_assoc (stretch samples start n) (drop n before) rest)
    ∙ take_at (stretch samples start n) (drop n before ++ rest) n (length_stretch samples start n (omega (arith, a.count)))

-- from the end on there is nothing to copy
pub copied_none : (samples : List ℤ) (start : ℕ) (block : List ℤ) → length samples ≤ start → Copied samples start block block 0
copied_none samples start block h = record { count = omega arith; block = refl }

-- what a stretch has at a place
pub nth_stretch : (samples : List ℤ) (start n i : ℕ) → i < n → slice_get (stretch samples start n) i ≡ slice_get samples (start + i)
nth_stretch samples start n i h = nth_take n (drop start samples) i h ∙ nth_drop start samples i
