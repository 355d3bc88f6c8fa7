-- Tallies of lists, and the place at which a tally passes a number, found by halves.
use Rattle.std.proofs.Common.{◌≡◌, ℕ, ◌+◌, ◌-◌, ◌<◌, ◌≤◌, List, [], ◌∷◌, ◌++◌, length, take, drop, ap, ◌∙◌, subst, arith, length-append, take-add}
use lib.Seq.{take-length, take-append-add, take-append-le}
use Rattle.kinds.specs.Kinds.{Meaning, Laws, Tallies, total}
use Rattle.walks.specs.Tallying.{Passes}
use Rattle.walks.proofs.Sums.{Few, few_take, parts_joinable, parts_total}

module _ {E A S : Type 0} (k : Meaning E A S) (tally : S → ℕ) where
  -- the tally of a list of atoms
  abbrev pub tally_of : List A → ℕ
  tally_of xs = tally (total k xs)

  -- the tally passes t among the len atoms from the atom from on, where the tally before them lacks rest
  pub record Halved (xs : List A) (t from len rest : ℕ) : Type 0 where
    pub some : 1 ≤ len
    pub within : from + len ≤ length xs
    pub reached : tally_of (take from xs) + rest ≡ t
    pub inside : rest < tally_of (take len (drop from xs))

module _ {E A S : Type 0} (k : Meaning E A S) (laws : Laws k) (tally : S → ℕ) (adds : Tallies k tally) where
  pub tally_append : (xs ys : List A) → Few k (xs ++ ys) → tally_of k tally (xs ++ ys) ≡ tally_of k tally xs + tally_of k tally ys
  tally_append xs ys f = ap tally (parts_total k laws xs ys f) ∙ adds.adds (total k xs) (total k ys) (parts_joinable k laws xs ys f)

  -- what has a tally has an atom
  pub tally_some : (xs : List A) (t : ℕ) → t < tally_of k tally xs → 1 ≤ length xs
  tally_some [] t below = absurd (omega (arith, adds.none))
  tally_some (x ∷ xs) t below = omega arith

  tally_take : (xs : List A) (n m : ℕ) → Few k xs → tally_of k tally (take (n + m) xs) ≡ tally_of k tally (take n xs) + tally_of k tally (take m (drop n xs))
  tally_take xs n m f =
      let two = take-add n m xs in
      ap (tally_of k tally) two ∙ tally_append (take n xs) (take m (drop n xs)) (subst (Few k) two (few_take k (n + m) xs f))

  pub halved_start : (xs : List A) (t : ℕ) → t < tally_of k tally xs → Halved k tally xs t 0 (length xs) t
  halved_start xs t below = record {
    some = tally_some xs t below;
    within = omega arith;
    reached = omega (arith, adds.none);
    inside = omega (arith, ap (tally_of k tally) (take-length xs));
  }

  module _ (xs : List A) (t from len rest half first : ℕ) (h : Halved k tally xs t from len rest) (first_is : first ≡ tally_of k tally (take half (drop from xs))) where
    pub halved_low : 1 ≤ half → half ≤ len → rest < first → Halved k tally xs t from half rest
    halved_low some less low = record { some = some; within = omega (arith, h.within); reached = h.reached; inside = omega arith }

    pub halved_high : Few k xs → half < len → first ≤ rest → Halved k tally xs t (from + half) (len - half) (rest - first)
    halved_high f less high =
        let m : ℕ = len - half in
        let len_is : half + m ≡ len = omega arith in
        record {
          some = omega arith;
          within = omega (arith, h.within);
          reached = omega (arith, tally_take xs from half f, h.reached);
          inside = omega (arith, h.inside, tally_take xs from len f, tally_take xs (from + half) m f, tally_take xs from half f, ap (λ (n : ℕ). tally_of k tally (take n xs)) (whole_is m len_is));
        }
      where
        whole_is : (m : ℕ) → half + m ≡ len → from + half + m ≡ from + len
        whole_is m is = omega arith

  pub halved_end : (xs : List A) (t from rest : ℕ) → Few k xs → Halved k tally xs t from 1 rest → Passes k tally xs t from
  halved_end xs t from rest f h = record {
    inside = omega (arith, h.within);
    before = omega (arith, h.reached);
    past = omega (arith, h.reached, h.inside, tally_take xs from 1 f);
  }

  -- a place found in the middle of a list
  pub passes_in : (pre mid post : List A) (t rest n : ℕ) → Few k (pre ++ (mid ++ post)) → tally_of k tally pre + rest ≡ t → Passes k tally mid rest n
      → Passes k tally (pre ++ (mid ++ post)) t (length pre + n)
  passes_in pre mid post t rest n f reached p = record {
    inside = omega (arith, p.inside, length-append pre (mid ++ post), length-append mid post);
    before = omega (arith, p.before, up_to n (omega (arith, p.inside)));
    past = omega (arith, p.past, up_to (n + 1) (omega (arith, p.inside)), ap (λ (m : ℕ). tally_of k tally (take m (pre ++ (mid ++ post)))) one_more);
  }
    where
      one_more : length pre + n + 1 ≡ length pre + (n + 1)
      one_more = omega arith

      up_to : (m : ℕ) → m ≤ length mid → tally_of k tally (take (length pre + m) (pre ++ (mid ++ post))) ≡ tally_of k tally pre + tally_of k tally (take m mid)
      up_to m less =
          let two : take (length pre + m) (pre ++ (mid ++ post)) ≡ pre ++ take m mid = take-append-add pre (mid ++ post) m ∙ ap (λ l. pre ++ l) (take-append-le m mid post less) in
          ap (tally_of k tally) two ∙ tally_append pre (take m mid) (subst (Few k) two (few_take k (length pre + m) (pre ++ (mid ++ post)) f))
