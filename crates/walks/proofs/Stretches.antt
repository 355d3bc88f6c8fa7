-- Stretches of a list that is made of others.
use Rattle.std.proofs.Common.{◌≡◌, ℕ, zero, suc, ◌+◌, ◌-◌, ◌<◌, ◌≤◌, min, List, [], ◌∷◌, ◌++◌, length, take, drop, sym, ap, ◌∙◌, arith, length-drop, take_all}
use Rattle.std.proofs.lemmas.List.{take_min, drop_min}
use lib.Seq.{take-append-le, drop-append-le, take-append-add, drop-append-add}

module _ {A : Type 0} where
  -- the first atoms of two lists, and the others
  pub take_two : (n : ℕ) (xs ys : List A) → take n (xs ++ ys) ≡ take n xs ++ take (n - length xs) ys
  take_two zero xs ys = let none : 0 ≡ 0 - length xs = omega arith in ap (λ (m : ℕ). take m ys) none
  take_two (suc n) [] ys = let all : suc n ≡ suc n - 0 = omega arith in ap (λ (m : ℕ). take m ys) all
  take_two (suc n) (x ∷ xs) ys =
      let less : n - length xs ≡ suc n - length (x ∷ xs) = omega arith in
      ap (λ l. x ∷ l) (take_two n xs ys ∙ ap (λ (m : ℕ). take n xs ++ take m ys) less)

  pub drop_two : (n : ℕ) (xs ys : List A) → drop n (xs ++ ys) ≡ drop n xs ++ drop (n - length xs) ys
  drop_two zero xs ys = let none : 0 ≡ 0 - length xs = omega arith in ap (λ (m : ℕ). xs ++ drop m ys) none
  drop_two (suc n) [] ys = let all : suc n ≡ suc n - 0 = omega arith in ap (λ (m : ℕ). drop m ys) all
  drop_two (suc n) (x ∷ xs) ys =
      let less : n - length xs ≡ suc n - length (x ∷ xs) = omega arith in
      drop_two n xs ys ∙ ap (λ (m : ℕ). drop n xs ++ drop m ys) less

  module _ (left own right : List A) where
    -- what a place divides: the left list, the own one or the right one
    pub drop_left : (at : ℕ) → at ≤ length left → drop at (left ++ (own ++ right)) ≡ drop at left ++ (own ++ right)
    drop_left at less = drop-append-le at left (own ++ right) less

    pub drop_own : (at past : ℕ) → at ≡ length left + past → past ≤ length own → drop at (left ++ (own ++ right)) ≡ drop past own ++ right
    drop_own at past is less =
        ap (λ (n : ℕ). drop n (left ++ (own ++ right))) is ∙ drop-append-add left (own ++ right) past ∙ drop-append-le past own right less

    pub drop_right : (at rest : ℕ) → at ≡ length left + length own + rest → drop at (left ++ (own ++ right)) ≡ drop rest right
    drop_right at rest is =
        let far : at ≡ length left + (length own + rest) = omega arith in
        ap (λ (n : ℕ). drop n (left ++ (own ++ right))) far ∙ drop-append-add left (own ++ right) (length own + rest) ∙ drop-append-add own right rest

    pub take_left : (n : ℕ) → n ≤ length left → take n (left ++ (own ++ right)) ≡ take n left
    take_left n less = take-append-le n left (own ++ right) less

    pub take_own : (n past : ℕ) → n ≡ length left + past → past ≤ length own → take n (left ++ (own ++ right)) ≡ left ++ take past own
    take_own n past is less =
        ap (λ (m : ℕ). take m (left ++ (own ++ right))) is ∙ take-append-add left (own ++ right) past ∙ ap (λ l. left ++ l) (take-append-le past own right less)

    pub take_right : (n rest : ℕ) → n ≡ length left + length own + rest → take n (left ++ (own ++ right)) ≡ left ++ (own ++ take rest right)
    take_right n rest is =
        let far : n ≡ length left + (length own + rest) = omega arith in
        ap (λ (m : ℕ). take m (left ++ (own ++ right))) far ∙ take-append-add left (own ++ right) (length own + rest)
        ∙ ap (λ l. left ++ l) (take-append-add own right rest)

    -- a range of the three lists that is all in the left one
    pub range_left : (at len : ℕ) → at + len ≤ length left → take len (drop at (left ++ (own ++ right))) ≡ take len (drop at left)
    range_left at len less =
        ap (take len) (drop_left at (omega arith)) ∙ take-append-le len (drop at left) (own ++ right) (omega (arith, length-drop at left))

    -- and one that begins no later than the own list ends, and ends behind the left one
    pub range_parted : (at len skipped rest taken : ℕ) → at < length left + length own → length left < at + len
        → skipped ≡ at - length left → rest ≡ len - (length left - at) → taken ≡ min rest (length own - skipped)
        → take len (drop at (left ++ (own ++ right))) ≡ drop (min at (length left)) left ++ (take taken (drop skipped own) ++ take (rest - taken) right)
    range_parted at len skipped rest taken early late skipped_is rest_is taken_is =
        let own_left : length (drop skipped own) ≡ length own - skipped = length-drop skipped own in
        let left_left : length (drop at left) ≡ length left - at = length-drop at left in
        let d : drop (at - length left) (own ++ right) ≡ drop skipped own ++ right =
        ap (λ (n : ℕ). drop n (own ++ right)) (sym skipped_is) ∙ drop-append-le skipped own right (omega arith) in
        let n : len - length (drop at left) ≡ rest = omega arith in
        let whole : take len (drop at left) ≡ drop at left = take_all len (drop at left) (omega arith) in
        let t : min rest (length (drop skipped own)) ≡ taken = omega arith in
        let r : rest - length (drop skipped own) ≡ rest - taken = omega arith in
        ap (take len) (drop_two at left (own ++ right) ∙ ap (λ l. drop at left ++ l) d)
        ∙ take_two len (drop at left) (drop skipped own ++ right)
        ∙ ap (λ l. l ++ take (len - length (drop at left)) (drop skipped own ++ right)) (whole ∙ sym (drop_min at left))
        ∙ ap (λ (m : ℕ). drop (min at (length left)) left ++ take m (drop skipped own ++ right)) n
        ∙ ap (λ l. drop (min at (length left)) left ++ l)
        (take_two rest (drop skipped own) right
        ∙ ap (λ (m : ℕ). take rest (drop skipped own) ++ take m right) r
        ∙ ap (λ l. l ++ take (rest - taken) right) (sym (take_min rest (drop skipped own)) ∙ ap (λ (m : ℕ). take m (drop skipped own)) t))
