-- Lists divided at places: what lies before a place and behind it, past whole elements and within one.
use Rattle.std.proofs.Common.{◌≡◌, ℕ, ◌+◌, ◌-◌, ◌<◌, ◌≤◌, cond, eqb, ltb, List, [], ◌∷◌, ◌++◌, Some, sym, refl, ap, ◌∙◌, append-nil, add-zero, add_assoc, zero-add, arith, le-ltb, lt-ltb, ne_eqb}
use Rattle.balance.specs.Lists.{Shape, extents, Solid, holding, front, back}
use Rattle.balance.proofs.Tests.{tests, by_test, test_true, test_false}

module _ {E : Type 0} (k : Shape E) where
  pub extents_append : (xs ys : List E) → extents k (xs ++ ys) ≡ extents k xs + extents k ys
  extents_append [] ys = omega arith
  extents_append (x ∷ xs) ys = omega (arith, extents_append xs ys)

  -- the holding element is in the first list or behind it
  pub holding_high : (xs ys : List E) (q : ℕ) → holding k (extents k xs + q) (xs ++ ys) ≡ holding k q ys
  holding_high [] ys q = ap (λ (n : ℕ). holding k n ys) (zero-add q)
  holding_high (e ∷ xs) ys q =
      let p = k.extent e + extents k xs + q in
      let q_is : p - k.extent e ≡ extents k xs + q = omega arith in
      test_false (ltb p (k.extent e)) _ _ (le-ltb p (k.extent e) (omega arith)) ∙ ap (λ (n : ℕ). holding k n (xs ++ ys)) q_is ∙ holding_high xs ys q

  pub holding_inside : (xs : List E) (e : E) (ys : List E) (d : ℕ) → d < k.extent e
      → holding k (extents k xs + d) (xs ++ (e ∷ ys)) ≡ Some (record { element = e; offset = d })
  holding_inside xs e ys d inside = holding_high xs (e ∷ ys) d ∙ test_true (ltb d (k.extent e)) _ _ (lt-ltb d (k.extent e) inside)

  pub holding_low : (xs ys : List E) (p : ℕ) → p < extents k xs → holding k p (xs ++ ys) ≡ holding k p xs
  holding_low [] ys p inside = absurd (omega arith)
  holding_low (e ∷ xs) ys p inside =
      by_test (λ h. h ≡ holding k p (e ∷ xs)) (ltb p (k.extent e)) _ _
      (λ low. sym (test_true _ _ _ low))
      (λ past. holding_low xs ys (p - k.extent e) (omega tests) ∙ sym (test_false _ _ _ past))

  -- within the first element
  pub front_in : (e : E) (es : List E) (d : ℕ) → d < k.extent e → front k d (e ∷ es) ≡ cond (eqb d 0) [] (k.part e 0 d ∷ [])
  front_in e es d inside = test_true (ltb d (k.extent e)) _ _ (lt-ltb d (k.extent e) inside)

  pub back_in : (e : E) (es : List E) (d : ℕ) → d < k.extent e → back k d (e ∷ es) ≡ cond (eqb d 0) e (k.part e d (k.extent e - d)) ∷ es
  back_in e es d inside = test_true (ltb d (k.extent e)) _ _ (lt-ltb d (k.extent e) inside)

  -- past the first element
  pub front_past : (e : E) (es : List E) (q : ℕ) → front k (k.extent e + q) (e ∷ es) ≡ e ∷ front k q es
  front_past e es q =
      let q_is : k.extent e + q - k.extent e ≡ q = omega arith in
      test_false (ltb (k.extent e + q) (k.extent e)) _ _ (le-ltb (k.extent e + q) (k.extent e) (omega arith)) ∙ ap (λ (n : ℕ). e ∷ front k n es) q_is

  pub back_past : (e : E) (es : List E) (q : ℕ) → back k (k.extent e + q) (e ∷ es) ≡ back k q es
  back_past e es q =
      let q_is : k.extent e + q - k.extent e ≡ q = omega arith in
      test_false (ltb (k.extent e + q) (k.extent e)) _ _ (le-ltb (k.extent e + q) (k.extent e) (omega arith)) ∙ ap (λ (n : ℕ). back k n es) q_is

  -- past a list
  pub front_high : (xs ys : List E) (q : ℕ) → front k (extents k xs + q) (xs ++ ys) ≡ xs ++ front k q ys
  front_high [] ys q = ap (λ (n : ℕ). front k n ys) (zero-add q)
  front_high (e ∷ xs) ys q =
      ap (λ (n : ℕ). front k n (e ∷ (xs ++ ys))) (add_assoc (k.extent e) (extents k xs) q)
      ∙ front_past e (xs ++ ys) (extents k xs + q) ∙ ap (λ l. e ∷ l) (front_high xs ys q)

  pub back_high : (xs ys : List E) (q : ℕ) → back k (extents k xs + q) (xs ++ ys) ≡ back k q ys
  back_high [] ys q = ap (λ (n : ℕ). back k n ys) (zero-add q)
  back_high (e ∷ xs) ys q =
      ap (λ (n : ℕ). back k n (e ∷ (xs ++ ys))) (add_assoc (k.extent e) (extents k xs) q)
      ∙ back_past e (xs ++ ys) (extents k xs + q) ∙ back_high xs ys q

  -- within a list
  pub front_low : (xs ys : List E) (p : ℕ) → p < extents k xs → front k p (xs ++ ys) ≡ front k p xs
  front_low [] ys p inside = absurd (omega arith)
  front_low (e ∷ xs) ys p inside =
      by_test (λ l. l ≡ front k p (e ∷ xs)) (ltb p (k.extent e)) _ _
      (λ low. sym (test_true _ _ _ low))
      (λ past. ap (λ l. e ∷ l) (front_low xs ys (p - k.extent e) (omega tests)) ∙ sym (test_false _ _ _ past))

  pub back_low : (xs ys : List E) (p : ℕ) → p < extents k xs → back k p (xs ++ ys) ≡ back k p xs ++ ys
  back_low [] ys p inside = absurd (omega arith)
  back_low (e ∷ xs) ys p inside =
      by_test (λ l. l ≡ back k p (e ∷ xs) ++ ys) (ltb p (k.extent e)) _ _
      (λ low. ap (λ l. l ++ ys) (sym (test_true _ _ _ low)))
      (λ past. back_low xs ys (p - k.extent e) (omega tests) ∙ ap (λ l. l ++ ys) (sym (test_false _ _ _ past)))

  -- at the end and beyond
  pub front_end : (xs : List E) (p : ℕ) → extents k xs ≤ p → front k p xs ≡ xs
  front_end xs p beyond =
      let p_is : p ≡ extents k xs + (p - extents k xs) = omega arith in
      ap (front k p) (sym (append-nil xs)) ∙ ap (λ (n : ℕ). front k n (xs ++ [])) p_is
      ∙ front_high xs [] (p - extents k xs) ∙ append-nil xs

  pub back_end : (xs : List E) (p : ℕ) → extents k xs ≤ p → back k p xs ≡ []
  back_end xs p beyond =
      let p_is : p ≡ extents k xs + (p - extents k xs) = omega arith in
      ap (back k p) (sym (append-nil xs)) ∙ ap (λ (n : ℕ). back k n (xs ++ [])) p_is
      ∙ back_high xs [] (p - extents k xs)

  -- at the start
  pub back_start : (xs : List E) → Solid k xs → back k 0 xs ≡ xs
  back_start [] solid = refl
  back_start (e ∷ xs) solid = back_in e xs 0 solid.0

  pub front_start : (xs : List E) → Solid k xs → front k 0 xs ≡ []
  front_start [] solid = refl
  front_start (e ∷ xs) solid = front_in e xs 0 solid.0

  -- between two elements
  pub between_front : (xs ys : List E) → Solid k ys → front k (extents k xs) (xs ++ ys) ≡ xs
  between_front xs ys solid =
      ap (λ (n : ℕ). front k n (xs ++ ys)) (sym (add-zero (extents k xs)))
      ∙ front_high xs ys 0 ∙ ap (λ l. xs ++ l) (front_start ys solid) ∙ append-nil xs

  pub between_back : (xs ys : List E) → Solid k ys → back k (extents k xs) (xs ++ ys) ≡ ys
  between_back xs ys solid =
      ap (λ (n : ℕ). back k n (xs ++ ys)) (sym (add-zero (extents k xs)))
      ∙ back_high xs ys 0 ∙ back_start ys solid

  -- inside an element
  pub inside_front : (xs : List E) (e : E) (ys : List E) (d : ℕ) → 1 ≤ d → d < k.extent e
      → front k (extents k xs + d) (xs ++ (e ∷ ys)) ≡ xs ++ (k.part e 0 d ∷ [])
  inside_front xs e ys d some inside =
      front_high xs (e ∷ ys) d ∙ ap (λ l. xs ++ l) (front_in e ys d inside ∙ test_false (eqb d 0) _ _ (ne_eqb d 0 (omega arith)))

  pub inside_back : (xs : List E) (e : E) (ys : List E) (d : ℕ) → 1 ≤ d → d < k.extent e
      → back k (extents k xs + d) (xs ++ (e ∷ ys)) ≡ k.part e d (k.extent e - d) ∷ ys
  inside_back xs e ys d some inside =
      back_high xs (e ∷ ys) d ∙ back_in e ys d inside ∙ ap (λ f. f ∷ ys) (test_false (eqb d 0) _ _ (ne_eqb d 0 (omega arith)))
