-- Values that are given one after the other, each for its number.
use Rattle.std.proofs.Common.{◌≡◌, ℕ, ◌+◌, zero, suc, List, [], ◌∷◌, ◌++◌, map, length, Result, IfOk, ap, ◌∙◌, arith}
use Rattle.std.specs.List.{AllZip, range_with_len}
use Rattle.std.proofs.lemmas.Result.{IfOk-weaker}
use Rattle.std.proofs.lemmas.Slice.Zip.{all_zipped_more}
use Rattle.kinds.specs.Kinds.{Meaning}
use Rattle.profile.specs.Columns.{edge, Columns, between, column}

range_more : (a n j : ℕ) → a + n ≡ j → range_with_len a (suc n) ≡ range_with_len a n ++ j ∷ []
range_more a zero j e = let same : a ≡ j = omega arith in ap (λ x. x ∷ []) same
range_more a (suc n) j e = ap (λ xs. a ∷ xs) (range_more (a + 1) n j (omega arith))

-- one value more
pub value_more : {S : Type 0} (Gives : ℕ → S → Type 0) (i : ℕ) (values : List S) (s : S) → AllZip Gives (range_with_len 0 i) values → Gives i s → AllZip Gives (range_with_len 0 (i + 1)) (values ++ s ∷ [])
value_more Gives i values s told this =
    let next : i + 1 ≡ suc i = omega arith in
    rw (next, range_more 0 i i (omega arith)) (all_zipped_more Gives (range_with_len 0 i) values i s told this)

-- where each value is known, all are
all_known : {A S : Type 0} (Gives : A → S → Type 0) (f : A → S) (xs : List A) (values : List S) → AllZip Gives xs values → ((x : A) (s : S) → Gives x s → s ≡ f x) → values ≡ map f xs
all_known Gives f [] [] told known = cc
all_known Gives f [] (s ∷ values) told known = absurd told
all_known Gives f (x ∷ xs) [] told known = absurd told
all_known Gives f (x ∷ xs) (s ∷ values) told known =
    let this = known x s told.0 in
    let rest = all_known Gives f xs values told.1 known in
    cc

-- columns that are given as the summaries between their edges
pub columns_known : {E A S V F : Type 0} (k : Meaning E A S) (xs : List A) (extent n : ℕ) (Gives : ℕ → ℕ → S → Type 0) (items : V → List S) (r : Result V F) → extent ≡ length xs
    → IfOk r (λ v. Columns Gives extent n (items v)) → ((from to : ℕ) (s : S) → Gives from to s → s ≡ between k xs from to) → IfOk r (λ v. items v ≡ map (column k xs n) (range_with_len 0 n))
columns_known k xs extent n Gives items r long told known =
    IfOk-weaker r (λ v. Columns Gives extent n (items v)) _ (λ v given. all_known _ (column k xs n) (range_with_len 0 n) (items v) given.each (λ i s this. known (edge extent n i) (edge extent n (i + 1)) s this ∙ ap (λ x. between k xs (edge x n i) (edge x n (i + 1))) long)) told
