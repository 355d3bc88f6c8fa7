-- Reading and writing one place of a list.
use Rattle.std.proofs.Common.{◌≡◌, ℕ, zero, suc, ◌<◌, ◌≤◌, ◌≢◌, List, [], ◌∷◌, length, set, Some, None, Option, refl, ap, arith}
use Rattle.std.specs.List.{slice_get}

pub none_past : {X : Type 0} (xs : List X) (i : ℕ) → slice_get xs i ≡ None → length xs ≤ i
none_past [] i e = omega arith
none_past (y ∷ xs) zero e = absurd (let z : ◌≡◌ {A = ℕ} 0 1 = cc in omega arith)
none_past (y ∷ xs) (suc i) e = let h = none_past xs i e in omega arith

pub none_some : {X : Type 0} (o : Option X) (x : X) → o ≡ None → o ≡ Some x → ⊥
none_some o x p q = let z : ◌≡◌ {A = ℕ} 0 1 = cc in omega arith

pub nth_set_same : {X : Type 0} (xs : List X) (i : ℕ) (x : X) → i < length xs → slice_get (set xs i x) i ≡ Some x
nth_set_same [] i x h = absurd (omega arith)
nth_set_same (y ∷ xs) zero x h = refl
nth_set_same (y ∷ xs) (suc i) x h = nth_set_same xs i x (omega arith)

pub nth_set_other : {X : Type 0} (xs : List X) (i j : ℕ) (x : X) → j ≢ i → slice_get (set xs i x) j ≡ slice_get xs j
nth_set_other [] i j x h = refl
nth_set_other (y ∷ xs) zero zero x h = absurd (h refl)
nth_set_other (y ∷ xs) zero (suc j) x h = refl
nth_set_other (y ∷ xs) (suc i) zero x h = refl
nth_set_other (y ∷ xs) (suc i) (suc j) x h = nth_set_other xs i j x (λ e. h (ap suc e))
