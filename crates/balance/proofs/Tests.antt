-- Cases by a test, and the arithmetic that knows what tests say.
use Rattle.std.proofs.Common.{◌≡◌, Bool, true, false, cond, refl, ap, arith, ltb-false, ltb-true, eqb-true}
use borrow.Author.Tests.{eqb-false}

pub ruleset tests = (arith, ltb-true, ltb-false, eqb-true, eqb-false)

-- a fact about both ways of a test, each with what the test says
pub by_test : {A : Type 0} (P : A → Type 0) (t : Bool) (x y : A) → (t ≡ true → P x) → (t ≡ false → P y) → P (cond t x y)
by_test P true x y then else = then refl
by_test P false x y then else = else refl

-- and about the three ways of two tests
pub by_tests : {A : Type 0} (P : A → Type 0) (s t : Bool) (x y z : A)
    → (s ≡ true → P x) → (s ≡ false → t ≡ true → P y) → (s ≡ false → t ≡ false → P z) → P (cond s x (cond t y z))
by_tests P true t x y z first second third = first refl
by_tests P false true x y z first second third = second refl refl
by_tests P false false x y z first second third = third refl refl

-- the same test at two places
pub by_one_test : {A B : Type 0} (P : A → B → Type 0) (t : Bool) (x y : A) (v w : B) → (t ≡ true → P x v) → (t ≡ false → P y w) → P (cond t x y) (cond t v w)
by_one_test P true x y v w then else = then refl
by_one_test P false x y v w then else = else refl

-- the way that a test takes
pub test_true : {A : Type 0} (t : Bool) (x y : A) → t ≡ true → cond t x y ≡ x
test_true t x y holds = ap (λ b. cond b x y) holds

pub test_false : {A : Type 0} (t : Bool) (x y : A) → t ≡ false → cond t x y ≡ y
test_false t x y fails = ap (λ b. cond b x y) fails

-- two tests that never hold both can be made in either order
pub either_order : {A : Type 0} (s t : Bool) (x y z : A) → (s ≡ true → t ≡ true → ⊥) → cond s x (cond t y z) ≡ cond t y (cond s x z)
either_order true true x y z apart = absurd (apart refl refl)
either_order true false x y z apart = refl
either_order false true x y z apart = refl
either_order false false x y z apart = refl

pub cond_ap : {A B : Type 0} (f : A → B) (t : Bool) (x y : A) → f (cond t x y) ≡ cond t (f x) (f y)
cond_ap f true x y = refl
cond_ap f false x y = refl
