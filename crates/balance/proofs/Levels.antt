-- Levels of a balanced tree: from a node to a child the weight falls to three quarters at most, so few levels
-- lie between a weight and a much smaller one.
use Rattle.std.proofs.Common.{◌≡◌, ℕ, suc, ◌+◌, ◌-◌, ◌*◌, ◌^◌, ◌≤◌, Bool, true, false, leb, refl, le_trans, mul_assoc, mul_comm, mul-le-mul_left, mul_left_comm, arith, pow-add, leb-false, leb-true}
use native.Mathlib.Nat.{pow-succ', pow-le-pow_left, one-le-pow}
use Rattle.balance.specs.Levels.{Levels, most, deepest}

pub levels_none : (x y : ℕ) → x ≤ y → Levels 0 x y
levels_none x y h = omega arith

-- one level more: y is the weight of a child of what weighs z
pub levels_more : (k x y z : ℕ) → Levels k x y → 4 * y ≤ 3 * z → Levels (suc k) x z
levels_more k x y z below child =
    rw (pow-succ' 4 k, pow-succ' 3 k)
    (omega (arith, mul_assoc 4 (4 ^ k) x, mul_assoc 3 (3 ^ k) z, mul_left_comm (3 ^ k) 4 y, mul_left_comm (3 ^ k) 3 z, mul-le-mul_left (3 ^ k) child))

pub levels_wider : (k x y z : ℕ) → Levels k x y → y ≤ z → Levels k x z
levels_wider k x y z below wider = le_trans below (mul-le-mul_left (3 ^ k) wider)

pub levels_narrower : (k x y : ℕ) → Levels k x y → 1 ≤ x → Levels k 1 y
levels_narrower k x y below some = le_trans (mul-le-mul_left (4 ^ k) some) below

-- levels above levels
pub levels_join : (k j x y z : ℕ) → Levels k x y → Levels j y z → Levels (k + j) x z
levels_join k j x y z low high =
    let a : 4 ^ (k + j) * x ≡ 4 ^ j * (4 ^ k * x) = rw pow-add (rw (mul_comm (4 ^ k) (4 ^ j)) (mul_assoc (4 ^ j) (4 ^ k) x)) in
    let b : 3 ^ (k + j) * z ≡ 3 ^ k * (3 ^ j * z) = rw pow-add (mul_assoc (3 ^ k) (3 ^ j) z) in
    omega (arith, mul_left_comm (4 ^ j) (3 ^ k) y, mul-le-mul_left (4 ^ j) low, mul-le-mul_left (3 ^ k) high)

-- (4/3)^29 is more than most + 1
too_many : (j w : ℕ) → w ≤ most + 1 → Levels (29 + j) 1 w → ⊥
too_many j w small levels =
    let a : 4 ^ (29 + j) ≡ 4 ^ 29 * 4 ^ j = pow-add 4 29 j in
    let b : 3 ^ (29 + j) * w ≡ 3 ^ 29 * (3 ^ j * w) = rw pow-add (mul_assoc (3 ^ 29) (3 ^ j) w) in
    let c : 3 ^ j ≤ 4 ^ j = pow-le-pow_left (omega arith) j in
    let d : 1 ≤ 4 ^ j = one-le-pow j 4 (omega arith) in
    omega (arith, mul-le-mul_left (3 ^ j) small)

pub levels_few : (k w : ℕ) → w ≤ most + 1 → Levels k 1 w → k ≤ deepest
levels_few k w small levels = go (leb k deepest) refl
  where
    go : (t : Bool) → leb k deepest ≡ t → k ≤ deepest
    go true q = leb-true k deepest q
    go false q =
        let above = leb-false k deepest q in
        let is : 29 + (k - 29) ≡ k = omega arith in
        absurd (too_many (k - 29) w small (rw is levels))
