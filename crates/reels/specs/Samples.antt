-- What a reel means: a finite list of 16-bit samples, at most 1,073,741,824 of them.
use Rattle.std.specs.Prelude.{◌≡◌, ℕ, ◌-◌, ◌*◌, ◌/◌, ◌%◌, ◌≤◌, min, List, [], ◌∷◌, ◌++◌, length, take, drop, ℤ, FitsSigned}
use Rattle.std.proofs.Common.{of_z}
use Rattle.std.specs.Int.{w16}
use Rattle.std.specs.List.{AllByRecursion}

-- what every reel keeps
pub record Bounds (samples : List ℤ) : Type 0 where
  pub few : length samples ≤ 1073741824
  pub narrow : AllByRecursion (FitsSigned w16) samples

-- a list as far as a reel can have it
unfoldable pub cut : {X : Type 0} → List X → List X
cut xs = take 1073741824 xs

-- the stretch of n samples from a place on
abbrev pub stretch : List ℤ → ℕ → ℕ → List ℤ
stretch samples start n = take n (drop start samples)

-- A stretch copied into a block: as many samples as there are and fit; the block beyond stays.
pub record Copied (samples : List ℤ) (start : ℕ) (before after : List ℤ) (n : ℕ) : Type 0 where
  pub count : n ≡ min (length before) (length samples - start)
  pub block : after ≡ stretch samples start n ++ drop n before

-- the bytes of samples: two each, the low byte first
abbrev pub bytes_of : List ℤ → List ℕ
bytes_of [] = []
bytes_of (s ∷ rest) = of_z w16 s % 256 ∷ of_z w16 s / 256 ∷ bytes_of rest

-- A stretch written as bytes: as many samples as there are and fit; the bytes beyond stay.
pub record Written (samples : List ℤ) (start : ℕ) (before after : List ℕ) (n : ℕ) : Type 0 where
  pub count : n ≡ min (length before / 2) (length samples - start)
  pub bytes : after ≡ bytes_of (stretch samples start n) ++ drop (2 * n) before

-- the same of at most so many samples
pub record WrittenBlock (most : ℕ) (samples : List ℤ) (start : ℕ) (before after : List ℕ) (n : ℕ) : Type 0 where
  pub count : n ≡ min (min (length before / 2) most) (length samples - start)
  pub bytes : after ≡ bytes_of (stretch samples start n) ++ drop (2 * n) before
