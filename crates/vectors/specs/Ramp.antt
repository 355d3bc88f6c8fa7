-- The test reel of n samples: sample i is i mod 1,000.
use Rattle.std.specs.Prelude.{ℕ, zero, suc, ◌+◌, ◌%◌, ◌≤◌, List, map, ℤ, pos, FitsSigned}
use Rattle.std.proofs.Common.{arith}
use Rattle.std.specs.Int.{w16}
use Rattle.std.specs.List.{range_with_len, AllByRecursion}
use Rattle.std.proofs.lemmas.List.FromFn.{length-map-range_with_len}
use Rattle.reels.specs.Samples.{Bounds}

abbrev pub ramp : ℕ → ℤ
ramp i = pos (i % 1000)

unfoldable pub ramp_samples : ℕ → List ℤ
ramp_samples n = map ramp (range_with_len 0 n)

ramp_fits : (a n : ℕ) → AllByRecursion (FitsSigned w16) (map ramp (range_with_len a n))
ramp_fits a zero = tt
ramp_fits a (suc n) = (record { sfits = omega arith }, ramp_fits (a + 1) n)

pub ramp_keeps : (n : ℕ) → n ≤ 1073741824 → Bounds (ramp_samples n)
unfolding ramp_samples
ramp_keeps n few = record { few = rw length-map-range_with_len few; narrow = ramp_fits 0 n }
