-- What rounds sum up, each at a place without a pattern.
use Rattle.std.specs.Prelude.{ℕ, zero, suc, ◌+◌, ◌-◌, ◌*◌, ◌/◌, ◌%◌, ◌^◌, cond, List, [], ◌∷◌, length, nat_lt}
use Rattle.kinds.specs.Kinds.{Meaning}
use Rattle.kinds.specs.Places.{extent, extent_of, put_at, without}

-- the generator's state after one step more
abbrev pub step : ℕ → ℕ
step s = (s * 6364136223846793005 % 2 ^ 64 + 1442695040888963407) % 2 ^ 64

-- the place from 0 to end that a state tells
abbrev pub place_in : ℕ → ℕ → ℕ
place_in s end = s / 2 ^ 33 % (end + 1)

-- Rounds from the state 1 on: after tells the state that a round leaves, and gives what it adds to the sum.
module _ (after : ℕ → ℕ) where
  -- the state that n rounds leave
  abbrev pub left_by : ℕ → ℕ
  left_by zero = 1
  left_by (suc n) = after (left_by n)

  -- the sum of what n rounds give, modulo 2 ^ 64
  abbrev pub summed : (ℕ → ℕ) → ℕ → ℕ
  summed gives zero = 0
  summed gives (suc n) = (summed gives n + gives (left_by n)) % 2 ^ 64

-- how far into its element the atom p of a list lies
unfoldable pub offset_in : {E A S : Type 0} → Meaning E A S → List E → ℕ → ℕ
offset_in k [] p = 0
offset_in k (e ∷ es) p = cond (nat_lt p (extent k e)) p (offset_in k es (p - extent k e))

module _ {E A S : Type 0} (k : Meaning E A S) (es : List E) where
  -- what a round from the state s gives that reads at a place of the list es, and one that asks for the overview of a range
  abbrev pub offset_from : ℕ → ℕ
  offset_from s = offset_in k es (place_in (step s) (extent_of k es - 1))

  abbrev pub length_from : ℕ → ℕ
  length_from s = place_in (step (step s)) (extent_of k es - 1 - place_in (step s) (extent_of k es - 1)) + 1

  -- how many elements a round leaves that puts the list clip in at a place, and one that cuts a range out
  abbrev pub put_from : List E → ℕ → ℕ
  put_from clip s = length (put_at k (place_in (step s) (extent_of k es)) clip es)

  abbrev pub cut_from : ℕ → ℕ
  cut_from s = length (without k (place_in (step s) (extent_of k es)) (place_in (step (step s)) (extent_of k es - place_in (step s) (extent_of k es))) es)

  -- the sums of n rounds; those of offsets and lengths, where the list is not empty
  abbrev pub put_counts : List E → ℕ → ℕ
  put_counts clip = summed step (put_from clip)

  abbrev pub cut_counts : ℕ → ℕ
  cut_counts = summed (λ s. step (step s)) cut_from

  abbrev pub offsets : ℕ → ℕ
  offsets = summed step offset_from

  abbrev pub lengths : ℕ → ℕ
  lengths = summed (λ s. step (step s)) length_from
