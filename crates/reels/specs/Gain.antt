-- The gain layer: a sample times n / 256, rounded down, then held within 16 bits.
use Rattle.std.specs.Prelude.{ℕ, ℤ, pos, negsuc, ◌*ℤ◌}
use Rattle.std.specs.Int.Signed.{shr_z}
use Rattle.std.specs.Int.{int_max, int_min}
use Rattle.reels.specs.declared.gain.Gain.{Gain}

-- the reel under a gain, and by how many parts of 256 it scales
abbrev pub gain_below : {R : Type 0} → Gain R → R
gain_below g = g.below

abbrev pub gain_by : {R : Type 0} → Gain R → ℕ
gain_by g = g.n

-- the greatest whole number that is at most x / 256
abbrev pub floor256 : ℤ → ℤ
floor256 x = shr_z x 256

-- within -32,768 to 32,767
unfoldable pub held : ℤ → ℤ
held x = int_max (negsuc 32767) (int_min x (pos 32767))

unfoldable pub scaled : ℕ → ℤ → ℤ
scaled n s = held (floor256 (s *ℤ pos n))
