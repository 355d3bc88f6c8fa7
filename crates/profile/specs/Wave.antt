-- A waveform in text: a row is a band of sample values, and a column is marked in it where its levels
-- reach the band.
use Rattle.std.specs.Prelude.{ℕ, Bool, cond, ◌&&◌, ℤ, int_le, nat_lt}
use Rattle.audio.specs.declared.levels.Levels.{Levels}

-- some sample's level lies between the two ends of the band, or the levels lie on both sides of it
abbrev pub reaches : ℤ → ℤ → Levels → Bool
reaches low high l = nat_lt 0 l.frames && (int_le l.low high && int_le low l.high)

-- the byte of a mark, # or a space
abbrev pub mark : ℤ → ℤ → Levels → ℕ
mark low high l = cond (reaches low high l) 35 32
