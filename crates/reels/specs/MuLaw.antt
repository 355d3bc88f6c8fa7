-- Mu-law as ITU-T G.711 has it. A byte on the line is a character signal with its eight bits
-- inverted. Of the character signal, bit 7 is the sign (1 for negative), bits 4 to 6 number one of
-- eight segments, and bits 0 to 3 one of sixteen steps in it.
use Rattle.std.specs.Prelude.{ℕ, zero, suc, ◌+◌, ◌-◌, ◌*◌, ◌/◌, ◌%◌, ◌^◌, cond, List, map, length, ℤ, pos, neg_ℤ, Some, None, Option, nat_lt}
use Rattle.faults.specs.declared.reel.ReelFault.{ReelFault}
use Rattle.faults.specs.declared.reel.ReelFault.TheVariants.{TooLong}
use Rattle.reels.specs.Samples.{cut}
use Rattle.reels.specs.declared.mulaw.MuLaw.{MuLaw}

abbrev pub inverted : ℕ → ℕ
inverted byte = 255 - byte

abbrev pub sign : ℕ → ℕ
sign u = u / 128

abbrev pub segment : ℕ → ℕ
segment u = u / 16 % 8

abbrev pub place : ℕ → ℕ
place u = u % 16

-- Steps are 2 apart in segment 0, and twice as far in each segment after it; the segments begin at
-- 0, 33, 99, 231, 495, 1023, 2079 and 4191.
abbrev pub apart : ℕ → ℕ
apart e = 2 * 2 ^ e

abbrev pub begin : ℕ → ℕ
begin e = 33 * 2 ^ e - 33

-- the recommendation's value, which has 14 bits with its sign
abbrev pub value : ℕ → ℕ
value u = begin (segment u) + place u * apart (segment u)

abbrev pub signed : ℕ → ℕ → ℤ
signed zero n = pos n
signed (suc s) n = neg_ℤ (pos n)

-- a sample is four times that value
unfoldable pub decoded : ℕ → ℤ
decoded byte = signed (sign (inverted byte)) (4 * value (inverted byte))

-- the same as one formula: (8M + 132) 2^E - 132
abbrev pub size : ℕ → ℕ
size u = (8 * place u + 132) * 2 ^ segment u - 132

-- the bytes that a mu-law reel reads
abbrev pub mu_law_bytes : MuLaw → List ℕ
mu_law_bytes m = m.bytes.now

abbrev pub mu_law_samples : List ℕ → List ℤ
mu_law_samples bytes = cut (map decoded bytes)

-- why bytes are no mu-law reel
abbrev pub mu_law_refusal : List ℕ → Option ReelFault
mu_law_refusal bytes = cond (nat_lt 1073741824 (length bytes)) (Some TooLong) None
