-- PCM: bytes in pairs, the low byte first, each pair a 16-bit number in two's complement.
use Rattle.std.specs.Prelude.{ℕ, ◌+◌, ◌*◌, ◌%◌, cond, List, [], ◌∷◌, length, ℤ, Some, None, Option, ◌==◌, nat_lt}
use Rattle.std.proofs.Common.{to_z}
use Rattle.std.specs.Int.{w16}
use Rattle.faults.specs.declared.reel.ReelFault.{ReelFault}
use Rattle.faults.specs.declared.reel.ReelFault.TheVariants.{OddBytes, TooLong}
use Rattle.reels.specs.Samples.{cut}
use Rattle.reels.specs.declared.pcm.Pcm.{Pcm}

-- the bytes that a PCM reel reads
abbrev pub pcm_bytes : Pcm → List ℕ
pcm_bytes p = p.bytes.now

abbrev pub pairs : List ℕ → List ℤ
pairs [] = []
pairs (low ∷ []) = []
pairs (low ∷ high ∷ rest) = to_z w16 (low + high * 256) ∷ pairs rest

-- The samples of a PCM reel. What `Pcm::new` accepts is short enough that nothing is cut off.
abbrev pub pcm_samples : List ℕ → List ℤ
pcm_samples bytes = cut (pairs bytes)

-- why bytes are no PCM reel
abbrev pub pcm_refusal : List ℕ → Option ReelFault
pcm_refusal bytes =
    cond (length bytes % 2 == 1) (Some OddBytes) (cond (nat_lt 2147483648 (length bytes)) (Some TooLong) None)
