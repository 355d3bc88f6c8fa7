-- The samples of four piles of layers over bytes. Bytes that are refused as a reel count as a reel of
-- no samples.
use Rattle.std.specs.Prelude.{ℕ, List, [], map, ℤ, Some, None, Ok, Err, Option, Result}
use Rattle.faults.specs.declared.reel.ReelFault.{ReelFault}
use Rattle.reels.specs.Gain.{scaled}
use Rattle.reels.specs.MuLaw.{decoded, mu_law_refusal}
use Rattle.reels.specs.Pcm.{pairs, pcm_refusal}
use Rattle.reels.specs.Piles.{pile}

-- the samples of a reel, none where there is none
abbrev pub held_by : {R : Type 0} → (R → List ℤ) → Result R ReelFault → List ℤ
held_by samples (Ok r) = samples r
held_by samples (Err f) = []

abbrev pub unless_refused : Option ReelFault → List ℤ → List ℤ
unless_refused (Some f) samples = []
unless_refused None samples = samples

abbrev pub pcm_pile : List ℕ → List ℤ
pcm_pile bytes = unless_refused (pcm_refusal bytes) (pairs bytes)

abbrev pub mu_law_pile : List ℕ → List ℤ
mu_law_pile bytes = unless_refused (mu_law_refusal bytes) (map decoded bytes)

-- a gain of n / 256 over PCM
abbrev pub gain_pile : List ℕ → ℕ → List ℤ
gain_pile bytes n = unless_refused (pcm_refusal bytes) (map (scaled n) (pairs bytes))

-- a gain of n / 256 over PCM and mu-law joined
abbrev pub joined_pile : List ℕ → List ℕ → ℕ → List ℤ
joined_pile first second n =
    unless_refused (pcm_refusal first) (unless_refused (mu_law_refusal second) (pile first second n))
