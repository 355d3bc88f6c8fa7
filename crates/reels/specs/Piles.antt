-- A pile of layers over bytes: PCM and mu-law joined, under a gain.
use Rattle.std.specs.Prelude.{ℕ, List, ◌++◌, map, ℤ, Some, None, Option}
use Rattle.faults.specs.declared.reel.ReelFault.{ReelFault}
use Rattle.reels.specs.Gain.{scaled}
use Rattle.reels.specs.MuLaw.{decoded, mu_law_refusal}
use Rattle.reels.specs.Pcm.{pairs, pcm_refusal}
use Rattle.reels.specs.Samples.{cut}

abbrev pub pile : List ℕ → List ℕ → ℕ → List ℤ
pile first second n = map (scaled n) (cut (pairs first ++ map decoded second))

-- the first of two reasons, where there is one
abbrev pub first_reason : Option ReelFault → Option ReelFault → Option ReelFault
first_reason (Some f) later = Some f
first_reason None later = later

-- why bytes are no pile
abbrev pub pile_refusal : List ℕ → List ℕ → Option ReelFault
pile_refusal first second = first_reason (pcm_refusal first) (mu_law_refusal second)
