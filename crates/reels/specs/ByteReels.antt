-- Reels of bytes in one of two formats.
use Rattle.std.specs.Prelude.{ℕ, List, map, ℤ, Option}
use Rattle.faults.specs.declared.reel.ReelFault.{ReelFault}
use Rattle.reels.specs.MuLaw.{decoded, mu_law_bytes, mu_law_samples, mu_law_refusal}
use Rattle.reels.specs.Pcm.{pairs, pcm_bytes, pcm_samples, pcm_refusal}
use Rattle.reels.specs.declared.byte_reel.ByteReel.{ByteReel}
use Rattle.reels.specs.declared.byte_reel.ByteReel.TheVariants.{Pcm, MuLaw}
use Rattle.reels.specs.declared.byte_reel.Format.{Format}
use Rattle.reels.specs.declared.byte_reel.Format.TheVariants as format

abbrev pub byte_samples : ByteReel → List ℤ
byte_samples (Pcm p) = pcm_samples (pcm_bytes p)
byte_samples (MuLaw m) = mu_law_samples (mu_law_bytes m)

-- what bytes mean in a format
abbrev pub samples_in : Format → List ℕ → List ℤ
samples_in format.Pcm bytes = pairs bytes
samples_in format.MuLaw bytes = map decoded bytes

-- why bytes are no reel in a format
abbrev pub refusal_in : Format → List ℕ → Option ReelFault
refusal_in format.Pcm bytes = pcm_refusal bytes
refusal_in format.MuLaw bytes = mu_law_refusal bytes
