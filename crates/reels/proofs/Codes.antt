-- Mu-law bytes and the samples that they mean: how many, one of them, a stretch of them.
use Rattle.std.proofs.Common.{◌≡◌, ℕ, ◌+◌, ◌<◌, ◌≤◌, min, List, map, length, get_or, take, drop, Some, ap, ◌∙◌, arith}
use lib.ListN.{length-map}
use Rattle.std.specs.List.{slice_get}
use Rattle.std.specs.Option.{option_map}
use Rattle.std.proofs.lemmas.List.{take-map, drop-map}
use Rattle.std.proofs.lemmas.Option.{slice_get-get_or, slice_get-map}
use Rattle.reels.specs.MuLaw.{decoded, mu_law_samples}
use Rattle.reels.specs.Samples.{stretch}
use Rattle.reels.proofs.Lists.{length_cut, nth_cut, stretch_cut}

pub mu_law_long : (bytes : List ℕ) → length (mu_law_samples bytes) ≡ min 1073741824 (length bytes)
mu_law_long bytes = simp (length_cut, length-map)

pub mu_law_at : (bytes : List ℕ) (i : ℕ) → i < length (mu_law_samples bytes) → slice_get (mu_law_samples bytes) i ≡ Some (decoded (get_or bytes i 0))
mu_law_at bytes i h =
    let n = mu_law_long bytes in
    nth_cut (map decoded bytes) i (omega arith) ∙ slice_get-map decoded bytes i ∙ ap (option_map decoded) (slice_get-get_or bytes i 0 (omega arith))

pub mu_law_stretch : (bytes : List ℕ) (s n : ℕ) → s + n ≤ length (mu_law_samples bytes) → stretch (mu_law_samples bytes) s n ≡ map decoded (take n (drop s bytes))
mu_law_stretch bytes s n h = stretch_cut (map decoded bytes) s n h ∙ ap (take n) (drop-map decoded s bytes) ∙ take-map decoded n (drop s bytes)
