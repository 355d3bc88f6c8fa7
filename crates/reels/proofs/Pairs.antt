-- PCM bytes and the samples that they mean.
use Rattle.std.proofs.Common.{◌≡◌, ℕ, zero, suc, ◌+◌, ◌*◌, ◌/◌, ◌<◌, ◌≤◌, min, List, [], ◌∷◌, ◌++◌, length, get_or, take, drop, Some, refl, ap, ◌∙◌, arith, w16, to_z}
use Rattle.std.specs.List.{slice_get}
use Rattle.reels.specs.Pcm.{pairs, pcm_samples}
use Rattle.reels.specs.Samples.{stretch}
use Rattle.reels.proofs.Lists.{length_cut, nth_cut, stretch_cut}

pub length_pairs : (bytes : List ℕ) → length (pairs bytes) ≡ length bytes / 2
length_pairs [] = refl
length_pairs (low ∷ []) = refl
length_pairs (low ∷ high ∷ rest) = let h = length_pairs rest in omega arith

pub nth_pairs : (bytes : List ℕ) (i : ℕ) → 2 * i + 1 < length bytes → slice_get (pairs bytes) i ≡ Some (to_z w16 (get_or bytes (2 * i) 0 + get_or bytes (2 * i + 1) 0 * 256))
nth_pairs [] i h = absurd (omega arith)
nth_pairs (low ∷ []) i h = absurd (omega arith)
nth_pairs (low ∷ high ∷ rest) zero h = refl
nth_pairs (low ∷ high ∷ rest) (suc i) h =
    let e : 2 * suc i ≡ suc (suc (2 * i)) = omega arith in
    let f : 2 * suc i + 1 ≡ suc (suc (2 * i + 1)) = omega arith in
    rw (f, e) (nth_pairs rest i (omega arith))

pub drop_pairs : (n : ℕ) (bytes : List ℕ) → drop n (pairs bytes) ≡ pairs (drop (2 * n) bytes)
drop_pairs zero bytes = refl
drop_pairs (suc n) [] = let e : 2 * suc n ≡ suc (suc (2 * n)) = omega arith in rw e
drop_pairs (suc n) (low ∷ []) = let e : 2 * suc n ≡ suc (suc (2 * n)) = omega arith in rw e (nothing (2 * n))
  where
    nothing : (m : ℕ) → [] ≡ pairs (drop (suc m) [])
    nothing m = refl
drop_pairs (suc n) (low ∷ high ∷ rest) = let e : 2 * suc n ≡ suc (suc (2 * n)) = omega arith in rw e (drop_pairs n rest)

pub take_pairs : (n : ℕ) (bytes : List ℕ) → take n (pairs bytes) ≡ pairs (take (2 * n) bytes)
take_pairs zero bytes = refl
take_pairs (suc n) [] = let e : 2 * suc n ≡ suc (suc (2 * n)) = omega arith in rw e
take_pairs (suc n) (low ∷ []) = let e : 2 * suc n ≡ suc (suc (2 * n)) = omega arith in rw e
take_pairs (suc n) (low ∷ high ∷ rest) = let e : 2 * suc n ≡ suc (suc (2 * n)) = omega arith in rw e (ap (λ v. to_z w16 (low + high * 256) ∷ v) (take_pairs n rest))

-- one pair more
pub pairs_more : (bytes : List ℕ) (i : ℕ) → 2 * i + 1 < length bytes → pairs (take (2 * (i + 1)) bytes) ≡ pairs (take (2 * i) bytes) ++ to_z w16 (get_or bytes (2 * i) 0 + get_or bytes (2 * i + 1) 0 * 256) ∷ []
pairs_more [] i h = absurd (omega arith)
pairs_more (low ∷ []) i h = absurd (omega arith)
pairs_more (low ∷ high ∷ rest) zero h = refl
pairs_more (low ∷ high ∷ rest) (suc i) h =
    let a : 2 * (suc i + 1) ≡ suc (suc (2 * (i + 1))) = omega arith in
    let b : 2 * suc i ≡ suc (suc (2 * i)) = omega arith in
    let c : 2 * suc i + 1 ≡ suc (suc (2 * i + 1)) = omega arith in
    rw (a, c, b) (ap (λ v. to_z w16 (low + high * 256) ∷ v) (pairs_more rest i (omega arith)))

-- the samples of a PCM reel: how many, one of them, a stretch of them
pub pcm_long : (bytes : List ℕ) → length (pcm_samples bytes) ≡ min 1073741824 (length bytes / 2)
pcm_long bytes = simp (length_cut, length_pairs)

pub pcm_at : (bytes : List ℕ) (i : ℕ) → i < length (pcm_samples bytes) → slice_get (pcm_samples bytes) i ≡ Some (to_z w16 (get_or bytes (2 * i) 0 + get_or bytes (2 * i + 1) 0 * 256))
pcm_at bytes i h =
    let n = pcm_long bytes in
    nth_cut (pairs bytes) i (omega arith) ∙ nth_pairs bytes i (omega arith)

pub pcm_stretch : (bytes : List ℕ) (s n : ℕ) → s + n ≤ length (pcm_samples bytes) → stretch (pcm_samples bytes) s n ≡ pairs (take (2 * n) (drop (2 * s) bytes))
pcm_stretch bytes s n h = stretch_cut (pairs bytes) s n h ∙ ap (take n) (drop_pairs s bytes) ∙ take_pairs n (drop (2 * s) bytes)
