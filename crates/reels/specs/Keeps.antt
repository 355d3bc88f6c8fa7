-- Every reel and every layer keeps the bounds: the facts that the impls of `Reel` hand over.
use Rattle.std.specs.Prelude.{◌≡◌, ℕ, zero, suc, ◌*◌, ◌^◌, ◌≤◌, Bool, true, false, cond, List, [], ◌∷◌, ◌++◌, map, ℤ, pos, negsuc, neg_ℤ, FitsSigned, nat_lt, refl}
use Rattle.std.proofs.Common.{arith, mul-le-mul, lit<, length-take, pow_mono, ltb-false}
use Rattle.std.proofs.lemmas.List.{length-map}
use Rattle.std.specs.Int.Signed.{mag}
use borrow.Author.Gap.{read_sfits}
use Rattle.std.specs.Int.{int_max, w16}
use Rattle.std.specs.List.{AllByRecursion}
use Rattle.std.proofs.ByRecursion.{All-take, All-append}
use Rattle.reels.specs.Samples.{Bounds, cut}
use Rattle.reels.specs.Pcm.{pairs, pcm_bytes, pcm_samples}
use Rattle.reels.specs.MuLaw.{inverted, segment, place, apart, value, signed, sign, decoded, mu_law_bytes, mu_law_samples}
use Rattle.reels.specs.Gain.{held, scaled}
use Rattle.reels.specs.ByteReels.{byte_samples}
use Rattle.reels.specs.declared.byte_reel.ByteReel.{ByteReel}
use Rattle.reels.specs.declared.byte_reel.ByteReel.TheVariants.{Pcm, MuLaw}

cut_keeps : (xs : List ℤ) → AllByRecursion (FitsSigned w16) xs → Bounds (cut xs)
unfolding cut
cut_keeps xs fits = record { few = rw length-take (omega arith); narrow = All-take (FitsSigned w16) 1073741824 xs fits }

pairs_fit : (bytes : List ℕ) → AllByRecursion (FitsSigned w16) (pairs bytes)
pairs_fit [] = tt
pairs_fit (low ∷ []) = tt
pairs_fit (low ∷ high ∷ rest) = (read_sfits w16 _, pairs_fit rest)

pub pcm_keeps : (bytes : List ℕ) → Bounds (pcm_samples bytes)
pcm_keeps bytes = cut_keeps (pairs bytes) (pairs_fit bytes)

mag_neg : (n : ℕ) → mag (neg_ℤ (pos n)) ≤ n
mag_neg zero = omega arith
mag_neg (suc n) = omega arith

mag_signed : (s n : ℕ) → mag (signed s n) ≤ n
mag_signed zero n = omega arith
mag_signed (suc s) n = mag_neg n

-- the greatest value is that of the last step of the last segment
value_le : (u : ℕ) → value u ≤ 8031
value_le u =
    let e : segment u ≤ 7 = omega arith in
    let p : 2 ^ segment u ≤ 2 ^ 7 = pow_mono e in
    let a : apart (segment u) ≤ 256 = omega (arith, p) in
    let m : place u ≤ 15 = omega arith in
    let far : place u * apart (segment u) ≤ 15 * 256 = mul-le-mul m a in
    omega (arith, p, far)

pub decoded_fits : (byte : ℕ) → FitsSigned w16 (decoded byte)
unfolding decoded
decoded_fits byte =
    let u = inverted byte in
    record { sfits = omega (arith, mag_signed (sign (inverted byte)) (4 * value (inverted byte)), value_le (inverted byte)) }

all_decoded : (bytes : List ℕ) → AllByRecursion (FitsSigned w16) (map decoded bytes)
all_decoded [] = tt
all_decoded (b ∷ rest) = (decoded_fits b, all_decoded rest)

pub mulaw_keeps : (bytes : List ℕ) → Bounds (mu_law_samples bytes)
mulaw_keeps bytes = cut_keeps (map decoded bytes) (all_decoded bytes)

held_pos : (n : ℕ) (b : Bool) → nat_lt 32767 n ≡ b → FitsSigned w16 (int_max (negsuc 32767) (cond b (pos 32767) (pos n)))
held_pos n true e = record { sfits = lit< tt }
held_pos n false e = record { sfits = omega (arith, ltb-false 32767 n e) }

held_neg : (n : ℕ) (b : Bool) → nat_lt 32767 n ≡ b → FitsSigned w16 (cond b (negsuc 32767) (negsuc n))
held_neg n true e = record { sfits = lit< tt }
held_neg n false e = record { sfits = omega (arith, ltb-false 32767 n e) }

pub held_fits : (x : ℤ) → FitsSigned w16 (held x)
unfolding held
held_fits (pos n) = held_pos n _ refl
held_fits (negsuc n) = held_neg n _ refl

all_scaled : (n : ℕ) (xs : List ℤ) → AllByRecursion (FitsSigned w16) (map (scaled n) xs)
unfolding scaled
all_scaled n [] = tt
all_scaled n (x ∷ xs) = (held_fits _, all_scaled n xs)

pub gain_keeps : (n : ℕ) (xs : List ℤ) → Bounds xs → Bounds (map (scaled n) xs)
gain_keeps n xs b = record { few = rw length-map b.few; narrow = all_scaled n xs }

pub joined_keeps : (xs ys : List ℤ) → Bounds xs → Bounds ys → Bounds (cut (xs ++ ys))
joined_keeps xs ys b c = cut_keeps (xs ++ ys) (All-append (FitsSigned w16) xs ys b.narrow c.narrow)

pub byte_reel_keeps : (r : ByteReel) → Bounds (byte_samples r)
byte_reel_keeps (Pcm p) = pcm_keeps (pcm_bytes p)
byte_reel_keeps (MuLaw m) = mulaw_keeps (mu_law_bytes m)
