-- The table of the code, and the rule at each of its entries, by lists that antt computes.
use Rattle.std.proofs.Common.{◌≡◌, ℕ, ◌+◌, ◌-◌, ◌*◌, ◌^◌, ◌<◌, ◌≤◌, List, [], ◌∷◌, map, get_or, ℤ, pos, negsuc, sym, refl, ap, ◌∙◌, zero-add, mul_assoc, add-mul, mul_left_comm, arith, pow_pos, w16, to_z, of_z}
use Rattle.reels.specs.MuLaw.{decoded, inverted, sign, signed, segment, place, size}
use Rattle.std.specs.List.{range_with_len}
use Rattle.std.proofs.lemmas.List.{get_or-map}
use Rattle.std.proofs.lemmas.List.FromFn.{get_or-map-range_with_len}

abbrev pub entries : List ℤ
entries = negsuc 32123 ∷ negsuc 31099 ∷ negsuc 30075 ∷ negsuc 29051 ∷ negsuc 28027 ∷ negsuc 27003 ∷ negsuc 25979 ∷ negsuc 24955 ∷ negsuc 23931 ∷ negsuc 22907 ∷ negsuc 21883 ∷ negsuc 20859 ∷ negsuc 19835 ∷ negsuc 18811 ∷ negsuc 17787 ∷ negsuc 16763 ∷ negsuc 15995 ∷ negsuc 15483 ∷ negsuc 14971 ∷ negsuc 14459 ∷ negsuc 13947 ∷ negsuc 13435 ∷ negsuc 12923 ∷ negsuc 12411 ∷ negsuc 11899 ∷ negsuc 11387 ∷ negsuc 10875 ∷ negsuc 10363 ∷ negsuc 9851 ∷ negsuc 9339 ∷ negsuc 8827 ∷ negsuc 8315 ∷ negsuc 7931 ∷ negsuc 7675 ∷ negsuc 7419 ∷ negsuc 7163 ∷ negsuc 6907 ∷ negsuc 6651 ∷ negsuc 6395 ∷ negsuc 6139 ∷ negsuc 5883 ∷ negsuc 5627 ∷ negsuc 5371 ∷ negsuc 5115 ∷ negsuc 4859 ∷ negsuc 4603 ∷ negsuc 4347 ∷ negsuc 4091 ∷ negsuc 3899 ∷ negsuc 3771 ∷ negsuc 3643 ∷ negsuc 3515 ∷ negsuc 3387 ∷ negsuc 3259 ∷ negsuc 3131 ∷ negsuc 3003 ∷ negsuc 2875 ∷ negsuc 2747 ∷ negsuc 2619 ∷ negsuc 2491 ∷ negsuc 2363 ∷ negsuc 2235 ∷ negsuc 2107 ∷ negsuc 1979 ∷ negsuc 1883 ∷ negsuc 1819 ∷ negsuc 1755 ∷ negsuc 1691 ∷ negsuc 1627 ∷ negsuc 1563 ∷ negsuc 1499 ∷ negsuc 1435 ∷ negsuc 1371 ∷ negsuc 1307 ∷ negsuc 1243 ∷ negsuc 1179 ∷ negsuc 1115 ∷ negsuc 1051 ∷ negsuc 987 ∷ negsuc 923 ∷ negsuc 875 ∷ negsuc 843 ∷ negsuc 811 ∷ negsuc 779 ∷ negsuc 747 ∷ negsuc 715 ∷ negsuc 683 ∷ negsuc 651 ∷ negsuc 619 ∷ negsuc 587 ∷ negsuc 555 ∷ negsuc 523 ∷ negsuc 491 ∷ negsuc 459 ∷ negsuc 427 ∷ negsuc 395 ∷ negsuc 371 ∷ negsuc 355 ∷ negsuc 339 ∷ negsuc 323 ∷ negsuc 307 ∷ negsuc 291 ∷ negsuc 275 ∷ negsuc 259 ∷ negsuc 243 ∷ negsuc 227 ∷ negsuc 211 ∷ negsuc 195 ∷ negsuc 179 ∷ negsuc 163 ∷ negsuc 147 ∷ negsuc 131 ∷ negsuc 119 ∷ negsuc 111 ∷ negsuc 103 ∷ negsuc 95 ∷ negsuc 87 ∷ negsuc 79 ∷ negsuc 71 ∷ negsuc 63 ∷ negsuc 55 ∷ negsuc 47 ∷ negsuc 39 ∷ negsuc 31 ∷ negsuc 23 ∷ negsuc 15 ∷ negsuc 7 ∷ pos 0 ∷ pos 32124 ∷ pos 31100 ∷ pos 30076 ∷ pos 29052 ∷ pos 28028 ∷ pos 27004 ∷ pos 25980 ∷ pos 24956 ∷ pos 23932 ∷ pos 22908 ∷ pos 21884 ∷ pos 20860 ∷ pos 19836 ∷ pos 18812 ∷ pos 17788 ∷ pos 16764 ∷ pos 15996 ∷ pos 15484 ∷ pos 14972 ∷ pos 14460 ∷ pos 13948 ∷ pos 13436 ∷ pos 12924 ∷ pos 12412 ∷ pos 11900 ∷ pos 11388 ∷ pos 10876 ∷ pos 10364 ∷ pos 9852 ∷ pos 9340 ∷ pos 8828 ∷ pos 8316 ∷ pos 7932 ∷ pos 7676 ∷ pos 7420 ∷ pos 7164 ∷ pos 6908 ∷ pos 6652 ∷ pos 6396 ∷ pos 6140 ∷ pos 5884 ∷ pos 5628 ∷ pos 5372 ∷ pos 5116 ∷ pos 4860 ∷ pos 4604 ∷ pos 4348 ∷ pos 4092 ∷ pos 3900 ∷ pos 3772 ∷ pos 3644 ∷ pos 3516 ∷ pos 3388 ∷ pos 3260 ∷ pos 3132 ∷ pos 3004 ∷ pos 2876 ∷ pos 2748 ∷ pos 2620 ∷ pos 2492 ∷ pos 2364 ∷ pos 2236 ∷ pos 2108 ∷ pos 1980 ∷ pos 1884 ∷ pos 1820 ∷ pos 1756 ∷ pos 1692 ∷ pos 1628 ∷ pos 1564 ∷ pos 1500 ∷ pos 1436 ∷ pos 1372 ∷ pos 1308 ∷ pos 1244 ∷ pos 1180 ∷ pos 1116 ∷ pos 1052 ∷ pos 988 ∷ pos 924 ∷ pos 876 ∷ pos 844 ∷ pos 812 ∷ pos 780 ∷ pos 748 ∷ pos 716 ∷ pos 684 ∷ pos 652 ∷ pos 620 ∷ pos 588 ∷ pos 556 ∷ pos 524 ∷ pos 492 ∷ pos 460 ∷ pos 428 ∷ pos 396 ∷ pos 372 ∷ pos 356 ∷ pos 340 ∷ pos 324 ∷ pos 308 ∷ pos 292 ∷ pos 276 ∷ pos 260 ∷ pos 244 ∷ pos 228 ∷ pos 212 ∷ pos 196 ∷ pos 180 ∷ pos 164 ∷ pos 148 ∷ pos 132 ∷ pos 120 ∷ pos 112 ∷ pos 104 ∷ pos 96 ∷ pos 88 ∷ pos 80 ∷ pos 72 ∷ pos 64 ∷ pos 56 ∷ pos 48 ∷ pos 40 ∷ pos 32 ∷ pos 24 ∷ pos 16 ∷ pos 8 ∷ pos 0 ∷ []

-- antt computes both lists
all_right : map (λ x. to_z w16 (of_z w16 x)) entries ≡ map decoded (range_with_len 0 256)
unfolding decoded
all_right = refl

pub rule : (k : ℕ) → k < 256 → to_z w16 (of_z w16 (get_or entries k (pos 0))) ≡ decoded k
rule k h =
    sym (get_or-map (λ x. to_z w16 (of_z w16 x)) entries k (pos 0) (pos 0) h)
    ∙ ap (λ l. get_or l k (pos 0)) all_right
    ∙ get_or-map-range_with_len decoded 0 256 k k (pos 0) h (zero-add k)

-- four times the recommendation's value is the formula's size
same_size : (m p : ℕ) → 1 ≤ p → 4 * (33 * p - 33 + m * (2 * p)) ≡ (8 * m + 132) * p - 132
same_size m p h =
    let a : m * (2 * p) ≡ 2 * (m * p) = mul_left_comm m 2 p in
    let b : (8 * m + 132) * p ≡ 8 * m * p + 132 * p = add-mul (8 * m) 132 p in
    let c : 8 * m * p ≡ 8 * (m * p) = mul_assoc 8 m p in
    omega (arith, a, b, c)

pub by_formula : (byte : ℕ) → decoded byte ≡ signed (sign (inverted byte)) (size (inverted byte))
unfolding decoded
by_formula byte = ap (signed (sign (inverted byte))) (same_size (place (inverted byte)) (2 ^ segment (inverted byte)) (pow_pos (segment (inverted byte))))
