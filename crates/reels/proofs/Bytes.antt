-- Samples as bytes, two each, the low byte first.
use Rattle.std.proofs.Common.{◌≡◌, ℕ, zero, suc, ◌+◌, ◌-◌, ◌*◌, ◌/◌, ◌%◌, ◌<◌, ◌≤◌, min, List, [], ◌∷◌, ◌++◌, length, get_or, take, drop, set, ℤ, pos, negsuc, sym, refl, ap, ◌∙◌, arith, length-append, length-drop, length-take, w16, SFits, of_z}
use Rattle.std.proofs.lemmas.List.{append-nil, append_assoc, take_at, drop_at, drop_all, drop-drop, take_more, take_rest}
use borrow.Rule.Slice.PartMut.{put_mid}
use Rattle.reels.specs.Samples.{WrittenBlock, bytes_of, stretch}
use Rattle.reels.proofs.Copies.{length_stretch, stretch_both}
use Rattle.reels.proofs.Lists.{over_step}

pub length_bytes : (xs : List ℤ) → length (bytes_of xs) ≡ 2 * length xs
length_bytes [] = refl
length_bytes (x ∷ xs) = let h = length_bytes xs in omega arith

pub bytes_append : (xs ys : List ℤ) → bytes_of (xs ++ ys) ≡ bytes_of xs ++ bytes_of ys
bytes_append [] ys = refl
bytes_append (x ∷ xs) ys = ap (λ v. of_z w16 x % 256 ∷ of_z w16 x / 256 ∷ v) (bytes_append xs ys)

-- the bytes of the first samples are the first bytes
pub bytes_take : (i : ℕ) (xs : List ℤ) → take (2 * i) (bytes_of xs) ≡ bytes_of (take i xs)
bytes_take zero xs = refl
bytes_take (suc i) [] = let e : 2 * suc i ≡ suc (suc (2 * i)) = omega arith in rw e refl
bytes_take (suc i) (x ∷ xs) = let e : 2 * suc i ≡ suc (suc (2 * i)) = omega arith in rw e (ap (λ v. of_z w16 x % 256 ∷ of_z w16 x / 256 ∷ v) (bytes_take i xs))

-- one sample more
pub bytes_more : (xs : List ℤ) (i : ℕ) → i < length xs → bytes_of (take (i + 1) xs) ≡ bytes_of (take i xs) ++ of_z w16 (get_or xs i (pos 0)) % 256 ∷ of_z w16 (get_or xs i (pos 0)) / 256 ∷ []
bytes_more xs i h = ap bytes_of (take_more xs i (pos 0) h) ∙ bytes_append (take i xs) (get_or xs i (pos 0) ∷ [])

-- the same, written over other bytes
pub put_pair : (xs : List ℤ) (old : List ℕ) (i : ℕ) → i < length xs → length old ≡ 2 * length xs → set (set (bytes_of (take i xs) ++ drop (2 * i) old) (2 * i) (of_z w16 (get_or xs i (pos 0)) % 256)) (2 * i + 1) (of_z w16 (get_or xs i (pos 0)) / 256) ≡ bytes_of (take (i + 1) xs) ++ drop (2 * (i + 1)) old
put_pair xs old i h n =
    let done = bytes_of (take i xs) in
    let low = of_z w16 (get_or xs i (pos 0)) % 256 in
    let high = of_z w16 (get_or xs i (pos 0)) / 256 in
    let long : length (bytes_of (take i xs)) ≡ 2 * i = let a = length_bytes (take i xs) in let b = length-take i xs in omega arith in
    let further : length (bytes_of (take i xs) ++ of_z w16 (get_or xs i (pos 0)) % 256 ∷ []) ≡ 2 * i + 1 = simp length-append (omega arith) in
    let both : bytes_of (take (i + 1) xs) ≡ (bytes_of (take i xs) ++ of_z w16 (get_or xs i (pos 0)) % 256 ∷ []) ++ of_z w16 (get_or xs i (pos 0)) / 256 ∷ [] =
    bytes_more xs i h ∙ sym (append_assoc done (low ∷ []) (high ∷ [])) in
    let e : 2 * (i + 1) ≡ 2 * i + 1 + 1 = omega arith in
    rw e (ap (λ l. set l (2 * i + 1) high) (over_step done (done ++ low ∷ []) old (2 * i) low long (omega arith) refl)
    ∙ over_step (done ++ low ∷ []) (bytes_of (take (i + 1) xs)) old (2 * i + 1) high further (omega arith) both)

-- the high byte of 16 bits
pub high_fits : (x : ℤ) → SFits w16 x → of_z w16 x / 256 % 256 ≡ of_z w16 x / 256
high_fits (pos n) f = let h : n < 32768 = f.sfits in omega arith
high_fits (negsuc n) f = let h : n < 32768 = f.sfits in omega arith

-- One block more of a stretch that is written over other bytes.
module _ (samples : List ℤ) (start done : ℕ) (before out : List ℕ) (so_far : out ≡ bytes_of (stretch samples start done) ++ drop (2 * done) before) (few : done ≤ length samples - start) where
  front : length (bytes_of (stretch samples start done)) ≡ 2 * done
  front = length_bytes (stretch samples start done) ∙ ap (λ v. 2 * v) (length_stretch samples start done few)

  part : take (length out - 2 * done) (drop (2 * done) out) ≡ drop (2 * done) before
  part = take_rest out (2 * done) ∙ ap (drop (2 * done)) so_far ∙ drop_at (bytes_of (stretch samples start done)) (drop (2 * done) before) (2 * done) front

  pub part_length : length (take (length out - 2 * done) (drop (2 * done) out)) ≡ length before - 2 * done
  part_length = ap length part ∙ length-drop (2 * done) before

  pub block_more : (n : ℕ) (after : List ℕ) → after ≡ bytes_of (stretch samples (start + done) n) ++ drop (2 * n) (take (length out - 2 * done) (drop (2 * done) out)) → put_mid (2 * done) (length out - 2 * done) out after ≡ bytes_of (stretch samples start (done + n)) ++ drop (2 * (done + n)) before
  block_more n after e =
      let one = bytes_of (stretch samples start done) in
      let two = bytes_of (stretch samples (start + done) n) in
      let over : drop (length out - 2 * done) (drop (2 * done) out) ≡ [] = drop_all (length out - 2 * done) (drop (2 * done) out) (rw length-drop (omega arith)) in
      let begun : take (2 * done) out ≡ bytes_of (stretch samples start done) = ap (take (2 * done)) so_far ∙ take_at one (drop (2 * done) before) (2 * done) front in
      let far : 2 * done + 2 * n ≡ 2 * (done + n) = omega arith in
      let rest : drop (2 * n) (take (length out - 2 * done) (drop (2 * done) out)) ≡ drop (2 * (done + n)) before = ap (drop (2 * n)) part ∙ drop-drop (2 * n) (2 * done) before ∙ ap (λ v. drop v before) far in
      ap (λ v. take (2 * done) out ++ (after ++ v)) over ∙ ap (λ v. take (2 * done) out ++ v) (append-nil after) ∙ ap (λ v. v ++ after) begun
      ∙ ap (λ v. one ++ v) (e ∙ ap (λ v. two ++ v) rest) ∙ sym (append_assoc one two (drop (2 * (done + n)) before))
      ∙ ap (λ v. v ++ drop (2 * (done + n)) before) (sym (bytes_append (stretch samples start done) (stretch samples (start + done) n)) ∙ ap bytes_of (sym (stretch_both samples start done n)))

-- The same of n samples that fit, by blocks of 512: up to where the next block begins.
pub block_step : (samples : List ℤ) (start n done : ℕ) (before out : List ℕ) → n ≡ min (length before / 2) (length samples - start) → done < n → out ≡ bytes_of (stretch samples start (min done n)) ++ drop (2 * min done n) before → {after : List ℕ} {m : ℕ} → WrittenBlock 512 samples (start + done) (take (length out - 2 * done) (drop (2 * done) out)) after m → put_mid (2 * done) (length out - 2 * done) out after ≡ bytes_of (stretch samples start (min (done + 512) n)) ++ drop (2 * min (done + 512) n) before
block_step samples start n done before out fit below written {after = after} {m = m} w =
    let here : min done n ≡ done = omega arith in
    let so_far : out ≡ bytes_of (stretch samples start done) ++ drop (2 * done) before = rw here at written in
    let few : done ≤ length samples - start = omega arith in
    let left = part_length samples start done before out so_far few in
    let next : done + m ≡ min (done + 512) n = omega (arith, left, w.count) in
    block_more samples start done before out so_far few m after w.bytes ∙ ap (λ k. bytes_of (stretch samples start k) ++ drop (2 * k) before) next
