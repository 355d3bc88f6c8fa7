-- Levels of samples that come one by one, or block by block.
use Rattle.std.proofs.Common.{◌≡◌, ℕ, ◌+◌, ◌-◌, ◌^◌, ◌<◌, ◌≤◌, min, List, [], ◌∷◌, ◌++◌, length, get_or, take, drop, ℤ, pos, sym, refl, ap, ◌∙◌, arith, length-drop, length-take, w16, SFits}
use Rattle.std.specs.List.{AllByRecursion}
use Rattle.std.proofs.ByRecursion.{All-take, All-drop}
use Rattle.std.proofs.lemmas.List.{take_min, take_more}
use Rattle.kinds.specs.Kinds.{total}
use Rattle.reels.specs.Samples.{Bounds, stretch}
use Rattle.reels.proofs.Copies.{stretch_both}
use Rattle.audio.specs.Audio.{one_sample, joined_levels, audio}
use Rattle.audio.specs.declared.levels.Levels.{Levels}
use Rattle.audio.specs.Levels.{measured, none_left, none_right, assoc}

-- the levels of samples do not depend on the reel that has them
pub same_total : (a b xs : List ℤ) → total (audio a) xs ≡ total (audio b) xs
same_total a b [] = refl
same_total a b (x ∷ xs) = ap (joined_levels (one_sample x)) (same_total a b xs)

pub total_append : (a xs ys : List ℤ) → AllByRecursion (SFits w16) xs → AllByRecursion (SFits w16) ys → total (audio a) (xs ++ ys) ≡ joined_levels (total (audio a) xs) (total (audio a) ys)
total_append a [] ys p q = let m = measured a ys q in sym (none_left _ m.low_fits m.high_fits)
total_append a (x ∷ xs) ys p q = ap (joined_levels (one_sample x)) (total_append a xs ys p.1 q) ∙ sym (assoc _ _ _)

-- one sample more
pub total_more : (a xs : List ℤ) (i : ℕ) → i < length xs → AllByRecursion (SFits w16) xs → SFits w16 (get_or xs i (pos 0)) → total (audio a) (take (i + 1) xs) ≡ joined_levels (total (audio a) (take i xs)) (one_sample (get_or xs i (pos 0)))
total_more a xs i h p f =
    let x = get_or xs i (pos 0) in
    ap (total (audio a)) (take_more xs i (pos 0) h)
    ∙ total_append a (take i xs) (get_or xs i (pos 0) ∷ []) (All-take (SFits w16) i xs p) (f, tt)
    ∙ ap (joined_levels (total (audio a) (take i xs))) (none_right (one_sample (get_or xs i (pos 0))) f f)

-- a stretch ends where the samples end
pub stretch_end : (samples : List ℤ) (start n k : ℕ) → n ≡ min k (length samples - start) → stretch samples start n ≡ stretch samples start k
stretch_end samples start n k h =
    let there : n ≡ min k (length (drop start samples)) = rw length-drop h in
    ap (λ v. take v (drop start samples)) there ∙ take_min k (drop start samples)

pub stretch_fits : (samples : List ℤ) (start n : ℕ) → AllByRecursion (SFits w16) samples → AllByRecursion (SFits w16) (stretch samples start n)
stretch_fits samples start n h = All-take (SFits w16) n (drop start samples) (All-drop (SFits w16) start samples h)

-- the levels of a stretch: so many frames as there are
pub stretch_frames : (samples : List ℤ) (start n : ℕ) → AllByRecursion (SFits w16) samples → (total (audio samples) (stretch samples start n)).frames ≡ min n (length samples - start)
stretch_frames samples start n h = (measured samples (stretch samples start n) (stretch_fits samples start n h)).frames ∙ simp (length-take, length-drop) (omega arith)

pub stretch_clipped : (samples : List ℤ) (start n : ℕ) → AllByRecursion (SFits w16) samples → (total (audio samples) (stretch samples start n)).clipped ≤ min n (length samples - start)
stretch_clipped samples start n h =
    let m = measured samples (stretch samples start n) (stretch_fits samples start n h) in
    omega (arith, m.clipped, m.frames, stretch_frames samples start n h)

-- one block more of a stretch
pub block_more : (samples : List ℤ) (start done n : ℕ) → AllByRecursion (SFits w16) samples → joined_levels (total (audio samples) (stretch samples start done)) (total (audio samples) (stretch samples (start + done) n)) ≡ total (audio samples) (stretch samples start (done + n))
block_more samples start done n h =
    sym (ap (total (audio samples)) (stretch_both samples start done n)
    ∙ total_append samples (stretch samples start done) (stretch samples (start + done) n) (stretch_fits samples start done h) (stretch_fits samples (start + done) n h))

-- The levels of a stretch up to the place `at`, and of the block there: those up to where the next block begins.
pub block_step : (samples : List ℤ) (start at end : ℕ) → Bounds samples → start ≤ at → at < end → end ≤ length samples → {sum more both : Levels} → sum ≡ total (audio samples) (stretch samples start (min at end - start)) → more ≡ total (audio samples) (stretch samples at (min (end - at) 512)) → (sum.frames + more.frames < 2 ^ 32 → sum.clipped + more.clipped < 2 ^ 32 → both ≡ joined_levels sum more) → both ≡ total (audio samples) (stretch samples start (min (at + 512) end - start))
block_step samples start at end b begun below within {sum = sum} {more = more} {both = both} p q joined =
    let done = min at end - start in
    let n = min (end - at) 512 in
    let frames = stretch_frames samples start done b.narrow in
    let clipped = stretch_clipped samples start done b.narrow in
    let frames_more = stretch_frames samples at n b.narrow in
    let clipped_more = stretch_clipped samples at n b.narrow in
    let here : start + (min at end - start) ≡ at = omega arith in
    let next : (min at end - start) + min (end - at) 512 ≡ min (at + 512) end - start = omega arith in
    joined (omega (arith, ap (λ l. l.frames) p, ap (λ l. l.frames) q, frames, frames_more, b.few)) (omega (arith, ap (λ l. l.clipped) p, ap (λ l. l.clipped) q, clipped, clipped_more, b.few))
    ∙ ap (λ s. joined_levels s more) p ∙ ap (joined_levels (total (audio samples) (stretch samples start done))) (q ∙ ap (λ i. total (audio samples) (stretch samples i n)) (sym here))
    ∙ block_more samples start done n b.narrow ∙ ap (λ k. total (audio samples) (stretch samples start k)) next
