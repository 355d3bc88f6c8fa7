-- The element that is a whole reel.
use Rattle.std.proofs.Common.{◌≡◌, ℕ, suc, ◌+◌, ◌<◌, ◌≤◌, Bool, true, false, cond, eqb, ltb, List, [], ◌∷◌, length, ℤ, Ok, Err, refl, ap, ◌∙◌, arith, ltb-true, eqb-true}
use Rattle.std.proofs.lemmas.List.{take_all}
use Rattle.faults.specs.declared.causes.Cause.{Cause}
use Rattle.faults.specs.declared.causes.Cause.TheVariants.{NoExtent, PastReel}
use Rattle.kinds.specs.Kinds.{total}
use Rattle.audio.specs.Audio.{audio, clip_made, clip_samples, no_samples}
use Rattle.audio.specs.Lawfulness.{made_samples}
use Rattle.audio.specs.declared.clip.Clip.{Clip}
use Rattle.speed.specs.Summaries.{levels_of_samples}

pub whole_levels : (samples : List ℤ) (e : Clip) → clip_made samples 0 (length samples) ≡ Ok e → total (audio samples) (clip_samples samples e) ≡ levels_of_samples samples
whole_levels samples e h = ap (total (audio samples)) (made_samples samples 0 (length samples) e h ∙ take_all (length samples) samples (omega arith))

-- only a reel of no samples has no such element
never_refused : (n : ℕ) (e : Clip) (f : Cause) (none past : Bool) → 1 ≤ n → eqb n 0 ≡ none → ltb n (0 + n) ≡ past → cond none (Err NoExtent) (cond past (Err PastReel) (Ok e)) ≡ Err f → ⊥
never_refused n e f true past some p q h = omega (arith, some, eqb-true n 0 p)
never_refused n e f false true some p q h = omega (arith, ltb-true n (0 + n) q)
never_refused n e f false false some p q h = let z : ◌≡◌ {A = ℕ} 0 1 = cc in omega arith

pub none_levels : (samples : List ℤ) (f : Cause) → clip_made samples 0 (length samples) ≡ Err f → no_samples ≡ levels_of_samples samples
none_levels [] f h = refl
none_levels (x ∷ xs) f h = absurd (never_refused (suc (length xs)) _ f _ _ (omega arith) refl refl h)
