-- Two summaries joined, from what the code makes of their numbers.
use Rattle.std.proofs.Common.{◌≡◌, ℕ, ◌+◌, ◌<◌, ◌^◌, min, ℤ, to_z, of_z, ap, ◌∙◌, w16, SFits, arith}
use Rattle.std.proofs.lemmas.Int.{to_z-of_z}
use Rattle.std.specs.Int.{int_max, int_min}
use Rattle.audio.specs.declared.levels.Levels.{Levels}
use Rattle.audio.specs.Audio.{joined_levels}
use Rattle.audio.specs.Levels.{same_levels}

pub louder_levels : (s t : Levels) (frames clipped : ℕ) (low high : ℤ) → s.frames + t.frames < 2 ^ 32 → s.clipped + t.clipped < 2 ^ 32
    → SFits w16 s.low → SFits w16 t.low → SFits w16 s.high → SFits w16 t.high → SFits w16 low → SFits w16 high
    → frames ≡ min (s.frames + t.frames) 4294967295 → clipped ≡ min (s.clipped + t.clipped) 4294967295
    → low ≡ int_min (to_z w16 (of_z w16 s.low)) (to_z w16 (of_z w16 t.low))
    → high ≡ int_max (to_z w16 (of_z w16 s.high)) (to_z w16 (of_z w16 t.high))
    → ◌≡◌ {A = Levels} (record { frames = frames; low = to_z w16 (of_z w16 low); high = to_z w16 (of_z w16 high); clipped = clipped }) (joined_levels s t)
unfolding joined_levels
louder_levels s t frames clipped low high p q sl tl sh th f g wide many lo hi =
    same_levels _ _ (omega arith)
    (to_z-of_z w16 low f ∙ lo ∙ ap (λ x. int_min x (to_z w16 (of_z w16 t.low))) (to_z-of_z w16 s.low sl) ∙ ap (int_min s.low) (to_z-of_z w16 t.low tl))
    (to_z-of_z w16 high g ∙ hi ∙ ap (λ x. int_max x (to_z w16 (of_z w16 t.high))) (to_z-of_z w16 s.high sh) ∙ ap (int_max s.high) (to_z-of_z w16 t.high th))
    (omega arith)
