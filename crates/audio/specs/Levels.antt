-- Facts about the levels of samples that have 16 bits.
use Rattle.std.specs.Prelude.{◌≡◌, ℕ, ◌≤◌, List, [], ◌∷◌, length, ℤ, pos, negsuc, FitsSigned, ◌==◌, int_lt, refl}
use Rattle.std.proofs.Common.{ap, ◌∙◌, arith, lit<}
use Rattle.std.specs.Int.{int_max, int_min, w16}
use Rattle.std.specs.List.{AllByRecursion}
use Rattle.std.proofs.lemmas.Int.{ints, clamps}
use Rattle.std.proofs.lemmas.Bool.{cond_both}
use Rattle.kinds.specs.Kinds.{total}
use Rattle.audio.specs.declared.levels.Levels.{Levels}
use Rattle.audio.specs.Audio.{levels, count_at_end, no_samples, joined_levels, audio}

-- what holds of the levels of n samples
pub record Measured (n : ℕ) (s : Levels) : Type 0 where
  pub frames : s.frames ≡ n
  pub clipped : s.clipped ≤ n
  pub low_fits : FitsSigned w16 s.low
  pub high_fits : FitsSigned w16 s.high

pub same_levels : (s t : Levels) → s.frames ≡ t.frames → s.low ≡ t.low → s.high ≡ t.high → s.clipped ≡ t.clipped → s ≡ t
same_levels s t p q r u =
    ap (λ x. levels x s.low s.high s.clipped) p
    ∙ ap (λ x. levels t.frames x s.high s.clipped) q
    ∙ ap (λ x. levels t.frames t.low x s.clipped) r
    ∙ ap (λ x. levels t.frames t.low t.high x) u

pub at_end_le : (s : ℤ) → count_at_end s ≤ 1
at_end_le (pos n) = cond_both (n == 32767) 1 0 (λ x. x ≤ 1) (λ _. omega arith) (λ _. omega arith)
at_end_le (negsuc n) = cond_both (n == 32767) 1 0 (λ x. x ≤ 1) (λ _. omega arith) (λ _. omega arith)

min_fits : (a b : ℤ) → FitsSigned w16 a → FitsSigned w16 b → FitsSigned w16 (int_min a b)
min_fits a b p q = cond_both (int_lt b a) b a (FitsSigned w16) (λ _. q) (λ _. p)

max_fits : (a b : ℤ) → FitsSigned w16 a → FitsSigned w16 b → FitsSigned w16 (int_max a b)
max_fits a b p q = cond_both (int_lt b a) a b (FitsSigned w16) (λ _. p) (λ _. q)

pub measured : (samples xs : List ℤ) → AllByRecursion (FitsSigned w16) xs → Measured (length xs) (total (audio samples) xs)
unfolding joined_levels
measured samples [] h =
    record { frames = refl; clipped = omega arith; low_fits = record { sfits = lit< tt }; high_fits = record { sfits = lit< tt } }
measured samples (x ∷ xs) h =
    let r = measured samples xs h.1 in
    record {
      frames = omega (arith, r.frames);
      clipped = omega (arith, r.clipped, at_end_le x);
      low_fits = min_fits _ _ h.0 r.low_fits;
      high_fits = max_fits _ _ h.0 r.high_fits;
    }

-- the empty summary is neutral where low and high have 16 bits
pub none_left : (s : Levels) → FitsSigned w16 s.low → FitsSigned w16 s.high → joined_levels no_samples s ≡ s
unfolding joined_levels
none_left s l h = same_levels _ _ (omega arith) (omega (arith, ints, clamps)) (omega (arith, ints, clamps)) (omega arith)

pub none_right : (s : Levels) → FitsSigned w16 s.low → FitsSigned w16 s.high → joined_levels s no_samples ≡ s
unfolding joined_levels
none_right s l h = same_levels _ _ (omega arith) (omega (arith, ints, clamps)) (omega (arith, ints, clamps)) (omega arith)

pub assoc : (s t u : Levels) → joined_levels (joined_levels s t) u ≡ joined_levels s (joined_levels t u)
unfolding joined_levels
assoc s t u = same_levels _ _ (omega arith) (omega (arith, ints, clamps)) (omega (arith, ints, clamps)) (omega arith)
