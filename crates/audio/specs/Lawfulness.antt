-- Audio over the samples of any reel is a lawful kind.
use Rattle.std.specs.Prelude.{◌≡◌, ℕ, ◌+◌, ◌≤◌, Bool, true, false, cond, List, length, take, drop, ℤ, Ok, Err, FitsSigned, ◌==◌, nat_lt}
use Rattle.std.proofs.Math.Path.{refl}
use Rattle.std.proofs.Common.{sym, ap, ◌∙◌, arith, length-take, length-drop, ltb-false}
use Rattle.std.specs.Int.{w16}
use Rattle.std.proofs.lemmas.Bool.{eqb-false}
use Rattle.std.specs.List.{AllByRecursion}
use Rattle.std.proofs.ByRecursion.{All-take, All-drop, all-has, All-weaker}
use Rattle.std.proofs.lemmas.List.{drop-drop, drop-take, take-take}
use Rattle.faults.specs.declared.causes.Cause.{Cause}
use Rattle.faults.specs.declared.causes.Cause.TheVariants.{NoExtent, PastReel}
use Rattle.faults.specs.Numbers.{cause_number}
use Rattle.reels.specs.Samples.{Bounds}
use Rattle.kinds.specs.Kinds.{Laws, Lawful, of_numbers, of_part, IsAtom, Tallies, total}
use Rattle.audio.specs.declared.clip.Clip.{Clip}
use Rattle.audio.specs.Audio.{clip, clip_made, clip_samples, one_sample, joined_levels, audio}
use Rattle.audio.specs.Levels.{Measured, measured, at_end_le, none_left, none_right, assoc}

-- an element has a frame and lies within the reel
pub record Inside (samples : List ℤ) (e : Clip) : Type 0 where
  pub some : 1 ≤ e.frames
  pub within : e.start + e.frames ≤ length samples

-- how two numbers were made into an element, by the two tests
made_inside : (samples : List ℤ) (a b : ℕ) (e : Clip) (none past : Bool) → (b == 0) ≡ none → nat_lt (length samples) (a + b) ≡ past → cond none (Err NoExtent) (cond past (Err PastReel) (Ok (clip a b))) ≡ Ok e → Inside samples e × (e.start ≡ a) × (e.frames ≡ b)
made_inside samples a b e true past p q h = let z : ◌≡◌ {A = ℕ} 0 1 = cc in absurd (omega arith)
made_inside samples a b e false true p q h = let z : ◌≡◌ {A = ℕ} 0 1 = cc in absurd (omega arith)
made_inside samples a b e false false p q h =
    let same : clip a b ≡ e = cc in
    let start : e.start ≡ a = sym (ap (λ c. c.start) same) in
    let frames : e.frames ≡ b = sym (ap (λ c. c.frames) same) in
    (record { some = omega (arith, eqb-false b 0 p, frames); within = omega (arith, ltb-false (length samples) (a + b) q, start, frames) }, start, frames)

-- the atoms of an element that two numbers make
pub made_samples : (samples : List ℤ) (a b : ℕ) (e : Clip) → clip_made samples a b ≡ Ok e → clip_samples samples e ≡ take b (drop a samples)
made_samples samples a b e h =
    let m = made_inside samples a b e _ _ refl refl h in
    ap (λ n. take n (drop e.start samples)) m.2 ∙ ap (λ n. take b (drop n samples)) m.1

refused_cause : (samples : List ℤ) (a b : ℕ) (c : Cause) (none past : Bool) → cond none (Err NoExtent) (cond past (Err PastReel) (Ok (clip a b))) ≡ Err c → 1 ≤ cause_number c
refused_cause samples a b c true past h = let same : c ≡ NoExtent = cc in rw same (omega arith)
refused_cause samples a b c false true h = let same : c ≡ PastReel = cc in rw same (omega arith)
refused_cause samples a b c false false h = let z : ◌≡◌ {A = ℕ} 0 1 = cc in absurd (omega arith)

pub clip_extent : (samples : List ℤ) (e : Clip) → e.start + e.frames ≤ length samples → length (clip_samples samples e) ≡ e.frames
clip_extent samples e h = rw (length-take, length-drop) (omega arith)

pub inside : (samples : List ℤ) {e : Clip} → Lawful (audio samples) e → Inside samples e
inside samples (of_numbers a b e p q h) = (made_inside samples a b e _ _ refl refl h).0
inside samples (of_part whole d m e l w h) =
    let i = inside samples l in
    let n = clip_extent samples whole i.within in
    let start : e.start ≡ whole.start + d = sym (ap (λ c. c.start) h) in
    let frames : e.frames ≡ m = sym (ap (λ c. c.frames) h) in
    record { some = omega (arith, w.some, frames); within = omega (arith, w.inside, n, i.within, start, frames) }

sub_part : (xs : List ℤ) (start frames d m : ℕ) → d + m ≤ frames → take m (drop (start + d) xs) ≡ take m (drop d (take frames (drop start xs)))
sub_part xs start frames d m h =
    let e : take (d + m) (take frames (drop start xs)) ≡ take (d + m) (drop start xs) = take-take (d + m) frames (drop start xs) h in
    sym (sym (drop-take d m (take frames (drop start xs))) ∙ ap (drop d) e ∙ drop-take d m (drop start xs) ∙ ap (take m) (drop-drop d start xs))

module _ (samples : List ℤ) (b : Bounds samples) where
  -- an atom is a sample of 16 bits
  atom_fits : (a : ℤ) → IsAtom (audio samples) a → FitsSigned w16 a
  atom_fits a h =
      let e = h.element in
      all-has (FitsSigned w16) (clip_samples samples e) a (All-take (FitsSigned w16) e.frames (drop e.start samples) (All-drop (FitsSigned w16) e.start samples b.narrow)) h.occurs

  pub atoms_measured : (xs : List ℤ) → AllByRecursion (IsAtom (audio samples)) xs → Measured (length xs) (total (audio samples) xs)
  atoms_measured xs h = measured samples xs (All-weaker (IsAtom (audio samples)) (FitsSigned w16) atom_fits xs h)

  pub audio_laws : Laws (audio samples)
  audio_laws = record {
    made_first = λ x y e p q h. (made_inside samples x y e _ _ refl refl h).1;
    made_second = λ x y e p q h. (made_inside samples x y e _ _ refl refl h).2;
    caused = λ x y c p q h. refused_cause samples x y c (y == 0) (nat_lt (length samples) (x + y)) h;
    some = λ e l. let i = inside samples l in rw (clip_extent samples e i.within) i.some;
    few = λ e l. let i = inside samples l in rw (clip_extent samples e i.within) (omega (arith, i.within, b.few));
    part_atoms = λ e d m l w. sub_part samples e.start e.frames d m (rw (clip_extent samples e (inside samples l).within) at w.inside);
    one_none = λ a h. none_right (one_sample a) (atom_fits a h) (atom_fits a h);
    none_left = λ xs h n. let s = atoms_measured xs h in none_left _ s.low_fits s.high_fits;
    none_right = λ xs h n. let s = atoms_measured xs h in none_right _ s.low_fits s.high_fits;
    assoc = λ xs ys zs p q r n. assoc _ _ _;
    total_width = λ xs h n. (atoms_measured xs h).frames;
  }

  pub audio_tallies : Tallies (audio samples) (λ s. s.clipped)
  unfolding joined_levels
  audio_tallies = record { none = refl; atom = λ a h. omega (arith, at_end_le a); adds = λ s t j. refl }
