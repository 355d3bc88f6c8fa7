-- Audio elements over the samples of a reel: stretches of it, by their first frame and their length.
use Rattle.std.specs.Prelude.{ℕ, ◌+◌, cond, List, length, take, drop, ℤ, pos, negsuc, Ok, Err, Result, ◌==◌, nat_lt}
use Rattle.std.specs.Int.{int_max, int_min}
use Rattle.faults.specs.declared.causes.Cause.{Cause}
use Rattle.faults.specs.declared.causes.Cause.TheVariants.{NoExtent, PastReel}
use Rattle.kinds.specs.Kinds.{Meaning}
use Rattle.audio.specs.declared.clip.Clip.{Clip}
use Rattle.audio.specs.declared.kind.Audio.{Audio}
use Rattle.audio.specs.declared.levels.Levels.{Levels}

-- the reel whose stretches are the kind's elements
abbrev pub audio_reel : {R : Type 0} → Audio R → R
audio_reel k = k.reel

abbrev pub clip : ℕ → ℕ → Clip
clip start frames = record { start = start; frames = frames }

-- two numbers make an element if it has a frame and lies within the reel
abbrev pub clip_made : List ℤ → ℕ → ℕ → Result Clip Cause
clip_made samples start frames =
    cond (frames == 0) (Err NoExtent) (cond (nat_lt (length samples) (start + frames)) (Err PastReel) (Ok (clip start frames)))

-- the atoms are the samples from the start on
abbrev pub clip_samples : List ℤ → Clip → List ℤ
clip_samples samples e = take e.frames (drop e.start samples)

abbrev pub levels : ℕ → ℤ → ℤ → ℕ → Levels
levels frames low high clipped = record { frames = frames; low = low; high = high; clipped = clipped }

-- 1 where a sample is at either end of the range, else 0
abbrev pub count_at_end : ℤ → ℕ
count_at_end (pos n) = cond (n == 32767) 1 0
count_at_end (negsuc n) = cond (n == 32767) 1 0

abbrev pub one_sample : ℤ → Levels
one_sample s = levels 1 s s (count_at_end s)

abbrev pub no_samples : Levels
no_samples = levels 0 (pos 32767) (negsuc 32767) 0

-- frames and clipped samples add; low and high join by minimum and maximum
unfoldable pub joined_levels : Levels → Levels → Levels
joined_levels s t =
    levels (s.frames + t.frames) (int_min s.low t.low) (int_max s.high t.high) (s.clipped + t.clipped)

abbrev pub audio : List ℤ → Meaning Clip ℤ Levels
audio samples = record {
  made = clip_made samples;
  first = λ e. e.start;
  second = λ e. e.frames;
  atoms = clip_samples samples;
  part = λ e d m. clip (e.start + d) m;
  single = one_sample;
  none = no_samples;
  plus = joined_levels;
  width = λ s. s.frames;
}
