-- The levels of a whole reel, as C is told them.
use Rattle.std.specs.Prelude.{List, ℤ}
use Rattle.audio.specs.Audio.{audio}
use Rattle.audio.specs.declared.levels.Levels.{Levels}
use Rattle.kinds.specs.Kinds.{total}
use Rattle.speed.specs.declared.summary.Summary.{Summary}

abbrev pub levels_of_samples : List ℤ → Levels
levels_of_samples samples = total (audio samples) samples

abbrev pub told : Levels → Summary
told s = record { frames = s.frames; low = s.low; high = s.high; clipped = s.clipped }
