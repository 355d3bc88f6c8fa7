-- A number of frames as hours, minutes, seconds and frames, at 48,000 frames a second.
use Rattle.std.specs.Prelude.{◌≡◌, ℕ, ◌+◌, ◌*◌, ◌<◌}

pub record Times (total hours minutes seconds frames : ℕ) : Type 0 where
  pub sum : total ≡ ((hours * 60 + minutes) * 60 + seconds) * 48000 + frames
  pub below_hour : minutes < 60
  pub below_minute : seconds < 60
  pub below_second : frames < 48000
