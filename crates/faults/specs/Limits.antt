-- The limits that several layers share.
use Rattle.std.specs.Prelude.{ℕ}

-- the most atoms of an element and of a track, and the most samples of a reel
abbrev pub limit : ℕ
limit = 1073741824
