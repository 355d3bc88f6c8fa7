use Rattle.std.proofs.Common.{◌≡◌, ◌*◌, ◌++◌, take, drop}
use Rattle.reels.specs.Pcm.{pairs}
use Rattle.reels.proofs.pcm.take_pairs.Given as goal

abbrev pub invariant-loop-i : goal.invariant-loop-i
invariant-loop-i l = l.block ≡ pairs (take (2 * l.i) l.bytes) ++ drop l.i l.initial.block
