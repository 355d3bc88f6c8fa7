use Rattle.std.proofs.Common.{◌≡◌, ◌≤◌, take}
use Rattle.kinds.specs.Kinds.{total}
use Rattle.audio.specs.Audio.{audio, levels}
use Rattle.audio.proofs.measure.levels_of.Given as goal

abbrev pub invariant-loop-s : goal.invariant-loop-s
invariant-loop-s l = record {
  so_far : levels l.s-index l.low l.high l.clipped ≡ total (audio l.block) (take l.s-index l.block);
  few : l.clipped ≤ l.s-index;
}
