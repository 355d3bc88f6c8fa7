use Rattle.std.proofs.Common.{◌≤◌, length}
use Rattle.std.specs.Slice.Iter.{iter_rest}
use Rattle.splice.proofs.options.parse.Given as goal

abbrev pub invariant-loop-word : goal.invariant-loop-word
invariant-loop-word l = (1 ≤ l.chosen.shift.columns) × (l.chosen.shift.columns ≤ 200)

abbrev pub decreases-loop-word : goal.decreases-loop-word
decreases-loop-word l = length (iter_rest l.words)
