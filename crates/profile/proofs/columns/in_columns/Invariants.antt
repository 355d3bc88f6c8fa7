use Rattle.std.proofs.Common.{◌≡◌, ◌+◌, vec_items}
use Rattle.std.specs.List.{AllZip, range_with_len}
use Rattle.profile.specs.Columns.{edge}
use Rattle.profile.proofs.columns.in_columns.Given as goal

abbrev pub invariant-loop-i : goal.invariant-loop-i
invariant-loop-i g l =
    (l.from ≡ edge l.extent l.n l.i)
    × AllZip (λ i s. goal.F-post g l.stretch (edge l.extent l.n i) (edge l.extent l.n (i + 1)) s) (range_with_len 0 l.i) (vec_items l.columns)
