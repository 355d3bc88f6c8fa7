use Rattle.std.proofs.Common.{ap, arith}
use Rattle.tempo.specs.Lawfulness.{counted, same_beats}
use Rattle.tempo.proofs.kind.TempoKind.join.Goals as goal

pub returns : goal.returns
returns c j =
    let left = counted j.left j.sums_left.atomic in
    let right = counted j.right j.sums_right.atomic in
    let s = j.sums_left.summed in
    let t = j.sums_right.summed in
    same_beats _ _
    (omega (arith, ap (λ b. b.ticks) s, ap (λ b. b.ticks) t, left.ticks, right.ticks, j.few))
    (omega (arith, ap (λ b. b.units) s, ap (λ b. b.units) t, left.units, right.units, j.few))
