use Rattle.std.proofs.Common.{◌≡◌, length, take}
use Rattle.kinds.specs.Kinds.{total}
use Rattle.profile.specs.Columns.{edge}
use Rattle.profile.proofs.columns.survey_element.Given as goal

abbrev pub invariant-loop-s : goal.invariant-loop-s
invariant-loop-s g l =
    let k = g.K.Kind.meaning l.k in
    let xs = k.atoms l.fn.e in
    l.whole ≡ total k (take (edge (length xs) l.n l.s-index) xs)
