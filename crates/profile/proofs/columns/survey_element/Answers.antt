use Rattle.std.proofs.Common.{◌≡◌, ◌<◌, ◌+◌, length, get_or, take, ap, ◌∙◌, arith}
use Rattle.std.proofs.lemmas.List.FromFn.{length-map-range_with_len, get_or-map-range_with_len}
use Rattle.std.proofs.lemmas.List.{take_all}
use Rattle.kinds.specs.Kinds.{total}
use Rattle.kinds.proofs.Totals.{atoms_atomic}
use Rattle.profile.specs.Columns.{edge, column}
use Rattle.profile.proofs.Edges.{edge_inside, edge_rises, edge_last, can_join, stretch_more, joinable_at}
use Rattle.profile.proofs.columns.survey_element.Goals as goal

pub loop-s-preserved : goal.loop-s-preserved
loop-s-preserved g c =
    let k = g.K.Kind.meaning c.args.k.now in
    let laws = g.K.Kind.laws c.args.k.now in
    let xs = k.atoms c.args.e in
    let n = c.args.n in
    let i = c.loop-s.s-index in
    let all = c.deref-s-items.ensures.value ∙ c.in_ok-columns.ensures in
    let below : c.loop-s.s-index < c.args.n = omega (arith, ap length all, length-map-range_with_len (column k xs n) 0 n) in
    let from = edge (length xs) n i in
    let to = edge (length xs) n (i + 1) in
    let order = edge_rises (length xs) n i (omega arith) in
    let inside = edge_inside (length xs) n (i + 1) (omega arith) in
    let atomic = atoms_atomic k c.args.e c.requires in
    let few = laws.few c.args.e c.requires in
    let this = c.s-item.is ∙ ap (λ ys. get_or ys i c.s-item.result) all ∙ get_or-map-range_with_len (column k xs n) 0 n i i c.s-item.result below (omega arith) in
    let sum = c.loop-s.invariant in
    let joined = c.join-whole.ensures (joinable_at k _ _ _ _ sum this (can_join k laws xs atomic few from to order inside)) in
    joined ∙ ap (λ s. k.plus s c.s-item.result) sum ∙ ap (k.plus (total k (take from xs))) this ∙ stretch_more k laws xs atomic few from to order inside

pub returns : goal.returns
returns g c =
    let k = g.K.Kind.meaning c.args.k.now in
    let xs = k.atoms c.args.e in
    let n = c.args.n in
    let all = c.deref-s-items.ensures.value ∙ c.in_ok-columns.ensures in
    let last : c.loop-s.s-index ≡ c.args.n = omega (arith, ap length all, length-map-range_with_len (column k xs n) 0 n) in
    record {
      each = c.in_ok-columns.ensures;
      all = λ h. c.loop-s.invariant ∙ ap (total k) (take_all (edge (length xs) n c.loop-s.s-index) xs (omega (arith, ap (edge (length xs) n) last, edge_last (length xs) n h)));
    }
