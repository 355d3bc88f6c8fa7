use Rattle.std.proofs.Common.{◌+◌, arith}
use Rattle.profile.specs.Columns.{edge}
use Rattle.profile.proofs.Edges.{edge_rises}
use Rattle.profile.proofs.Values.{value_more}
use Rattle.profile.proofs.columns.in_columns.Goals as goal

pub stretch-requires : goal.stretch-requires
stretch-requires g c =
    c.requires c.loop-i.from c.edge_of-to.result (omega (arith, c.loop-i.invariant.0, c.edge_of-to.ensures.place, edge_rises c.args.extent c.args.n c.loop-i.i (omega arith))) c.edge_of-to.ensures.inside

pub loop-i-preserved : goal.loop-i-preserved
loop-i-preserved g c =
    let Gives = λ (i : _) (s : _). goal.F-post g c.args.stretch (edge c.args.extent c.args.n i) (edge c.args.extent c.args.n (i + 1)) s in
    let this = rw (c.loop-i.invariant.0, c.edge_of-to.ensures.place) at c.stretch.ensures in
    let told = value_more Gives c.loop-i.i c.loop-i.columns.items c.stretch.result c.loop-i.invariant.1 this in
    (c.edge_of-to.ensures.place, rw c.in_ok-push.ensures.items told)
