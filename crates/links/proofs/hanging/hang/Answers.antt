use Rattle.std.proofs.Common.{◌∷◌, arith}
use Rattle.cells.specs.Lent.{same_loan_trans}
use Rattle.links.proofs.Hangs.{x_few, y_few, deep, foot_live, arena_b, fits_b, holds_c, tabled_c, climbs_c, some_c, arena_d, few_d, hangs}
use Rattle.links.proofs.hanging.hang.Goals as goal

pub sink-foot-requires-clause-few : goal.sink-foot-requires-clause-few
sink-foot-requires-clause-few g c = (
  x_few c.args.flip c.args.item c.requires.holds c.requires.linkable c.requires.heavy,
  y_few c.args.flip c.args.item c.requires.holds c.requires.linkable c.requires.heavy,
)

pub sink-foot-requires-clause-deep : goal.sink-foot-requires-clause-deep
sink-foot-requires-clause-deep g c = deep c.args.flip c.args.item c.requires.holds c.requires.linkable c.requires.heavy

pub retain-requires-clause-live : goal.retain-requires-clause-live
retain-requires-clause-live g c = foot_live c.args.flip c.args.item c.requires.holds c.requires.linkable c.requires.heavy c.sink-foot.ensures

pub make_facing-low-requires : goal.make_facing-low-requires
make_facing-low-requires g c = rw (c.retain.ensures.same.kind, c.retain.ensures.pool) (record {
  owned = (c.args.right ∷ c.requires.holds.rest, arena_b c.args.flip c.args.item c.requires.holds c.requires.linkable c.requires.heavy c.sink-foot.ensures c.retain.ensures.retains);
  fits = fits_b c.args.flip c.args.item c.requires.holds c.requires.linkable c.requires.heavy c.sink-foot.ensures c.retain.ensures.retains c.requires.whole;
  some = omega (arith, c.requires.some);
})

pub climb-r-requires : goal.climb-r-requires
climb-r-requires g c =
    let made = rw (c.retain.ensures.same.kind, c.retain.ensures.pool) at c.make_facing-low.ensures.yields in
    let same = same_loan_trans c.retain.ensures.same c.make_facing-low.ensures.same in
    rw same.kind (record {
      holds = holds_c c.args.flip c.args.item c.requires.holds c.requires.linkable c.requires.heavy c.sink-foot.ensures c.retain.ensures.retains made;
      tabled = tabled_c c.args.flip c.args.item c.requires.holds c.requires.linkable c.requires.heavy c.sink-foot.ensures c.retain.ensures.retains made;
      climbs = climbs_c c.args.flip c.args.item c.requires.holds c.requires.linkable c.requires.heavy c.sink-foot.ensures c.retain.ensures.retains made;
      some = some_c c.args.flip c.args.item c.requires.holds c.requires.linkable c.requires.heavy c.sink-foot.ensures c.retain.ensures.retains made c.requires.some;
    })

pub release-requires : goal.release-requires
release-requires g c =
    let made = rw (c.retain.ensures.same.kind, c.retain.ensures.pool) at c.make_facing-low.ensures.yields in
    let made_same = same_loan_trans c.retain.ensures.same c.make_facing-low.ensures.same in
    let climbed = rw made_same.kind at c.climb-r.ensures.raises in
    let same = same_loan_trans made_same c.climb-r.ensures.same in
    rw same.kind (record {
      owned = (
        c.climb-r.result ∷ c.requires.holds.rest,
        arena_d c.args.flip c.args.item c.requires.holds c.requires.linkable c.requires.heavy c.sink-foot.ensures c.retain.ensures.retains made climbed,
      );
      few = few_d c.args.flip c.args.item c.requires.holds c.requires.linkable c.requires.heavy c.sink-foot.ensures c.retain.ensures.retains made climbed;
    })

pub returns-clause-yields : goal.returns-clause-yields
returns-clause-yields g c =
    let made = rw (c.retain.ensures.same.kind, c.retain.ensures.pool) at c.make_facing-low.ensures.yields in
    let made_same = same_loan_trans c.retain.ensures.same c.make_facing-low.ensures.same in
    let climbed = rw made_same.kind at c.climb-r.ensures.raises in
    let same = same_loan_trans made_same c.climb-r.ensures.same in
    hangs c.args.flip c.args.item c.requires.holds c.requires.linkable c.requires.heavy c.sink-foot.ensures c.retain.ensures.retains made climbed (rw same.kind at c.release.ensures.releases)
