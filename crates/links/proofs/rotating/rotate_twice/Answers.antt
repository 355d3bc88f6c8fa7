use Rattle.std.proofs.Common.{◌∷◌, arith}
use Rattle.cells.specs.Lent.{same_loan_trans}
use Rattle.links.proofs.Twice.{far_holds, far_inside, arena_1, fits_1, arena_2, fits_2, arena_3, fits_3, arena_4, few_4, rotated_twice_lem}
use Rattle.links.proofs.rotating.rotate_twice.Goals as goal

pub open-inner-requires : goal.open-inner-requires
open-inner-requires g c = record {
  holds = (c.args.store.now.pool, far_holds c.args.flip c.args.parts.item c.args.item c.requires.holds);
  inside = far_inside c.args.flip c.args.parts.item c.args.item c.requires.holds c.requires.inner;
}

pub make_facing-first-requires : goal.make_facing-first-requires
make_facing-first-requires g c = rw (c.open-inner.ensures.same.kind, c.open-inner.ensures.pool) (record {
  owned = (c.args.parts.far ∷ c.args.right ∷ c.open-inner.result.far ∷ c.requires.holds.rest, arena_1 c.args.flip c.args.parts.item c.args.item c.requires.holds c.requires.sits c.open-inner.ensures.opens);
  fits = fits_1 c.args.flip c.args.parts.item c.args.item c.requires.holds c.requires.sits c.open-inner.ensures.opens c.requires.whole.0;
  some = omega (arith, c.requires.some);
})

pub make_facing-second-requires : goal.make_facing-second-requires
make_facing-second-requires g c =
    let one = rw (c.open-inner.ensures.same.kind, c.open-inner.ensures.pool) at c.make_facing-first.ensures.yields in
    let same = same_loan_trans c.open-inner.ensures.same c.make_facing-first.ensures.same in
    rw same.kind (record {
      owned = (
        c.make_facing-first.result ∷ c.args.parts.far ∷ c.requires.holds.rest,
        arena_2 c.args.flip c.args.parts.item c.args.item c.requires.holds c.requires.sits c.open-inner.ensures.opens one,
      );
      fits = fits_2 c.args.flip c.args.parts.item c.args.item c.requires.holds c.requires.sits c.open-inner.ensures.opens one c.requires.whole.1;
      some = omega (arith, c.requires.some, rw c.open-inner.ensures.pool at c.make_facing-first.ensures.taken);
    })

pub make_facing-top-requires : goal.make_facing-top-requires
make_facing-top-requires g c =
    let one = rw (c.open-inner.ensures.same.kind, c.open-inner.ensures.pool) at c.make_facing-first.ensures.yields in
    let one_same = same_loan_trans c.open-inner.ensures.same c.make_facing-first.ensures.same in
    let two = rw one_same.kind at c.make_facing-second.ensures.yields in
    let same = same_loan_trans one_same c.make_facing-second.ensures.same in
    rw same.kind (record {
      owned = (
        c.args.parts.far ∷ c.requires.holds.rest,
        arena_3 c.args.flip c.args.parts.item c.args.item c.requires.holds c.requires.sits c.open-inner.ensures.opens one two,
      );
      fits = fits_3 c.args.flip c.args.parts.item c.args.item c.requires.holds c.requires.sits c.open-inner.ensures.opens one two;
      some = omega (arith, c.requires.some, rw c.open-inner.ensures.pool at c.make_facing-first.ensures.taken, c.make_facing-second.ensures.taken);
    })

pub release-requires : goal.release-requires
release-requires g c =
    let one = rw (c.open-inner.ensures.same.kind, c.open-inner.ensures.pool) at c.make_facing-first.ensures.yields in
    let one_same = same_loan_trans c.open-inner.ensures.same c.make_facing-first.ensures.same in
    let two = rw one_same.kind at c.make_facing-second.ensures.yields in
    let two_same = same_loan_trans one_same c.make_facing-second.ensures.same in
    let three = rw two_same.kind at c.make_facing-top.ensures.yields in
    let same = same_loan_trans two_same c.make_facing-top.ensures.same in
    rw same.kind (record {
      owned = (
        c.make_facing-top.result ∷ c.requires.holds.rest,
        arena_4 c.args.flip c.args.parts.item c.args.item c.requires.holds c.requires.sits c.open-inner.ensures.opens one two three,
      );
      few = few_4 c.args.flip c.args.parts.item c.args.item c.requires.holds c.requires.sits c.open-inner.ensures.opens one two three;
    })

pub returns-clause-yields : goal.returns-clause-yields
returns-clause-yields g c =
    let one = rw (c.open-inner.ensures.same.kind, c.open-inner.ensures.pool) at c.make_facing-first.ensures.yields in
    let one_same = same_loan_trans c.open-inner.ensures.same c.make_facing-first.ensures.same in
    let two = rw one_same.kind at c.make_facing-second.ensures.yields in
    let two_same = same_loan_trans one_same c.make_facing-second.ensures.same in
    let three = rw two_same.kind at c.make_facing-top.ensures.yields in
    let same = same_loan_trans two_same c.make_facing-top.ensures.same in
    rotated_twice_lem c.args.flip c.args.parts.item c.args.item c.requires.holds c.requires.sits c.open-inner.ensures.opens one two three (rw same.kind at c.release.ensures.releases)
