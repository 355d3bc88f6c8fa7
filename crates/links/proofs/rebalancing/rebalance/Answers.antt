use Rattle.std.proofs.Common.{◌∷◌, arith}
use Rattle.cells.specs.Lent.{same_loan_trans}
use Rattle.links.proofs.Turns.{left_fits, right_fits, even_fits, yields_even, heavy_inside, parts_hold, turned_sits, turn_arena, turn_few, yields_heavy}
use Rattle.links.proofs.rebalancing.rebalance.Goals as goal

pub overflow_add-heavy : goal.overflow_add-heavy
overflow_add-heavy g c = let fits = left_fits c.args.flip c.args.item c.requires.holds c.requires.sits in omega (arith, c.count_at-heavy.ensures)

pub overflow_add-light : goal.overflow_add-light
overflow_add-light g c = let fits = right_fits c.args.flip c.args.item c.requires.holds c.requires.sits in omega (arith, c.count_at-light.ensures)

pub make_facing-requires-clause-fits : goal.make_facing-requires-clause-fits
make_facing-requires-clause-fits g c = even_fits c.args.flip c.args.item c.requires.holds c.requires.sits c.count_at-heavy.ensures c.count_at-light.ensures c.outweighs.ensures c.if-not-outweighs.true c.requires.whole

pub returns-then-not-outweighs-clause-yields : goal.returns-then-not-outweighs-clause-yields
returns-then-not-outweighs-clause-yields g c =
    yields_even c.args.flip c.args.item c.requires.holds c.requires.sits c.count_at-heavy.ensures c.count_at-light.ensures c.outweighs.ensures c.if-not-outweighs.true c.make_facing.ensures.yields

pub open-parts-requires-clause-inside : goal.open-parts-requires-clause-inside
open-parts-requires-clause-inside g c = heavy_inside c.args.flip c.args.item c.requires.holds c.requires.sits c.count_at-heavy.ensures c.count_at-light.ensures c.outweighs.ensures c.if-not-outweighs.false

pub rotate-top-requires : goal.rotate-top-requires
rotate-top-requires g c = rw (c.open-parts.ensures.same.kind, c.open-parts.ensures.pool) (record {
  holds = parts_hold c.args.flip c.args.item c.requires.holds c.requires.sits c.count_at-heavy.ensures c.count_at-light.ensures c.outweighs.ensures c.if-not-outweighs.false c.open-parts.ensures.opens;
  sits = turned_sits c.args.flip c.args.item c.requires.holds c.requires.sits c.count_at-heavy.ensures c.count_at-light.ensures c.outweighs.ensures c.if-not-outweighs.false c.open-parts.ensures.opens;
  whole = (c.open-parts.ensures.opens.whole, c.requires.whole);
  some = c.requires.some;
})

pub release-requires : goal.release-requires
release-requires g c =
    let turned = rw (c.open-parts.ensures.same.kind, c.open-parts.ensures.pool) at c.rotate-top.ensures.yields in
    let same = same_loan_trans c.open-parts.ensures.same c.rotate-top.ensures.same in
    rw same.kind (record {
      owned = (
        c.rotate-top.result ∷ c.requires.holds.rest,
        turn_arena c.args.flip c.args.item c.requires.holds c.requires.sits c.count_at-heavy.ensures c.count_at-light.ensures c.outweighs.ensures c.if-not-outweighs.false c.open-parts.ensures.opens turned,
      );
      few = turn_few c.args.flip c.args.item c.requires.holds c.requires.sits c.count_at-heavy.ensures c.count_at-light.ensures c.outweighs.ensures c.if-not-outweighs.false c.open-parts.ensures.opens turned;
    })

pub returns-clause-yields : goal.returns-clause-yields
returns-clause-yields g c =
    let turned = rw (c.open-parts.ensures.same.kind, c.open-parts.ensures.pool) at c.rotate-top.ensures.yields in
    let same = same_loan_trans c.open-parts.ensures.same c.rotate-top.ensures.same in
    yields_heavy c.args.flip c.args.item c.requires.holds c.requires.sits c.count_at-heavy.ensures c.count_at-light.ensures c.outweighs.ensures c.if-not-outweighs.false c.open-parts.ensures.opens turned (rw same.kind at c.release.ensures.releases)
