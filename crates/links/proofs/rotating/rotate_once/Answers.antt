use Rattle.std.proofs.Common.{◌∷◌, arith}
use Rattle.links.proofs.Rotations.{low_first, low_arena, top_fits, rotated_once}
use Rattle.links.proofs.rotating.rotate_once.Goals as goal

pub make_facing-low-requires-clause-owned : goal.make_facing-low-requires-clause-owned
make_facing-low-requires-clause-owned g c = (c.args.parts.near ∷ c.requires.owned.0, low_first c.args.flip c.args.parts.item c.args.item c.requires.owned.1)

pub make_facing-requires : goal.make_facing-requires
make_facing-requires g c = rw c.make_facing-low.ensures.same.kind (record {
  owned = (c.requires.owned.0, low_arena c.args.flip c.args.parts.item c.args.item c.requires.owned.1 c.make_facing-low.ensures.yields);
  fits = top_fits c.args.flip c.args.parts.item c.args.item c.requires.owned.1 c.make_facing-low.ensures.yields c.requires.sits c.requires.whole.0;
  some = omega (arith, c.requires.some, c.make_facing-low.ensures.taken);
})

pub returns-clause-yields : goal.returns-clause-yields
returns-clause-yields g c =
    rotated_once c.args.flip c.args.parts.item c.args.item c.requires.owned.1 c.make_facing-low.ensures.yields (rw c.make_facing-low.ensures.same.kind at c.make_facing.ensures.yields)
