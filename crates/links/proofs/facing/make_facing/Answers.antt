use Rattle.links.proofs.Sides.{fits_flipped, makes_flipped, makes_plain}
use Rattle.links.proofs.facing.make_facing.Goals as goal

pub make-requires-clause-fits : goal.make-requires-clause-fits
make-requires-clause-fits g c = fits_flipped c.args.store.now.cells.now c.args.left c.args.right c.if-flip.true c.requires.fits

pub returns-then-flip-clause-yields : goal.returns-then-flip-clause-yields
returns-then-flip-clause-yields g c = makes_flipped c.if-flip.true c.make.ensures.yields

pub returns-clause-yields : goal.returns-clause-yields
returns-clause-yields g c = makes_plain c.if-flip.false c.make-2.ensures.yields
