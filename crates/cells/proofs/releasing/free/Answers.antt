use Rattle.std.proofs.Common.{refl}
use Rattle.cells.proofs.Lost.{none_lost}
use Rattle.cells.proofs.releasing.free.Goals as goal

pub returns : goal.returns
returns g c = (refl, λ rs arena. none_lost (g.K.Kind.meaning c.args.kind.now) c.args.cells.now c.args.pool.now rs arena)
