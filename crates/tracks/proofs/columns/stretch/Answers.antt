use Rattle.std.proofs.Common.{arith}
use Rattle.edits.proofs.Roots.{lent_live, wide}
use Rattle.tracks.proofs.columns.stretch.Goals as goal

pub new-requires : goal.new-requires
new-requires g c = record { sound = c.requires.owns.arena.sound; live = lent_live c.requires.owns }

pub overview-requires-clause-within : goal.overview-requires-clause-within
overview-requires-clause-within g c = rw c.new.ensures (omega (arith, c.requires.inside, wide (g.K.Kind.meaning c.args.kind.now) c.args.cells.now c.args.root))
