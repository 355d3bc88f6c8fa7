use Rattle.std.proofs.Common.{arith}
use Rattle.edits.proofs.Roots.{lent_live, lent_count}
use Rattle.paces.proofs.entry.worked.Goals as goal

pub extent_at-requires : goal.extent_at-requires
extent_at-requires g c = record { sound = c.requires.owns.arena.sound; live = lent_live c.requires.owns }

pub reads-requires : goal.reads-requires
reads-requires g c = record {
  sound = c.requires.owns.arena.sound;
  live = lent_live c.requires.owns;
  few = omega (arith, c.requires.few, lent_count c.requires.owns);
}

pub overviews-requires : goal.overviews-requires
overviews-requires g c = record { sound = c.requires.owns.arena.sound; live = lent_live c.requires.owns }
