use Rattle.std.proofs.Common.{◌∙◌}
use Rattle.edits.proofs.Roots.{lent_live, lent_count}
use Rattle.tracks.proofs.rearranging.version_of.Goals as goal

pub extent_at-requires : goal.extent_at-requires
extent_at-requires g c = record { sound = c.requires.arena.sound; live = lent_live c.requires }

pub returns-clause-tells : goal.returns-clause-tells
returns-clause-tells g c = record { elements = c.count_at.ensures ∙ lent_count c.requires; extent = c.extent_at.ensures }
