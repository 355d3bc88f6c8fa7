use Rattle.std.proofs.Common.{arith}
use Rattle.edits.proofs.Roots.{lent_live, lent_count, lent_short, lent_less}
use Rattle.paces.proofs.entry.puts_with.Goals as goal

pub overflow_add-elements : goal.overflow_add-elements
overflow_add-elements g c = omega (arith, c.requires.few, c.count_at.ensures, c.count_at-2.ensures, lent_count c.requires.owns, lent_count (lent_less c.requires.owns))

pub extent_at-requires : goal.extent_at-requires
extent_at-requires g c = record { sound = c.requires.owns.arena.sound; live = lent_live c.requires.owns }

pub extent_at-requires-2 : goal.extent_at-requires-2
extent_at-requires-2 g c = record { sound = c.requires.owns.arena.sound; live = lent_live (lent_less c.requires.owns) }

pub overflow_add-extent : goal.overflow_add-extent
overflow_add-extent g c = omega (arith, c.extent_at.ensures, c.extent_at-2.ensures, lent_short c.requires.owns, lent_short (lent_less c.requires.owns))

pub puts-requires : goal.puts-requires
puts-requires g c = record {
  owns = c.requires.owns;
  few = omega (arith, c.if-elements-gt-MOST_ELEMENTS.false, c.count_at.ensures, c.count_at-2.ensures, lent_count c.requires.owns, lent_count (lent_less c.requires.owns));
  short = omega (arith, c.if-extent-gt-LIMIT.false, c.extent_at.ensures, c.extent_at-2.ensures);
  some = c.requires.some;
}
