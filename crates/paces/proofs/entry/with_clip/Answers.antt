use Rattle.std.proofs.Common.{◌/◌, ◌∙◌}
use Rattle.edits.proofs.Roots.{lent_live}
use Rattle.paces.proofs.Onces.{clip_owns, clip_few, clip_some, clip_owned, clip_light, clip_rests}
use Rattle.paces.proofs.entry.with_clip.Goals as goal

pub extent_at-end-requires : goal.extent_at-end-requires
extent_at-end-requires g c = record { sound = c.requires.owns.arena.sound; live = lent_live c.requires.owns }

pub puts_with-sum-requires : goal.puts_with-sum-requires
puts_with-sum-requires g c =
    let clip = c.copy-clip.ensures in
    record {
      owns = rw clip.same.kind (clip_owns (c.extent_at-end.result / 100) c.requires.owns c.requires.few c.requires.some clip.makes);
      few = clip_few (c.extent_at-end.result / 100) c.requires.owns c.requires.few c.requires.some clip.makes;
      some = clip_some (c.extent_at-end.result / 100) c.requires.owns c.requires.few c.requires.some clip.makes;
    }

pub release-requires : goal.release-requires
release-requires g c =
    let clip = c.copy-clip.ensures in
    let rests = rw clip.same.kind at c.puts_with-sum.ensures.rests in
    record {
      owned = rw (c.puts_with-sum.ensures.same.kind ∙ clip.same.kind) (clip_owned (c.extent_at-end.result / 100) c.requires.owns c.requires.few c.requires.some clip.makes rests);
      few = clip_light (c.extent_at-end.result / 100) c.requires.owns c.requires.few c.requires.some clip.makes rests;
    }

pub returns-clause-rests : goal.returns-clause-rests
returns-clause-rests g c =
    let clip = c.copy-clip.ensures in
    let puts = c.puts_with-sum.ensures in
    let rests = rw clip.same.kind at puts.rests in
    let released = rw (puts.same.kind ∙ clip.same.kind) at c.release.ensures.releases in
    let long = c.release.ensures.same.size ∙ puts.same.size ∙ clip.same.size in
    clip_rests (c.extent_at-end.result / 100) c.requires.owns c.requires.few c.requires.some clip.makes rests c.release.new.self.cells.now c.release.new.self.pool released long
