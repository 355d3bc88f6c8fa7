use Rattle.std.proofs.Common.{◌∙◌}
use Rattle.tracks.proofs.Versions.{held_owned, held_few, held_less}
use Rattle.tracks.proofs.rearranging.let_go.Goals as goal

pub release-requires : goal.release-requires
release-requires g c = record { owned = held_owned c.requires; few = held_few c.requires }

pub release-requires-2 : goal.release-requires-2
release-requires-2 g c =
    let h = held_less c.requires c.release.new.self.cells.now c.release.new.self.pool c.release.ensures.releases in
    record { owned = rw c.release.ensures.same.kind (held_owned h); few = held_few h }

pub release-requires-3 : goal.release-requires-3
release-requires-3 g c =
    let kind = c.release.ensures.same.kind in
    let h = held_less c.requires c.release.new.self.cells.now c.release.new.self.pool c.release.ensures.releases in
    let i = held_less h c.release-2.new.self.cells.now c.release-2.new.self.pool (rw kind at c.release-2.ensures.releases) in
    record { owned = rw (c.release-2.ensures.same.kind ∙ kind) (held_owned i); few = held_few i }

pub release-requires-4 : goal.release-requires-4
release-requires-4 g c =
    let kind = c.release.ensures.same.kind in
    let kind_2 = c.release-2.ensures.same.kind ∙ kind in
    let h = held_less c.requires c.release.new.self.cells.now c.release.new.self.pool c.release.ensures.releases in
    let i = held_less h c.release-2.new.self.cells.now c.release-2.new.self.pool (rw kind at c.release-2.ensures.releases) in
    let j = held_less i c.release-3.new.self.cells.now c.release-3.new.self.pool (rw kind_2 at c.release-3.ensures.releases) in
    record { owned = rw (c.release-3.ensures.same.kind ∙ kind_2) (held_owned j); few = held_few j }

pub returns-clause-arena : goal.returns-clause-arena
returns-clause-arena g c =
    let kind = c.release.ensures.same.kind in
    let kind_2 = c.release-2.ensures.same.kind ∙ kind in
    let kind_3 = c.release-3.ensures.same.kind ∙ kind_2 in
    let h = held_less c.requires c.release.new.self.cells.now c.release.new.self.pool c.release.ensures.releases in
    let i = held_less h c.release-2.new.self.cells.now c.release-2.new.self.pool (rw kind at c.release-2.ensures.releases) in
    let j = held_less i c.release-3.new.self.cells.now c.release-3.new.self.pool (rw kind_2 at c.release-3.ensures.releases) in
    (held_less j c.release-4.new.self.cells.now c.release-4.new.self.pool (rw kind_3 at c.release-4.ensures.releases)).arena
