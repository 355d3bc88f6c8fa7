use Rattle.std.proofs.Common.{◌∙◌, arith}
use Rattle.edits.specs.Edits.{list}
use Rattle.edits.proofs.Roots.{lent_live}
use Rattle.tracks.proofs.Ranges.{taken_empty, past_end, unmoved, left_room, left_owned, left_few, taken_owned, taken_few, both_back}
use Rattle.tracks.proofs.moving.take_out.Goals as goal

pub returns-then-len-eq0-clause-takes : goal.returns-then-len-eq0-clause-takes
returns-then-len-eq0-clause-takes g c = record {
  because = taken_empty (g.K.Kind.meaning c.args.store.now.kind.now) (list c.args.store.now.cells.now c.args.root) c.args.store.now.pool.free c.args.from c.args.len (omega arith);
  each = unmoved (g.K.Kind.meaning c.args.store.now.kind.now) c.args.store.now.cells.now c.args.store.now.pool;
}

pub extent_at-requires : goal.extent_at-requires
extent_at-requires g c = record { sound = c.requires.owns.arena.sound; live = lent_live c.requires.owns }

pub returns-then-from-len-clause-takes : goal.returns-then-from-len-clause-takes
returns-then-from-len-clause-takes g c = record {
  because = past_end c.requires.owns c.requires.few c.args.from c.args.len (λ z. omega arith) c.extent_at.ensures (omega arith);
  each = unmoved (g.K.Kind.meaning c.args.store.now.kind.now) c.args.store.now.cells.now c.args.store.now.pool;
}

pub release-requires : goal.release-requires
release-requires g c = record { owned = rw c.cut-r.ensures.same.kind (left_owned c.requires.owns c.requires.few c.args.from c.args.len (λ z. omega arith) c.extent_at.ensures (omega arith) c.cut-r.ensures.cuts); few = left_few c.requires.owns c.requires.few c.args.from c.args.len (λ z. omega arith) c.extent_at.ensures (omega arith) c.cut-r.ensures.cuts }

pub release-requires-in-Err : goal.release-requires-in-Err
release-requires-in-Err g c = record {
  owned = rw (c.release.ensures.same.kind ∙ c.cut-r.ensures.same.kind) (taken_owned c.requires.owns c.requires.few c.args.from c.args.len (λ z. omega arith) c.extent_at.ensures (omega arith) c.cut-r.ensures.cuts c.release.new.self.cells.now c.release.new.self.pool (rw c.cut-r.ensures.same.kind at c.release.ensures.releases));
  few = taken_few c.requires.owns c.requires.few c.args.from c.args.len (λ z. omega arith) c.extent_at.ensures (omega arith) c.cut-r.ensures.cuts c.release.new.self.cells.now c.release.new.self.pool (rw c.cut-r.ensures.same.kind at c.release.ensures.releases);
}

pub returns-in-Err-clause-takes : goal.returns-in-Err-clause-takes
returns-in-Err-clause-takes g c = record {
  because = left_room c.requires.owns c.requires.few c.args.from c.args.len (λ z. omega arith) c.extent_at.ensures (omega arith) c.cut-r.ensures.cuts c.count_at.ensures ∙ c.in-Err.ensures;
  each = both_back c.requires.owns c.requires.few c.args.from c.args.len (λ z. omega arith) c.extent_at.ensures (omega arith) c.cut-r.ensures.cuts c.release.new.self.cells.now c.release.new.self.pool (rw c.cut-r.ensures.same.kind at c.release.ensures.releases) c.release-in-Err.new.self.cells.now c.release-in-Err.new.self.pool (rw (c.release.ensures.same.kind ∙ c.cut-r.ensures.same.kind) at c.release-in-Err.ensures.releases);
}

pub returns-clause-takes : goal.returns-clause-takes
returns-clause-takes g c = record {
  accepted = left_room c.requires.owns c.requires.few c.args.from c.args.len (λ z. omega arith) c.extent_at.ensures (omega arith) c.cut-r.ensures.cuts c.count_at.ensures ∙ c.in_default.ensures;
  each = c.cut-r.ensures.cuts.each;
  left = c.cut-r.ensures.cuts.left;
  range = c.cut-r.ensures.cuts.range;
}
