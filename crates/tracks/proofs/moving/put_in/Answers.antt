use Rattle.std.proofs.Common.{◌∙◌, arith}
use Rattle.std.proofs.lemmas.Result.{err_from_is_err_and}
use Rattle.edits.proofs.Roots.{lent_live, lent_short, lent_less}
use Rattle.tracks.proofs.Ranges.{unmoved, beyond, no_clip, too_much, put_few, put_short, new_room, new_owned, new_few, new_back, puts_in}
use Rattle.tracks.proofs.moving.put_in.Goals as goal

pub extent_at-end-requires : goal.extent_at-end-requires
extent_at-end-requires g c = record { sound = c.requires.owns.arena.sound; live = lent_live c.requires.owns }

pub returns-then-place-end-clause-puts : goal.returns-then-place-end-clause-puts
returns-then-place-end-clause-puts g c = record {
  because = beyond c.requires.owns c.args.place c.extent_at-end.ensures (omega arith);
  each = unmoved (g.K.Kind.meaning c.args.store.now.kind.now) c.args.store.now.cells.now c.args.store.now.pool;
}

pub returns-then-more-eq0-clause-puts : goal.returns-then-more-eq0-clause-puts
returns-then-more-eq0-clause-puts g c = record {
  because = no_clip c.requires.owns c.args.place c.extent_at-end.ensures (omega arith) c.count_at-more.ensures (omega arith);
  each = unmoved (g.K.Kind.meaning c.args.store.now.kind.now) c.args.store.now.cells.now c.args.store.now.pool;
}

pub extent_at-requires : goal.extent_at-requires
extent_at-requires g c = record { sound = c.requires.owns.arena.sound; live = lent_live (lent_less c.requires.owns) }

pub overflow_add-extent : goal.overflow_add-extent
overflow_add-extent g c = record { fits = omega (arith, c.extent_at-end.ensures, c.extent_at.ensures, lent_short c.requires.owns, lent_short (lent_less c.requires.owns)) }

pub returns-in_err-room-clause-puts : goal.returns-in_err-room-clause-puts
returns-in_err-room-clause-puts g c =
    let p = err_from_is_err_and c.from_residual.result c.from_residual.ensures.1 in
    rw (p.1, p.2) (record {
      because = too_much c.requires.owns c.args.place c.extent_at-end.ensures (omega arith) c.count_at-more.ensures (λ z. omega arith) c.extent_at.ensures c.count_at.ensures c.saturating_add-elements.ensures c.in_err-room.ensures;
      each = unmoved (g.K.Kind.meaning c.args.store.now.kind.now) c.args.store.now.cells.now c.args.store.now.pool;
    })

pub put-r-requires-clause-few : goal.put-r-requires-clause-few
put-r-requires-clause-few g c = put_few c.requires.owns c.args.place c.extent_at-end.ensures (omega arith) c.count_at-more.ensures (λ z. omega arith) c.extent_at.ensures c.count_at.ensures c.saturating_add-elements.ensures c.in_ok-room.ensures

pub put-r-requires-clause-short : goal.put-r-requires-clause-short
put-r-requires-clause-short g c = put_short c.requires.owns c.args.place c.extent_at-end.ensures (omega arith) c.count_at-more.ensures (λ z. omega arith) c.extent_at.ensures c.count_at.ensures c.saturating_add-elements.ensures c.in_ok-room.ensures

pub release-requires : goal.release-requires
release-requires g c = record { owned = rw c.put-r.ensures.same.kind (new_owned c.requires.owns c.args.place c.extent_at-end.ensures (omega arith) c.count_at-more.ensures (λ z. omega arith) c.extent_at.ensures c.count_at.ensures c.saturating_add-elements.ensures c.in_ok-room.ensures c.put-r.ensures.makes); few = new_few c.requires.owns c.args.place c.extent_at-end.ensures (omega arith) c.count_at-more.ensures (λ z. omega arith) c.extent_at.ensures c.count_at.ensures c.saturating_add-elements.ensures c.in_ok-room.ensures c.put-r.ensures.makes }

pub returns-in-Err-clause-puts : goal.returns-in-Err-clause-puts
returns-in-Err-clause-puts g c = record {
  because = new_room c.requires.owns c.args.place c.extent_at-end.ensures (omega arith) c.count_at-more.ensures (λ z. omega arith) c.extent_at.ensures c.count_at.ensures c.saturating_add-elements.ensures c.in_ok-room.ensures c.put-r.ensures.makes c.count_at-2.ensures ∙ c.in-Err.ensures;
  each = new_back c.requires.owns c.args.place c.extent_at-end.ensures (omega arith) c.count_at-more.ensures (λ z. omega arith) c.extent_at.ensures c.count_at.ensures c.saturating_add-elements.ensures c.in_ok-room.ensures c.put-r.ensures.makes c.release.new.self.cells.now c.release.new.self.pool (rw c.put-r.ensures.same.kind at c.release.ensures.releases);
}

pub returns-clause-puts : goal.returns-clause-puts
returns-clause-puts g c = puts_in c.requires.owns c.args.place c.extent_at-end.ensures (omega arith) c.count_at-more.ensures (λ z. omega arith) c.extent_at.ensures c.count_at.ensures c.saturating_add-elements.ensures c.in_ok-room.ensures c.put-r.ensures.makes c.count_at-2.ensures c.in_default.ensures
