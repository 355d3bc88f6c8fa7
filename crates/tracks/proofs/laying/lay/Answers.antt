use Rattle.std.proofs.Common.{sym, refl, ◌∙◌, arith, rules}
use Rattle.std.proofs.lemmas.Result.{err_from_is_err_and}
use Rattle.kinds.specs.Kinds.{Lawful, of_numbers}
use Rattle.edits.specs.Edits.{list}
use Rattle.edits.proofs.Roots.{top_live, top_count, top_short}
use Rattle.tracks.proofs.Pieces.{not_made, laid_room, fewer, shorter, old_owned, old_few, lays}
use Rattle.tracks.proofs.laying.lay.Goals as goal

pub returns-in_err-element-clause-lays : goal.returns-in_err-element-clause-lays
returns-in_err-element-clause-lays g c =
    let p = err_from_is_err_and c.from_residual.result c.from_residual.ensures.1 in
    rw (p.1, p.2) (record {
      because = not_made (g.K.Kind.meaning c.args.store.now.kind.now) (list c.args.store.now.cells.now c.args.root) c.args.store.now.pool.free c.args.piece c.in_err-element.field-0.0 c.in_err-element.ensures;
      same_cells = refl;
      same_pool = refl;
    })

pub extent_at-end-requires : goal.extent_at-end-requires
extent_at-end-requires g c = record { sound = c.requires.owns.arena.sound; live = top_live c.requires.owns.arena }

pub overflow_add-extent : goal.overflow_add-extent
overflow_add-extent g c =
    let lawful : Lawful (g.K.Kind.meaning c.args.store.now.kind.now) c.in_ok-element.element = of_numbers c.args.piece.first c.args.piece.second c.in_ok-element.element (search rules) (search rules) (sym c.in_ok-element.ensures) in
    record { fits = omega (arith, c.extent.ensures lawful, (g.K.Kind.laws c.args.store.now.kind.now).few c.in_ok-element.element lawful, c.extent_at-end.ensures, top_short c.requires.owns.arena) }

pub overflow_add-elements : goal.overflow_add-elements
overflow_add-elements g c = record { fits = omega (arith, c.count_at-elements.ensures, top_count c.requires.owns.arena, c.requires.few) }

pub returns-in_err-room-clause-lays : goal.returns-in_err-room-clause-lays
returns-in_err-room-clause-lays g c =
    let lawful : Lawful (g.K.Kind.meaning c.args.store.now.kind.now) c.in_ok-element.element = of_numbers c.args.piece.first c.args.piece.second c.in_ok-element.element (search rules) (search rules) (sym c.in_ok-element.ensures) in
    let p = err_from_is_err_and c.from_residual-in_err-room.result c.from_residual-in_err-room.ensures.1 in
    rw (p.1, p.2) (record { because = laid_room c.requires.owns.arena c.requires.few c.args.piece c.in_ok-element.ensures c.extent_at-end.ensures (c.extent.ensures lawful) c.count_at-elements.ensures ∙ c.in_err-room.ensures; same_cells = refl; same_pool = refl })

pub insert-r-requires-clause-lawful : goal.insert-r-requires-clause-lawful
insert-r-requires-clause-lawful g c = of_numbers c.args.piece.first c.args.piece.second c.in_ok-element.element (search rules) (search rules) (sym c.in_ok-element.ensures)

pub insert-r-requires-clause-few : goal.insert-r-requires-clause-few
insert-r-requires-clause-few g c =
    let lawful : Lawful (g.K.Kind.meaning c.args.store.now.kind.now) c.in_ok-element.element = of_numbers c.args.piece.first c.args.piece.second c.in_ok-element.element (search rules) (search rules) (sym c.in_ok-element.ensures) in
    fewer c.requires.owns.arena c.requires.few c.args.piece c.in_ok-element.ensures c.extent_at-end.ensures (c.extent.ensures lawful) c.count_at-elements.ensures c.in_ok-room.ensures

pub insert-r-requires-clause-short : goal.insert-r-requires-clause-short
insert-r-requires-clause-short g c =
    let lawful : Lawful (g.K.Kind.meaning c.args.store.now.kind.now) c.in_ok-element.element = of_numbers c.args.piece.first c.args.piece.second c.in_ok-element.element (search rules) (search rules) (sym c.in_ok-element.ensures) in
    shorter c.requires.owns.arena c.requires.few c.args.piece c.in_ok-element.ensures c.extent_at-end.ensures (c.extent.ensures lawful) c.count_at-elements.ensures c.in_ok-room.ensures

pub release-requires : goal.release-requires
release-requires g c =
    let lawful : Lawful (g.K.Kind.meaning c.args.store.now.kind.now) c.in_ok-element.element = of_numbers c.args.piece.first c.args.piece.second c.in_ok-element.element (search rules) (search rules) (sym c.in_ok-element.ensures) in
    record { owned = rw c.insert-r.ensures.same.kind (old_owned c.requires.owns.arena c.requires.few c.args.piece c.in_ok-element.ensures c.extent_at-end.ensures (c.extent.ensures lawful) c.count_at-elements.ensures c.in_ok-room.ensures c.insert-r.ensures.makes); few = old_few c.requires.owns.arena c.requires.few c.args.piece c.in_ok-element.ensures c.extent_at-end.ensures (c.extent.ensures lawful) c.count_at-elements.ensures c.in_ok-room.ensures c.insert-r.ensures.makes }

pub returns-clause-lays : goal.returns-clause-lays
returns-clause-lays g c =
    let lawful : Lawful (g.K.Kind.meaning c.args.store.now.kind.now) c.in_ok-element.element = of_numbers c.args.piece.first c.args.piece.second c.in_ok-element.element (search rules) (search rules) (sym c.in_ok-element.ensures) in
    lays c.requires.owns.arena c.requires.few c.args.piece c.in_ok-element.ensures c.extent_at-end.ensures (c.extent.ensures lawful) c.count_at-elements.ensures c.in_ok-room.ensures c.insert-r.ensures.makes c.release.new.self.cells.now c.release.new.self.pool (rw c.insert-r.ensures.same.kind at c.release.ensures.releases)
