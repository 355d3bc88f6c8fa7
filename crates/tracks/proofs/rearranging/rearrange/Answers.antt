use Rattle.std.proofs.Common.{[], map, length, ap, ◌∙◌, subst, arith}
use Rattle.std.proofs.lemmas.Result.{err_from_is_err_and}
use Rattle.std.specs.List.{range_with_len}
use Rattle.kinds.specs.Places.{atoms_of}
use Rattle.cells.specs.References.{Arena}
use Rattle.cells.proofs.Names.{hit_same}
use Rattle.profile.specs.Columns.{column}
use Rattle.edits.proofs.Roots.{owned_count}
use Rattle.tracks.specs.Moving.{Stops}
use Rattle.tracks.proofs.Versions.{kept_held, all_free}
use Rattle.tracks.proofs.rearranging.rearrange.Goals as goal

pub returns-in_err-v : goal.returns-in_err-v
returns-in_err-v g c =
    let p = err_from_is_err_and c.from_residual-in_err-v.result c.from_residual-in_err-v.ensures.1 in
    let stops = rw c.in_ok-store.ensures.0 at c.in_err-v.ensures.keeps in
    rw (p.1, p.2) (subst (λ n. Stops (g.K.Kind.meaning c.args.kind.now) n c.args.pieces.now c.args.shift c.in_err-v.field-0.0) c.in_ok-store.ensures.4 stops)

pub let_go-requires : goal.let_go-requires
let_go-requires g c = rw c.in_ok-v.ensures.same.kind (kept_held c.in_ok-v.ensures.keeps)

pub returns : goal.returns
returns g c =
    let k = g.K.Kind.meaning c.args.kind.now in
    let kind = c.in_ok-v.ensures.same.kind ∙ c.in_ok-store.ensures.0 in
    let kept = rw c.in_ok-store.ensures.0 at c.in_ok-v.ensures.keeps in
    let arena : Arena (g.K.Kind.meaning c.let_go.new.store.kind.now) c.let_go.new.store.cells.now c.let_go.new.store.pool [] = rw c.let_go.ensures.same.kind c.let_go.ensures.arena in
    record {
      laid = rw (← kept.is_laid) (rw kind at c.version_of-laid.ensures.tells);
      left = rw (← kept.is_left) (rw kind at c.version_of-cut.ensures.tells);
      clip = c.count_at-clip.ensures ∙ owned_count kept.arena c.in_ok-v.v.range (let h = hit_same c.in_ok-v.v.range in omega arith) ∙ ap length kept.is_range;
      moved = rw (← kept.is_moved) (rw kind at c.version_of-moved.ensures.tells);
      columns = (rw kind at c.in_ok-columns.ensures) ∙ ap (λ l. map (column k (atoms_of k l) c.args.shift.columns) (range_with_len 0 c.args.shift.columns)) kept.is_moved;
      laid_took = omega (arith, c.version_of-laid.ensures.took, kept.laid_took);
      cut_took = omega (arith, c.version_of-cut.ensures.took, kept.cut_took);
      moved_took = omega (arith, c.version_of-moved.ensures.took, kept.moved_took);
      free = omega (arith, c.free.ensures.0, all_free (g.K.Kind.meaning c.let_go.new.store.kind.now) c.let_go.new.store.cells.now c.let_go.new.store.pool (c.free.ensures.1 [] arena), c.let_go.ensures.same.size, c.in_ok-v.ensures.same.size, c.in_ok-store.ensures.4);
    }
