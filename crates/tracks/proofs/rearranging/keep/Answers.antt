use Rattle.std.proofs.Common.{◌∙◌}
use Rattle.std.proofs.lemmas.Result.{err_from_is_err_and}
use Rattle.tracks.proofs.Versions.{stopped_piece, owns_b, some_b, stopped_cut, owns_c, some_c, stopped_paste, kept_all}
use Rattle.tracks.proofs.rearranging.keep.Goals as goal

pub returns-in_err-track-clause-keeps : goal.returns-in_err-track-clause-keeps
returns-in_err-track-clause-keeps g c =
    let p = err_from_is_err_and c.from_residual.result c.from_residual.ensures.1 in
    let track = c.lay_all-track.ensures in
    rw (p.1, p.2) (stopped_piece c.args.shift c.requires.arena c.requires.some track.lays track.same.size c.in_err-track.was)

pub take_out-requires : goal.take_out-requires
take_out-requires g c =
    let track = c.lay_all-track.ensures in
    record {
      owns = rw track.same.kind (owns_b c.args.shift c.requires.arena c.requires.some track.lays track.same.size c.in_ok-track.was);
      few = track.lays.few;
      some = some_b c.args.shift c.requires.arena c.requires.some track.lays track.same.size c.in_ok-track.was;
    }

pub returns-in_err-parts-clause-keeps : goal.returns-in_err-parts-clause-keeps
returns-in_err-parts-clause-keeps g c =
    let p = err_from_is_err_and c.from_residual-in_err-parts.result c.from_residual-in_err-parts.ensures.1 in
    let track = c.lay_all-track.ensures in
    rw (p.1, p.2) (stopped_cut c.args.shift c.requires.arena c.requires.some track.lays track.same.size c.in_ok-track.was (rw track.same.kind at c.in_err-parts.ensures.takes))

pub put_in-requires : goal.put_in-requires
put_in-requires g c =
    let track = c.lay_all-track.ensures in
    let parts = rw track.same.kind at c.in_ok-parts.ensures.takes in
    let size = c.in_ok-parts.ensures.same.size ∙ track.same.size in
    record {
      owns = rw (c.in_ok-parts.ensures.same.kind ∙ track.same.kind) (owns_c c.args.shift c.requires.arena c.requires.some track.lays track.same.size c.in_ok-track.was parts size);
      some = some_c c.args.shift c.requires.arena c.requires.some track.lays track.same.size c.in_ok-track.was parts size;
    }

pub returns-in_err-moved-clause-keeps : goal.returns-in_err-moved-clause-keeps
returns-in_err-moved-clause-keeps g c =
    let p = err_from_is_err_and c.from_residual-in_err-moved.result c.from_residual-in_err-moved.ensures.1 in
    let track = c.lay_all-track.ensures in
    let parts = rw track.same.kind at c.in_ok-parts.ensures.takes in
    let moved = rw (c.in_ok-parts.ensures.same.kind ∙ track.same.kind) at c.in_err-moved.ensures.puts in
    rw (p.1, p.2) (stopped_paste c.args.shift c.requires.arena c.requires.some track.lays track.same.size c.in_ok-track.was parts (c.in_ok-parts.ensures.same.size ∙ track.same.size) moved)

pub returns-clause-keeps : goal.returns-clause-keeps
returns-clause-keeps g c =
    let track = c.lay_all-track.ensures in
    let parts = rw track.same.kind at c.in_ok-parts.ensures.takes in
    let moved = rw (c.in_ok-parts.ensures.same.kind ∙ track.same.kind) at c.in_ok-moved.ensures.puts in
    kept_all c.args.shift c.requires.arena c.requires.some track.lays track.same.size c.in_ok-track.was parts (c.in_ok-parts.ensures.same.size ∙ track.same.size) moved
    c.saturating_sub.ensures c.saturating_sub-2.ensures c.saturating_sub-3.ensures
