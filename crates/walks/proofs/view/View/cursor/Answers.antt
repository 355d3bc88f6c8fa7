use Rattle.std.proofs.Common.{◌∙◌, subst, arith, rules}
use Rattle.walks.specs.Versions.{Standing}
use Rattle.walks.proofs.Tables.{laid}
use Rattle.walks.proofs.Cursors.{walked_begins}
use Rattle.walks.proofs.view.View.cursor.Goals as goal

pub returns : goal.returns
returns g c =
    let found = c.descend-found.result in
    let lefts = c.descend-found.new.lefts.items in
    let rights = c.descend-found.new.rights.items in
    let v = c.args.self.now in
    let stands = subst (λ v. Standing (g.K.Kind.meaning v.kind) v.cells v.root) c.self.view_is c.self.invariant in
    walked_begins (g.K.Kind.meaning v.kind) v.cells v.root c.args.from lefts rights found
    (omega (arith, c.requires.some, c.requires.within)) c.descend-found.ensures.walked
    (g.K.Kind.laws v.kind) stands.sound stands.live c.args.len c.requires.few c.requires.within
    _ _ c.len-depth.ensures.value (laid lefts _ _ _ _ c.len-depth.ensures.value (c.copy_from_slice.ensures.after ∙ c.as_slice.ensures.value) (search rules))
