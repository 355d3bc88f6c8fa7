use Rattle.std.proofs.Common.{◌≡◌, Some, subst}
use Rattle.std.specs.List.{slice_get}
use Rattle.walks.proofs.Holding.{walked_reads, walked_by_path}
use Rattle.walks.proofs.view.View.read.Goals as goal

pub returns : goal.returns
returns g c =
    let found = c.descend-found.result in
    let v = c.args.self.now in
    let k = g.K.Kind.meaning v.kind in
    let cell = c.cell_at.result in
    let at = subst (λ v. slice_get v.cells found.cell ≡ Some cell) c.self.view_is c.cell_at.ensures in
    let first = subst (λ v. c.tell-first.result.0 ≡ (g.K.Kind.meaning v.kind).first cell.element) c.self.view_is c.tell-first.ensures.0 in
    let second = subst (λ v. c.tell-first.result.1 ≡ (g.K.Kind.meaning v.kind).second cell.element) c.self.view_is c.tell-first.ensures.1 in
    rw (c.len.ensures.value, c.len-2.ensures.value)
    (record {
      reads = walked_reads k v.cells v.root c.args.place _ _ found c.requires.within c.descend-found.ensures.walked cell _ _ at first second;
      path = walked_by_path k v.cells v.root c.args.place _ _ found c.requires.within c.descend-found.ensures.walked cell _ _ at first second c.descend-found.ensures.path;
    })
