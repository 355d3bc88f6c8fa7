use Rattle.std.proofs.Common.{◌≡◌, ◌∙◌, rules}
use Rattle.kinds.specs.Places.{atoms_of, extent_of}
use Rattle.kinds.proofs.Places.{extent_counts}
use Rattle.profile.proofs.Values.{columns_known}
use Rattle.edits.specs.Edits.{list}
use Rattle.edits.proofs.Roots.{lent_live, wide}
use Rattle.tracks.proofs.columns.columns_of.Goals as goal

pub new-requires : goal.new-requires
new-requires g c = record { sound = c.requires.arena.sound; live = lent_live c.requires }

pub in_columns-requires : goal.in_columns-requires
in_columns-requires g c =
    let k = g.K.Kind.meaning c.args.kind.now in
    let is : c.width-extent.result ≡ extent_of k (list c.args.cells.now c.args.root) = (rw c.new.ensures at c.width-extent.ensures) ∙ wide k c.args.cells.now c.args.root in
    λ from to order inside. search rules

pub returns : goal.returns
returns g c =
    let k = g.K.Kind.meaning c.args.kind.now in
    let es = list c.args.cells.now c.args.root in
    let is : c.width-extent.result ≡ extent_of k es = (rw c.new.ensures at c.width-extent.ensures) ∙ wide k c.args.cells.now c.args.root in
    columns_known k (atoms_of k es) c.width-extent.result c.args.n _ (λ v. v.items) c.in_columns.result (is ∙ extent_counts k es) c.in_columns.ensures (λ from to s this. search rules)
