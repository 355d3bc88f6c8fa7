use Rattle.std.proofs.Common.{arith, ◌∙◌}
use Rattle.splits.proofs.LooseParts.{up_owns, up_few, up_short, up_some, splits_inside, deeper_some, drop_owned, drop_few, link_holds, link_linkable, link_some, splits_past}
use Rattle.splits.proofs.parting.part_loose.Goals as goal

pub up_to-before-requires : goal.up_to-before-requires
up_to-before-requires g c =
    let h = c.requires in
    let laws = g.K.Kind.laws c.args.store.now.kind.now in
    let own = c.extent-own.ensures h.tied.lawful in
    let low = c.if-place-own.true in
    record { owns = up_owns h laws own low; lawful = h.tied.lawful; inside = omega (arith, own); few = up_few h laws own low; short = up_short h laws own low; some = up_some h laws own low }

pub returns-then-place-own-clause-splits : goal.returns-then-place-own-clause-splits
returns-then-place-own-clause-splits g c =
    let loose = c.from_on.ensures in
    let kind = c.up_to-before.ensures.same.kind in
    splits_inside c.requires (g.K.Kind.laws c.args.store.now.kind.now) (c.extent-own.ensures c.requires.tied.lawful) c.if-place-own.true c.up_to-before.ensures.grows (rw kind at loose.tied) (rw kind at loose.element) loose.root

pub part-deeper-requires-clause-some : goal.part-deeper-requires-clause-some
part-deeper-requires-clause-some g c = deeper_some c.requires (g.K.Kind.laws c.args.store.now.kind.now) (c.extent-own.ensures c.requires.tied.lawful) c.if-place-own.false

pub release-requires : goal.release-requires
release-requires g c =
    let h = c.requires in
    let laws = g.K.Kind.laws c.args.store.now.kind.now in
    let own = c.extent-own.ensures h.tied.lawful in
    let past = c.if-place-own.false in
    let split = c.part-deeper.ensures.splits in
    record { owned = rw c.part-deeper.ensures.same.kind (drop_owned h laws own past split); few = drop_few h laws own past split }

pub link-before-requires : goal.link-before-requires
link-before-requires g c =
    let h = c.requires in
    let laws = g.K.Kind.laws c.args.store.now.kind.now in
    let own = c.extent-own.ensures h.tied.lawful in
    let past = c.if-place-own.false in
    let split = c.part-deeper.ensures.splits in
    let drop = rw c.part-deeper.ensures.same.kind at c.release.ensures.releases in
    let item = c.item_of.ensures in
    let kind = c.release.ensures.same.kind ∙ c.part-deeper.ensures.same.kind in
    record { holds = rw kind (link_holds h laws own past split drop); linkable = rw kind (link_linkable h laws own past split drop item.element); whole = item.whole; some = link_some h laws own past split drop }

pub returns-clause-splits : goal.returns-clause-splits
returns-clause-splits g c =
    let drop = rw c.part-deeper.ensures.same.kind at c.release.ensures.releases in
    let kind = c.release.ensures.same.kind ∙ c.part-deeper.ensures.same.kind in
    splits_past c.requires (g.K.Kind.laws c.args.store.now.kind.now) (c.extent-own.ensures c.requires.tied.lawful) c.if-place-own.false c.part-deeper.ensures.splits drop c.item_of.ensures.element (rw kind at c.link-before.ensures.yields)
