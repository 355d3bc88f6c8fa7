use Rattle.std.proofs.Common.{[], arith, ◌∙◌}
use Rattle.linked.proofs.Lives.{first, second, last}
use Rattle.linked.proofs.come_and_gone.Goals as goal

pub make-one-requires : goal.make-one-requires
make-one-requires g c =
    let start = rw c.start-store.ensures.kind at c.start-store.ensures.arena in
    let f = first (c.of-item.ensures.whole c.requires.lawful) c.of-item.ensures.element c.requires.short 4294967295 (omega arith) start (omega (arith, c.start-store.ensures.free, c.requires.size.0)) in
    record { owned = ([], rw c.start-store.ensures.kind f.owned); fits = rw c.start-store.ensures.kind f.fits; some = omega (arith, c.start-store.ensures.free, c.requires.size.0) }

pub link-two-requires : goal.link-two-requires
link-two-requires g c =
    let start = rw c.start-store.ensures.kind at c.start-store.ensures.arena in
    let made = rw c.start-store.ensures.kind at c.make-one.ensures.yields in
    let s = second (c.of-item.ensures.whole c.requires.lawful) c.of-item.ensures.element c.requires.short 4294967295 (omega arith) start (omega (arith, c.start-store.ensures.free, c.requires.size.0)) made in
    rw (c.make-one.ensures.same.kind, c.start-store.ensures.kind) (record { holds = s.holds; linkable = s.linkable; whole = c.of-item.ensures.whole c.requires.lawful; some = s.some })

pub release-requires : goal.release-requires
release-requires g c =
    let start = rw c.start-store.ensures.kind at c.start-store.ensures.arena in
    let made = rw c.start-store.ensures.kind at c.make-one.ensures.yields in
    let linked = rw (c.make-one.ensures.same.kind, c.start-store.ensures.kind) at c.link-two.ensures.yields in
    let l = last (c.of-item.ensures.whole c.requires.lawful) c.of-item.ensures.element c.requires.short 4294967295 (omega arith) start (omega (arith, c.start-store.ensures.free, c.requires.size.0)) made linked in
    rw (c.link-two.ensures.same.kind, c.make-one.ensures.same.kind, c.start-store.ensures.kind) (record { owned = ([], l.owned); few = l.few })

pub returns : goal.returns
returns g c =
    let start = rw c.start-store.ensures.kind at c.start-store.ensures.arena in
    let made = rw c.start-store.ensures.kind at c.make-one.ensures.yields in
    let linked = rw (c.make-one.ensures.same.kind, c.start-store.ensures.kind) at c.link-two.ensures.yields in
    let released = rw (c.link-two.ensures.same.kind, c.make-one.ensures.same.kind, c.start-store.ensures.kind) at c.release.ensures.releases in
    let l = last (c.of-item.ensures.whole c.requires.lawful) c.of-item.ensures.element c.requires.short 4294967295 (omega arith) start (omega (arith, c.start-store.ensures.free, c.requires.size.0)) made linked in
    let long = c.release.ensures.same.size ∙ c.link-two.ensures.same.size ∙ c.make-one.ensures.same.size ∙ c.start-store.ensures.size in
    omega (arith, c.free.ensures.0, l.all _ _ released)
