-- Extents of trees and of parts.
use Rattle.std.proofs.Common.{◌≡◌, ℕ, ◌<◌, ◌≤◌, List, length, Some, None, Option, refl, ap, arith}
use Rattle.std.specs.List.{slice_get}
use Rattle.faults.specs.Limits.{limit}
use Rattle.kinds.specs.Kinds.{Meaning, Laws, Lawful}
use Rattle.kinds.proofs.Totals.{part_extent}
use Rattle.balance.specs.Ways.{span}
use Rattle.cells.specs.declared.cell.Cell.{Cell}
use Rattle.cells.specs.Cells.{shape, tree, linked, Live, Sound}
use Rattle.cells.proofs.Trees.{none_tree, meant_span}

-- a tree in use has no more atoms than the limit
live_short_at : {E A S : Type 0} (k : Meaning E A S) (a : List (Cell E S)) → Sound k a → (i : ℕ) (o : Option (Cell E S)) → slice_get a i ≡ o → linked o → span (shape k) (tree a i) ≤ limit
live_short_at k a sound i None at live = omega (arith, ap (span (shape k)) (none_tree a i at))
live_short_at k a sound i (Some c) at live = omega (arith, (sound i c at live).few, meant_span k (tree a i))

pub live_short : {E A S : Type 0} (k : Meaning E A S) (a : List (Cell E S)) → Sound k a → (i : ℕ) → Live a i → span (shape k) (tree a i) ≤ limit
live_short k a sound i live = live_short_at k a sound i (slice_get a i) refl live

pub first_extent : {E A S : Type 0} (k : Meaning E A S) → Laws k → (e : E) (d : ℕ) → Lawful k e → d < length (k.atoms e) → (d ≡ 0 → ⊥) → length (k.atoms (k.part e 0 d)) ≡ d
first_extent k laws e d lawful inside nz = part_extent k laws e 0 d lawful (record { some = omega (arith, nz); inside = omega arith })
