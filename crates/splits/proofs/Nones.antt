-- A number that is no cell is the root of an empty tree, and owned for nothing.
use Rattle.std.proofs.Common.{◌≡◌, ℕ, ◌≤◌, List, [], ◌∷◌, arith}
use Rattle.std.proofs.lemmas.Option.{slice_get_past}
use Rattle.kinds.specs.Kinds.{Meaning}
use Rattle.balance.specs.Trees.{leaf}
use Rattle.cells.specs.declared.cell.Cell.{Cell}
use Rattle.cells.specs.declared.pool.Pool.{Pool}
use Rattle.cells.specs.Cells.{tree}
use Rattle.cells.specs.References.{Arena}
use Rattle.cells.specs.Moves.{Moves}
use Rattle.cells.proofs.Names.{hit_other}
use Rattle.cells.proofs.Staying.{stays_refl, takes_refl}
use Rattle.cells.proofs.Arenas.{rerooted}
use Rattle.cells.proofs.Trees.{none_tree}

abbrev pub none : ℕ
none = 4294967295

pub none_far : 65535 ≤ none
none_far = omega arith

module _ {E A S : Type 0} (k : Meaning E A S) (a : List (Cell E S)) (p : Pool) (i : ℕ) (far : 65535 ≤ i) where
  pub owning_none : (rs : List ℕ) → Arena k a p rs → Arena k a p (i ∷ rs)
  owning_none rs arena = rerooted k a p rs arena (i ∷ rs) (λ j h. let o = hit_other i j (λ q. omega (arith, arena.long)) in omega arith)

  pub none_leaf : (rs : List ℕ) → Arena k a p rs → tree a i ≡ leaf
  none_leaf rs arena = none_tree a i (slice_get_past a i (omega (arith, arena.long)))

  pub moves_to_none : Moves k a p [] a p (i ∷ []) 0
  moves_to_none rs arena = record { arena = owning_none rs arena; stay = λ r among. stays_refl a r; takes = takes_refl a 0; free = omega arith }
