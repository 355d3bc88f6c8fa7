-- What is taken apart and put together, as lists.
use Rattle.std.proofs.Common.{◌≡◌, ℕ, false, List, ◌++◌, Option, ap, ◌∙◌}
use Rattle.std.specs.List.{AllByRecursion}
use Rattle.kinds.specs.Kinds.{Meaning, Laws, Lawful}
use Rattle.kinds.specs.Places.{after}
use Rattle.balance.specs.Trees.{Tree, elements}
use Rattle.balance.specs.Edits.{Rest, listed, parted, parted_rest, merge}
use Rattle.balance.proofs.Edits.{parted_divides, parted_rest_divides, merge_elements}
use Rattle.cells.specs.declared.cell.Cell.{Cell}
use Rattle.cells.specs.declared.pool.Pool.{Pool}
use Rattle.cells.specs.Cells.{shape, tree}
use Rattle.splits.specs.declared.split.Loose.{Loose}
use Rattle.splits.specs.declared.split.Split.{Split}
use Rattle.splits.specs.Splitting.{behind, Grows, Splits, Leaves, Divided}
use Rattle.splits.proofs.Places.{same_before, same_after, all_solid}

module _ {E A S : Type 0} {k : Meaning E A S} {a : List (Cell E S)} {p : Pool} {xs : List ℕ} {b : List (Cell E S)} {q : Pool} {n : ℕ} where
  pub divides_tree : (t : Tree E) (place : ℕ) {r : Split E S} → Splits k a p xs b q r (parted (shape k) t place) n → Divided k b r (elements t) place
  divides_tree t place splits =
      let d = parted_divides (shape k) t place in
      record { fore = ap elements splits.before_is ∙ d.fore ∙ same_before k place (elements t); aft = ap listed splits.rest_is ∙ d.aft ∙ same_after k place (elements t) }

  pub divides_rest : (s : Rest E) (place : ℕ) {r : Split E S} → Splits k a p xs b q r (parted_rest (shape k) s place) n → Divided k b r (listed s) place
  divides_rest s place splits =
      let d = parted_rest_divides (shape k) s place in
      record { fore = ap elements splits.before_is ∙ d.fore ∙ same_before k place (listed s); aft = ap listed splits.rest_is ∙ d.aft ∙ same_after k place (listed s) }

pub leaves_tree : {E A S : Type 0} {k : Meaning E A S} {a : List (Cell E S)} {p : Pool} {b : List (Cell E S)} {q : Pool} {n : ℕ} (t : Tree E) (place : ℕ) {o : Option (Loose E S)}
    → Leaves k a p b q o (parted (shape k) t place).rest n → listed (behind b o) ≡ after k place (elements t)
leaves_tree {k = k} t place leaves = ap listed leaves.rest_is ∙ (parted_divides (shape k) t place).aft ∙ same_after k place (elements t)

module _ {E A S : Type 0} {k : Meaning E A S} {a : List (Cell E S)} {p : Pool} {xs : List ℕ} {b : List (Cell E S)} {q : Pool} {r n : ℕ} where
  pub merges_lists : Laws k → (t u : Tree E) → AllByRecursion (Lawful k) (elements u) → Grows k false a p xs b q r (merge (shape k) t u) n → elements (tree b r) ≡ elements t ++ elements u
  merges_lists laws t u lawful grows = ap elements grows.tree_is ∙ merge_elements (shape k) t u (all_solid k laws (elements u) lawful)
