-- A tree, then what lies behind a place.
use Rattle.std.proofs.Common.{◌≡◌, ℕ, ◌+◌, ◌^◌, ◌<◌, ◌≤◌, false, List, [], ◌∷◌, refl, ap, ◌∙◌, arith}
use Rattle.faults.specs.Limits.{limit}
use Rattle.kinds.specs.Kinds.{Meaning}
use Rattle.balance.specs.Trees.{Tree, count, elements}
use Rattle.balance.specs.Lists.{extents}
use Rattle.balance.specs.Links.{link}
use Rattle.balance.specs.Ways.{span}
use Rattle.balance.specs.Edits.{done, more, joined}
use Rattle.balance.specs.Levels.{most}
use Rattle.balance.specs.Costs.{link_cost, joined_cost}
use Rattle.balance.proofs.Ways.{span_extents}
use Rattle.cells.specs.declared.cell.Cell.{Cell}
use Rattle.cells.specs.declared.pool.Pool.{Pool}
use Rattle.cells.specs.Cells.{shape, tree}
use Rattle.cells.specs.Moves.{Makes}
use Rattle.cells.proofs.Moving.{moves_none}
use Rattle.links.specs.Sitting.{Linkable}
use Rattle.splits.specs.Owning.{Owns}
use Rattle.splits.specs.Splitting.{Grows}

pub joined_none : {E A S : Type 0} (k : Meaning E A S) (a : List (Cell E S)) (p : Pool) (left : ℕ) → Grows k false a p (left ∷ []) a p left (joined (tree a left) done) (joined_cost (tree a left) done)
unfolding joined joined_cost
joined_none k a p left = record { each = moves_none k a p (left ∷ []); tree_is = refl }

module _ {E A S : Type 0} {k : Meaning E A S} {a : List (Cell E S)} {p : Pool} {left right : ℕ} (owns : Owns k a p (left ∷ right ∷ []) [] (2 ^ 20)) where
  module _ {e f : E} (e_is : e ≡ f) where
    pub join_linkable : count (tree a left) + count (tree a right) < most → span (shape k) (tree a left) + extents (shape k) (f ∷ elements (tree a right)) ≤ limit → Linkable k (tree a left) e (tree a right)
    join_linkable few short = record { few = few; short = omega (arith, short, span_extents (shape k) (tree a right), ap (shape k).extent e_is) }

    pub joined_some : {b : List (Cell E S)} {q : Pool} {r : ℕ} → Makes k false a p (left ∷ right ∷ []) b q r (link (tree a left) e (tree a right)) (link_cost (tree a left) (tree a right))
        → Grows k false a p (left ∷ right ∷ []) b q r (joined (tree a left) (more f (tree a right))) (joined_cost (tree a left) (more f (tree a right)))
    unfolding joined joined_cost
    joined_some yields = record {
      each = λ rs arena. (yields rs arena).moved;
      tree_is = (yields owns.rest owns.arena).tree_is ∙ ap (λ f. link (tree a left) f (tree a right)) e_is;
    }

pub join_some : {E : Type 0} (t : Tree E) (e : E) (r : Tree E) {n : ℕ} → joined_cost t (more e r) ≤ n → link_cost t r ≤ n
unfolding joined_cost
join_some t e r some = some
