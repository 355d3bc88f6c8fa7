-- A link seen from either side.
use Rattle.std.proofs.Common.{◌≡◌, ℕ, ◌^◌, Bool, true, false, List, [], ◌∷◌, sym, ap, ◌∙◌, subst, arith}
use Rattle.kinds.specs.Kinds.{Meaning}
use Rattle.balance.specs.Trees.{mirror}
use Rattle.balance.specs.Links.{link}
use Rattle.balance.specs.Costs.{link_cost}
use Rattle.balance.proofs.Mirrors.{mirror_count, mirror_span}
use Rattle.balance.proofs.Links.{mirror_link}
use Rattle.balance.proofs.Costs.{link_cost_mirror}
use Rattle.cells.specs.declared.cell.Cell.{Cell}
use Rattle.cells.specs.declared.pool.Pool.{Pool}
use Rattle.cells.specs.Cells.{shape, tree, seen}
use Rattle.cells.specs.References.{Holds}
use Rattle.cells.specs.Moves.{Moved, Makes}
use Rattle.links.specs.Sitting.{Linkable}
use Rattle.links.proofs.Sides.{arena_turned}
use Rattle.splits.specs.Splitting.{Grows}

module _ {E A S : Type 0} {k : Meaning E A S} {a : List (Cell E S)} {p : Pool} {left right : ℕ} (holds : Holds k a p (left ∷ right ∷ []) (2 ^ 24)) where
  module _ {flip : Bool} (is : flip ≡ true) where
    pub linkable_turned : {e : E} → Linkable k (seen flip a left) e (seen flip a right) → Linkable k (tree a right) e (tree a left)
    linkable_turned {e} linkable =
        let l : Linkable k (mirror (tree a left)) e (mirror (tree a right)) = subst (λ f. Linkable k (seen f a left) e (seen f a right)) is linkable in
        record {
          few = omega (arith, l.few, mirror_count (tree a left), mirror_count (tree a right));
          short = omega (arith, l.short, mirror_span (shape k) (tree a left), mirror_span (shape k) (tree a right));
        }

    pub cost_turned : link_cost (seen flip a left) (seen flip a right) ≡ link_cost (tree a right) (tree a left)
    cost_turned = ap (λ f. link_cost (seen f a left) (seen f a right)) is ∙ link_cost_mirror (tree a right) (tree a left)

    pub grows_turned : (e : E) (b : List (Cell E S)) (q : Pool) (r : ℕ) → Makes k false a p (right ∷ left ∷ []) b q r (link (tree a right) e (tree a left)) (link_cost (tree a right) (tree a left))
        → Grows k flip a p (left ∷ right ∷ []) b q r (link (seen flip a left) e (seen flip a right)) (link_cost (seen flip a left) (seen flip a right))
    grows_turned e b q r yields = record {
      each = λ rs arena. subst (Moved k a p rs b q (r ∷ [])) (sym cost_turned) (yields rs (arena_turned k a p left right rs arena)).moved;
      tree_is = ap (λ f. seen f b r) is ∙ ap mirror (yields holds.rest (arena_turned k a p left right holds.rest holds.arena)).tree_is ∙ mirror_link (tree a right) e (tree a left)
          ∙ ap (λ f. link (seen f a left) e (seen f a right)) (sym is);
    }

  module _ {flip : Bool} (is : flip ≡ false) where
    pub cost_plain : link_cost (seen flip a left) (seen flip a right) ≡ link_cost (tree a left) (tree a right)
    cost_plain = ap (λ f. link_cost (seen f a left) (seen f a right)) is

    pub grows_plain : (e : E) (b : List (Cell E S)) (q : Pool) (r : ℕ) → Makes k false a p (left ∷ right ∷ []) b q r (link (tree a left) e (tree a right)) (link_cost (tree a left) (tree a right))
        → Grows k flip a p (left ∷ right ∷ []) b q r (link (seen flip a left) e (seen flip a right)) (link_cost (seen flip a left) (seen flip a right))
    grows_plain e b q r yields = record {
      each = λ rs arena. subst (Moved k a p rs b q (r ∷ [])) (sym cost_plain) (yields rs arena).moved;
      tree_is = ap (λ f. seen f b r) is ∙ (yields holds.rest holds.arena).tree_is ∙ ap (λ f. link (seen f a left) e (seen f a right)) (sym is);
    }
