-- Cells made one after the other over trees that sit.
use Rattle.std.proofs.Common.{◌≡◌, ℕ, ◌+◌, Bool, List, [], ◌∷◌, sym, ap, ◌∙◌, subst, arith}
use Rattle.kinds.specs.Kinds.{Meaning}
use Rattle.balance.specs.Trees.{Tree, node}
use Rattle.cells.specs.declared.cell.Cell.{Cell}
use Rattle.cells.specs.declared.item.Item.{Item}
use Rattle.cells.specs.declared.pool.Pool.{Pool}
use Rattle.cells.specs.Cells.{seen}
use Rattle.cells.specs.References.{Arena}
use Rattle.cells.specs.Moves.{Moves, Fits, Makes}
use Rattle.cells.proofs.Names.{hit_same}
use Rattle.cells.proofs.Arenas.{rerooted}
use Rattle.cells.proofs.Moving.{moves_none, moves_then, seen_stays}
use Rattle.links.specs.Opened.{Whole}
use Rattle.links.specs.Sitting.{Sits}

module _ {E A S : Type 0} (k : Meaning E A S) where
  pub sits_left : (l : Tree E) (e : E) (r : Tree E) → Sits k (node l e r) → Sits k l
  sits_left l e r s = record { few = omega (arith, s.few); short = omega (arith, s.short); balanced = s.balanced.left }

  pub sits_right : (l : Tree E) (e : E) (r : Tree E) → Sits k (node l e r) → Sits k r
  sits_right l e r s = record { few = omega (arith, s.few); short = omega (arith, s.short); balanced = s.balanced.right }

  pub sits_fits : (l : Tree E) (item : Item E S) (r : Tree E) → Sits k (node l item.element r) → Whole k item → Fits k l item r
  sits_fits l item r s w = record {
    lawful = w.lawful;
    owns = w.owns;
    left_light = s.balanced.left_light;
    right_light = s.balanced.right_light;
    few = omega (arith, s.few);
    short = s.short;
  }

module _ {E A S : Type 0} {k : Meaning E A S} (flip : Bool) {a : List (Cell E S)} {p : Pool} {x y z : ℕ} (top item : Item E S)
    {rest : List ℕ} (arena : Arena k a p (x ∷ y ∷ z ∷ rest)) where
  abbrev X : Tree E
  X = seen flip a x

  abbrev Y : Tree E
  Y = seen flip a y

  abbrev Z : Tree E
  Z = seen flip a z

  pub low_first : Arena k a p (y ∷ z ∷ (x ∷ rest))
  low_first = rerooted k a p (x ∷ y ∷ z ∷ rest) arena (y ∷ z ∷ (x ∷ rest)) (λ i h. omega arith)

  module _ {b : List (Cell E S)} {q : Pool} {low : ℕ}
      (one : Makes k flip a p (y ∷ z ∷ []) b q low (node Y item.element Z) 1) where
    low_move : Moves k a p (x ∷ y ∷ z ∷ []) b q (x ∷ low ∷ []) (0 + 1)
    low_move = moves_then k a p (x ∷ y ∷ z ∷ []) a p (x ∷ y ∷ z ∷ []) 0 (moves_none k a p (x ∷ y ∷ z ∷ [])) (y ∷ z ∷ []) (x ∷ []) (λ i. omega arith)
        b q (low ∷ []) 1 (λ rs ar. (one rs ar).moved) (x ∷ low ∷ []) (λ i. omega arith)

    pub low_arena : Arena k b q (x ∷ low ∷ rest)
    low_arena = (low_move rest arena).arena

    pub low_is : seen flip b low ≡ node Y item.element Z
    low_is = (one (x ∷ rest) low_first).tree_is

    pub x_is : seen flip b x ≡ X
    x_is = seen_stays flip a b x ((one (x ∷ rest) low_first).moved.stay x (let h = hit_same x in omega arith))

    pub top_fits : Sits k (node X top.element (node Y item.element Z)) → Whole k top → Fits k (seen flip b x) top (seen flip b low)
    top_fits sits whole = subst (λ t. Fits k t top (seen flip b low)) (sym x_is) (subst (λ t. Fits k X top t) (sym low_is) (sits_fits k X top (node Y item.element Z) sits whole))

    module _ {c : List (Cell E S)} {r : Pool} {root : ℕ}
        (two : Makes k flip b q (x ∷ low ∷ []) c r root (node (seen flip b x) top.element (seen flip b low)) 1) where
      pub rotated_once : Makes k flip a p (x ∷ y ∷ z ∷ []) c r root (node X top.element (node Y item.element Z)) 2
      rotated_once rs ar = record {
        moved = moves_then k a p (x ∷ y ∷ z ∷ []) b q (x ∷ low ∷ []) 1 low_move (x ∷ low ∷ []) [] (λ i. omega arith) c r (root ∷ []) 1 (λ rs ar. (two rs ar).moved) (root ∷ []) (λ i. omega arith) rs ar;
        tree_is = (two rest low_arena).tree_is ∙ ap (λ t. node t top.element (seen flip b low)) x_is ∙ ap (node X top.element) low_is;
      }
