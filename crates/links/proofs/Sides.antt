-- The two sides of cells and trees.
use Rattle.std.proofs.Common.{◌≡◌, ℕ, ◌<◌, Bool, true, false, List, [], ◌∷◌, Some, sym, refl, ap, ◌∙◌, subst, arith}
use Rattle.std.specs.List.{slice_get}
use Rattle.kinds.specs.Kinds.{Meaning}
use Rattle.balance.specs.Trees.{Tree, node, count, mirror, Balanced}
use Rattle.balance.specs.Lists.{Shape}
use Rattle.balance.specs.Ways.{span}
use Rattle.balance.proofs.Mirrors.{mirror_count, mirror_balanced, mirror_span}
use Rattle.cells.specs.declared.cell.Cell.{Cell}
use Rattle.cells.specs.declared.item.Item.{Item}
use Rattle.cells.specs.declared.pool.Pool.{Pool}
use Rattle.cells.specs.Cells.{shape, cell_count, tree, facing, seen, near, far, Live, Good, Sound}
use Rattle.cells.specs.Reach.{Stays}
use Rattle.cells.specs.References.{Arena}
use Rattle.cells.specs.Moves.{Fits, Yields, Makes}
use Rattle.cells.proofs.Trees.{known, opened}
use Rattle.cells.proofs.Staying.{child_stays}
use Rattle.cells.proofs.Arenas.{rerooted}

pub facing_count : {E : Type 0} (flip : Bool) (t : Tree E) → count (facing flip t) ≡ count t
facing_count false t = refl
facing_count true t = mirror_count t

pub facing_span : {E : Type 0} (s : Shape E) (flip : Bool) (t : Tree E) → span s (facing flip t) ≡ span s t
facing_span s false t = refl
facing_span s true t = mirror_span s t

pub facing_balanced : {E : Type 0} (flip : Bool) (t : Tree E) → Balanced t → Balanced (facing flip t)
facing_balanced false t b = b
facing_balanced true t b = mirror_balanced t b

module _ {E A S : Type 0} (k : Meaning E A S) where
  -- what is known of a live link, seen from either side
  pub seen_known : (flip : Bool) (a : List (Cell E S)) → Sound k a → (i : ℕ) → Live a i → count (seen flip a i) ≡ cell_count a i
  seen_known flip a sound i live = facing_count flip (tree a i) ∙ (known k a sound i live).counts

  pub seen_balanced : (flip : Bool) (a : List (Cell E S)) → Sound k a → (i : ℕ) → Live a i → Balanced (seen flip a i)
  seen_balanced flip a sound i live = facing_balanced flip (tree a i) (known k a sound i live).balanced

  pub seen_opened : (flip : Bool) (a : List (Cell E S)) → Sound k a → (i : ℕ) (c : Cell E S) → slice_get a i ≡ Some c → 0 < c.refs
      → seen flip a i ≡ node (seen flip a (near flip c)) c.element (seen flip a (far flip c))
  seen_opened false a sound i c at live = opened k a sound i c at live
  seen_opened true a sound i c at live = ap mirror (opened k a sound i c at live)

  pub near_live : (flip : Bool) (a : List (Cell E S)) (i : ℕ) (c : Cell E S) → Good k a i c → Live a (near flip c)
  near_live false a i c good = good.left_live
  near_live true a i c good = good.right_live

  pub far_live : (flip : Bool) (a : List (Cell E S)) (i : ℕ) (c : Cell E S) → Good k a i c → Live a (far flip c)
  far_live false a i c good = good.right_live
  far_live true a i c good = good.left_live

  -- a new cell in the mirror
  pub fits_turned : (l : Tree E) (item : Item E S) (r : Tree E) → Fits k (mirror l) item (mirror r) → Fits k r item l
  fits_turned l item r fits = record {
    lawful = fits.lawful;
    owns = fits.owns;
    left_light = omega (arith, fits.right_light, mirror_count l, mirror_count r);
    right_light = omega (arith, fits.left_light, mirror_count l, mirror_count r);
    few = omega (arith, fits.few, mirror_count l, mirror_count r);
    short = omega (arith, fits.short, mirror_span (shape k) l, mirror_span (shape k) r);
  }

  pub arena_turned : (a : List (Cell E S)) (p : Pool) (x y : ℕ) (rs : List ℕ) → Arena k a p (x ∷ y ∷ rs) → Arena k a p (y ∷ x ∷ rs)
  arena_turned a p x y rs arena = rerooted k a p (x ∷ y ∷ rs) arena (y ∷ x ∷ rs) (λ i h. omega arith)

pub near_stays : {E S : Type 0} (flip : Bool) (a b : List (Cell E S)) (i : ℕ) (c : Cell E S) → slice_get a i ≡ Some c → Stays a b i → Stays a b (near flip c)
near_stays false a b i c at stays = child_stays a b i c false at stays
near_stays true a b i c at stays = child_stays a b i c true at stays

pub far_stays : {E S : Type 0} (flip : Bool) (a b : List (Cell E S)) (i : ℕ) (c : Cell E S) → slice_get a i ≡ Some c → Stays a b i → Stays a b (far flip c)
far_stays false a b i c at stays = child_stays a b i c true at stays
far_stays true a b i c at stays = child_stays a b i c false at stays

-- one function for both sides
pub fits_flipped : {E A S : Type 0} {k : Meaning E A S} {flip : Bool} (a : List (Cell E S)) (left right : ℕ) {item : Item E S} → flip ≡ true
    → Fits k (seen flip a left) item (seen flip a right) → Fits k (tree a right) item (tree a left)
fits_flipped {k} a left right {item} e fits = fits_turned k (tree a left) item (tree a right) (subst (λ f. Fits k (seen f a left) item (seen f a right)) e fits)

module _ {E A S : Type 0} {k : Meaning E A S} {flip : Bool} {a : List (Cell E S)} {p : Pool} {left : ℕ} {e : E} {right : ℕ} {b : List (Cell E S)} {q : Pool} {r : ℕ} where
  pub makes_flipped : flip ≡ true → Makes k false a p (right ∷ left ∷ []) b q r (node (tree a right) e (tree a left)) 1
      → Makes k flip a p (left ∷ right ∷ []) b q r (node (seen flip a left) e (seen flip a right)) 1
  makes_flipped is makes rs arena =
      let y = makes rs (arena_turned k a p left right rs arena) in
      let turned : Yields k true a p rs b q r (node (seen true a left) e (seen true a right)) 1 = record { moved = y.moved; tree_is = ap mirror y.tree_is } in
      subst (λ f. Yields k f a p rs b q r (node (seen f a left) e (seen f a right)) 1) (sym is) turned

  pub makes_plain : flip ≡ false → Makes k false a p (left ∷ right ∷ []) b q r (node (tree a left) e (tree a right)) 1
      → Makes k flip a p (left ∷ right ∷ []) b q r (node (seen flip a left) e (seen flip a right)) 1
  makes_plain is makes = subst (λ f. Makes k f a p (left ∷ right ∷ []) b q r (node (seen f a left) e (seen f a right)) 1) (sym is) makes
