-- The tree under a cell in use: it opens at the cell, and its count, balance and extent are what the cells tell.
use Rattle.std.proofs.Common.{◌≡◌, ℕ, zero, suc, ◌+◌, ◌<◌, ◌≤◌, List, [], ◌∷◌, length, Some, None, Option, sym, refl, ap, ◌∙◌, subst, arith, length-append}
use Rattle.std.specs.List.{slice_get, flat_map}
use Rattle.kinds.specs.Kinds.{Meaning, Laws}
use Rattle.balance.specs.Trees.{Tree, leaf, node, count, elements, Balanced}
use Rattle.balance.specs.Lists.{extents}
use Rattle.balance.specs.Ways.{span}
use Rattle.balance.proofs.Ways.{span_extents}
use Rattle.cells.specs.declared.cell.Cell.{Cell}
use Rattle.cells.specs.Cells.{shape, counted, cell_count, around, tree_to, tree, linked, Live, meant, Good, Sound}

-- what is known of the tree under a live link
pub record Known {E S : Type 0} (cells : List (Cell E S)) (i : ℕ) : Type 0 where
  pub counts : count (tree cells i) ≡ cell_count cells i
  pub balanced : Balanced (tree cells i)

pub none_tree : {E S : Type 0} (cells : List (Cell E S)) (i : ℕ) → slice_get cells i ≡ None → tree cells i ≡ leaf
unfolding tree_to
none_tree cells i e = ap (λ f. tree_to f cells i) (ap counted e)

module _ {E A S : Type 0} (k : Meaning E A S) (cells : List (Cell E S)) (sound : Sound k cells) where
  empty : (g i : ℕ) (o : Option (Cell E S)) → slice_get cells i ≡ o → counted o ≤ 0 → linked o → leaf ≡ around o (tree_to g cells)
  empty g i None e b live = refl
  empty g i (Some c) e b live = let good = sound i c e live in absurd (omega (arith, good.counts))

  step : (f g : ℕ) → ((i : ℕ) → cell_count cells i ≤ f → cell_count cells i ≤ g → Live cells i → tree_to f cells i ≡ tree_to g cells i)
      → (i : ℕ) (o : Option (Cell E S)) → slice_get cells i ≡ o → counted o ≤ suc f → counted o ≤ suc g → linked o → around o (tree_to f cells) ≡ around o (tree_to g cells)
  step f g ih i None e a b live = refl
  step f g ih i (Some c) e a b live =
      let good = sound i c e live in
      let l = ih c.left (omega (arith, good.counts)) (omega (arith, good.counts)) good.left_live in
      let r = ih c.right (omega (arith, good.counts)) (omega (arith, good.counts)) good.right_live in
      cc

  -- a depth that suffices is as good as any other
  pub deep_enough : (f g i : ℕ) → cell_count cells i ≤ f → cell_count cells i ≤ g → Live cells i → tree_to f cells i ≡ tree_to g cells i
  unfolding tree_to
  deep_enough zero zero i a b live = refl
  deep_enough zero (suc g) i a b live = empty g i (slice_get cells i) refl a live
  deep_enough (suc f) zero i a b live = sym (empty f i (slice_get cells i) refl b live)
  deep_enough (suc f) (suc g) i a b live = step f g (deep_enough f g) i (slice_get cells i) refl a b live

  opened_at : (i n : ℕ) (c : Cell E S) → slice_get cells i ≡ Some c → cell_count cells i ≡ suc n → tree cells i ≡ node (tree_to n cells c.left) c.element (tree_to n cells c.right)
  unfolding tree_to
  opened_at i n c e q = ap (λ f. tree_to f cells i) q ∙ ap (λ o. around o (tree_to n cells)) e

  -- the tree under a cell is its element between its children's trees
  pub opened : (i : ℕ) (c : Cell E S) → slice_get cells i ≡ Some c → 0 < c.refs → tree cells i ≡ node (tree cells c.left) c.element (tree cells c.right)
  opened i c e live =
      let good = sound i c e live in
      let n : ℕ = cell_count cells c.left + cell_count cells c.right in
      let q : cell_count cells i ≡ suc n = ap counted e ∙ (omega (arith, good.counts)) in
      let o = opened_at i n c e q in
      let l = deep_enough n (cell_count cells c.left) c.left (omega arith) (omega arith) good.left_live in
      let r = deep_enough n (cell_count cells c.right) c.right (omega arith) (omega arith) good.right_live in
      cc

  known_at : (f i : ℕ) → ((j : ℕ) → cell_count cells j < f → Live cells j → Known cells j) → (o : Option (Cell E S)) → slice_get cells i ≡ o → counted o ≤ f → linked o → Known cells i
  known_at f i ih None e h live = let t = none_tree cells i e in record { counts = ap count t ∙ sym (ap counted e); balanced = subst Balanced (sym t) tt }
  known_at f i ih (Some c) e h live =
      let good = sound i c e live in
      let l = ih c.left (omega (arith, good.counts)) good.left_live in
      let r = ih c.right (omega (arith, good.counts)) good.right_live in
      let t = opened i c e live in
      record {
        counts = omega (arith, ap count t, ap counted e, good.counts, l.counts, r.counts);
        balanced = subst Balanced (sym t) (record { left_light = omega (arith, good.left_light, l.counts, r.counts); right_light = omega (arith, good.right_light, l.counts, r.counts); left = l.balanced; right = r.balanced });
      }

  known_to : (f i : ℕ) → cell_count cells i < f → Live cells i → Known cells i
  known_to zero i h live = absurd (omega arith)
  known_to (suc f) i h live = known_at f i (known_to f) (slice_get cells i) refl (omega arith) live

  pub known : (i : ℕ) → Live cells i → Known cells i
  known i live = known_to (cell_count cells i + 1) i (omega arith) live

module _ {E A S : Type 0} (k : Meaning E A S) where
  joined_extents : (es : List E) → length (flat_map k.atoms es) ≡ extents (shape k) es
  joined_extents [] = refl
  joined_extents (e ∷ es) = omega (arith, joined_extents es, length-append (k.atoms e) (flat_map k.atoms es))

  -- the extent of a tree is the number of its atoms
  pub meant_span : (t : Tree E) → length (meant k t) ≡ span (shape k) t
  meant_span t = joined_extents (elements t) ∙ sym (span_extents (shape k) t)

  -- a cell's summary tells the extent of its tree
  pub width_span : Laws k → (cells : List (Cell E S)) (i : ℕ) (c : Cell E S) → Good k cells i c → k.width c.summary ≡ span (shape k) (tree cells i)
  width_span laws cells i c good = ap k.width good.sums ∙ laws.total_width (meant k (tree cells i)) good.atomic good.few ∙ meant_span (tree cells i)
