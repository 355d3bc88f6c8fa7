-- A cell in use, as the node of a tree.
use Rattle.std.proofs.Common.{◌≡◌, ℕ, ◌+◌, ◌<◌, List, ◌∷◌, ◌++◌, length, Some, None, Option, refl, ap, ◌∙◌, subst, arith}
use Rattle.std.proofs.lemmas.Grind.{flat_map-append}
use Rattle.std.specs.List.{slice_get}
use Rattle.kinds.specs.Kinds.{Meaning}
use Rattle.balance.specs.Trees.{node, elements}
use Rattle.balance.specs.Ways.{span}
use Rattle.cells.specs.declared.cell.Cell.{Cell}
use Rattle.cells.specs.Cells.{shape, counted, cell_count, tree, meant, linked, Live, Good, Sound}
use Rattle.std.proofs.lemmas.Option.{slice_get_within}
use Rattle.cells.proofs.Trees.{opened, none_tree}

module _ {E A S : Type 0} (k : Meaning E A S) (cells : List (Cell E S)) (sound : Sound k cells) where
  -- a link with a place under it names a cell
  pub inside_named : (i at : ℕ) → at < span (shape k) (tree cells i) → i < length cells
  inside_named i at inside = step (slice_get cells i) refl
    where
      step : (o : Option (Cell E S)) → slice_get cells i ≡ o → i < length cells
      step None is = absurd (omega (arith, ap (span (shape k)) (none_tree cells i is)))
      step (Some c) is = slice_get_within cells i c is

module _ {E A S : Type 0} {k : Meaning E A S} {cells : List (Cell E S)} (sound : Sound k cells) where
  module _ (i : ℕ) {c : Cell E S} (at : slice_get cells i ≡ Some c) (live : Live cells i) where
    pub node_live : 0 < c.refs
    node_live = subst linked at live

    pub node_good : Good k cells i c
    node_good = sound i c at node_live

    pub node_is : tree cells i ≡ node (tree cells c.left) c.element (tree cells c.right)
    node_is = opened k cells sound i c at node_live

    pub node_span : span (shape k) (tree cells i) ≡ span (shape k) (tree cells c.left) + length (k.atoms c.element) + span (shape k) (tree cells c.right)
    node_span = ap (span (shape k)) node_is

    pub node_count : cell_count cells i ≡ cell_count cells c.left + 1 + cell_count cells c.right
    node_count = ap counted at ∙ node_good.counts

    pub node_meant : meant k (tree cells i) ≡ meant k (tree cells c.left) ++ (k.atoms c.element ++ meant k (tree cells c.right))
    node_meant = ap (meant k) node_is ∙ flat_map-append k.atoms (elements (tree cells c.left)) (c.element ∷ elements (tree cells c.right))
