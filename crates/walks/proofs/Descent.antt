-- The walk to a place, turn by turn.
use Rattle.std.proofs.Common.{◌≡◌, ℕ, ◌+◌, ◌*◌, ◌^◌, ◌<◌, ◌≤◌, true, false, List, [], ◌∷◌, ◌++◌, length, Some, sym, refl, ap, ◌∙◌, subst, append-nil, arith, length-append}
use Rattle.std.specs.List.{slice_get}
use Rattle.kinds.specs.Kinds.{Meaning}
use Rattle.balance.specs.Trees.{Tree, node, count}
use Rattle.balance.specs.Ways.{depth, Step, to_left, to_right, walked, passed_left, passed_right, span, way}
use Rattle.balance.specs.Levels.{most, deepest}
use Rattle.balance.proofs.Ways.{way_left, way_here, way_right, way_shallow, way_deep}
use Rattle.balance.proofs.Loops.{walked_last, walked_depth, passed_left_append, passed_right_append}
use Rattle.cells.specs.declared.cell.Cell.{Cell}
use Rattle.cells.specs.Cells.{shape, cell_count, tree, seen, Live, Good, Sound}
use Rattle.cells.proofs.Trees.{known}
use Rattle.walks.specs.Nesting.{Nested}
use Rattle.walks.specs.Paths.{PathTo}
use Rattle.walks.specs.Walks.{Table, Leads, Walked}
use Rattle.walks.proofs.Nodes.{inside_named, node_live, node_good, node_is, node_span, node_count}
use Rattle.walks.proofs.Nestings.{nested_push, nested_less}
use Rattle.walks.proofs.Paths.{Comes, comes_none, comes_left, comes_right, comes_on, path_counted}
use Rattle.walks.proofs.Tables.{table_length, table_last}

-- the walk to the place p stands at a cell, with base atoms before its tree and the place at in it still to reach
pub record Descent {E A S : Type 0} (k : Meaning E A S) (cells : List (Cell E S)) (root p cell at : ℕ) (lefts rights : List ℕ) : Type 0 where
  pub live : Live cells cell
  pub inside : at < span (shape k) (tree cells cell)
  pub steps : List (Step E)
  pub is : way (shape k) (tree cells root) p ≡ walked steps (way (shape k) (tree cells cell) at)
  pub to_left : Table false cells lefts (passed_left steps)
  pub to_right : Table true cells rights (passed_right steps)
  pub nested : Nested cells (cell_count cells root + 1) lefts (cell_count cells cell + 1)
  pub base : ℕ
  pub comes : Comes k cells root cell (length lefts + length rights) base
  pub reached : base + at ≡ p

module _ {E A S : Type 0} (k : Meaning E A S) (cells : List (Cell E S)) (sound : Sound k cells) where
  -- the count of cells that lead to a place
  pub leads_by : (root p c : ℕ) → Live cells root → cell_count cells root ≤ most → depth (way (shape k) (tree cells root) p) ≡ c → Leads k cells root p c
  leads_by root p c live few is =
      let root_known = known k cells sound root live in
      let deep = way_deep (shape k) (tree cells root) p root_known.balanced in
      record {
        counted = sym is;
        deep = subst (λ (d : ℕ). 4 ^ d ≤ 3 ^ d * (count (tree cells root) + 1)) is deep;
        short = omega (arith, is, way_shallow (shape k) (tree cells root) p root_known.balanced (omega (arith, root_known.counts)));
      }

  pub start : (root p : ℕ) → Live cells root → p < span (shape k) (tree cells root) → Descent k cells root p root p [] []
  start root p live inside = record {
    live = live;
    inside = inside;
    steps = [];
    is = refl;
    to_left = tt;
    to_right = tt;
    nested = omega arith;
    base = 0;
    comes = comes_none k cells root;
    reached = omega arith;
  }

module _ {E A S : Type 0} {k : Meaning E A S} {cells : List (Cell E S)} (sound : Sound k cells) where
  module _ {root p cell at : ℕ} {lefts rights : List ℕ} (d : Descent k cells root p cell at lefts rights) where
    pub descent_named : cell < length cells
    descent_named = inside_named k cells sound cell at d.inside

    -- each cell that was passed is in one of the lists
    passed_depth : depth (way (shape k) (tree cells root) p) ≡ length lefts + length rights + depth (way (shape k) (tree cells cell) at)
    passed_depth =
        let deep = ap depth d.is ∙ walked_depth d.steps (way (shape k) (tree cells cell) at) in
        let x = table_length false cells lefts (passed_left d.steps) d.to_left in
        let y = table_length true cells rights (passed_right d.steps) d.to_right in
        omega arith

    -- so they are short
    pub descent_short : Live cells root → cell_count cells root ≤ most → length lefts + length rights ≤ deepest
    descent_short live few = omega (arith, passed_depth, (leads_by k cells sound root p _ live few refl).short)

    module _ {c : Cell E S} (e : slice_get cells cell ≡ Some c) where
      abbrev L : Tree E
      L = tree cells c.left

      abbrev R : Tree E
      R = tree cells c.right

      here_is : tree cells cell ≡ node L c.element R
      here_is = node_is sound _ e d.live

      pub descent_good : Good k cells cell c
      descent_good = node_good sound _ e d.live

      pub go_left : at < span (shape k) L → Descent k cells root p c.left at (lefts ++ (cell ∷ [])) rights
      go_left low = record {
        live = descent_good.left_live;
        inside = low;
        steps = d.steps ++ (to_left c.element R ∷ []);
        is = d.is ∙ ap (λ t. walked d.steps (way (shape k) t at)) here_is ∙ ap (walked d.steps) (way_left (shape k) L c.element R at low)
            ∙ sym (walked_last d.steps (to_left c.element R) (way (shape k) L at));
        to_left =
            rw (passed_left_append d.steps (to_left c.element R ∷ []))
            (table_last false cells lefts (passed_left d.steps) cell (c.element, R) d.to_left
            (record { cell = c; at = e; live = node_live sound _ e d.live; is = refl }));
        to_right = rw (passed_right_append d.steps (to_left c.element R ∷ []), append-nil (passed_right d.steps)) d.to_right;
        nested = nested_push cells (cell_count cells root + 1) lefts (cell_count cells cell + 1) cell c d.nested e (node_live sound _ e d.live) (omega arith);
        base = d.base;
        comes =
            let more : length lefts + length rights + 1 ≡ length (lefts ++ (cell ∷ [])) + length rights = omega (arith, length-append lefts (cell ∷ [])) in
            subst (λ (n : ℕ). Comes k cells root c.left n d.base) more (comes_left k cells root cell (length lefts + length rights) d.base c e d.comes);
        reached = d.reached;
      }

      pub go_right : (q : ℕ) → at ≡ span (shape k) L + length (k.atoms c.element) + q → Descent k cells root p c.right q lefts (rights ++ (cell ∷ []))
      go_right q is_at = record {
        live = descent_good.right_live;
        inside = omega (arith, d.inside, node_span sound _ e d.live);
        steps = d.steps ++ (to_right L c.element ∷ []);
        is = d.is ∙ ap (λ t. walked d.steps (way (shape k) t at)) here_is
            ∙ ap (λ (n : ℕ). walked d.steps (way (shape k) (node L c.element R) n)) is_at
            ∙ ap (walked d.steps) (way_right (shape k) L c.element R q)
            ∙ sym (walked_last d.steps (to_right L c.element) (way (shape k) R q));
        to_left = rw (passed_left_append d.steps (to_right L c.element ∷ []), append-nil (passed_left d.steps)) d.to_left;
        to_right =
            rw (passed_right_append d.steps (to_right L c.element ∷ []))
            (table_last true cells rights (passed_right d.steps) cell (c.element, seen true cells c.left) d.to_right
            (record { cell = c; at = e; live = node_live sound _ e d.live; is = refl }));
        nested = nested_less cells (cell_count cells root + 1) lefts (cell_count cells cell + 1) (cell_count cells c.right + 1) d.nested (omega (arith, node_count sound _ e d.live));
        base = d.base + (span (shape k) L + length (k.atoms c.element));
        comes =
            let more : length lefts + length rights + 1 ≡ length lefts + length (rights ++ (cell ∷ [])) = omega (arith, length-append rights (cell ∷ [])) in
            subst (λ (n : ℕ). Comes k cells root c.right n (d.base + (span (shape k) L + length (k.atoms c.element)))) more
            (comes_right k cells root cell (length lefts + length rights) d.base c e d.comes);
        reached = omega (arith, d.reached);
      }

      pub arrive : (q : ℕ) → Live cells root → cell_count cells root ≤ most → at ≡ span (shape k) L + q → q < length (k.atoms c.element)
          → Walked k cells root p lefts rights (record { cell = cell; offset = q })
      arrive q live few is_at low =
          let there : way (shape k) (tree cells cell) at ≡ way (shape k) (node L c.element R) (span (shape k) L + q) = cc (here_is, is_at) in
          let ends = way_here (shape k) L c.element R q low in
          let depth_is : depth (way (shape k) (tree cells root) p) ≡ length lefts + length rights + 1 = omega (arith, passed_depth, ap depth (there ∙ ends)) in
          record {
            cell = c;
            at = e;
            live = node_live sound _ e d.live;
            steps = d.steps;
            is = d.is ∙ ap (walked d.steps) (there ∙ ends);
            inside = low;
            to_left = d.to_left;
            to_right = d.to_right;
            nested = d.nested;
            leads = leads_by k cells sound root p (length lefts + length rights + 1) live few depth_is;
          }

      pub arrive_path : (q : ℕ) → Live cells root → at ≡ span (shape k) L + q → q < length (k.atoms c.element) → PathTo k cells root p (length lefts + length rights + 1) cell
      arrive_path q live is_at low =
          let on = comes_on k cells root cell (length lefts + length rights) d.base c e d.comes p q (node_live sound _ e d.live) (omega (arith, d.reached)) low in
          record { by_path = path_counted k cells sound d.comes p (length lefts + length rights + 1) live on refl; ended = d.comes.leads }
