-- The walk to a tally, turn by turn.
use Rattle.std.proofs.Common.{◌≡◌, ℕ, ◌+◌, ◌<◌, ◌≤◌, List, [], ◌++◌, length, Some, sym, refl, ap, ◌∙◌, subst, append_assoc, append-nil, zero-add, arith, length-append}
use Rattle.std.specs.List.{slice_get}
use Rattle.faults.specs.Limits.{limit}
use Rattle.kinds.specs.Kinds.{Meaning, Laws, Tallies, total}
use Rattle.balance.specs.Trees.{Tree, node}
use Rattle.balance.specs.Levels.{most, deepest}
use Rattle.balance.specs.Ways.{depth, span, way}
use Rattle.balance.proofs.Ways.{way_left, way_here, way_right}
use Rattle.cells.specs.declared.cell.Cell.{Cell}
use Rattle.cells.specs.Cells.{shape, cell_count, tree, meant, sum_at, Live, Good, Sound}
use Rattle.cells.proofs.Trees.{meant_span}
use Rattle.walks.specs.Paths.{ByPath}
use Rattle.walks.specs.Tallying.{Passes, Finds}
use Rattle.walks.proofs.Nodes.{inside_named, node_live, node_good, node_is, node_span, node_meant}
use Rattle.walks.proofs.Descent.{leads_by}
use Rattle.walks.proofs.Paths.{Comes, comes_none, comes_left, comes_right, comes_on, path_counted}
use Rattle.walks.proofs.Sums.{Few, few_left, few_right, few_tree, sum_is, width_is}
use Rattle.walks.proofs.Halving.{tally_of, tally_append, tally_some, passes_in}

-- The walk stands at a cell. Before its tree lie base atoms, whose tally lacks rest; every place in its tree is as many
-- cells farther from the root as were passed.
pub record Sought {E A S : Type 0} (k : Meaning E A S) (tally : S → ℕ) (cells : List (Cell E S)) (root t cell rest base passed : ℕ) : Type 0 where
  pub live : Live cells cell
  pub front : List A
  pub behind : List A
  pub listed : meant k (tree cells root) ≡ front ++ (meant k (tree cells cell) ++ behind)
  pub based : length front ≡ base
  pub reached : tally_of k tally front + rest ≡ t
  pub inside : rest < tally_of k tally (meant k (tree cells cell))
  pub leads : (q : ℕ) → q < span (shape k) (tree cells cell) → depth (way (shape k) (tree cells root) (base + q)) ≡ passed + depth (way (shape k) (tree cells cell) q)
  pub comes : Comes k cells root cell passed base

module _ {A : Type 0} (front left own right behind : List A) where
  -- the same list, parted elsewhere
  to_left : front ++ ((left ++ (own ++ right)) ++ behind) ≡ front ++ (left ++ ((own ++ right) ++ behind))
  to_left = simp append_assoc

  to_right : front ++ ((left ++ (own ++ right)) ++ behind) ≡ (front ++ (left ++ own)) ++ (right ++ behind)
  to_right = simp append_assoc

  to_own : front ++ ((left ++ (own ++ right)) ++ behind) ≡ (front ++ left) ++ (own ++ (right ++ behind))
  to_own = simp append_assoc

module _ {E A S : Type 0} (k : Meaning E A S) (laws : Laws k) (tally : S → ℕ) (adds : Tallies k tally) (cells : List (Cell E S)) (sound : Sound k cells) where
  pub sought_start : (root t : ℕ) → Live cells root → t < tally_of k tally (meant k (tree cells root)) → Sought k tally cells root t root t 0 0
  sought_start root t live below = record {
    live = live;
    front = [];
    behind = [];
    listed = sym (append-nil (meant k (tree cells root)));
    based = refl;
    reached = omega (arith, adds.none);
    inside = below;
    leads = λ q inside. ap (λ (n : ℕ). depth (way (shape k) (tree cells root) n)) (zero-add q) ∙ sym (zero-add _);
    comes = comes_none k cells root;
  }

module _ {E A S : Type 0} {k : Meaning E A S} (laws : Laws k) {tally : S → ℕ} (adds : Tallies k tally) {cells : List (Cell E S)} (sound : Sound k cells) where
  module _ {root t cell rest base passed : ℕ} (live : Live cells root) (s : Sought k tally cells root t cell rest base passed) where
    some_inside : 0 < span (shape k) (tree cells cell)
    some_inside = omega (arith, tally_some k laws tally adds (meant k (tree cells cell)) rest s.inside, meant_span k (tree cells cell))

    pub sought_named : cell < length cells
    sought_named = inside_named k cells sound cell 0 some_inside

    pub sought_short : cell_count cells root ≤ most → passed ≤ deepest
    sought_short few = omega (arith, s.leads 0 some_inside, (leads_by k cells sound root (base + 0) _ live few refl).short)

    whole_few : Few k (s.front ++ (meant k (tree cells cell) ++ s.behind))
    whole_few = subst (Few k) s.listed (few_tree k cells sound root live)

    module _ {c : Cell E S} (at : slice_get cells cell ≡ Some c) where
      abbrev L : Tree E
      L = tree cells c.left

      abbrev R : Tree E
      R = tree cells c.right

      abbrev left_atoms : List A
      left_atoms = meant k L

      abbrev own_atoms : List A
      own_atoms = k.atoms c.element

      abbrev right_atoms : List A
      right_atoms = meant k R

      here_is : tree cells cell ≡ node L c.element R
      here_is = node_is sound _ at s.live

      here_meant : meant k (tree cells cell) ≡ left_atoms ++ (own_atoms ++ right_atoms)
      here_meant = node_meant sound _ at s.live

      listed_here : meant k (tree cells root) ≡ s.front ++ ((left_atoms ++ (own_atoms ++ right_atoms)) ++ s.behind)
      listed_here = s.listed ∙ ap (λ l. s.front ++ (l ++ s.behind)) here_meant

      few_here : Few k (s.front ++ ((left_atoms ++ (own_atoms ++ right_atoms)) ++ s.behind))
      few_here = subst (λ l. Few k (s.front ++ (l ++ s.behind))) here_meant whole_few

      few_node : Few k (left_atoms ++ (own_atoms ++ right_atoms))
      few_node = few_left k _ s.behind (few_right k s.front _ few_here)

      -- the tally of a node
      node_tally : tally_of k tally (meant k (tree cells cell)) ≡ tally_of k tally left_atoms + tally_of k tally own_atoms + tally_of k tally right_atoms
      node_tally =
          omega (
            arith,
            ap (tally_of k tally) here_meant,
            tally_append k laws tally adds left_atoms (own_atoms ++ right_atoms) few_node,
            tally_append k laws tally adds own_atoms right_atoms (few_right k left_atoms (own_atoms ++ right_atoms) few_node),
          )

      pub sought_left : rest < tally_of k tally left_atoms → Sought k tally cells root t c.left rest base (passed + 1)
      sought_left low = record {
        live = (node_good sound _ at s.live).left_live;
        front = s.front;
        behind = (own_atoms ++ right_atoms) ++ s.behind;
        listed = listed_here ∙ to_left s.front left_atoms own_atoms right_atoms s.behind;
        based = s.based;
        reached = s.reached;
        inside = low;
        leads = λ q inside.
            omega (
              arith,
              s.leads q (omega (arith, node_span sound _ at s.live)),
              ap (λ u. depth (way (shape k) u q)) here_is,
              ap depth (way_left (shape k) L c.element R q inside),
            );
        comes = comes_left k cells root cell passed base c at s.comes;
      }

      pub sought_right : (r b : ℕ) → rest ≡ tally_of k tally left_atoms + tally_of k tally own_atoms + r → b ≡ base + span (shape k) L + length own_atoms
          → Sought k tally cells root t c.right r b (passed + 1)
      sought_right r b rest_is b_is =
          let front' : List A = s.front ++ (left_atoms ++ own_atoms) in
          let listed' = listed_here ∙ to_right s.front left_atoms own_atoms right_atoms s.behind in
          let few' : Few k front' = few_left k front' (right_atoms ++ s.behind) (subst (Few k) listed' (few_tree k cells sound root live)) in
          record {
            live = (node_good sound _ at s.live).right_live;
            front = front';
            behind = s.behind;
            listed = listed';
            based = omega (arith, length-append s.front (left_atoms ++ own_atoms), length-append left_atoms own_atoms, meant_span k L, s.based);
            reached = omega (
              arith,
              s.reached,
              tally_append k laws tally adds s.front (left_atoms ++ own_atoms) few',
              tally_append k laws tally adds left_atoms own_atoms (few_right k s.front (left_atoms ++ own_atoms) few'),
            );
            inside = omega (arith, node_tally, s.inside);
            leads = λ q inside.
                let far = span (shape k) L + length own_atoms + q in
                let there : base + far ≡ b + q = omega arith in
                omega (
                  arith,
                  s.leads far (omega (arith, node_span sound _ at s.live)),
                  ap (λ (n : ℕ). depth (way (shape k) (tree cells root) n)) there,
                  ap (λ u. depth (way (shape k) u far)) here_is,
                  ap depth (way_right (shape k) L c.element R q),
                );
            comes =
                let b_far : base + (span (shape k) L + length own_atoms) ≡ b = omega arith in
                subst (λ (n : ℕ). Comes k cells root c.right (passed + 1) n) b_far (comes_right k cells root cell passed base c at s.comes);
          }

      pub sought_good : Good k cells cell c
      sought_good = node_good sound _ at s.live

      -- the summary that the left child tells
      pub sought_sum : {left : S} → left ≡ sum_at k cells c.left → left ≡ total k left_atoms
      sought_sum is = is ∙ sum_is k laws cells sound c.left sought_good.left_live

      pub sought_width : {left : S} → left ≡ sum_at k cells c.left → k.width left ≡ span (shape k) L
      sought_width is = ap k.width is ∙ width_is k laws cells sound c.left sought_good.left_live

      -- there are no more atoms before the cell's own, and before its right child, than the limit
      pub sought_few : base + span (shape k) L + length own_atoms ≤ limit
      sought_few =
          omega (
            arith,
            few_here.few,
            s.based,
            meant_span k L,
            length-append s.front ((left_atoms ++ (own_atoms ++ right_atoms)) ++ s.behind),
            length-append (left_atoms ++ (own_atoms ++ right_atoms)) s.behind,
            length-append left_atoms (own_atoms ++ right_atoms),
            length-append own_atoms right_atoms,
          )

      pub sought_found : (past n place count : ℕ) → cell_count cells root ≤ most → rest ≡ tally_of k tally left_atoms + past → Passes k tally own_atoms past n
          → place ≡ base + span (shape k) L + n → count ≡ passed + 1 → Finds k tally cells root t (record { place = place; count = count })
      sought_found past n place count few rest_is p place_is count_is =
          let front' : List A = s.front ++ left_atoms in
          let listed' = listed_here ∙ to_own s.front left_atoms own_atoms right_atoms s.behind in
          let few_all : Few k (front' ++ (own_atoms ++ (right_atoms ++ s.behind))) = subst (Few k) listed' (few_tree k cells sound root live) in
          let found = passes_in k laws tally adds front' own_atoms (right_atoms ++ s.behind) t past n few_all
          (omega (arith, s.reached, tally_append k laws tally adds s.front left_atoms (few_left k front' (own_atoms ++ (right_atoms ++ s.behind)) few_all))) p in
          let far : ℕ = span (shape k) L + n in
          let place_far : place ≡ base + far = omega arith in
          let place_front : length front' + n ≡ place = omega (arith, length-append s.front left_atoms, meant_span k L, s.based) in
          let deep : depth (way (shape k) (tree cells root) place) ≡ count =
          omega (
            arith,
            ap (λ (m : ℕ). depth (way (shape k) (tree cells root) m)) place_far,
            s.leads far (omega (arith, p.inside, node_span sound _ at s.live)),
            ap (λ u. depth (way (shape k) u far)) here_is,
            ap depth (way_here (shape k) L c.element R n p.inside),
          ) in
          record {
            passes = subst (λ (m : ℕ). Passes k tally (meant k (tree cells root)) t m) place_front (subst (λ l. Passes k tally l t (length front' + n)) (sym listed') found);
            leads = leads_by k cells sound root place count live few deep;
          }

      pub sought_path : (n place count : ℕ) → n < length own_atoms → place ≡ base + span (shape k) L + n → count ≡ passed + 1 → ByPath k cells root place count
      sought_path n place count low place_is count_is =
          let on = comes_on k cells root cell passed base c at s.comes place n (node_live sound _ at s.live) (omega arith) low in
          path_counted k cells sound s.comes place count live on count_is
