-- Paths, side by side.
use Rattle.std.proofs.Common.{◌≡◌, ℕ, ◌+◌, ◌-◌, ◌<◌, ◌≤◌, Bool, true, false, List, [], ◌∷◌, ◌++◌, length, Some, None, Option, sym, refl, ap, ◌∙◌, subst, arith, length-append}
use Rattle.std.specs.List.{slice_get}
use Rattle.kinds.specs.Kinds.{Meaning}
use Rattle.balance.specs.Ways.{span}
use Rattle.cells.specs.declared.cell.Cell.{Cell}
use Rattle.cells.specs.Cells.{shape, tree, linked, Live, Sound}
use Rattle.cells.specs.Reach.{child, follow}
use Rattle.walks.specs.Paths.{skipped, start_of, OnPath, ByPath}
use Rattle.walks.proofs.Nodes.{node_good, node_span}

-- a path of n sides leads to i, and b atoms lie before the tree under i
pub record Comes {E A S : Type 0} (k : Meaning E A S) (cells : List (Cell E S)) (root i n b : ℕ) : Type 0 where
  pub path : List Bool
  pub leads : follow cells root path ≡ i
  pub long : length path ≡ n
  pub before : start_of k cells root path ≡ b

module _ {E A S : Type 0} (k : Meaning E A S) (cells : List (Cell E S)) where
  -- one side more at the end of a path
  follow_more : (i : ℕ) (path : List Bool) (side : Bool) → follow cells i (path ++ (side ∷ [])) ≡ child side (follow cells i path) (slice_get cells (follow cells i path))
  follow_more i [] side = refl
  follow_more i (s ∷ path) side = follow_more (child s i (slice_get cells i)) path side

  start_more : (i : ℕ) (path : List Bool) (side : Bool) → start_of k cells i (path ++ (side ∷ [])) ≡ start_of k cells i path + skipped k cells side (slice_get cells (follow cells i path))
  start_more i [] side = omega arith
  start_more i (s ∷ path) side = omega (arith, start_more (child s i (slice_get cells i)) path side)

  pub comes_none : (root : ℕ) → Comes k cells root root 0 0
  comes_none root = record { path = []; leads = refl; long = refl; before = refl }

  module _ (root i n b : ℕ) (c : Cell E S) (at : slice_get cells i ≡ Some c) (comes : Comes k cells root i n b) where
    comes_more : (side : Bool) → Comes k cells root (child side i (Some c)) (n + 1) (b + skipped k cells side (Some c))
    comes_more side =
        let at_end_lem : slice_get cells (follow cells root comes.path) ≡ Some c = ap (slice_get cells) comes.leads ∙ at in
        record {
          path = comes.path ++ (side ∷ []);
          leads = follow_more root comes.path side ∙ cc (comes.leads, at_end_lem);
          long = omega (arith, length-append comes.path (side ∷ []), comes.long);
          before = start_more root comes.path side ∙ cc (comes.before, at_end_lem);
        }

    pub comes_left : Comes k cells root c.left (n + 1) b
    comes_left = let e : b + 0 ≡ b = omega arith in subst (λ (m : ℕ). Comes k cells root c.left (n + 1) m) e (comes_more false)

    pub comes_right : Comes k cells root c.right (n + 1) (b + (span (shape k) (tree cells c.left) + length (k.atoms c.element)))
    comes_right = comes_more true

    -- the cell holds the place that is told from where it begins
    pub comes_on : (p q : ℕ) → 0 < c.refs → b + span (shape k) (tree cells c.left) + q ≡ p → q < length (k.atoms c.element) → OnPath k cells root p comes.path
    comes_on p q live is low = record {
      cell = c;
      at = ap (slice_get cells) comes.leads ∙ at;
      live = live;
      begins = omega (arith, comes.before);
      ends = omega (arith, comes.before);
    }

module _ {E A S : Type 0} (k : Meaning E A S) (cells : List (Cell E S)) (sound : Sound k cells) where
  -- the tree that a path leads to lies within the one that it begins in
  abbrev Within : List Bool → ℕ → Type 0
  Within path i = start_of k cells i path + span (shape k) (tree cells (follow cells i path)) ≤ span (shape k) (tree cells i)

  within_more : (path : List Bool) → ((j : ℕ) → Live cells j → Within path j) → (side : Bool) (i : ℕ) (o : Option (Cell E S)) → slice_get cells i ≡ o → Live cells i
      → skipped k cells side o + start_of k cells (child side i o) path + span (shape k) (tree cells (follow cells (child side i o) path)) ≤ span (shape k) (tree cells i)
  within_more path below side i None at live = omega (arith, below i live)
  within_more path below false i (Some c) at live =
      omega (arith, below c.left (node_good sound _ at live).left_live, node_span sound _ at live)
  within_more path below true i (Some c) at live =
      omega (arith, below c.right (node_good sound _ at live).right_live, node_span sound _ at live)

  within : (path : List Bool) (i : ℕ) → Live cells i → Within path i
  within [] i live = omega arith
  within (side ∷ path) i live = within_more path (within path) side i (slice_get cells i) refl live

  on_inside : (i p : ℕ) (path : List Bool) → Live cells i → OnPath k cells i p path → p < span (shape k) (tree cells i)
  on_inside i p path live on =
      let there : Live cells (follow cells i path) = subst linked (sym on.at) on.live in
      omega (arith, within path i live, on.ends, node_span sound _ on.at there)

  -- no path leads on from where no cell stands
  lost_stays : (i : ℕ) (path : List Bool) → slice_get cells i ≡ None → slice_get cells (follow cells i path) ≡ None
  lost_stays i [] at = at
  lost_stays i (side ∷ path) at =
      subst (λ (o : Option (Cell E S)). slice_get cells (follow cells (child side i o) path) ≡ None) (sym at) (lost_stays i path at)

  module _ (i p : ℕ) (c : Cell E S) (at : slice_get cells i ≡ Some c) (live : Live cells i) where
    on_past : (side : Bool) (path : List Bool) → OnPath k cells i p (side ∷ path) → skipped k cells side (Some c) ≤ p
    on_past side path on = omega (arith, on.begins, ap (skipped k cells side) at)

    -- the rest of a path holds the rest of the place
    on_rest : (side : Bool) (path : List Bool) → OnPath k cells i p (side ∷ path) → OnPath k cells (child side i (Some c)) (p - skipped k cells side (Some c)) path
    on_rest side path on =
        let same = ap (skipped k cells side) at in
        let starts = ap (λ (o : Option (Cell E S)). start_of k cells (child side i o) path) at in
        record {
          cell = on.cell;
          at = subst (λ (o : Option (Cell E S)). slice_get cells (follow cells (child side i o) path) ≡ Some on.cell) at on.at;
          live = on.live;
          begins = omega (arith, on.begins, same, starts);
          ends = omega (arith, on.ends, on.begins, same, starts);
        }

    left_inside : (path : List Bool) → OnPath k cells i p (false ∷ path) → p < span (shape k) (tree cells c.left)
    left_inside path on = omega (arith, on_inside c.left (p - 0) path (node_good sound _ at live).left_live (on_rest false path on))

    here_is : OnPath k cells i p [] → (span (shape k) (tree cells c.left) ≤ p) × (p < span (shape k) (tree cells c.left) + length (k.atoms c.element))
    here_is on =
        let on_at = on.at in
        let same : on.cell ≡ c = cc in
        let before = ap (λ (d : Cell E S). span (shape k) (tree cells d.left)) same in
        let own = ap (λ (d : Cell E S). length (k.atoms d.element)) same in
        (omega (arith, on.begins, before), omega (arith, on.ends, before, own))

    -- a path that ends here is no path that goes on
    here_only : (side : Bool) (path : List Bool) → OnPath k cells i p [] → OnPath k cells i p (side ∷ path) → ⊥
    here_only false path on other = omega (arith, here_is on, left_inside path other)
    here_only true path on other = omega (arith, here_is on, on_past true path other)

    sides_only : (path other : List Bool) → OnPath k cells i p (false ∷ path) → OnPath k cells i p (true ∷ other) → ⊥
    sides_only path other on off = omega (arith, left_inside path on, on_past true other off)

  -- a path that holds a place begins at a cell
  begun : (i p : ℕ) (path : List Bool) → OnPath k cells i p path → (o : Option (Cell E S)) → slice_get cells i ≡ o → ((c : Cell E S) × (slice_get cells i ≡ Some c))
  begun i p path on None at =
      let lost = lost_stays i path at in
      let on_at = on.at in
      let no : ◌≡◌ {A = ℕ} 0 1 = cc in
      absurd (omega arith)
  begun i p path on (Some c) at = (c, at)

  -- only one path holds a place
  pub path_only : (path other : List Bool) (i p : ℕ) → Live cells i → OnPath k cells i p path → OnPath k cells i p other → path ≡ other
  path_only [] [] i p live on off = refl
  path_only [] (side ∷ other) i p live on off =
      let b = begun i p [] on (slice_get cells i) refl in
      absurd (here_only i p b.0 b.1 live side other on off)
  path_only (side ∷ path) [] i p live on off =
      let b = begun i p [] off (slice_get cells i) refl in
      absurd (here_only i p b.0 b.1 live side path off on)
  path_only (false ∷ path) (false ∷ other) i p live on off =
      let b = begun i p (false ∷ path) on (slice_get cells i) refl in
      ap (λ l. false ∷ l)
      (path_only path other b.0.left (p - 0) (node_good sound _ b.1 live).left_live (on_rest i p b.0 b.1 live false path on) (on_rest i p b.0 b.1 live false other off))
  path_only (false ∷ path) (true ∷ other) i p live on off =
      let b = begun i p (false ∷ path) on (slice_get cells i) refl in
      absurd (sides_only i p b.0 b.1 live path other on off)
  path_only (true ∷ path) (false ∷ other) i p live on off =
      let b = begun i p (true ∷ path) on (slice_get cells i) refl in
      absurd (sides_only i p b.0 b.1 live other path off on)
  path_only (true ∷ path) (true ∷ other) i p live on off =
      let b = begun i p (true ∷ path) on (slice_get cells i) refl in
      ap (λ l. true ∷ l)
      (path_only path other b.0.right (p - skipped k cells true (Some b.0)) (node_good sound _ b.1 live).right_live
      (on_rest i p b.0 b.1 live true path on) (on_rest i p b.0 b.1 live true other off))

  -- the path on which a walk came is the only one that holds the place, and the cells on it are counted
  abbrev pub path_counted : {root cell n base : ℕ} (comes : Comes k cells root cell n base) (p count : ℕ) → Live cells root → OnPath k cells root p comes.path → count ≡ n + 1
      → ByPath k cells root p count
  path_counted {root = root} comes p count live on is = record {
    path = comes.path;
    on_path = on;
    only = λ other off. path_only other comes.path root p live off on;
    counted_cells = omega (arith, comes.long);
  }
