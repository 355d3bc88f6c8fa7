-- The loop down the near side of a tree.
use Rattle.std.proofs.Common.{◌≡◌, ℕ, suc, ◌+◌, ◌*◌, ◌<◌, ◌≤◌, Bool, true, false, ltb, List, [], ◌∷◌, ◌++◌, length, get_or, Some, sym, refl, ap, ◌∙◌, subst, ⊎_elim, add-one, arith}
use Rattle.std.specs.List.{slice_get}
use Rattle.std.proofs.lemmas.List.{get_or_append_left, length_push}
use Rattle.std.proofs.Math.Seq.{get_or-append_seam}
use Rattle.std.proofs.lemmas.Bool.{cases_eq}
use Rattle.kinds.specs.Kinds.{Meaning}
use Rattle.balance.specs.Trees.{Tree, node, count, weight, Δ}
use Rattle.balance.specs.Links.{spine}
use Rattle.balance.specs.Levels.{most, deepest}
use Rattle.balance.proofs.Tests.{tests}
use Rattle.balance.proofs.Loops.{spine_down, spine_end}
use Rattle.cells.specs.declared.cell.Cell.{Cell}
use Rattle.cells.specs.Cells.{cell_count, seen, near, far, linked, Live, Sound}
use Rattle.cells.specs.Reach.{child}
use Rattle.links.specs.Climbing.{descent, Sunk}
use Rattle.links.proofs.Sides.{seen_known, seen_opened, near_live}
use Rattle.links.proofs.Twice.{seen_inside}

pub near_child : {E S : Type 0} (flip : Bool) (i : ℕ) (c : Cell E S) → near flip c ≡ child flip i (Some c)
near_child false i c = refl
near_child true i c = refl

pub descent_none : {E S : Type 0} (flip : Bool) (a : List (Cell E S)) (top : ℕ) → descent flip a top 0 ≡ top
unfolding descent
descent_none flip a top = refl

pub descent_more : {E S : Type 0} (flip : Bool) (a : List (Cell E S)) (top n : ℕ) → descent flip a top (suc n) ≡ child flip (descent flip a top n) (slice_get a (descent flip a top n))
unfolding descent
descent_more flip a top n = refl

-- the loop: the path leads down to x
pub record Sinking {E A S : Type 0} (k : Meaning E A S) (flip : Bool) (a : List (Cell E S)) (light : Tree E) (top : ℕ) (path : List ℕ) (x : ℕ) : Type 0 where
  pub are : (j : ℕ) → j < length path → get_or path j 0 ≡ descent flip a top j
  pub inside : (j : ℕ) → j < length path → get_or path j 0 < length a
  pub passed : (j : ℕ) → j < length path → Δ * weight light < weight (seen flip a (descent flip a top j))
  pub x_is : x ≡ descent flip a top (length path)
  pub live : Live a x
  pub few : cell_count a x ≤ most
  pub spine_is : length (spine light (seen flip a top)) ≡ length path + length (spine light (seen flip a x))

module _ {E A S : Type 0} {k : Meaning E A S} (flip : Bool) {a : List (Cell E S)} (sound : Sound k a) (left : ℕ) (left_live : Live a left) (top : ℕ) where
  abbrev L : Tree E
  L = seen flip a left

  pub sinking_start : Live a top → cell_count a top ≤ most → {path : List ℕ} → path ≡ [] → Sinking k flip a L top path top
  sinking_start live few {path} e = subst (λ path. Sinking k flip a L top path top) (sym e) (record {
    are = λ j h. absurd (omega arith);
    inside = λ j h. absurd (omega arith);
    passed = λ j h. absurd (omega arith);
    x_is = sym (descent_none flip a top);
    live = live;
    few = few;
    spine_is = omega arith;
  })

  module _ (deep : length (spine L (seen flip a top)) ≤ deepest) {path : List ℕ} {x : ℕ} (sinking : Sinking k flip a L top path x) where
    pub row : length path < 64
    row = omega (arith, deep, sinking.spine_is)

    x_counts : count (seen flip a x) ≡ cell_count a x
    x_counts = seen_known k flip a sound x sinking.live

    left_counts : count L ≡ cell_count a left
    left_counts = seen_known k flip a sound left left_live

    module _ {cl cx : ℕ} (cl_is : cl ≡ cell_count a left) (cx_is : cx ≡ cell_count a x) {too : Bool} (test : too ≡ ltb (Δ * (cl + 1)) (cx + 1)) where
      heavy : too ≡ true → Δ * weight L < weight (seen flip a x)
      heavy t = let f : ltb (Δ * (cl + 1)) (cx + 1) ≡ true = sym test ∙ t in omega (tests, left_counts, x_counts)

      beside : too ≡ false → weight (seen flip a x) ≤ Δ * weight L
      beside t = let f : ltb (Δ * (cl + 1)) (cx + 1) ≡ false = sym test ∙ t in omega (tests, left_counts, x_counts)

      pub x_inside : too ≡ true → x < length a
      x_inside t = seen_inside k flip a sound x sinking.live (let h = heavy t in omega arith)

      pub sunk : too ≡ false → Sunk k flip a L top path x
      sunk t = record {
        tabled = record { low = omega (arith, deep, sinking.spine_is); are = sinking.are; inside = sinking.inside };
        passed = sinking.passed;
        foot_is = sinking.x_is;
        beside = beside t;
        spine_is = let s = ap length (spine_end L (seen flip a x) (beside t)) in omega (arith, sinking.spine_is);
      }

      module _ (t : too ≡ true) {c : Cell E S} (at : slice_get a x ≡ Some c) {y : ℕ} (y_is : y ≡ near flip c) where
        live_x : 0 < c.refs
        live_x = subst linked at sinking.live

        y_live : Live a y
        y_live = subst (Live a) (sym y_is) (near_live k flip a x c (sound x c at live_x))

        y_tree : seen flip a x ≡ node (seen flip a y) c.element (seen flip a (far flip c))
        y_tree = seen_opened k flip a sound x c at live_x ∙ ap (λ i. node (seen flip a i) c.element (seen flip a (far flip c))) (sym y_is)

        pub lighter : cell_count a y < cell_count a x
        lighter = omega (arith, x_counts, seen_known k flip a sound y y_live, ap count y_tree)

        next_is : y ≡ descent flip a top (length path + 1)
        next_is =
            y_is ∙ near_child flip x c ∙ ap (child flip x) (sym at) ∙ ap (λ i. child flip i (slice_get a i)) sinking.x_is
            ∙ sym (descent_more flip a top (length path)) ∙ ap (descent flip a top) (sym (add-one (length path)))

        spine_next : length (spine L (seen flip a x)) ≡ length (spine L (seen flip a y)) + 1
        spine_next =
            let h : Δ * weight L < weight (node (seen flip a y) c.element (seen flip a (far flip c))) = subst (λ u. Δ * weight L < weight u) y_tree (heavy t) in
            let s = ap length (spine_down L (seen flip a y) c.element (seen flip a (far flip c)) h) in
            let u = ap (λ u. length (spine L u)) y_tree in
            omega arith

        -- what holds of each cell of the path holds of one more
        each_by : (P : ℕ → ℕ → Type 0) → ((j : ℕ) → j < length path → P j (get_or path j 0)) → P (length path) x → (j : ℕ) → j < length (path ++ (x ∷ [])) → P j (get_or (path ++ (x ∷ [])) j 0)
        each_by P before here j h = ⊎_elim
            (λ e. subst (λ i. P i (get_or (path ++ (x ∷ [])) i 0)) (sym e) (subst (P (length path)) (sym (get_or-append_seam path x [] 0)) here))
            (λ ne. let lt : j < length path = omega (arith, length_push path x) in subst (P j) (sym (get_or_append_left path (x ∷ []) 0 j lt)) (before j lt))
            (cases_eq j (length path))

        pub sinking_more : {next : List ℕ} → next ≡ path ++ (x ∷ []) → Sinking k flip a L top next y
        sinking_more e = subst (λ path. Sinking k flip a L top path y) (sym e) (record {
          are = each_by (λ j i. i ≡ descent flip a top j) sinking.are sinking.x_is;
          inside = each_by (λ j i. i < length a) sinking.inside (x_inside t);
          passed = each_by (λ j i. Δ * weight L < weight (seen flip a (descent flip a top j))) sinking.passed (subst (λ i. Δ * weight L < weight (seen flip a i)) sinking.x_is (heavy t));
          x_is = next_is ∙ ap (descent flip a top) (sym (length_push path x));
          live = y_live;
          few = omega (arith, lighter, sinking.few);
          spine_is = omega (arith, length_push path x, sinking.spine_is, spine_next);
        })
