-- Tables of cells that lie inside one another: they are short, and what waits in them comes in order.
use Rattle.std.proofs.Common.{◌≡◌, ℕ, ◌+◌, ◌<◌, ◌≤◌, List, [], ◌∷◌, ◌++◌, length, take, set, Some, None, Option, sym, refl, ap, ◌∙◌, subst, append_assoc, append-nil, add-one, arith, length-set, length-take, take-suc-set}
use Rattle.std.specs.List.{slice_get}
use Rattle.kinds.specs.Kinds.{Meaning, Laws}
use Rattle.balance.specs.Trees.{elements}
use Rattle.balance.specs.Levels.{Levels, most, deepest}
use Rattle.balance.proofs.Levels.{levels_none, levels_more, levels_wider, levels_narrower, levels_few}
use Rattle.cells.specs.declared.cell.Cell.{Cell}
use Rattle.cells.specs.Cells.{shape, counted, cell_count, tree, linked, Live, Sound}
use Rattle.std.proofs.lemmas.Option.{slice_get_within}
use Rattle.cells.proofs.Trees.{none_tree, opened}
use Rattle.walks.specs.Nesting.{Nested, from_own, pending}
use Rattle.walks.specs.Spines.{Spine}
use Rattle.walks.specs.Cursors.{Begun}

module _ {E S : Type 0} (cells : List (Cell E S)) where
  pub nested_push : (w : ℕ) (is : List ℕ) (v i : ℕ) (c : Cell E S) → Nested cells w is v → slice_get cells i ≡ Some c → 0 < c.refs → cell_count cells i + 1 ≤ v
      → Nested cells w (is ++ (i ∷ [])) (cell_count cells c.left + 1)
  nested_push w [] v i c n at live light = record { cell = c; at = at; live = live; light = omega arith; left = omega arith }
  nested_push w (j ∷ is) v i c n at live light =
      record { cell = n.cell; at = n.at; live = n.live; light = n.light; left = nested_push (cell_count cells n.cell.left + 1) is v i c n.left at live light }

  pub nested_less : (w : ℕ) (is : List ℕ) (v u : ℕ) → Nested cells w is v → u ≤ v → Nested cells w is u
  nested_less w [] v u n less = omega arith
  nested_less w (j ∷ is) v u n less = record { cell = n.cell; at = n.at; live = n.live; light = n.light; left = nested_less (cell_count cells n.cell.left + 1) is v u n.left less }

  pub nested_wider : (w x : ℕ) (is : List ℕ) (v : ℕ) → Nested cells w is v → w ≤ x → Nested cells x is v
  nested_wider w x [] v n more = omega arith
  nested_wider w x (j ∷ is) v n more = record { cell = n.cell; at = n.at; live = n.live; light = omega (arith, n.light); left = n.left }

  pub nested_pop : (w : ℕ) (is : List ℕ) (i v : ℕ) → Nested cells w (is ++ (i ∷ [])) v → Nested cells w is (cell_count cells i + 1)
  nested_pop w [] i v n = n.light
  nested_pop w (j ∷ is) i v n = record { cell = n.cell; at = n.at; live = n.live; light = n.light; left = nested_pop (cell_count cells n.cell.left + 1) is i v n.left }

  -- the last cell is in use
  pub record InUse (i : ℕ) : Type 0 where
    pub cell : Cell E S
    pub at : slice_get cells i ≡ Some cell
    pub live : 0 < cell.refs

  pub nested_last : (w : ℕ) (is : List ℕ) (i v : ℕ) → Nested cells w (is ++ (i ∷ [])) v → InUse i
  nested_last w [] i v n = record { cell = n.cell; at = n.at; live = n.live }
  nested_last w (j ∷ is) i v n = nested_last (cell_count cells n.cell.left + 1) is i v n.left

  pub pending_push : (is : List ℕ) (i : ℕ) → pending cells (is ++ (i ∷ [])) ≡ from_own cells (slice_get cells i) ++ pending cells is
  pending_push [] i = sym (append-nil (from_own cells (slice_get cells i)))
  pending_push (j ∷ is) i =
      ap (λ l. l ++ from_own cells (slice_get cells j)) (pending_push is i) ∙ append_assoc (from_own cells (slice_get cells i)) (pending cells is) (from_own cells (slice_get cells j))

-- the walk down the left children stands at a cell
pub record SpineAt {E S : Type 0} (cells : List (Cell E S)) (old : List ℕ) (link : ℕ) (table : List ℕ) (n cell : ℕ) : Type 0 where
  pub live : Live cells cell
  pub long : length table ≡ 64
  pub fits : n ≤ 64
  pub nested : Nested cells (most + 1) (take n table) (cell_count cells cell + 1)
  pub waits : elements (tree cells cell) ++ pending cells (take n table) ≡ elements (tree cells link) ++ pending cells old

module _ {E A S : Type 0} (k : Meaning E A S) (cells : List (Cell E S)) (sound : Sound k cells) where
  -- from a cell to the next the weight falls to three quarters at most
  nested_levels : (w : ℕ) (is : List ℕ) (v : ℕ) → Nested cells w is v → Levels (length is) v w
  nested_levels w [] v n = levels_none v w n
  nested_levels w (i ∷ is) v n =
      let good = sound i n.cell n.at n.live in
      let below = nested_levels (cell_count cells n.cell.left + 1) is v n.left in
      levels_wider (length (i ∷ is)) v (cell_count cells i + 1) w
      (levels_more (length is) v (cell_count cells n.cell.left + 1) (cell_count cells i + 1) below (omega (arith, ap counted n.at, good.counts, good.left_light))) n.light

  pub nested_short : (is : List ℕ) (v : ℕ) → 1 ≤ v → Nested cells (most + 1) is v → length is ≤ deepest
  nested_short is v some n = levels_few (length is) (most + 1) (omega arith) (levels_narrower (length is) v (most + 1) (nested_levels (most + 1) is v n) some)

  module _ (laws : Laws k) where
    begun_append : (xs ys : List E) → Begun (shape k) 0 xs → Begun (shape k) 0 ys → Begun (shape k) 0 (xs ++ ys)
    begun_append [] ys a b = b
    begun_append (x ∷ xs) ys a b = a

    -- whatever waits has an atom
    pub pending_begun : (w : ℕ) (is : List ℕ) (v : ℕ) → Nested cells w is v → Begun (shape k) 0 (pending cells is)
    pending_begun w [] v n = tt
    pending_begun w (i ∷ is) v n =
        begun_append (pending cells is) (from_own cells (slice_get cells i)) (pending_begun (cell_count cells n.cell.left + 1) is v n.left)
        (subst (λ o. Begun (shape k) 0 (from_own cells o)) (sym n.at) (laws.some n.cell.element (sound i n.cell n.at n.live).lawful))

  pub spine_start : (table : List ℕ) (n link : ℕ) → Live cells link → length table ≡ 64 → n ≤ 64 → Nested cells (most + 1) (take n table) (cell_count cells link + 1) → SpineAt cells (take n table) link table n link
  spine_start table n link live long fits nested = record { live = live; long = long; fits = fits; nested = nested; waits = refl }

-- ---- down the left children

module _ {E A S : Type 0} {k : Meaning E A S} {cells : List (Cell E S)} (sound : Sound k cells) where
  module _ {old : List ℕ} {link : ℕ} {table : List ℕ} {n cell : ℕ} (s : SpineAt cells old link table n cell) where
    pub spine_room : n < 64
    spine_room = omega (arith, nested_short k cells sound (take n table) (cell_count cells cell + 1) (omega arith) s.nested, length-take n table, s.long, s.fits)

    pub spine_more : {c : Cell E S} → slice_get cells cell ≡ Some c → SpineAt cells old link (set table n cell) (n + 1) c.left
    spine_more {c} at =
        let live = subst linked at s.live in
        let good = sound cell c at live in
        let room : n < length table = omega (arith, spine_room, s.long) in
        let filled : take (n + 1) (set table n cell) ≡ take n table ++ (cell ∷ []) = rw add-one (take-suc-set table n cell room) in
        let shown : from_own cells (slice_get cells cell) ≡ c.element ∷ elements (tree cells c.right) = ap (from_own cells) at in
        record {
          live = good.left_live;
          long = length-set table n cell ∙ s.long;
          fits = omega (arith, spine_room);
          nested = subst (λ is. Nested cells (most + 1) is (cell_count cells c.left + 1)) (sym filled) (nested_push cells (most + 1) (take n table) (cell_count cells cell + 1) cell c s.nested at live (omega arith));
          waits =
              ap (λ is. elements (tree cells c.left) ++ pending cells is) filled
              ∙ ap (λ l. elements (tree cells c.left) ++ l) (pending_push cells (take n table) cell ∙ ap (λ l. l ++ pending cells (take n table)) shown)
              ∙ sym (append_assoc (elements (tree cells c.left)) (c.element ∷ elements (tree cells c.right)) (pending cells (take n table)))
              ∙ ap (λ t. elements t ++ pending cells (take n table)) (sym (opened k cells sound cell c at live))
              ∙ s.waits;
        }

    pub spine_falls : {c : Cell E S} → slice_get cells cell ≡ Some c → cell_count cells c.left < cell_count cells cell
    spine_falls {c} at = omega (arith, ap counted at, (sound cell c at (subst linked at s.live)).counts)

    -- a live link with no elements under it names no cell
    spine_none : cell_count cells cell ≡ 0 → slice_get cells cell ≡ None
    spine_none empty = step (slice_get cells cell) refl
      where
        step : (o : Option (Cell E S)) → slice_get cells cell ≡ o → o ≡ None
        step None is = refl
        step (Some c) is = absurd (omega (arith, ap counted is, (sound cell c is (subst linked is s.live)).counts))

    pub spine_named : 0 < cell_count cells cell → cell < length cells
    spine_named some = step (slice_get cells cell) refl
      where
        step : (o : Option (Cell E S)) → slice_get cells cell ≡ o → cell < length cells
        step None is = absurd (omega (arith, ap counted is))
        step (Some c) is = slice_get_within cells cell c is

    pub spine_end : cell_count cells cell ≡ 0 → Spine cells old link table n
    spine_end empty = record {
      long = s.long;
      fits = s.fits;
      nested = nested_less cells (most + 1) (take n table) (cell_count cells cell + 1) 1 s.nested (omega arith);
      waits = ap (λ t. elements t ++ pending cells (take n table)) (sym (none_tree cells cell (spine_none empty))) ∙ s.waits;
    }
