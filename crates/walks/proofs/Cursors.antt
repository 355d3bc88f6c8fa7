-- Cursors: where they begin, and what a step gives.
use Rattle.std.proofs.Common.{◌≡◌, ℕ, zero, suc, ◌+◌, ◌-◌, ◌<◌, ◌≤◌, false, eqb, List, [], ◌∷◌, ◌++◌, length, get_or, take, Some, sym, refl, ap, ◌∙◌, subst, ⊎_elim, append_assoc, append-nil, arith, eq-eqb, ne_eqb}
use Rattle.std.proofs.lemmas.List.{take_more}
use Rattle.std.proofs.lemmas.Bool.{cases_eq}
use Rattle.std.specs.List.{slice_get, flat_map}
use Rattle.kinds.specs.Kinds.{Meaning, Laws, Lawful, Within}
use Rattle.kinds.proofs.Totals.{part_lawful, part_extent}
use Rattle.balance.specs.Trees.{Tree, elements}
use Rattle.balance.specs.Levels.{most}
use Rattle.balance.specs.Links.{link, rebuilt}
use Rattle.balance.specs.Lists.{Shape, extents, front, back}
use Rattle.balance.specs.Ways.{Way, here, whole, Step, to_left, to_right, walked, passed_left, passed_right, passed_span, span, place, Found}
use Rattle.balance.specs.Edits.{more, listed, on_from, rest}
use Rattle.balance.proofs.Tests.{test_true, test_false}
use Rattle.balance.proofs.Mirrors.{mirror_span}
use Rattle.balance.proofs.Links.{link_elements}
use Rattle.balance.proofs.Lists.{extents_append, front_in, back_in, front_past}
use Rattle.balance.proofs.Ways.{span_extents, way_through, way_leads}
use Rattle.balance.proofs.Edits.{rest_listed}
use Rattle.balance.proofs.Loops.{rest_walked, walked_span}
use Rattle.cells.specs.declared.cell.Cell.{Cell}
use Rattle.cells.specs.Cells.{shape, counted, cell_count, tree, Live, Sound}
use Rattle.std.proofs.lemmas.Option.{slice_get_within}
use Rattle.walks.specs.declared.answers.Found.{Found as Answer}
use Rattle.walks.specs.declared.cursor.Cursor.{Cursor}
use Rattle.walks.specs.Nesting.{Nested, from_own, pending}
use Rattle.walks.specs.Walks.{Table, Walked}
use Rattle.walks.specs.Spines.{Spine}
use Rattle.walks.specs.Cursors.{Behind, Begun, waiting, ahead, Ready, Begins, Gave}
use Rattle.walks.proofs.Atoms.{atoms_between, tree_lawful}
use Rattle.walks.proofs.Nestings.{nested_push, nested_less, nested_wider, nested_pop, nested_last, pending_push, pending_begun}

-- ---- within an element

module _ {E A S : Type 0} (k : Meaning E A S) where
  pub behind_none : (e : E) (d : ℕ) → Lawful k e → d ≡ 0 → Behind k e d e
  unfolding on_from
  behind_none e d lawful none = record { lawful = lawful; wide = omega arith; is = sym (test_true (eqb d 0) _ _ (eq-eqb d 0 none)) }

  pub behind_some : Laws k → (e : E) (d : ℕ) (r : E) → Lawful k e → (d ≡ 0 → ⊥) → (within : Within k e d (length (k.atoms e) - d)) → r ≡ k.part e d (length (k.atoms e) - d) → Behind k e d r
  unfolding on_from
  behind_some laws e d r lawful some within is = record {
    lawful = subst (Lawful k) (sym is) (part_lawful k laws e d (length (k.atoms e) - d) lawful within);
    wide = ap (λ x. length (k.atoms x)) is ∙ part_extent k laws e d (length (k.atoms e) - d) lawful within;
    is = is ∙ sym (test_false (eqb d 0) _ _ (ne_eqb d 0 some));
  }

  behind_any : Laws k → (e : E) (d : ℕ) → Lawful k e → d < length (k.atoms e) → (f : E) × Behind k e d f
  behind_any laws e d lawful inside =
      ⊎_elim (λ none. (e, behind_none e d lawful none))
      (λ some. (k.part e d (length (k.atoms e) - d), behind_some laws e d (k.part e d (length (k.atoms e) - d)) lawful some (record { some = omega arith; inside = omega arith }) refl))
      (cases_eq d 0)

-- ---- the start of a range

-- what lies behind the nodes that a table passed to the left, the last of them first
abbrev behind_all : {E : Type 0} → List (E × Tree E) → List E
behind_all [] = []
behind_all (s ∷ ss) = behind_all ss ++ (s.0 ∷ elements s.1)

rebuilt_behind : {E : Type 0} (ss : List (E × Tree E)) (t : Tree E) → elements (rebuilt link ss t) ≡ elements t ++ behind_all ss
unfolding rebuilt
rebuilt_behind [] t = sym (append-nil (elements t))
rebuilt_behind (s ∷ ss) t =
    link_elements (rebuilt link ss t) s.0 s.1 ∙ ap (λ l. l ++ (s.0 ∷ elements s.1)) (rebuilt_behind ss t)
    ∙ append_assoc (elements t) (behind_all ss) (s.0 ∷ elements s.1)

behind_span : {E : Type 0} (k : Shape E) (ss : List (E × Tree E)) → extents k (behind_all ss) ≡ passed_span k ss
behind_span k [] = refl
behind_span k (s ∷ ss) = omega (arith, extents_append k (behind_all ss) (s.0 ∷ elements s.1), behind_span k ss, span_extents k s.1)

walked_place : {E : Type 0} (k : Shape E) (ss : List (Step E)) (w : Way E) → place k (walked ss w) ≡ passed_span k (passed_right ss) + place k w
walked_place k [] w = omega arith
walked_place k (to_left e r ∷ ss) w = walked_place k ss w
walked_place k (to_right l e ∷ ss) w = omega (arith, walked_place k ss w, mirror_span k l)

pending_table : {E S : Type 0} (cells : List (Cell E S)) (is : List ℕ) (ss : List (E × Tree E)) → Table false cells is ss → pending cells is ≡ behind_all ss
pending_table cells [] [] t = refl
pending_table cells [] (s ∷ ss) t = absurd t
pending_table cells (i ∷ is) [] t = absurd t
pending_table cells (i ∷ is) (s ∷ ss) t =
    let below = pending_table cells is ss t.1 in
    let at = ap (from_own cells) t.0.at in
    let same = ap (λ (x : _ × _). x.0 ∷ elements x.1) t.0.is in
    cc

here_rest : {E : Type 0} (k : Shape E) (l : Tree E) (e : E) (r : Tree E) (d : ℕ) → rest k (here l e r d) ≡ more (on_from k e d) r
unfolding rest
here_rest k l e r d = refl

module _ {E A S : Type 0} (k : Meaning E A S) (cells : List (Cell E S)) (root p : ℕ) (lefts rights : List ℕ) (r : Answer) (inside : p < span (shape k) (tree cells root))
    (w : Walked k cells root p lefts rights r) where
  abbrev stop : Way E
  stop = here (tree cells w.cell.left) w.cell.element (tree cells w.cell.right) r.offset

  -- what waits when the holding cell is put into the table
  abbrev after : List E
  after = elements (tree cells w.cell.right) ++ behind_all (passed_left w.steps)

  whole_is : whole (walked w.steps stop) ≡ tree cells root
  whole_is = ap whole (sym w.is) ∙ way_through (shape k) (tree cells root) p

  place_is : place (shape k) (walked w.steps stop) ≡ p
  place_is = ap (place (shape k)) (sym w.is) ∙ (way_leads (shape k) (tree cells root) p inside).to

  found_is : Found (shape k) (walked w.steps stop)
  found_is = subst (Found (shape k)) w.is (way_leads (shape k) (tree cells root) p inside).found

  back_is : back (shape k) p (elements (tree cells root)) ≡ on_from (shape k) w.cell.element r.offset ∷ after
  back_is =
      let rest_is = rest_walked (shape k) w.steps stop (on_from (shape k) w.cell.element r.offset) (tree cells w.cell.right) (here_rest (shape k) _ _ _ _) in
      ap (λ (n : ℕ). back (shape k) n (elements (tree cells root))) (sym place_is)
      ∙ ap (λ t. back (shape k) (place (shape k) (walked w.steps stop)) (elements t)) (sym whole_is)
      ∙ sym (rest_listed (shape k) (walked w.steps stop) found_is)
      ∙ ap listed rest_is
      ∙ ap (λ l. on_from (shape k) w.cell.element r.offset ∷ l) (rebuilt_behind (passed_left w.steps) (tree cells w.cell.right))

  after_wide : p + length (k.atoms w.cell.element) + extents (shape k) after ≡ span (shape k) (tree cells root) + r.offset
  after_wide =
      omega (
        arith,
        place_is,
        walked_place (shape k) w.steps stop,
        ap (span (shape k)) whole_is,
        walked_span (shape k) w.steps stop,
        extents_append (shape k) (elements (tree cells w.cell.right)) (behind_all (passed_left w.steps)),
        behind_span (shape k) (passed_left w.steps),
        span_extents (shape k) (tree cells w.cell.right),
      )

  pub walked_begins : Laws k → Sound k cells → Live cells root → (len : ℕ) → cell_count cells root ≤ most → p + len ≤ span (shape k) (tree cells root)
      → (table : List ℕ) (n : ℕ) → n ≡ length lefts → (length table ≡ 64) × (take (n + 1) table ≡ lefts ++ (r.cell ∷ []))
      → Begins k cells root p len (record { table = table; depth = n + 1; offset = r.offset; left = len })
  unfolding on_from
  walked_begins laws sound live len few within table n n_is laid =
      let filled = laid.1 in
      let waits : pending cells (take (n + 1) table) ≡ w.cell.element ∷ after =
      ap (pending cells) filled ∙ pending_push cells lefts r.cell ∙ ap (λ o. from_own cells o ++ pending cells lefts) w.at
      ∙ ap (λ l. (w.cell.element ∷ elements (tree cells w.cell.right)) ++ l) (pending_table cells lefts (passed_left w.steps) w.to_left) in
      let gives = ap (λ l. front (shape k) len (back (shape k) r.offset l)) waits
      ∙ ap (front (shape k) len) (back_in (shape k) w.cell.element after r.offset w.inside ∙ sym back_is) in
      record {
        ready = record {
          long = laid.0;
          fits = omega (arith, n_is, w.leads.short);
          spare = cell_count cells w.cell.left + 1;
          some = omega arith;
          nested = subst (λ is. Nested cells (most + 1) is (cell_count cells w.cell.left + 1)) (sym filled)
              (nested_wider cells (cell_count cells root + 1) (most + 1) (lefts ++ (r.cell ∷ [])) (cell_count cells w.cell.left + 1)
              (nested_push cells (cell_count cells root + 1) lefts (cell_count cells r.cell + 1) r.cell w.cell w.nested w.at w.live (omega arith)) (omega arith));
          begun = subst (Begun (shape k) r.offset) (sym waits) w.inside;
          within = omega (arith, after_wide, ap (extents (shape k)) waits);
        };
        gives = gives;
        atoms = ap (flat_map k.atoms) gives ∙ atoms_between k laws (elements (tree cells root)) p len (tree_lawful k cells sound root live);
        all = refl;
      }

-- ---- one step

module _ {E A S : Type 0} (k : Meaning E A S) where
  front_begun : (es : List E) → Begun (shape k) 0 es → front (shape k) 0 es ≡ []
  front_begun [] b = refl
  front_begun (e ∷ es) b = front_in (shape k) e es 0 b

  back_begun : (es : List E) → Begun (shape k) 0 es → back (shape k) 0 es ≡ es
  back_begun [] b = refl
  back_begun (e ∷ es) b = back_in (shape k) e es 0 b

  module _ (e f : E) (d : ℕ) (es : List E) (b : Behind k e d f) (inside : d < length (k.atoms e)) where
    back_step : back (shape k) d (e ∷ es) ≡ f ∷ es
    unfolding on_from
    back_step = back_in (shape k) e es d inside ∙ ap (λ x. x ∷ es) (sym b.is)

    -- nothing is left of the range
    pub step_none : front (shape k) 0 (back (shape k) d (e ∷ es)) ≡ []
    step_none = ap (front (shape k) 0) back_step ∙ front_begun (f ∷ es) (omega (arith, b.wide))

    module _ (begun : Begun (shape k) 0 es) (left : ℕ) where
      -- the range ends inside the element
      pub step_last : 0 < left → left < length (k.atoms f) → front (shape k) left (back (shape k) d (e ∷ es)) ≡ k.part f 0 left ∷ front (shape k) 0 (back (shape k) 0 es)
      step_last some less =
          ap (front (shape k) left) back_step ∙ front_in (shape k) f es left less ∙ test_false (eqb left 0) _ _ (ne_eqb left 0 (omega arith))
          ∙ ap (λ l. k.part f 0 left ∷ l) (sym (ap (front (shape k) 0) (back_begun es begun) ∙ front_begun es begun))

      -- it goes on behind the element
      pub step_whole : length (k.atoms f) ≤ left → front (shape k) left (back (shape k) d (e ∷ es)) ≡ f ∷ front (shape k) (left - length (k.atoms f)) (back (shape k) 0 es)
      step_whole enough =
          let rest : ℕ = left - length (k.atoms f) in
          let left_is : left ≡ length (k.atoms f) + rest = omega arith in
          ap (front (shape k) left) back_step ∙ ap (λ (n : ℕ). front (shape k) n (f ∷ es)) left_is ∙ front_past (shape k) f es rest
          ∙ ap (λ l. f ∷ front (shape k) rest l) (sym (back_begun es begun))

module _ {E A S : Type 0} {k : Meaning E A S} (laws : Laws k) {cells : List (Cell E S)} (sound : Sound k cells) {cursor : Cursor} (ready : Ready k cells cursor) where
  pub ready_deep : (cursor.left ≡ 0 → ⊥) → 1 ≤ cursor.depth
  ready_deep some = step cursor.depth refl
    where
      step : (n : ℕ) → cursor.depth ≡ n → 1 ≤ cursor.depth
      step zero is = absurd (some (omega (arith, ready.within, ap (λ (n : ℕ). extents (shape k) (pending cells (take n cursor.table))) is)))
      step (suc n) is = omega arith

  module _ (deep : 1 ≤ cursor.depth) where
    abbrev here_cell : ℕ
    here_cell = get_or cursor.table (cursor.depth - 1) 0

    abbrev below : List ℕ
    below = take (cursor.depth - 1) cursor.table

    filled : take cursor.depth cursor.table ≡ below ++ (here_cell ∷ [])
    filled =
        let top_is : cursor.depth ≡ cursor.depth - 1 + 1 = omega arith in
        ap (λ (n : ℕ). take n cursor.table) top_is ∙ take_more cursor.table (cursor.depth - 1) 0 (omega (arith, ready.fits, ready.long))

    nested_here : Nested cells (most + 1) (below ++ (here_cell ∷ [])) ready.spare
    nested_here = subst (λ is. Nested cells (most + 1) is ready.spare) filled ready.nested

    pub ready_named : here_cell < length cells
    ready_named = let top_used = nested_last cells (most + 1) below here_cell ready.spare nested_here in slice_get_within cells here_cell top_used.cell top_used.at

    module _ {c : Cell E S} (at : slice_get cells here_cell ≡ Some c) where
      pub ready_live : 0 < c.refs
      ready_live =
          let top_used = nested_last cells (most + 1) below here_cell ready.spare nested_here in
          let used = top_used.at in
          let same : top_used.cell ≡ c = cc in
          subst (λ (x : Cell E S). 0 < x.refs) same top_used.live

      abbrev behind_list : List E
      behind_list = elements (tree cells c.right) ++ pending cells below

      waits : waiting cells cursor ≡ c.element ∷ behind_list
      waits = ap (pending cells) filled ∙ pending_push cells below here_cell ∙ ap (λ o. from_own cells o ++ pending cells below) at

      pub ready_inside : cursor.offset < length (k.atoms c.element)
      ready_inside = subst (Begun (shape k) cursor.offset) waits ready.begun

      -- the table has room for what lies under the right child
      pub ready_nested : Nested cells (most + 1) below (cell_count cells c.right + 1)
      ready_nested =
          nested_less cells (most + 1) below (cell_count cells here_cell + 1) (cell_count cells c.right + 1) (nested_pop cells (most + 1) below here_cell ready.spare nested_here)
          (omega (arith, ap counted at, (sound here_cell c at ready_live).counts))

      module _ {table : List ℕ} {n : ℕ} (s : Spine cells below c.right table n) {f : E} (b : Behind k c.element cursor.offset f) where
        wide : extents (shape k) (waiting cells cursor) ≡ length (k.atoms c.element) + extents (shape k) (pending cells (take n table))
        wide = ap (extents (shape k)) waits ∙ ap (λ l. length (k.atoms c.element) + extents (shape k) l) (sym s.waits)

        begun' : Begun (shape k) 0 (pending cells (take n table))
        begun' = pending_begun k cells sound laws (most + 1) (take n table) 1 s.nested

        ahead_is : ahead k cells cursor ≡ front (shape k) cursor.left (back (shape k) cursor.offset (c.element ∷ pending cells (take n table)))
        ahead_is = ap (λ l. front (shape k) cursor.left (back (shape k) cursor.offset l)) (waits ∙ ap (λ l. c.element ∷ l) (sym s.waits))

        pub next_ready : (left : ℕ) → left ≤ cursor.left - length (k.atoms f) → Ready k cells (record { table = table; depth = n; offset = 0; left = left })
        next_ready left less = record {
          long = s.long;
          fits = s.fits;
          spare = 1;
          some = omega arith;
          nested = s.nested;
          begun = begun';
          within = omega (arith, ready.within, wide, b.wide, ready_inside);
        }

        pub gave_last : cursor.left < length (k.atoms f) → (e : E) → Within k f 0 cursor.left → e ≡ k.part f 0 cursor.left
            → Gave k cells cursor (record { table = table; depth = n; offset = 0; left = 0 }) e
        gave_last less e within is = record {
          lawful = subst (Lawful k) (sym is) (part_lawful k laws f 0 cursor.left b.lawful within);
          next = ahead_is ∙ step_last k c.element f cursor.offset (pending cells (take n table)) b ready_inside begun' cursor.left (omega (arith, within.some)) less
              ∙ ap (λ x. x ∷ front (shape k) 0 (back (shape k) 0 (pending cells (take n table)))) (sym is);
          spent = omega (arith, ap (λ x. length (k.atoms x)) is, part_extent k laws f 0 cursor.left b.lawful within);
        }

        pub gave_whole : (left : ℕ) → length (k.atoms f) ≤ cursor.left → left ≡ cursor.left - length (k.atoms f)
            → Gave k cells cursor (record { table = table; depth = n; offset = 0; left = left }) f
        gave_whole left enough is = record {
          lawful = b.lawful;
          next = ahead_is ∙ step_whole k c.element f cursor.offset (pending cells (take n table)) b ready_inside begun' cursor.left enough
              ∙ ap (λ (m : ℕ). f ∷ front (shape k) m (back (shape k) 0 (pending cells (take n table)))) (sym is);
          spent = omega arith;
        }

  -- nothing is left of the range
  pub ready_ended : cursor.left ≡ 0 → ahead k cells cursor ≡ []
  ready_ended none = ap (λ (n : ℕ). front (shape k) n (back (shape k) cursor.offset (waiting cells cursor))) none ∙ step cursor.depth refl
    where
      step : (n : ℕ) → cursor.depth ≡ n → front (shape k) 0 (back (shape k) cursor.offset (waiting cells cursor)) ≡ []
      step zero is = ap (λ (n : ℕ). front (shape k) 0 (back (shape k) cursor.offset (pending cells (take n cursor.table)))) is
      step (suc n) is =
          let deep : 1 ≤ cursor.depth = omega arith in
          let used = nested_last cells (most + 1) (below deep) (here_cell deep) ready.spare (nested_here deep) in
          let c = used.cell in
          let lawful = (sound (here_cell deep) c used.at used.live).lawful in
          let inside = ready_inside deep used.at in
          let f = behind_any k laws c.element cursor.offset lawful inside in
          ap (λ l. front (shape k) 0 (back (shape k) cursor.offset l)) (waits deep used.at)
          ∙ step_none k c.element f.0 cursor.offset (behind_list deep used.at) f.1 inside
