-- A loose element and the tree behind it, taken apart.
use Rattle.std.proofs.Common.{◌≡◌, ℕ, ◌+◌, ◌-◌, ◌^◌, ◌<◌, ◌≤◌, false, ltb, List, [], ◌∷◌, ◌++◌, length, Some, None, Option, sym, refl, ap, ◌∙◌, subst, arith, length-append, le-ltb, lt-ltb}
use Rattle.faults.specs.Limits.{limit}
use Rattle.kinds.specs.Kinds.{Meaning, Laws}
use Rattle.balance.specs.Trees.{Tree, leaf, count}
use Rattle.balance.specs.Lists.{Shape, extents}
use Rattle.balance.specs.Links.{link}
use Rattle.balance.specs.Ways.{span}
use Rattle.balance.specs.Edits.{done, more, listed, Parted, up_to, on_from, parted, parted_rest}
use Rattle.balance.specs.Levels.{most}
use Rattle.balance.specs.Costs.{link_cost, up_to_cost, parted_cost, parted_rest_cost}
use Rattle.balance.proofs.Tests.{test_true, test_false}
use Rattle.balance.proofs.Ways.{span_extents}
use Rattle.balance.proofs.Edits.{Sound, parted_sound}
use Rattle.cells.specs.declared.cell.Cell.{Cell}
use Rattle.cells.specs.declared.pool.Pool.{Pool}
use Rattle.cells.specs.Cells.{shape, cell_count, tree, Live}
use Rattle.cells.specs.Reach.{Among, Stays}
use Rattle.cells.specs.References.{Arena, Owned, Holds}
use Rattle.cells.specs.Moves.{Moves, Makes, Releases}
use Rattle.cells.proofs.Names.{hit_same}
use Rattle.cells.proofs.Staying.{occurs_append}
use Rattle.cells.proofs.Arenas.{rooted}
use Rattle.cells.proofs.Moving.{moves_none, moves_then, seen_stays}
use Rattle.cells.proofs.Trees.{known}
use Rattle.links.specs.Sitting.{Linkable}
use Rattle.walks.proofs.Atoms.{tree_lawful}
use Rattle.splits.specs.declared.split.Loose.{Loose}
use Rattle.splits.specs.declared.split.Split.{Split}
use Rattle.splits.specs.Owning.{Owns}
use Rattle.splits.specs.Splitting.{behind, loose_roots, Tied, Grows, Splits, Partable}
use Rattle.splits.proofs.Places.{parted_extents}
use Rattle.splits.proofs.Spans.{first_extent}
use Rattle.splits.proofs.Nones.{none, none_far, owning_none, none_leaf, moves_to_none}
use Rattle.splits.proofs.Parts.{up_to_count, up_to_span}
use Rattle.splits.proofs.Merges.{behind_stays}

-- ---- on trees

module _ {E : Type 0} (s : Shape E) (e : E) (t : Tree E) (place : ℕ) where
  rest_inside : place < s.extent e → parted_rest s (more e t) place ≡ record { before = up_to s leaf e place; rest = more (on_from s e place) t }
  unfolding parted_rest
  rest_inside h = test_true (ltb place (s.extent e)) _ _ (lt-ltb place (s.extent e) h)

  rest_inside_cost : place < s.extent e → parted_rest_cost s (more e t) place ≡ up_to_cost {E = E} leaf place
  unfolding parted_rest_cost
  rest_inside_cost h = test_true (ltb place (s.extent e)) _ _ (lt-ltb place (s.extent e) h)

  rest_past : s.extent e ≤ place
      → parted_rest s (more e t) place ≡ record { before = link leaf e (parted s t (place - s.extent e)).before; rest = (parted s t (place - s.extent e)).rest }
  unfolding parted_rest
  rest_past h = test_false (ltb place (s.extent e)) _ _ (le-ltb place (s.extent e) h)

  rest_past_cost : s.extent e ≤ place → parted_rest_cost s (more e t) place ≡ parted_cost s t (place - s.extent e) + link_cost leaf (parted s t (place - s.extent e)).before
  unfolding parted_rest_cost
  rest_past_cost h = test_false (ltb place (s.extent e)) _ _ (le-ltb place (s.extent e) h)

-- ---- on cells

-- at most one root comes with what lies behind a place
pub loose_one : {E S : Type 0} (o : Option (Loose E S)) → length (loose_roots o) ≤ 1
loose_one None = omega arith
loose_one (Some l) = omega arith

module _ {E A S : Type 0} {k : Meaning E A S} {a : List (Cell E S)} {p : Pool} {l : Loose E S} {place : ℕ} (h : Partable k a p l place) (laws : Laws k) where
  abbrev e : E
  e = l.element

  abbrev t : Tree E
  t = tree a l.root

  abbrev owned : List ℕ
  owned = l.root ∷ h.owns.rest

  abbrev whole : Parted E
  whole = parted_rest (shape k) (more e t) place

  abbrev cost : ℕ
  cost = parted_rest_cost (shape k) (more e t) place

  none_is : tree a none ≡ leaf
  none_is = none_leaf k a p none none_far owned h.owns.arena

  -- the place is in the loose element
  module _ {own : ℕ} (own_is : own ≡ length (k.atoms e)) (before_own : place < own) where
    inside : place < length (k.atoms e)
    inside = omega (arith, own_is)

    pub up_owns : Owns k a p (none ∷ []) [] (2 ^ 22)
    up_owns = record { rest = owned; arena = owning_none k a p none none_far owned h.owns.arena; kept = λ i among. absurd (omega arith); few = omega (arith, h.owns.few) }

    pub up_few : count (up_to (shape k) (tree a none) e place) ≤ most
    up_few = omega (arith, up_to_count (shape k) (tree a none) e leaf place, ap count none_is)

    pub up_short : span (shape k) (up_to (shape k) (tree a none) e place) ≤ limit
    up_short = omega (arith, up_to_span (shape k) (tree a none) e leaf place (first_extent k laws e place h.tied.lawful inside) (omega arith), ap (span (shape k)) none_is, h.short)

    up_cost : up_to_cost (tree a none) place ≡ cost
    up_cost = ap (λ t. up_to_cost t place) none_is ∙ sym (rest_inside_cost (shape k) e t place inside)

    pub up_some : up_to_cost (tree a none) place ≤ p.free
    up_some = omega (arith, up_cost, h.some)

    pub splits_inside : {b : List (Cell E S)} {q : Pool} {r : ℕ} → Grows k false a p (none ∷ []) b q r (up_to (shape k) (tree a none) e place) (up_to_cost (tree a none) place)
        → {m : Loose E S} → Tied k m → m.element ≡ on_from (shape k) e place → m.root ≡ l.root
        → Splits k a p (l.root ∷ []) b q (record { before = r; loose = Some m }) whole cost
    splits_inside {b} {q} {r} up {m} tied element root_is =
        let is = rest_inside (shape k) e t place inside in
        let first : Moves k a p (l.root ∷ []) a p (none ∷ l.root ∷ []) (0 + 0) =
        moves_then k a p (l.root ∷ []) a p (l.root ∷ []) 0 (moves_none k a p (l.root ∷ [])) [] (l.root ∷ []) (λ j. omega arith) a p (none ∷ []) 0 (moves_to_none k a p none none_far) (none ∷ l.root ∷ []) (λ j. omega arith) in
        let all : Moves k a p (l.root ∷ []) b q (r ∷ l.root ∷ []) (0 + 0 + up_to_cost (tree a none) place) =
        moves_then k a p (l.root ∷ []) a p (none ∷ l.root ∷ []) (0 + 0) first (none ∷ []) (l.root ∷ []) (λ j. omega arith) b q (r ∷ []) (up_to_cost (tree a none) place) up.each (r ∷ l.root ∷ []) (λ j. omega arith) in
        let n : 0 + 0 + up_to_cost (tree a none) place ≡ cost = omega (arith, up_cost) in
        let kept = seen_stays false a b l.root ((up.each owned (owning_none k a p none none_far owned h.owns.arena)).stay l.root (let h = hit_same l.root in omega arith)) in
        record {
          each = subst (λ j. Moves k a p (l.root ∷ []) b q (r ∷ j ∷ []) cost) (sym root_is) (subst (Moves k a p (l.root ∷ []) b q (r ∷ l.root ∷ [])) n all);
          before_is = up.tree_is ∙ ap (λ t. up_to (shape k) t e place) none_is ∙ ap (λ s. s.before) (sym is);
          rest_is = ap (λ f. more f (tree b m.root)) element ∙ ap (λ j. more (on_from (shape k) e place) (tree b j)) root_is ∙ ap (more (on_from (shape k) e place)) kept ∙ ap (λ s. s.rest) (sym is);
          tied = tied;
        }

  -- it is behind it
  module _ {own : ℕ} (own_is : own ≡ length (k.atoms e)) (past_own : own ≤ place) where
    abbrev d : ℕ
    d = place - own

    past : length (k.atoms e) ≤ place
    past = omega (arith, own_is)

    d_is : d ≡ place - length (k.atoms e)
    d_is = ap (λ (n : ℕ). place - n) own_is

    abbrev s : Parted E
    s = parted (shape k) t d

    abbrev n : ℕ
    n = parted_cost (shape k) t d

    whole_is : whole ≡ record { before = link leaf e s.before; rest = s.rest }
    whole_is = rest_past (shape k) e t place past ∙ ap (λ (d : ℕ). record { before = link leaf e (parted (shape k) t d).before; rest = (parted (shape k) t d).rest }) (sym d_is)

    cost_is : cost ≡ n + link_cost leaf s.before
    cost_is = rest_past_cost (shape k) e t place past ∙ ap (λ (d : ℕ). parted_cost (shape k) t d + link_cost leaf (parted (shape k) t d).before) (sym d_is)

    root_live : Live a l.root
    root_live = rooted k a p owned h.owns.arena l.root (let h = hit_same l.root in omega arith)

    sound : Sound (count t) s.before s.rest
    sound = parted_sound (shape k) t d (known k a h.owns.arena.sound l.root root_live).balanced

    spans : span (shape k) s.before + extents (shape k) (listed s.rest) ≡ span (shape k) t
    spans = parted_extents k laws t d (tree_lawful k a h.owns.arena.sound l.root root_live)

    pub deeper_some : n ≤ p.free
    deeper_some = omega (arith, h.some, cost_is)

    module _ {b : List (Cell E S)} {q : Pool} {r : Split E S} (split : Splits k a p [] b q r s n) where
      abbrev xs : List ℕ
      xs = loose_roots r.loose

      abbrev left : List ℕ
      left = xs ++ h.owns.rest

      to_b : Moves k a p (l.root ∷ []) b q (l.root ∷ r.before ∷ xs) (0 + n)
      to_b = moves_then k a p (l.root ∷ []) a p (l.root ∷ []) 0 (moves_none k a p (l.root ∷ [])) [] (l.root ∷ []) (λ j. omega arith) b q (r.before ∷ xs) n split.each (l.root ∷ r.before ∷ xs) (λ j. omega arith)

      pub drop_arena : Arena k b q (l.root ∷ (r.before ∷ left))
      drop_arena = (to_b h.owns.rest h.owns.arena).arena

      pub drop_owned : Owned k b q (l.root ∷ [])
      drop_owned = (r.before ∷ left, drop_arena)

      root_is : tree b l.root ≡ t
      root_is = seen_stays false a b l.root ((split.each owned h.owns.arena).stay l.root (let h = hit_same l.root in omega arith))

      pub drop_few : cell_count b l.root ≤ most
      drop_few =
          let live = rooted k b q (l.root ∷ (r.before ∷ left)) drop_arena l.root (let h = hit_same l.root in omega arith) in
          omega (arith, (known k b drop_arena.sound l.root live).counts, ap count root_is, h.few)

      module _ {c : List (Cell E S)} {o : Pool} (drop : (rs : List ℕ) → Arena k b q (l.root ∷ rs) → Releases k b q rs c o) where
        to_c : Moves k a p (l.root ∷ []) c o (r.before ∷ xs) (0 + n + 0)
        to_c = moves_then k a p (l.root ∷ []) b q (l.root ∷ r.before ∷ xs) (0 + n) to_b (l.root ∷ []) (r.before ∷ xs) (λ j. omega arith) c o [] 0 (λ rs ar. (drop rs ar).moved) (r.before ∷ xs) (λ j. omega arith)

        arena_c : Arena k c o (r.before ∷ left)
        arena_c = (to_c h.owns.rest h.owns.arena).arena

        stays_c : (j : ℕ) → Among (r.before ∷ xs) j → Stays b c j
        stays_c j among = (drop (r.before ∷ left) drop_arena).moved.stay j (omega (arith, occurs_append xs h.owns.rest j))

        before_c : tree c r.before ≡ s.before
        before_c = seen_stays false b c r.before (stays_c r.before (let h = hit_same r.before in omega arith)) ∙ split.before_is

        none_c : tree c none ≡ leaf
        none_c = none_leaf k c o none none_far (r.before ∷ left) arena_c

        with_none : (rs : List ℕ) → Arena k c o (r.before ∷ rs) → Arena k c o (none ∷ r.before ∷ rs)
        with_none rs arena = owning_none k c o none none_far (r.before ∷ rs) arena

        pub link_holds : Holds k c o (none ∷ r.before ∷ []) (2 ^ 24)
        link_holds = record { rest = left; arena = with_none left arena_c; few = omega (arith, h.owns.few, length-append xs h.owns.rest, loose_one r.loose) }

        link_cost_is : link_cost (tree c none) (tree c r.before) ≡ link_cost leaf s.before
        link_cost_is = ap (λ t. link_cost t (tree c r.before)) none_c ∙ ap (link_cost leaf) before_c

        pub link_some : link_cost (tree c none) (tree c r.before) ≤ o.free
        link_some = omega (arith, link_cost_is, h.some, cost_is, (to_c h.owns.rest h.owns.arena).free)

        module _ {f : E} (f_is : f ≡ e) where
          pub link_linkable : Linkable k (tree c none) f (tree c r.before)
          link_linkable = record {
            few = omega (arith, ap count none_c, ap count before_c, sound.before_few, h.few);
            short = omega (arith, ap (span (shape k)) none_c, ap (span (shape k)) before_c, ap (shape k).extent f_is, spans, h.short);
          }

          module _ {z : List (Cell E S)} {w : Pool} {x : ℕ}
              (linked : Makes k false c o (none ∷ r.before ∷ []) z w x (link (tree c none) f (tree c r.before)) (link_cost (tree c none) (tree c r.before))) where
            link_moves : Moves k c o (r.before ∷ []) z w (x ∷ []) (link_cost (tree c none) (tree c r.before))
            link_moves rs arena = (linked rs (with_none rs arena)).moved

            pub splits_past : Splits k a p (l.root ∷ []) z w (record { before = x; loose = r.loose }) whole cost
            splits_past =
                let all = moves_then k a p (l.root ∷ []) c o (r.before ∷ xs) (0 + n + 0) to_c (r.before ∷ []) xs (λ j. omega arith) z w (x ∷ []) (link_cost (tree c none) (tree c r.before)) link_moves (x ∷ xs) (λ j. omega arith) in
                let m : 0 + n + 0 + link_cost (tree c none) (tree c r.before) ≡ cost = omega (arith, link_cost_is, cost_is) in
                let last = linked left (with_none left arena_c) in
                record {
                  each = subst (Moves k a p (l.root ∷ []) z w (x ∷ xs)) m all;
                  before_is = last.tree_is ∙ ap (λ t. link t f (tree c r.before)) none_c ∙ ap (λ g. link leaf g (tree c r.before)) f_is ∙ ap (link leaf e) before_c ∙ ap (λ s. s.before) (sym whole_is);
                  rest_is =
                      behind_stays c z r.loose (λ j among. last.moved.stay j (omega (arith, occurs_append xs h.owns.rest j)))
                      ∙ behind_stays b c r.loose (λ j among. stays_c j (omega arith)) ∙ split.rest_is ∙ ap (λ s. s.rest) (sym whole_is);
                  tied = split.tied;
                }

-- ---- nothing, or a loose element

pub nothing_splits : {E A S : Type 0} {k : Meaning E A S} {a : List (Cell E S)} {p : Pool} {rs : List ℕ} → Arena k a p rs → (place : ℕ) → Splits k a p [] a p (record { before = none; loose = None }) (parted_rest (shape k) done place) (parted_rest_cost (shape k) done place)
unfolding parted_rest parted_rest_cost
nothing_splits {k = k} {a = a} {p = p} {rs = rs} arena place = record { each = moves_to_none k a p none none_far; before_is = none_leaf k a p none none_far rs arena; rest_is = refl; tied = tt }

pub loose_short : {E A S : Type 0} (k : Meaning E A S) (a : List (Cell E S)) (l : Loose E S) → extents (shape k) (listed (behind a (Some l))) ≤ limit → length (k.atoms l.element) + span (shape k) (tree a l.root) ≤ limit
loose_short k a l short = omega (arith, short, span_extents (shape k) (tree a l.root))
