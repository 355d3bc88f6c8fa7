-- Ranges taken out and lists put in: when they are refused, and what is given back.
use Rattle.std.proofs.Common.{◌≡◌, ℕ, ◌+◌, ◌<◌, ◌≤◌, min, Bool, true, false, ltb, List, [], ◌∷◌, ◌++◌, length, Some, None, Option, sym, refl, ap, ◌∙◌, arith, ltb-true, le-ltb, lt-ltb, eq-eqb, ne_eqb}
use borrow.Author.Tests.{clash}
use Rattle.faults.specs.Limits.{limit}
use Rattle.faults.specs.declared.session.SessionFault.{SessionFault}
use Rattle.faults.specs.declared.session.SessionFault.TheVariants.{BeyondEnd, EmptyRange, RangePastEnd, ClipboardEmpty, ExtentLimit, ElementLimit, FewCells}
use Rattle.kinds.specs.Kinds.{Meaning}
use Rattle.kinds.specs.Places.{extent_of, put_at, without}
use Rattle.kinds.proofs.Places.{taken_fewer}
use Rattle.balance.specs.Levels.{most}
use Rattle.cells.specs.declared.cell.Cell.{Cell}
use Rattle.cells.specs.declared.pool.Pool.{Pool}
use Rattle.cells.specs.Cells.{cell_count}
use Rattle.cells.specs.References.{Arena}
use Rattle.cells.specs.Moves.{Moves, Releases}
use Rattle.cells.proofs.Staying.{occurs_append, stays_trans, takes_more, takes_trans}
use Rattle.cells.proofs.Moving.{moves_none, moves_more}
use Rattle.splits.specs.Owning.{Owns}
use Rattle.flat.specs.Refusals.{element_limit, cells_wanted, fault_if, first_of, unless, is_empty, range_past_end, beyond_end, too_long, too_many, few_cells_fault}
use Rattle.edits.specs.declared.removal.Removal.{Removal}
use Rattle.edits.specs.Edits.{list, edit_takes, Makes, Cuts}
use Rattle.edits.proofs.Roots.{list_stays, at_top, top_count, lent_count, lent_less}
use Rattle.tracks.specs.Laying.{no_room_fault}
use Rattle.tracks.specs.Moving.{not_taken, not_put, PutsIn}
use Rattle.tracks.proofs.Pieces.{puts, puts_good, puts_bad, same_room, Roomy, roomy}
use Rattle.tracks.proofs.Counts.{put_count, without_count}

-- the refusals of a call that takes a range out, as a function of what is said of the range
abbrev cuts : Option SessionFault → Option SessionFault → List (Option SessionFault) → List (Option SessionFault) → Option SessionFault
cuts empty past later last = first_of (((empty ∷ past ∷ []) ++ unless (first_of (empty ∷ past ∷ [])) later) ++ last)

module _ {E A S : Type 0} (k : Meaning E A S) (es : List E) (free from len : ℕ) where
  pub taken_empty : len ≡ 0 → not_taken k es free from len ≡ Some EmptyRange
  taken_empty h = ap (λ b. cuts (fault_if b EmptyRange) (range_past_end k es from len) (too_many (without k from len es) ∷ []) (few_cells_fault free ∷ [])) (eq-eqb len 0 h)

  pub taken_past : (len ≡ 0 → ⊥) → extent_of k es < from + len → not_taken k es free from len ≡ Some RangePastEnd
  taken_past h past =
      ap (λ b. cuts (fault_if b EmptyRange) (range_past_end k es from len) (too_many (without k from len es) ∷ []) (few_cells_fault free ∷ [])) (ne_eqb len 0 h)
      ∙ ap (λ b. cuts None (fault_if b RangePastEnd) (too_many (without k from len es) ∷ []) (few_cells_fault free ∷ [])) (lt-ltb (extent_of k es) (from + len) past)

  pub taken_room : (len ≡ 0 → ⊥) → from + len ≤ extent_of k es → not_taken k es free from len ≡ no_room_fault 0 (length (without k from len es)) free
  taken_room h inside =
      ap (λ b. cuts (fault_if b EmptyRange) (range_past_end k es from len) (too_many (without k from len es) ∷ []) (few_cells_fault free ∷ [])) (ne_eqb len 0 h)
      ∙ ap (λ b. cuts None (fault_if b RangePastEnd) (too_many (without k from len es) ∷ []) (few_cells_fault free ∷ [])) (le-ltb (extent_of k es) (from + len) inside)

empty_is : {X : Type 0} (xs : List X) → length xs ≡ 0 → is_empty xs ≡ true
empty_is [] h = refl
empty_is (x ∷ xs) h = absurd (omega arith)

empty_not : {X : Type 0} (xs : List X) → 1 ≤ length xs → is_empty xs ≡ false
empty_not [] h = absurd (omega arith)
empty_not (x ∷ xs) h = refl

grows_by : (b c d e : Bool) (f : SessionFault) → (c ≡ true → d ≡ true) → first_of (fault_if b ExtentLimit ∷ fault_if c ElementLimit ∷ None ∷ []) ≡ Some f
    → first_of (fault_if b ExtentLimit ∷ fault_if d ElementLimit ∷ fault_if e FewCells ∷ []) ≡ Some f
grows_by true c d e f so h = h
grows_by false true true e f so h = h
grows_by false true false e f so h = absurd (clash (so refl))
grows_by false false d e f so h = cc

-- what is too long, or has too many elements before it is divided, is refused so
pub room_grows : (x n m free : ℕ) (f : SessionFault) → n ≤ m → no_room_fault x n cells_wanted ≡ Some f → no_room_fault x m free ≡ Some f
room_grows x n m free f h e =
    grows_by (ltb limit x) (ltb element_limit n) (ltb element_limit m) (ltb free cells_wanted) f (λ t. lt-ltb element_limit m (let s = ltb-true element_limit n t in omega arith)) e

module _ {E A S : Type 0} (k : Meaning E A S) (es clip : List E) (free place : ℕ) where
  abbrev later : List (Option SessionFault)
  later = too_long k es clip ∷ too_many (put_at k place clip es) ∷ []

  pub put_beyond : extent_of k es < place → not_put k es clip free place ≡ Some BeyondEnd
  put_beyond h = ap (λ b. puts (fault_if b BeyondEnd) (fault_if (is_empty clip) ClipboardEmpty) later (few_cells_fault free ∷ [])) (lt-ltb (extent_of k es) place h)

  pub put_none : place ≤ extent_of k es → length clip ≡ 0 → not_put k es clip free place ≡ Some ClipboardEmpty
  put_none h e =
      puts_bad (beyond_end k es place) (fault_if (is_empty clip) ClipboardEmpty) later (few_cells_fault free ∷ []) ClipboardEmpty
      (ap (λ b. fault_if b BeyondEnd) (le-ltb (extent_of k es) place h)) (ap (λ b. fault_if b ClipboardEmpty) (empty_is clip e))

  pub put_room : place ≤ extent_of k es → 1 ≤ length clip → not_put k es clip free place ≡ no_room_fault (extent_of k es + extent_of k clip) (length (put_at k place clip es)) free
  put_room h e =
      puts_good (beyond_end k es place) (fault_if (is_empty clip) ClipboardEmpty) later (few_cells_fault free ∷ [])
      (ap (λ b. fault_if b BeyondEnd) (le-ltb (extent_of k es) place h)) (ap (λ b. fault_if b ClipboardEmpty) (empty_not clip e))

-- with so short a list the extent stands against nothing
pub short_room : (x n free : ℕ) → x ≤ limit → no_room_fault x n free ≡ no_room_fault 0 n free
short_room x n free h = ap (λ b. first_of (fault_if b ExtentLimit ∷ fault_if (ltb element_limit n) ElementLimit ∷ few_cells_fault free ∷ [])) (le-ltb limit x h)

-- nothing was done
pub unmoved : {E A S : Type 0} (k : Meaning E A S) (a : List (Cell E S)) (p : Pool) → Moves k a p [] a p [] edit_takes
unmoved k a p = moves_more k a p [] a p [] 0 edit_takes (omega arith) (moves_none k a p [])

-- one of the roots that came to be is given back
module _ {E A S : Type 0} (k : Meaning E A S) (a : List (Cell E S)) (p : Pool) (b : List (Cell E S)) (q : Pool) (r : ℕ) (ys : List ℕ) (n : ℕ) (move : Moves k a p [] b q (r ∷ ys) n)
    (c : List (Cell E S)) (w : Pool) (release : (rs : List ℕ) → Arena k b q (r ∷ rs) → Releases k b q rs c w) where
  released : Moves k a p [] c w ys n
  released rs arena =
      let x = move rs arena in
      let y = (release (ys ++ rs) x.arena).moved in
      record {
        arena = y.arena;
        stay = λ z among. stays_trans a b c z (x.stay z among) (y.stay z (omega (arith, among, occurs_append ys rs z)));
        takes = takes_more a c (n + 0) n (omega arith) (takes_trans a b c n 0 x.takes y.takes);
        free = omega (arith, x.free, y.free);
      }

-- ---- taking a range out

module _ {E A S : Type 0} {k : Meaning E A S} {a : List (Cell E S)} {p : Pool} {root n : ℕ} (owns : Owns k a p [] (root ∷ []) n) (few : length (list a root) ≤ element_limit)
    (from len : ℕ) (some : len ≡ 0 → ⊥) {w : ℕ} (width : w ≡ extent_of k (list a root)) where
  pub past_end : w < from + len → not_taken k (list a root) p.free from len ≡ Some RangePastEnd
  past_end h = taken_past k (list a root) p.free from len some (omega arith)

  module _ (inside : from + len ≤ w) {b : List (Cell E S)} {q : Pool} {r : Removal} (cuts : Cuts k a p b q r (list a root) from len edit_takes) where
    arena_b : Arena k b q (r.left ∷ r.taken ∷ owns.rest)
    arena_b = (cuts.each owns.rest owns.arena).arena

    pub left_room : {m : ℕ} → m ≡ cell_count b r.left → not_taken k (list a root) p.free from len ≡ no_room_fault 0 m p.free
    left_room {m} counts =
        taken_room k (list a root) p.free from len some (omega arith)
        ∙ same_room 0 0 (length (without k from len (list a root))) m p.free refl (omega (arith, top_count arena_b, ap length cuts.left))

    pub left_owned : (ys : List ℕ) × Arena k b q (r.left ∷ ys)
    left_owned = (r.taken ∷ owns.rest, arena_b)

    pub left_few : cell_count b r.left ≤ most
    left_few = omega (arith, top_count arena_b, ap length cuts.left, few, without_count k (list a root) from len)

    module _ (c : List (Cell E S)) (v : Pool) (first : (rs : List ℕ) → Arena k b q (r.left ∷ rs) → Releases k b q rs c v) where
      to_c : Moves k a p [] c v (r.taken ∷ []) edit_takes
      to_c = released k a p b q r.left (r.taken ∷ []) edit_takes cuts.each c v first

      arena_c : Arena k c v (r.taken ∷ owns.rest)
      arena_c = (to_c owns.rest owns.arena).arena

      pub taken_owned : (ys : List ℕ) × Arena k c v (r.taken ∷ ys)
      taken_owned = (owns.rest, arena_c)

      pub taken_few : cell_count c r.taken ≤ most
      taken_few =
          let same = list_stays b c r.taken ((first (r.taken ∷ owns.rest) arena_b).moved.stay r.taken (at_top r.taken owns.rest)) in
          omega (arith, top_count arena_c, ap length same, ap length cuts.range, few, taken_fewer k (list a root) from len)

      pub both_back : (d : List (Cell E S)) (x : Pool) → ((rs : List ℕ) → Arena k c v (r.taken ∷ rs) → Releases k c v rs d x) → Moves k a p [] d x [] edit_takes
      both_back d x second = released k a p c v r.taken [] edit_takes to_c d x second

-- ---- putting a list in

module _ {E A S : Type 0} {k : Meaning E A S} {a : List (Cell E S)} {p : Pool} {root clip n : ℕ} (owns : Owns k a p [] (root ∷ clip ∷ []) n)
    (place : ℕ) {w : ℕ} (width : w ≡ extent_of k (list a root)) where
  pub beyond : w < place → not_put k (list a root) (list a clip) p.free place ≡ Some BeyondEnd
  beyond h = put_beyond k (list a root) (list a clip) p.free place (omega arith)

  module _ (inside : place ≤ w) {m : ℕ} (more : m ≡ cell_count a clip) where
    clip_is : m ≡ length (list a clip)
    clip_is = more ∙ lent_count (lent_less owns)

    pub no_clip : m ≡ 0 → not_put k (list a root) (list a clip) p.free place ≡ Some ClipboardEmpty
    no_clip h = put_none k (list a root) (list a clip) p.free place (omega arith) (omega (arith, clip_is))

    module _ (some : m ≡ 0 → ⊥) {v : ℕ} (clip_width : v ≡ extent_of k (list a clip)) {h e : ℕ} (had : h ≡ cell_count a root) (capped : e ≡ min (h + m) 4294967295) where
      long : w + v ≡ extent_of k (list a root) + extent_of k (list a clip)
      long = omega arith

      counts : h + m ≡ length (list a root) + length (list a clip)
      counts = omega (arith, lent_count owns, clip_is)

      put_is : not_put k (list a root) (list a clip) p.free place ≡ no_room_fault (w + v) (length (put_at k place (list a clip) (list a root))) p.free
      put_is =
          put_room k (list a root) (list a clip) p.free place (omega arith) (omega (arith, clip_is))
          ∙ ap (λ x. no_room_fault x (length (put_at k place (list a clip) (list a root))) p.free) (sym long)

      -- too much before it is divided
      pub too_much : {f : SessionFault} → no_room_fault (w + v) e cells_wanted ≡ Some f → not_put k (list a root) (list a clip) p.free place ≡ Some f
      too_much {f} bad =
          let c = put_count k (list a root) (list a clip) place in
          put_is ∙ room_grows (w + v) e (length (put_at k place (list a clip) (list a root))) p.free f (omega (arith, c.least, counts)) bad

      module _ (room : no_room_fault (w + v) e cells_wanted ≡ None) where
        has : Roomy (w + v) e cells_wanted
        has = roomy (w + v) e cells_wanted room

        pub put_few : length (list a root) + length (list a clip) ≤ element_limit
        put_few = omega (arith, has.few, counts)

        pub put_short : extent_of k (list a root) + extent_of k (list a clip) ≤ limit
        put_short = omega (arith, has.short, long)

        module _ {b : List (Cell E S)} {q : Pool} {r : ℕ} (makes : Makes k a p b q r (put_at k place (list a clip) (list a root)) edit_takes) where
          new_arena : Arena k b q (r ∷ owns.rest)
          new_arena = (makes.each owns.rest owns.arena).arena

          pub new_room : {x : ℕ} → x ≡ cell_count b r → not_put k (list a root) (list a clip) p.free place ≡ no_room_fault 0 x p.free
          new_room {x} new =
              put_is ∙ short_room (w + v) (length (put_at k place (list a clip) (list a root))) p.free has.short
              ∙ same_room 0 0 (length (put_at k place (list a clip) (list a root))) x p.free refl (omega (arith, top_count new_arena, ap length makes.listed))

          pub new_owned : (ys : List ℕ) × Arena k b q (r ∷ ys)
          new_owned = (owns.rest, new_arena)

          pub new_few : cell_count b r ≤ most
          new_few =
              let c = put_count k (list a root) (list a clip) place in
              omega (arith, top_count new_arena, ap length makes.listed, c.most, put_few)

          pub new_back : (c : List (Cell E S)) (x : Pool) → ((rs : List ℕ) → Arena k b q (r ∷ rs) → Releases k b q rs c x) → Moves k a p [] c x [] edit_takes
          new_back c x release = released k a p b q r [] edit_takes makes.each c x release

          pub puts_in : {x : ℕ} → x ≡ cell_count b r → no_room_fault 0 x p.free ≡ None → PutsIn k a p root place clip b q r
          puts_in {x} new still = record {
            accepted = new_room new ∙ still;
            each = makes.each;
            listed = makes.listed;
            few = omega (arith, (roomy 0 x p.free still).few, top_count new_arena);
          }
