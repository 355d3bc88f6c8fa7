-- Laying one piece, and one after the other.
use Rattle.std.proofs.Common.{◌≡◌, ℕ, ◌+◌, ◌*◌, ◌<◌, ◌≤◌, Bool, true, false, ltb, List, [], ◌∷◌, ◌++◌, length, get_or, take, Some, None, Ok, Err, Option, Result, sym, refl, ap, ◌∙◌, subst, append_assoc, append-nil, arith, length-append, drop-cons, ltb-false}
use Rattle.std.proofs.lemmas.List.{take_more}
use Rattle.faults.specs.Limits.{limit}
use Rattle.faults.specs.declared.causes.Cause.{Cause}
use Rattle.faults.specs.declared.session.SessionFault.{SessionFault}
use Rattle.faults.specs.declared.session.SessionFault.TheVariants.{BeyondEnd, Unlawful, ExtentLimit, ElementLimit, FewCells}
use Rattle.kinds.specs.Kinds.{Meaning}
use Rattle.kinds.specs.Places.{elements_of, extent, extent_of, put_at}
use Rattle.balance.specs.Trees.{elements}
use Rattle.balance.specs.Levels.{most}
use Rattle.cells.specs.declared.cell.Cell.{Cell}
use Rattle.cells.specs.declared.pool.Pool.{Pool}
use Rattle.cells.specs.Cells.{cell_count}
use Rattle.cells.specs.References.{Arena}
use Rattle.cells.specs.Moves.{Moves, Releases}
use Rattle.cells.proofs.Staying.{stays_trans, count_stays, takes_trans, takes_more}
use Rattle.cells.proofs.Arenas.{rerooted}
use Rattle.cells.proofs.Moving.{moves_more, moves_then}
use Rattle.flat.specs.Refusals.{element_limit, cells_wanted, fault_if, first_of, unless, unlawful, too_long, too_many, few_cells_fault, beyond_end}
use Rattle.flat.proofs.Acceptance.{not_above}
use Rattle.splits.proofs.Nones.{none_leaf, moves_to_none}
use Rattle.edits.specs.Edits.{list, insert_takes, Makes}
use Rattle.edits.proofs.Roots.{list_stays, at_top, top_count}
use Rattle.tracks.specs.declared.piece.Piece.{Piece}
use Rattle.tracks.specs.Laying.{least_free, no_room_fault, made_of, not_laid, next_not_laid, Lays, Refuses, LaysAll}
use Rattle.tracks.proofs.Counts.{put_end}

-- the refusals of a call that puts elements in, as a function of what is said of the place and of the elements
abbrev pub puts : Option SessionFault → Option SessionFault → List (Option SessionFault) → List (Option SessionFault) → Option SessionFault
puts place bad later last = first_of ((place ∷ bad ∷ unless (first_of (place ∷ bad ∷ [])) later) ++ last)

pub puts_good : (place bad : Option SessionFault) (later last : List (Option SessionFault)) → place ≡ None → bad ≡ None → puts place bad later last ≡ first_of (later ++ last)
puts_good place bad later last p b = ap (λ x. puts x bad later last) p ∙ ap (λ x. puts None x later last) b

pub puts_bad : (place bad : Option SessionFault) (later last : List (Option SessionFault)) (f : SessionFault) → place ≡ None → bad ≡ Some f → puts place bad later last ≡ Some f
puts_bad place bad later last f p b = ap (λ x. puts x bad later last) p ∙ ap (λ x. puts None x later last) b

pub same_room : (x y n m free : ℕ) → x ≡ y → n ≡ m → no_room_fault x n free ≡ no_room_fault y m free
same_room x y n m free e f = ap (λ z. no_room_fault z n free) e ∙ ap (λ z. no_room_fault y z free) f

module _ {E A S : Type 0} (k : Meaning E A S) (es : List E) (free : ℕ) (p : Piece) where
  at_end_lem : beyond_end k es (extent_of k es) ≡ None
  at_end_lem = (not_above (extent_of k es) (extent_of k es) BeyondEnd).1 (omega arith)

  abbrev later : Result E Cause → List (Option SessionFault)
  later r = too_long k es (elements_of r) ∷ too_many (put_at k (extent_of k es) (elements_of r) es) ∷ []

  pub not_made : (c : Cause) → Err c ≡ k.made p.first p.second → not_laid k es free p ≡ Some (Unlawful c)
  not_made c e = puts_bad (beyond_end k es (extent_of k es)) (unlawful (k.made p.first p.second)) (later (k.made p.first p.second)) (few_cells_fault free ∷ []) (Unlawful c) at_end_lem (sym (ap unlawful e))

  pub made_room : (e : E) → k.made p.first p.second ≡ Ok e → not_laid k es free p ≡ no_room_fault (extent_of k es + extent k e) (length es + 1) free
  made_room e m =
      let n = ap length (put_end k es (e ∷ [])) in
      let o = length-append es (e ∷ []) in
      puts_good (beyond_end k es (extent_of k es)) (unlawful (k.made p.first p.second)) (later (k.made p.first p.second)) (few_cells_fault free ∷ []) at_end_lem (ap unlawful m)
      ∙ ap (λ r. first_of (later r ++ (few_cells_fault free ∷ []))) m
      ∙ same_room (extent_of k es + (extent k e + 0)) (extent_of k es + extent k e) (length (put_at k (extent_of k es) (e ∷ []) es)) (length es + 1) free (omega arith) (omega arith)

-- what a list that has room obeys
pub record Roomy (extent elements free : ℕ) : Type 0 where
  pub short : extent ≤ limit
  pub few : elements ≤ element_limit
  pub some : 2048 ≤ free

all_false : (b c d : Bool) (x y z : SessionFault) → first_of (fault_if b x ∷ fault_if c y ∷ fault_if d z ∷ []) ≡ None → (b ≡ false) × (c ≡ false) × (d ≡ false)
all_false true c d x y z h = ((cc), (cc), (cc))
all_false false true d x y z h = ((cc), (cc), (cc))
all_false false false true x y z h = ((cc), (cc), (cc))
all_false false false false x y z h = (refl, refl, refl)

pub roomy : (x n free : ℕ) → no_room_fault x n free ≡ None → Roomy x n free
roomy x n free h =
    let f = all_false (ltb limit x) (ltb element_limit n) (ltb free cells_wanted) ExtentLimit ElementLimit FewCells h in
    record { short = ltb-false limit x f.0; few = ltb-false element_limit n f.1; some = ltb-false free cells_wanted f.2 }

-- ---- one piece: it is put in, and then the old root is given back

module _ {E A S : Type 0} {k : Meaning E A S} {a : List (Cell E S)} {p : Pool} {root : ℕ} {rs : List ℕ} (arena : Arena k a p (root ∷ rs)) (few : length (list a root) ≤ element_limit)
    (piece : Piece) {e : E} (made : Ok e ≡ k.made piece.first piece.second)
    {w x n : ℕ} (end_is : w ≡ extent_of k (list a root)) (long : x ≡ extent k e) (counts : n ≡ cell_count a root) where
  count_is : n ≡ length (list a root)
  count_is = counts ∙ top_count arena

  pub laid_room : not_laid k (list a root) p.free piece ≡ no_room_fault (w + x) (n + 1) p.free
  laid_room = made_room k (list a root) p.free piece e (sym made) ∙ same_room (extent_of k (list a root) + extent k e) (w + x) (length (list a root) + 1) (n + 1) p.free (omega (arith, end_is)) (omega (arith, count_is))

  module _ (room : no_room_fault (w + x) (n + 1) p.free ≡ None) where
    has : Roomy (w + x) (n + 1) p.free
    has = roomy (w + x) (n + 1) p.free room

    pub some : insert_takes ≤ p.free
    some = omega (arith, has.some)

    pub fewer : length (list a root) < element_limit
    fewer = omega (arith, has.few, count_is)

    pub shorter : extent_of k (list a root) + length (k.atoms e) ≤ limit
    shorter = omega (arith, has.short, end_is)

    module _ {b : List (Cell E S)} {q : Pool} {r : ℕ} (put : Makes k a p b q r (put_at k w (e ∷ []) (list a root)) insert_takes) where
      abbrev Old : List ℕ → Type 0
      Old rs = Arena k b q (root ∷ r ∷ rs)

      -- the new root, and the old one before it
      both_owned : (rs : List ℕ) → Arena k a p (root ∷ rs) → Old rs
      both_owned rs arena = rerooted k b q (r ∷ root ∷ rs) (put.each (root ∷ rs) arena).arena (root ∷ r ∷ rs) (λ i h. omega arith)

      pub old_owned : (ys : List ℕ) × Arena k b q (root ∷ ys)
      old_owned = (r ∷ rs, both_owned rs arena)

      pub old_few : cell_count b root ≤ most
      old_few = omega (arith, count_stays a b root ((put.each (root ∷ rs) arena).stay root (at_top root rs)), top_count arena)

      module _ (c : List (Cell E S)) (v : Pool) (release : (rs : List ℕ) → Arena k b q (root ∷ rs) → Releases k b q rs c v) where
        replaced : Moves k a p (root ∷ []) c v (r ∷ []) insert_takes
        replaced rs arena =
            let x = put.each (root ∷ rs) arena in
            let y = (release (r ∷ rs) (both_owned rs arena)).moved in
            record {
              arena = y.arena;
              stay = λ z among. stays_trans a b c z (x.stay z (omega (arith, among))) (y.stay z (omega (arith, among)));
              takes = takes_more a c (insert_takes + 0) insert_takes (omega arith) (takes_trans a b c insert_takes 0 x.takes y.takes);
              free = omega (arith, x.free, y.free);
            }

        new_list : list c r ≡ list a root ++ (e ∷ [])
        new_list =
            list_stays b c r ((release (r ∷ rs) (both_owned rs arena)).moved.stay r (at_top r rs))
            ∙ put.listed ∙ ap (λ n. put_at k n (e ∷ []) (list a root)) end_is ∙ put_end k (list a root) (e ∷ [])

        pub lays : Lays k a p root piece c v r
        lays = record {
          accepted = laid_room ∙ room;
          each = replaced;
          listed = new_list ∙ ap (λ z. list a root ++ elements_of z) made;
          few = omega (arith, ap length new_list, length-append (list a root) (e ∷ []), fewer);
          enough = omega (arith, has.some, (replaced rs arena).free);
        }

-- A track of no piece, and one piece more.
module _ {E A S : Type 0} (k : Meaning E A S) where
  made_append : (ps qs : List Piece) → made_of k (ps ++ qs) ≡ made_of k ps ++ made_of k qs
  made_append [] qs = refl
  made_append (p ∷ ps) qs = ap (λ l. elements_of (k.made p.first p.second) ++ l) (made_append ps qs) ∙ sym (append_assoc (elements_of (k.made p.first p.second)) (made_of k ps) (made_of k qs))

  made_more : (ps : List Piece) (i : ℕ) (d : Piece) → i < length ps
      → made_of k (take i ps) ++ elements_of (k.made (get_or ps i d).first (get_or ps i d).second) ≡ made_of k (take (i + 1) ps)
  made_more ps i d h =
      sym (ap (made_of k) (take_more ps i d h) ∙ made_append (take i ps) (get_or ps i d ∷ [])
      ∙ ap (λ l. made_of k (take i ps) ++ l) (append-nil (elements_of (k.made (get_or ps i d).first (get_or ps i d).second))))

  -- the track so far: the first i pieces
  pub record SoFar (a : List (Cell E S)) (p : Pool) (ps : List Piece) (b : List (Cell E S)) (q : Pool) (root i : ℕ) : Type 0 where
    pub each : Moves k a p [] b q (root ∷ []) (i * insert_takes)
    pub listed : list b root ≡ made_of k (take i ps)
    pub few : length (list b root) ≤ element_limit
    pub enough : least_free ≤ p.free → least_free ≤ q.free

  pub so_far_none : (a : List (Cell E S)) (p : Pool) (rs : List ℕ) → Arena k a p rs → (ps : List Piece) (i : ℕ) → 65535 ≤ i → SoFar a p ps a p i 0
  so_far_none a p rs arena ps i far =
      let none = ap elements (none_leaf k a p i far rs arena) in
      record { each = moves_to_none k a p i far; listed = none; few = omega (arith, ap length none); enough = λ h. h }

  module _ {a : List (Cell E S)} {p : Pool} {ps : List Piece} {b : List (Cell E S)} {q : Pool} {root i : ℕ} (so : SoFar a p ps b q root i) where
    pub so_far_more : (d : Piece) {c : List (Cell E S)} {w : Pool} {r : ℕ} → i < length ps → Lays k b q root (get_or ps i d) c w r → SoFar a p ps c w r (i + 1)
    so_far_more d {c} {w} {r} h lays = record {
      each = moves_more k a p [] c w (r ∷ []) (i * insert_takes + insert_takes) ((i + 1) * insert_takes) (omega arith)
          (moves_then k a p [] b q (root ∷ []) (i * insert_takes) so.each (root ∷ []) [] (λ j. omega arith) c w (r ∷ []) insert_takes lays.each (r ∷ []) (λ j. omega arith));
      listed = lays.listed ∙ ap (λ l. l ++ elements_of (k.made (get_or ps i d).first (get_or ps i d).second)) so.listed ∙ made_more ps i d h;
      few = lays.few;
      enough = λ h. lays.enough;
    }

    pub so_far_stopped : (d : Piece) {f : SessionFault} {c : List (Cell E S)} {w : Pool} → i < length ps → Refuses k (not_laid k (list b root) q.free (get_or ps i d)) b q c w f
        → LaysAll k a p ps c w (record { root = root; laid = i; done = Err f })
    so_far_stopped d {f} {c} {w} h refused = rw (refused.same_cells, refused.same_pool) (record {
      inside = omega arith;
      each = so.each;
      listed = so.listed;
      few = so.few;
      enough = so.enough;
      done = ap (next_not_laid k (list b root) q.free) (drop-cons ps i d h) ∙ refused.because;
    })

  pub so_far_all : {a : List (Cell E S)} {p : Pool} {ps : List Piece} {b : List (Cell E S)} {q : Pool} {root i : ℕ} → SoFar a p ps b q root i → i ≡ length ps
      → LaysAll k a p ps b q (record { root = root; laid = length ps; done = Ok tt })
  so_far_all {a} {p} {ps} {b} {q} {root} so h =
      let all = subst (SoFar a p ps b q root) h so in
      record { inside = omega arith; each = all.each; listed = all.listed; few = all.few; enough = all.enough; done = refl }
