-- The versions of a rearrangement, one step after the other, and all of them given back.
use Rattle.std.proofs.Common.{◌≡◌, ℕ, ◌-◌, ◌^◌, ◌≤◌, List, [], ◌∷◌, length, take, drop, Some, Ok, Err, sym, ⊎_elim, refl, ap, ◌∙◌, subst, arith}
use Rattle.std.proofs.lemmas.Bool.{cases_eq}
use Rattle.std.proofs.lemmas.List.{take_all}
use Rattle.std.proofs.lemmas.Result.{MatchResult-at_ok, MatchResult-at_err}
use Rattle.faults.specs.declared.session.SessionFault.{SessionFault}
use Rattle.kinds.specs.Kinds.{Meaning}
use Rattle.kinds.specs.Places.{put_at, taken, without}
use Rattle.kinds.proofs.Places.{taken_fewer}
use Rattle.balance.specs.Levels.{most}
use Rattle.cells.specs.declared.cell.Cell.{Cell}
use Rattle.cells.specs.declared.pool.Pool.{Pool}
use Rattle.cells.specs.Cells.{cell_count}
use Rattle.cells.specs.Reach.{Among, Reached, HowMany, none, one, other}
use Rattle.cells.specs.References.{Arena, NoneLost}
use Rattle.cells.specs.Moves.{Moved, Releases}
use Rattle.cells.proofs.Names.{hit_same, hit_other}
use Rattle.splits.specs.Owning.{Owns}
use Rattle.flat.specs.Refusals.{fewest_cells}
use Rattle.edits.specs.declared.removal.Removal.{Removal}
use Rattle.edits.specs.Edits.{list, edit_takes}
use Rattle.tracks.specs.declared.piece.Piece.{Piece}
use Rattle.tracks.specs.declared.piece.Laid.{Laid}
use Rattle.tracks.specs.declared.shift.Shift.{Shift}
use Rattle.tracks.specs.declared.version.Versions.{Versions}
use Rattle.tracks.specs.Laying.{least_free, made_of, next_not_laid, LaysAll}
use Rattle.tracks.specs.Moving.{not_taken, not_put, TakesOut, PutsIn, Declines, Stops, at_piece, at_cut, at_paste, rearranged, roots, Held, Kept}
use Rattle.tracks.proofs.Counts.{without_count}
use Rattle.edits.proofs.Roots.{list_stays, at_top, top_few}
use Rattle.tracks.proofs.Few.{one_each}

-- where no root is owned, no cell is reached
none_reached : {E S : Type 0} (a : List (Cell E S)) {n m : ℕ} → HowMany (Reached a []) n m → m ≡ 0
none_reached a none = refl
none_reached a (one r h) = absurd (omega (arith, r.among))
none_reached a (other r h) = none_reached a h

pub all_free : {E A S : Type 0} (k : Meaning E A S) (a : List (Cell E S)) (p : Pool) → NoneLost k a p [] → p.free ≡ length a
all_free k a p lost = omega (arith, lost.all, none_reached a lost.counted)

-- ---- giving roots back, one after the other

-- what holds of the first root and of the others holds of each
each_of : (P : ℕ → Type 0) (r : ℕ) (rs : List ℕ) → P r → ((i : ℕ) → Among rs i → P i) → (i : ℕ) → Among (r ∷ rs) i → P i
each_of P r rs first others i among = ⊎_elim (λ e. subst P e first) (λ ne. let o = hit_other r i (λ e. ne (sym e)) in others i (omega (arith, among))) (cases_eq r i)

module _ {E A S : Type 0} {k : Meaning E A S} {b : List (Cell E S)} {q : Pool} {r : ℕ} {rs : List ℕ} (held : Held k b q (r ∷ rs)) where
  pub held_owned : (ys : List ℕ) × Arena k b q (r ∷ ys)
  held_owned = (rs, held.arena)

  pub held_few : cell_count b r ≤ most
  held_few = top_few held.arena (held.few r (at_top r rs))

  pub held_less : (c : List (Cell E S)) (w : Pool) → ((rs : List ℕ) → Arena k b q (r ∷ rs) → Releases k b q rs c w) → Held k c w rs
  held_less c w release =
      let m = (release rs held.arena).moved in
      record { arena = m.arena; few = λ y among. omega (arith, ap length (list_stays b c y (m.stay y among)), held.few y (omega (arith, among))) }

-- ---- the steps

module _ {E A S : Type 0} {k : Meaning E A S} {pieces : List Piece} {a : List (Cell E S)} {p : Pool} (s : Shift) (arena : Arena k a p []) (some : fewest_cells ≤ p.free)
    {b : List (Cell E S)} {q : Pool} {t : Laid} (lays : LaysAll k a p pieces b q t) (same : length b ≡ length a) where
  arena_b : Arena k b q (t.root ∷ [])
  arena_b = (lays.each [] arena).arena

  pub stopped_piece : {f : SessionFault} → t.done ≡ Err f → Stops k (length a) pieces s f
  stopped_piece {f} e =
      at_piece t.laid b q t.root same arena_b lays.listed
      (MatchResult-at_err (λ _. t.laid ≡ length pieces) (λ f. next_not_laid k (list b t.root) q.free (drop t.laid pieces) ≡ Some f) f e lays.done)

  module _ {u : Unit {0}} (done : t.done ≡ Ok u) where
    all : t.laid ≡ length pieces
    all = MatchResult-at_ok (λ _. t.laid ≡ length pieces) (λ f. next_not_laid k (list b t.root) q.free (drop t.laid pieces) ≡ Some f) u done lays.done

    is_b : list b t.root ≡ made_of k pieces
    is_b = lays.listed ∙ ap (λ n. made_of k (take n pieces)) all ∙ ap (made_of k) (take_all (length pieces) pieces (omega arith))

    enough_b : least_free ≤ q.free
    enough_b = lays.enough (omega arith)

    pub owns_b : Owns k b q [] (t.root ∷ []) (2 ^ 14)
    owns_b = record { rest = t.root ∷ []; arena = arena_b; kept = λ i h. h; few = omega arith }

    pub some_b : edit_takes ≤ q.free
    some_b = let e = enough_b in omega arith

    pub stopped_cut : {c : List (Cell E S)} {w : Pool} {f : SessionFault} → Declines k (not_taken k (list b t.root) q.free s.from s.len) b q c w f → Stops k (length a) pieces s f
    stopped_cut d = at_cut b q t.root same arena_b is_b d.because

    module _ {c : List (Cell E S)} {w : Pool} {r : Removal} (outs : TakesOut k b q t.root s.from s.len c w r) (same_c : length c ≡ length a) where
      moved_c : Moved k b q (t.root ∷ []) c w (r.left ∷ r.taken ∷ []) edit_takes
      moved_c = outs.each (t.root ∷ []) arena_b

      root_c : list c t.root ≡ made_of k pieces
      root_c = list_stays b c t.root (moved_c.stay t.root (at_top t.root [])) ∙ is_b

      left_c : list c r.left ≡ without k s.from s.len (made_of k pieces)
      left_c = outs.left ∙ ap (without k s.from s.len) is_b

      range_c : list c r.taken ≡ taken k s.from s.len (made_of k pieces)
      range_c = outs.range ∙ ap (taken k s.from s.len) is_b

      pub owns_c : Owns k c w [] (r.left ∷ r.taken ∷ []) (2 ^ 14)
      owns_c = record { rest = r.left ∷ r.taken ∷ t.root ∷ []; arena = moved_c.arena; kept = λ i h. omega (arith, h); few = omega arith }

      pub some_c : edit_takes ≤ w.free
      some_c = let e = enough_b in omega (arith, moved_c.free)

      pub stopped_paste : {d : List (Cell E S)} {x : Pool} {f : SessionFault} → Declines k (not_put k (list c r.left) (list c r.taken) w.free s.to) c w d x f → Stops k (length a) pieces s f
      stopped_paste no_put = at_paste c w t.root r.left r.taken same_c moved_c.arena root_c left_c range_c no_put.because

      module _ {d : List (Cell E S)} {x : Pool} {moved : ℕ} (puts : PutsIn k c w r.left s.to r.taken d x moved) where
        moved_d : Moved k c w (r.left ∷ r.taken ∷ t.root ∷ []) d x (moved ∷ []) edit_takes
        moved_d = puts.each (r.left ∷ r.taken ∷ t.root ∷ []) moved_c.arena

        stay_d : (y : ℕ) → Among (r.left ∷ r.taken ∷ t.root ∷ []) y → list d y ≡ list c y
        stay_d y among = list_stays c d y (moved_d.stay y among)

        is_moved : list d moved ≡ rearranged k pieces s
        is_moved = puts.listed ∙ ap (λ l. put_at k s.to l (list c r.left)) range_c ∙ ap (put_at k s.to (taken k s.from s.len (made_of k pieces))) left_c

        pub kept_all : {l m n : ℕ} → l ≡ p.free - q.free → m ≡ q.free - w.free → n ≡ w.free - x.free
            → Kept k pieces s d x (record { laid = record { root = t.root; took = l }; left = record { root = r.left; took = m }; range = r.taken; moved = record { root = moved; took = n } })
        kept_all e f h = record {
          arena = moved_d.arena;
          is_laid = stay_d t.root (let h = hit_same t.root in omega arith) ∙ root_c;
          is_left = stay_d r.left (let h = hit_same r.left in omega arith) ∙ left_c;
          is_range = stay_d r.taken (let h = hit_same r.taken in omega arith) ∙ range_c;
          is_moved = is_moved;
          few = omega (arith, ap length is_b, lays.few);
          moved_few = omega (arith, ap length is_moved, puts.few);
          laid_took = omega (arith, one_each k b q t.root arena_b, ap length is_b, arena.all);
          cut_took = omega (arith, moved_c.free);
          moved_took = omega (arith, moved_d.free);
        }

-- what is kept can be given back
pub kept_held : {E A S : Type 0} {k : Meaning E A S} {pieces : List Piece} {s : Shift} {b : List (Cell E S)} {q : Pool} {v : Versions} → Kept k pieces s b q v → Held k b q (roots v)
kept_held {k = k} {pieces = pieces} {s = s} {b = b} {v = v} kept =
    let P : ℕ → Type 0 = λ r. length (list b r) ≤ most in
    record {
      arena = kept.arena;
      few =
          each_of P v.moved.root (v.left.root ∷ v.range ∷ v.laid.root ∷ []) (omega (arith, ap length kept.is_moved, kept.moved_few))
          (each_of P v.left.root (v.range ∷ v.laid.root ∷ []) (omega (arith, ap length kept.is_left, kept.few, without_count k (made_of k pieces) s.from s.len))
          (each_of P v.range (v.laid.root ∷ []) (omega (arith, ap length kept.is_range, kept.few, taken_fewer k (made_of k pieces) s.from s.len))
          (each_of P v.laid.root [] (omega (arith, ap length kept.is_laid, kept.few)) (λ i h. absurd (omega (arith, h))))));
    }
