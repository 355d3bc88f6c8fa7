-- What a round makes is given back.
use Rattle.std.proofs.Common.{◌≡◌, ℕ, ◌+◌, ◌*◌, ◌^◌, ◌≤◌, List, [], ◌∷◌, length, refl, ap, ◌∙◌, ⊎_elim, arith}
use Rattle.std.proofs.lemmas.Bool.{cases_lt}
use Rattle.kinds.specs.Kinds.{Meaning}
use Rattle.kinds.specs.Places.{put_at, taken, without}
use Rattle.kinds.proofs.Places.{taken_fewer}
use Rattle.flat.specs.Refusals.{element_limit}
use Rattle.balance.specs.Levels.{most}
use Rattle.cells.specs.declared.cell.Cell.{Cell}
use Rattle.cells.specs.declared.pool.Pool.{Pool}
use Rattle.cells.specs.Cells.{cell_count}
use Rattle.cells.specs.Reach.{hit, Among, AllStay}
use Rattle.cells.specs.References.{Arena}
use Rattle.cells.specs.Moves.{Moved, Moves, Releases}
use Rattle.cells.proofs.Staying.{stays_refl, stays_trans}
use Rattle.cells.proofs.Moving.{moves_then}
use Rattle.splits.specs.Owning.{Owns}
use Rattle.edits.specs.declared.removal.Removal.{Removal}
use Rattle.edits.specs.Edits.{edit_takes, copy_takes, list, Makes, Cuts}
use Rattle.edits.proofs.Roots.{list_stays, at_top, top_count, lent_among}
use Rattle.tracks.proofs.Counts.{put_count, without_count}
use Rattle.paces.specs.Rests.{Rests}
use Rattle.paces.proofs.Frees.{same_free, rests_moved}

module _ {E A S : Type 0} {k : Meaning E A S} {a : List (Cell E S)} {p : Pool} {xs : List ℕ} {n : ℕ} (owns : Owns k a p [] xs n) where
  -- an owned root that is not longer than a track, and two elements, can be released
  made_few : {b : List (Cell E S)} {q : Pool} {rs : List ℕ} {r : ℕ} → Arena k b q (r ∷ rs) → length (list b r) ≤ element_limit + 1 → cell_count b r ≤ most
  made_few arena few = omega (arith, top_count arena)

  -- a list is put in, and what was made is given back
  module _ (root place clip : ℕ) (few : length (list a root) + length (list a clip) ≤ element_limit) {b : List (Cell E S)} {q : Pool} {r : ℕ} (makes : Makes k a p b q r (put_at k place (list a clip) (list a root)) edit_takes) where
    made_arena : Arena k b q (r ∷ owns.rest)
    made_arena = (makes.each owns.rest owns.arena).arena

    pub made_owned : (ys : List ℕ) × Arena k b q (r ∷ ys)
    made_owned = (owns.rest, made_arena)

    pub made_light : cell_count b r ≤ most
    made_light = made_few made_arena (omega (arith, ap length makes.listed, (put_count k (list a root) (list a clip) place).most))

    pub made_count : {n : ℕ} → n ≡ cell_count b r → n ≡ length (put_at k place (list a clip) (list a root))
    made_count counts = omega (arith, top_count made_arena, ap length makes.listed)

    pub made_rests : (c : List (Cell E S)) (o : Pool) → ((rs : List ℕ) → Arena k b q (r ∷ rs) → Releases k b q rs c o) → length c ≡ length a → Rests k a p c o
    made_rests c o drop long =
        rests_moved k a p c o (edit_takes + 0) (moves_then k a p [] b q (r ∷ []) edit_takes makes.each (r ∷ []) [] (λ i. omega arith) c o [] 0 (λ rs ar. (drop rs ar).moved) [] (λ i. omega arith)) long

  -- a range is cut out, and both lists are given back
  module _ (root from len : ℕ) (few : length (list a root) ≤ element_limit) {b : List (Cell E S)} {q : Pool} {r : Removal} (cuts : Cuts k a p b q r (list a root) from len edit_takes) where
    pub cut_arena : Arena k b q (r.left ∷ (r.taken ∷ owns.rest))
    cut_arena = (cuts.each owns.rest owns.arena).arena

    pub left_owned : (ys : List ℕ) × Arena k b q (r.left ∷ ys)
    left_owned = (r.taken ∷ owns.rest, cut_arena)

    pub left_light : cell_count b r.left ≤ most
    left_light = made_few cut_arena (omega (arith, ap length cuts.left, without_count k (list a root) from len))

    pub left_count : {n : ℕ} → n ≡ cell_count b r.left → n ≡ length (without k from len (list a root))
    left_count counts = omega (arith, top_count cut_arena, ap length cuts.left)

    module _ (c : List (Cell E S)) (o : Pool) (drop : (rs : List ℕ) → Arena k b q (r.left ∷ rs) → Releases k b q rs c o) where
      to_c : Moves k a p [] c o (r.taken ∷ []) (edit_takes + 0)
      to_c = moves_then k a p [] b q (r.left ∷ r.taken ∷ []) edit_takes cuts.each (r.left ∷ []) (r.taken ∷ []) (λ i. omega arith) c o [] 0 (λ rs ar. (drop rs ar).moved) (r.taken ∷ []) (λ i. omega arith)

      pub taken_arena : Arena k c o (r.taken ∷ owns.rest)
      taken_arena = (to_c owns.rest owns.arena).arena

      pub taken_owned : (ys : List ℕ) × Arena k c o (r.taken ∷ ys)
      taken_owned = (owns.rest, taken_arena)

      pub taken_light : cell_count c r.taken ≤ most
      taken_light =
          let stays = (drop (r.taken ∷ owns.rest) cut_arena).moved.stay r.taken (at_top r.taken owns.rest) in
          made_few taken_arena (omega (arith, ap length (list_stays b c r.taken stays), ap length cuts.range, taken_fewer k (list a root) from len))

      pub cut_rests : (d : List (Cell E S)) (w : Pool) → ((rs : List ℕ) → Arena k c o (r.taken ∷ rs) → Releases k c o rs d w) → length d ≡ length a → Rests k a p d w
      cut_rests d w drop' long =
          rests_moved k a p d w (edit_takes + 0 + 0)
          (moves_then k a p [] c o (r.taken ∷ []) (edit_takes + 0) to_c (r.taken ∷ []) [] (λ i. omega arith) d w [] 0 (λ rs ar. (drop' rs ar).moved) [] (λ i. omega arith)) long

-- ---- from round to round

pub rests_refl : {E A S : Type 0} (k : Meaning E A S) (a : List (Cell E S)) (p : Pool) → Rests k a p a p
rests_refl k a p rs arena = record { arena = arena; stay = λ r among. stays_refl a r; free = refl }

pub rests_then : {E A S : Type 0} (k : Meaning E A S) (a : List (Cell E S)) (p : Pool) (b : List (Cell E S)) (q : Pool) (c : List (Cell E S)) (o : Pool) → Rests k a p b q → Rests k b q c o → Rests k a p c o
rests_then k a p b q c o first second rs arena =
    let x = first rs arena in
    let y = second rs x.arena in
    record { arena = y.arena; stay = λ r among. stays_trans a b c r (x.stay r among) (y.stay r among); free = y.free ∙ x.free }

module _ {E A S : Type 0} {k : Meaning E A S} {a : List (Cell E S)} {p : Pool} {xs : List ℕ} {n : ℕ} (owns : Owns k a p [] xs n) {b : List (Cell E S)} {q : Pool} (rests : Rests k a p b q) where
  pub rests_owns : Owns k b q [] xs n
  rests_owns = record { rest = owns.rest; arena = (rests owns.rest owns.arena).arena; kept = owns.kept; few = owns.few }

  pub rests_list : (r : ℕ) → Among xs r → list b r ≡ list a r
  rests_list r among = list_stays a b r ((rests owns.rest owns.arena).stay r (owns.kept r among))

  pub rests_free : q.free ≡ p.free
  rests_free = (rests owns.rest owns.arena).free

-- ---- a clip, the rounds, and the clip given back

module _ {E A S : Type 0} {k : Meaning E A S} {a : List (Cell E S)} {p : Pool} {root : ℕ} (len : ℕ) (owns : Owns k a p [] (root ∷ []) (2 ^ 14)) (few : length (list a root) ≤ element_limit) (some : 2048 ≤ p.free)
    {b : List (Cell E S)} {q : Pool} {clip : ℕ} (makes : Makes k a p b q clip (taken k 0 len (list a root)) copy_takes) where
  copied : Moved k a p owns.rest b q (clip ∷ []) copy_takes
  copied = makes.each owns.rest owns.arena

  pub clip_owns : Owns k b q [] (root ∷ clip ∷ []) (2 ^ 15)
  clip_owns = record {
    rest = clip ∷ owns.rest;
    arena = copied.arena;
    kept = λ i among. ⊎_elim (λ h. omega arith) (λ h. let x = owns.kept i (omega arith) in omega arith) (cases_lt 0 (hit clip i));
    few = omega (arith, owns.few);
  }

  root_list : list b root ≡ list a root
  root_list = list_stays a b root (copied.stay root (lent_among owns))

  pub clip_few : length (list b root) + length (list b clip) ≤ 2 * element_limit
  clip_few = omega (arith, few, ap length root_list, ap length makes.listed, taken_fewer k (list a root) 0 len)

  pub clip_some : edit_takes ≤ q.free
  clip_some = omega (arith, some, copied.free)

  module _ {c : List (Cell E S)} {o : Pool} (rests : Rests k b q c o) where
    pub clip_arena : Arena k c o (clip ∷ owns.rest)
    clip_arena = (rests (clip ∷ owns.rest) copied.arena).arena

    pub clip_owned : (ys : List ℕ) × Arena k c o (clip ∷ ys)
    clip_owned = (owns.rest, clip_arena)

    pub clip_light : cell_count c clip ≤ most
    clip_light =
        let stays = (rests (clip ∷ owns.rest) copied.arena).stay clip (at_top clip owns.rest) in
        made_few owns clip_arena (omega (arith, few, ap length (list_stays b c clip stays), ap length makes.listed, taken_fewer k (list a root) 0 len))

    pub clip_rests : (d : List (Cell E S)) (w : Pool) → ((rs : List ℕ) → Arena k c o (clip ∷ rs) → Releases k c o rs d w) → length d ≡ length a → Rests k a p d w
    clip_rests d w drop long rs arena =
        let x = makes.each rs arena in
        let y = rests (clip ∷ rs) x.arena in
        let z = (drop rs y.arena).moved in
        let stay : AllStay a d rs = λ r among. stays_trans a b d r (x.stay r among) (stays_trans b c d r (y.stay r (omega arith)) (z.stay r among)) in
        record { arena = z.arena; stay = stay; free = same_free k a p d w rs arena z.arena stay long }
