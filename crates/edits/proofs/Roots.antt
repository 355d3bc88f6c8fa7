-- The trees of owned roots: their sizes, also taken apart, and giving one back.
use Rattle.std.proofs.Common.{◌≡◌, ℕ, ◌+◌, ◌-◌, ◌^◌, ◌≤◌, eqb, ltb, List, [], ◌∷◌, ◌++◌, length, Some, None, Option, sym, ap, ◌∙◌, subst, arith}
use Rattle.std.specs.List.{AllByRecursion}
use Rattle.faults.specs.Limits.{limit}
use Rattle.kinds.specs.Kinds.{Meaning, Lawful}
use Rattle.kinds.specs.Places.{extent_of}
use Rattle.kinds.proofs.Places.{extent_counts}
use Rattle.balance.specs.Trees.{Tree, elements, count, Balanced}
use Rattle.balance.specs.Lists.{Shape, front, back}
use Rattle.balance.specs.Ways.{span}
use Rattle.balance.specs.Edits.{Rest, done, more, listed, tail, parted}
use Rattle.balance.specs.Levels.{most}
use Rattle.balance.proofs.Tests.{by_test, by_one_test}
use Rattle.balance.proofs.Mirrors.{count_length}
use Rattle.balance.proofs.Edits.{parted_divides}
use Rattle.cells.specs.declared.cell.Cell.{Cell}
use Rattle.cells.specs.declared.pool.Pool.{Pool}
use Rattle.cells.specs.Cells.{shape, cell_count, tree, Live}
use Rattle.cells.specs.Reach.{Among, Stays}
use Rattle.cells.specs.References.{Arena}
use Rattle.cells.specs.Moves.{Moves, Releases}
use Rattle.cells.proofs.Names.{hit_same}
use Rattle.cells.proofs.Arenas.{rooted}
use Rattle.cells.proofs.Moving.{moves_none}
use Rattle.cells.proofs.Staying.{tree_stays}
use Rattle.cells.proofs.Trees.{known, meant_span}
use Rattle.walks.proofs.Atoms.{tree_lawful}
use Rattle.splits.specs.declared.split.Loose.{Loose}
use Rattle.splits.specs.Owning.{Owns}
use Rattle.splits.specs.Splitting.{behind, loose_roots}
use Rattle.edits.specs.Edits.{list}
use Rattle.splits.proofs.Spans.{live_short}

-- ---- sizes

-- dividing makes at most one element more
both_lengths : {E : Type 0} (k : Shape E) (p : ℕ) (es : List E) → length (front k p es) + length (back k p es) ≤ length es + 1
both_lengths k p [] = omega arith
both_lengths k p (e ∷ es) =
    by_one_test (λ x y. length x + length y ≤ length (e ∷ es) + 1) (ltb p (k.extent e)) _ _ _ _
    (λ low. by_test (λ x. length x + length (e ∷ es) ≤ length (e ∷ es) + 1) (eqb p 0) _ _ (λ none. omega arith) (λ some. omega arith))
    (λ past. omega (arith, both_lengths k (p - k.extent e) es))

tail_length : {E : Type 0} (s : Rest E) → count (tail s) ≤ length (listed s)
tail_length done = omega arith
tail_length (more e t) = omega (arith, count_length t)

pub both_counts : {E : Type 0} (k : Shape E) (t : Tree E) (p : ℕ) → count (parted k t p).before + count (tail (parted k t p).rest) ≤ count t + 1
both_counts k t p =
    let d = parted_divides k t p in
    let s = parted k t p in
    omega (
      arith,
      count_length s.before ∙ ap length d.fore,
      tail_length s.rest,
      ap length d.aft,
      both_lengths k p (elements t),
      count_length t,
    )

-- ---- an owned root: its tree and its list

-- what stays reached keeps its list
pub list_stays : {E S : Type 0} (a b : List (Cell E S)) (r : ℕ) → Stays a b r → list b r ≡ list a r
list_stays a b r stays = ap elements (sym (tree_stays a b r stays))

pub at_top : (r : ℕ) (rs : List ℕ) → Among (r ∷ rs) r
at_top r rs = let h = hit_same r in omega arith

-- the width of a link is the extent of its list
pub wide : {E A S : Type 0} (k : Meaning E A S) (a : List (Cell E S)) (r : ℕ) → span (shape k) (tree a r) ≡ extent_of k (list a r)
wide k a r = sym (meant_span k (tree a r)) ∙ sym (extent_counts k (list a r))

module _ {E A S : Type 0} {k : Meaning E A S} {a : List (Cell E S)} {p : Pool} {rs : List ℕ} (arena : Arena k a p rs) (root : ℕ) (owned : Among rs root) where
  pub owned_live : Live a root
  owned_live = rooted k a p rs arena root owned

  pub owned_balanced : Balanced (tree a root)
  owned_balanced = (known k a arena.sound root owned_live).balanced

  pub owned_lawful : AllByRecursion (Lawful k) (elements (tree a root))
  owned_lawful = tree_lawful k a arena.sound root owned_live

  pub owned_short : extent_of k (list a root) ≤ limit
  owned_short = omega (arith, live_short k a arena.sound root owned_live, wide k a root)

  pub owned_count : cell_count a root ≡ length (list a root)
  owned_count = sym (known k a arena.sound root owned_live).counts ∙ count_length (tree a root)

-- the first of the owned roots
module _ {E A S : Type 0} {k : Meaning E A S} {a : List (Cell E S)} {p : Pool} {root : ℕ} {rs : List ℕ} (arena : Arena k a p (root ∷ rs)) where
  pub top_live : Live a root
  top_live = owned_live arena root (at_top root rs)

  pub top_count : cell_count a root ≡ length (list a root)
  top_count = owned_count arena root (at_top root rs)

  pub top_short : extent_of k (list a root) ≤ limit
  top_short = owned_short arena root (at_top root rs)

  pub top_few : length (list a root) ≤ most → cell_count a root ≤ most
  top_few few = omega (arith, top_count)

-- the first of the lent roots
module _ {E A S : Type 0} {k : Meaning E A S} {a : List (Cell E S)} {p : Pool} {root : ℕ} {lent : List ℕ} {n : ℕ} (owns : Owns k a p [] (root ∷ lent) n) where
  pub lent_among : Among owns.rest root
  lent_among = owns.kept root (at_top root lent)

  pub lent_live : Live a root
  lent_live = owned_live owns.arena root lent_among

  pub lent_count : cell_count a root ≡ length (list a root)
  lent_count = owned_count owns.arena root lent_among

  pub lent_short : extent_of k (list a root) ≤ limit
  lent_short = owned_short owns.arena root lent_among

  -- the others by themselves, and the same under another bound
  pub lent_less : Owns k a p [] lent n
  lent_less = record { rest = owns.rest; arena = owns.arena; kept = λ i h. owns.kept i (omega arith); few = owns.few }

pub lent_more : {E A S : Type 0} {k : Meaning E A S} {a : List (Cell E S)} {p : Pool} {lent : List ℕ} {n m : ℕ} → Owns k a p [] lent n → n ≤ m → Owns k a p [] lent m
lent_more owns h = record { rest = owns.rest; arena = owns.arena; kept = owns.kept; few = omega (arith, owns.few) }

-- ---- giving back what lies behind a place

module _ {E A S : Type 0} (k : Meaning E A S) (a : List (Cell E S)) (p : Pool) (rest : Option (Loose E S)) where
  abbrev Gone : List (Cell E S) → Pool → Option (Loose E S) → Type 0
  Gone b q o = Moves k a p (loose_roots o) b q [] 0

  pub gone_none : rest ≡ None → Gone a p rest
  gone_none is = subst (Gone a p) (sym is) (moves_none k a p [])

  module _ (l : Loose E S) (is : rest ≡ Some l) (owns : Owns k a p (loose_roots rest) [] (2 ^ 20)) (few : count (tail (behind a rest)) ≤ most) where
    pub gone_arena : Arena k a p (l.root ∷ owns.rest)
    gone_arena = subst (λ o. Arena k a p (loose_roots o ++ owns.rest)) is owns.arena

    pub gone_few : cell_count a l.root ≤ most
    gone_few = omega (arith, top_count gone_arena, count_length (tree a l.root), ap (λ o. count (tail (behind a o))) is, few)

    pub gone_some : (b : List (Cell E S)) (q : Pool) → ((rs : List ℕ) → Arena k a p (l.root ∷ rs) → Releases k a p rs b q) → Gone b q rest
    gone_some b q release = subst (Gone b q) (sym is) (λ rs arena. (release rs arena).moved)
