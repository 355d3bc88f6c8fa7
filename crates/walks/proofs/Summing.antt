-- The walks that sum up a range, turn by turn.
use Rattle.std.proofs.Common.{◌≡◌, ℕ, ◌+◌, ◌-◌, ◌<◌, ◌≤◌, min, List, [], ◌++◌, length, take, drop, Some, sym, refl, ap, ◌∙◌, subst, append_assoc, append-nil, arith, length-drop, take_all}
use Rattle.std.proofs.lemmas.List.{drop_all}
use Rattle.std.specs.List.{slice_get}
use Rattle.faults.specs.Limits.{limit}
use Rattle.kinds.specs.Kinds.{Meaning, Laws, Joinable, total}
use Rattle.balance.specs.Ways.{span}
use Rattle.cells.specs.declared.cell.Cell.{Cell}
use Rattle.cells.specs.Cells.{shape, tree, meant, sum_at, Live, Sound}
use Rattle.cells.proofs.Trees.{meant_span}
use Rattle.walks.specs.declared.answers.Fork.{Fork}
use Rattle.walks.specs.Ranges.{Forked}
use Rattle.walks.proofs.Nodes.{inside_named, node_good, node_span, node_meant}
use Rattle.walks.proofs.Sums.{Few, few_left, few_right, few_take, few_drop, few_tree, sum_is, join_sum}
use Rattle.walks.proofs.Stretches.{drop_left, drop_own, drop_right, take_left, take_own, take_right, range_left, range_parted}

module _ {E A S : Type 0} (k : Meaning E A S) (cells : List (Cell E S)) where
  -- r is what a join answers to s and t
  abbrev pub JoinOf : S → S → S → Type 0
  JoinOf s t r = Joinable k s t → r ≡ k.plus s t

  -- Of all but the first from atoms under a link, those behind the tree of a cell are summed up; of that tree the first
  -- at are still to leave out.
  pub record TailAt (link from cell at : ℕ) (sum : S) : Type 0 where
    pub live : Live cells cell
    pub inside : at ≤ span (shape k) (tree cells cell)
    pub behind : List A
    pub listed : drop from (meant k (tree cells link)) ≡ drop at (meant k (tree cells cell)) ++ behind
    pub summed : sum ≡ total k behind

  -- Of the first len atoms under a link, those before the tree of a cell are summed up; of that tree the first rest are
  -- still to take.
  pub record HeadAt (link len cell rest : ℕ) (sum : S) : Type 0 where
    pub live : Live cells cell
    pub some : 0 < rest
    pub inside : rest ≤ span (shape k) (tree cells cell)
    pub before : List A
    pub listed : take len (meant k (tree cells link)) ≡ before ++ take rest (meant k (tree cells cell))
    pub summed : sum ≡ total k before

  -- the range is len atoms of the tree of a cell, from the atom at on
  pub record ForkAt (root from len cell at : ℕ) : Type 0 where
    pub live : Live cells cell
    pub inside : at + len ≤ span (shape k) (tree cells cell)
    pub listed : take len (drop from (meant k (tree cells root))) ≡ take len (drop at (meant k (tree cells cell)))

module _ {E A S : Type 0} {k : Meaning E A S} (laws : Laws k) {cells : List (Cell E S)} (sound : Sound k cells) where
  -- ---- the tail

  pub tail_none : (link from : ℕ) (sum : S) → sum ≡ k.none → from ≡ span (shape k) (tree cells link) → sum ≡ total k (drop from (meant k (tree cells link)))
  tail_none link from sum sum_none is = sum_none ∙ ap (total k) (sym nothing)
    where
      nothing : drop from (meant k (tree cells link)) ≡ []
      nothing = drop_all from (meant k (tree cells link)) (omega (arith, meant_span k (tree cells link)))

  pub tail_start : (link from : ℕ) (sum : S) → Live cells link → from ≤ span (shape k) (tree cells link) → sum ≡ k.none → TailAt k cells link from link from sum
  tail_start link from sum live inside sum_none = record { live = live; inside = inside; behind = []; listed = sym (append-nil _); summed = sum_none }

  module _ {link from cell at : ℕ} {sum : S} (live : Live cells link) (t : TailAt k cells link from cell at sum) where
    pub tail_named : 0 < at → cell < length cells
    tail_named some = inside_named k cells sound cell 0 (omega (arith, t.inside))

    tail_few : Few k (drop at (meant k (tree cells cell)) ++ t.behind)
    tail_few = subst (Few k) t.listed (few_drop k from (meant k (tree cells link)) (few_tree k cells sound link live))

    pub tail_whole : (s r : S) → at ≡ 0 → s ≡ sum_at k cells cell → JoinOf k cells s sum r → r ≡ total k (drop from (meant k (tree cells link)))
    tail_whole s r none s_is asked =
        let listed' : drop from (meant k (tree cells link)) ≡ meant k (tree cells cell) ++ t.behind = t.listed ∙ ap (λ (n : ℕ). drop n (meant k (tree cells cell)) ++ t.behind) none in
        let few' : Few k (meant k (tree cells cell) ++ t.behind) = subst (λ (n : ℕ). Few k (drop n (meant k (tree cells cell)) ++ t.behind)) none tail_few in
        join_sum k laws (meant k (tree cells cell)) t.behind s sum r few' (s_is ∙ sum_is k laws cells sound cell t.live) t.summed asked ∙ ap (total k) (sym listed')

    module _ {c : Cell E S} (is : slice_get cells cell ≡ Some c) where
      abbrev L : List A
      L = meant k (tree cells c.left)

      abbrev M : List A
      M = k.atoms c.element

      abbrev R : List A
      R = meant k (tree cells c.right)

      here_meant : meant k (tree cells cell) ≡ L ++ (M ++ R)
      here_meant = node_meant sound _ is t.live

      left_length : length L ≡ span (shape k) (tree cells c.left)
      left_length = meant_span k (tree cells c.left)

      -- the atoms are xs, the element's, the right child's and those behind
      module _ (xs : List A) (listed' : drop from (meant k (tree cells link)) ≡ xs ++ (R ++ t.behind)) (right s : S) (right_is : right ≡ sum_at k cells c.right) (asked : JoinOf k cells right sum s) where
        few_parts : Few k (xs ++ (R ++ t.behind))
        few_parts = subst (Few k) listed' (few_drop k from (meant k (tree cells link)) (few_tree k cells sound link live))

        behind_sum : s ≡ total k (R ++ t.behind)
        behind_sum =
            join_sum k laws R t.behind right sum s (few_right k xs (R ++ t.behind) few_parts)
            (right_is ∙ sum_is k laws cells sound c.right (node_good sound _ is t.live).right_live) t.summed asked

      pub tail_left : (right s r : S) → at < span (shape k) (tree cells c.left) → right ≡ sum_at k cells c.right → JoinOf k cells right sum s → JoinOf k cells c.own s r
          → TailAt k cells link from c.left at r
      tail_left right s r low right_is asked asked' =
          let good = node_good sound _ is t.live in
          let listed' : drop from (meant k (tree cells link)) ≡ drop at L ++ (M ++ (R ++ t.behind)) =
          t.listed ∙ ap (λ l. drop at l ++ t.behind) here_meant ∙ ap (λ l. l ++ t.behind) (drop_left L M R at (omega (arith, left_length)))
          ∙ append_assoc (drop at L) (M ++ R) t.behind ∙ ap (λ l. drop at L ++ l) (append_assoc M R t.behind) in
          let listed'' = listed' ∙ sym (append_assoc (drop at L) M (R ++ t.behind)) in
          let few' = subst (Few k) listed' (few_drop k from (meant k (tree cells link)) (few_tree k cells sound link live)) in
          record {
            live = good.left_live;
            inside = omega arith;
            behind = M ++ (R ++ t.behind);
            listed = listed';
            summed = join_sum k laws M (R ++ t.behind) c.own s r (few_right k (drop at L) (M ++ (R ++ t.behind)) few') good.owns
                (behind_sum (drop at L ++ M) listed'' right s right_is asked) asked';
          }

      pub tail_own : (past m : ℕ) (right s p r : S) → at ≡ span (shape k) (tree cells c.left) + past → past < length M → m ≡ length M - past
          → p ≡ total k (take m (drop past M)) → right ≡ sum_at k cells c.right → JoinOf k cells right sum s → JoinOf k cells p s r → r ≡ total k (drop from (meant k (tree cells link)))
      tail_own past m right s p r at_is low m_is p_is right_is asked asked' =
          let listed' : drop from (meant k (tree cells link)) ≡ drop past M ++ (R ++ t.behind) =
          t.listed ∙ ap (λ l. drop at l ++ t.behind) here_meant ∙ ap (λ l. l ++ t.behind) (drop_own L M R at past (omega (arith, left_length)) (omega arith))
          ∙ append_assoc (drop past M) R t.behind in
          join_sum k laws (drop past M) (R ++ t.behind) p s r (few_parts (drop past M) listed' right s right_is asked)
          (p_is ∙ ap (total k) (take_all m (drop past M) (omega (arith, length-drop past M)))) (behind_sum (drop past M) listed' right s right_is asked) asked'
          ∙ ap (total k) (sym listed')

      pub tail_right : (q : ℕ) → at ≡ span (shape k) (tree cells c.left) + length M + q → TailAt k cells link from c.right q sum
      tail_right q at_is = record {
        live = (node_good sound _ is t.live).right_live;
        inside = omega (arith, t.inside, node_span sound _ is t.live);
        behind = t.behind;
        listed = t.listed ∙ ap (λ l. drop at l ++ t.behind) here_meant ∙ ap (λ l. l ++ t.behind) (drop_right L M R at q (omega (arith, left_length)));
        summed = t.summed;
      }

  -- ---- the head

  module _ {link len cell rest : ℕ} {sum : S} (live : Live cells link) (h : HeadAt k cells link len cell rest sum) where
    pub head_named : cell < length cells
    head_named = inside_named k cells sound cell 0 (omega (arith, h.inside, h.some))

    head_few : (xs : List A) → take len (meant k (tree cells link)) ≡ xs → Few k xs
    head_few xs is = subst (Few k) is (few_take k len (meant k (tree cells link)) (few_tree k cells sound link live))

    pub head_whole : (s r : S) → rest ≡ span (shape k) (tree cells cell) → s ≡ sum_at k cells cell → JoinOf k cells sum s r → r ≡ total k (take len (meant k (tree cells link)))
    head_whole s r all s_is asked =
        let listed' : take len (meant k (tree cells link)) ≡ h.before ++ meant k (tree cells cell) =
        h.listed ∙ ap (λ l. h.before ++ l) (take_all rest (meant k (tree cells cell)) (omega (arith, meant_span k (tree cells cell)))) in
        join_sum k laws h.before (meant k (tree cells cell)) sum s r (head_few _ listed') h.summed (s_is ∙ sum_is k laws cells sound cell h.live) asked ∙ ap (total k) (sym listed')

    module _ {c : Cell E S} (is : slice_get cells cell ≡ Some c) where
      abbrev L' : List A
      L' = meant k (tree cells c.left)

      abbrev M' : List A
      M' = k.atoms c.element

      abbrev R' : List A
      R' = meant k (tree cells c.right)

      head_meant : meant k (tree cells cell) ≡ L' ++ (M' ++ R')
      head_meant = node_meant sound _ is h.live

      head_length : length L' ≡ span (shape k) (tree cells c.left)
      head_length = meant_span k (tree cells c.left)

      pub head_left : rest ≤ span (shape k) (tree cells c.left) → HeadAt k cells link len c.left rest sum
      head_left low = record {
        live = (node_good sound _ is h.live).left_live;
        some = h.some;
        inside = low;
        before = h.before;
        listed = h.listed ∙ ap (λ l. h.before ++ take rest l) head_meant ∙ ap (λ l. h.before ++ l) (take_left L' M' R' rest (omega (arith, head_length)));
        summed = h.summed;
      }

      -- the atoms are those before, the left child's and xs
      before_sum : (xs : List A) → take len (meant k (tree cells link)) ≡ (h.before ++ L') ++ xs → (left s : S) → left ≡ sum_at k cells c.left → JoinOf k cells sum left s → s ≡ total k (h.before ++ L')
      before_sum xs listed' left s left_is asked =
          join_sum k laws h.before L' sum left s (few_left k (h.before ++ L') xs (head_few _ listed')) h.summed
          (left_is ∙ sum_is k laws cells sound c.left (node_good sound _ is h.live).left_live) asked

      pub head_own : (past : ℕ) (left s p r : S) → rest ≡ span (shape k) (tree cells c.left) + past → past ≤ length M' → p ≡ total k (take past (drop 0 M'))
          → left ≡ sum_at k cells c.left → JoinOf k cells sum left s → JoinOf k cells s p r → r ≡ total k (take len (meant k (tree cells link)))
      head_own past left s p r rest_is low p_is left_is asked asked' =
          let listed' : take len (meant k (tree cells link)) ≡ (h.before ++ L') ++ take past M' =
          h.listed ∙ ap (λ l. h.before ++ take rest l) head_meant ∙ ap (λ l. h.before ++ l) (take_own L' M' R' rest past (omega (arith, head_length)) low)
          ∙ sym (append_assoc h.before L' (take past M')) in
          join_sum k laws (h.before ++ L') (take past M') s p r (head_few _ listed') (before_sum (take past M') listed' left s left_is asked) p_is asked' ∙ ap (total k) (sym listed')

      pub head_right : (q : ℕ) (left s r : S) → rest ≡ span (shape k) (tree cells c.left) + length M' + q → 0 < q
          → left ≡ sum_at k cells c.left → JoinOf k cells sum left s → JoinOf k cells s c.own r → HeadAt k cells link len c.right q r
      head_right q left s r rest_is some left_is asked asked' =
          let good = node_good sound _ is h.live in
          let listed' : take len (meant k (tree cells link)) ≡ (h.before ++ L') ++ (M' ++ take q R') =
          h.listed ∙ ap (λ l. h.before ++ take rest l) head_meant ∙ ap (λ l. h.before ++ l) (take_right L' M' R' rest q (omega (arith, head_length)))
          ∙ sym (append_assoc h.before L' (M' ++ take q R')) in
          let listed'' = listed' ∙ sym (append_assoc (h.before ++ L') M' (take q R')) in
          record {
            live = good.right_live;
            some = some;
            inside = omega (arith, h.inside, node_span sound _ is h.live);
            before = (h.before ++ L') ++ M';
            listed = listed'';
            summed = join_sum k laws (h.before ++ L') M' s c.own r (few_left k ((h.before ++ L') ++ M') (take q R') (head_few _ listed''))
                (before_sum (M' ++ take q R') listed' left s left_is asked) good.owns asked';
          }

  -- ---- where the two part

  -- there are no more atoms under a link than the limit
  pub span_few : (i : ℕ) → Live cells i → span (shape k) (tree cells i) ≤ limit
  span_few i live = omega (arith, (few_tree k cells sound i live).few, meant_span k (tree cells i))

  module _ {root from len cell at : ℕ} (some : 1 ≤ len) (f : ForkAt k cells root from len cell at) where
    pub fork_named : cell < length cells
    fork_named = inside_named k cells sound cell at (omega (arith, f.inside))

    module _ {c : Cell E S} (is : slice_get cells cell ≡ Some c) where
      fork_meant : meant k (tree cells cell) ≡ meant k (tree cells c.left) ++ (k.atoms c.element ++ meant k (tree cells c.right))
      fork_meant = node_meant sound _ is f.live

      fork_length : length (meant k (tree cells c.left)) ≡ span (shape k) (tree cells c.left)
      fork_length = meant_span k (tree cells c.left)

      pub fork_left : at + len ≤ span (shape k) (tree cells c.left) → ForkAt k cells root from len c.left at
      fork_left low = record {
        live = (node_good sound _ is f.live).left_live;
        inside = low;
        listed = f.listed ∙ ap (λ l. take len (drop at l)) fork_meant ∙ range_left (meant k (tree cells c.left)) (k.atoms c.element) (meant k (tree cells c.right)) at len (omega (arith, fork_length));
      }

      pub fork_right : (q : ℕ) → at ≡ span (shape k) (tree cells c.left) + length (k.atoms c.element) + q → ForkAt k cells root from len c.right q
      fork_right q at_is = record {
        live = (node_good sound _ is f.live).right_live;
        inside = omega (arith, f.inside, node_span sound _ is f.live);
        listed = f.listed ∙ ap (λ l. take len (drop at l)) fork_meant
            ∙ ap (take len) (drop_right (meant k (tree cells c.left)) (k.atoms c.element) (meant k (tree cells c.right)) at q (omega (arith, fork_length)));
      }

      pub fork_here : span (shape k) (tree cells c.left) < at + len → at < span (shape k) (tree cells c.left) + length (k.atoms c.element)
          → Forked k cells root from len (record { cell = cell; from = at })
      fork_here late early = record { cell = c; at = is; live = f.live; listed = f.listed; inside = f.inside; not_before = late; not_behind = early }

  module _ {root from len : ℕ} {r : Fork} (f : Forked k cells root from len r) {c : Cell E S} (is : slice_get cells r.cell ≡ Some c) where
    same_cell : f.cell ≡ c
    same_cell = let f_is = f.at in cc

    pub parted_late : span (shape k) (tree cells c.left) < r.from + len
    parted_late = subst (λ (x : Cell E S). span (shape k) (tree cells x.left) < r.from + len) same_cell f.not_before

    pub parted_early : r.from < span (shape k) (tree cells c.left) + length (k.atoms c.element)
    parted_early = subst (λ (x : Cell E S). r.from < span (shape k) (tree cells x.left) + length (k.atoms x.element)) same_cell f.not_behind

    pub parted_inside : r.from + len ≤ span (shape k) (tree cells c.left) + length (k.atoms c.element) + span (shape k) (tree cells c.right)
    parted_inside = omega (arith, f.inside, node_span sound _ is f.live)

    -- the three parts of a range, joined
    pub parted_sum : (skipped rest taken : ℕ) (left middle right behind all : S) → Live cells root
        → skipped ≡ r.from - span (shape k) (tree cells c.left) → rest ≡ len - (span (shape k) (tree cells c.left) - r.from) → taken ≡ min rest (length (k.atoms c.element) - skipped)
        → left ≡ total k (drop (min r.from (span (shape k) (tree cells c.left))) (meant k (tree cells c.left)))
        → middle ≡ total k (take taken (drop skipped (k.atoms c.element)))
        → right ≡ total k (take (rest - taken) (meant k (tree cells c.right)))
        → JoinOf k cells middle right behind → JoinOf k cells left behind all
        → all ≡ total k (take len (drop from (meant k (tree cells root))))
    parted_sum skipped rest taken left middle right behind all live skipped_is rest_is taken_is left_is middle_is right_is asked asked' =
        let L = meant k (tree cells c.left) in
        let M = k.atoms c.element in
        let R = meant k (tree cells c.right) in
        let left_length : length L ≡ span (shape k) (tree cells c.left) = meant_span k (tree cells c.left) in
        let late = parted_late in
        let early = parted_early in
        let D : List A = drop (min r.from (length L)) L in
        let listed' : take len (drop from (meant k (tree cells root))) ≡ D ++ (take taken (drop skipped M) ++ take (rest - taken) R) =
        f.listed ∙ ap (λ l. take len (drop r.from l)) (node_meant sound _ is f.live)
        ∙ range_parted L M R r.from len skipped rest taken (omega arith) (omega arith) (omega arith) (omega arith) taken_is in
        let few' = subst (Few k) listed' (few_take k len _ (few_drop k from _ (few_tree k cells sound root live))) in
        let left_is' : left ≡ total k D = left_is ∙ ap (λ (n : ℕ). total k (drop (min r.from n) L)) (sym left_length) in
        join_sum k laws D (take taken (drop skipped M) ++ take (rest - taken) R) left behind all few' left_is'
        (join_sum k laws (take taken (drop skipped M)) (take (rest - taken) R) middle right behind (few_right k D _ few') middle_is right_is asked) asked'
        ∙ ap (total k) (sym listed')

module _ {E A S : Type 0} (k : Meaning E A S) (laws : Laws k) (cells : List (Cell E S)) (sound : Sound k cells) where
  pub head_start : (link len : ℕ) (sum : S) → Live cells link → 0 < len → len ≤ span (shape k) (tree cells link) → sum ≡ k.none → HeadAt k cells link len link len sum
  head_start link len sum live some inside sum_none = record { live = live; some = some; inside = inside; before = []; listed = refl; summed = sum_none }
