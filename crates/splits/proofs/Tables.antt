-- Tables of passed cells: what they stand for, and that it stays.
use Rattle.std.proofs.Common.{◌≡◌, ℕ, Bool, true, false, List, [], ◌∷◌, ◌++◌, Some, None, Option, sym, refl, ap, ◌∙◌, subst, arith}
use Rattle.std.specs.List.{slice_get}
use Rattle.kinds.specs.Kinds.{Meaning}
use Rattle.balance.specs.Trees.{Tree}
use Rattle.cells.specs.declared.cell.Cell.{Cell}
use Rattle.cells.specs.declared.pool.Pool.{Pool}
use Rattle.cells.specs.Cells.{seen, far, linked, Live}
use Rattle.cells.specs.Reach.{Among, SameCell, Alike, Stays, AllStay, Reached}
use Rattle.cells.specs.References.{Arena}
use Rattle.cells.proofs.Names.{hit_same}
use Rattle.cells.proofs.Staying.{follow_same, reached_live}
use Rattle.cells.proofs.Arenas.{rooted}
use Rattle.cells.proofs.Moving.{seen_stays}
use Rattle.links.proofs.Climbs.{stays_below}
use Rattle.links.proofs.Sides.{far_stays}
use Rattle.walks.specs.Walks.{Passed, Table}

module _ {E S : Type 0} (flip : Bool) (a : List (Cell E S)) where
  -- a cell stands for one thing
  pub passed_is : (i : ℕ) (s : E × Tree E) (c : Cell E S) → Passed flip a i s → slice_get a i ≡ Some c → s ≡ (c.element, seen flip a (far flip c))
  passed_is i s c passed at =
      let o : Some c ≡ Some passed.cell = sym at ∙ passed.at in
      let same : passed.cell ≡ c = cc in
      passed.is ∙ ap (λ d. (d.element, seen flip a (far flip d))) same

  pub passed_one : (i : ℕ) (s t : E × Tree E) → Passed flip a i s → Passed flip a i t → s ≡ t
  passed_one i s t p q = passed_is i s q.cell p q.at ∙ sym q.is

  pub table_one : (is : List ℕ) (ss ts : List (E × Tree E)) → Table flip a is ss → Table flip a is ts → ss ≡ ts
  table_one [] [] [] p q = refl
  table_one [] [] (t ∷ ts) p q = absurd q
  table_one [] (s ∷ ss) ts p q = absurd p
  table_one (i ∷ is) [] ts p q = absurd p
  table_one (i ∷ is) (s ∷ ss) [] p q = absurd q
  table_one (i ∷ is) (s ∷ ss) (t ∷ ts) p q =
      let x = passed_one i s t p.0 q.0 in
      let y = table_one is ss ts p.1 q.1 in
      cc

  -- the last cell of a table, and those before it
  pub record Last (is : List ℕ) (i : ℕ) (ss : List (E × Tree E)) : Type 0 where
    pub before : List (E × Tree E)
    pub last : E × Tree E
    pub are : ss ≡ before ++ (last ∷ [])
    pub passed_before : Table flip a is before
    pub passed_last : Passed flip a i last

  pub table_split : (is : List ℕ) (i : ℕ) (ss : List (E × Tree E)) → Table flip a (is ++ (i ∷ [])) ss → Last is i ss
  table_split [] i [] t = absurd t
  table_split [] i (s ∷ []) t = record { before = []; last = s; are = refl; passed_before = tt; passed_last = t.0 }
  table_split [] i (s ∷ (r ∷ ss)) t = absurd t.1
  table_split (j ∷ is) i [] t = absurd t
  table_split (j ∷ is) i (s ∷ ss) t =
      let rest = table_split is i ss t.1 in
      record {
        before = s ∷ rest.before;
        last = rest.last;
        are = ap (λ l. s ∷ l) rest.are;
        passed_before = (t.0, rest.passed_before);
        passed_last = rest.passed_last;
      }

-- ---- in another state

pub reached_stays : {E S : Type 0} (a b : List (Cell E S)) (rs : List ℕ) → AllStay a b rs → (i : ℕ) → Reached a rs i → Reached b rs i
reached_stays a b rs stay i r = record {
  root = r.root;
  among = r.among;
  path = r.path;
  leads = sym (follow_same a b r.root r.path (stay r.root r.among)) ∙ r.leads;
}

pub stays_reached : {E S : Type 0} (a b : List (Cell E S)) (rs : List ℕ) → AllStay a b rs → (i : ℕ) → Reached a rs i → Stays a b i
stays_reached a b rs stay i r = subst (Stays a b) r.leads (stays_below a b r.root r.path (stay r.root r.among))

pub live_reached : {E A S : Type 0} (k : Meaning E A S) (a : List (Cell E S)) (p : Pool) (xs rs : List ℕ) → Arena k a p xs → ((i : ℕ) → Among rs i → Among xs i) → (i : ℕ) → Reached a rs i → Live a i
live_reached k a p xs rs arena sub i r =
    subst (Live a) r.leads (reached_live k a arena.sound r.root r.path (rooted k a p xs arena r.root (sub r.root r.among)))

module _ {E S : Type 0} (flip : Bool) (a b : List (Cell E S)) where
  passed_alike : (i : ℕ) (s : E × Tree E) (c : Cell E S) (o : Option (Cell E S)) → slice_get a i ≡ Some c → slice_get b i ≡ o → Alike (Some c) o → linked o → Stays a b i
      → s ≡ (c.element, seen flip a (far flip c)) → Passed flip b i s
  passed_alike i s c None at is alike live stays same = absurd alike
  passed_alike i s c (Some d) at is alike live stays same =
      let away : far flip c ≡ far flip d = far_same flip c d alike in
      let tree = seen_stays flip a b (far flip c) (far_stays flip a b i c at stays) in
      record {
        cell = d;
        at = is;
        live = live;
        is = same ∙ ap (λ e. (e, seen flip a (far flip c))) alike.element ∙ ap (λ t. (d.element, t)) (sym tree ∙ ap (seen flip b) away);
      }
    where
      far_same : (flip : Bool) (c d : Cell E S) → SameCell c d → far flip c ≡ far flip d
      far_same false c d same = same.right
      far_same true c d same = same.left

  pub passed_stays : (i : ℕ) (s : E × Tree E) → Passed flip a i s → Stays a b i → Live b i → Passed flip b i s
  passed_stays i s passed stays live =
      passed_alike i s passed.cell (slice_get b i) passed.at refl (subst (λ o. Alike o (slice_get b i)) passed.at (stays [])) live stays passed.is

  pub table_stays : (is : List ℕ) (ss : List (E × Tree E)) → Table flip a is ss → ((i : ℕ) → Among is i → Stays a b i) → ((i : ℕ) → Among is i → Live b i) → Table flip b is ss
  table_stays [] [] t stays live = tt
  table_stays [] (s ∷ ss) t stays live = absurd t
  table_stays (i ∷ is) [] t stays live = absurd t
  table_stays (i ∷ is) (s ∷ ss) t stays live = (
    passed_stays i s t.0 (stays i (let h = hit_same i in omega arith)) (live i (let h = hit_same i in omega arith)),
    table_stays is ss t.1 (λ j among. stays j (omega arith)) (λ j among. live j (omega arith)),
  )
