-- The way to a place ends at the element that holds it.
use Rattle.std.proofs.Common.{◌≡◌, ℕ, ◌+◌, ◌<◌, List, [], ◌∷◌, ◌++◌, length, Some, sym, ap, ◌∙◌, subst, append_assoc, arith}
use Rattle.std.specs.List.{slice_get}
use Rattle.kinds.specs.Kinds.{Meaning}
use Rattle.balance.specs.Trees.{Tree, elements}
use Rattle.balance.specs.Lists.{Shape, extents}
use Rattle.balance.specs.Ways.{Way, lost, here, left, right, whole, Spot, spot, span, way, place, Found}
use Rattle.balance.proofs.Lists.{extents_append}
use Rattle.balance.proofs.Ways.{span_extents, way_through, way_leads}
use Rattle.balance.proofs.Loops.{walked_spot}
use Rattle.cells.specs.declared.cell.Cell.{Cell}
use Rattle.cells.specs.Cells.{shape, tree}
use Rattle.walks.specs.declared.answers.Found.{Found as Answer}
use Rattle.walks.specs.Walks.{Walked}
use Rattle.walks.specs.Paths.{PathTo}
use Rattle.walks.specs.Holding.{AtomOf, Reads, ReadsByPath}

module _ {E : Type 0} (k : Shape E) where
  atom_behind : (es more : List E) (p : ℕ) (e : E) (d : ℕ) → AtomOf k es p e d → AtomOf k (es ++ more) p e d
  atom_behind es more p e d a = record {
    before = a.before;
    behind = a.behind ++ more;
    listed = ap (λ l. l ++ more) a.listed ∙ append_assoc a.before (e ∷ a.behind) more;
    reached = a.reached;
    inside = a.inside;
  }

  atom_before : (es more : List E) (p : ℕ) (e : E) (d : ℕ) → AtomOf k es p e d → AtomOf k (more ++ es) (extents k more + p) e d
  atom_before es more p e d a = record {
    before = more ++ a.before;
    behind = a.behind;
    listed = ap (λ l. more ++ l) a.listed ∙ sym (append_assoc more a.before (e ∷ a.behind));
    reached = omega (arith, extents_append k more a.before, a.reached);
    inside = a.inside;
  }

  atom_at : (es : List E) (p q : ℕ) (e : E) (d : ℕ) → p ≡ q → AtomOf k es p e d → AtomOf k es q e d
  atom_at es p q e d same a = subst (λ (n : ℕ). AtomOf k es n e d) same a

  spot_atom : (w : Way E) (s : Spot E) → Found k w → spot w ≡ Some s → AtomOf k (elements (whole w)) (place k w) s.element s.offset
  spot_atom lost s found is = absurd found
  spot_atom (here l e r d) s found is =
      let e_is : e ≡ s.element = cc in
      let d_is : d ≡ s.offset = cc in
      record {
        before = elements l;
        behind = elements r;
        listed = ap (λ x. elements l ++ (x ∷ elements r)) e_is;
        reached = omega (arith, span_extents k l);
        inside = omega (arith, ap k.extent e_is);
      }
  spot_atom (left w e r) s found is = atom_behind (elements (whole w)) (e ∷ elements r) (place k w) s.element s.offset (spot_atom w s found is)
  spot_atom (right l e w) s found is =
      atom_at (elements l ++ (e ∷ elements (whole w))) (extents k (elements l) + (k.extent e + extents k [] + place k w)) (place k (right l e w)) s.element s.offset
      (omega (arith, span_extents k l))
      (atom_before (e ∷ elements (whole w)) (elements l) (k.extent e + extents k [] + place k w) s.element s.offset
      (atom_before (elements (whole w)) (e ∷ []) (place k w) s.element s.offset (spot_atom w s found is)))

  pub way_atom : (t : Tree E) (p : ℕ) (s : Spot E) → p < span k t → spot (way k t p) ≡ Some s → AtomOf k (elements t) p s.element s.offset
  way_atom t p s inside is =
      let leads = way_leads k t p inside in
      atom_at (elements t) (place k (way k t p)) p s.element s.offset leads.to
      (subst (λ u. AtomOf k (elements u) (place k (way k t p)) s.element s.offset) (way_through k t p) (spot_atom (way k t p) s leads.found is))

-- the walk to a place ends at the element that holds it
module _ {E A S : Type 0} (k : Meaning E A S) (cells : List (Cell E S)) (root p : ℕ) (lefts rights : List ℕ) (r : Answer) (inside : p < span (shape k) (tree cells root))
    (w : Walked k cells root p lefts rights r) where
  pub walked_atom : AtomOf (shape k) (elements (tree cells root)) p w.cell.element r.offset
  walked_atom = way_atom (shape k) (tree cells root) p _ inside (ap spot w.is ∙ walked_spot w.steps _)

  pub walked_reads : (c : Cell E S) (first second : ℕ) → slice_get cells r.cell ≡ Some c → first ≡ k.first c.element → second ≡ k.second c.element
      → Reads k cells root p (record { first = first; second = second; offset = r.offset; count = length lefts + length rights + 1 })
  walked_reads c first second at first_is second_is =
      let at_walked = w.at in
      let same : w.cell ≡ c = cc in
      record {
        element = c.element;
        holds = subst (λ (x : Cell E S). AtomOf (shape k) (elements (tree cells root)) p x.element r.offset) same walked_atom;
        first = first_is;
        second = second_is;
        leads = w.leads;
      }

  pub walked_by_path : (c : Cell E S) (first second : ℕ) → slice_get cells r.cell ≡ Some c → first ≡ k.first c.element → second ≡ k.second c.element
      → PathTo k cells root p (length lefts + length rights + 1) r.cell
      → ReadsByPath k cells root p (record { first = first; second = second; offset = r.offset; count = length lefts + length rights + 1 })
  walked_by_path c first second at first_is second_is to =
      let at_walked = w.at in
      let there = to.by_path.on_path.at in
      let ended = to.ended in
      let same : w.cell ≡ c = cc in
      let own : c ≡ to.by_path.on_path.cell = cc in
      record {
        by_path = to.by_path;
        holds = subst (λ (x : Cell E S). AtomOf (shape k) (elements (tree cells root)) p x.element r.offset) (same ∙ own) walked_atom;
        first = first_is ∙ ap (λ (x : Cell E S). k.first x.element) own;
        second = second_is ∙ ap (λ (x : Cell E S). k.second x.element) own;
      }
