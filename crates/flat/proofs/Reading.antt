-- The atom at a place: one element holds it, at one offset.
use Rattle.std.proofs.Common.{◌≡◌, ℕ, ◌+◌, ◌-◌, ◌<◌, ◌≤◌, List, [], ◌∷◌, ◌++◌, length, sym, refl, ap, ◌∙◌, inl, inr, arith}
use Rattle.std.specs.List.{slice_get}
use Rattle.std.proofs.iter.runs.Lists.{nth_left, nth_right}
use Rattle.std.proofs.lemmas.Bool.{cases_lt}
use Rattle.kinds.specs.Kinds.{Meaning}
use Rattle.kinds.specs.Places.{extent, extent_of, atoms_of}
use Rattle.kinds.proofs.Places.{extent_counts, atoms_append}
use Rattle.flat.specs.Questions.{HoldsAtom}

module _ {E A S : Type 0} (k : Meaning E A S) where
  -- the first element holds the atoms inside it
  holds_here : (e : E) (es : List E) (p : ℕ) → p < extent k e → HoldsAtom k (e ∷ es) p e p
  holds_here e es p h = record { earlier = []; later = es; whole = refl; place = omega arith; inside = h }

  -- what holds an atom of the rest holds it of the whole list
  holds_behind : (x : E) (es : List E) (p : ℕ) (e : E) (d : ℕ) → extent k x ≤ p → HoldsAtom k es (p - extent k x) e d
      → HoldsAtom k (x ∷ es) p e d
  holds_behind x es p e d h a =
      record {
        earlier = x ∷ a.earlier;
        later = a.later;
        whole = ap (λ l. x ∷ l) a.whole;
        place = omega (arith, a.place);
        inside = a.inside;
      }

  pub read_some : (es : List E) (p : ℕ) → p < extent_of k es → (e : E) × (d : ℕ) × HoldsAtom k es p e d
  read_some [] p h = absurd (omega arith)
  read_some (x ∷ es) p h =
      elim (cases_lt p (extent k x)) [
        | inl lt ↦ (x, p, holds_here x es p lt)
        | inr le ↦
            let rest = read_some es (p - extent k x) (omega arith) in
            (rest.0, rest.1, holds_behind x es p rest.0 rest.1 le rest.2)
      ]

  -- the extents before two elements of one list, with offsets inside them, differ if the elements do
  same_holder : (xs ys xs' ys' : List E) (e f : E) (c d : ℕ) → xs ++ (e ∷ xs') ≡ ys ++ (f ∷ ys') → extent_of k xs + c ≡ extent_of k ys + d
      → c < extent k e → d < extent k f → (e ≡ f) × (c ≡ d)
  same_holder [] [] xs' ys' e f c d w p h i = (cc, omega arith)
  same_holder [] (y ∷ ys) xs' ys' e f c d w p h i =
      let same : e ≡ y = cc in absurd (omega (arith, ap (extent k) same))
  same_holder (x ∷ xs) [] xs' ys' e f c d w p h i =
      let same : x ≡ f = cc in absurd (omega (arith, ap (extent k) same))
  same_holder (x ∷ xs) (y ∷ ys) xs' ys' e f c d w p h i =
      let same : x ≡ y = cc in
      let rest : xs ++ (e ∷ xs') ≡ ys ++ (f ∷ ys') = cc in
      same_holder xs ys xs' ys' e f c d rest (omega (arith, ap (extent k) same)) h i

  pub read_one : (es : List E) (p : ℕ) (e f : E) (c d : ℕ) → HoldsAtom k es p e c → HoldsAtom k es p f d → (e ≡ f) × (c ≡ d)
  read_one es p e f c d a b =
      same_holder a.earlier b.earlier a.later b.later e f c d (sym a.whole ∙ b.whole) (a.place ∙ sym b.place)
      a.inside b.inside

  -- the atom at a place is the holding element's atom at the offset
  pub read_atom : (es : List E) (p : ℕ) (e : E) (d : ℕ) → HoldsAtom k es p e d → slice_get (atoms_of k es) p ≡ slice_get (k.atoms e) d
  read_atom es p e d a =
      let front = atoms_of k a.earlier in
      let rest = atoms_of k a.later in
      let here : p ≡ length front + d = omega (arith, a.place, extent_counts k a.earlier) in
      ap (λ l. slice_get (atoms_of k l) p) a.whole
      ∙ ap (λ l. slice_get l p) (atoms_append k a.earlier (e ∷ a.later))
      ∙ ap (λ (n : ℕ). slice_get (front ++ (k.atoms e ++ rest)) n) here
      ∙ nth_right front (k.atoms e ++ rest) d
      ∙ nth_left (k.atoms e) rest d a.inside
