-- What a list of elements answers: stated over the atoms that it means, wherever the answer is one of
-- atoms. How many cells are free is no question to a list: that answer belongs to the cells.
use Rattle.std.specs.Prelude.{◌≡◌, ℕ, ◌+◌, ◌*◌, ◌<◌, ◌≤◌, Bool, List, ◌∷◌, ◌++◌, length, take, drop, ℤ, Some, None, Ok, Err, Option, Result}
use Rattle.faults.specs.declared.session.SessionFault.{SessionFault}
use Rattle.reels.specs.Samples.{bytes_of}
use Rattle.kinds.specs.Kinds.{Meaning, total}
use Rattle.kinds.specs.Places.{extent, extent_of, atoms_of}
use Rattle.flat.specs.Refusals.{first_of, at_version, against_render}

module _ {E A S : Type 0} (k : Meaning E A S) where
  -- length: how many atoms there are
  abbrev pub length_of : List E → ℕ
  length_of es = length (atoms_of k es)

  -- the atoms of the range (from, len)
  abbrev pub atoms_in : ℕ → ℕ → List E → List A
  atoms_in from len es = take len (drop from (atoms_of k es))

  -- overview: the joined summary of the range's atoms
  abbrev pub overview_of : ℕ → ℕ → List E → S
  overview_of from len es = total k (atoms_in from len es)

  -- The element e of the list holds the atom p at the offset d: the extents before it and the offset
  -- make p, and the offset is inside it.
  pub record HoldsAtom (es : List E) (p : ℕ) (e : E) (d : ℕ) : Type 0 where
    pub earlier : List E
    pub later : List E
    pub whole : es ≡ earlier ++ (e ∷ later)
    pub place : extent_of k earlier + d ≡ p
    pub inside : d < extent k e

  -- read: the two numbers of the element that holds the atom p, and the offset in it
  pub record Reads (es : List E) (p a b d : ℕ) : Type 0 where
    pub element : E
    pub holds : HoldsAtom es p element d
    pub first : a ≡ k.first element
    pub second : b ≡ k.second element

  -- the tally of the first p atoms
  abbrev pub tally_to : (S → ℕ) → List E → ℕ → ℕ
  tally_to tally es p = tally (total k (take p (atoms_of k es)))

  -- find: the place p such that the tally of the first p atoms is at most t, and that of the first p + 1 exceeds t
  pub record Finds (tally : S → ℕ) (es : List E) (t p : ℕ) : Type 0 where
    pub reached : tally_to tally es p ≤ t
    pub passed : t < tally_to tally es (p + 1)

-- How a question to a version may end: refused by the first fault that applies, or, where none does, with
-- an answer that is right for the version's list.
abbrev pub Answered : {E V : Type 0} → Option (List E) → (List E → List (Option SessionFault)) → (List E → V → Type 0)
    → Result V SessionFault → Type 0
Answered {E} version against Right (Ok v) =
    (first_of (at_version version against) ≡ None) × ((es : List E) × (version ≡ Some es) × Right es v)
Answered version against Right (Err f) = first_of (at_version version against) ≡ Some f

module _ {E S : Type 0} (k : Meaning E ℤ S) where
  -- render, for kinds whose atoms are samples: the bytes of the range's samples in order
  abbrev pub render_of : ℕ → ℕ → List E → List ℕ
  render_of from len es = bytes_of (atoms_in k from len es)

  -- what an output holds after a render: those bytes, and beyond them what it held
  abbrev pub output_after : ℕ → ℕ → List E → List ℕ → List ℕ
  output_after from len es out = render_of from len es ++ drop (2 * len) out

  -- How a render may end, over the output as it finds it and as it leaves it; where it is refused the
  -- output stays. For missing see against_render.
  pub record Rendered {V : Type 0} (version : Option (List E)) (from len : ℕ) (missing : List E → Bool) (entry exit : List ℕ)
      (r : Result V SessionFault) : Type 0 where
    pub answered :
        Answered version (against_render k from len (length entry) missing) (λ es v. exit ≡ output_after from len es entry) r
    pub unwritten : (f : SessionFault) → r ≡ Err f → exit ≡ entry
