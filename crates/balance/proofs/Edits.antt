-- What lies before a place and behind it: the lists, the balance and the counts of the trees that keep it.
use Rattle.std.proofs.Common.{◌≡◌, ℕ, ◌+◌, ◌-◌, ◌<◌, ◌≤◌, eqb, ltb, List, [], ◌∷◌, ◌++◌, sym, refl, ap, ◌∙◌, subst, append_assoc, append-nil, add_assoc, arith}
use Rattle.balance.specs.Trees.{Tree, leaf, elements, count, Balanced}
use Rattle.balance.specs.Links.{link}
use Rattle.balance.specs.Lists.{Shape, extents, Solid, front, back, put_in, between, without}
use Rattle.balance.specs.Ways.{Way, lost, here, left, right, whole, span, way, place, Found}
use Rattle.balance.specs.Edits.{Rest, done, more, listed, tail, onward, joined, Parted, up_to, on_from, before, rest, parted, parted_rest, merge, put, taken, cut}
use Rattle.balance.proofs.Tests.{tests, by_test, by_one_test}
use Rattle.balance.proofs.Links.{link_elements, link_count, link_balanced}
use Rattle.balance.proofs.Lists.{front_in, back_in, front_past, back_past, front_high, back_high, front_low, back_low, front_end, back_end, back_start}
use Rattle.balance.proofs.Ways.{span_extents, found_inside, way_through, way_leads}

-- ---- order

onward_listed : {E : Type 0} (s : Rest E) (e : E) (r : Tree E) → listed (onward s e r) ≡ listed s ++ (e ∷ elements r)
unfolding onward
onward_listed done e r = refl
onward_listed (more f t) e r = ap (λ l. f ∷ l) (link_elements t e r)

pub joined_elements : {E : Type 0} (t : Tree E) (s : Rest E) → elements (joined t s) ≡ elements t ++ listed s
unfolding joined
joined_elements t done = sym (append-nil (elements t))
joined_elements t (more e r) = link_elements t e r

module _ {E : Type 0} (k : Shape E) where
  -- within one element
  up_to_elements : (l : Tree E) (e : E) (d : ℕ) (es : List E) → d < k.extent e → elements (up_to k l e d) ≡ elements l ++ front k d (e ∷ es)
  unfolding up_to
  up_to_elements l e d es inside =
      rw (front_in k e es d inside)
      (by_one_test (λ t f. elements t ≡ elements l ++ f) (eqb d 0) l (link l (k.part e 0 d) leaf) [] (k.part e 0 d ∷ [])
      (λ none. sym (append-nil (elements l)))
      (λ some. link_elements l (k.part e 0 d) leaf))

  on_from_listed : (e : E) (d : ℕ) (es : List E) → d < k.extent e → on_from k e d ∷ es ≡ back k d (e ∷ es)
  unfolding on_from
  on_from_listed e d es inside = sym (back_in k e es d inside)

  -- at the place that a way leads to
  pub before_elements : (w : Way E) → Found k w → elements (before k w) ≡ front k (place k w) (elements (whole w))
  unfolding before
  before_elements lost found = absurd found
  before_elements (here l e r d) found =
      rw (span_extents k l)
      (up_to_elements l e d (elements r) found ∙ sym (front_high k (elements l) (e ∷ elements r) d))
  before_elements (left w e r) found =
      before_elements w found ∙ sym (front_low k (elements (whole w)) (e ∷ elements r) (place k w) (omega (arith, found_inside k w found, span_extents k (whole w))))
  before_elements (right l e w) found =
      rw (span_extents k l, add_assoc (extents k (elements l)) (k.extent e) (place k w))
      (link_elements l e (before k w)
      ∙ ap (λ s. elements l ++ (e ∷ s)) (before_elements w found)
      ∙ ap (λ s. elements l ++ s) (sym (front_past k e (elements (whole w)) (place k w)))
      ∙ sym (front_high k (elements l) (e ∷ elements (whole w)) (k.extent e + place k w)))

  pub rest_listed : (w : Way E) → Found k w → listed (rest k w) ≡ back k (place k w) (elements (whole w))
  unfolding rest
  rest_listed lost found = absurd found
  rest_listed (here l e r d) found =
      rw (span_extents k l)
      (on_from_listed e d (elements r) found ∙ sym (back_high k (elements l) (e ∷ elements r) d))
  rest_listed (left w e r) found =
      onward_listed (rest k w) e r
      ∙ ap (λ s. s ++ (e ∷ elements r)) (rest_listed w found)
      ∙ sym (back_low k (elements (whole w)) (e ∷ elements r) (place k w) (omega (arith, found_inside k w found, span_extents k (whole w))))
  rest_listed (right l e w) found =
      rw (span_extents k l, add_assoc (extents k (elements l)) (k.extent e) (place k w))
      (rest_listed w found
      ∙ sym (back_past k e (elements (whole w)) (place k w))
      ∙ sym (back_high k (elements l) (e ∷ elements (whole w)) (k.extent e + place k w)))

  -- a tree and a rest taken apart have the lists that dividing gives
  pub record Divides (es : List E) (p : ℕ) (s : Parted E) : Type 0 where
    pub fore : elements s.before ≡ front k p es
    pub aft : listed s.rest ≡ back k p es

  pub parted_divides : (t : Tree E) (p : ℕ) → Divides (elements t) p (parted k t p)
  unfolding parted
  parted_divides t p =
      by_test (Divides (elements t) p) (ltb p (span k t)) _ _
      (λ inside.
      let w = way k t p in
      let leads = way_leads k t p (omega tests) in
      record {
        fore = before_elements w leads.found ∙ ap (λ (q : ℕ). front k q (elements (whole w))) leads.to ∙ ap (λ u. front k p (elements u)) (way_through k t p);
        aft = rest_listed w leads.found ∙ ap (λ (q : ℕ). back k q (elements (whole w))) leads.to ∙ ap (λ u. back k p (elements u)) (way_through k t p);
      })
      (λ beyond.
      let far : extents k (elements t) ≤ p = omega (tests, span_extents k t) in
      record { fore = sym (front_end k (elements t) p far); aft = sym (back_end k (elements t) p far) })

  pub parted_rest_divides : (s : Rest E) (p : ℕ) → Divides (listed s) p (parted_rest k s p)
  unfolding parted_rest
  parted_rest_divides done p = record { fore = refl; aft = refl }
  parted_rest_divides (more e t) p =
      by_test (Divides (e ∷ elements t) p) (ltb p (k.extent e)) _ _
      (λ inside. record { fore = up_to_elements leaf e p (elements t) (omega tests); aft = on_from_listed e p (elements t) (omega tests) })
      (λ past.
      let q = p - k.extent e in
      let p_is : k.extent e + q ≡ p = omega tests in
      let below = parted_divides t q in
      record {
        fore = link_elements leaf e (parted k t q).before ∙ ap (λ l. e ∷ l) below.fore
            ∙ sym (front_past k e (elements t) q) ∙ ap (λ (n : ℕ). front k n (e ∷ elements t)) p_is;
        aft = below.aft ∙ sym (back_past k e (elements t) q) ∙ ap (λ (n : ℕ). back k n (e ∷ elements t)) p_is;
      })

  pub merge_elements : (l r : Tree E) → Solid k (elements r) → elements (merge k l r) ≡ elements l ++ elements r
  unfolding merge
  merge_elements l r solid =
      joined_elements l (parted k r 0).rest
      ∙ ap (λ s. elements l ++ s) ((parted_divides r 0).aft ∙ back_start k (elements r) solid)

  pub put_elements : (t : Tree E) (p : ℕ) (new : Tree E) → Solid k (elements new)
      → elements (put k t p new) ≡ put_in k (elements t) p (elements new)
  unfolding put
  put_elements t p new solid =
      let s = parted k t p in
      let divides = parted_divides t p in
      joined_elements (merge k s.before new) s.rest
      ∙ rw (merge_elements s.before new solid, divides.fore, divides.aft) (append_assoc (front k p (elements t)) (elements new) (back k p (elements t)))

  -- what lies behind one place divided at another
  rest_divides : (t : Tree E) (from len : ℕ) → Divides (back k from (elements t)) len (parted_rest k (parted k t from).rest len)
  rest_divides t from len =
      let s = (parted k t from).rest in
      subst (λ es. Divides es len (parted_rest k s len)) (parted_divides t from).aft (parted_rest_divides s len)

  pub taken_elements : (t : Tree E) (from len : ℕ) → elements (taken k t from len) ≡ between k (elements t) from len
  unfolding taken
  taken_elements t from len = (rest_divides t from len).fore

  pub cut_elements : (t : Tree E) (from len : ℕ) → elements (cut k t from len) ≡ without k (elements t) from len
  unfolding cut
  cut_elements t from len =
      let s = parted k t from in
      joined_elements s.before (parted_rest k s.rest len).rest
      ∙ rw ((parted_divides t from).fore, (rest_divides t from len).aft)

-- ---- balance

onward_balanced : {E : Type 0} (s : Rest E) (e : E) (r : Tree E) → Balanced (tail s) → Balanced r → Balanced (tail (onward s e r))
unfolding onward
onward_balanced done e r bs br = br
onward_balanced (more f t) e r bs br = link_balanced t e r bs br

onward_count : {E : Type 0} (s : Rest E) (e : E) (r : Tree E) → count (tail (onward s e r)) ≤ count (tail s) + count r + 1
unfolding onward
onward_count done e r = omega arith
onward_count (more f t) e r = omega (arith, link_count t e r)

pub joined_balanced : {E : Type 0} (t : Tree E) (s : Rest E) → Balanced t → Balanced (tail s) → Balanced (joined t s)
unfolding joined
joined_balanced t done bt bs = bt
joined_balanced t (more e r) bt bs = link_balanced t e r bt bs

joined_count : {E : Type 0} (t : Tree E) (s : Rest E) → count (joined t s) ≤ count t + count (tail s) + 1
unfolding joined
joined_count t done = omega arith
joined_count t (more e r) = omega (arith, link_count t e r)

-- the trees of a parted tree are balanced, and neither has more elements than n
pub record Sound {E : Type 0} (n : ℕ) (a : Tree E) (s : Rest E) : Type 0 where
  pub before_balanced : Balanced a
  pub rest_balanced : Balanced (tail s)
  pub before_few : count a ≤ n
  pub rest_few : count (tail s) ≤ n

module _ {E : Type 0} (k : Shape E) where
  up_to_sound : (l : Tree E) (e : E) (d : ℕ) (r : Tree E) (f : E) → Balanced l → Balanced r → Sound (count l + count r + 1) (up_to k l e d) (more f r)
  unfolding up_to
  up_to_sound l e d r f bl br =
      by_test (λ t. Sound (count l + count r + 1) t (more f r)) (eqb d 0) l (link l (k.part e 0 d) leaf)
      (λ none. record { before_balanced = bl; rest_balanced = br; before_few = omega arith; rest_few = omega arith })
      (λ some. record {
        before_balanced = link_balanced l (k.part e 0 d) leaf bl tt;
        rest_balanced = br;
        before_few = omega (arith, link_count l (k.part e 0 d) leaf);
        rest_few = omega arith;
      })

  pub way_sound : (w : Way E) → Balanced (whole w) → Sound (count (whole w)) (before k w) (rest k w)
  unfolding before rest
  way_sound lost b = record { before_balanced = tt; rest_balanced = tt; before_few = omega arith; rest_few = omega arith }
  way_sound (here l e r d) b = up_to_sound l e d r (on_from k e d) b.left b.right
  way_sound (left w e r) b =
      let below = way_sound w b.left in
      record {
        before_balanced = below.before_balanced;
        rest_balanced = onward_balanced (rest k w) e r below.rest_balanced b.right;
        before_few = omega (arith, below.before_few);
        rest_few = omega (arith, below.rest_few, onward_count (rest k w) e r);
      }
  way_sound (right l e w) b =
      let below = way_sound w b.right in
      record {
        before_balanced = link_balanced l e (before k w) b.left below.before_balanced;
        rest_balanced = below.rest_balanced;
        before_few = omega (arith, below.before_few, link_count l e (before k w));
        rest_few = omega (arith, below.rest_few);
      }

  pub parted_sound : (t : Tree E) (p : ℕ) → Balanced t → Sound (count t) (parted k t p).before (parted k t p).rest
  unfolding parted
  parted_sound t p b =
      by_test {A = Parted E} (λ s. Sound (count t) s.before s.rest) (ltb p (span k t)) _ _
      (λ inside.
      let w = way k t p in
      let through = way_through k t p in
      subst (λ u. Sound (count u) (before k w) (rest k w)) through (way_sound w (subst Balanced (sym through) b)))
      (λ beyond. record { before_balanced = b; rest_balanced = tt; before_few = omega arith; rest_few = omega arith })

  pub parted_rest_sound : (s : Rest E) (p : ℕ) → Balanced (tail s) → Sound (count (tail s) + 1) (parted_rest k s p).before (parted_rest k s p).rest
  unfolding parted_rest
  parted_rest_sound done p b = record { before_balanced = tt; rest_balanced = tt; before_few = omega arith; rest_few = omega arith }
  parted_rest_sound (more e t) p b =
      by_test {A = Parted E} (λ s. Sound (count t + 1) s.before s.rest) (ltb p (k.extent e)) _ _
      (λ inside. subst (λ (n : ℕ). Sound n (up_to k leaf e p) (more (on_from k e p) t)) (omega arith) (up_to_sound leaf e p t (on_from k e p) tt b))
      (λ past.
      let below = parted_sound t (p - k.extent e) b in
      let s = parted k t (p - k.extent e) in
      record {
        before_balanced = link_balanced leaf e s.before tt below.before_balanced;
        rest_balanced = below.rest_balanced;
        before_few = omega (arith, below.before_few, link_count leaf e s.before);
        rest_few = omega (arith, below.rest_few);
      })

  pub merge_balanced : (l r : Tree E) → Balanced l → Balanced r → Balanced (merge k l r)
  unfolding merge
  merge_balanced l r bl br = joined_balanced l (parted k r 0).rest bl (parted_sound r 0 br).rest_balanced

  -- no more than both have, and an element that dividing may add
  pub merge_count : (l r : Tree E) → Balanced r → count (merge k l r) ≤ count l + count r + 1
  unfolding merge
  merge_count l r br = omega (arith, joined_count l (parted k r 0).rest, (parted_sound r 0 br).rest_few)

  pub put_balanced : (t : Tree E) (p : ℕ) (new : Tree E) → Balanced t → Balanced new → Balanced (put k t p new)
  unfolding put
  put_balanced t p new bt bn =
      let sound = parted_sound t p bt in
      joined_balanced (merge k (parted k t p).before new) (parted k t p).rest (merge_balanced (parted k t p).before new sound.before_balanced bn) sound.rest_balanced

  pub taken_balanced : (t : Tree E) (from len : ℕ) → Balanced t → Balanced (taken k t from len)
  unfolding taken
  taken_balanced t from len b = (parted_rest_sound (parted k t from).rest len (parted_sound t from b).rest_balanced).before_balanced

  pub cut_balanced : (t : Tree E) (from len : ℕ) → Balanced t → Balanced (cut k t from len)
  unfolding cut
  cut_balanced t from len b =
      let sound = parted_sound t from b in
      let s = parted k t from in
      joined_balanced s.before (parted_rest k s.rest len).rest sound.before_balanced (parted_rest_sound s.rest len sound.rest_balanced).rest_balanced
