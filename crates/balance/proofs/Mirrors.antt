-- What a tree and its mirror image have in common.
use Rattle.std.proofs.Common.{◌≡◌, [], ◌∷◌, reverse, length, sym, refl, ap, ◌∙◌, append_assoc, arith, length-append}
use mathlib.Core.List.{reverse-append, reverse-cons}
use Rattle.balance.specs.Lists.{Shape}
use Rattle.balance.specs.Ways.{span}
use Rattle.balance.specs.Trees.{Tree, leaf, node, elements, count, Balanced, mirror}

-- the count is the length of the list, so trees of one list have one count
pub count_length : {E : Type 0} (t : Tree E) → count t ≡ length (elements t)
count_length leaf = refl
count_length (node l e r) =
    omega (arith, count_length l, count_length r, length-append (elements l) (e ∷ elements r))

pub same_count : {E : Type 0} (t u : Tree E) → elements t ≡ elements u → count t ≡ count u
same_count t u same = count_length t ∙ ap length same ∙ sym (count_length u)

pub mirror_mirror : {E : Type 0} (t : Tree E) → mirror (mirror t) ≡ t
mirror_mirror leaf = refl
mirror_mirror (node l e r) = let a = mirror_mirror l in let b = mirror_mirror r in cc

pub mirror_count : {E : Type 0} (t : Tree E) → count (mirror t) ≡ count t
mirror_count leaf = refl
mirror_count (node l e r) = omega (arith, mirror_count l, mirror_count r)

pub mirror_balanced : {E : Type 0} (t : Tree E) → Balanced t → Balanced (mirror t)
mirror_balanced leaf b = tt
mirror_balanced (node l e r) b =
    let x = mirror_count l in let y = mirror_count r in
    record {
      left_light = omega (arith, b.right_light);
      right_light = omega (arith, b.left_light);
      left = mirror_balanced r b.right;
      right = mirror_balanced l b.left;
    }

pub mirror_elements : {E : Type 0} (t : Tree E) → elements (mirror t) ≡ reverse (elements t)
mirror_elements leaf = refl
mirror_elements (node l e r) =
    rw (mirror_elements l, mirror_elements r, reverse-append, reverse-cons) (sym (append_assoc (reverse (elements r)) (e ∷ []) (reverse (elements l))))

-- trees of one list have mirror images of one list
pub mirror_same : {E : Type 0} (t u : Tree E) → elements t ≡ elements u → elements (mirror t) ≡ elements (mirror u)
mirror_same t u same = mirror_elements t ∙ ap reverse same ∙ sym (mirror_elements u)

pub mirror_span : {E : Type 0} (k : Shape E) (t : Tree E) → span k (mirror t) ≡ span k t
mirror_span k leaf = refl
mirror_span k (node l e r) = omega (arith, mirror_span k l, mirror_span k r)
