-- Cells that are all free, each naming the next.
use Rattle.std.proofs.Common.{◌≡◌, ℕ, zero, suc, ◌+◌, ◌<◌, ◌≤◌, List, [], ◌∷◌, length, set, Some, None, Option, sym, refl, ◌∙◌, subst, ⊎_elim, arith}
use Rattle.std.specs.List.{slice_get}
use Rattle.std.proofs.lemmas.Option.{slice_get_past, slice_get_within}
use Rattle.std.proofs.lemmas.Bool.{cases_eq}
use Rattle.kinds.specs.Kinds.{Meaning}
use Rattle.cells.specs.declared.cell.Cell.{Cell}
use Rattle.cells.specs.Cells.{referred}
use Rattle.cells.specs.References.{links, used, Chain, Arena}
use Rattle.cells.proofs.Lists.{nth_set_same, nth_set_other}
use Rattle.cells.proofs.Names.{links_free}

-- the cell j is free and names the next
pub record Free {E S : Type 0} (a : List (Cell E S)) (j : ℕ) : Type 0 where
  pub cell : Cell E S
  pub at : slice_get a j ≡ Some cell
  pub none : cell.refs ≡ 0
  pub next : cell.left ≡ j + 1

abbrev pub FreeTo : {E S : Type 0} → List (Cell E S) → ℕ → Type 0
FreeTo a n = (j : ℕ) → j < n → Free a j

pub free_more : {E S : Type 0} (a : List (Cell E S)) (n : ℕ) (d : Cell E S) (b : List (Cell E S)) → b ≡ set a n d → n < length a → d.refs ≡ 0 → d.left ≡ n + 1
    → FreeTo a n → FreeTo b (n + 1)
free_more a n d b e inside none next before = subst (λ x. FreeTo x (n + 1)) (sym e) (λ j h. ⊎_elim
    (λ q. subst (Free (set a n d)) (sym q) (record { cell = d; at = nth_set_same a n d inside; none = none; next = next }))
    (λ ne. let f = before j (omega arith) in record { cell = f.cell; at = nth_set_other a n j d ne ∙ f.at; none = f.none; next = f.next })
    (cases_eq j n))

links_none : {E S : Type 0} (a : List (Cell E S)) (i : ℕ) → ((j : ℕ) (c : Cell E S) → slice_get a j ≡ Some c → c.refs ≡ 0) → links a i ≡ 0
unfolding links
links_none [] i none = refl
links_none (c ∷ a) i none = omega (arith, links_free c.refs c i (none 0 c refl), links_none a i (λ j d e. none (suc j) d e))

used_none : {E S : Type 0} (a : List (Cell E S)) → ((j : ℕ) (c : Cell E S) → slice_get a j ≡ Some c → c.refs ≡ 0) → used a ≡ 0
used_none [] none = refl
used_none (c ∷ a) none = omega (arith, none 0 c refl, used_none a (λ j d e. none (suc j) d e))

module _ {E A S : Type 0} (k : Meaning E A S) (a : List (Cell E S)) (free : FreeTo a (length a)) where
  all_free : (j : ℕ) (c : Cell E S) → slice_get a j ≡ Some c → c.refs ≡ 0
  all_free j c e =
      let f = free j (slice_get_within a j c e) in
      let s : Some f.cell ≡ Some c = sym f.at ∙ e in
      let r : f.cell.refs ≡ c.refs = cc in
      sym r ∙ f.none

  chain_from : (n j : ℕ) → j + n ≡ length a → Chain n a j
  chain_from zero j e = slice_get_past a j (omega arith)
  chain_from (suc n) j e =
      let f = free j (omega arith) in
      (f.cell, f.at, f.none, subst (Chain n a) (sym f.next) (chain_from n (j + 1) (omega arith)))

  no_refs : (i : ℕ) (o : Option (Cell E S)) → slice_get a i ≡ o → referred o ≡ 0
  no_refs i None e = refl
  no_refs i (Some c) e = all_free i c e

  pub all_started : length a ≤ 65535 → Arena k a (record { head = 0; free = length a }) []
  all_started short = record {
    sound = λ i c e live. absurd (let z = all_free i c e in omega arith);
    counts = λ i h. omega (arith, no_refs i (slice_get a i) refl, links_none a i all_free);
    chain = chain_from (length a) 0 (omega arith);
    all = omega (arith, used_none a all_free);
    long = short;
  }

pub started : {E A S : Type 0} (k : Meaning E A S) (a : List (Cell E S)) (n : ℕ) → n ≡ length a → n ≤ 65535 → FreeTo a n → Arena k a (record { head = 0; free = n }) []
started k a n e short free = subst (λ m. Arena k a (record { head = 0; free = m }) []) (sym e) (all_started k a (subst (FreeTo a) e free) (omega arith))
