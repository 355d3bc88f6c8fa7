-- The loan of a store: the kind and the cells that it was made over.
use Rattle.std.proofs.Common.{◌≡◌, length, refl, ◌∙◌}
use Rattle.cells.specs.declared.store.Store.{Store}

-- the same kind, and the same lent cells, which are as many
pub record SameLoan {K E S A : Type 0} (a b : Store K E S A) : Type 0 where
  pub kind : b.kind ≡ a.kind
  pub cells : b.cells.ghost_name ≡ a.cells.ghost_name
  pub size : length b.cells.now ≡ length a.cells.now

pub same_loan_refl : {K E S A : Type 0} (a : Store K E S A) → SameLoan a a
same_loan_refl a = record { kind = refl; cells = refl; size = refl }

pub same_loan_trans : {K E S A : Type 0} {a b c : Store K E S A} → SameLoan a b → SameLoan b c → SameLoan a c
same_loan_trans x y = record { kind = y.kind ∙ x.kind; cells = y.cells ∙ x.cells; size = y.size ∙ x.size }
