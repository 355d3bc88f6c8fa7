-- The work that a number names.
use Rattle.std.specs.Prelude.{◌≡◌, ℕ, ◌<◌, Result, MatchResult}
use Rattle.paces.specs.declared.work.Work.{Work}
use Rattle.paces.specs.declared.work.Work.TheVariants.{Put, Cut, Read, Overview}
use Rattle.paces.specs.declared.work.NoWork.{NoWork}

abbrev pub number_of : Work → ℕ
number_of Put = 1
number_of Cut = 2
number_of Read = 3
number_of Overview = 4

-- the result is the work with this number, or an error with a number that no work has
abbrev pub Names : ℕ → Result Work NoWork → Type 0
Names number r = MatchResult r (λ work. number_of work ≡ number) (λ e. (e.0 ≡ number) × (0 < number → 4 < number))
