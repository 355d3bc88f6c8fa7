-- Two reels, the first followed by the second.
use Rattle.reels.specs.declared.joined.Joined.{Joined}

abbrev pub joined_first : {P Q : Type 0} → Joined P Q → P
joined_first j = j.first

abbrev pub joined_second : {P Q : Type 0} → Joined P Q → Q
joined_second j = j.second
