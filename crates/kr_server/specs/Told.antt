-- A list that may be told. This project's own.
use Rattle.std.specs.Prelude.{◌≡◌, List, ◌++◌, Option, Some, None}

-- where the list is told, it is longer by these, in order
abbrev pub TellsMore : {X : Type 0} → Option (List X) → Option (List X) → List X → Type 0
TellsMore None after more = Unit {0}
TellsMore (Some before) None more = ⊥
TellsMore (Some before) (Some after) more = after ≡ before ++ more
