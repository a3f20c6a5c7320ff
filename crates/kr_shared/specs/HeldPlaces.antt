-- Places of the log, each once. This project's own.
use Rattle.std.specs.Prelude.{ℤ, not, List, [], ◌∷◌, ◌++◌, filter, if◌then◌else◌}
use Rattle.std.specs.List.{list_any}
use Rattle.std.specs.Ordering.{int_eq}

-- each place once
abbrev pub with_place : List ℤ → ℤ → List ℤ
with_place held place = if list_any (λ p. int_eq p place) held then held else held ++ place ∷ []

abbrev pub without_place : List ℤ → ℤ → List ℤ
without_place held place = filter (λ p. not (int_eq p place)) held
