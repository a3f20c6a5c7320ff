-- Lists of broker ids, read by tests (this project's own words).
use Rattle.std.specs.Prelude.{Bool, true, not, ◌&&◌, List, [], ◌∷◌, ℤ, filter}
use Rattle.std.specs.List.{list_any, list_all}
use Rattle.std.specs.Ordering.{int_eq}

-- the list has the id
abbrev pub has : List ℤ → ℤ → Bool
has ids id = list_any (λ x. int_eq x id) ids

-- each id stands once
abbrev pub is_distinct : List ℤ → Bool
is_distinct [] = true
is_distinct (id ∷ ids) = not (has ids id) && is_distinct ids

-- each of these is among those
abbrev pub is_within : List ℤ → List ℤ → Bool
is_within ids those = list_all (has those) ids

-- none of these is among those
abbrev pub are_apart : List ℤ → List ℤ → Bool
are_apart ids those = list_all (λ id. not (has those id)) ids

-- these but for those, in the order of these
abbrev pub without : List ℤ → List ℤ → List ℤ
without ids those = filter (λ id. not (has those id)) ids

-- these that are among those, in the order of these
abbrev pub within : List ℤ → List ℤ → List ℤ
within ids those = filter (λ id. has those id) ids
