-- What each entry gives where it gives something or nothing.
use Rattle.std.proofs.Common.{◌≡◌, Bool, true, false, cond, List, [], ◌∷◌, ◌++◌, refl, ap}
use Rattle.std.specs.Prelude.{Option, Some, None, map, filter, filter_map, option_to_list, if◌then◌else◌}
use Rattle.std.specs.List.{flat_map, cons_option}

pub given_parts : {X Y : Type 0} (test : X → Bool) (f : X → Y) (xs : List X) → flat_map (λ x. if test x then f x ∷ [] else []) xs ≡ map f (filter test xs)
given_parts test f [] = refl
given_parts test f (x ∷ xs) =
    elim (test x) as (λ b. (if b then f x ∷ [] else []) ++ flat_map (λ x. if test x then f x ∷ [] else []) xs ≡ map f (cond b (x ∷ filter test xs) (filter test xs))) [
      | true ↦ ap (λ ys. f x ∷ ys) (given_parts test f xs)
      | false ↦ given_parts test f xs
    ]

pub some_parts : {X Y : Type 0} (f : X → Option Y) (xs : List X) → flat_map (λ x. option_to_list (f x)) xs ≡ filter_map f xs
some_parts f [] = refl
some_parts f (x ∷ xs) =
    elim (f x) as (λ o. option_to_list o ++ flat_map (λ x. option_to_list (f x)) xs ≡ cons_option o (filter_map f xs)) [
      | None ↦ some_parts f xs
      | Some y ↦ ap (λ ys. y ∷ ys) (some_parts f xs)
    ]
