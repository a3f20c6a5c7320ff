-- Places that a seat holds: one for the pages of a walk beside its others.
use Rattle.std.proofs.Common.{◌≡◌, ◌∙◌, ◌<◌, ◌≤◌, ◌+◌, suc, ℤ, Bool, true, false, cond, not, List, [], ◌∷◌, ◌++◌, length, length-append, refl, sym, ap, subst, arith}
use Rattle.std.specs.Prelude.{◌||◌, Option, Some, None}
use Rattle.std.specs.List.{list_any}
use Rattle.std.specs.Ordering.{int_eq}
use Rattle.std.proofs.lemmas.Bool.Decides.{Decides-int_eq}
use Rattle.kr_shared.specs.declared.places.TheConstants.{MOST_PLACES}
use Rattle.kr_shared.specs.Clients.{Client}
use Rattle.kr_shared.specs.HeldPlaces.{with_place, without_place}
use Rattle.kr_server.specs.inner.Paging.{HasPlaceLeft, HoldsAlone, KeepsPlaces}

module _ (place : ℤ) where
  abbrev is_own : ℤ → Bool
  is_own p = int_eq p place

  own : is_own place ≡ true
  own = (Decides-int_eq place place).1 refl

  -- ---- one more

  there_at_last : (held : List ℤ) → list_any is_own (held ++ place ∷ []) ≡ true
  there_at_last [] = ap (λ b. b || false) own
  there_at_last (p ∷ held) = elim (is_own p) as (λ b. (b || list_any is_own (held ++ place ∷ [])) ≡ true) [ true ↦ refl | false ↦ there_at_last held ]

  room_with : (held : List ℤ) → length held < MOST_PLACES → HasPlaceLeft (with_place held place) (Some place)
  room_with held few = elim (list_any is_own held) as (λ b. list_any is_own held ≡ b → HasPlaceLeft (cond b held (held ++ place ∷ [])) (Some place)) [
    | true ↦ λ there. (omega (arith, few), there)
    | false ↦ λ away. let long = length-append held (place ∷ []) in (omega (arith, few, long), there_at_last held)
  ] refl

  alone_with : (held : List ℤ) → held ≡ [] → HoldsAlone (with_place held place) (Some place)
  alone_with held none = ap (λ (all : List ℤ). with_place all place) none

  -- ---- without it

  no_more : (held : List ℤ) → length (without_place held place) ≤ length held
  no_more [] = omega arith
  no_more (p ∷ held) =
      let rest = no_more held in
      elim (is_own p) as (λ b. length (cond (not b) (p ∷ without_place held place) (without_place held place)) ≤ suc (length held)) [ true ↦ omega (arith, rest) | false ↦ omega (arith, rest) ]

  fewer : (held : List ℤ) → list_any is_own held ≡ true → length (without_place held place) < length held
  fewer [] there = absurd cc
  fewer (p ∷ held) there =
      elim (is_own p) as (λ b. (b || list_any is_own held) ≡ true → length (cond (not b) (p ∷ without_place held place) (without_place held place)) < suc (length held)) [
        | true ↦ λ any. let rest = no_more held in omega (arith, rest)
        | false ↦ λ any. let rest = fewer held any in omega (arith, rest)
      ] there

  room_without : (held : List ℤ) → HasPlaceLeft held (Some place) → length (without_place held place) < MOST_PLACES
  room_without held room = let less = fewer held room.1 in let few = room.0 in omega (arith, less, few)

  alone_without : (held : List ℤ) → held ≡ place ∷ [] → without_place held place ≡ []
  alone_without held is =
      ap (λ (all : List ℤ). without_place all place) is ∙ ap (λ b. cond (not b) (place ∷ []) []) own

-- ---- over a seat's calls

pub keeps_same : (old new : Client) (held : Option ℤ) → new.held ≡ old.held → KeepsPlaces old held new held
keeps_same old new held same = record {
  room = subst (λ (all : List ℤ). HasPlaceLeft all held) (sym same);
  alone = subst (λ (all : List ℤ). HoldsAlone all held) (sym same);
}

pub keeps_nothing : (s : Client) (held : Option ℤ) → KeepsPlaces s held s held
keeps_nothing s held = keeps_same s s held refl

pub keeps_more : (a b c : Client) (held mid left : Option ℤ) → KeepsPlaces a held b mid → KeepsPlaces b mid c left → KeepsPlaces a held c left
keeps_more a b c held mid left first then = record { room = λ r. then.room (first.room r); alone = λ r. then.alone (first.alone r) }

pub keeps_taken : (old new : Client) (place : ℤ) → new.held ≡ with_place old.held place → KeepsPlaces old None new (Some place)
keeps_taken old new place is = record {
  room = λ few. subst (λ (all : List ℤ). HasPlaceLeft all (Some place)) (sym is) (room_with place old.held few);
  alone = λ none. subst (λ (all : List ℤ). HoldsAlone all (Some place)) (sym is) (alone_with place old.held none);
}

pub keeps_given : (old new : Client) (place : ℤ) → new.held ≡ without_place old.held place → KeepsPlaces old (Some place) new None
keeps_given old new place is = record {
  room = λ room. subst (λ (all : List ℤ). length all < MOST_PLACES) (sym is) (room_without place old.held room);
  alone = λ one. is ∙ alone_without place old.held one;
}

pub ruleset places = (keeps_same, keeps_nothing, keeps_more, keeps_taken, keeps_given)
