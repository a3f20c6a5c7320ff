-- Where each broker stands once, what holds of some contact of a broker holds of the one that is found.
use Rattle.std.proofs.Common.{◌≡◌, ℤ, Bool, true, false, not, ◌&&◌, ◌||◌, List, [], ◌∷◌, map, find, refl, sym, subst, inl, inr}
use Rattle.std.specs.List.{list_any}
use Rattle.std.specs.Option.{option_map_or}
use Rattle.std.specs.Ordering.{int_eq}
use Rattle.std.proofs.lemmas.Bool.{and_parts, cases_Bool}
use Rattle.kr_defs.specs.declared.basis.Contact.{Contact}
use Rattle.kr_defs.specs.Ids.{has, is_distinct}
use Rattle.kr_defs.proofs.IdLists.{same_id}
use Rattle.kr_defs.proofs.Tests.{neither}
use Rattle.kr_sessions.proofs.Begins.{none_of}

module _ (test : Contact → Bool) where
  abbrev some_of : ℤ → List Contact → Bool
  some_of broker contacts = list_any (λ (c : Contact). int_eq c.broker broker && test c) contacts

  none_holds : (contacts : List Contact) (broker : ℤ) → has (map (λ (c : Contact). c.broker) contacts) broker ≡ false → some_of broker contacts ≡ false
  none_holds [] broker none = refl
  none_holds (c ∷ cs) broker none =
      let both = neither (int_eq c.broker broker) (has (map (λ (d : Contact). d.broker) cs) broker) none in
      rw (both.0) (none_holds cs broker both.1)

  or_none : (a b : Bool) → b ≡ false → a ≡ (a || b)
  or_none true b none = refl
  or_none false b none = sym none

  pub found_holds : (contacts : List Contact) (broker : ℤ) → is_distinct (map (λ (c : Contact). c.broker) contacts) ≡ true
      → option_map_or test (find (λ (c : Contact). int_eq c.broker broker) contacts) false ≡ some_of broker contacts
  found_holds [] broker once = refl
  found_holds (c ∷ cs) broker once =
      let brokers : List ℤ = map (λ (d : Contact). d.broker) cs in
      let parts = and_parts (not (has brokers c.broker)) (is_distinct brokers) once in
      elim (cases_Bool (int_eq c.broker broker)) [
        | inl it ↦
            let none : has brokers broker ≡ false = subst (λ (b : ℤ). has brokers b ≡ false) (same_id c.broker broker it) (none_of (has brokers c.broker) parts.0) in
            rw it (or_none (test c) (some_of broker cs) (none_holds cs broker none))
        | inr other ↦ rw other (found_holds cs broker parts.1)
      ]
