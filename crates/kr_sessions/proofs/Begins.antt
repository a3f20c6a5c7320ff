-- Brokers that become contacts, one after the other.
use Rattle.std.proofs.Common.{◌≡◌, ◌<◌, ℕ, ℤ, suc, ◌+◌, Bool, true, false, not, List, [], ◌∷◌, ◌++◌, map, length, get_or, drop, add-one, sym, subst, ◌∙◌, ap, refl}
use Rattle.std.proofs.Math.Seq.{drop-cons}
use Rattle.std.proofs.lemmas.Bool.{and_parts}
use Rattle.kr_defs.specs.declared.basis.Contact.{Contact}
use Rattle.kr_defs.specs.Ids.{has, is_distinct}
use Rattle.kr_defs.specs.Heartbeats.{new_contact}
use Rattle.kr_contact.specs.Contacts.{AreSingle, touched}
use Rattle.kr_contact.proofs.Orders.{touched_new}

pub none_of : (b : Bool) → not b ≡ true → b ≡ false
none_of true h = sym h
none_of false h = refl

module _ (now : ℤ) where
  same_brokers : (ids : List ℤ) → map (λ (c : Contact). c.broker) (map (new_contact now) ids) ≡ ids
  same_brokers [] = refl
  same_brokers (id ∷ ids) = ap (λ rest. id ∷ rest) (same_brokers ids)

  pub single_begun : (ids : List ℤ) → is_distinct ids ≡ true → AreSingle (map (new_contact now) ids)
  single_begun [] once = tt
  single_begun (id ∷ ids) once =
      let parts = and_parts (not (has ids id)) (is_distinct ids) once in
      (subst (λ (those : List ℤ). has those id ≡ false) (sym (same_brokers ids)) (none_of (has ids id) parts.0), single_begun ids parts.1)

  pub begun_more : (ids : List ℤ) (i : ℕ) (d : ℤ) (heard heard' : List Contact) → is_distinct ids ≡ true → i < length ids → heard' ≡ touched heard (new_contact now (get_or ids i d))
      → heard ++ map (new_contact now) (drop i ids) ≡ map (new_contact now) ids → heard' ++ map (new_contact now) (drop (i + 1) ids) ≡ map (new_contact now) ids
  begun_more ids i d heard heard' once within is so_far =
      let c : Contact = new_contact now (get_or ids i d) in
      let rest : List Contact = map (new_contact now) (drop (suc i) ids) in
      let begins : heard ++ c ∷ rest ≡ map (new_contact now) ids = ap (λ (those : List ℤ). heard ++ map (new_contact now) those) (sym (drop-cons ids i d within)) ∙ so_far in
      ap (λ k. heard' ++ map (new_contact now) (drop k ids)) (add-one i) ∙ ap (λ cs. cs ++ rest) is ∙ touched_new heard c rest (subst AreSingle (sym begins) (single_begun ids once)) ∙ begins
