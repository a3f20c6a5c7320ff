-- The front of the contacts that were heard of at a limit or before, one node after the other.
use Rattle.std.proofs.Common.{◌≡◌, ◌<◌, ◌-◌, ◌+◌, ℕ, suc, ℤ, Bool, true, false, cond, List, [], ◌∷◌, ◌++◌, map, length, take_while, int_le, append_assoc, sym, ap, subst, ◌∙◌, arith}
use Rattle.std.proofs.lemmas.List.Sums.{take_while-cons}
use Rattle.std.specs.Ptr.{Ptr}
use Rattle.kr_defs.specs.declared.basis.Contact.{Contact}
use Rattle.kr_contact.specs.declared.nodes.Node.{Node}
use Rattle.kr_contact.specs.declared.nodes.Place.{Place}
use Rattle.kr_contact.specs.Contacts.{AreSingle, expired_among, touched}
use Rattle.kr_contact.specs.Nodes.{contact_in, index_of, node_at, IsKnown}
use Rattle.kr_contact.specs.Rings.{AreKnown, contacts_from}
use Rattle.kr_contact.proofs.Orders.{touched_new}

module _ (first : Ptr) (nodes : List Node) (limit : ℤ) (count i : ℕ) (place : Place) where
  abbrev node : Node
  node = node_at nodes (index_of first place)

  abbrev front : ℕ → Place → List ℤ
  front j from = expired_among (contacts_from first nodes (count - j) from) limit

  one_less : i < count → count - i ≡ suc (count - (i + 1))
  one_less within = omega arith

  pub known_now : i < count → AreKnown first nodes (count - i) place → IsKnown first (length nodes) place × AreKnown first nodes (count - (i + 1)) node.after
  known_now within known = subst (λ k. AreKnown first nodes k place) (one_less within) known

  abbrev is_old : Contact → Bool
  is_old c = int_le c.time limit

  front_at : i < count → front i place ≡ map (λ (c : Contact). c.broker) (cond (is_old (contact_in node)) (contact_in node ∷ take_while is_old (contacts_from first nodes (count - (i + 1)) node.after)) [])
  front_at within =
      let rest : List Contact = contacts_from first nodes (count - (i + 1)) node.after in
      ap (λ k. expired_among (contacts_from first nodes k place) limit) (one_less within) ∙ ap (map (λ (c : Contact). c.broker)) (take_while-cons is_old (contact_in node) rest)

  old_front : i < count → true ≡ int_le node.time limit → front i place ≡ node.broker ∷ front (i + 1) node.after
  old_front within old =
      let rest : List Contact = contacts_from first nodes (count - (i + 1)) node.after in
      front_at within ∙ ap (λ b. map (λ (c : Contact). c.broker) (cond b (contact_in node ∷ take_while is_old rest) [])) (sym old)

  pub given_more : (given given' all : List ℤ) (broker : ℤ) → i < count → true ≡ int_le node.time limit → broker ≡ node.broker → given' ≡ given ++ broker ∷ []
      → given ++ front i place ≡ all → given' ++ front (i + 1) node.after ≡ all
  given_more given given' all broker within old is more so_far = rw (more, is, append_assoc) (rw (old_front within old) at so_far)

  pub counted_more : (steps steps' all : ℕ) → i < count → true ≡ int_le node.time limit → steps' ≡ steps + 1 → steps + length (front i place) ≡ all → steps' + length (front (i + 1) node.after) ≡ all
  counted_more steps steps' all within old one so_far =
      let longer : length (front i place) ≡ suc (length (front (i + 1) node.after)) = ap length (old_front within old) in
      omega arith

  -- at a contact that is not old, and after the last one
  pub given_new : i < count → false ≡ int_le node.time limit → front i place ≡ []
  given_new within new =
      let rest : List Contact = contacts_from first nodes (count - (i + 1)) node.after in
      front_at within ∙ ap (λ b. map (λ (c : Contact). c.broker) (cond b (contact_in node ∷ take_while is_old rest) [])) (sym new)

  pub given_all : count ≡ i → front i place ≡ []
  given_all ended = let none : count - i ≡ 0 = omega arith in ap (λ k. expired_among (contacts_from first nodes k place) limit) none

  pub copied_more : (to to' all : List Contact) → i < count → AreSingle all → to' ≡ touched to (contact_in node)
      → to ++ contacts_from first nodes (count - i) place ≡ all → to' ++ contacts_from first nodes (count - (i + 1)) node.after ≡ all
  copied_more to to' all within single is so_far =
      let rest : List Contact = contacts_from first nodes (count - (i + 1)) node.after in
      let now : to ++ (contact_in node) ∷ rest ≡ all = subst (λ k. to ++ contacts_from first nodes k place ≡ all) (one_less within) so_far in
      ap (λ cs. cs ++ rest) is ∙ touched_new to (contact_in node) rest (subst AreSingle (sym now) single) ∙ now

  -- a copy grows by the node's contact
  pub listed_more : (given given' all : List Contact) → i < count → given' ≡ given ++ contact_in node ∷ [] → given ++ contacts_from first nodes (count - i) place ≡ all
      → given' ++ contacts_from first nodes (count - (i + 1)) node.after ≡ all
  listed_more given given' all within more so_far =
      let rest : List Contact = contacts_from first nodes (count - (i + 1)) node.after in
      let now : given ++ contact_in node ∷ rest ≡ all = subst (λ k. given ++ contacts_from first nodes k place ≡ all) (one_less within) so_far in
      ap (λ cs. cs ++ rest) more ∙ append_assoc given (contact_in node ∷ []) rest ∙ now
