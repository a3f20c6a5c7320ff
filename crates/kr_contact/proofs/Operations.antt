-- The operations on a ring whose order is read off its nodes.
use Rattle.std.proofs.Common.{◌≡◌, ◌<◌, ◌-◌, ◌+◌, ◌*◌, ◌/◌, ℕ, ℤ, Bool, true, false, cond, ◌||◌, nat_lt, IsTrue, List, [], ◌∷◌, ◌++◌, map, length, Some, None, refl, sym, ap, subst, ◌∙◌, inl, inr, arith}
use Rattle.std.specs.Prelude.{min}
use Rattle.std.proofs.lemmas.Bool.Decides.{nat_tests}
use Rattle.std.proofs.lemmas.List.{length-append}
use Rattle.std.specs.Map.{lookup}
use Rattle.std.specs.Mem.{type_size}
use Rattle.std.specs.Ordering.{int_eq}
use Rattle.std.specs.Ptr.{Ptr, block_ptr, null_ptr}
use Rattle.std.proofs.Math.Nat.{zero-div, min-le_left, min-le_right}
use denote.RattleType.{RattleType}
use Rattle.kr_defs.specs.declared.basis.Contact.{Contact}
use Rattle.kr_contact.specs.declared.nodes.Node.{Node}
use Rattle.kr_contact.specs.declared.nodes.Place.{Place}
use Rattle.kr_contact.specs.contracts.nodes.Node.{the_row}
use Rattle.kr_defs.specs.Heartbeats.{contacts_without}
use Rattle.kr_contact.specs.Contacts.{AreSingle, is_contact, contact_of, touched}
use Rattle.kr_contact.specs.Nodes.{index_of, node_at, node_of, IsKnown, LiesAt, with_news, unlinked, linked}
use Rattle.kr_contact.specs.Places.{IsPlaceOf}
use Rattle.kr_contact.specs.Rings.{IsApart, IsIn, IsPath, After, Before, AreKnown, order_of, contact_at, contacts_from, IsRing}
use Rattle.std.proofs.lemmas.Bool.{cases_Bool}
use Rattle.kr_contact.proofs.Indices.{flip, out_in}
use Rattle.kr_contact.proofs.Orders.{without_none, is_none, found_none, map_same}
use Rattle.kr_contact.proofs.Paths.{last_back}
use Rattle.kr_contact.proofs.Rings.{NodeOf, find_node, one_node, settled, no_node, left, was, found_here, removed_ring, renewed_path, renewed_len, last_now, moved_ring, moved_contacts, added_ring, added_contacts, without_node, unlinked_holds}

-- where the first value of a block lies
self_place : (R : RattleType) (p : Ptr) (n : ℕ) → 0 < n → IsPlaceOf R p n p 0
self_place R (block_ptr b o) n some =
    let s : ℕ = type_size R in
    let none : o - o ≡ 0 = omega arith in
    let at : (o - o) / s ≡ 0 = ap (λ k. k / s) none ∙ zero-div s in
    let here : o ≡ 0 * s + o = omega arith in
    ((subst (λ k. block_ptr b o ≡ block_ptr b (k * s + o)) (sym at) (ap (block_ptr b) here), subst (λ k. k < n) (sym at) some), at)
self_place R null_ptr n some = ((refl, some), refl)

module _ (first : Ptr) (nodes : List Node) where
  last_on : (a : ℕ) (xs : List ℕ) (z : ℕ) → IsPath (After first nodes) (Before first nodes) a (xs ++ z ∷ []) → z < length nodes
  last_on a [] z p = subst (λ k. k < length nodes) p.0.0.1 p.0.0.0.1
  last_on a (x ∷ xs) z p = last_on x xs z p.1

  edges : (a : ℕ) (xs : List ℕ) (i : ℕ) (ys : List ℕ) (z : ℕ) → IsPath (After first nodes) (Before first nodes) a ((xs ++ i ∷ ys) ++ z ∷ []) → IsKnown first (length nodes) (node_at nodes i).before × IsKnown first (length nodes) (node_at nodes i).after
  edges a [] i [] z p = (p.0.1.0, p.1.0.0.0)
  edges a [] i (y ∷ ys) z p = (p.0.1.0, p.1.0.0.0)
  edges a (x ∷ xs) i ys z p = edges x xs i ys z p.1

module _ (first : Place) (nodes : List Node) (places : List (ℤ × Place)) (order : List ℕ) (r : IsRing first.at nodes places order) where
  abbrev p : Ptr
  p = first.at

  abbrev n : ℕ
  n = length nodes

  pub some_nodes : 0 < n
  some_nodes = last_on p nodes 0 order 0 r.path

  pub first_leads : LiesAt p n first 0
  first_leads = self_place the_row p n some_nodes

  pub last_known : IsKnown p n (node_at nodes (index_of p first)).before
  last_known = subst (λ k. IsKnown p n (node_at nodes k).before) (sym first_leads.1) (last_back (After p nodes) (Before p nodes) 0 order 0 r.path).0

  module _ (key : ℤ) (place : Place) (e : lookup (int_eq key) places ≡ Some place) where
    f : NodeOf p nodes order key place
    f = find_node p nodes places order r key place e

    parted : IsRing p nodes places (f.xs ++ f.i ∷ f.ys)
    parted = subst (IsRing p nodes places) f.is r

    at_i : index_of p place ≡ f.i
    at_i = f.leads.1

    pub node_known : IsKnown p n place
    node_known = f.leads.0

    pub beside_known : IsKnown p n (node_at nodes (index_of p place)).before × IsKnown p n (node_at nodes (index_of p place)).after
    beside_known = subst (λ k. IsKnown p n (node_at nodes k).before × IsKnown p n (node_at nodes k).after) (sym at_i) (edges p nodes 0 f.xs f.i f.ys 0 parted.path)

    pub there : true ≡ is_contact (map (contact_at nodes) order) key
    there = subst (λ is. true ≡ is_contact (map (contact_at nodes) is) key) (sym f.is) (was p nodes places f.xs f.i f.ys parted key f.named)

    pub found : Some (contact_at nodes (index_of p place)) ≡ contact_of (map (contact_at nodes) order) key
    found = subst (λ is. Some (contact_at nodes (index_of p place)) ≡ contact_of (map (contact_at nodes) is) key) (sym f.is) (subst (λ k. Some (contact_at nodes k) ≡ contact_of (map (contact_at nodes) (f.xs ++ f.i ∷ f.ys)) key) (sym at_i) (found_here p nodes places f.xs f.i f.ys parted key f.named))

    -- the broker's node is gone
    abbrev Removed : List (ℤ × Place) → List Node → Type 0
    Removed places' ns = IsRing p ns places' (order_of p ns (length places')) × (map (contact_at ns) (order_of p ns (length places')) ≡ contacts_without (map (contact_at nodes) order) key)

    pub removal : (places' : List (ℤ × Place)) → ((q : ℤ) → lookup (int_eq q) places' ≡ cond (int_eq key q) None (lookup (int_eq q) places)) → length places' + 1 ≡ length places → Removed places' (unlinked p nodes (index_of p place))
    removal places' changed fewer =
        let ring = removed_ring p nodes places f.xs f.i f.ys parted key f.named places' changed fewer in
        let told = settled p (unlinked p nodes f.i) places' (f.xs ++ f.ys) ring in
        let gone : map (contact_at (unlinked p nodes f.i)) (f.xs ++ f.ys) ≡ contacts_without (map (contact_at nodes) order) key =
        map_same (contact_at (unlinked p nodes f.i)) (contact_at nodes) (f.xs ++ f.ys) (λ s there. unlinked_holds p nodes f.i s) ∙ sym (left p nodes places f.xs f.i f.ys parted key f.named) ∙ ap (λ is. contacts_without (map (contact_at nodes) is) key) (sym f.is) in
        subst (λ k. Removed places' (unlinked p nodes k)) (sym at_i)
        (subst (IsRing p (unlinked p nodes f.i) places') (sym told) ring, ap (map (contact_at (unlinked p nodes f.i))) told ∙ gone)

    -- the broker's node is the last
    abbrev Moved : Contact → List Node → Type 0
    Moved news ns = IsRing p ns places (order_of p ns (length places)) × (map (contact_at ns) (order_of p ns (length places)) ≡ touched (map (contact_at nodes) order) news)

    pub moving : (news : Contact) → news.broker ≡ key → Moved news (last_now p nodes (index_of p place) news place first)
    moving news same =
        let ring = moved_ring p nodes f.i news place first places f.xs f.ys parted f.leads first_leads in
        let told = settled p (last_now p nodes f.i news place first) places ((f.xs ++ f.ys) ++ f.i ∷ []) ring in
        let contacts = moved_contacts p nodes f.i news place first places f.xs f.ys parted f.leads first_leads (f.named ∙ sym same) in
        subst (λ k. Moved news (last_now p nodes k news place first)) (sym at_i) (
          subst (IsRing p (last_now p nodes f.i news place first) places) (sym told) ring,
          ap (map (contact_at (last_now p nodes f.i news place first))) told ∙ contacts ∙ ap (λ is. touched (map (contact_at nodes) is) news) (sym f.is),
        )

    pub moving_known : (news : Contact) → IsKnown p n (node_at (with_news (unlinked p nodes (index_of p place)) (index_of p place) news) (index_of p first)).before
    moving_known news =
        let path = renewed_path p nodes f.i news place first ((f.xs ++ f.ys) ++ 0 ∷ []) (without_node p nodes f.xs f.i f.ys parted.apart parted.path) in
        let renewed : List Node = with_news (unlinked p nodes f.i) f.i news in
        let known = (last_back (After p renewed) (Before p renewed) 0 (f.xs ++ f.ys) 0 path).0 in
        subst (λ k. IsKnown p n (node_at (with_news (unlinked p nodes k) k news) (index_of p first)).before) (sym at_i)
        (subst (λ k. IsKnown p n (node_at renewed k).before) (sym first_leads.1) (subst (λ m. IsKnown p m (node_at renewed 0).before) (renewed_len p nodes f.i news place first) known))

  module _ (key : ℤ) (none : lookup (int_eq key) places ≡ None) where
    pub nowhere : false ≡ is_contact (map (contact_at nodes) order) key
    nowhere = is_none (contact_at nodes) key order (no_node p nodes places order r key none)

    pub all_left : map (contact_at nodes) order ≡ contacts_without (map (contact_at nodes) order) key
    all_left = sym (without_none (contact_at nodes) key order (no_node p nodes places order r key none))

    pub unfound : None ≡ contact_of (map (contact_at nodes) order) key
    unfound = found_none (contact_at nodes) key order (no_node p nodes places order r key none)

  module _ (contact : Contact) (none : lookup (int_eq contact.broker) places ≡ None) where
    -- a node of the broker is new
    pub adding : (place : Place) (places' : List (ℤ × Place)) → LiesAt p (length (nodes ++ node_of contact first ∷ [])) place n
        → ((q : ℤ) → lookup (int_eq q) places' ≡ cond (int_eq contact.broker q) (Some place) (lookup (int_eq q) places)) → length places' ≡ length places + 1
        → let ns : List Node = linked p (nodes ++ node_of contact first ∷ []) place first in
        IsRing p ns places' (order_of p ns (length places')) × (map (contact_at ns) (order_of p ns (length places')) ≡ touched (map (contact_at nodes) order) contact)
    adding place places' at_n changed more =
        let ring = added_ring p nodes places order r contact none place first at_n first_leads places' changed more in
        let ns : List Node = linked p (nodes ++ node_of contact first ∷ []) place first in
        let told = settled p ns places' (order ++ n ∷ []) ring in
        (subst (IsRing p ns places') (sym told) ring, ap (map (contact_at ns)) told ∙ added_contacts p nodes places order r contact none place first)

-- ---- room

lower : (a b : ℕ) → 0 < min a b → (0 < a) × (0 < b)
lower a b some = let left = min-le_left a b in let right = min-le_right a b in (omega arith, omega arith)

pub room_left : (contact : Bool) (len cap more : ℕ) → false ≡ contact → IsTrue (contact || nat_lt 0 (min (cap - len) more)) → (len < cap) × (0 < more)
room_left true len cap more none room = let bad : false ≡ true = none in absurd cc
room_left false len cap more none room =
    let some : 0 < min (cap - len) more = grind (arith, nat_tests) in
    let both = lower (cap - len) more some in
    let less : 0 < cap - len = both.0 in
    (omega arith, both.1)

pub no_contact : {X : Type 0} (contact : Bool) → false ≡ contact → IsTrue contact → X
no_contact true none here = let bad : false ≡ true = none in absurd cc
no_contact false none here = let bad : false ≡ true = here in absurd cc

-- the place of a new node, as the ring counts
pub at_end : (p q : Ptr) (len len' : ℕ) (nodes : List Node) (v : Node) (place : Place) → p ≡ q → len ≡ length nodes → len' ≡ len + 1 → LiesAt q len' place len → LiesAt p (length (nodes ++ v ∷ [])) place (length nodes)
at_end p q len len' nodes v place here all more leads =
    let longer : len' ≡ length (nodes ++ v ∷ []) = omega (arith, length-append nodes (v ∷ [])) in
    subst (λ k. LiesAt p k place (length nodes)) longer (subst (λ k. LiesAt p len' place k) all (subst (λ o. LiesAt o len' place len) (sym here) leads))

-- ---- one contact after the other

module _ (p : Ptr) (nodes : List Node) where
  known_from : (a : ℕ) (is : List ℕ) (z : ℕ) → IsPath (After p nodes) (Before p nodes) a (is ++ z ∷ []) → AreKnown p nodes (length is) (node_at nodes a).after
  known_from a [] z path = tt
  known_from a (i ∷ is) z path = (path.0.0.0, subst (λ k. AreKnown p nodes (length is) (node_at nodes k).after) (sym path.0.0.1) (known_from i is z path.1))

  pub all_known : (places : List (ℤ × Place)) (order : List ℕ) → IsRing p nodes places order → AreKnown p nodes (length places) (node_at nodes 0).after
  all_known places order r = subst (λ k. AreKnown p nodes k (node_at nodes 0).after) r.count (known_from 0 order 0 r.path)

module _ (first : Place) (nodes : List Node) (places : List (ℤ × Place)) (order : List ℕ) (r : IsRing first.at nodes places order) where
  -- a walk begins at the node after the first
  pub walk_known : AreKnown first.at nodes (length places) (node_at nodes (index_of first.at first)).after
  walk_known = subst (λ k. AreKnown first.at nodes (length places) (node_at nodes k).after) (sym (first_leads first nodes places order r).1) (all_known first.at nodes places order r)

  single_from : (is : List ℕ) → ((s : ℕ) → IsIn s is → IsIn s order) → IsApart is → AreSingle (map (contact_at nodes) is)
  single_from [] among apart = tt
  single_from (i ∷ is) among apart = (
    sym (is_none (contact_at nodes) (node_at nodes i).broker is (λ s there. elim (cases_Bool (int_eq (node_at nodes s).broker (node_at nodes i).broker)) [
      | inl holds ↦ absurd (flip (out_in i s is apart.0 there) (one_node first.at nodes places order r s i (among s (inr there)) (among i (inl refl)) holds))
      | inr fails ↦ fails
    ])),
    single_from is (λ s there. among s (inr there)) apart.1,
  )

  pub singles : AreSingle (map (contact_at nodes) order)
  singles = single_from order (λ s there. there) r.apart.1

module _ (first : Place) (nodes : List Node) (places : List (ℤ × Place)) (r : IsRing first.at nodes places (order_of first.at nodes (length places))) where
  pub walk_single : AreSingle (contacts_from first.at nodes (length places) (node_at nodes (index_of first.at first)).after)
  walk_single = subst (λ k. AreSingle (contacts_from first.at nodes (length places) (node_at nodes k).after)) (sym (first_leads first nodes places _ r).1) (singles first nodes places _ r)
