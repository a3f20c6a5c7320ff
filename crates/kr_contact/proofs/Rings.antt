-- What the operations do to a ring.
use Rattle.std.proofs.Common.{◌≡◌, ◌≢◌, ◌<◌, ◌+◌, ℕ, ℤ, true, false, cond, List, [], ◌∷◌, ◌++◌, map, length, Some, None, refl, sym, ap, subst, ◌∙◌, inl, inr, append_assoc, arith}
use Rattle.std.proofs.lemmas.Bool.{cases_Bool}
use Rattle.std.proofs.lemmas.List.{length-append, length-set, map-append, get_or_append_left}
use Rattle.std.proofs.Math.Seq.{get_or-append_seam}
use native.Mathlib.Nat.{lt_irrefl}
use Rattle.std.specs.Map.{lookup}
use Rattle.std.specs.Ordering.{int_eq}
use Rattle.kr_defs.proofs.IdLists.{same_id, id_itself}
use Rattle.kr_defs.proofs.Tests.{some_is}
use Rattle.kr_defs.specs.declared.basis.Contact.{Contact}
use Rattle.kr_defs.specs.Heartbeats.{contacts_without}
use Rattle.kr_contact.specs.Contacts.{is_contact, contact_of, touched}
use Rattle.std.specs.Ptr.{Ptr}
use Rattle.kr_contact.specs.declared.nodes.Node.{Node}
use Rattle.kr_contact.specs.declared.nodes.Place.{Place}
use Rattle.kr_contact.specs.Nodes.{index_of, node_at, node_of, blank, LiesAt, with_news, unlinked, linked}
use Rattle.kr_contact.specs.Rings.{IsOut, IsApart, IsIn, IsPath, After, Before, nodes_from, order_of, contact_at, IsRing}
use Rattle.kr_contact.proofs.Indices.{flip, apart_drop, apart_snoc, apart_out, out_in, in_here, in_more, in_drop, in_snoc, snoc_in, in_splits}
use Rattle.kr_contact.proofs.Orders.{IsOther, without_none, without_one, is_one, found_one, map_same}
use Rattle.kr_contact.proofs.Links.{kept, other, same, on, back, held, cut, unlinked_is, cut_len, cut_on, cut_back, cut_new_on, cut_new_back, cut_holds, joined, linked_is, joined_len, joined_on, joined_back, joined_last_on, joined_last_back, joined_new_on, joined_new_back, joined_holds}
use Rattle.kr_contact.proofs.Paths.{sources, sources_ring, last_from, last_back, edges_at, shorter, longer}

module _ (first : Ptr) where
  within : (n : ℕ) (place : Place) (i : ℕ) → LiesAt first n place i → i < n
  within n place i leads = subst (λ k. k < n) leads.1 leads.0.1

  -- the nodes in turn are those of a path
  pub turn : (nodes : List Node) (a : ℕ) (is : List ℕ) (z : ℕ) → IsPath (After first nodes) (Before first nodes) a (is ++ z ∷ []) → nodes_from first nodes (length is) (node_at nodes a).after ≡ is
  turn nodes a [] z p = refl
  turn nodes a (i ∷ is) z p =
      subst (λ k. k ∷ nodes_from first nodes (length is) (node_at nodes k).after ≡ i ∷ is) (sym p.0.0.1) (ap (λ js. i ∷ js) (turn nodes i is z p.1))

  -- ---- a node is taken out

  shorter_at : (nodes : List Node) (xs : List ℕ) (i k : ℕ) (ys : List ℕ) → IsApart (sources 0 (xs ++ i ∷ k ∷ ys)) → IsApart (xs ++ i ∷ k ∷ ys)
      → IsPath (After first nodes) (Before first nodes) 0 (xs ++ i ∷ k ∷ ys) → IsPath (After first (unlinked first nodes i)) (Before first (unlinked first nodes i)) 0 (xs ++ k ∷ ys)
  shorter_at nodes xs i k ys s t p =
      let edges = edges_at (After first nodes) (Before first nodes) 0 xs i k ys p in
      let j : ℕ = last_from 0 xs in
      let new : List Node = cut nodes i j k in
      let len = sym (cut_len nodes i j k) in
      let leads : (place place' : Place) (q : ℕ) → place' ≡ place → LiesAt first (length nodes) place q → LiesAt first (length new) place' q = λ place place' q e h. subst (λ n. LiesAt first n place' q) len (subst (λ x. LiesAt first (length nodes) x q) (sym e) h) in
      subst (λ ns. IsPath (After first ns) (Before first ns) 0 (xs ++ k ∷ ys)) (sym (unlinked_is first nodes i j k edges.0.1 edges.1.1))
      (shorter (After first nodes) (Before first nodes) (After first new) (Before first new) j k
      (λ a q apart h. leads _ _ q (cut_on nodes i j k a apart) h) (λ a q apart h. leads _ _ q (cut_back nodes i j k a apart) h)
      i (λ h. leads _ _ k (cut_new_on nodes i j k (within (length nodes) _ j edges.0)) h) (λ h. leads _ _ j (cut_new_back nodes i j k (within (length nodes) _ k edges.1)) h)
      0 xs ys refl s t p)

  pub without_node : (nodes : List Node) (xs : List ℕ) (i : ℕ) (ys : List ℕ) → IsApart (0 ∷ (xs ++ i ∷ ys)) → IsPath (After first nodes) (Before first nodes) 0 ((xs ++ i ∷ ys) ++ 0 ∷ [])
      → IsPath (After first (unlinked first nodes i)) (Before first (unlinked first nodes i)) 0 ((xs ++ ys) ++ 0 ∷ [])
  without_node nodes xs i ys a p =
      let s : IsApart (sources 0 ((xs ++ i ∷ ys) ++ 0 ∷ [])) = subst IsApart (sym (sources_ring 0 (xs ++ i ∷ ys) 0)) a in
      let t : IsApart ((xs ++ i ∷ ys) ++ 0 ∷ []) = apart_snoc (xs ++ i ∷ ys) 0 a.1 a.0 in
      by_rest ys s t p
    where
      by_rest : (ys : List ℕ) → IsApart (sources 0 ((xs ++ i ∷ ys) ++ 0 ∷ [])) → IsApart ((xs ++ i ∷ ys) ++ 0 ∷ []) → IsPath (After first nodes) (Before first nodes) 0 ((xs ++ i ∷ ys) ++ 0 ∷ [])
          → IsPath (After first (unlinked first nodes i)) (Before first (unlinked first nodes i)) 0 ((xs ++ ys) ++ 0 ∷ [])
      by_rest [] s t p =
          let e = append_assoc xs (i ∷ []) (0 ∷ []) in
          subst (λ js. IsPath (After first (unlinked first nodes i)) (Before first (unlinked first nodes i)) 0 js) (sym (append_assoc xs [] (0 ∷ [])))
          (shorter_at nodes xs i 0 [] (subst (λ js. IsApart (sources 0 js)) e s) (subst IsApart e t) (subst (IsPath (After first nodes) (Before first nodes) 0) e p))
      by_rest (y ∷ zs) s t p =
          let e = append_assoc xs (i ∷ y ∷ zs) (0 ∷ []) in
          subst (λ js. IsPath (After first (unlinked first nodes i)) (Before first (unlinked first nodes i)) 0 js) (sym (append_assoc xs (y ∷ zs) (0 ∷ [])))
          (shorter_at nodes xs i y (zs ++ 0 ∷ []) (subst (λ js. IsApart (sources 0 js)) e s) (subst IsApart e t) (subst (IsPath (After first nodes) (Before first nodes) 0) e p))

  -- ---- a node is put in at the end

  pub with_node : (nodes : List Node) (order : List ℕ) (place next : Place) (i : ℕ) → IsApart (0 ∷ order) → IsOut i (0 ∷ order) → LiesAt first (length nodes) place i → LiesAt first (length nodes) next 0
      → IsPath (After first nodes) (Before first nodes) 0 (order ++ 0 ∷ [])
      → IsPath (After first (linked first nodes place next)) (Before first (linked first nodes place next)) 0 ((order ++ i ∷ []) ++ 0 ∷ [])
  with_node nodes order place next i a o at_i at_0 p =
      let last = last_back (After first nodes) (Before first nodes) 0 order 0 p in
      let j : ℕ = last_from 0 order in
      let before : Place = (node_at nodes 0).before in
      let new : List Node = joined nodes i 0 before j place next in
      let len = sym (joined_len nodes i 0 before j place next) in
      let leads : (x x' : Place) (q : ℕ) → x' ≡ x → LiesAt first (length nodes) x q → LiesAt first (length new) x' q = λ x x' q e h. subst (λ n. LiesAt first n x' q) len (subst (λ y. LiesAt first (length nodes) y q) (sym e) h) in
      let within_i = within (length nodes) place i at_i in
      let s : IsApart (sources 0 (order ++ 0 ∷ [])) = subst IsApart (sym (sources_ring 0 order 0)) a in
      let t : IsApart (order ++ 0 ∷ []) = apart_snoc order 0 a.1 a.0 in
      subst (λ ns. IsPath (After first ns) (Before first ns) 0 ((order ++ i ∷ []) ++ 0 ∷ [])) (sym (linked_is first nodes place next i 0 j at_i.1 at_0.1 last.1))
      (subst (λ js. IsPath (After first new) (Before first new) 0 js) (sym (append_assoc order (i ∷ []) (0 ∷ [])))
      (longer (After first nodes) (Before first nodes) (After first new) (Before first new) j i 0
      (λ b q apart beside h. leads _ _ q (joined_on nodes i 0 before j place next b apart beside) h) (λ b q apart beside h. leads _ _ q (joined_back nodes i 0 before j place next b apart beside) h)
      (leads _ _ i (joined_last_on nodes i 0 before j place next (within (length nodes) before j last)) at_i)
      (λ h. leads _ _ j (joined_last_back nodes i 0 before j place next (flip o.0) within_i) h)
      (leads _ _ 0 (joined_new_on nodes i 0 before j place next (flip (out_last_from 0 order o)) within_i) at_0)
      (leads _ _ i (joined_new_back nodes i 0 before j place next (within (length nodes) next 0 at_0)) at_i)
      0 order refl s t o p))
    where
      out_last_from : (b : ℕ) (js : List ℕ) → IsOut i (b ∷ js) → i ≢ last_from b js
      out_last_from b [] out = out.0
      out_last_from b (k ∷ js) out = out_last_from k js out.1

-- ---- a broker's node

pub record NodeOf (first : Ptr) (nodes : List Node) (order : List ℕ) (key : ℤ) (place : Place) : Type 0 where
  pub i : ℕ
  pub xs : List ℕ
  pub ys : List ℕ
  pub is : order ≡ xs ++ i ∷ ys
  pub named : (node_at nodes i).broker ≡ key
  pub leads : LiesAt first (length nodes) place i

module _ (first : Ptr) (nodes : List Node) (places : List (ℤ × Place)) (order : List ℕ) (r : IsRing first nodes places order) where
  pub find_node : (key : ℤ) (place : Place) → lookup (int_eq key) places ≡ Some place → NodeOf first nodes order key place
  find_node key place e =
      let h = r.held key place e in
      let s = in_splits h.0 order h.1 in
      record { i = h.0; xs = s.0; ys = s.1; is = s.2; named = h.2; leads = h.3 }

  -- two nodes of one broker are the same
  pub one_node : (i s : ℕ) → IsIn i order → IsIn s order → int_eq (node_at nodes i).broker (node_at nodes s).broker ≡ true → i ≡ s
  one_node i s here there e =
      let f = r.found i here in
      let g = r.found s there in
      let found_s : lookup (int_eq (node_at nodes i).broker) places ≡ Some g.0 = subst (λ (b : ℤ). lookup (int_eq b) places ≡ Some g.0) (sym (same_id (node_at nodes i).broker (node_at nodes s).broker e)) g.1 in
      let one : f.0 ≡ g.0 = some_is f.0 g.0 (sym f.1 ∙ found_s) in
      sym f.2.1 ∙ ap (index_of first) one ∙ g.2.1

  -- the order is what the nodes tell
  pub settled : order_of first nodes (length places) ≡ order
  settled = subst (λ k. nodes_from first nodes k (node_at nodes 0).after ≡ order) r.count (turn first nodes 0 order 0 r.path)

  -- a broker that the look-up doesn't have is no contact
  pub no_node : (key : ℤ) → lookup (int_eq key) places ≡ None → (s : ℕ) → IsIn s order → IsOther (contact_at nodes) key s
  no_node key none s there =
      elim (cases_Bool (int_eq (node_at nodes s).broker key)) [
        | inl holds ↦
            let f = r.found s there in
            let here : lookup (int_eq key) places ≡ Some f.0 = subst (λ (b : ℤ). lookup (int_eq b) places ≡ Some f.0) (same_id (node_at nodes s).broker key holds) f.1 in
            let bad : None ≡ Some f.0 = sym none ∙ here in absurd cc
        | inr fails ↦ fails
      ]

module _ (first : Ptr) (nodes : List Node) (i : ℕ) where
  pub unlinked_len : length (unlinked first nodes i) ≡ length nodes
  unlinked_len = ap length (unlinked_is first nodes i _ _ refl refl) ∙ cut_len nodes i _ _

  pub unlinked_holds : (s : ℕ) → contact_at (unlinked first nodes i) s ≡ contact_at nodes s
  unlinked_holds s = ap (λ ns. contact_at ns s) (unlinked_is first nodes i _ _ refl refl) ∙ cut_holds nodes i _ _ s

module _ (first : Ptr) (nodes : List Node) (place next : Place) where
  pub linked_len : length (linked first nodes place next) ≡ length nodes
  linked_len = ap length (linked_is first nodes place next _ _ _ refl refl refl) ∙ joined_len nodes _ _ _ _ place next

  pub linked_holds : (s : ℕ) → contact_at (linked first nodes place next) s ≡ contact_at nodes s
  linked_holds s = ap (λ ns. contact_at ns s) (linked_is first nodes place next _ _ _ refl refl refl) ∙ joined_holds nodes _ _ _ _ place next s

-- ---- the broker's node is taken out

module _ (first : Ptr) (nodes : List Node) (places : List (ℤ × Place)) (xs : List ℕ) (i : ℕ) (ys : List ℕ) (r : IsRing first nodes places (xs ++ i ∷ ys)) (key : ℤ) (named : (node_at nodes i).broker ≡ key) where
  abbrev broker : ℕ → ℤ
  broker s = (node_at nodes s).broker

  -- no other node is of the broker
  pub others : (s : ℕ) → IsIn s (xs ++ ys) → IsOther (contact_at nodes) key s
  others s there =
      elim (cases_Bool (int_eq (broker s) key)) [
        | inl holds ↦ absurd (flip (out_in i s (xs ++ ys) (apart_out xs i ys r.apart.1) there) (one_node first nodes places (xs ++ i ∷ ys) r s i (in_more s xs i ys there) (in_here xs i ys) (subst (λ (b : ℤ). int_eq (broker s) b ≡ true) (sym named) holds)))
        | inr fails ↦ fails
      ]

  differs : (s : ℕ) → IsIn s (xs ++ ys) → int_eq key (broker s) ≡ false
  differs s there =
      elim (cases_Bool (int_eq key (broker s))) [
        | inl holds ↦ absurd (out_in i s (xs ++ ys) (apart_out xs i ys r.apart.1) there (one_node first nodes places (xs ++ i ∷ ys) r i s (in_here xs i ys) (in_more s xs i ys there) (subst (λ (b : ℤ). int_eq b (broker s) ≡ true) (sym named) holds)))
        | inr fails ↦ fails
      ]

  itself : int_eq (broker i) key ≡ true
  itself = subst (λ (b : ℤ). int_eq (broker i) b ≡ true) named (id_itself (broker i))

  pub left : contacts_without (map (contact_at nodes) (xs ++ i ∷ ys)) key ≡ map (contact_at nodes) (xs ++ ys)
  left = without_one (contact_at nodes) key xs i ys itself others

  pub was : true ≡ is_contact (map (contact_at nodes) (xs ++ i ∷ ys)) key
  was = is_one (contact_at nodes) key xs i ys itself

  pub found_here : Some (contact_at nodes i) ≡ contact_of (map (contact_at nodes) (xs ++ i ∷ ys)) key
  found_here = found_one (contact_at nodes) key xs i ys itself others

  pub removed_ring : (places' : List (ℤ × Place)) → ((q : ℤ) → lookup (int_eq q) places' ≡ cond (int_eq key q) None (lookup (int_eq q) places)) → length places' + 1 ≡ length places → IsRing first (unlinked first nodes i) places' (xs ++ ys)
  removed_ring places' changed fewer = record {
    path = without_node first nodes xs i ys r.apart r.path;
    apart = apart_drop (0 ∷ xs) i ys r.apart;
    found = λ s there.
        let old = r.found s (in_more s xs i ys there) in
        let now : lookup (int_eq (broker s)) places' ≡ Some old.0 = changed (broker s) ∙ ap (λ t. cond t None (lookup (int_eq (broker s)) places)) (differs s there) ∙ old.1 in
        (old.0, subst (λ (b : ℤ). lookup (int_eq b) places' ≡ Some old.0) (sym (ap (λ c. c.broker) (unlinked_holds first nodes i s))) now, subst (λ m. LiesAt first m old.0 s) (sym (unlinked_len first nodes i)) old.2);
    held = λ q p e. elim (cases_Bool (int_eq key q)) [
      | inl holds ↦ let bad : None ≡ Some p = sym (changed q ∙ ap (λ t. cond t None (lookup (int_eq q) places)) holds) ∙ e in absurd cc
      | inr fails ↦
          let old : lookup (int_eq q) places ≡ Some p = sym (changed q ∙ ap (λ t. cond t None (lookup (int_eq q) places)) fails) ∙ e in
          let h = r.held q p old in
          let apart : h.0 ≢ i = λ same. (let holds : int_eq key q ≡ true = subst (λ (b : ℤ). int_eq b q ≡ true) (sym h.2 ∙ ap broker same ∙ named) (id_itself q) in let bad : true ≡ false = sym holds ∙ fails in absurd cc) in
          (h.0, in_drop h.0 xs i ys apart h.1, ap (λ c. c.broker) (unlinked_holds first nodes i h.0) ∙ h.2, subst (λ m. LiesAt first m p h.0) (sym (unlinked_len first nodes i)) h.3)
    ];
    count = let most = r.count in let all = length-append xs (i ∷ ys) in let rest = length-append xs ys in omega arith;
  }

-- ---- the broker's node becomes the last one

path_map : {A B A' B' : ℕ → ℕ → Type 0} (on : (s q : ℕ) → A s q → A' s q) (back : (t q : ℕ) → B t q → B' t q) (a : ℕ) (ps : List ℕ) → IsPath A B a ps → IsPath A' B' a ps
path_map on back a [] p = tt
path_map on back a (q ∷ qs) p = ((on a q p.0.0, back q a p.0.1), path_map on back q qs p.1)

in_move : (s : ℕ) (xs : List ℕ) (i : ℕ) (ys : List ℕ) → IsIn s (xs ++ i ∷ ys) → IsIn s ((xs ++ ys) ++ i ∷ [])
in_move s [] i ys (inl same) = subst (λ k. IsIn k (ys ++ i ∷ [])) (sym same) (in_here ys i [])
in_move s [] i ys (inr later) = in_snoc s ys i later
in_move s (x ∷ xs) i ys (inl same) = inl same
in_move s (x ∷ xs) i ys (inr later) = inr (in_move s xs i ys later)

in_back : (s : ℕ) (xs : List ℕ) (i : ℕ) (ys : List ℕ) → IsIn s ((xs ++ ys) ++ i ∷ []) → IsIn s (xs ++ i ∷ ys)
in_back s xs i ys there =
    elim (snoc_in s (xs ++ ys) i there) as (λ _. IsIn s (xs ++ i ∷ ys)) [
      | inl before ↦ in_more s xs i ys before
      | inr same ↦ subst (λ k. IsIn k (xs ++ i ∷ ys)) (sym same) (in_here xs i ys)
    ]

module _ (first : Ptr) (nodes : List Node) (i : ℕ) (news : Contact) (place next : Place) where
  abbrev apart_from : List Node
  apart_from = unlinked first nodes i

  abbrev renewed : List Node
  renewed = with_news apart_from i news

  abbrev pub last_now : List Node
  last_now = linked first renewed place next

  pub renewed_len : length renewed ≡ length nodes
  renewed_len = length-set apart_from i _ ∙ unlinked_len first nodes i

  last_len : length last_now ≡ length nodes
  last_len = linked_len first renewed place next ∙ renewed_len

  last_broker : (s : ℕ) → (node_at last_now s).broker ≡ (node_at nodes s).broker
  last_broker s = ap (λ c. c.broker) (linked_holds first renewed place next s) ∙ kept (λ n. n.broker) apart_from i _ refl s ∙ ap (λ c. c.broker) (unlinked_holds first nodes i s)

  last_other : (s : ℕ) → i ≢ s → contact_at last_now s ≡ contact_at nodes s
  last_other s apart = linked_holds first renewed place next s ∙ ap held (other apart_from i _ s apart) ∙ unlinked_holds first nodes i s

  last_news : i < length nodes → contact_at last_now i ≡ record news { broker = (node_at apart_from i).broker }
  last_news within = linked_holds first renewed place next i ∙ ap held (same apart_from i _ (subst (λ m. i < m) (sym (unlinked_len first nodes i)) within))

  pub renewed_path : (ps : List ℕ) → IsPath (After first apart_from) (Before first apart_from) 0 ps → IsPath (After first renewed) (Before first renewed) 0 ps
  renewed_path ps p =
      let len = sym (length-set apart_from i (record (node_at apart_from i) { time = news.time; offset = news.offset })) in
      let leads : (x x' : Place) (q : ℕ) → x' ≡ x → LiesAt first (length apart_from) x q → LiesAt first (length renewed) x' q = λ x x' q e h. subst (λ m. LiesAt first m x' q) len (subst (λ y. LiesAt first (length apart_from) y q) (sym e) h) in
      path_map (λ s q h. leads _ _ q (kept on apart_from i _ refl s) h) (λ s q h. leads _ _ q (kept back apart_from i _ refl s) h) 0 ps p

  module _ (places : List (ℤ × Place)) (xs ys : List ℕ) (r : IsRing first nodes places (xs ++ i ∷ ys)) (at_i : LiesAt first (length nodes) place i) (at_0 : LiesAt first (length nodes) next 0) where
    pub moved_ring : IsRing first last_now places ((xs ++ ys) ++ i ∷ [])
    moved_ring =
        let gone = apart_drop (0 ∷ xs) i ys r.apart in
        let out : IsOut i (0 ∷ (xs ++ ys)) = apart_out (0 ∷ xs) i ys r.apart in
        let path = renewed_path ((xs ++ ys) ++ 0 ∷ []) (without_node first nodes xs i ys r.apart r.path) in
        let at : (x : Place) (q : ℕ) → LiesAt first (length nodes) x q → LiesAt first (length renewed) x q = λ x q h. subst (λ m. LiesAt first m x q) (sym renewed_len) h in
        record {
          path = with_node first renewed (xs ++ ys) place next i gone out (at place i at_i) (at next 0 at_0) path;
          apart = apart_snoc (0 ∷ (xs ++ ys)) i gone out;
          found = λ s there. let old = r.found s (in_back s xs i ys there) in
              (old.0, subst (λ (b : ℤ). lookup (int_eq b) places ≡ Some old.0) (sym (last_broker s)) old.1, subst (λ m. LiesAt first m old.0 s) (sym last_len) old.2);
          held = λ q p e. let h = r.held q p e in (h.0, in_move h.0 xs i ys h.1, last_broker h.0 ∙ h.2, subst (λ m. LiesAt first m p h.0) (sym last_len) h.3);
          count = let most = r.count in let all = length-append xs (i ∷ ys) in let rest = length-append xs ys in let more = length-append (xs ++ ys) (i ∷ []) in omega arith;
        }

    pub moved_contacts : (node_at nodes i).broker ≡ news.broker → map (contact_at last_now) ((xs ++ ys) ++ i ∷ []) ≡ touched (map (contact_at nodes) (xs ++ i ∷ ys)) news
    moved_contacts named =
        let key : ℤ = news.broker in
        let out : IsOut i (xs ++ ys) = apart_out xs i ys r.apart.1 in
        let before : map (contact_at last_now) (xs ++ ys) ≡ contacts_without (map (contact_at nodes) (xs ++ i ∷ ys)) key =
        map_same (contact_at last_now) (contact_at nodes) (xs ++ ys) (λ s there. last_other s (out_in i s (xs ++ ys) out there)) ∙ sym (left first nodes places xs i ys r key named) in
        let same_broker : (node_at apart_from i).broker ≡ key = ap (λ c. c.broker) (unlinked_holds first nodes i i) ∙ named in
        let now : contact_at last_now i ≡ news = last_news (within first (length nodes) place i at_i) ∙ ap (λ (b : ℤ). record news { broker = b }) same_broker in
        map-append (contact_at last_now) (xs ++ ys) (i ∷ []) ∙ (λ t. before t ++ now t ∷ [])

-- ---- a new node

module _ (first : Ptr) (nodes : List Node) (v : Node) where
  longer_at : (s : ℕ) → s < length nodes → node_at (nodes ++ v ∷ []) s ≡ node_at nodes s
  longer_at s inside = get_or_append_left nodes (v ∷ []) blank s inside

  widened : (x : Place) (q : ℕ) → LiesAt first (length nodes) x q → LiesAt first (length (nodes ++ v ∷ [])) x q
  widened x q h = ((h.0.0, let less = h.0.1 in let more = length-append nodes (v ∷ []) in omega arith), h.1)

  grown : (a : ℕ) (ps : List ℕ) → a < length nodes → IsPath (After first nodes) (Before first nodes) a ps → IsPath (After first (nodes ++ v ∷ [])) (Before first (nodes ++ v ∷ [])) a ps
  grown a [] inside p = tt
  grown a (q ∷ qs) inside p =
      let next = within first (length nodes) _ q p.0.0 in
      ((subst (λ n. LiesAt first (length (nodes ++ v ∷ [])) n.after q) (sym (longer_at a inside)) (widened _ q p.0.0), subst (λ n. LiesAt first (length (nodes ++ v ∷ [])) n.before a) (sym (longer_at q next)) (widened _ a p.0.1)), grown q qs next p.1)

  beyond : (a : ℕ) (ps : List ℕ) → IsPath (After first nodes) (Before first nodes) a ps → IsOut (length nodes) ps
  beyond a [] p = tt
  beyond a (q ∷ qs) p =
      let next = within first (length nodes) _ q p.0.0 in
      ((λ e. lt_irrefl q (subst (λ m. q < m) e next)), beyond q qs p.1)

out_front : (k : ℕ) (xs : List ℕ) (z : ℕ) → IsOut k (xs ++ z ∷ []) → IsOut k (z ∷ xs)
out_front k [] z o = (o.0, tt)
out_front k (x ∷ xs) z o = let rest = out_front k xs z o.1 in (rest.0, (o.0, rest.1))

module _ (first : Ptr) (nodes : List Node) (places : List (ℤ × Place)) (order : List ℕ) (r : IsRing first nodes places order) (contact : Contact) (none : lookup (int_eq contact.broker) places ≡ None) (place next : Place) where
  abbrev key : ℤ
  key = contact.broker

  abbrev i : ℕ
  i = length nodes

  abbrev v : Node
  v = node_of contact next

  abbrev wider : List Node
  wider = nodes ++ v ∷ []

  abbrev pub new : List Node
  new = linked first wider place next

  new_at : (s : ℕ) → s < i → contact_at new s ≡ contact_at nodes s
  new_at s inside = linked_holds first wider place next s ∙ ap held (longer_at first nodes v s inside)

  new_last : contact_at new i ≡ contact
  new_last = linked_holds first wider place next i ∙ ap held (get_or-append_seam nodes v [] blank)

  inside : (s : ℕ) → IsIn s order → s < i
  inside s there = let f = r.found s there in within first i f.0 s f.2

  module _ (at_i : LiesAt first (length wider) place i) (at_0 : LiesAt first i next 0) where
    out : IsOut i (0 ∷ order)
    out = out_front i order 0 (beyond first nodes v 0 (order ++ 0 ∷ []) r.path)

    wide : (x : Place) (q : ℕ) → LiesAt first i x q → LiesAt first (length new) x q
    wide x q h = subst (λ m. LiesAt first m x q) (sym (linked_len first wider place next)) (widened first nodes v x q h)

    pub added_ring : (places' : List (ℤ × Place)) → ((q : ℤ) → lookup (int_eq q) places' ≡ cond (int_eq key q) (Some place) (lookup (int_eq q) places)) → length places' ≡ length places + 1 → IsRing first new places' (order ++ i ∷ [])
    added_ring places' changed more = record {
      path = with_node first wider order place next i r.apart out at_i (widened first nodes v next 0 at_0) (grown first nodes v 0 (order ++ 0 ∷ []) (within first i next 0 at_0) r.path);
      apart = apart_snoc (0 ∷ order) i r.apart out;
      found = λ s there. elim (snoc_in s order i there) [
        | inl before ↦
            let old = r.found s before in
            let differs : int_eq key (node_at nodes s).broker ≡ false = elim (cases_Bool (int_eq key (node_at nodes s).broker)) [
              | inl holds ↦ let here : lookup (int_eq key) places ≡ Some old.0 = subst (λ (b : ℤ). lookup (int_eq b) places ≡ Some old.0) (sym (same_id key (node_at nodes s).broker holds)) old.1 in let bad : None ≡ Some old.0 = sym none ∙ here in absurd cc
              | inr fails ↦ fails
            ] in
            let now : lookup (int_eq (node_at nodes s).broker) places' ≡ Some old.0 = changed (node_at nodes s).broker ∙ ap (λ t. cond t (Some place) (lookup (int_eq (node_at nodes s).broker) places)) differs ∙ old.1 in
            (old.0, subst (λ (b : ℤ). lookup (int_eq b) places' ≡ Some old.0) (sym (ap (λ c. c.broker) (new_at s (inside s before)))) now, wide old.0 s old.2)
        | inr same ↦
            let now : lookup (int_eq key) places' ≡ Some place = changed key ∙ ap (λ t. cond t (Some place) (lookup (int_eq key) places)) (id_itself key) in (
              place,
              subst (λ (b : ℤ). lookup (int_eq b) places' ≡ Some place) (sym (ap (λ k. (node_at new k).broker) same ∙ ap (λ c. c.broker) new_last)) now,
              subst (λ k. LiesAt first (length new) place k) (sym same) (subst (λ m. LiesAt first m place i) (sym (linked_len first wider place next)) at_i),
            )
      ];
      held = λ q p e. elim (cases_Bool (int_eq key q)) [
        | inl holds ↦
            let one : place ≡ p = some_is place p (sym (changed q ∙ ap (λ t. cond t (Some place) (lookup (int_eq q) places)) holds) ∙ e) in
            (i, in_here order i [], ap (λ c. c.broker) new_last ∙ same_id key q holds, subst (λ x. LiesAt first (length new) x i) one (subst (λ m. LiesAt first m place i) (sym (linked_len first wider place next)) at_i))
        | inr fails ↦
            let old : lookup (int_eq q) places ≡ Some p = sym (changed q ∙ ap (λ t. cond t (Some place) (lookup (int_eq q) places)) fails) ∙ e in
            let h = r.held q p old in
            (h.0, in_snoc h.0 order i h.1, ap (λ c. c.broker) (new_at h.0 (inside h.0 h.1)) ∙ h.2, wide p h.0 h.3)
      ];
      count = let most = r.count in let all = length-append order (i ∷ []) in omega arith;
    }

  pub added_contacts : map (contact_at new) (order ++ i ∷ []) ≡ touched (map (contact_at nodes) order) contact
  added_contacts =
      let before : map (contact_at new) order ≡ contacts_without (map (contact_at nodes) order) key =
      map_same (contact_at new) (contact_at nodes) order (λ s there. new_at s (inside s there)) ∙ sym (without_none (contact_at nodes) key order (no_node first nodes places order r key none)) in
      map-append (contact_at new) order (i ∷ []) ∙ (λ t. before t ++ new_last t ∷ [])
