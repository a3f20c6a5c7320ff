-- What the nodes of a block hold after one of them was taken out or put in.
use Rattle.std.proofs.Common.{◌≡◌, ◌≢◌, ◌<◌, ℕ, zero, suc, List, [], ◌∷◌, length, refl, sym, ap, subst, ◌∙◌, slice_set}
use Rattle.std.proofs.lemmas.List.{get_or-set_same, get_or-set_other, length-set}
use Rattle.std.specs.Ptr.{Ptr}
use Rattle.kr_defs.specs.declared.basis.Contact.{Contact}
use Rattle.kr_contact.specs.declared.nodes.Node.{Node}
use Rattle.kr_contact.specs.declared.nodes.Place.{Place}
use Rattle.kr_contact.specs.Nodes.{contact_in, index_of, node_at, blank, with_after, with_before, unlinked, linked}
use Rattle.kr_contact.specs.Rings.{contact_at}
use Rattle.kr_contact.proofs.Indices.{flip}

-- what a change doesn't touch
pub kept : {X : Type 0} (f : Node → X) (nodes : List Node) (i : ℕ) (v : Node) → f v ≡ f (node_at nodes i) → (s : ℕ) → f (node_at (slice_set nodes i v) s) ≡ f (node_at nodes s)
kept f [] i v e s = refl
kept f (n ∷ ns) zero v e zero = e
kept f (n ∷ ns) zero v e (suc s) = refl
kept f (n ∷ ns) (suc i) v e zero = refl
kept f (n ∷ ns) (suc i) v e (suc s) = kept f ns i v e s

pub other : (nodes : List Node) (i : ℕ) (v : Node) (s : ℕ) → i ≢ s → node_at (slice_set nodes i v) s ≡ node_at nodes s
other nodes i v s apart = get_or-set_other nodes i s v blank (flip apart)

pub same : (nodes : List Node) (i : ℕ) (v : Node) → i < length nodes → node_at (slice_set nodes i v) i ≡ v
same nodes i v within = get_or-set_same nodes i v blank within

abbrev pub on : Node → Place
on n = n.after

abbrev pub back : Node → Place
back n = n.before

abbrev pub held : Node → Contact
held n = contact_in n

-- ---- the node i is taken out from between j and k

abbrev pub cut : List Node → ℕ → ℕ → ℕ → List Node
cut nodes i j k = with_before (with_after nodes j (node_at nodes i).after) k (node_at nodes i).before

pub unlinked_is : (first : Ptr) (nodes : List Node) (i j k : ℕ) → index_of first (node_at nodes i).before ≡ j → index_of first (node_at nodes i).after ≡ k → unlinked first nodes i ≡ cut nodes i j k
unfolding unlinked
unlinked_is first nodes i j k ej ek = λ t. cut nodes i (ej t) (ek t)

module _ (nodes : List Node) (i j k : ℕ) where
  abbrev first_change : List Node
  first_change = with_after nodes j (node_at nodes i).after

  pub cut_len : length (cut nodes i j k) ≡ length nodes
  cut_len = length-set first_change k _ ∙ length-set nodes j _

  pub cut_on : (s : ℕ) → j ≢ s → (node_at (cut nodes i j k) s).after ≡ (node_at nodes s).after
  cut_on s apart = kept on first_change k _ refl s ∙ ap on (other nodes j _ s apart)

  pub cut_back : (s : ℕ) → k ≢ s → (node_at (cut nodes i j k) s).before ≡ (node_at nodes s).before
  cut_back s apart = ap back (other first_change k _ s apart) ∙ kept back nodes j _ refl s

  pub cut_new_on : j < length nodes → (node_at (cut nodes i j k) j).after ≡ (node_at nodes i).after
  cut_new_on within = kept on first_change k _ refl j ∙ ap on (same nodes j _ within)

  pub cut_new_back : k < length nodes → (node_at (cut nodes i j k) k).before ≡ (node_at nodes i).before
  cut_new_back within = ap back (same first_change k _ (subst (λ n. k < n) (sym (length-set nodes j _)) within))

  pub cut_holds : (s : ℕ) → contact_at (cut nodes i j k) s ≡ contact_at nodes s
  cut_holds s = kept held first_change k _ refl s ∙ kept held nodes j _ refl s

-- ---- the node i is put in between j and z

abbrev pub joined : List Node → ℕ → ℕ → Place → ℕ → Place → Place → List Node
joined nodes i z before j place next = with_before (with_after (with_after (with_before nodes i before) i next) j place) z place

pub linked_is : (first : Ptr) (nodes : List Node) (place next : Place) (i z j : ℕ) → index_of first place ≡ i → index_of first next ≡ z → index_of first (node_at nodes z).before ≡ j
    → linked first nodes place next ≡ joined nodes i z (node_at nodes z).before j place next
unfolding linked
linked_is first nodes place next i z j ei ez ej =
    (λ t. joined nodes (ei t) (ez t) (node_at nodes (ez t)).before (index_of first (node_at nodes (ez t)).before) place next)
    ∙ (λ t. joined nodes i z (node_at nodes z).before (ej t) place next)

module _ (nodes : List Node) (i z : ℕ) (before : Place) (j : ℕ) (place next : Place) where
  abbrev one : List Node
  one = with_before nodes i before

  abbrev two : List Node
  two = with_after one i next

  abbrev three : List Node
  three = with_after two j place

  abbrev all : List Node
  all = joined nodes i z before j place next

  pub joined_len : length all ≡ length nodes
  joined_len = length-set three z _ ∙ length-set two j _ ∙ length-set one i _ ∙ length-set nodes i _

  pub joined_on : (s : ℕ) → j ≢ s → i ≢ s → (node_at all s).after ≡ (node_at nodes s).after
  joined_on s apart beside = kept on three z _ refl s ∙ ap on (other two j _ s apart) ∙ ap on (other one i _ s beside) ∙ kept on nodes i _ refl s

  pub joined_back : (s : ℕ) → z ≢ s → i ≢ s → (node_at all s).before ≡ (node_at nodes s).before
  joined_back s apart beside = ap back (other three z _ s apart) ∙ kept back two j _ refl s ∙ kept back one i _ refl s ∙ ap back (other nodes i _ s beside)

  pub joined_last_on : j < length nodes → (node_at all j).after ≡ place
  joined_last_on within = kept on three z _ refl j ∙ ap on (same two j _ (subst (λ n. j < n) (sym (length-set one i _ ∙ length-set nodes i _)) within))

  pub joined_last_back : z ≢ i → i < length nodes → (node_at all i).before ≡ before
  joined_last_back apart within = ap back (other three z _ i apart) ∙ kept back two j _ refl i ∙ kept back one i _ refl i ∙ ap back (same nodes i _ within)

  pub joined_new_on : j ≢ i → i < length nodes → (node_at all i).after ≡ next
  joined_new_on apart within = kept on three z _ refl i ∙ ap on (other two j _ i apart) ∙ ap on (same one i _ (subst (λ n. i < n) (sym (length-set nodes i _)) within))

  pub joined_new_back : z < length nodes → (node_at all z).before ≡ place
  joined_new_back within = ap back (same three z _ (subst (λ n. z < n) (sym (length-set two j _ ∙ length-set one i _ ∙ length-set nodes i _)) within))

  pub joined_holds : (s : ℕ) → contact_at all s ≡ contact_at nodes s
  joined_holds s = kept held three z _ refl s ∙ kept held two j _ refl s ∙ kept held one i _ refl s ∙ kept held nodes i _ refl s
