-- A ring of nodes: the first node of the block is no contact, and closes the ring. This project's own.
use Rattle.std.specs.Prelude.{◌≡◌, ◌≢◌, ◌⊎◌, ◌∷◌, [], ◌++◌, ℕ, ℤ, suc, zero, List, length, map, Some}
use Rattle.std.specs.Map.{lookup}
use Rattle.std.specs.Ordering.{int_eq}
use Rattle.std.specs.Ptr.{Ptr}
use Rattle.kr_defs.specs.declared.basis.Contact.{Contact}
use Rattle.kr_contact.specs.Nodes.{contact_in, index_of, node_at, IsKnown, LiesAt}
use Rattle.kr_contact.specs.declared.nodes.Node.{Node}
use Rattle.kr_contact.specs.declared.nodes.Place.{Place}

-- ---- lists of indices

-- the index is none of these
abbrev pub IsOut : ℕ → List ℕ → Type 0
IsOut i [] = Unit {0}
IsOut i (j ∷ js) = (i ≢ j) × IsOut i js

-- no index is there twice
abbrev pub IsApart : List ℕ → Type 0
IsApart [] = Unit {0}
IsApart (i ∷ is) = IsOut i is × IsApart is

-- it is one of these
abbrev pub IsIn : ℕ → List ℕ → Type 0
IsIn i [] = ⊥
IsIn i (j ∷ js) = (i ≡ j) ⊎ IsIn i js

-- ---- nodes that lead to one another

-- what the node holds
abbrev pub contact_at : List Node → ℕ → Contact
contact_at nodes i = contact_in (node_at nodes i)

-- from one node on, each leads to the next, and each next back to it
abbrev pub IsPath : (ℕ → ℕ → Type 0) → (ℕ → ℕ → Type 0) → ℕ → List ℕ → Type 0
IsPath After Before i [] = Unit {0}
IsPath After Before i (j ∷ js) = (After i j × Before j i) × IsPath After Before j js

-- so many nodes in turn, from the one at the place on
abbrev pub nodes_from : Ptr → List Node → ℕ → Place → List ℕ
nodes_from first nodes zero place = []
nodes_from first nodes (suc n) place = index_of first place ∷ nodes_from first nodes n (node_at nodes (index_of first place)).after

-- and nodes lie at so many places
abbrev pub AreKnown : Ptr → List Node → ℕ → Place → Type 0
AreKnown first nodes zero place = Unit {0}
AreKnown first nodes (suc n) place = IsKnown first (length nodes) place × AreKnown first nodes n (node_at nodes (index_of first place)).after

-- the contacts of so many nodes in turn
abbrev pub contacts_from : Ptr → List Node → ℕ → Place → List Contact
contacts_from first nodes n place = map (contact_at nodes) (nodes_from first nodes n place)

module _ (first : Ptr) (nodes : List Node) where
  abbrev pub After : ℕ → ℕ → Type 0
  After i j = LiesAt first (length nodes) (node_at nodes i).after j

  abbrev pub Before : ℕ → ℕ → Type 0
  Before i j = LiesAt first (length nodes) (node_at nodes i).before j

  -- the nodes of so many contacts, in their order
  abbrev pub order_of : ℕ → List ℕ
  order_of n = nodes_from first nodes n (node_at nodes 0).after

  -- the nodes of this order are a ring, and the look-up has each broker's node
  pub record IsRing (places : List (ℤ × Place)) (order : List ℕ) : Type 0 where
    pub path : IsPath After Before 0 (order ++ 0 ∷ [])
    pub apart : IsApart (0 ∷ order)
    pub found : (i : ℕ) → IsIn i order → (place : Place) × (lookup (int_eq (node_at nodes i).broker) places ≡ Some place) × LiesAt first (length nodes) place i
    pub held : (broker : ℤ) (place : Place) → lookup (int_eq broker) places ≡ Some place → (i : ℕ) × IsIn i order × ((node_at nodes i).broker ≡ broker) × LiesAt first (length nodes) place i
    pub count : length order ≡ length places
