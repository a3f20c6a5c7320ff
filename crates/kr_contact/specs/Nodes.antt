-- The nodes of a block, by their indices, and what changes one. This project's own.
use Rattle.std.specs.Prelude.{◌++◌, ◌∷◌, [], ℕ, pos, List, slice_index_or, slice_set}
use Rattle.std.specs.Ptr.{Ptr, null_ptr}
use Rattle.kr_defs.specs.declared.basis.Contact.{Contact}
use Rattle.kr_contact.specs.declared.nodes.Node.{Node}
use Rattle.kr_contact.specs.declared.nodes.Place.{Place}
use Rattle.kr_contact.specs.contracts.nodes.Node.{the_row}
use Rattle.kr_contact.specs.Places.{index_at, IsPlace, IsPlaceOf}

-- the index of the node at the place, where the first node lies at `first`
abbrev pub index_of : Ptr → Place → ℕ
index_of first place = index_at the_row first place.at

-- one of the n nodes lies at the place
abbrev pub IsKnown : Ptr → ℕ → Place → Type 0
IsKnown first n place = IsPlace the_row first n place.at

-- the i-th does
abbrev pub LiesAt : Ptr → ℕ → Place → ℕ → Type 0
LiesAt first n place i = IsPlaceOf the_row first n place.at i

abbrev pub nowhere : Place
nowhere = record { at = null_ptr }

abbrev pub blank : Node
blank = record { broker = pos 0; time = pos 0; offset = pos 0; before = nowhere; after = nowhere }

abbrev pub node_at : List Node → ℕ → Node
node_at nodes i = slice_index_or nodes i blank

-- the node that closes a ring with no contacts
abbrev pub closing_node : Place → Node
closing_node first = record { broker = pos 0; time = pos 0; offset = pos 0; before = first; after = first }

-- the contact that the node is
abbrev pub contact_in : Node → Contact
contact_in node = record { broker = node.broker; time = node.time; offset = node.offset }

-- ---- the nodes after one of them changed

abbrev pub with_after : List Node → ℕ → Place → List Node
with_after nodes i place = slice_set nodes i (record (node_at nodes i) { after = place })

abbrev pub with_before : List Node → ℕ → Place → List Node
with_before nodes i place = slice_set nodes i (record (node_at nodes i) { before = place })

abbrev pub with_news : List Node → ℕ → Contact → List Node
with_news nodes i contact = slice_set nodes i (record (node_at nodes i) { time = contact.time; offset = contact.offset })

-- the nodes beside the i-th are linked to one another
unfoldable pub unlinked : Ptr → List Node → ℕ → List Node
unlinked first nodes i =
    let node = node_at nodes i in
    with_before (with_after nodes (index_of first node.before) node.after) (index_of first node.after) node.before

-- the node at the place is linked in before the next one
unfoldable pub linked : Ptr → List Node → Place → Place → List Node
linked first nodes place next =
    let before = (node_at nodes (index_of first next)).before in
    with_before (with_after (with_after (with_before nodes (index_of first place) before) (index_of first place) next) (index_of first before) place) (index_of first next) place

-- the nodes without the one at the place in the ring, which has the time and the offset of the contact
abbrev pub unlinked_with_news : Ptr → List Node → Place → Contact → List Node
unlinked_with_news first nodes place contact = with_news (unlinked first nodes (index_of first place)) (index_of first place) contact

-- where the last node lies then, beside the one that closes the ring
abbrev pub last_without : Ptr → List Node → Place → Place → Contact → Place
last_without first nodes place closing contact = (node_at (unlinked_with_news first nodes place contact) (index_of first closing)).before

-- the node at the place becomes the last one before the first, with the time and the offset of the contact
unfoldable pub moved_last : Ptr → List Node → Place → Place → Contact → List Node
moved_last first nodes place next contact =
    let i = index_of first place in
    linked first (with_news (unlinked first nodes i) i contact) place next

-- the contact's node before it is linked in
abbrev pub node_of : Contact → Place → Node
node_of contact next = record { broker = contact.broker; time = contact.time; offset = contact.offset; before = next; after = next }

-- a new node at the place is linked in before the first
unfoldable pub added_last : Ptr → List Node → Place → Place → Contact → List Node
added_last first nodes place next contact = linked first (nodes ++ node_of contact next ∷ []) place next
