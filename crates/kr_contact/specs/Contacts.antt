-- A contact list as contracts see it: KIP-631 has brokers in order of their last heartbeat. The rest is this project's own.
use Rattle.std.specs.Prelude.{◌≡◌, false, ◌++◌, ◌∷◌, [], ◌||◌, ℕ, ℤ, Bool, List, map, find, take_while, int_le, nat_lt, Option, IsTrue}
use Rattle.std.specs.Option.{unwrap_or}
use Rattle.std.specs.Ordering.{int_eq}
use Rattle.kr_defs.specs.declared.basis.Contact.{Contact}
use Rattle.kr_defs.specs.Ids.{has}
use Rattle.kr_defs.specs.Heartbeats.{contacts_without}

pub record ContactsSeen : Type 0 where
  -- the brokers as they were heard of, in order of the last contact
  pub contacts : List Contact
  -- so many brokers more are sure to find memory
  pub spare : ℕ

-- the broker is a contact
abbrev pub is_contact : List Contact → ℤ → Bool
is_contact contacts broker = has (map (λ c. c.broker) contacts) broker

-- the broker as it was heard of last
abbrev pub contact_of : List Contact → ℤ → Option Contact
contact_of contacts broker = find (λ c. int_eq c.broker broker) contacts

-- the broker becomes the last contact
abbrev pub touched : List Contact → Contact → List Contact
touched contacts contact = contacts_without contacts contact.broker ++ contact ∷ []

-- the brokers that were heard of at the limit or before, the longest ago first
abbrev pub expired_among : List Contact → ℤ → List ℤ
expired_among contacts limit = map (λ c. c.broker) (take_while (λ c. int_le c.time limit) contacts)

-- the broker is a contact already, or finds room
abbrev pub may_touch : ContactsSeen → ℤ → Bool
may_touch seen broker = is_contact seen.contacts broker || nat_lt 0 seen.spare

-- who is heard of again takes no room
abbrev pub KeepsRoom : ContactsSeen → ContactsSeen → ℤ → Type 0
KeepsRoom old new broker = IsTrue (is_contact old.contacts broker) → new.spare ≡ old.spare

-- with no ring yet there are no contacts, and no room
abbrev pub seen_of : Option ContactsSeen → ContactsSeen
seen_of ring = unwrap_or ring (record { contacts = []; spare = 0 })

-- each broker stands there once
abbrev pub AreSingle : List Contact → Type 0
AreSingle [] = Unit {0}
AreSingle (c ∷ cs) = (is_contact cs c.broker ≡ false) × AreSingle cs
