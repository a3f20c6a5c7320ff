-- KIP-631: the brokers whose heartbeats a leading controller has, as Kafka's BrokerHeartbeatManager keeps them. That these
-- two lists are all that is kept is this project's own.
use Rattle.std.specs.Prelude.{◌+ℤ◌, ◌++◌, ◌∷◌, [], ℕ, ℤ, pos, negsuc, int_lt, int_le, Bool, true, not, ◌&&◌, List, filter, map, find, take_while, Option, None, IsTrue}
use Rattle.std.specs.Int.{int_min}
use Rattle.std.specs.List.{filter_map, list_any, list_all, last_or, reduce}
use Rattle.std.specs.Option.{option_map, option_map_or}
use Rattle.std.specs.Ordering.{int_eq}
use Rattle.kr_defs.specs.declared.basis.Basis.{Basis}
use Rattle.kr_defs.specs.declared.basis.Contact.{Contact}
use Rattle.kr_defs.specs.declared.basis.Stopping.{Stopping}
use Rattle.kr_defs.specs.Ids.{is_distinct, is_within}

pub record Heartbeats : Type 0 where
  -- the unfenced brokers, by their last contact
  pub contacts : List Contact
  -- the stopping brokers among them, by when they began to stop
  pub stopping : List Stopping

-- those of a basis
abbrev pub heard : Basis → Heartbeats
heard basis = record { contacts = basis.contacts; stopping = basis.stopping }

abbrev pub contact_brokers : Heartbeats → List ℤ
contact_brokers h = map (λ c. c.broker) h.contacts

abbrev pub stopping_brokers : Heartbeats → List ℤ
stopping_brokers h = map (λ s. s.broker) h.stopping

-- ---- what changes them

-- a contact at the time, with no offset yet
abbrev pub new_contact : ℤ → ℤ → Contact
new_contact now broker = record { broker = broker; time = now; offset = negsuc 0 }

abbrev pub new_stopping : ℤ → ℤ → Stopping
new_stopping tip broker = record { broker = broker; tip = tip }

-- at Lead: these brokers are heard of now, and these of them began to stop at the place at Lead
abbrev pub begin : List ℤ → List ℤ → ℤ → ℤ → Heartbeats
begin unfenced stopping now led = record { contacts = map (new_contact now) unfenced; stopping = map (new_stopping led) stopping }

-- on standby nobody is heard of
abbrev pub end : Heartbeats
end = record { contacts = []; stopping = [] }

abbrev pub contacts_without : List Contact → ℤ → List Contact
contacts_without contacts broker = filter (λ c. not (int_eq c.broker broker)) contacts

abbrev pub stopping_without : List Stopping → ℤ → List Stopping
stopping_without stopping broker = filter (λ s. not (int_eq s.broker broker)) stopping

-- the broker becomes the last contact, with the time and the offset
abbrev pub beat : Heartbeats → ℤ → ℤ → ℤ → Heartbeats
beat h broker now offset = record h {
  contacts = contacts_without h.contacts broker ++ record { broker = broker; time = now; offset = offset } ∷ [];
}

-- the broker leaves both lists
abbrev pub leave : Heartbeats → ℤ → Heartbeats
leave h broker = record { contacts = contacts_without h.contacts broker; stopping = stopping_without h.stopping broker }

-- the broker began to stop at the tip
abbrev pub stop : Heartbeats → ℤ → ℤ → Heartbeats
stop h broker tip = record h { stopping = h.stopping ++ new_stopping tip broker ∷ [] }

-- ---- what they tell

-- the broker is a contact, and less than the session's length has passed since
abbrev pub valid : Heartbeats → ℤ → ℤ → ℕ → Bool
valid h broker now session = list_any (λ c. int_eq c.broker broker && int_lt now (c.time +ℤ pos session)) h.contacts

-- the offset that the broker reported last
abbrev pub offset_of : Heartbeats → ℤ → Option ℤ
offset_of h broker = option_map (λ c. c.offset) (find (λ c. int_eq c.broker broker) h.contacts)

-- the least offset of these brokers
abbrev pub lowest_offset : Heartbeats → List ℤ → Option ℤ
lowest_offset h brokers = reduce int_min (filter_map (offset_of h) brokers)

-- the tip when the broker began to stop
abbrev pub stopped_at : Heartbeats → ℤ → Option ℤ
stopped_at h broker = option_map (λ s. s.tip) (find (λ s. int_eq s.broker broker) h.stopping)

-- the brokers that were heard of at the limit or before, the longest ago first
abbrev pub expired : Heartbeats → ℤ → List ℤ
expired h limit = map (λ c. c.broker) (take_while (λ c. int_le c.time limit) h.contacts)

-- the time isn't before the last contact's
abbrev pub is_not_before : Heartbeats → ℤ → Bool
is_not_before h now = option_map_or (λ c. int_le c.time now) (last_or None h.contacts) true

-- ---- what is true of them whatever was heard

-- no contact's time is before that of an earlier one
abbrev pub never_fall : List Contact → Bool
never_fall [] = true
never_fall (c ∷ cs) = list_all (λ later. int_le c.time later.time) cs && never_fall cs

pub record AreHeartbeats (h : Heartbeats) : Type 0 where
  -- each broker stands once in either list
  pub distinct : IsTrue (is_distinct (contact_brokers h))
  pub stopping_distinct : IsTrue (is_distinct (stopping_brokers h))
  -- the times never fall
  pub rising : IsTrue (never_fall h.contacts)
  -- a stopping broker is a contact
  pub among : IsTrue (is_within (stopping_brokers h) (contact_brokers h))
