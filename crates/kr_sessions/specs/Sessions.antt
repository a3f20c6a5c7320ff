-- What a contract sees of sessions. This project's own.
use Rattle.std.specs.Prelude.{◌||◌, Bool, ℤ, List}
use Rattle.kr_defs.specs.declared.basis.Contact.{Contact}
use Rattle.kr_defs.specs.declared.basis.Stopping.{Stopping}
use Rattle.kr_defs.specs.Ids.{has}
use Rattle.kr_defs.specs.Heartbeats.{Heartbeats, contact_brokers}

pub record Heard : Type 0 where
  pub heartbeats : Heartbeats
  -- one contact more is sure to find memory
  pub contact_room : Bool
  -- one stopping broker more is sure to find memory
  pub stopping_room : Bool

abbrev pub heard_of : List Contact → List Stopping → Bool → Bool → Heard
heard_of contacts stopping contact_room stopping_room =
    record { heartbeats = record { contacts = contacts; stopping = stopping }; contact_room = contact_room; stopping_room = stopping_room }

-- the broker is a contact already, or there is room for it
abbrev pub may_beat : Heard → ℤ → Bool
may_beat heard broker = has (contact_brokers heard.heartbeats) broker || heard.contact_room
