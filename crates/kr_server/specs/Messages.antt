-- Messages of a client's connection, each behind its size in four bytes, as Kafka's protocol guide has it.
use Rattle.std.specs.Prelude.{◌≡◌, ℕ, ◌+◌, ◌<◌, ◌≤◌, ◌⊎◌, List, ◌++◌, length, Option}
use Rattle.std.specs.Int.{w32}
use Rattle.std.specs.Io.KnownBytes.{IsAtEnd}
use Rattle.kr_wire.specs.Grammar.{◌⌢◌, Exactly, IsNumber}
use Rattle.kr_defs.specs.declared.limits.TheConstants.{MOST_MESSAGE_BYTES, MOST_SESSION_BYTES}

-- the message behind its size, no longer than a message may be
pub record IsSizedMessage (message bytes : List ℕ) : Type 0 where
  pub short : length message ≤ MOST_MESSAGE_BYTES
  pub spelled : (IsNumber w32 (length message) ⌢ Exactly message) bytes

-- one whole message of which that holds, behind its size
pub record IsMessageThat (Holds : List ℕ → Type 0) (bytes : List ℕ) : Type 0 where
  pub message : List ℕ
  pub sized : IsSizedMessage message bytes
  pub holds : Holds message

abbrev pub AnyMessage : List ℕ → Type 0
AnyMessage message = Unit {0}

-- The bytes begin a message, as far as its size tells, and are fewer than it has.
pub data IsMessageBegun (bytes : List ℕ) : Type 0 where
  within_size : length bytes < 4 → IsMessageBegun bytes
  within_body : (size : ℕ) (head body : List ℕ) → bytes ≡ head ++ body → IsNumber w32 size head → size ≤ MOST_MESSAGE_BYTES
      → length body < size → IsMessageBegun bytes

-- a size past the limit, as each negative one is when it is read without its sign
pub record IsSizeTooGreat (bytes : List ℕ) : Type 0 where
  pub size : ℕ
  pub spelled : IsNumber w32 size bytes
  pub great : MOST_MESSAGE_BYTES < size

-- the same behind so many bytes, and the connection may have more
abbrev pub IsMessageCut : ℕ → List ℕ → Type 0
IsMessageCut at bytes = IsMessageBegun bytes × (at + length bytes < MOST_SESSION_BYTES)

-- a size past the limit, or some bytes of a message in which the source ended
abbrev pub IsBrokenMessage : ℕ → List ℕ → Option (List ℕ) → Type 0
IsBrokenMessage at bytes left' = IsSizeTooGreat bytes ⊎ ((0 < length bytes) × IsMessageCut at bytes × IsAtEnd left')
