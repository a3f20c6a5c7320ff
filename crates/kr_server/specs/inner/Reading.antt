-- The reading of one message: what was taken.
use Rattle.std.specs.Prelude.{◌≡◌, ◌⊎◌, ℕ, ◌+◌, ◌<◌, ◌≤◌, List, [], length, Option}
use Rattle.std.specs.Io.KnownBytes.{Consumes, IsAtEnd}
use Rattle.kr_base.specs.Causes.{Rose}
use Rattle.kr_defs.specs.declared.limits.TheConstants.{MOST_SESSION_BYTES}
use Rattle.kr_intake.specs.declared.taking.Shortage.{Shortage}
use Rattle.kr_intake.specs.declared.taking.Shortage.TheVariants as shortages
use Rattle.kr_server.specs.declared.end.ServeEnd.{ServeEnd}
use Rattle.kr_server.specs.declared.end.ServeEnd.TheVariants as ends
use Rattle.kr_server.specs.Messages.{AnyMessage, IsBrokenMessage, IsMessageBegun, IsMessageCut, IsMessageThat}

-- bytes of which that holds were taken
pub record TookPiece (Is : List ℕ → Type 0) (left left' : Option (List ℕ)) (at at' : ℕ) : Type 0 where
  pub taken : List ℕ
  pub is : Is taken
  pub took : Consumes left left' taken
  pub place : at' ≡ at + length taken
  pub within : at' ≤ MOST_SESSION_BYTES

-- why no message is read
abbrev pub UnreadCause : ℕ → List ℕ → Option (List ℕ) → ℕ → ℕ → ServeEnd → Type 0
UnreadCause at taken left' faults faults' ends.Closed = (taken ≡ []) × IsAtEnd left' × (at < MOST_SESSION_BYTES)
UnreadCause at taken left' faults faults' (ends.Malformed place) = (place ≡ at) × IsBrokenMessage at taken left'
UnreadCause at taken left' faults faults' ends.ReadFault = IsMessageCut at taken × Rose faults faults'
UnreadCause at taken left' faults faults' ends.TooLong = IsMessageBegun taken × (at + length taken ≡ MOST_SESSION_BYTES)
UnreadCause at taken left' faults faults' ends.NoMemory = IsMessageBegun taken ⊎ IsMessageThat AnyMessage taken
UnreadCause at taken left' faults faults' other = ⊥

-- these bytes of no message, or of one that is too much for memory, were taken
pub record IsUnread (at : ℕ) (left left' : Option (List ℕ)) (faults faults' : ℕ) (end : ServeEnd) : Type 0 where
  pub taken : List ℕ
  pub took : Consumes left left' taken
  pub within : at + length taken ≤ MOST_SESSION_BYTES
  pub cause : UnreadCause at taken left' faults faults' end

-- what it means that too few bytes came of a message that begins at this place
abbrev pub shortage_end : ℕ → Shortage → ServeEnd
shortage_end at (shortages.Ended came) = ends.Malformed at
shortage_end at shortages.ReadFault = ends.ReadFault
shortage_end at shortages.TooLong = ends.TooLong
