-- What the serving of a client's connection comes to: the messages that were taken, the replies that were written, the exchanges
-- that were told, and what the seat did. This project's own.
use Rattle.std.specs.Prelude.{◌≡◌, ◌⊎◌, ℕ, ℤ, ◌+◌, ◌<◌, ◌≤◌, List, [], ◌∷◌, ◌++◌, length, take, All, Option, None, IfSome, Result, Err}
use Rattle.std.specs.Io.KnownBytes.{Appends, Consumes, IsAtEnd}
use Rattle.kr_base.specs.Causes.{Still}
use Rattle.kr_wire.specs.Grammar.{Each}
use Rattle.kr_defs.specs.declared.limits.TheConstants.{MOST_SESSION_BYTES}
use Rattle.kr_view.specs.declared.seat.CopyFault.TheVariants as copies
use Rattle.kr_shared.specs.declared.clients.SubmitFault.{SubmitFault}
use Rattle.kr_shared.specs.declared.clients.SubmitFault.TheVariants as submits
use Rattle.kr_shared.specs.Clients.{Client}
use Rattle.kr_server.specs.declared.end.ServeEnd.{ServeEnd}
use Rattle.kr_server.specs.declared.end.ServeEnd.TheVariants as ends
use Rattle.kr_server.specs.declared.exchange.Exchange.{Exchange}
use Rattle.kr_server.specs.Exchanges.{IsMessageOf, SizedReplyFits, sized_replies, sized_reply}
use Rattle.kr_server.specs.Messages.{IsBrokenMessage, IsMessageBegun, IsMessageCut, IsMessageThat, IsSizedMessage}
use Rattle.kr_server.specs.PagingCalls.{Unpins}
use Rattle.kr_server.specs.SeatCalls.{AreExchanged, Holder, IsRefusedPage, IsRefusedRead, IsRefusedWrite, IsWithoutMemory, PushesWrites, holder, pushed_writes}
use Rattle.kr_server.specs.Told.{TellsMore}

-- the bytes that the source has left and those that were written to the sink, where they are told; the exchanges, where the
-- transcript tells them; and the client's seat
pub record Connection : Type 0 where
  pub left : Option (List ℕ)
  pub written : Option (List ℕ)
  pub told : Option (List Exchange)
  pub seat : Client

abbrev pub connection : Option (List ℕ) → Option (List ℕ) → Option (List Exchange) → Client → Connection
connection left written told seat = record { left = left; written = written; told = told; seat = seat }

-- ---- what was written

-- all replies, each behind its size, in order
pub record WroteReplies (written written' : Option (List ℕ)) (xs : List Exchange) : Type 0 where
  pub fit : All SizedReplyFits xs
  pub bytes : Appends written written' (sized_replies xs)

-- all but the last, and a front of that
pub record WroteAllButLast (written written' : Option (List ℕ)) (xs : List Exchange) : Type 0 where
  pub before : List Exchange
  pub last : Exchange
  pub parts : xs ≡ before ++ last ∷ []
  pub fit : All SizedReplyFits xs
  pub count : ℕ
  pub bytes : Appends written written' (sized_replies before ++ take count (sized_reply last))

-- a reply lacks only where a write failed
abbrev pub WroteRepliesUpTo : ServeEnd → Option (List ℕ) → Option (List ℕ) → List Exchange → Type 0
WroteRepliesUpTo ends.WriteFault written written' xs = WroteAllButLast written written' xs
WroteRepliesUpTo other written written' xs = WroteReplies written written' xs

-- ---- the ends

-- the write that the message asks, or the page
abbrev pub IsWithoutAnswer : Client → Client → SubmitFault → ServeEnd → List ℕ → Type 0
IsWithoutAnswer old new fault end message = IsRefusedWrite old new fault message ⊎ IsRefusedPage old new end message

-- the read that the message asks, or the page
abbrev pub IsWithoutCopy : Client → Client → List ℕ → Type 0
IsWithoutCopy old new message = IsRefusedRead old new copies.NoCopy message ⊎ IsRefusedPage old new ends.NoCopy message

-- What was taken behind the messages of the exchanges, which end before the place `at`, and what the seat did then:
-- at Closed, nothing, and the source is at its end;
-- at Malformed, what tells that no message stands there, or all that there is of one;
-- at ReadFault, too few bytes of a message; at TooLong too, and no more bytes of one connection are taken;
-- at WriteFault, nothing;
-- at Ended and Ahead, a write to which `submit` answered so, or a page for which the seat did; at Exhausted, such a write; at NoCopy,
-- a read to which `read` answered so, or such a page;
-- at NoMemory, too few bytes of a message, or a whole one without memory.
abbrev pub EndsBehind : ℕ → List ℕ → Option (List ℕ) → Holder → Client → ServeEnd → Type 0
EndsBehind at rest left' mid new ends.Closed = (new ≡ mid.seat) × (rest ≡ []) × IsAtEnd left' × (at < MOST_SESSION_BYTES)
EndsBehind at rest left' mid new (ends.Malformed place) = (new ≡ mid.seat) × (place ≡ at) × IsBrokenMessage at rest left'
EndsBehind at rest left' mid new ends.ReadFault = (new ≡ mid.seat) × IsMessageCut at rest
EndsBehind at rest left' mid new ends.WriteFault = (new ≡ mid.seat) × (rest ≡ [])
EndsBehind at rest left' mid new ends.TooLong = (new ≡ mid.seat) × IsMessageBegun rest × (at + length rest ≡ MOST_SESSION_BYTES)
EndsBehind at rest left' mid new (ends.Ended number) = IsMessageThat (IsWithoutAnswer mid.seat new (submits.Ended number) (ends.Ended number)) rest
EndsBehind at rest left' mid new (ends.Ahead floor tip) = IsMessageThat (IsWithoutAnswer mid.seat new (submits.Ahead floor tip) (ends.Ahead floor tip)) rest
EndsBehind at rest left' mid new (ends.Exhausted tip) = IsMessageThat (IsRefusedWrite mid.seat new (submits.Exhausted tip)) rest
EndsBehind at rest left' mid new ends.NoCopy = IsMessageThat (IsWithoutCopy mid.seat new) rest
EndsBehind at rest left' mid new ends.NoMemory = ((new ≡ mid.seat) × IsMessageBegun rest) ⊎ IsMessageThat (IsWithoutMemory mid new) rest

-- The messages that were taken whole are those of the exchanges, in order, but for one without an exchange; the replies that were
-- written are those of the exchanges, in order; the transcript tells them; each came of the seat; and the seat pushed
-- their writes and at most one more, pins aside. No pin is held at first.
pub record Served (before after : Connection) (end : ServeEnd) : Type 0 where
  pub xs : List Exchange
  pub front : List ℕ
  pub rest : List ℕ
  pub mid : Holder
  pub asked : Each IsMessageOf xs front
  pub took : Consumes before.left after.left (front ++ rest)
  pub within : length front + length rest ≤ MOST_SESSION_BYTES
  pub exchanged : AreExchanged (holder before.seat None) xs mid
  pub behind : EndsBehind (length front) rest after.left mid after.seat end
  pub wrote : WroteRepliesUpTo end before.written after.written xs
  pub tells : TellsMore before.told after.told xs
  pub pushed : PushesWrites before.seat mid.seat after.seat (pushed_writes xs)

-- the place that is held then is given back, unless the seat refuses that
abbrev pub GivesBackLast : Client → Client → Type 0
GivesBackLast old new = (new ≡ old) ⊎ ((place : ℤ) × (result : Result (Unit {0}) SubmitFault) × Unpins old new place result)

-- the same of a seat, and of a source, a sink and a transcript, by what they tell
abbrev pub ServesToEnd : {S K T : Type 0} → (S → Option (List ℕ)) → (K → Option (List ℕ)) → (T → Option (List Exchange)) → S → S → K → K → T → T → Client → Client → ServeEnd → Type 0
ServesToEnd left written told source source' sink sink' transcript transcript' seat seat' end =
    Served (connection (left source) (written sink) (told transcript) seat) (connection (left source') (written sink') (told transcript') seat') end

-- and at its end the connection's place is given back
abbrev pub ServesClient : {S K T : Type 0} → (S → Option (List ℕ)) → (K → Option (List ℕ)) → (T → Option (List Exchange)) → S → S → K → K → T → T → Client → Client → ServeEnd → Type 0
ServesClient left written told source source' sink sink' transcript transcript' seat seat' end =
    (last : Client) × ServesToEnd left written told source source' sink sink' transcript transcript' seat last end × GivesBackLast last seat'

-- Of a seat that holds no place at first, it holds none at last, or one that it was refused to give back.
pub data HoldsNoneBut (seat : Client) : Type 0 where
  none : seat.held ≡ [] → HoldsNoneBut seat
  one : (last : Client) (place : ℤ) (fault : SubmitFault) → last.held ≡ place ∷ [] → Unpins last seat place (Err fault) → HoldsNoneBut seat

abbrev pub LeavesNone : Client → Client → Type 0
LeavesNone old new = old.held ≡ [] → HoldsNoneBut new

-- ---- where nothing failed

-- that holds where no count rose: of the source's faults, of the sink's, and of how often the seat got no copy
abbrev pub WhereNoneRose : {S K : Type 0} → (S → ℕ) → (K → ℕ) → S → S → K → K → Client → Client → Type 0 → Type 0
WhereNoneRose read_faults write_faults source source' sink sink' seat seat' That =
    Still (read_faults source) (read_faults source') → Still (write_faults sink) (write_faults sink') → Still seat.misses seat'.misses → That

-- these bytes are these messages, each behind its size
abbrev pub AreMessages : List (List ℕ) → List ℕ → Type 0
AreMessages messages = Each IsSizedMessage messages

-- no front of the bytes is a message behind its size
abbrev pub NoMessageBegins : List ℕ → Type 0
NoMessageBegins bytes = (message front behind : List ℕ) → bytes ≡ front ++ behind → IsSizedMessage message front → ⊥

-- to its end, or to a call that the seat refused, or to want of memory
abbrev pub IsServedOut : ServeEnd → Type 0
IsServedOut ends.Closed = Unit {0}
IsServedOut (ends.Malformed place) = ⊥
IsServedOut ends.ReadFault = ⊥
IsServedOut ends.WriteFault = ⊥
IsServedOut ends.TooLong = ⊥
IsServedOut (ends.Ended number) = Unit {0}
IsServedOut (ends.Ahead floor tip) = Unit {0}
IsServedOut (ends.Exhausted tip) = Unit {0}
IsServedOut ends.NoCopy = ⊥
IsServedOut ends.NoMemory = Unit {0}

-- up to this place, or to the most bytes of one connection, to a call that the seat refused, or to want of memory
abbrev pub IsServedUpTo : ℕ → ServeEnd → Type 0
IsServedUpTo at ends.Closed = ⊥
IsServedUpTo at (ends.Malformed place) = place ≡ at
IsServedUpTo at ends.ReadFault = ⊥
IsServedUpTo at ends.WriteFault = ⊥
IsServedUpTo at ends.TooLong = Unit {0}
IsServedUpTo at (ends.Ended number) = Unit {0}
IsServedUpTo at (ends.Ahead floor tip) = Unit {0}
IsServedUpTo at (ends.Exhausted tip) = Unit {0}
IsServedUpTo at ends.NoCopy = ⊥
IsServedUpTo at ends.NoMemory = Unit {0}

-- whole messages, of fewer bytes than one connection may have, are served out
abbrev pub ServesMessages : Option (List ℕ) → ServeEnd → Type 0
ServesMessages left end = IfSome left (λ stream. (messages : List (List ℕ)) → AreMessages messages stream → length stream < MOST_SESSION_BYTES → IsServedOut end)

-- where bytes come behind whole messages, with which no message begins, the serving ends there
abbrev pub ServesUpToBreak : Option (List ℕ) → ServeEnd → Type 0
ServesUpToBreak left end = IfSome left (λ stream. (messages : List (List ℕ)) (front behind : List ℕ) →
    stream ≡ front ++ behind → AreMessages messages front → 0 < length behind → NoMessageBegins behind → IsServedUpTo (length front) end)
