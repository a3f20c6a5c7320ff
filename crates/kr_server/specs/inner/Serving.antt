-- How the serving of a connection goes on, message by message.
use Rattle.std.specs.Prelude.{◌≡◌, ℕ, ℤ, List, [], ◌∷◌, length, Option, None, Result, MatchResult}
use Rattle.std.specs.Io.KnownBytes.{Appends, Consumes}
use Rattle.kr_base.specs.FailedPuts.{AppendsFront}
use Rattle.kr_wire.specs.Grammar.{Each}
use Rattle.kr_calls.specs.declared.pins.Pin.{Pin}
use Rattle.kr_view.specs.declared.seat.CopyFault.{CopyFault}
use Rattle.kr_view.specs.declared.seat.CopyFault.TheVariants as copies
use Rattle.kr_shared.specs.declared.clients.SubmitFault.{SubmitFault}
use Rattle.kr_shared.specs.declared.clients.SubmitFault.TheVariants as submits
use Rattle.kr_shared.specs.Clients.{Client}
use Rattle.kr_server.specs.declared.end.ServeEnd.{ServeEnd}
use Rattle.kr_server.specs.declared.end.ServeEnd.TheVariants as ends
use Rattle.kr_server.specs.declared.exchange.Exchange.{Exchange}
use Rattle.kr_server.specs.Exchanges.{IsAskedFor, IsMessageOf, SizedReplyFits, sized_reply}
use Rattle.kr_server.specs.SeatCalls.{AreExchanged, Holder, IsExchanged, IsRefusedWrite, IsWithoutMemory, holder}
use Rattle.kr_server.specs.Served.{Connection, IsWithoutAnswer, IsWithoutCopy, Served, WroteReplies, connection}
use Rattle.kr_server.specs.Told.{TellsMore}
use Rattle.kr_server.specs.inner.Paging.{IsPinPlace}

-- ---- messages

-- Whole messages were taken up to this place, and their exchanges told and replied.
pub record ServedSoFar (before now : Connection) (held : Option ℤ) (at : ℕ) : Type 0 where
  pub xs : List Exchange
  pub front : List ℕ
  pub pin : Option Pin
  pub asked : Each IsMessageOf xs front
  pub took : Consumes before.left now.left front
  pub place : at ≡ length front
  pub exchanged : AreExchanged (holder before.seat None) xs (holder now.seat pin)
  pub is_held : IsPinPlace held (holder now.seat pin)
  pub wrote : WroteReplies before.written now.written xs
  pub tells : TellsMore before.told now.told xs

-- a connection that was served up to `at` is served on, or ends
abbrev pub ServesOn : Connection → Connection → Option ℤ → Option ℤ → ℕ → Result ℕ ServeEnd → Type 0
ServesOn before after held left at result =
    (first : Connection) → ServedSoFar first before held at
    → MatchResult result (λ next. ServedSoFar first after left next) (λ end. Served first after end)

-- the same of a seat, and of a source, a sink and a transcript, by what they tell
abbrev pub ServesNext : {S K T : Type 0} → (S → Option (List ℕ)) → (K → Option (List ℕ)) → (T → Option (List Exchange)) → S → S → K → K → T → T → Client → Client → Option ℤ → Option ℤ → ℕ → Result ℕ ServeEnd → Type 0
ServesNext left written told source source' sink sink' transcript transcript' seat seat' held held' at result =
    ServesOn (connection (left source) (written sink) (told transcript) seat) (connection (left source') (written sink') (told transcript') seat') held held' at result

-- ---- one message, which doesn't touch the source

-- its exchange came of the seat, was told, and replied
pub record IsAnsweredBy (message : List ℕ) (old new : Connection) (pin : Option Pin) (held : Option ℤ) : Type 0 where
  pub x : Exchange
  pub left : Option Pin
  pub asked : IsAskedFor x message
  pub exchanged : IsExchanged (holder old.seat pin) (holder new.seat left) x
  pub is_held : IsPinPlace held (holder new.seat left)
  pub fits : SizedReplyFits x
  pub wrote : Appends old.written new.written (sized_reply x)
  pub tells : TellsMore old.told new.told (x ∷ [])

-- the same, with a front of the reply
pub record IsAnsweredInPart (message : List ℕ) (old new : Connection) (pin : Option Pin) : Type 0 where
  pub x : Exchange
  pub left : Option Pin
  pub asked : IsAskedFor x message
  pub exchanged : IsExchanged (holder old.seat pin) (holder new.seat left) x
  pub fits : SizedReplyFits x
  pub wrote : AppendsFront old.written new.written (sized_reply x)
  pub tells : TellsMore old.told new.told (x ∷ [])

-- an exchange came of the seat
pub record CameOf (old : Holder) (new : Client) (held : Option ℤ) (x : Exchange) : Type 0 where
  pub left : Option Pin
  pub exchanged : IsExchanged old (holder new left) x
  pub is_held : IsPinPlace held (holder new left)

-- why it has no exchange
abbrev pub IsNotExchanged : List ℕ → Client → Client → ServeEnd → Type 0
IsNotExchanged message old new (ends.Ended number) = IsWithoutAnswer old new (submits.Ended number) (ends.Ended number) message
IsNotExchanged message old new (ends.Ahead floor tip) = IsWithoutAnswer old new (submits.Ahead floor tip) (ends.Ahead floor tip) message
IsNotExchanged message old new (ends.Exhausted tip) = IsRefusedWrite old new (submits.Exhausted tip) message
IsNotExchanged message old new ends.NoCopy = IsWithoutCopy old new message
IsNotExchanged message old new ends.NoMemory = (pin : Option Pin) → IsWithoutMemory (holder old pin) new message
IsNotExchanged message old new other = ⊥

-- nothing was written and nothing told
pub record IsSilent (old new : Connection) : Type 0 where
  pub wrote : Appends old.written new.written []
  pub tells : TellsMore old.told new.told []

-- why it isn't answered
abbrev pub IsNotAnswered : List ℕ → Connection → Connection → Option Pin → ServeEnd → Type 0
IsNotAnswered message old new pin ends.WriteFault = IsAnsweredInPart message old new pin
IsNotAnswered message old new pin ends.NoMemory = IsSilent old new × IsWithoutMemory (holder old.seat pin) new.seat message
IsNotAnswered message old new pin other = IsSilent old new × IsNotExchanged message old.seat new.seat other

-- it is answered, or not
abbrev pub AnswersMessage : List ℕ → Connection → Connection → Option ℤ → Option ℤ → Result (Unit {0}) ServeEnd → Type 0
AnswersMessage message before after held held' result =
    (pin : Option Pin) → IsPinPlace held (holder before.seat pin)
    → MatchResult result (λ _. IsAnsweredBy message before after pin held') (λ end. IsNotAnswered message before after pin end)

-- the same of a seat, a sink and a transcript, by what they tell, whatever is left to read
abbrev pub AnswersOne : {K T : Type 0} → (K → Option (List ℕ)) → (T → Option (List Exchange)) → List ℕ → K → K → T → T → Client → Client → Option ℤ → Option ℤ → Result (Unit {0}) ServeEnd → Type 0
AnswersOne written told message sink sink' transcript transcript' seat seat' held held' result =
    (left left' : Option (List ℕ)) → AnswersMessage message (connection left (written sink) (told transcript) seat) (connection left' (written sink') (told transcript') seat') held held' result

-- how a refused write ends the connection
abbrev pub refusal_end : SubmitFault → ServeEnd
refusal_end (submits.Ended number) = ends.Ended number
refusal_end (submits.Ahead floor tip) = ends.Ahead floor tip
refusal_end (submits.Exhausted tip) = ends.Exhausted tip
refusal_end submits.NoMemory = ends.NoMemory

-- how a refused read does
abbrev pub copy_end : CopyFault → ServeEnd
copy_end copies.NoCopy = ends.NoCopy
copy_end copies.NoMemory = ends.NoMemory
