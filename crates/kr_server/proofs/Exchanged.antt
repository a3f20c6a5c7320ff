-- One message: what came of the seat for it, and how it is answered.
use Rattle.std.proofs.Common.{◌≡◌, ℕ, ℤ, List, [], ◌∷◌, Result, Ok, Err, ap, subst, inr}
use Rattle.std.specs.Prelude.{true, false, IfOk, IfSome, IsErrOf, OnErr, OnOk, Option, Some, None}
use Rattle.std.specs.Result.{is_err}
use Rattle.std.specs.Io.KnownBytes.{Appends}
use Rattle.std.proofs.KnownBytes.{Appends-nil}
use Rattle.kr_base.specs.FailedPuts.{AppendsFront}
use Rattle.kr_calls.specs.declared.pins.Pin.{Pin}
use Rattle.kr_pages.specs.declared.describe.Describe.{Describe}
use Rattle.kr_pages.specs.declared.describe.Described.{Described}
use Rattle.kr_pages.specs.declared.describe.DescribeAsk.TheVariants as describes
use Rattle.kr_calls.specs.declared.calls.Ask.TheVariants as asks
use Rattle.kr_calls.specs.declared.calls.AskFault.{AskFault}
use Rattle.kr_pages.specs.Messages.{IsDescribeAsk, IsDescribeKey}
use Rattle.kr_req.specs.Messages.{IsAsk}
use Rattle.kr_model.specs.Outputs.{error_of}
use Rattle.kr_view.specs.Seats.{Onward}
use Rattle.kr_shared.specs.Clients.{Client}
use Rattle.kr_shared.specs.Grants.{IsKeptFrom}
use Rattle.kr_server.specs.declared.end.ServeEnd.{ServeEnd}
use Rattle.kr_server.specs.declared.end.ServeEnd.TheVariants as ends
use Rattle.kr_server.specs.declared.exchange.Exchange.{Exchange}
use Rattle.kr_server.specs.declared.exchange.Exchange.TheVariants as exchanges
use Rattle.kr_server.specs.Exchanges.{IsAskedFor, IsBareAsk, no_call, SizedReplyFits, sized_reply}
use Rattle.kr_server.specs.SeatCalls.{Holder, IsExchanged, IsRefusedPage, for_exchange, for_page, holder}
use Rattle.kr_server.specs.Served.{Connection, connection}
use Rattle.kr_server.specs.Told.{TellsMore}
use Rattle.kr_server.specs.inner.Paging.{IsNoPage, IsPageMade, IsPinPlace}
use Rattle.kr_server.specs.inner.Serving.{CameOf, IsAnsweredBy, IsAnsweredInPart, IsNotAnswered, IsNotExchanged, IsSilent}
use Rattle.kr_server.proofs.LostPins.{kept_on}

-- ---- the place of a walk over other exchanges

some_kept_on : (old new : Client) (pin : Option Pin) → Onward old.seen new.seen → IfSome pin (λ p. IsKeptFrom old.seen.list p) → IfSome pin (λ p. IsKeptFrom new.seen.list p)
some_kept_on old new None on kept = kept
some_kept_on old new (Some pin) on kept = kept_on pin old.seen.list new.seen.list kept on.list

held_on : (held : Option ℤ) (old new : Client) (pin : Option Pin) → Onward old.seen new.seen → IsPinPlace held (holder old pin) → IsPinPlace held (holder new pin)
held_on held old new pin on h = record { is = h.is; kept = some_kept_on old new pin on h.kept }

pub came_same : (held : Option ℤ) (old new : Client) (pin : Option Pin) (x : Exchange) → Onward old.seen new.seen → IsPinPlace held (holder old pin) → IsExchanged (holder old pin) (holder new pin) x → CameOf (holder old pin) new held x
came_same held old new pin x on h is = record { left = pin; exchanged = is; is_held = held_on held old new pin on h }

pub all_came_same : (held : Option ℤ) (old new : Client) (result : Result Exchange ServeEnd) → Onward old.seen new.seen → IfOk result (λ x. (pin : Option Pin) → IsExchanged (holder old pin) (holder new pin) x)
    → IfOk result (λ x. (pin : Option Pin) → IsPinPlace held (holder old pin) → CameOf (holder old pin) new held x)
all_came_same held old new (Ok x) on all = λ pin is. came_same held old new pin x on is (all pin)
all_came_same held old new (Err end) on all = tt

pub page_came : (held : Option ℤ) (old : Holder) (new : Client) (correlation place : ℤ) (describe : Describe) (described : Described) → IsPageMade old new held place describe described
    → CameOf old new held (exchanges.Page correlation place describe described)
page_came held old new correlation place describe described made = record { left = made.pin; exchanged = made.paged; is_held = made.is_held }

-- ---- a message that is no call

pub no_call_asked : (correlation error : ℤ) (message : List ℕ) (fault : AskFault) → (IsDescribeKey message → ⊥) → error ≡ error_of fault → IsAsk (asks.Bare correlation fault) message → IsBareAsk correlation error message
no_call_asked correlation error message fault other is asked = no_call other fault is asked

-- ---- a page that isn't there

refused_page : (old new : Client) (end : ServeEnd) (message : List ℕ) (correlation : ℤ) (describe : Describe) → IsDescribeAsk (describes.Ask correlation describe) message → IsNoPage old new end → IsRefusedPage old new end message
refused_page old new end message correlation describe asked e = record { correlation = correlation; describe = describe; asked = asked; mid = e.mid; before = e.before; cause = e.cause }

module _ (old new : Client) (message : List ℕ) (correlation : ℤ) (describe : Describe) (asked : IsDescribeAsk (describes.Ask correlation describe) message) where
  pub no_page_exchanged : (end : ServeEnd) → IsNoPage old new end → IsNotExchanged message old new end
  no_page_exchanged ends.Closed e = absurd e.cause
  no_page_exchanged (ends.Malformed place) e = absurd e.cause
  no_page_exchanged ends.ReadFault e = absurd e.cause
  no_page_exchanged ends.WriteFault e = absurd e.cause
  no_page_exchanged ends.TooLong e = absurd e.cause
  no_page_exchanged (ends.Ended number) e = inr (refused_page old new (ends.Ended number) message correlation describe asked e)
  no_page_exchanged (ends.Ahead floor tip) e = inr (refused_page old new (ends.Ahead floor tip) message correlation describe asked e)
  no_page_exchanged (ends.Exhausted tip) e = absurd e.cause
  no_page_exchanged ends.NoCopy e = inr (refused_page old new ends.NoCopy message correlation describe asked e)
  no_page_exchanged ends.NoMemory e = λ pin. for_page (refused_page old new ends.NoMemory message correlation describe asked e)

-- ---- a read fault comes of the source alone

abbrev pub err_of : {T : Type 0} → ServeEnd → Result T ServeEnd → ServeEnd
err_of other (Ok t) = other
err_of other (Err end) = end

pub never_reads : {T : Type 0} (message : List ℕ) (old new : Client) (end : ServeEnd) → IsNotExchanged message old new end → IsErrOf {T = T} (Err end) ends.ReadFault → ⊥
never_reads message old new end n is =
    let same : end ≡ ends.ReadFault = ap (err_of end) is in
    subst (IsNotExchanged message old new) same n

-- ---- the answer

pub where_err : {T E P : Type 0} (r : Result T E) → OnErr r P → is_err r ≡ true → P
where_err (Ok t) h is = absurd cc
where_err (Err e) h is = h

pub where_ok : {T E P : Type 0} (r : Result T E) → OnOk r P → is_err r ≡ false → P
where_ok (Ok t) h is = h
where_ok (Err e) h is = absurd cc

module _ (message : List ℕ) (old new : Connection) (pin : Option Pin) (held : Option ℤ) where
  pub not_answered : (end : ServeEnd) → IsSilent old new → IsNotExchanged message old.seat new.seat end → IsNotAnswered message old new pin end
  not_answered ends.Closed silent n = (silent, n)
  not_answered (ends.Malformed place) silent n = (silent, n)
  not_answered ends.ReadFault silent n = (silent, n)
  not_answered ends.WriteFault silent n = absurd n
  not_answered ends.TooLong silent n = (silent, n)
  not_answered (ends.Ended number) silent n = (silent, n)
  not_answered (ends.Ahead floor tip) silent n = (silent, n)
  not_answered (ends.Exhausted tip) silent n = (silent, n)
  not_answered ends.NoCopy silent n = (silent, n)
  not_answered ends.NoMemory silent n = (silent, n pin)

  module _ (x : Exchange) (asked : IsAskedFor x message) (came : CameOf (holder old.seat pin) new.seat held x) where
    pub no_memory_for_it : IsSilent old new → IsNotAnswered message old new pin ends.NoMemory
    no_memory_for_it silent = (silent, for_exchange x came.left asked came.exchanged)

    pub answered : SizedReplyFits x → Appends old.written new.written (sized_reply x) → TellsMore old.told new.told (x ∷ []) → IsAnsweredBy message old new pin held
    answered fits wrote tells = record { x = x; left = came.left; asked = asked; exchanged = came.exchanged; is_held = came.is_held; fits = fits; wrote = wrote; tells = tells }

    pub answered_in_part : SizedReplyFits x → AppendsFront old.written new.written (sized_reply x) → TellsMore old.told new.told (x ∷ []) → IsAnsweredInPart message old new pin
    answered_in_part fits wrote tells = record { x = x; left = came.left; asked = asked; exchanged = came.exchanged; fits = fits; wrote = wrote; tells = tells }

pub silent : (written : Option (List ℕ)) (told told' : Option (List Exchange)) (old new : Client) (left left' : Option (List ℕ)) → TellsMore told told' [] → IsSilent (connection left written told old) (connection left' written told' new)
silent written told told' old new left left' tells = record { wrote = Appends-nil written; tells = tells }
