-- What a client's seat tells of the calls of a connection. This project's own.
use Rattle.std.specs.Prelude.{◌≡◌, ℕ, ℤ, Bool, true, false, not, IsTrue, List, [], ◌∷◌, ◌++◌, filter, Option, Some, Result, Ok, Err, MatchResult, IfOk}
use Rattle.std.specs.List.{flat_map}
use Rattle.kr_base.specs.Causes.{raised}
use Rattle.kr_calls.specs.declared.answers.Answered.{Answered}
use Rattle.kr_calls.specs.declared.calls.Ask.TheVariants as asks
use Rattle.kr_calls.specs.declared.calls.Call.{Call}
use Rattle.kr_calls.specs.declared.calls.Reply.{Reply}
use Rattle.kr_calls.specs.declared.pins.Pin.{Pin}
use Rattle.kr_calls.specs.Decide.{is_read, query}
use Rattle.kr_calls.specs.SeatList.{end_of, image_of}
use Rattle.kr_pages.specs.declared.describe.Describe.{Describe}
use Rattle.kr_pages.specs.declared.describe.DescribeAsk.TheVariants as describes
use Rattle.kr_pages.specs.Messages.{IsDescribeAsk}
use Rattle.kr_queue.specs.declared.jobs.Job.{Job}
use Rattle.kr_queue.specs.declared.jobs.Job.TheVariants as jobs
use Rattle.kr_req.specs.Messages.{IsAsk}
use Rattle.kr_view.specs.declared.seat.CopyFault.{CopyFault}
use Rattle.kr_view.specs.declared.seat.CopyFault.TheVariants as copies
use Rattle.kr_view.specs.Seats.{Onward}
use Rattle.kr_shared.specs.declared.clients.SubmitFault.{SubmitFault}
use Rattle.kr_shared.specs.declared.clients.SubmitFault.TheVariants as submits
use Rattle.kr_shared.specs.Clients.{Client, HasReadCause, MayRise, job_of_call}
use Rattle.kr_shared.specs.Submit.{IsAnswered, IsSubmitCause, Pushed, PushedAtFault}
use Rattle.kr_server.specs.declared.end.ServeEnd.{ServeEnd}
use Rattle.kr_server.specs.declared.end.ServeEnd.TheVariants as ends
use Rattle.kr_server.specs.declared.exchange.Exchange.{Exchange}
use Rattle.kr_server.specs.declared.exchange.Exchange.TheVariants as exchanges
use Rattle.kr_server.specs.Exchanges.{IsAskedFor}
use Rattle.kr_server.specs.PagingCalls.{IsPageEnd, IsPageExchange}

-- what `submit` tells of a call and its result
pub record Submits (old new : Client) (call : Call) (result : Result Answered SubmitFault) : Type 0 where
  pub write : IsTrue (not (is_read call.request))
  pub onward : Onward old.seen new.seen
  pub answer : MatchResult result (IsAnswered new.seen old.number new.ticket (end_of old.seen.list) call) (IsSubmitCause new.seen old.number new.ticket (end_of old.seen.list))
  pub pushed : MatchResult result (λ a. Pushed old new call) (PushedAtFault old new call)
  pub number : new.number ≡ old.number
  pub ticket : new.ticket ≡ raised old.ticket
  pub misses : MayRise old.misses new.misses
  -- the seat holds the places that it held
  pub held : new.held ≡ old.held

-- what `read` tells of a call and its result
pub record Queries (old new : Client) (call : Call) (result : Result Reply CopyFault) : Type 0 where
  pub read : IsTrue (is_read call.request)
  pub onward : Onward old.seen new.seen
  pub reply : IfOk result (λ reply. query new.seen.options (image_of new.seen.list) call.request ≡ Some reply)
  pub cause : HasReadCause old new result
  pub same : new ≡ record old { seen = new.seen; misses = new.misses }

-- ---- exchanges

-- a client's seat, and the pin that its connection holds for the pages of a walk
pub record Holder : Type 0 where
  pub seat : Client
  pub pin : Option Pin

abbrev pub holder : Client → Option Pin → Holder
holder seat pin = record { seat = seat; pin = pin }

-- a write was submitted and a read was read, once; a page was made; what is neither doesn't come to the seat
abbrev pub IsExchanged : Holder → Holder → Exchange → Type 0
IsExchanged old new (exchanges.Write a) = Submits old.seat new.seat a.call (Ok a) × (new.pin ≡ old.pin)
IsExchanged old new (exchanges.Read call reply) = Queries old.seat new.seat call (Ok reply) × (new.pin ≡ old.pin)
IsExchanged old new (exchanges.Page correlation place describe described) = IsPageExchange old.seat old.pin new.seat new.pin place describe described
IsExchanged old new (exchanges.Bare correlation error) = new ≡ old

-- one after the other, each where the one before it left the seat
abbrev pub AreExchanged : Holder → List Exchange → Holder → Type 0
AreExchanged old [] new = new ≡ old
AreExchanged old (x ∷ xs) new = (next : Holder) × IsExchanged old next x × AreExchanged next xs new

-- ---- what was pushed

abbrev pub is_write : Job → Bool
is_write (jobs.Link event) = false
is_write (jobs.Stop number) = false
is_write (jobs.Write seat ticket floor call) = true
is_write (jobs.Pin seat ticket floor) = false
is_write (jobs.Unpin seat ticket floor place) = false

abbrev pub writes_among : List Job → List Job
writes_among pushed = filter is_write pushed

-- what any calls for pages leave: the list goes on, the count of misses may have risen, and no write was pushed
pub record AsksForPages (old new : Client) : Type 0 where
  pub onward : Onward old.seen new.seen
  pub misses : MayRise old.misses new.misses
  pub writes : writes_among new.pushed ≡ writes_among old.pushed

-- the write of an exchange, with the seat, the ticket, the floor and the call of its answer
abbrev pub pushed_write : Exchange → List Job
pushed_write (exchanges.Write a) = jobs.Write a.seat a.ticket a.floor a.call ∷ []
pushed_write (exchanges.Read call reply) = []
pushed_write (exchanges.Page correlation place describe described) = []
pushed_write (exchanges.Bare correlation error) = []

-- the writes of the exchanges, in order
abbrev pub pushed_writes : List Exchange → List Job
pushed_writes xs = flat_map pushed_write xs

-- pins aside, the seat pushed these writes, and perhaps one more, when it was in this state
pub data PushesWrites (old mid new : Client) (writes : List Job) : Type 0 where
  those : writes_among new.pushed ≡ writes_among old.pushed ++ writes → PushesWrites old mid new writes
  one_more : (ticket : ℕ) (call : Call) → writes_among new.pushed ≡ (writes_among old.pushed ++ writes) ++ job_of_call mid ticket call ∷ [] → PushesWrites old mid new writes

-- ---- messages without an exchange

-- the write that the message asks has no answer, for this reason
pub record IsRefusedWrite (old new : Client) (fault : SubmitFault) (message : List ℕ) : Type 0 where
  pub call : Call
  pub asked : IsAsk (asks.Call call) message
  pub told : Submits old new call (Err fault)

-- the read that the message asks has no answer, for this reason
pub record IsRefusedRead (old new : Client) (fault : CopyFault) (message : List ℕ) : Type 0 where
  pub call : Call
  pub asked : IsAsk (asks.Call call) message
  pub told : Queries old new call (Err fault)

-- the page that the message asks for isn't there, for this reason; other calls for it may have come before
pub record IsRefusedPage (old new : Client) (end : ServeEnd) (message : List ℕ) : Type 0 where
  pub correlation : ℤ
  pub describe : Describe
  pub asked : IsDescribeAsk (describes.Ask correlation describe) message
  pub mid : Client
  pub before : AsksForPages old mid
  pub cause : IsPageEnd mid new end

-- There was no memory for what the message asks, for the answer to it, or for the exchange that came of it.
pub data IsWithoutMemory (old : Holder) (new : Client) (message : List ℕ) : Type 0 where
  for_ask : new ≡ old.seat → IsWithoutMemory old new message
  for_write : IsRefusedWrite old.seat new submits.NoMemory message → IsWithoutMemory old new message
  for_read : IsRefusedRead old.seat new copies.NoMemory message → IsWithoutMemory old new message
  for_page : IsRefusedPage old.seat new ends.NoMemory message → IsWithoutMemory old new message
  for_exchange : (x : Exchange) (left : Option Pin) → IsAskedFor x message → IsExchanged old (holder new left) x → IsWithoutMemory old new message
