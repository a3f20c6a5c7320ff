-- What a seat did over exchanges: the writes that it pushed, that its list goes on, and its count of misses.
use Rattle.std.proofs.Common.{◌≡◌, ◌∙◌, ℕ, ℤ, List, [], ◌∷◌, ◌++◌, Ok, ◌⊎◌, inl, inr, refl, sym, ap, subst, append_assoc, append-nil}
use Rattle.std.specs.Prelude.{Option}
use Rattle.std.proofs.lemmas.List.Elements.{filter-append}
use Rattle.kr_calls.specs.declared.answers.Answered.{Answered}
use Rattle.kr_calls.specs.declared.calls.Call.{Call}
use Rattle.kr_calls.specs.declared.pins.Pin.{Pin}
use Rattle.kr_calls.specs.SeatList.{end_of}
use Rattle.kr_queue.specs.declared.jobs.Job.{Job}
use Rattle.kr_queue.specs.declared.jobs.Job.TheVariants as jobs
use Rattle.kr_view.specs.declared.seat.CopyFault.{CopyFault}
use Rattle.kr_view.specs.declared.seat.CopyFault.TheVariants as copies
use Rattle.kr_view.specs.Seats.{Onward}
use Rattle.kr_shared.specs.declared.clients.SubmitFault.{SubmitFault}
use Rattle.kr_shared.specs.declared.clients.SubmitFault.TheVariants as submits
use Rattle.kr_shared.specs.Clients.{Client, MayRise, job_of_call}
use Rattle.kr_shared.specs.Submit.{PushedAtFault}
use Rattle.kr_shared.proofs.Misses.{may_rise_behind}
use Rattle.kr_shared.proofs.Onwards.{onward_refl, onward_trans}
use Rattle.kr_server.specs.declared.end.ServeEnd.{ServeEnd}
use Rattle.kr_server.specs.declared.end.ServeEnd.TheVariants as ends
use Rattle.kr_server.specs.declared.exchange.Exchange.{Exchange}
use Rattle.kr_server.specs.declared.exchange.Exchange.TheVariants as exchanges
use Rattle.kr_server.specs.SeatCalls.{AreExchanged, AsksForPages, Holder, IsExchanged, IsRefusedPage, IsRefusedRead, IsRefusedWrite, IsWithoutMemory, for_ask, for_exchange, for_page, for_read, for_write, PushesWrites, Submits, holder, is_write, one_more, pushed_write, pushed_writes, those, writes_among}
use Rattle.kr_server.proofs.PageCalls.{asks_for_page, asks_more, asks_nothing, asks_page_end}

-- ---- one exchange

-- the write that was pushed is that of the answer
write_is : (old new : Client) (a : Answered) → Submits old new a.call (Ok a) → job_of_call old new.ticket a.call ≡ jobs.Write a.seat a.ticket a.floor a.call
write_is old new a s =
    let is = s.answer in
    ap (λ (n : ℕ). jobs.Write n new.ticket (end_of old.seen.list) a.call) (sym is.of_seat)
    ∙ (ap (λ (n : ℕ). jobs.Write a.seat n (end_of old.seen.list) a.call) (sym is.of_ticket)
    ∙ ap (λ (z : ℤ). jobs.Write a.seat a.ticket z a.call) (sym is.of_floor))

-- a write more
with_write : (xs : List Job) (old : Client) (ticket : ℕ) (call : Call) → writes_among (xs ++ job_of_call old ticket call ∷ []) ≡ writes_among xs ++ job_of_call old ticket call ∷ []
with_write xs old ticket call = filter-append is_write xs (job_of_call old ticket call ∷ [])

same_seat : (old new : Holder) → new ≡ old → AsksForPages old.seat new.seat
same_seat old new same = subst (λ (h : Holder). AsksForPages old.seat h.seat) (sym same) (asks_nothing old.seat)

-- the writes that the exchange pushed
pub pushed_by : (old new : Holder) (x : Exchange) → IsExchanged old new x → writes_among new.seat.pushed ≡ writes_among old.seat.pushed ++ pushed_write x
pushed_by old new (exchanges.Write a) s =
    ap writes_among s.0.pushed ∙ with_write old.seat.pushed old.seat new.seat.ticket a.call
    ∙ ap (λ (j : Job). writes_among old.seat.pushed ++ j ∷ []) (write_is old.seat new.seat a s.0)
pushed_by old new (exchanges.Read call reply) q = ap (λ (c : Client). writes_among c.pushed) q.0.same ∙ sym (append-nil (writes_among old.seat.pushed))
pushed_by old new (exchanges.Page correlation place describe described) p =
    (asks_for_page old.seat new.seat old.pin new.pin place describe described p).writes ∙ sym (append-nil (writes_among old.seat.pushed))
pushed_by old new (exchanges.Bare correlation error) same = (same_seat old new same).writes ∙ sym (append-nil (writes_among old.seat.pushed))

pub onward_by : (old new : Holder) (x : Exchange) → IsExchanged old new x → Onward old.seat.seen new.seat.seen
onward_by old new (exchanges.Write a) s = s.0.onward
onward_by old new (exchanges.Read call reply) q = q.0.onward
onward_by old new (exchanges.Page correlation place describe described) p = (asks_for_page old.seat new.seat old.pin new.pin place describe described p).onward
onward_by old new (exchanges.Bare correlation error) same = (same_seat old new same).onward

misses_by : (old new : Holder) (x : Exchange) → IsExchanged old new x → MayRise old.seat.misses new.seat.misses
misses_by old new (exchanges.Write a) s = s.0.misses
misses_by old new (exchanges.Read call reply) q = inl q.0.cause
misses_by old new (exchanges.Page correlation place describe described) p = (asks_for_page old.seat new.seat old.pin new.pin place describe described p).misses
misses_by old new (exchanges.Bare correlation error) same = (same_seat old new same).misses

-- ---- one after the other

pub exchanged_none : (h : Holder) → AreExchanged h [] h
exchanged_none h = refl

pub exchanged_more : (old mid new : Holder) (xs : List Exchange) (x : Exchange) → AreExchanged old xs mid → IsExchanged mid new x → AreExchanged old (xs ++ x ∷ []) new
exchanged_more old mid new [] x none one = (new, subst (λ (h : Holder). IsExchanged h new x) none one, refl)
exchanged_more old mid new (y ∷ xs) x all one = (all.0, all.1, exchanged_more all.0 mid new xs x all.2 one)

pub pushed_all : (old mid : Holder) (xs : List Exchange) → AreExchanged old xs mid → writes_among mid.seat.pushed ≡ writes_among old.seat.pushed ++ pushed_writes xs
pushed_all old mid [] none = (same_seat old mid none).writes ∙ sym (append-nil (writes_among old.seat.pushed))
pushed_all old mid (x ∷ xs) all =
    pushed_all all.0 mid xs all.2 ∙ (ap (λ (l : List Job). l ++ pushed_writes xs) (pushed_by old all.0 x all.1) ∙ append_assoc (writes_among old.seat.pushed) (pushed_write x) (pushed_writes xs))

pub onward_all : (old mid : Holder) (xs : List Exchange) → AreExchanged old xs mid → Onward old.seat.seen mid.seat.seen
onward_all old mid [] none = (same_seat old mid none).onward
onward_all old mid (x ∷ xs) all = onward_trans old.seat.seen all.0.seat.seen mid.seat.seen (onward_by old all.0 x all.1) (onward_all all.0 mid xs all.2)

pub misses_all : (old mid : Holder) (xs : List Exchange) → AreExchanged old xs mid → MayRise old.seat.misses mid.seat.misses
misses_all old mid [] none = (same_seat old mid none).misses
misses_all old mid (x ∷ xs) all = may_rise_behind old.seat.misses all.0.seat.misses mid.seat.misses (misses_by old all.0 x all.1) (misses_all all.0 mid xs all.2)

-- ---- what comes behind them

-- a write without an answer
pushed_at_fault : (mid new : Client) (call : Call) (fault : SubmitFault) → PushedAtFault mid new call fault → (new.pushed ≡ mid.pushed) ⊎ (new.pushed ≡ mid.pushed ++ job_of_call mid new.ticket call ∷ [])
pushed_at_fault mid new call (submits.Ended number) p = p
pushed_at_fault mid new call (submits.Ahead floor tip) p = inr p
pushed_at_fault mid new call (submits.Exhausted tip) p = inr p
pushed_at_fault mid new call submits.NoMemory p = p

-- calls for a page that isn't there
pub asks_without_page : (old new : Client) (end : ServeEnd) (message : List ℕ) → IsRefusedPage old new end message → AsksForPages old new
asks_without_page old new end message r = asks_more old r.mid new r.before (asks_page_end r.mid new end r.cause)

module _ (old mid : Holder) (new : Client) (xs : List Exchange) (all : AreExchanged old xs mid) where
  -- no write was pushed behind them
  pub pushes_no_more : AsksForPages mid.seat new → PushesWrites old.seat mid.seat new (pushed_writes xs)
  pushes_no_more asks = those (asks.writes ∙ pushed_all old mid xs all)

  pub pushes_those : new ≡ mid.seat → PushesWrites old.seat mid.seat new (pushed_writes xs)
  pushes_those same = those (ap (λ (c : Client). writes_among c.pushed) same ∙ pushed_all old mid xs all)

  pushes_one : (ticket : ℕ) (call : Call) → new.pushed ≡ mid.seat.pushed ++ job_of_call mid.seat ticket call ∷ [] → PushesWrites old.seat mid.seat new (pushed_writes xs)
  pushes_one ticket call one =
      one_more ticket call (ap writes_among one ∙ with_write mid.seat.pushed mid.seat ticket call ∙ ap (λ (l : List Job). l ++ job_of_call mid.seat ticket call ∷ []) (pushed_all old mid xs all))

  pub pushes_refused : (fault : SubmitFault) (message : List ℕ) → IsRefusedWrite mid.seat new fault message → PushesWrites old.seat mid.seat new (pushed_writes xs)
  pushes_refused fault message r = elim (pushed_at_fault mid.seat new r.call fault r.told.pushed) [
    | inl none ↦ those (ap writes_among none ∙ pushed_all old mid xs all)
    | inr one ↦ pushes_one new.ticket r.call one
  ]

  pub pushes_unread : (fault : CopyFault) (message : List ℕ) → IsRefusedRead mid.seat new fault message → PushesWrites old.seat mid.seat new (pushed_writes xs)
  pushes_unread fault message r = those (ap (λ (c : Client). writes_among c.pushed) r.told.same ∙ pushed_all old mid xs all)

  pushes_exchange : (x : Exchange) (left : Option Pin) → IsExchanged mid (holder new left) x → PushesWrites old.seat mid.seat new (pushed_writes xs)
  pushes_exchange (exchanges.Write a) left s = pushes_one new.ticket a.call s.0.pushed
  pushes_exchange (exchanges.Read call reply) left q = those (ap (λ (c : Client). writes_among c.pushed) q.0.same ∙ pushed_all old mid xs all)
  pushes_exchange (exchanges.Page correlation place describe described) left p = pushes_no_more (asks_for_page mid.seat new mid.pin left place describe described p)
  pushes_exchange (exchanges.Bare correlation error) left same = pushes_no_more (same_seat mid (holder new left) same)

  pub pushes_without_memory : (message : List ℕ) → IsWithoutMemory mid new message → PushesWrites old.seat mid.seat new (pushed_writes xs)
  pushes_without_memory message (for_ask same) = pushes_those same
  pushes_without_memory message (for_write r) = pushes_refused submits.NoMemory message r
  pushes_without_memory message (for_read r) = pushes_unread copies.NoMemory message r
  pushes_without_memory message (for_page r) = pushes_no_more (asks_without_page mid.seat new ends.NoMemory message r)
  pushes_without_memory message (for_exchange x left asked is) = pushes_exchange x left is

-- the list goes on, whatever memory was for
pub onward_without_memory : (mid : Holder) (new : Client) (message : List ℕ) → IsWithoutMemory mid new message → Onward mid.seat.seen new.seen
onward_without_memory mid new message (for_ask same) = subst (λ (c : Client). Onward mid.seat.seen c.seen) (sym same) (onward_refl mid.seat.seen)
onward_without_memory mid new message (for_write r) = r.told.onward
onward_without_memory mid new message (for_read r) = r.told.onward
onward_without_memory mid new message (for_page r) = (asks_without_page mid.seat new ends.NoMemory message r).onward
onward_without_memory mid new message (for_exchange x left asked is) = onward_by mid (holder new left) x is

-- the count of misses stays or rises
pub misses_without_memory : (mid : Holder) (new : Client) (message : List ℕ) → IsWithoutMemory mid new message → MayRise mid.seat.misses new.misses
misses_without_memory mid new message (for_ask same) = inl (ap (λ (c : Client). c.misses) same)
misses_without_memory mid new message (for_write r) = r.told.misses
misses_without_memory mid new message (for_read r) = inl r.told.cause
misses_without_memory mid new message (for_page r) = (asks_without_page mid.seat new ends.NoMemory message r).misses
misses_without_memory mid new message (for_exchange x left asked is) = misses_by mid (holder new left) x is
