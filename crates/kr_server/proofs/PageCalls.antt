-- What calls for pages leave: the seat's list goes on, and no write was pushed.
use Rattle.std.proofs.Common.{cond, ◌≡◌, ◌∙◌, ◌⊎◌, inl, inr, ℤ, List, [], ◌∷◌, ◌++◌, Result, Ok, Err, refl, sym, ap, subst, append-nil}
use Rattle.std.specs.Prelude.{false, Option, Some, None}
use Rattle.std.proofs.lemmas.List.Elements.{filter-append}
use Rattle.kr_calls.specs.declared.pins.Pin.{Pin}
use Rattle.kr_pages.specs.declared.describe.Describe.{Describe}
use Rattle.kr_pages.specs.declared.describe.Described.{Described}
use Rattle.kr_pages.specs.declared.describe.LineKey.{LineKey}
use Rattle.kr_queue.specs.declared.jobs.Job.{Job}
use Rattle.kr_shared.specs.declared.clients.SubmitFault.{SubmitFault}
use Rattle.kr_shared.specs.declared.clients.SubmitFault.TheVariants as submits
use Rattle.kr_shared.specs.Clients.{Client}
use Rattle.kr_shared.specs.Grants.{IsNotGranted}
use Rattle.kr_shared.proofs.Misses.{may_rise_behind}
use Rattle.kr_shared.proofs.Onwards.{onward_refl, onward_trans}
use Rattle.kr_server.specs.declared.end.ServeEnd.{ServeEnd}
use Rattle.kr_server.specs.declared.end.ServeEnd.TheVariants as ends
use Rattle.kr_server.specs.PagingCalls.{PushedJob, PushedJobAtFault, pin_job, unpin_job, HoldsFor, HoldsOn, IsPageEnd, IsPageExchange, IsPlaceRefused, KeepsFor, PinsOne, ReadsRecords, Unpins, no_pin, no_unpin}
use Rattle.kr_server.specs.SeatCalls.{AsksForPages, is_write, writes_among}

-- ---- one after the other

pub asks_nothing : (s : Client) → AsksForPages s s
asks_nothing s = record { onward = onward_refl s.seen; misses = inl refl; writes = refl }

pub asks_more : (a b c : Client) → AsksForPages a b → AsksForPages b c → AsksForPages a c
asks_more a b c first then = record {
  onward = onward_trans a.seen b.seen c.seen first.onward then.onward;
  misses = may_rise_behind a.misses b.misses c.misses first.misses then.misses;
  writes = then.writes ∙ first.writes;
}

pub asks_same : (a b : Client) → b ≡ a → AsksForPages a b
asks_same a b same = subst (AsksForPages a) (sym same) (asks_nothing a)

-- ---- one call

without_others : (xs : List Job) (job : Job) → is_write job ≡ false → writes_among (xs ++ job ∷ []) ≡ writes_among xs
without_others xs job other =
    filter-append is_write xs (job ∷ [])
    ∙ (ap (λ b. writes_among xs ++ cond b (job ∷ []) []) other ∙ append-nil (writes_among xs))

module _ (old new : Client) (job : Job) (other : is_write job ≡ false) where
  pushed_job : PushedJob old new job → writes_among new.pushed ≡ writes_among old.pushed
  pushed_job pushed = ap writes_among pushed ∙ without_others old.pushed job other

  or_pushed : (new.pushed ≡ old.pushed) ⊎ PushedJob old new job → writes_among new.pushed ≡ writes_among old.pushed
  or_pushed (inl same) = ap writes_among same
  or_pushed (inr pushed) = pushed_job pushed

  pushed_at_fault : (fault : SubmitFault) → PushedJobAtFault old new job fault → writes_among new.pushed ≡ writes_among old.pushed
  pushed_at_fault (submits.Ended number) p = or_pushed p
  pushed_at_fault (submits.Ahead floor tip) p = pushed_job p
  pushed_at_fault (submits.Exhausted tip) p = absurd p
  pushed_at_fault submits.NoMemory p = or_pushed p

unpin_writes : (old new : Client) (place : ℤ) (result : Result (Unit {0}) SubmitFault) → Unpins old new place result → writes_among new.pushed ≡ writes_among old.pushed
unpin_writes old new place (Ok done) u = pushed_job old new (unpin_job old new place) refl u.pushed
unpin_writes old new place (Err fault) u = pushed_at_fault old new (unpin_job old new place) refl fault u.pushed

pub asks_unpin : (old new : Client) (place : ℤ) (result : Result (Unit {0}) SubmitFault) → Unpins old new place result → AsksForPages old new
asks_unpin old new place result u = record { onward = u.onward; misses = u.misses; writes = unpin_writes old new place result u }

pub asks_pin : (old new : Client) (pin : Pin) → PinsOne old new pin → AsksForPages old new
asks_pin old new pin p = record { onward = p.onward; misses = p.misses; writes = pushed_job old new (pin_job old new) refl p.pushed }

pub asks_records : (old new : Client) → ReadsRecords old new → AsksForPages old new
asks_records old new r = record { onward = r.onward; misses = r.misses; writes = ap (λ (c : Client). writes_among c.pushed) r.same }

pin_refused : (old new : Client) (fault : SubmitFault) → IsNotGranted old new fault → PushedJobAtFault old new (pin_job old new) fault
pin_refused old new (submits.Ended number) c = c.pushed
pin_refused old new (submits.Ahead floor tip) c = c.pushed
pin_refused old new (submits.Exhausted tip) c = c.pushed
pin_refused old new submits.NoMemory c = c.pushed

pub asks_refused : (old new : Client) (fault : SubmitFault) → IsPlaceRefused old new fault → AsksForPages old new
asks_refused old new fault (no_pin cause onward misses) = record { onward = onward; misses = misses; writes = pushed_at_fault old new (pin_job old new) refl fault (pin_refused old new fault cause) }
asks_refused old new fault (no_unpin place u) = asks_unpin old new place (Err fault) u

-- ---- for one page

pub asks_to_hold : (cursor : Option LineKey) (held : Option Pin) (old new : Client) (pin : Pin) → HoldsFor cursor held old new pin → AsksForPages old new
asks_to_hold (Some cursor) (Some held) old new pin h = asks_same old new h.0
asks_to_hold (Some cursor) None old new pin h = asks_pin old new pin h
asks_to_hold None (Some held) old new pin h = asks_more old h.0 new (asks_unpin old h.0 held.place (Ok tt) h.1) (asks_pin h.0 new pin h.2)
asks_to_hold None None old new pin h = asks_pin old new pin h

pub asks_on : (old : Client) (held : Pin) (others : List Pin) (new : Client) (pin : Pin) → HoldsOn old held others new pin → AsksForPages old new
asks_on old held [] new pin h = asks_same old new h.0
asks_on old held (next ∷ more) new pin h =
    asks_more old h.2 new
    (asks_more old h.1 h.2 (asks_more old h.0 h.1 (asks_records old h.0 h.3) (asks_unpin h.0 h.1 held.place (Ok tt) h.5)) (asks_pin h.1 h.2 next h.6))
    (asks_on h.2 next more new pin h.7)

pub asks_to_keep : (next : Option LineKey) (old : Client) (held : Pin) (new : Client) (left : Option Pin) → KeepsFor next old held new left → AsksForPages old new
asks_to_keep (Some next) old held new left k = asks_same old new k.0
asks_to_keep None old held new left k = asks_unpin old new held.place (Ok tt) k.0

module _ (old new : Client) (held left : Option Pin) where
  pub asks_for_page : (place : ℤ) (d : Describe) (described : Described) → IsPageExchange old held new left place d described → AsksForPages old new
  asks_for_page place d described p =
      asks_more old p.ready new
      (asks_more old p.first p.ready (asks_to_hold d.cursor held old p.first p.own p.begins) (asks_on p.first p.own p.others p.ready p.pin p.holds))
      (asks_more p.ready p.got new (asks_records p.ready p.got p.reads) (asks_to_keep described.next p.got p.pin new left p.ends))

-- ---- for a page that isn't there

pub asks_page_end : (old new : Client) (end : ServeEnd) → IsPageEnd old new end → AsksForPages old new
asks_page_end old new ends.Closed e = absurd e
asks_page_end old new (ends.Malformed place) e = absurd e
asks_page_end old new ends.ReadFault e = absurd e
asks_page_end old new ends.WriteFault e = absurd e
asks_page_end old new ends.TooLong e = absurd e
asks_page_end old new (ends.Ended number) e = asks_refused old new (submits.Ended number) e
asks_page_end old new (ends.Ahead floor tip) e = asks_refused old new (submits.Ahead floor tip) e
asks_page_end old new (ends.Exhausted tip) e = absurd e
asks_page_end old new ends.NoCopy e = asks_records old new e.0
asks_page_end old new ends.NoMemory e = elim e [
  | inl read ↦ asks_records old new read
  | inr refused ↦ asks_refused old new submits.NoMemory refused
]
