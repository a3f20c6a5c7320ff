-- What the seat did when a connection has ended.
use Rattle.std.proofs.Common.{◌≡◌, ℕ, ℤ, List, Option, Result, Ok, Err, sym, ap, subst, inl, inr}
use Rattle.std.specs.Prelude.{None, Some}
use Rattle.kr_base.specs.Causes.{Rose}
use Rattle.kr_view.specs.Seats.{Onward}
use Rattle.kr_shared.specs.declared.clients.SubmitFault.{SubmitFault}
use Rattle.kr_shared.specs.Clients.{Client, MayRise}
use Rattle.kr_shared.proofs.Misses.{may_rise_behind, rose_behind}
use Rattle.kr_shared.proofs.Onwards.{onward_refl, onward_trans}
use Rattle.kr_server.specs.declared.end.ServeEnd.{ServeEnd}
use Rattle.kr_server.specs.declared.end.ServeEnd.TheVariants as ends
use Rattle.kr_server.specs.SeatCalls.{AsksForPages, Holder, holder}
use Rattle.kr_server.specs.Served.{Connection, EndsBehind, GivesBackLast, HoldsNoneBut, IsWithoutAnswer, IsWithoutCopy, Served, none, one}
use Rattle.kr_server.specs.inner.Paging.{GaveBack, HoldsAlone}
use Rattle.kr_server.proofs.PageCalls.{asks_same, asks_unpin}
use Rattle.kr_server.proofs.Writes.{asks_without_page, misses_all, misses_without_memory, onward_all, onward_without_memory}

still : (mid new : Client) → new ≡ mid → Onward mid.seen new.seen
still mid new same = subst (λ (c : Client). Onward mid.seen c.seen) (sym same) (onward_refl mid.seen)

onward_answer : (mid new : Client) (fault : SubmitFault) (end : ServeEnd) (message : List ℕ) → IsWithoutAnswer mid new fault end message → Onward mid.seen new.seen
onward_answer mid new fault end message (inl write) = write.told.onward
onward_answer mid new fault end message (inr page) = (asks_without_page mid new end message page).onward

onward_copy : (mid new : Client) (message : List ℕ) → IsWithoutCopy mid new message → Onward mid.seen new.seen
onward_copy mid new message (inl read) = read.told.onward
onward_copy mid new message (inr page) = (asks_without_page mid new ends.NoCopy message page).onward

rose_copy : (mid new : Client) (message : List ℕ) → IsWithoutCopy mid new message → Rose mid.misses new.misses
rose_copy mid new message (inl read) = read.told.cause.1
rose_copy mid new message (inr page) = rose_behind mid.misses page.mid.misses new.misses page.before.misses page.cause.1

same_misses : (mid new : Client) → new ≡ mid → MayRise mid.misses new.misses
same_misses mid new same = inl (ap (λ (c : Client). c.misses) same)

misses_answer : (mid new : Client) (fault : SubmitFault) (end : ServeEnd) (message : List ℕ) → IsWithoutAnswer mid new fault end message → MayRise mid.misses new.misses
misses_answer mid new fault end message (inl write) = write.told.misses
misses_answer mid new fault end message (inr page) = (asks_without_page mid new end message page).misses

-- what the seat did behind the exchanges
onward_behind : (at : ℕ) (rest : List ℕ) (left' : Option (List ℕ)) (mid : Holder) (new : Client) (end : ServeEnd) → EndsBehind at rest left' mid new end → Onward mid.seat.seen new.seen
onward_behind at rest left' mid new ends.Closed e = still mid.seat new e.0
onward_behind at rest left' mid new (ends.Malformed place) e = still mid.seat new e.0
onward_behind at rest left' mid new ends.ReadFault e = still mid.seat new e.0
onward_behind at rest left' mid new ends.WriteFault e = still mid.seat new e.0
onward_behind at rest left' mid new ends.TooLong e = still mid.seat new e.0
onward_behind at rest left' mid new (ends.Ended number) e = onward_answer mid.seat new _ _ e.message e.holds
onward_behind at rest left' mid new (ends.Ahead floor tip) e = onward_answer mid.seat new _ _ e.message e.holds
onward_behind at rest left' mid new (ends.Exhausted tip) e = e.holds.told.onward
onward_behind at rest left' mid new ends.NoCopy e = onward_copy mid.seat new e.message e.holds
onward_behind at rest left' mid new ends.NoMemory e = elim e [
  | inl begun ↦ still mid.seat new begun.0
  | inr whole ↦ onward_without_memory mid new whole.message whole.holds
]

misses_behind : (at : ℕ) (rest : List ℕ) (left' : Option (List ℕ)) (mid : Holder) (new : Client) (end : ServeEnd) → EndsBehind at rest left' mid new end → MayRise mid.seat.misses new.misses
misses_behind at rest left' mid new ends.Closed e = same_misses mid.seat new e.0
misses_behind at rest left' mid new (ends.Malformed place) e = same_misses mid.seat new e.0
misses_behind at rest left' mid new ends.ReadFault e = same_misses mid.seat new e.0
misses_behind at rest left' mid new ends.WriteFault e = same_misses mid.seat new e.0
misses_behind at rest left' mid new ends.TooLong e = same_misses mid.seat new e.0
misses_behind at rest left' mid new (ends.Ended number) e = misses_answer mid.seat new _ _ e.message e.holds
misses_behind at rest left' mid new (ends.Ahead floor tip) e = misses_answer mid.seat new _ _ e.message e.holds
misses_behind at rest left' mid new (ends.Exhausted tip) e = e.holds.told.misses
misses_behind at rest left' mid new ends.NoCopy e = inr (rose_copy mid.seat new e.message e.holds)
misses_behind at rest left' mid new ends.NoMemory e = elim e [
  | inl begun ↦ same_misses mid.seat new begun.0
  | inr whole ↦ misses_without_memory mid new whole.message whole.holds
]

-- ---- the last call of the seat

asks_last : (held left : Option ℤ) (old new : Client) (result : Result (Unit {0}) SubmitFault) → GaveBack held old new left result → AsksForPages old new
asks_last None left old new result g = asks_same old new g.1
asks_last (Some place) left old new (Ok done) g = asks_unpin old new place (Ok tt) g.0
asks_last (Some place) left old new (Err fault) g = asks_unpin old new place (Err fault) g.0

pub gives_back_last : (held left : Option ℤ) (old new : Client) (result : Result (Unit {0}) SubmitFault) → GaveBack held old new left result → GivesBackLast old new
gives_back_last None left old new result g = inl g.1
gives_back_last (Some place) left old new (Ok done) g = inr (place, Ok tt, g.0)
gives_back_last (Some place) left old new (Err fault) g = inr (place, Err fault, g.0)

-- what is held then
pub holds_none_but : (held left : Option ℤ) (old new : Client) (result : Result (Unit {0}) SubmitFault) → GaveBack held old new left result → HoldsAlone old.held held → HoldsAlone new.held left → HoldsNoneBut new
holds_none_but None left old new result g before after = none (subst (HoldsAlone new.held) g.2 after)
holds_none_but (Some place) left old new (Ok done) g before after = none (subst (HoldsAlone new.held) g.1 after)
holds_none_but (Some place) left old new (Err fault) g before after = one old place fault before g.0

module _ (before after : Connection) (held left : Option ℤ) (new : Client) (result : Result (Unit {0}) SubmitFault) (g : GaveBack held after.seat new left result) where
  -- the seat's list goes on
  pub served_onward : (end : ServeEnd) → Served before after end → Onward before.seat.seen new.seen
  served_onward end s =
      onward_trans before.seat.seen after.seat.seen new.seen
      (onward_trans before.seat.seen s.mid.seat.seen after.seat.seen (onward_all (holder before.seat None) s.mid s.xs s.exchanged) (onward_behind _ s.rest after.left s.mid after.seat end s.behind))
      (asks_last held left after.seat new result g).onward

  -- its count of misses stays or rises
  pub served_misses : (end : ServeEnd) → Served before after end → MayRise before.seat.misses new.misses
  served_misses end s =
      may_rise_behind before.seat.misses after.seat.misses new.misses
      (may_rise_behind before.seat.misses s.mid.seat.misses after.seat.misses (misses_all (holder before.seat None) s.mid s.xs s.exchanged) (misses_behind _ s.rest after.left s.mid after.seat end s.behind))
      (asks_last held left after.seat new result g).misses

  -- no copy only where the count rose
  rose_further : (n m k : ℕ) → Rose n m → MayRise m k → Rose n k
  rose_further n m k rose (inl same) = subst (λ (i : ℕ). Rose n i) (sym same) rose
  rose_further n m k rose (inr more) = rose_behind n m k (inr rose) more

  no_copy_rose : Served before after ends.NoCopy → Rose before.seat.misses new.misses
  no_copy_rose s =
      rose_further before.seat.misses after.seat.misses new.misses
      (rose_behind before.seat.misses s.mid.seat.misses after.seat.misses (misses_all (holder before.seat None) s.mid s.xs s.exchanged) (rose_copy s.mid.seat after.seat s.behind.message s.behind.holds))
      (asks_last held left after.seat new result g).misses

  pub copy_cause : (end : ServeEnd) → Served before after end → end ≡ ends.NoCopy → Rose before.seat.misses new.misses
  copy_cause end s is = no_copy_rose (subst (Served before after) is s)
