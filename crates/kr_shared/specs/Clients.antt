-- What a clause sees of a client's seat. This project's own.
use Rattle.std.specs.Prelude.{◌≡◌, ◌⊎◌, ℕ, ℤ, ◌+◌, true, List, [], ◌∷◌, ◌++◌, Some, Result, slice_get, MatchResult}
use Rattle.kr_base.specs.Causes.{Rose, raised}
use Rattle.kr_calls.specs.declared.calls.Call.{Call}
use Rattle.kr_calls.specs.SeatList.{end_of}
use Rattle.kr_defs.specs.declared.options.Options.{Options}
use Rattle.kr_queue.specs.declared.jobs.Job.{Job}
use Rattle.kr_queue.specs.declared.jobs.Job.TheVariants as jobs
use Rattle.kr_view.specs.declared.rule.ThreadView.{ThreadView}
use Rattle.kr_view.specs.CopiesRule.{seen}
use Rattle.kr_view.specs.Readers.{Reading}
use Rattle.kr_view.specs.declared.seat.CopyFault.{CopyFault}
use Rattle.kr_view.specs.declared.seat.CopyFault.TheVariants.{NoCopy, NoMemory}

-- the seat's number, what it has seen, how often it got no copy, the number of its last call, the jobs that it pushed, and the
-- places that it holds
pub record Client : Type 0 where
  pub number : ℕ
  pub seen : ThreadView
  pub misses : ℕ
  pub ticket : ℕ
  pub pushed : List Job
  pub held : List ℤ

-- the seat's next call, with its job
abbrev pub with_next_job : Client → Job → Client
with_next_job s job = record s { ticket = raised s.ticket; pushed = s.pushed ++ job ∷ [] }

-- the write of a call, which names the end of all that the seat has seen
abbrev pub job_of_call : Client → ℕ → Call → Job
job_of_call s ticket call = jobs.Write s.number ticket (end_of s.seen.list) call

-- a count stays, or rose
abbrev pub MayRise : ℕ → ℕ → Type 0
MayRise before now = (now ≡ before) ⊎ Rose before now

-- no copy only where the count rose, and then nothing else changed
abbrev pub IsReadCause : Client → Client → CopyFault → Type 0
IsReadCause old new NoCopy = (new.seen ≡ old.seen) × Rose old.misses new.misses
IsReadCause old new NoMemory = new.misses ≡ old.misses

abbrev pub HasReadCause : {T : Type 0} → Client → Client → Result T CopyFault → Type 0
HasReadCause old new result = MatchResult result (λ _. new.misses ≡ old.misses) (IsReadCause old new)

-- what it has seen, and how often it got no copy
abbrev pub client_reading : Client → Reading
client_reading s = record { seen = s.seen; misses = s.misses }

abbrev pub with_client_reading : Client → Reading → Client
with_client_reading s r = record s { seen = r.seen; misses = r.misses }

-- a seat that has seen an empty list and asked nothing
abbrev pub a_client : Options → ℕ → Client
a_client options number = record { number = number; seen = seen true options []; misses = 0; ticket = 0; pushed = []; held = [] }

-- seat 1, seat 2 and so on
abbrev pub AreClientSeats : Options → List Client → Type 0
AreClientSeats options seats = (k : ℕ) (s : Client) → slice_get seats k ≡ Some s → s ≡ a_client options (k + 1)
