-- What a worker serves: an event of the link, or a client's write. This project's own.
use Rattle.std.specs.Prelude.{◌≡◌, ℕ, ℤ, int_lt, not, IsTrue, Option, Some, None}
use Rattle.std.specs.Int.{int_max}
use Rattle.kr_calls.specs.declared.calls.Ask.TheVariants as asks
use Rattle.kr_calls.specs.declared.calls.Call.{Call}
use Rattle.kr_calls.specs.declared.events.Event.{Event}
use Rattle.kr_calls.specs.declared.events.Event.TheVariants as events
use Rattle.kr_calls.specs.Decide.{is_read}
use Rattle.kr_calls.specs.LinkEvents.{is_link_event}
use Rattle.kr_defs.specs.declared.basis.Basis.{Basis}
use Rattle.kr_model.specs.Engine.{Core, basis_of}
use Rattle.kr_shared.specs.declared.answers.Asking.{Asking}

-- what decisions rest on at a time
abbrev pub basis_at : Core → ℤ → Basis
basis_at e now = record (basis_of e) { time = int_max e.time now }

-- who asks, the end of the log, and what the decision rests on
abbrev pub asking_of : Core → ℕ → ℕ → ℤ → ℤ → Asking
asking_of e seat ticket floor now = record { seat = seat; ticket = ticket; floor = floor; place = e.tip; basis = basis_at e now }

-- a request is the write of a client that has seen no more than the log; what comes without a client is no request
abbrev pub IsWrite : Core → Asking → ℕ → ℤ → Call → Type 0
IsWrite e a client now call =
    (client ≡ a.seat) × IsTrue (not (is_read call.request)) × IsTrue (not (int_lt e.tip a.floor)) × (a.place ≡ e.tip) × (a.basis ≡ basis_at e now)

abbrev pub IsTask : Core → Event → Option Asking → Type 0
IsTask e event None = IsTrue (is_link_event event)
IsTask e (events.Request client now (asks.Call call)) (Some a) = IsWrite e a client now call
IsTask e other (Some a) = ⊥
