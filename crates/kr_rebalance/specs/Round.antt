-- One round of the balancer: a client's request for the election of all that is planned (this project's own).
use Rattle.std.specs.Prelude.{ℕ, ℤ, pos}
use Rattle.kr_calls.specs.declared.calls.Ask.TheVariants as asks
use Rattle.kr_calls.specs.declared.calls.Request.TheVariants as requests
use Rattle.kr_calls.specs.declared.events.Event.{Event}
use Rattle.kr_calls.specs.declared.events.Event.TheVariants as events
use Rattle.kr_defs.specs.Image.{Image}
use Rattle.kr_balance.specs.Plan.{plan}
use Rattle.law_balance.specs.Election.{preferred_election}

-- of this client, at this time, for what is planned by the image
abbrev pub round_event : ℕ → ℤ → Image → ℕ → Event
round_event client now image percent =
    events.Request client now (asks.Call (record { correlation = pos 0; request = requests.ElectLeaders (preferred_election (plan image percent)) }))
