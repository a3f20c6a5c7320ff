-- Lost: a leadership ends. On standby the committed end is the tip.
use Rattle.std.specs.Prelude.{ℕ, ℤ, ◌-◌, [], take, not, None, Result, Ok}
use Rattle.kr_calls.specs.declared.events.Reason.{Reason}
use Rattle.kr_defs.specs.Guard.{refuse◌when◌else◌}
use Rattle.kr_defs.specs.Heartbeats.{end}
use Rattle.kr_defs.specs.Log.{Log}
use Rattle.kr_model.specs.Reasons.{not_leading}
use Rattle.kr_model.specs.World.{State, with_heartbeats, leads_in}

-- what isn't committed is gone
abbrev pub cut : Log → ℕ → Log
cut log place = record log { items = take (place - log.offset) log.items }

abbrev pub after_lost : State → State
after_lost s = record {
  world = record s.world { log = cut s.world.log s.world.committed; batch_ends = []; leading = None };
  basis = with_heartbeats s.basis end;
}

abbrev pub lost : State → ℤ → Result State Reason
lost s epoch =
    refuse not_leading epoch s.world.leading when not (leads_in s.world.leading epoch) else
    Ok (after_lost s)
