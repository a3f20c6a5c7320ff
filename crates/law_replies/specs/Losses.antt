-- When a write is refused by NOT_CONTROLLER (this project's own).
use Rattle.std.specs.Prelude.{◌≡◌, ℤ, true, false, is_some, [], Option}
use Rattle.kr_calls.specs.declared.calls.Request.{Request}
use Rattle.kr_calls.specs.declared.events.Output.TheVariants as given
use Rattle.kr_calls.specs.Decide.{is_read}
use Rattle.kr_defs.specs.declared.options.Options.{Options}
use Rattle.kr_model.specs.declared.writes.Write.{Write}
use Rattle.kr_model.specs.Outputs.{due_reply, is_open, replies_now}
use Rattle.kr_model.specs.World.{State, leads_in}

-- A leading controller answers no write at once.
abbrev pub NoneAtOnce : Type 0
NoneAtOnce = (options : Options) (s : State) (request : Request) → is_read request ≡ false → is_some s.world.leading ≡ true → replies_now options s request ≡ []

-- A write that waits no more, and whose own reply is told from its refusal, is answered by the refusal only where the leadership
-- that decided it has ended.
abbrev pub RefusedWithoutLead : Type 0
RefusedWithoutLead =
    (leading : Option ℤ) (end : ℤ) (write : Write) → is_open leading end write ≡ false → (write.reply ≡ write.refusal → ⊥) →
    due_reply end write ≡ given.Reply write.client write.correlation write.refusal → leads_in leading write.epoch ≡ false
