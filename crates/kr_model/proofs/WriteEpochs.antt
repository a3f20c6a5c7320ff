-- The epochs of writes: none is above the greatest epoch that was led.
use Rattle.std.proofs.Common.{◌≡◌, sym, subst, ℕ, ℤ, Bool, true, false, cond, List, [], ◌∷◌, ◌++◌, refl, inl, inr}
use Rattle.std.specs.Prelude.{Option, Some, None, Result, Ok, Err, int_le, is_some, not}
use Rattle.std.specs.List.{AllByRecursion}
use Rattle.kr_calls.specs.declared.calls.Ask.{Ask}
use Rattle.kr_calls.specs.declared.calls.Ask.TheVariants as asks
use Rattle.kr_calls.specs.declared.events.Event.{Event}
use Rattle.kr_calls.specs.declared.events.Reason.{Reason}
use Rattle.kr_calls.specs.declared.events.Event.TheVariants as events
use Rattle.kr_calls.specs.Decide.{is_read}
use Rattle.kr_defs.specs.declared.options.Options.{Options}
use Rattle.kr_defs.proofs.Tests.{both}
use Rattle.kr_defs.proofs.HeartbeatLists.{le_itself, le_through}
use Rattle.kr_model.specs.declared.writes.Write.{Write}
use Rattle.kr_model.specs.Events.{outcome, at_time_of}
use Rattle.kr_model.specs.Outputs.{if_accepted, is_open_in, new_writes, write_of, writes_of}
use Rattle.kr_model.specs.Reasons.{led_epoch}
use Rattle.kr_model.specs.Request.{is_decided}
use Rattle.kr_model.specs.World.{State, World}
use Rattle.kr_model.proofs.DueWrites.{Goes, stays_closed}

-- the led epoch is none above the greatest
abbrev pub IsLed : World → Type 0
IsLed w = (epoch : ℤ) → w.leading ≡ Some epoch → int_le epoch w.greatest ≡ true

abbrev pub AreKnown : World → List Write → Type 0
AreKnown w writes = AllByRecursion (λ (write : Write). int_le write.epoch w.greatest ≡ true) writes

pub known_later : (w after : World) (writes : List Write) → int_le w.greatest after.greatest ≡ true → AreKnown w writes → AreKnown after writes
known_later w after [] rises known = tt
known_later w after (write ∷ writes) rises known = (le_through write.epoch w.greatest after.greatest known.0 rises, known_later w after writes rises known.1)

pub known_both : (w : World) (xs ys : List Write) → AreKnown w xs → AreKnown w ys → AreKnown w (xs ++ ys)
known_both w [] ys first second = second
known_both w (x ∷ xs) ys first second = (first.0, known_both w xs ys first.1 second)

of_result : (w : World) (r : Result State Reason) (writes : List Write) → AreKnown w writes → AreKnown w (if_accepted r writes)
of_result w (Ok after) writes known = known
of_result w (Err reason) writes known = tt

ours_known : (w : World) → IsLed w → (leading : Option ℤ) → w.leading ≡ leading → is_some leading ≡ true → int_le (led_epoch leading) w.greatest ≡ true
ours_known w led None is some = absurd cc
ours_known w led (Some epoch) is some = led epoch is

of_call : (b : Bool) (w : World) (write : Write) → (b ≡ true → int_le write.epoch w.greatest ≡ true) → AreKnown w (cond b (write ∷ []) [])
of_call true w write known = (known refl, tt)
of_call false w write known = tt

of_request : (options : Options) (s : State) (client : ℕ) (now : ℤ) (ask : Ask) → IsLed s.world → AreKnown s.world (writes_of options s (events.Request client now ask))
of_request options s client now (asks.Call call) led =
    of_call (is_decided s.world (asks.Call call)) s.world (write_of options s client call)
    (λ decided. ours_known s.world led s.world.leading refl (both (is_some s.world.leading) (not (is_read call.request)) decided).0)
of_request options s client now (asks.Bare correlation fault) led = tt

of_event : (options : Options) (s : State) (event : Event) → IsLed s.world → AreKnown s.world (writes_of options s event)
of_event options s (events.Lead epoch next now) led = tt
of_event options s (events.Commit epoch end) led = tt
of_event options s (events.Lost epoch) led = tt
of_event options s (events.Batch bytes) led = tt
of_event options s (events.Load bytes) led = tt
of_event options s (events.Tick now) led = tt
of_event options s (events.Request client now ask) led = of_request options s client now ask led
of_event options s events.Image led = tt

pub new_known : (options : Options) (s : State) (event : Event) → IsLed s.world → AreKnown s.world (new_writes options s event)
new_known options s event led = of_result s.world (outcome options (at_time_of s event) event) (writes_of options (at_time_of s event) event) (of_event options (at_time_of s event) event led)

pub led_on : (w after : World) → Goes w after → IsLed w → IsLed after
led_on w after g led epoch is = elim (g.succeeds.leading epoch is) [
  | inl same ↦ le_through epoch w.greatest after.greatest (led epoch same) g.succeeds.greatest
  | inr later ↦ subst (λ z. int_le epoch z ≡ true) (sym later.1) (le_itself epoch)
]

pub all_closed : (w after : World) → Goes w after → (writes : List Write) → AreKnown w writes → AllByRecursion (λ (write : Write). is_open_in after write ≡ true → is_open_in w write ≡ true) writes
all_closed w after g [] known = tt
all_closed w after g (write ∷ writes) known = (stays_closed w after write g known.0, all_closed w after g writes known.1)
