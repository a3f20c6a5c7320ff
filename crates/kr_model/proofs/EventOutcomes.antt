-- What comes of an event that is accepted, or refused.
use Rattle.std.proofs.Common.{◌≡◌, sym, subst, List, [], ◌∷◌, ◌++◌, ap}
use Rattle.std.specs.Prelude.{Result, Ok, Err, filter}
use Rattle.std.specs.Result.{result_unwrap_or}
use Rattle.kr_calls.specs.declared.events.Event.{Event}
use Rattle.kr_calls.specs.declared.events.Reason.{Reason}
use Rattle.kr_calls.specs.declared.events.Output.TheVariants as given
use Rattle.kr_defs.specs.declared.options.Options.{Options}
use Rattle.kr_model.specs.declared.writes.Write.{Write}
use Rattle.kr_model.specs.Engine.{Core, IsEngine}
use Rattle.kr_model.specs.Entries.{entries_added, entries_by, log_entries}
use Rattle.kr_model.specs.Events.{with_next_number, happens, next_number, outcome, at_time_of}
use Rattle.kr_model.specs.Outputs.{if_accepted, is_open_in, new_writes, outputs_by, outputs_of, outputs_then, waiting_after, writes_of}
use Rattle.kr_model.specs.World.{State}

abbrev pub refuses : Reason → Result State Reason
refuses reason = Err reason

module _ (e : Core) (options : Options) (s : State) (writes : List Write) (event : Event) where
  abbrev StandsBy : Result State Reason → Type 0
  StandsBy r =
      IsEngine e (with_next_number (result_unwrap_or r (at_time_of s event)))
      (filter (is_open_in (with_next_number (result_unwrap_or r (at_time_of s event))).world) (writes ++ if_accepted r (writes_of options (at_time_of s event) event)))

  pub stands_accepted : (after : State) → outcome options (at_time_of s event) event ≡ Ok after
      → IsEngine e (with_next_number after) (filter (is_open_in after.world) (writes ++ writes_of options (at_time_of s event) event))
      → IsEngine e (happens options s event) (waiting_after options s writes event)
  stands_accepted after is stands = subst StandsBy (sym is) stands

  pub stands_refused : (reason : Reason) → outcome options (at_time_of s event) event ≡ Err reason
      → IsEngine e (with_next_number (at_time_of s event)) (filter (is_open_in s.world) (writes ++ []))
      → IsEngine e (happens options s event) (waiting_after options s writes event)
  stands_refused reason is stands = subst StandsBy (sym is) stands

  pub outputs_accepted : (after : State) → outcome options (at_time_of s event) event ≡ Ok after
      → outputs_of options s writes event ≡ outputs_then options (at_time_of s event) writes event after
  outputs_accepted after is = ap (outputs_by options (at_time_of s event) writes event) is

  pub outputs_refused : (reason : Reason) → outcome options (at_time_of s event) event ≡ Err reason
      → outputs_of options s writes event ≡ given.Refused (next_number s.world.count) reason ∷ []
  outputs_refused reason is = ap (outputs_by options (at_time_of s event) writes event) is

  pub writes_accepted : (after : State) → outcome options (at_time_of s event) event ≡ Ok after → new_writes options s event ≡ writes_of options (at_time_of s event) event
  writes_accepted after is = ap (λ r. if_accepted r (writes_of options (at_time_of s event) event)) is

  pub writes_refused : (reason : Reason) → outcome options (at_time_of s event) event ≡ Err reason → new_writes options s event ≡ []
  writes_refused reason is = ap (λ r. if_accepted r (writes_of options (at_time_of s event) event)) is

  pub entries_accepted : (after : State) → outcome options (at_time_of s event) event ≡ Ok after → log_entries options s event ≡ entries_added s event after
  entries_accepted after is = ap (entries_by s event) is

  pub entries_refused : (reason : Reason) → outcome options (at_time_of s event) event ≡ Err reason → log_entries options s event ≡ []
  entries_refused reason is = ap (entries_by s event) is
