-- What serving an event makes of what a worker keeps. This project's own.
use Rattle.std.specs.Prelude.{◌≡◌, ℕ, Bool, List, [], ◌++◌, Option, is_some, map}
use Rattle.kr_calls.specs.declared.events.Entry.{Entry}
use Rattle.kr_calls.specs.declared.events.Event.{Event}
use Rattle.kr_calls.specs.declared.events.Reason.{Reason}
use Rattle.kr_view.specs.Staged.{staged_above, staged_below}
use Rattle.kr_model.specs.declared.writes.Told.{Told}
use Rattle.kr_model.specs.declared.writes.Write.{Write}
use Rattle.kr_model.specs.Engine.{Core}
use Rattle.kr_model.specs.Events.{happens}
use Rattle.kr_model.specs.Outputs.{waiting_after}
use Rattle.kr_model.specs.World.{State}
use Rattle.kr_shared.specs.declared.answers.Asking.{Asking}
use Rattle.kr_shared.specs.Answers.{Answering, AreReplied, refusal_in}
use Rattle.kr_shared.specs.Appends.{Appends}
use Rattle.kr_shared.specs.Standing.{Standing}
use Rattle.kr_shared.specs.Takes.{TakesEvent}
use Rattle.kr_shared.specs.Works.{DeskView, added_after, answers_of, is_lost, resting}

-- The engine takes the event; what it gives is appended, as far as that went; what it added up to its closed end is published,
-- with the answers behind it, and the rest is kept.
pub record ServesEvent (pieces pieces' : Option (List (List ℕ))) (faults faults' : ℕ) (old new : DeskView) (event : Event) (asking : Option Asking) (appended : Bool) (refusal : Option Reason) : Type 0 where
  pub between : Core
  pub told : List Told
  pub takes : TakesEvent old.engine between event told
  pub appends : Appends pieces pieces' faults faults' told appended
  pub refused : refusal ≡ refusal_in told
  pub engine : new.engine ≡ record between { fresh = [] }
  pub answers : Answering
  pub answered : answers ≡ answers_of asking event (is_some old.engine.leading) old.waiting told
  pub replied : AreReplied answers.notes (map (λ (t : Told). t.output) told)
  pub waiting : new.waiting ≡ answers.waiting
  pub added : List Entry
  pub adds : added ≡ added_after (is_lost old.engine between) between.committed old.unstaged between.fresh
  pub shelf : new.shelf ≡ resting old.shelf.options (old.shelf.list ++ (staged_below between.closed added ++ answers.notes))
  pub unstaged : new.unstaged ≡ staged_above between.closed added
  -- and then the worker stands for the next state
  pub stands : (s : State) (writes : List Write) → Standing old s writes → Standing new (happens old.engine.options s event) (waiting_after old.engine.options s writes event)
