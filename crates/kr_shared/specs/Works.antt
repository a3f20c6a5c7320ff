-- What a worker keeps, and which answers come of an event. This project's own.
use Rattle.std.specs.Prelude.{◌≡◌, ◌&&◌, ℤ, Bool, not, List, [], ◌∷◌, ◌++◌, Option, Some, None, is_some, filter, if◌then◌else◌}
use Rattle.kr_calls.specs.declared.calls.Ask.{Ask}
use Rattle.kr_calls.specs.declared.calls.Ask.TheVariants as asks
use Rattle.kr_calls.specs.declared.calls.Call.{Call}
use Rattle.kr_calls.specs.declared.events.Entry.{Entry}
use Rattle.kr_calls.specs.declared.events.Event.{Event}
use Rattle.kr_calls.specs.declared.events.Entry.TheVariants as entries
use Rattle.kr_calls.specs.declared.events.Event.TheVariants as events
use Rattle.kr_calls.specs.SeatList.{end_of, is_below}
use Rattle.kr_defs.specs.declared.options.Options.{Options}
use Rattle.kr_view.specs.CopiesRule.{GoesOn}
use Rattle.kr_view.specs.Shelves.{Shelf}
use Rattle.kr_model.specs.declared.writes.Told.{Told}
use Rattle.kr_model.specs.Engine.{Core}
use Rattle.kr_shared.specs.declared.answers.Asking.{Asking}
use Rattle.kr_shared.specs.declared.asked.Asked.{Asked}
use Rattle.kr_shared.specs.Answers.{Answering, answer_all, answer_write, answering, refusal_in}

-- what is published and staged, the entries of the log that stand behind the closed end, the engine, and what waits for its answer
pub record DeskView : Type 0 where
  pub shelf : Shelf
  pub unstaged : List Entry
  pub engine : Core
  pub waiting : List Asked

-- nothing is staged, and nothing waits that a publish chose
abbrev pub resting : Options → List Entry → Shelf
resting options list = record { options = options; list = list; waiting = []; items = []; notes = [] }

-- the leadership ended in the step
abbrev pub is_lost : Core → Core → Bool
is_lost before after = is_some before.leading && not (is_some after.leading)

-- with a leadership all goes that isn't below the committed end
abbrev pub cut_if : Bool → ℤ → List Entry → List Entry
cut_if lost committed entries = if lost then filter (is_below committed) entries else entries

-- the entries that aren't published yet, with what a step added
abbrev pub added_after : Bool → ℤ → List Entry → List Entry → List Entry
added_after lost committed unstaged fresh = cut_if lost committed unstaged ++ fresh

abbrev pub call_of : Ask → Option Call
call_of (asks.Call call) = Some call
call_of (asks.Bare correlation fault) = None

abbrev pub call_in : Event → Option Call
call_in (events.Request client now ask) = call_of ask
call_in other = None

abbrev pub answer_call : Option Call → Asking → Bool → List Asked → List Told → Answering
answer_call None a led waiting told = answering waiting []
answer_call (Some call) a led waiting told = answer_write a call led (refusal_in told) waiting told

-- the answers that come of what is told, and who waits then
abbrev pub answers_of : Option Asking → Event → Bool → List Asked → List Told → Answering
answers_of None event led waiting told = answer_all (answering waiting []) told
answers_of (Some a) event led waiting told = answer_call (call_in event) a led waiting told

-- behind the list, a pin of its end, an unpin, a stop, or an answer without a decision
abbrev pub IsBareNote : List Entry → Entry → Type 0
IsBareNote list (entries.Item place item) = ⊥
IsBareNote list (entries.Load offset records) = ⊥
IsBareNote list (entries.Pin pin) = pin.place ≡ end_of list
IsBareNote list (entries.Unpin pin) = Unit {0}
IsBareNote list (entries.Answer answer) = answer.answered ≡ None
IsBareNote list (entries.Stop number) = Unit {0}

-- the published list stays, or goes on, under the same options
pub record KeepsShown (old new : Shelf) : Type 0 where
  pub options : new.options ≡ old.options
  pub list : new.list ≡ old.list

pub record Onwards (old new : Shelf) : Type 0 where
  pub options : new.options ≡ old.options
  pub list : GoesOn new.list old.list
