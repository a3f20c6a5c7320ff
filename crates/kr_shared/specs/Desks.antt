-- What a worker keeps between its turns, also where it found no memory to publish all. This project's own.
use Rattle.std.specs.Prelude.{◌≡◌, ◌<◌, ◌+◌, ◌&&◌, not, Bool, List, [], ◌∷◌, ◌++◌, Option, Some, None, fold, is_some, if◌then◌else◌}
use Rattle.kr_calls.specs.declared.calls.Call.{Call}
use Rattle.kr_calls.specs.declared.events.Entry.{Entry}
use Rattle.kr_calls.specs.declared.events.Event.{Event}
use Rattle.kr_calls.specs.RightAnswers.{AreRightAfter}
use Rattle.kr_view.specs.Shelves.{Shelf, next_at, shown_at, with_staged}
use Rattle.kr_view.specs.Staged.{staged_above, staged_below}
use Rattle.kr_model.specs.Engine.{Core}
use Rattle.kr_model.specs.World.{is_far}
use Rattle.kr_shared.specs.declared.answers.Aside.{Aside}
use Rattle.kr_shared.specs.declared.answers.Asking.{Asking}
use Rattle.kr_shared.specs.declared.asked.Asked.{Asked}
use Rattle.kr_shared.specs.Answers.{aside_of, asked_by}
use Rattle.kr_shared.specs.Lines.{HasLineRoom, IsEmpty, IsSeated, LineView}
use Rattle.kr_shared.specs.Standing.{StandsForSome}
use Rattle.kr_shared.specs.Works.{DeskView, KeepsShown, call_in}

-- the published list and what is staged, the engine, who waits and what they are due to be told, the entries of the log that
-- aren't staged, and behind them those that the last step added
pub record DeskState : Type 0 where
  pub shelf : Shelf
  pub engine : Core
  pub line : LineView
  pub unstaged : List Entry
  pub fresh : List Entry

-- what the engine added to the log and isn't staged
abbrev pub held_back : DeskState → List Entry
held_back k = k.unstaged ++ k.fresh

-- all is staged that is below the closed end, and all that is due
abbrev pub ready : DeskState → Shelf
ready k = fold with_staged (fold with_staged k.shelf (staged_below k.engine.closed (held_back k))) k.line.due

-- what the worker does comes to this, once all that is due is published
abbrev pub settled : DeskState → DeskView
settled k = record { shelf = shown_at k.engine.closed (ready k); unstaged = staged_above k.engine.closed (held_back k); engine = k.engine; waiting = k.line.waiting }

-- all is published that is due
pub record IsCaughtUp (k : DeskState) : Type 0 where
  pub rests : k.shelf ≡ (settled k).shelf
  pub seated : IsSeated k.line
  pub unstaged : k.unstaged ≡ (settled k).unstaged
  pub fresh : k.fresh ≡ []

-- all is staged that is due
pub record IsPrepared (k : DeskState) : Type 0 where
  pub seated : IsSeated k.line
  pub unstaged : staged_below k.engine.closed k.unstaged ≡ []
  pub fresh : k.fresh ≡ []

-- what is due may be published, and then it stands for some state
pub record DeskStands (k : DeskState) : Type 0 where
  pub stands : StandsForSome (settled k)
  pub right : AreRightAfter (ready k).options (ready k).list (next_at k.engine.closed (ready k))
  pub room : HasLineRoom k.line

-- more is staged, and what is due is the same
pub record StaysDue (old new : DeskState) : Type 0 where
  pub ready : ready new ≡ ready old
  pub unstaged : staged_above new.engine.closed (held_back new) ≡ staged_above old.engine.closed (held_back old)
  pub engine : new.engine ≡ old.engine
  pub waiting : new.line.waiting ≡ old.line.waiting
  pub shown : KeepsShown old.shelf new.shelf
  pub room : HasLineRoom old.line → HasLineRoom new.line

-- it comes to the same, and the list that is published may be longer
pub record ComesToSame (old new : DeskState) : Type 0 where
  pub same : settled new ≡ settled old
  pub stands : DeskStands new

-- ---- a write that comes

-- a leader takes it, unless the log is at its end
abbrev pub takes_writes : Core → Bool
takes_writes e = is_some e.leading && not (is_far e.tip)

-- what is taken waits behind the others, and anything else is put aside
abbrev pub entered_with : Bool → Asking → Option Call → List Asked
entered_with takes a None = []
entered_with takes a (Some call) = if takes then asked_by a call ∷ [] else []

abbrev pub aside_with : Bool → Asking → Option Call → Option Aside
aside_with takes a None = None
aside_with takes a (Some call) = if takes then None else Some (aside_of a call)

abbrev pub entered_by : Bool → Option Asking → Event → List Asked
entered_by takes None event = []
entered_by takes (Some a) event = entered_with takes a (call_in event)

abbrev pub aside_by : Bool → Option Asking → Event → Option Aside
aside_by takes None event = None
aside_by takes (Some a) event = aside_with takes a (call_in event)

-- besides, what is put aside may be noted without more memory
abbrev pub HasSpare : Option Aside → LineView → Type 0
HasSpare None l = HasLineRoom l
HasSpare (Some a) l = (l.dues + l.waits) < l.room

-- ---- the opening

pub record IsNewDesk (shelf : Shelf) (e : Core) (k : DeskState) : Type 0 where
  pub shelf_is : k.shelf ≡ shelf
  pub engine : k.engine ≡ e
  pub line : IsEmpty k.line
  pub unstaged : k.unstaged ≡ []
  pub fresh : k.fresh ≡ []
