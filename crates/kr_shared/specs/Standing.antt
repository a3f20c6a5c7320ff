-- For which state a worker stands. This project's own.
use Rattle.std.specs.Prelude.{◌≡◌, ◌+ℤ◌, ℤ, pos, int_lt, not, IsTrue, List, [], ◌∷◌}
use Rattle.kr_calls.specs.declared.errors.TheConstants.{NOT_CONTROLLER}
use Rattle.kr_calls.specs.Refuse.{refuse}
use Rattle.kr_calls.specs.SeatList.{item_entries}
use Rattle.kr_defs.specs.declared.options.Options.{Options}
use Rattle.kr_defs.specs.Log.{Log}
use Rattle.kr_model.specs.declared.writes.Write.{Write}
use Rattle.kr_model.specs.Engine.{IsEngine, outputs_left}
use Rattle.kr_model.specs.Entries.{items_from}
use Rattle.kr_model.specs.World.{State, closed_of}
use Rattle.law_published_log.specs.Following.{IsDecided, Shows}
use Rattle.kr_shared.specs.declared.asked.Asked.{Asked}
use Rattle.kr_shared.specs.Answers.{answered_of}
use Rattle.kr_shared.specs.Works.{DeskView, resting}

-- what a client asked is the write that waits: it was decided on the log, not below the client's floor
pub record IsWaitingWrite (options : Options) (log : Log) (a : Asked) (w : Write) : Type 0 where
  pub client : w.client ≡ a.seat
  pub correlation : w.correlation ≡ a.call.correlation
  pub floor : IsTrue (not (int_lt w.decided.place a.floor))
  pub decided : IsDecided options log (answered_of a w.decided.place w.decided.count w.reply)
  pub need : w.need ≡ w.decided.place +ℤ pos w.decided.count
  pub refusal : w.refusal ≡ refuse a.call.request NOT_CONTROLLER

abbrev pub AreWaiting : Options → Log → List Asked → List Write → Type 0
AreWaiting options log [] [] = Unit {0}
AreWaiting options log [] (w ∷ ws) = ⊥
AreWaiting options log (a ∷ ones) [] = ⊥
AreWaiting options log (a ∷ ones) (w ∷ ws) = IsWaitingWrite options log a w × AreWaiting options log ones ws

-- The engine stands for the state and all its outputs are handed out; the published list shows the log up to the closed end,
-- behind which the rest of the log is kept, and the clients that wait are those of the writes that wait.
pub record Standing (w : DeskView) (s : State) (writes : List Write) : Type 0 where
  pub engine : IsEngine w.engine s writes
  pub none : outputs_left w.engine ≡ []
  pub options : w.engine.options ≡ w.shelf.options
  pub rests : w.shelf ≡ resting w.shelf.options w.shelf.list
  pub unstaged : w.unstaged ≡ item_entries (pos (closed_of s.world)) (items_from s.world.log (closed_of s.world))
  pub shows : Shows s.world.log (closed_of s.world) w.shelf.list
  pub waits : AreWaiting w.engine.options s.world.log w.waiting writes

-- it stands for some
pub record StandsForSome (w : DeskView) : Type 0 where
  pub state : State
  pub writes : List Write
  pub stands : Standing w state writes
