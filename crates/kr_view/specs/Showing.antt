-- What a copy shows. This project's own.
use Rattle.std.specs.Prelude.{◌≡◌, List, ◌++◌, Option, ℕ}
use Rattle.kr_defs.specs.declared.options.Options.{Options}
use Rattle.kr_calls.specs.declared.events.Entry.{Entry}
use Rattle.kr_calls.specs.declared.seat_entry.SeatEntry.{SeatEntry}
use Rattle.kr_calls.specs.RightAnswers.{AreRightAfter}
use Rattle.kr_calls.specs.SeatList.{IsClosedList, PinnedLog, loads_of, pinned_log, stop_of}
use Rattle.kr_view.specs.Tables.{table_of}

-- the options of the opening, and the entries
pub record Showing : Type 0 where
  pub options : Options
  pub list : List Entry

abbrev pub showing : Options → List Entry → Showing
showing options list = record { options = options; list = list }

abbrev pub showing_more : Showing → List Entry → Showing
showing_more s more = showing s.options (s.list ++ more)

-- what may be shown behind: answers and pins that are right there, and no transaction that stays open
pub record MayShow (options : Options) (list more : List Entry) : Type 0 where
  pub right : AreRightAfter options list more
  pub closed : IsClosedList (list ++ more)

-- what a copy holds is what its entries say
pub record HoldsEntries (log : PinnedLog) (told : List (Option SeatEntry)) (first : Option ℕ) (loads : ℕ) (entries : List Entry) : Type 0 where
  pub standing : log ≡ pinned_log entries
  pub table : told ≡ table_of entries
  pub stop : first ≡ stop_of entries
  pub loads_so_far : loads ≡ loads_of entries
