-- What a clause sees of the copies and their writer. This project's own.
use Rattle.std.specs.Prelude.{List, [], ◌∷◌, ◌++◌}
use Rattle.kr_defs.specs.declared.options.Options.{Options}
use Rattle.kr_calls.specs.declared.events.Entry.{Entry}

-- the options, the published list, and what was chosen to be shown next
pub record Display : Type 0 where
  pub options : Options
  pub list : List Entry
  pub waiting : List Entry

abbrev pub with_waiting : Display → Entry → Display
with_waiting d e = record d { waiting = d.waiting ++ e ∷ [] }

abbrev pub all_shown : Display → Display
all_shown d = record { options = d.options; list = d.list ++ d.waiting; waiting = [] }
