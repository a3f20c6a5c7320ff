-- Who waits, and what is due to be told. This project's own.
use Rattle.std.specs.Prelude.{◌≡◌, ◌≤◌, ℕ, ◌+◌, Bool, true, List, [], map}
use Rattle.kr_calls.specs.declared.events.Entry.{Entry}
use Rattle.kr_calls.specs.declared.events.Entry.TheVariants as entries
use Rattle.kr_shared.specs.declared.asked.Asked.{Asked}
use Rattle.kr_shared.specs.declared.line.Note.{Note}
use Rattle.kr_shared.specs.declared.line.Note.TheVariants as notes
use Rattle.kr_shared.specs.Answers.{answer_with}

-- the entry by which it is told
abbrev pub line_entry : Note → Entry
line_entry (notes.Decided kind answered) = entries.Answer (answer_with kind answered)
line_entry (notes.Bare entry) = entry

abbrev pub entries_of : List Note → List Entry
entries_of due = map line_entry due

-- who waits, in order; what is due; whether all that wait have a place; how many wait, how much is due, and for how much of it
-- there is room
pub record LineView : Type 0 where
  pub waiting : List Asked
  pub due : List Entry
  pub seated : Bool
  pub waits : ℕ
  pub dues : ℕ
  pub room : ℕ

-- all that wait may be answered without more memory
abbrev pub HasLineRoom : LineView → Type 0
HasLineRoom l = (l.dues + l.waits) ≤ l.room

pub record IsEmpty (l : LineView) : Type 0 where
  pub waiting : l.waiting ≡ []
  pub due : l.due ≡ []
  pub seated : l.seated ≡ true
  pub waits : l.waits ≡ 0
  pub dues : l.dues ≡ 0

-- nothing is due, and all that wait have a place
pub record IsSeated (l : LineView) : Type 0 where
  pub due : l.due ≡ []
  pub seated : l.seated ≡ true
  pub dues : l.dues ≡ 0
