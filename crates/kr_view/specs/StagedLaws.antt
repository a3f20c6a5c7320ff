-- What is true of staged entries without answers, pins and begins. This project's own.
use Rattle.std.specs.Prelude.{◌≡◌, ℤ, Bool, true, false, [], All}
use Rattle.kr_calls.specs.declared.events.Entry.{Entry}
use Rattle.kr_calls.specs.declared.events.Entry.TheVariants as entries
use Rattle.kr_calls.specs.SeatList.{IsClosedList}
use Rattle.kr_view.specs.Shelves.{Shelf, MayPublish}
use Rattle.kr_view.specs.Staged.{is_begin, is_logged}

-- nothing waits, no transaction is open, and what is staged is of the log and begins none
pub record IsLogged (s : Shelf) : Type 0 where
  pub closed : IsClosedList s.list
  pub waiting : s.waiting ≡ []
  pub items : All (λ e. is_logged e ≡ true) s.items
  pub begins : All (λ e. is_begin e ≡ false) s.items
  pub notes : s.notes ≡ []

-- nothing is staged, and no transaction is open
pub record HasNothing (s : Shelf) : Type 0 where
  pub closed : IsClosedList s.list
  pub waiting : s.waiting ≡ []
  pub items : s.items ≡ []
  pub notes : s.notes ≡ []

-- where all that is staged is so, a publish may come
abbrev pub LoggedEntriesAreRight : Type 0
LoggedEntriesAreRight = (end : ℤ) (s : Shelf) → IsLogged s → MayPublish end s

-- neither an answer nor a pin
abbrev pub is_plain_entry : Entry → Bool
is_plain_entry (entries.Item place item) = true
is_plain_entry (entries.Load offset records) = true
is_plain_entry (entries.Pin pin) = false
is_plain_entry (entries.Unpin pin) = true
is_plain_entry (entries.Answer answer) = false
is_plain_entry (entries.Stop number) = true

-- nothing waits, no transaction is open, and neither an answer nor a pin nor a begin is staged
pub record IsPlain (s : Shelf) : Type 0 where
  pub closed : IsClosedList s.list
  pub waiting : s.waiting ≡ []
  pub items : All (λ e. is_plain_entry e ≡ true) s.items
  pub begins : All (λ e. is_begin e ≡ false) s.items
  pub notes : All (λ e. is_plain_entry e ≡ true) s.notes
  pub no_begins : All (λ e. is_begin e ≡ false) s.notes

-- where none is staged, a publish may come
abbrev pub PlainEntriesAreRight : Type 0
PlainEntriesAreRight = (end : ℤ) (s : Shelf) → IsPlain s → MayPublish end s
