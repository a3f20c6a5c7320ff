-- What a look finds in a list of entries. This project's own.
use Rattle.std.specs.Prelude.{◌≡◌, ℕ, List, ◌∷◌, ◌++◌, ◌==◌, Option, Some, None, if◌then◌else◌}
use Rattle.kr_defs.specs.declared.options.Options.{Options}
use Rattle.kr_calls.specs.declared.answers.Answer.{Answer}
use Rattle.kr_calls.specs.declared.events.Entry.{Entry}
use Rattle.kr_calls.specs.declared.events.Entry.TheVariants as entries
use Rattle.kr_calls.specs.declared.seat_entry.SeatEntry.{SeatEntry}
use Rattle.kr_calls.specs.RightAnswers.{IsRightEntry}
use Rattle.kr_calls.specs.SeatList.{entry_of, entry_seat, entry_ticket, last_of, stop_of}
use Rattle.kr_view.specs.declared.looks.Look.{Look}
use Rattle.kr_view.specs.declared.looks.Look.TheVariants.{Found, Stopped, NotYet}
use Rattle.kr_view.specs.declared.rule.ThreadView.{ThreadView}

abbrev pub without_entry : Option ℕ → Look
without_entry (Some number) = Stopped number
without_entry None = NotYet

abbrev pub looked_at : Option SeatEntry → Option ℕ → ℕ → Look
looked_at None stop ticket = without_entry stop
looked_at (Some e) stop ticket = if entry_ticket e == ticket then Found e else without_entry stop

-- what the seat was told last, if it has this ticket; else the first stop, if there is one
abbrev pub looked : ℕ → ℕ → List Entry → Look
looked seat ticket list = looked_at (last_of seat list) (stop_of list) ticket

-- the entry stands in the list, and is right in the entries before it
abbrev pub HasRightEntry : Options → List Entry → Entry → Type 0
HasRightEntry options list e = (before : List Entry) × (rest : List Entry) × (list ≡ before ++ e ∷ rest) × IsRightEntry options before e

abbrev pub HasRight : Options → List Entry → Answer → Type 0
HasRight options list a = HasRightEntry options list (entries.Answer a)

-- what is found is a right entry of this seat and ticket; what stopped is the list's first stop
abbrev pub LookTells : Options → ℕ → ℕ → List Entry → Look → Type 0
LookTells options seat ticket list (Found e) = HasRightEntry options list (entry_of e) × (entry_seat e ≡ seat) × (entry_ticket e ≡ ticket)
LookTells options seat ticket list (Stopped number) = stop_of list ≡ Some number
LookTells options seat ticket list NotYet = Unit {0}

-- what a look tells a seat that has seen so much, of the ticket
abbrev pub IsLook : ThreadView → ℕ → ℕ → Look → Type 0
IsLook v seat ticket look = (look ≡ looked seat ticket v.list) × LookTells v.options seat ticket v.list look
