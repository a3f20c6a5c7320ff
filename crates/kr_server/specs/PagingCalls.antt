-- What a client's seat tells of the calls for a page. This project's own.
use Rattle.std.specs.Prelude.{int_lt, length, not, ◌≡◌, ◌⊎◌, ℤ, ◌<◌, ◌^◌, ◌-◌, false, IsTrue, List, [], ◌∷◌, ◌++◌, Option, Some, None, Result, Ok, Err, MatchResult, IfErr, OnOk, OnErr}
use Rattle.std.specs.List.{AllByRecursion}
use Rattle.kr_base.specs.Causes.{Rose, raised}
use Rattle.kr_calls.specs.declared.events.Entry.{Entry}
use Rattle.kr_calls.specs.declared.events.Entry.TheVariants as entries
use Rattle.kr_calls.specs.declared.pins.Pin.{Pin}
use Rattle.kr_calls.specs.SeatList.{end_of, image_below, is_kept_in, loads_of}
use Rattle.kr_calls.specs.SeatListLaws.{unpins}
use Rattle.kr_pages.specs.declared.describe.Describe.{Describe}
use Rattle.kr_pages.specs.declared.describe.Described.{Described}
use Rattle.kr_pages.specs.declared.describe.LineKey.{LineKey}
use Rattle.kr_pages.specs.Pages.{page}
use Rattle.kr_queue.specs.declared.jobs.Job.{Job}
use Rattle.kr_queue.specs.declared.jobs.Job.TheVariants as jobs
use Rattle.kr_view.specs.Looks.{HasRightEntry}
use Rattle.kr_view.specs.Seats.{Onward}
use Rattle.kr_shared.specs.declared.clients.SubmitFault.{SubmitFault}
use Rattle.kr_shared.specs.declared.clients.SubmitFault.TheVariants as submits
use Rattle.kr_shared.specs.declared.pins.PinFault.TheVariants as pin_faults
use Rattle.kr_shared.specs.declared.places.TheConstants.{MOST_PLACES}
use Rattle.kr_shared.specs.Clients.{Client, MayRise}
use Rattle.kr_shared.specs.Grants.{IsKeptFrom, IsPinCause, IsPlaceCause, pin_at}
use Rattle.kr_shared.specs.HeldPlaces.{with_place, without_place}
use Rattle.kr_shared.specs.Turns.{pin_entry, unpin_entry}
use Rattle.kr_server.specs.declared.end.ServeEnd.{ServeEnd}
use Rattle.kr_server.specs.declared.end.ServeEnd.TheVariants as ends

-- the seat pushed this job
abbrev pub PushedJob : Client → Client → Job → Type 0
PushedJob old new job = new.pushed ≡ old.pushed ++ job ∷ []

-- perhaps not, where the worker stopped or there was no memory
abbrev pub PushedJobAtFault : Client → Client → Job → SubmitFault → Type 0
PushedJobAtFault old new job (submits.Ended number) = (new.pushed ≡ old.pushed) ⊎ PushedJob old new job
PushedJobAtFault old new job (submits.Ahead floor tip) = PushedJob old new job
PushedJobAtFault old new job (submits.Exhausted tip) = ⊥
PushedJobAtFault old new job submits.NoMemory = (new.pushed ≡ old.pushed) ⊎ PushedJob old new job

-- the job names the end of all that the seat had seen
abbrev pub pin_job : Client → Client → Job
pin_job old new = jobs.Pin old.number new.ticket (end_of old.seen.list)

abbrev pub unpin_job : Client → Client → ℤ → Job
unpin_job old new place = jobs.Unpin old.number new.ticket (end_of old.seen.list) place

-- what `unpin` tells of a place and its result
pub record Unpins (old new : Client) (place : ℤ) (result : Result (Unit {0}) SubmitFault) : Type 0 where
  pub onward : Onward old.seen new.seen
  pub granted : OnOk result (HasRightEntry new.seen.options new.seen.list (unpin_entry old.number new.ticket place))
  pub held : OnOk result (new.held ≡ without_place old.held place)
  pub same : OnErr result (new.held ≡ old.held)
  pub cause : IfErr result (λ fault. IsPlaceCause new.seen old.number new.ticket (end_of old.seen.list) fault)
  pub pushed : MatchResult result (λ _. PushedJob old new (unpin_job old new place)) (λ fault. PushedJobAtFault old new (unpin_job old new place) fault)
  pub number : new.number ≡ old.number
  pub ticket : new.ticket ≡ raised old.ticket
  pub misses : MayRise old.misses new.misses

-- what `pin` tells of the pin that it made
pub record PinsOne (old new : Client) (pin : Pin) : Type 0 where
  pub is : pin ≡ pin_at old.number new.ticket pin.place
  pub onward : Onward old.seen new.seen
  pub granted : HasRightEntry new.seen.options new.seen.list (pin_entry old.number new.ticket pin.place)
  pub later : IsTrue (not (int_lt pin.place (end_of old.seen.list)))
  pub kept : IsKeptFrom new.seen.list pin
  pub held : new.held ≡ with_place old.held pin.place
  pub few : length old.held < MOST_PLACES
  pub pushed : PushedJob old new (pin_job old new)
  pub number : new.number ≡ old.number
  pub ticket : new.ticket ≡ raised old.ticket
  pub misses : MayRise old.misses new.misses

-- what reading at a kept place leaves: the list goes on, and the count of misses may have risen
pub record ReadsRecords (old new : Client) : Type 0 where
  pub onward : Onward old.seen new.seen
  pub misses : MayRise old.misses new.misses
  pub same : new ≡ record old { seen = new.seen; misses = new.misses }

-- behind the pin there stands an image in place of all, or its seat's unpin; or the number of these images stands still, at the
-- greatest u64, so that nobody can tell
pub record IsLost (pin : Pin) (list : List Entry) : Type 0 where
  pub before : List Entry
  pub rest : List Entry
  pub stands : list ≡ before ++ entries.Pin pin ∷ rest
  pub lost : AllByRecursion (λ e. unpins pin e ≡ false) rest → loads_of list ≡ 2 ^ 64 - 1

abbrev pub GivesBack : Client → Client → Pin → Type 0
GivesBack old new pin = Unpins old new pin.place (Ok tt)

-- ---- a page

-- The pin of the earlier pages is held on where there is a cursor. Else, and where none is held, the closed end is pinned, once
-- the earlier pin is given back.
abbrev pub HoldsFor : Option LineKey → Option Pin → Client → Client → Pin → Type 0
HoldsFor (Some cursor) (Some held) old new pin = (new ≡ old) × (pin ≡ held)
HoldsFor (Some cursor) None old new pin = PinsOne old new pin
HoldsFor None (Some held) old new pin = (mid : Client) × GivesBack old mid held × PinsOne mid new pin
HoldsFor None None old new pin = PinsOne old new pin

-- the first of these pins was held, and each was given back for the next one where a read found it lost
abbrev pub HoldsOn : Client → Pin → List Pin → Client → Pin → Type 0
HoldsOn old held [] new pin = (new ≡ old) × (pin ≡ held)
HoldsOn old held (next ∷ more) new pin =
    (read : Client) × (gone : Client) × (got : Client) × ReadsRecords old read × IsLost held read.seen.list × GivesBack read gone held × PinsOne gone got next × HoldsOn got next more new pin

-- the pin is held on while lines are left
abbrev pub KeepsFor : Option LineKey → Client → Pin → Client → Option Pin → Type 0
KeepsFor (Some next) old held new pin = (new ≡ old) × (pin ≡ Some held)
KeepsFor None old held new pin = GivesBack old new held × (pin ≡ None)

-- The page is that of the image at the pin's place, in the list that the seat then had.
pub record IsPageExchange (old : Client) (held : Option Pin) (new : Client) (left : Option Pin) (place : ℤ) (describe : Describe) (described : Described) : Type 0 where
  pub first : Client
  pub own : Pin
  pub begins : HoldsFor describe.cursor held old first own
  pub others : List Pin
  pub ready : Client
  pub pin : Pin
  pub holds : HoldsOn first own others ready pin
  pub got : Client
  pub reads : ReadsRecords ready got
  pub at : place ≡ pin.place
  pub kept : IsTrue (is_kept_in got.seen.list place)
  pub shows : described ≡ page (image_below place got.seen.list) describe
  pub ends : KeepsFor described.next got pin new left

-- ---- no page

-- a place was asked for or given back, and the seat refused it
pub data IsPlaceRefused (old new : Client) (fault : SubmitFault) : Type 0 where
  no_pin : IsPinCause old new (pin_faults.Submit fault) → Onward old.seen new.seen → MayRise old.misses new.misses → IsPlaceRefused old new fault
  no_unpin : (place : ℤ) → Unpins old new place (Err fault) → IsPlaceRefused old new fault

-- why there is none
abbrev pub IsPageEnd : Client → Client → ServeEnd → Type 0
IsPageEnd old new (ends.Ended number) = IsPlaceRefused old new (submits.Ended number)
IsPageEnd old new (ends.Ahead floor tip) = IsPlaceRefused old new (submits.Ahead floor tip)
IsPageEnd old new ends.NoCopy = ReadsRecords old new × Rose old.misses new.misses
IsPageEnd old new ends.NoMemory = ReadsRecords old new ⊎ IsPlaceRefused old new submits.NoMemory
IsPageEnd old new other = ⊥
