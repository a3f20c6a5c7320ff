-- The place that a connection holds for the pages of a walk, call by call.
use Rattle.std.specs.Prelude.{◌≡◌, ◌<◌, ◌≤◌, ℤ, Bool, true, false, IsTrue, List, [], ◌∷◌, length, Option, None, Some, IfErr, IfOk, IfSome, OnOk, Result, Ok, Err}
use Rattle.std.specs.List.{list_any}
use Rattle.std.specs.Option.{option_map}
use Rattle.std.specs.Ordering.{int_eq}
use Rattle.kr_calls.specs.declared.pins.Pin.{Pin}
use Rattle.kr_calls.specs.SeatList.{image_below, is_kept_in}
use Rattle.kr_describe.specs.declared.steady.PageFault.{PageFault}
use Rattle.kr_describe.specs.declared.steady.PageFault.TheVariants as page_faults
use Rattle.kr_describe.specs.SteadyReads.{HasPageCause, IsPageStop}
use Rattle.kr_pages.specs.declared.describe.Describe.{Describe}
use Rattle.kr_pages.specs.declared.describe.Described.{Described}
use Rattle.kr_pages.specs.declared.describe.LineKey.{LineKey}
use Rattle.kr_pages.specs.Pages.{page}
use Rattle.kr_view.specs.declared.scans.ScanFault.TheVariants as scans
use Rattle.kr_shared.specs.declared.clients.SubmitFault.{SubmitFault}
use Rattle.kr_shared.specs.declared.places.TheConstants.{MOST_PLACES}
use Rattle.kr_shared.specs.Clients.{Client, client_reading}
use Rattle.kr_shared.specs.Grants.{IsKeptFrom, pin_at}
use Rattle.kr_server.specs.declared.describing.Tried.{Tried}
use Rattle.kr_server.specs.declared.describing.Tried.TheVariants as trials
use Rattle.kr_server.specs.declared.end.ServeEnd.{ServeEnd}
use Rattle.kr_server.specs.declared.end.ServeEnd.TheVariants as ends
use Rattle.kr_server.specs.PagingCalls.{HoldsFor, HoldsOn, IsPageEnd, IsPageExchange, IsPlaceRefused, PinsOne, ReadsRecords, Unpins}
use Rattle.kr_server.specs.SeatCalls.{AsksForPages, Holder, holder}

-- it is that of the pin, and kept from the pin on
pub record IsPinPlace (held : Option ℤ) (h : Holder) : Type 0 where
  pub is : held ≡ option_map (λ (p : Pin). p.place) h.pin
  pub kept : IfSome h.pin (λ pin. IsKeptFrom h.seat.seen.list pin)

-- one place more may be held where none is for a walk
abbrev pub HasPlaceLeft : List ℤ → Option ℤ → Type 0
HasPlaceLeft all None = length all < MOST_PLACES
HasPlaceLeft all (Some held) = (length all ≤ MOST_PLACES) × IsTrue (list_any (λ p. int_eq p held) all)

-- no other place is held
abbrev pub HoldsAlone : List ℤ → Option ℤ → Type 0
HoldsAlone all None = all ≡ []
HoldsAlone all (Some held) = all ≡ held ∷ []

-- what stays so over a seat's calls
pub record KeepsPlaces (old : Client) (held : Option ℤ) (new : Client) (left : Option ℤ) : Type 0 where
  pub room : HasPlaceLeft old.held held → HasPlaceLeft new.held left
  pub alone : HoldsAlone old.held held → HoldsAlone new.held left

-- the place for a page: of the pin that was held, or of another
pub record IsReadyFor (cursor : Option LineKey) (old : Holder) (seat : Client) (place : ℤ) : Type 0 where
  pub first : Client
  pub own : Pin
  pub begins : HoldsFor cursor old.pin old.seat first own
  pub others : List Pin
  pub pin : Pin
  pub holds : HoldsOn first own others seat pin
  pub at : place ≡ pin.place
  pub kept : IsKeptFrom seat.seen.list pin

-- the page is made, and the place is held on or given back
pub record IsPageMade (old : Holder) (seat : Client) (left : Option ℤ) (place : ℤ) (describe : Describe) (described : Described) : Type 0 where
  pub pin : Option Pin
  pub paged : IsPageExchange old.seat old.pin seat pin place describe described
  pub is_held : IsPinPlace left (holder seat pin)

-- ---- calls

-- the place that is held, if one is, was given back
abbrev pub GaveBack : Option ℤ → Client → Client → Option ℤ → Result (Unit {0}) SubmitFault → Type 0
GaveBack None old new left result = (result ≡ Ok tt) × (new ≡ old) × (left ≡ None)
GaveBack (Some held) old new left (Ok done) = Unpins old new held (Ok tt) × (left ≡ None)
GaveBack (Some held) old new left (Err fault) = Unpins old new held (Err fault) × (left ≡ Some held)

-- and only where no line is left
abbrev pub Finished : Bool → Option ℤ → Client → Client → Option ℤ → Result (Unit {0}) SubmitFault → Type 0
Finished true held old new left result = (result ≡ Ok tt) × (new ≡ old) × (left ≡ held)
Finished false held old new left result = GaveBack held old new left result

-- the closed end was pinned
abbrev pub TookOne : Client → Client → Option ℤ → Result ℤ SubmitFault → Type 0
TookOne old new left (Ok place) = PinsOne old new (pin_at old.number new.ticket place) × (left ≡ Some place)
TookOne old new left (Err fault) = IsPlaceRefused old new fault × (left ≡ None)

-- a seat's calls for places ended in this
pub record IsPlaceEnd (old new : Client) (fault : SubmitFault) : Type 0 where
  pub mid : Client
  pub before : AsksForPages old mid
  pub cause : IsPlaceRefused mid new fault

-- the one was given back, and then the other was pinned
abbrev pub Renewed : Option ℤ → Client → Client → Option ℤ → Result ℤ SubmitFault → Type 0
Renewed held old new left (Ok place) = (mid : Client) × GaveBack held old mid None (Ok tt) × TookOne mid new left (Ok place)
Renewed held old new left (Err fault) = IsPlaceEnd old new fault

-- how a page that isn't there ends the connection; not at all where the pin is lost
abbrev pub fault_end : PageFault → Option ServeEnd
fault_end (page_faults.Scan (scans.Gone asked oldest)) = None
fault_end (page_faults.Scan (scans.NotKept asked)) = None
fault_end (page_faults.Scan scans.NoCopy) = Some ends.NoCopy
fault_end (page_faults.Scan scans.NoMemory) = Some ends.NoMemory
fault_end (page_faults.Loaded first later) = None
fault_end page_faults.NoMemory = Some ends.NoMemory

-- calls for a page ended in this
pub record IsNoPage (old new : Client) (end : ServeEnd) : Type 0 where
  pub mid : Client
  pub before : AsksForPages old mid
  pub cause : IsPageEnd mid new end

-- the page is made at the place, or another place is there for it, or calls ended
abbrev pub TriedOnce : Holder → Client → Option ℤ → ℤ → Describe → Tried → Type 0
TriedOnce old seat left place describe (trials.Page described) = IsPageMade old seat left place describe described
TriedOnce old seat left place describe (trials.Lost next) = IsReadyFor describe.cursor old seat next

-- the other place is held
abbrev pub HoldsNext : Option ℤ → Tried → Type 0
HoldsNext left (trials.Page described) = Unit {0}
HoldsNext left (trials.Lost next) = left ≡ Some next

-- what a read of a page leaves
pub record PageRead (old new : Client) (place : ℤ) (describe : Describe) (result : Result Described PageFault) : Type 0 where
  pub reads : ReadsRecords old new
  pub shows : IfOk result (λ described. described ≡ page (image_below place new.seen.list) describe)
  pub kept : OnOk result (IsTrue (is_kept_in new.seen.list place))
  pub stop : IfErr result (IsPageStop place old.seen.list new.seen.list)
  pub cause : HasPageCause (client_reading old) (client_reading new) result
