-- How the image at a place is written while the log goes on. This project's own.
use Rattle.std.specs.Prelude.{◌≡◌, ◌⊎◌, ◌≤ℤ◌, ℕ, ℤ, pos, ◌<◌, ◌^◌, ◌-◌, IsTrue, List, Option, None, MatchResult, Result, Ok, Err}
use Rattle.std.specs.Io.KnownBytes.{Appends, Keeps}
use Rattle.kr_base.specs.Causes.{Rose}
use Rattle.kr_base.specs.FailedPuts.{AppendsFront}
use Rattle.kr_calls.specs.declared.events.Entry.{Entry}
use Rattle.kr_calls.specs.SeatList.{image_below, is_kept_in, loads_of, pinned_log}
use Rattle.kr_defs.specs.declared.limits.TheConstants.{IMAGE_BATCH}
use Rattle.kr_defs.specs.declared.record.Record.{Record}
use Rattle.kr_defs.specs.Image.{IsValid}
use Rattle.kr_snapshot.specs.ImageText.{image_text}
use Rattle.kr_view.specs.CopiesRule.{GoesOn}
use Rattle.kr_view.specs.RecordPages.{record_page}
use Rattle.kr_view.specs.Scans.{IsNotThere}
use Rattle.kr_view.specs.Seats.{Onward}
use Rattle.kr_view.specs.declared.scans.ScanFault.{ScanFault}
use Rattle.kr_view.specs.declared.scans.ScanFault.TheVariants as scans
use Rattle.kr_shared.specs.Clients.{Client, client_reading, with_client_reading}
use Rattle.kr_shared.specs.KeysBehind.{keys_behind}
use Rattle.kr_shared.specs.declared.image_walk.Walk.{Walk}
use Rattle.kr_shared.specs.declared.image_writing.ImageWriteFault.{ImageWriteFault}
use Rattle.kr_shared.specs.declared.image_writing.ImageWriteFault.TheVariants as faults

-- ---- what later calls of a seat see

-- an image came in place of all between two lists, or their number can't tell: it is another one, or stands at the greatest u64
abbrev pub MayBeLoaded : List Entry → List Entry → Type 0
MayBeLoaded first later = (loads_of later ≡ loads_of first → ⊥) ⊎ (loads_of later ≡ 2 ^ 64 - 1)

-- none came, and so the place, which is kept in the later list too, has the image of the first one there
pub record StillKept (place : ℤ) (first later : List Entry) : Type 0 where
  pub kept : IsTrue (is_kept_in later place)
  pub image : image_below place later ≡ image_below place first
  pub loads : loads_of later ≡ loads_of first
  pub few : loads_of later < 2 ^ 64 - 1

-- the seat may have seen more, and is as before otherwise
pub record SeesMore (old new : Client) : Type 0 where
  pub onward : Onward old.seen new.seen
  pub same : new ≡ with_client_reading old (client_reading new)

-- it got no copy only where the count rose
abbrev pub IsScanMiss : ℕ → ℕ → ScanFault → Type 0
IsScanMiss before now (scans.Gone asked oldest) = now ≡ before
IsScanMiss before now (scans.NotKept asked) = now ≡ before
IsScanMiss before now scans.NoCopy = Rose before now
IsScanMiss before now scans.NoMemory = now ≡ before

abbrev pub IsMiss : ℕ → ℕ → ImageWriteFault → Type 0
IsMiss before now (faults.Scan fault) = IsScanMiss before now fault
IsMiss before now (faults.Loaded first later) = now ≡ before
IsMiss before now faults.WriteFault = now ≡ before
IsMiss before now faults.NoMemory = now ≡ before

abbrev pub HasMiss : {T : Type 0} → ℕ → ℕ → Result T ImageWriteFault → Type 0
HasMiss before now result = MatchResult result (λ _. now ≡ before) (IsMiss before now)

-- ---- what is written

-- the text of the image at the place
abbrev pub text_at : ℤ → List Entry → List ℕ
text_at place list = image_text place (image_below place list)

-- why no more was written than the first call and those behind it gave: of the last of them the list tells it
abbrev pub IsStop : ℤ → List Entry → List Entry → ImageWriteFault → Type 0
IsStop place first new (faults.Scan fault) = IsNotThere (pinned_log new) place fault
IsStop place first new (faults.Loaded before later) = IsTrue (is_kept_in new place) × (before ≡ loads_of first) × (later ≡ loads_of new) × MayBeLoaded first new
IsStop place first new faults.WriteFault = StillKept place first new
IsStop place first new faults.NoMemory = StillKept place first new

-- behind the first call: all of the text, or a front of it
abbrev pub WritesText : ℤ → List Entry → List Entry → Option (List ℕ) → Option (List ℕ) → Result (Unit {0}) ImageWriteFault → Type 0
WritesText place first new written written' (Ok done) = StillKept place first new × Appends written written' (text_at place new)
WritesText place first new written written' (Err fault) = IsStop place first new fault × AppendsFront written written' (text_at place first)

-- the first call gave no image, and nothing was written
abbrev pub WritesNothing : ℤ → List Entry → Option (List ℕ) → Option (List ℕ) → Result (Unit {0}) ImageWriteFault → Type 0
WritesNothing place new written written' (Ok done) = ⊥
WritesNothing place new written written' (Err (faults.Scan fault)) = IsNotThere (pinned_log new) place fault × Keeps written written'
WritesNothing place new written written' (Err (faults.Loaded first later)) = ⊥
WritesNothing place new written written' (Err faults.WriteFault) = ⊥
WritesNothing place new written written' (Err faults.NoMemory) = ⊥

-- the list of the first call goes on from what the seat had seen, and keeps the place; the seat's list goes on from it
pub record WritesFrom (place : ℤ) (old new : List Entry) (written written' : Option (List ℕ)) (result : Result (Unit {0}) ImageWriteFault) : Type 0 where
  pub first : List Entry
  pub behind : GoesOn first old
  pub onward : GoesOn new first
  pub kept : IsTrue (is_kept_in first place)
  pub writes : WritesText place first new written written' result

abbrev pub WritesImage : ℤ → List Entry → List Entry → Option (List ℕ) → Option (List ℕ) → Result (Unit {0}) ImageWriteFault → Type 0
WritesImage place old new written written' result = WritesNothing place new written written' result ⊎ WritesFrom place old new written written' result

-- a seat's part in it, and a sink's
abbrev pub IsReaderFault : ImageWriteFault → Type 0
IsReaderFault (faults.Scan fault) = Unit {0}
IsReaderFault (faults.Loaded first later) = Unit {0}
IsReaderFault faults.WriteFault = ⊥
IsReaderFault faults.NoMemory = Unit {0}

abbrev pub IsPutFault : ImageWriteFault → Type 0
IsPutFault (faults.Scan fault) = ⊥
IsPutFault (faults.Loaded first later) = ⊥
IsPutFault faults.WriteFault = Unit {0}
IsPutFault faults.NoMemory = Unit {0}

-- ---- a walk over the records

abbrev pub walk_from : ℤ → List Entry → Walk
walk_from place list = record { place = place; loads = loads_of list; after = None }

-- the walk goes over the image at its place in the list, which is a valid one
pub record IsOver (w : Walk) (list : List Entry) : Type 0 where
  pub loads : w.loads ≡ loads_of list
  pub kept : IsTrue (is_kept_in list w.place)
  pub natural : pos 0 ≤ℤ w.place
  pub valid : IsValid (image_below w.place list)

-- the next page of it, of a list that goes on
pub record IsNextPage (first later : List Entry) (w w' : Walk) (page : List Record) : Type 0 where
  pub records : page ≡ record_page (image_below w.place first) w.after IMAGE_BATCH
  pub walk : w' ≡ record w { after = keys_behind w.after page }
  pub kept : StillKept w.place first later
