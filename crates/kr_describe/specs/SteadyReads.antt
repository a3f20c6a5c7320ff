-- Calls of a reader that see one image. This project's own.
use Rattle.std.specs.Prelude.{◌≡◌, ◌⊎◌, ℕ, ℤ, ◌<◌, ◌^◌, ◌-◌, FitsSigned, IsTrue, List, MatchResult}
use Rattle.std.specs.Int.{w64}
use Rattle.core.specs.declared.result.Result.{Result}
use Rattle.kr_base.specs.Causes.{Rose}
use Rattle.kr_calls.specs.declared.events.Entry.{Entry}
use Rattle.kr_calls.specs.SeatList.{image_below, is_kept_in, loads_of, pinned_log}
use Rattle.kr_defs.specs.Image.{Image, IsValid}
use Rattle.kr_view.specs.CopiesRule.{GoesOn}
use Rattle.kr_view.specs.Readers.{Reading}
use Rattle.kr_view.specs.Scans.{IsNotThere}
use Rattle.kr_view.specs.declared.scans.ScanFault.TheVariants as scans
use Rattle.kr_view.specs.Seats.{Onward}
use Rattle.kr_describe.specs.declared.steady.PageFault.{PageFault}
use Rattle.kr_describe.specs.declared.steady.PageFault.TheVariants as faults
use Rattle.kr_describe.specs.declared.steady.Steady.{Steady}

-- ---- what calls leave

-- calls one after the other: each leaves all but what the reader has seen
pub data Calls {A : Type 0} (reading : A → Reading) (with_reading : A → Reading → A) : A → A → Type 0 where
  none : (a : A) → Calls reading with_reading a a
  one_more : (a b c : A) → Calls reading with_reading a b → c ≡ with_reading b (reading c) → Calls reading with_reading a c

-- no copy only where the count rose, and else it stays
abbrev pub IsPageCause : Reading → Reading → PageFault → Type 0
IsPageCause old new (faults.Scan (scans.Gone asked oldest)) = new.misses ≡ old.misses
IsPageCause old new (faults.Scan (scans.NotKept asked)) = new.misses ≡ old.misses
IsPageCause old new (faults.Scan scans.NoCopy) = Rose old.misses new.misses
IsPageCause old new (faults.Scan scans.NoMemory) = new.misses ≡ old.misses
IsPageCause old new (faults.Loaded before later) = new.misses ≡ old.misses
IsPageCause old new faults.NoMemory = new.misses ≡ old.misses

abbrev pub HasPageCause : {T : Type 0} → Reading → Reading → Result T PageFault → Type 0
HasPageCause old new result = MatchResult result (λ _. new.misses ≡ old.misses) (IsPageCause old new)

-- another number of images in place of all, or the greatest u64, where it stands still
abbrev pub IsOtherCount : ℕ → ℕ → Type 0
IsOtherCount first later = (later ≡ first → ⊥) ⊎ (later ≡ 2 ^ 64 - 1)

-- one may have come between two lists
abbrev pub MayDiffer : List Entry → List Entry → Type 0
MayDiffer first later = IsOtherCount (loads_of first) (loads_of later)

-- none came, and so the place, which is kept in the later list too, has the image of the first one there
pub record StaysKept (place : ℤ) (first later : List Entry) : Type 0 where
  pub kept : IsTrue (is_kept_in later place)
  pub image : image_below place later ≡ image_below place first
  pub loads : loads_of later ≡ loads_of first
  pub few : loads_of later < 2 ^ 64 - 1

-- ---- behind the first call

abbrev pub steady_image : Steady → Reading → Image
steady_image s r = image_below s.place r.seen.list

-- the place is kept in the list, whose images in place of all can be told by their number
pub record IsSteady (s : Steady) (r : Reading) : Type 0 where
  pub fits : FitsSigned w64 s.place
  pub kept : IsTrue (is_kept_in r.seen.list s.place)
  pub loads : s.loads ≡ loads_of r.seen.list
  pub few : s.loads < 2 ^ 64 - 1
  pub valid : IsValid (steady_image s r)

-- why a later call gave nothing of the image that the first one found
abbrev pub IsUnsteady : ℤ → List Entry → List Entry → PageFault → Type 0
IsUnsteady place first new (faults.Scan fault) = IsNotThere (pinned_log new) place fault
IsUnsteady place first new (faults.Loaded before later) = IsTrue (is_kept_in new place) × (before ≡ loads_of first) × (later ≡ loads_of new) × MayDiffer first new
IsUnsteady place first new faults.NoMemory = StaysKept place first new

-- what any number of them leave: the image at the place, or why they ended
pub record GoesSteadily {A T : Type 0} (reading : A → Reading) (with_reading : A → Reading → A) (s : Steady) (old new : A) (result : Result T PageFault) : Type 0 where
  pub calls : Calls reading with_reading old new
  pub onward : Onward (reading old).seen (reading new).seen
  pub cause : HasPageCause (reading old) (reading new) result
  pub ends : MatchResult result (λ _. StaysKept s.place (reading old).seen.list (reading new).seen.list) (IsUnsteady s.place (reading old).seen.list (reading new).seen.list)

-- ---- from the first call on

-- some call saw the one list and a later one the other
pub record WasLoaded (old new : List Entry) (before later : ℕ) : Type 0 where
  pub first : List Entry
  pub behind : GoesOn first old
  pub onward : GoesOn new first
  pub counted_first : before ≡ loads_of first
  pub counted_new : later ≡ loads_of new
  pub loaded : MayDiffer first new

-- why there is no page
abbrev pub IsPageStop : ℤ → List Entry → List Entry → PageFault → Type 0
IsPageStop place old new (faults.Scan fault) = IsNotThere (pinned_log new) place fault
IsPageStop place old new (faults.Loaded before later) = IsTrue (is_kept_in new place) × WasLoaded old new before later
IsPageStop place old new faults.NoMemory = IsTrue (is_kept_in new place)
