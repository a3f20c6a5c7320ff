-- Pages of the partitions of an image, and when there is none. This project's own.
use Rattle.std.specs.Prelude.{◌≡◌, ℕ, ℤ, Bool, true, int_lt, not, IsTrue, List, [], filter, map, take, MatchResult, Option, Some, None}
use Rattle.core.specs.declared.result.Result.{Result}
use Rattle.std.specs.declared.cmp.Ordering.{Ordering}
use Rattle.std.specs.Ordering.{int_cmp, is_lt, ordering_then}
use Rattle.kr_defs.specs.Image.{Image}
use Rattle.kr_defs.specs.Map.{text_order}
use Rattle.kr_defs.specs.Walk.{Walked, walk}
use Rattle.kr_calls.specs.declared.events.Entry.{Entry}
use Rattle.kr_calls.specs.SeatList.{PinnedLog, image_below, is_place_kept, oldest_place, pinned_log}
use Rattle.kr_view.specs.declared.scans.PageRow.{PageRow}
use Rattle.kr_view.specs.declared.scans.ScanFault.{ScanFault}
use Rattle.kr_view.specs.declared.scans.ScanFault.TheVariants.{Gone, NotKept, NoCopy, NoMemory}
use Rattle.kr_view.specs.declared.scans.ScanKey.{ScanKey}

abbrev pub page_row : Walked → PageRow
page_row w = record { key = record { topic = w.topic; index = w.key.1 }; partition = w.partition }

-- a topic itself has no row
abbrev pub no_heads : List ℕ × ℕ → List PageRow
no_heads topic = []

-- by the topic's name in bytes, then by index
abbrev pub scan_order : ScanKey → ScanKey → Ordering
scan_order x y = ordering_then (text_order x.topic y.topic) (int_cmp x.index y.index)

-- there is no key, or the row stands behind it
abbrev pub is_row_behind : Option ScanKey → PageRow → Bool
is_row_behind None row = true
is_row_behind (Some key) row = is_lt (scan_order key row.key)

-- the first partitions behind the key, in walking order
abbrev pub page_of : Image → Option ScanKey → ℕ → List PageRow
page_of image after max = take max (filter (is_row_behind after) (map page_row (walk image)))

-- ---- where the place isn't kept

-- it stands before the oldest kept one, or else isn't kept; of a copy and of memory a list says nothing
abbrev pub IsNotThere : PinnedLog → ℤ → ScanFault → Type 0
IsNotThere l place (Gone asked oldest) = (asked ≡ place) × (oldest ≡ oldest_place l) × IsTrue (int_lt place oldest)
IsNotThere l place (NotKept asked) = (asked ≡ place) × IsTrue (not (int_lt place (oldest_place l))) × IsTrue (not (is_place_kept l place))
IsNotThere l place NoCopy = Unit {0}
IsNotThere l place NoMemory = Unit {0}

-- it isn't that there was no copy
abbrev pub IsOfCopy : ScanFault → Type 0
IsOfCopy (Gone asked oldest) = Unit {0}
IsOfCopy (NotKept asked) = Unit {0}
IsOfCopy NoCopy = ⊥
IsOfCopy NoMemory = Unit {0}

-- the copy was there
abbrev pub HasCopy : {A : Type 0} → Result A ScanFault → Type 0
HasCopy result = MatchResult result (λ _. Unit {0}) IsOfCopy

-- at a kept place the answer is what the image there gives; at another there is none
abbrev pub AnswersAt : {A : Type 0} → List Entry → ℤ → (Image → A → Type 0) → Result A ScanFault → Type 0
AnswersAt list place Gives result =
    MatchResult result (λ answer. IsTrue (is_place_kept (pinned_log list) place) × Gives (image_below place list) answer) (IsNotThere (pinned_log list) place)

abbrev pub IsPage : Option ScanKey → ℕ → Image → List PageRow → Type 0
IsPage after max image page = page ≡ page_of image after max
