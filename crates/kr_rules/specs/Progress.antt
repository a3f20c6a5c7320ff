-- How far a request has come, on a store whose last kept epoch is where it began.
use Rattle.std.specs.Prelude.{◌≡◌, ◌≤◌, ℕ, ℤ, pos, ◌+ℤ◌, ◌≤ℤ◌, List, [], ◌∷◌, length, Bool, true, false, Some, None, Result, Ok, is_ok, IsErr, sum_by, unwrap_or}
use Rattle.kr_defs.specs.declared.ill.Ill.{Ill}
use Rattle.kr_defs.specs.declared.limits.TheConstants.{MOST_REQUEST_BYTES, MOST_REQUEST_RECORDS, PLACES_END}
use Rattle.kr_defs.specs.declared.record.Record.{Record}
use Rattle.kr_defs.specs.Apply.{apply_record}
use Rattle.kr_defs.specs.Image.{Image, empty}
use Rattle.kr_defs.specs.Sizes.{value_bytes}
use Rattle.kr_calls.specs.Deciding.{Work, apply_records, taken}
use Rattle.kr_store.specs.Images.{Images, last_image}
use Rattle.kr_rules.specs.declared.taking.Extent.{Extent}
use Rattle.kr_rules.specs.declared.taking.Extent.TheVariants as extents

-- the records of a request, from its first place on
pub record Drawn : Type 0 where
  pub start : ℤ
  pub records : List Record

-- their bytes are counted, and no limit is passed
pub record IsCounted (start : ℤ) (records : List Record) (bytes : ℕ) : Type 0 where
  pub counted : bytes ≡ sum_by value_bytes records
  pub little : bytes ≤ MOST_REQUEST_BYTES
  pub few : length records ≤ MOST_REQUEST_RECORDS
  pub low : start ≤ℤ PLACES_END

-- the place behind the records
abbrev pub place_of : Drawn → ℤ
place_of drawn = drawn.start +ℤ pos (length drawn.records)

-- as far as the records lead
abbrev pub work_at : Drawn → Image → Work
work_at drawn image = record { place = place_of drawn; image = image; records = drawn.records }

-- the image of the last kept epoch; the empty one where none is kept
abbrev pub base_of : Images → Image
base_of images = unwrap_or (last_image images) empty

-- the present image is what the records make of that of the last kept epoch
abbrev pub Leads : Images → List Record → Type 0
Leads images records = apply_records (base_of images) records ≡ Ok images.tip

-- the record has a meaning, which is the present image; or nothing has changed
abbrev pub IsApplied : Images → Images → Record → Bool → Type 0
IsApplied before after r true = apply_record before.tip r ≡ Ok after.tip
IsApplied before after r false = IsErr (apply_record before.tip r) × (after ≡ before)

-- the first of the records has a meaning
abbrev pub begins : Image → List Record → Bool
begins image [] = true
begins image (r ∷ records) = is_ok (apply_record image r)

-- all records have a meaning, and lead to the image
abbrev pub Stands : Bool → Result Image Ill → Image → Type 0
Stands true meaning after = meaning ≡ Ok after
Stands false meaning after = IsErr meaning

-- all records have a meaning, which is the present image; or one has none, and where it is the first nothing has changed
abbrev pub Reaches : Images → Images → List Record → Extent → Type 0
Reaches before after records extents.All = apply_records before.tip records ≡ Ok after.tip
Reaches before after records extents.Part = IsErr (apply_records before.tip records) × (begins before.tip records ≡ true)
Reaches before after records extents.Nothing = IsErr (apply_records before.tip records) × (after ≡ before)

-- the records were taken, or nothing has changed
abbrev pub TakesRecords : Work → List Record → Bool → Work → Type 0
TakesRecords before records true after = taken before records ≡ Some after
TakesRecords before records false after = (taken before records ≡ None) × (after ≡ before)
