-- What a store holds that stands at the end of a list of entries, with pins. This project's own.
use Rattle.std.specs.Prelude.{◌≡◌, ◌⊎◌, ℤ, negsuc, int_lt, Bool, true, false, IsTrue, Result, Ok, IsErr, IfSome, IsSome, Option, Some, None, List, [], ◌∷◌, ◌++◌, fold}
use Rattle.std.specs.List.{AllByRecursion}
use Rattle.kr_defs.specs.declared.ill.Ill.{Ill}
use Rattle.kr_defs.specs.declared.record.Record.{Record}
use Rattle.kr_defs.specs.Image.{Image}
use Rattle.kr_calls.specs.declared.events.Entry.{Entry}
use Rattle.kr_calls.specs.declared.events.Entry.TheVariants as entries
use Rattle.kr_calls.specs.declared.pins.Pin.{Pin}
use Rattle.kr_calls.specs.SeatList.{PinnedLog, Reached, with_item, with_load}
use Rattle.kr_store.specs.Images.{Images, IsAbove, kept_at, kept_once, last_kept, tip_state}

-- the image, where all records had a meaning
abbrev pub StandsIf : Bool → Result Image Ill → Image → Type 0
StandsIf true result image = result ≡ Ok image
StandsIf false result image = IsErr result

-- an entry of a run
abbrev pub run_with : Reached → Entry → Reached
run_with r (entries.Item place item) = with_item r place item
run_with r (entries.Load offset records) = r
run_with r (entries.Pin pin) = r
run_with r (entries.Unpin pin) = r
run_with r (entries.Answer answer) = r
run_with r (entries.Stop number) = r

-- the pins stay
abbrev pub with_run : PinnedLog → List Entry → PinnedLog
with_run l run = record l { at = fold run_with l.at run }

-- ---- transactions that were open at kept epochs

-- a transaction that is open later was open at the epoch too, or began behind it, or at it where none was open
abbrev pub OpensFrom : ℤ × Option ℤ → ℤ → Type 0
OpensFrom kept begin = (kept.1 ≡ Some begin) ⊎ (IsTrue (int_lt kept.0 begin) ⊎ ((kept.1 ≡ None) × (kept.0 ≡ begin)))

-- of epochs in order, each with the place of the transaction that was open there
abbrev pub AreInTurn : List (ℤ × Option ℤ) → Type 0
AreInTurn [] = Unit {0}
AreInTurn (kept ∷ later) = AllByRecursion (λ (l : ℤ × Option ℤ). IfSome l.1 (OpensFrom kept)) later × AreInTurn later

abbrev pub AreNatural : List (ℤ × Image) → Type 0
AreNatural kept = AllByRecursion (λ (k : ℤ × Image). int_lt (negsuc 0) k.0 ≡ true) kept

-- ---- where a store stands

-- the end is a place, and the last kept epoch, under which the present state is kept; the pinned places are kept
pub record IsStandingAt (store : Images) (end : ℤ) (pins : List Pin) : Type 0 where
  pub earlier : List (ℤ × Image)
  pub kept : store.kept ≡ earlier ++ (end, store.tip) ∷ []
  pub above : AllByRecursion (λ (k : ℤ × Image). int_lt k.0 end ≡ true) earlier
  pub from : int_lt (negsuc 0) end ≡ true
  pub natural : AreNatural earlier
  pub pinned : AllByRecursion (λ pin. IsSome (kept_at store pin.place)) pins
  pub earlier_begun : List (ℤ × Option ℤ)
  pub begun : store.kept_begun ≡ earlier_begun ++ (end, store.begun) ∷ []
  pub in_turn : AreInTurn store.kept_begun

-- a place is the last kept epoch, under which the present state is kept
pub record IsLastKept (store : Images) (at : ℤ) : Type 0 where
  pub last : last_kept store ≡ Some (at, store.tip)
  pub earlier_begun : List (ℤ × Option ℤ)
  pub begun : store.kept_begun ≡ earlier_begun ++ (at, store.begun) ∷ []

-- in a run, at a place, which is above the kept epochs, or the last of them
pub record IsRunningAt (store : Images) (at : ℤ) : Type 0 where
  pub some : IsSome (last_kept store)
  pub place : IsAbove store.kept at ⊎ IsLastKept store at
  pub from : int_lt (negsuc 0) at ≡ true
  pub natural : AreNatural store.kept
  pub in_turn : AreInTurn (store.kept_begun ++ (at, store.begun) ∷ [])

-- a run came to a place: it stands where it stood, or above all that is kept
pub record ComesTo (before after : Images) (from to : ℤ) : Type 0 where
  pub running : IsRunningAt after to
  pub moved : ((to ≡ from) × (after ≡ before)) ⊎ IsAbove after.kept to

-- what was kept is kept, and besides what came in a run
pub record KeepsMore (before after : Images) : Type 0 where
  pub more : List (ℤ × Image)
  pub kept : after.kept ≡ before.kept ++ more
  pub more_begun : List (ℤ × Option ℤ)
  pub begun : after.kept_begun ≡ before.kept_begun ++ more_begun

-- the store of an image in place of all at the offset, and none where it doesn't count
abbrev pub Loads : Reached → ℤ → List Record → Option Images → Type 0
Loads r offset records None = with_load r offset records ≡ r
Loads r offset records (Some store) = (with_load r offset records ≡ record { state = tip_state store; end = offset }) × (store ≡ kept_once offset store.tip) × (int_lt (negsuc 0) offset ≡ true)
