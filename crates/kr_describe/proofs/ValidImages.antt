-- The images below places of a list are valid.
use Rattle.std.proofs.Common.{ℤ, pos, Bool, true, false, cond, ◌&&◌, not, List, [], ◌∷◌, filter, fold, refl}
use Rattle.std.specs.Prelude.{◌+ℤ◌, int_lt, unsigned_abs, Result, Ok, Err}
use Rattle.std.specs.Ordering.{int_eq}
use Rattle.kr_defs.specs.declared.ill.Ill.{Ill}
use Rattle.kr_defs.specs.declared.limits.TheConstants.{PLACES_END}
use Rattle.kr_defs.specs.declared.record.Record.{Record}
use Rattle.kr_defs.specs.Apply.{apply_record}
use Rattle.kr_defs.specs.Image.{Image, IsValid, empty}
use Rattle.kr_defs.specs.LogStates.{IsValidState, LogState, apply_at, closed}
use Rattle.kr_defs.proofs.StateLogs.{kept_at_place}
use Rattle.kr_defs.proofs.Tests.{Gives, gives_done, gives_then}
use Rattle.kr_defs.proofs.Validity as validity
use Rattle.kr_calls.specs.declared.events.Entry.{Entry}
use Rattle.kr_calls.specs.declared.events.Entry.TheVariants as entries
use Rattle.kr_calls.specs.Deciding.{apply_records}
use Rattle.kr_calls.specs.SeatList.{Reached, image_below, is_below, nothing_reached, reached_with, with_image, with_outcome}

valid_after : (image : Image) (records : List Record) → IsValid image → Gives IsValid (apply_records image records)
valid_after image [] valid = gives_done IsValid image valid
valid_after image (r ∷ records) valid = gives_then IsValid IsValid (apply_record image r) (λ after. apply_records after records) (validity.records image valid r) (λ mid v. valid_after mid records v)

valid_closed : (image : Image) → IsValid image → IsValidState (closed image)
valid_closed image valid = record { image = valid; below = λ opened is. absurd cc }

state_valid : (r : Reached) (end : ℤ) (result : Result LogState Ill) (b : Bool) → IsValidState r.state → Gives IsValidState result → IsValidState (cond b (with_outcome r end result) r).state
state_valid r end (Ok state) true valid gives = gives state refl
state_valid r end (Err cause) true valid gives = valid
state_valid r end result false valid gives = valid

load_valid : (r : Reached) (offset : ℤ) (result : Result Image Ill) (b : Bool) → IsValidState r.state → Gives IsValid result → IsValidState (cond b (with_image r offset result) r).state
load_valid r offset (Ok image) true valid gives = valid_closed image (gives image refl)
load_valid r offset (Err cause) true valid gives = valid
load_valid r offset result false valid gives = valid

module _ (valid_empty : IsValid empty) where
  one_valid : (r : Reached) (e : Entry) → IsValidState r.state → IsValidState (reached_with r e).state
  one_valid r (entries.Item place item) valid = state_valid r (place +ℤ pos 1) (apply_at r.state (unsigned_abs place) item) (int_eq place r.end && int_lt place PLACES_END) valid (kept_at_place r.state (unsigned_abs place) item valid)
  one_valid r (entries.Load offset records) valid = load_valid r offset (apply_records empty records) (not (int_lt offset r.end) && int_lt offset PLACES_END) valid (valid_after empty records valid_empty)
  one_valid r (entries.Pin pin) valid = valid
  one_valid r (entries.Unpin pin) valid = valid
  one_valid r (entries.Answer answer) valid = valid
  one_valid r (entries.Stop number) valid = valid

  all_valid : (r : Reached) (es : List Entry) → IsValidState r.state → IsValidState (fold reached_with r es).state
  all_valid r [] valid = valid
  all_valid r (e ∷ es) valid = all_valid (reached_with r e) es (one_valid r e valid)

  pub image_valid : (place : ℤ) (list : List Entry) → IsValid (image_below place list)
  image_valid place list = (all_valid nothing_reached (filter (is_below place) list) (valid_closed empty valid_empty)).image
