-- An image in place of all.
use Rattle.std.proofs.Common.{◌≡◌, ◌∙◌, ℤ, Bool, true, false, true≢false, cond, not, ◌&&◌, List, [], refl, sym, ap, subst, arith}
use Rattle.std.specs.Prelude.{Option, Some, None, negsuc, int_lt, IsErr, MatchOption, Result, Ok, Err}
use Rattle.std.proofs.lemmas.Int.{ints}
use Rattle.kr_defs.specs.declared.ill.Ill.{Ill}
use Rattle.kr_defs.specs.declared.limits.TheConstants.{PLACES_END}
use Rattle.kr_defs.specs.declared.record.Record.{Record}
use Rattle.kr_defs.specs.Image.{Image, empty}
use Rattle.kr_defs.specs.LogStates.{LogState, closed}
use Rattle.kr_defs.proofs.Tests.{both, not_true}
use Rattle.kr_calls.specs.Deciding.{apply_records}
use Rattle.kr_calls.specs.SeatList.{Reached, with_image, with_load}
use Rattle.kr_store.specs.Images.{Images, kept_once, tip_state}
use Rattle.kr_view.specs.Standing.{IsStandingAt, Loads}
use Rattle.kr_view.proofs.Kept.{none_stand, once_stands}

not_before : (end offset : ℤ) → int_lt (negsuc 0) end ≡ true → int_lt offset end ≡ false → int_lt (negsuc 0) offset ≡ true
not_before end offset from up = grind (arith, ints)

without_meaning : (r : Reached) (offset : ℤ) (result : Result Image Ill) → IsErr result → with_image r offset result ≡ r
without_meaning r offset (Ok image) err = absurd (true≢false (sym err))
without_meaning r offset (Err cause) err = refl

abbrev counts : Reached → ℤ → Bool
counts r offset = not (int_lt offset r.end) && int_lt offset PLACES_END

-- it may count only above the places before the log
pub from_start : (r : Reached) (offset : ℤ) → int_lt (negsuc 0) r.end ≡ true → counts r offset ≡ true → int_lt (negsuc 0) offset ≡ true
from_start r offset from up = not_before r.end offset from (not_true (int_lt offset r.end) (both (not (int_lt offset r.end)) (int_lt offset PLACES_END) up).0)

pub not_loaded : (r : Reached) (offset : ℤ) (records : List Record) → counts r offset ≡ false → with_load r offset records ≡ r
not_loaded r offset records off = ap (λ b. cond b (with_image r offset (apply_records empty records)) r) off

pub loaded : (r : Reached) (offset : ℤ) (records : List Record) (made : Option Images) → int_lt (negsuc 0) r.end ≡ true → counts r offset ≡ true
    → MatchOption made (IsErr (apply_records empty records)) (λ (s : Images). (apply_records empty records ≡ Ok s.tip) × (s ≡ kept_once offset s.tip)) → Loads r offset records made
loaded r offset records None from up err =
    ap (λ b. cond b (with_image r offset (apply_records empty records)) r) up ∙ without_meaning r offset (apply_records empty records) err
loaded r offset records (Some store) from up is =
    let none_open : tip_state store ≡ closed store.tip = ap tip_state is.1 in (
      ap (λ b. cond b (with_image r offset (apply_records empty records)) r) up ∙ ap (with_image r offset) is.0 ∙ ap (λ (s : LogState). record { state = s; end = offset }) (sym none_open),
      is.1,
      from_start r offset from up,
    )

pub loaded_stands : (store : Images) (offset : ℤ) → store ≡ kept_once offset store.tip → int_lt (negsuc 0) offset ≡ true → IsStandingAt store offset []
loaded_stands store offset is from = subst (λ (x : Images). IsStandingAt x offset []) (sym is) (once_stands offset store.tip from)

pub ruleset loads = (none_stand, loaded_stands)
