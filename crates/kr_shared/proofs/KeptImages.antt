-- What the lists of a seat have at a place that is kept.
use Rattle.std.proofs.Common.{◌≡◌, ◌∙◌, ℕ, ℤ, pos, ◌+◌, ◌<◌, ◌≤◌, ◌-◌, ◌^◌, min, Bool, true, false, cond, ◌&&◌, ◌||◌, not, List, [], ◌∷◌, ◌++◌, filter, fold, map, refl, sym, ap, subst, inl, inr, arith}
use Rattle.std.specs.Prelude.{◌+ℤ◌, ◌≤ℤ◌, IsTrue, int_lt, unsigned_abs, Result, Ok, Err}
use Rattle.std.specs.List.{AllByRecursion, list_any}
use Rattle.std.specs.Ordering.{int_eq}
use Rattle.std.proofs.lemmas.Bool.Decides.{Decides-int_eq}
use Rattle.std.proofs.lemmas.Int.{ints}
use Rattle.std.proofs.lemmas.List.Sums.{fold-append}
use Rattle.kr_base.specs.Causes.{raised}
use Rattle.kr_defs.specs.declared.ill.Ill.{Ill}
use Rattle.kr_defs.specs.declared.limits.TheConstants.{PLACES_END}
use Rattle.kr_defs.specs.Image.{Image, IsValid, empty}
use Rattle.kr_defs.specs.LogStates.{IsValidState, LogState, apply_at, closed}
use Rattle.kr_defs.proofs.StateLogs.{kept_at_place}
use Rattle.kr_defs.proofs.Tests.{Gives}
use Rattle.kr_calls.specs.declared.events.Entry.{Entry}
use Rattle.kr_calls.specs.declared.events.Entry.TheVariants as entries
use Rattle.kr_calls.specs.declared.pins.Pin.{Pin}
use Rattle.kr_calls.specs.Deciding.{apply_records}
use Rattle.kr_calls.specs.SeatList.{PinnedLog, Reached, image_below, is_below, is_kept_in, is_load, is_pinned, is_place_kept, is_same_pin, loads_of, loads_with, nothing_pinned, nothing_reached, pinned_log, pinned_with, pins_in, pins_with, reached_with, with_image, with_item, with_load, with_pin, with_outcome, without_pin}
use Rattle.kr_calls.specs.SeatListLaws.{KeptImagesStay}
use Rattle.law_safety.proofs.SafeRequests.{valid_after}
use Rattle.kr_view.specs.CopiesRule.{GoesOn}
use Rattle.kr_shared.specs.ImageWrites.{StillKept}

-- ---- they are valid

valid_closed : (image : Image) → IsValid image → IsValidState (closed image)
valid_closed image valid = record { image = valid; below = λ opened is. absurd cc }

state_valid : (r : Reached) (end : ℤ) (result : Result LogState Ill) (b : Bool) → IsValidState r.state → Gives IsValidState result → IsValidState (cond b (with_outcome r end result) r).state
state_valid r end (Ok state) true valid gives = gives state refl
state_valid r end (Err cause) true valid gives = valid
state_valid r end result false valid gives = valid

load_valid : (r : Reached) (offset : ℤ) (result : Result Image Ill) (b : Bool) → IsValidState r.state → Gives IsValid result → IsValidState (cond b (with_image r offset result) r).state
load_valid r offset (Ok image) true valid gives = valid_closed image (gives image refl)
load_valid r offset (Err cause) true valid gives = valid
load_valid r offset result false valid gives = valid

module _ (valid_empty : IsValid empty) where
  one_valid : (r : Reached) (e : Entry) → IsValidState r.state → IsValidState (reached_with r e).state
  one_valid r (entries.Item place item) valid = state_valid r (place +ℤ pos 1) (apply_at r.state (unsigned_abs place) item) (int_eq place r.end && int_lt place PLACES_END) valid (kept_at_place r.state (unsigned_abs place) item valid)
  one_valid r (entries.Load offset records) valid = load_valid r offset (apply_records empty records) (not (int_lt offset r.end) && int_lt offset PLACES_END) valid (valid_after empty records valid_empty)
  one_valid r (entries.Pin pin) valid = valid
  one_valid r (entries.Unpin pin) valid = valid
  one_valid r (entries.Answer answer) valid = valid
  one_valid r (entries.Stop number) valid = valid

  all_valid : (r : Reached) (es : List Entry) → IsValidState r.state → IsValidState (fold reached_with r es).state
  all_valid r [] valid = valid
  all_valid r (e ∷ es) valid = all_valid (reached_with r e) es (one_valid r e valid)

  pub image_valid : (place : ℤ) (list : List Entry) → IsValid (image_below place list)
  image_valid place list = (all_valid nothing_reached (filter (is_below place) list) (valid_closed empty valid_empty)).image

-- ---- their places aren't negative

abbrev Natural : ℤ → Type 0
Natural place = pos 0 ≤ℤ place

next_natural : (place end : ℤ) → int_eq place end ≡ true → Natural end → Natural (place +ℤ pos 1)
next_natural place end is natural = let same : place ≡ end = (Decides-int_eq place end).0 is in omega (arith, ints, same, natural)

later_natural : (offset end : ℤ) → int_lt offset end ≡ false → Natural end → Natural offset
later_natural offset end low natural = grind (arith, ints)

item_natural : (r : Reached) (place : ℤ) (result : Result LogState Ill) (at low : Bool) → int_eq place r.end ≡ at → Natural r.end → Natural (cond (at && low) (with_outcome r (place +ℤ pos 1) result) r).end
item_natural r place (Ok state) true true is natural = next_natural place r.end is natural
item_natural r place (Err cause) true true is natural = natural
item_natural r place result true false is natural = natural
item_natural r place result false low is natural = natural

load_natural : (r : Reached) (offset : ℤ) (result : Result Image Ill) (below low : Bool) → int_lt offset r.end ≡ below → Natural r.end → Natural (cond (not below && low) (with_image r offset result) r).end
load_natural r offset (Ok image) false true is natural = later_natural offset r.end is natural
load_natural r offset (Err cause) false true is natural = natural
load_natural r offset result false false is natural = natural
load_natural r offset result true low is natural = natural

end_natural : (r : Reached) (e : Entry) → Natural r.end → Natural (reached_with r e).end
end_natural r (entries.Item place item) natural = item_natural r place (apply_at r.state (unsigned_abs place) item) (int_eq place r.end) (int_lt place PLACES_END) refl natural
end_natural r (entries.Load offset records) natural = load_natural r offset (apply_records empty records) (int_lt offset r.end) (int_lt offset PLACES_END) refl natural
end_natural r (entries.Pin pin) natural = natural
end_natural r (entries.Unpin pin) natural = natural
end_natural r (entries.Answer answer) natural = natural
end_natural r (entries.Stop number) natural = natural

abbrev NaturalPins : List (Pin × Image) → Type 0
NaturalPins pinned = AllByRecursion (λ (p : Pin × Image). Natural p.0.place) pinned

push_natural : (pinned : List (Pin × Image)) (p : Pin × Image) → NaturalPins pinned → Natural p.0.place → NaturalPins (pinned ++ p ∷ [])
push_natural [] p all new = (new, tt)
push_natural (x ∷ xs) p all new = (all.0, push_natural xs p all.1 new)

fewer_natural : (q : Pin × Image → Bool) (pinned : List (Pin × Image)) → NaturalPins pinned → NaturalPins (filter q pinned)
fewer_natural q [] all = tt
fewer_natural q (p ∷ ps) all = elim (q p) as (λ b. NaturalPins (cond b (p ∷ filter q ps) (filter q ps))) [ true ↦ (all.0, fewer_natural q ps all.1) | false ↦ fewer_natural q ps all.1 ]

pin_natural : (r : Reached) (pinned : List (Pin × Image)) (pin : Pin) (here new : Bool) → int_eq pin.place r.end ≡ here → Natural r.end → NaturalPins pinned → NaturalPins (cond (here && new) (pinned ++ (pin, r.state.image) ∷ []) pinned)
pin_natural r pinned pin true true is natural all =
    let same : pin.place ≡ r.end = (Decides-int_eq pin.place r.end).0 is in
    push_natural pinned (pin, r.state.image) all (subst Natural (sym same) natural)
pin_natural r pinned pin true false is natural all = all
pin_natural r pinned pin false new is natural all = all

pins_natural : (r : Reached) (pinned : List (Pin × Image)) (e : Entry) → Natural r.end → NaturalPins pinned → NaturalPins (pins_with r pinned e)
pins_natural r pinned (entries.Item place item) natural all = all
pins_natural r pinned (entries.Load offset records) natural all = tt
pins_natural r pinned (entries.Pin pin) natural all = pin_natural r pinned pin (int_eq pin.place r.end) (not (is_pinned (pins_in pinned) pin)) refl natural all
pins_natural r pinned (entries.Unpin pin) natural all = fewer_natural (λ (p : Pin × Image). not (is_same_pin pin p.0)) pinned all
pins_natural r pinned (entries.Answer answer) natural all = all
pins_natural r pinned (entries.Stop number) natural all = all

all_natural : (l : PinnedLog) (es : List Entry) → Natural l.at.end → NaturalPins l.pinned → Natural (fold pinned_with l es).at.end × NaturalPins (fold pinned_with l es).pinned
all_natural l [] natural all = (natural, all)
all_natural l (e ∷ es) natural all = all_natural (pinned_with l e) es (end_natural l.at e natural) (pins_natural l.at l.pinned e natural all)

named_natural : (place : ℤ) (pinned : List (Pin × Image)) → NaturalPins pinned → list_any (λ pin. int_eq pin.place place) (pins_in pinned) ≡ true → Natural place
named_natural place [] all is = absurd cc
named_natural place (p ∷ ps) all is =
    elim (int_eq p.0.place place) as (λ b. int_eq p.0.place place ≡ b → (b || list_any (λ pin. int_eq pin.place place) (pins_in ps)) ≡ true → Natural place) [
      | true ↦ λ same any. subst Natural ((Decides-int_eq p.0.place place).0 same) all.0
      | false ↦ λ other any. named_natural place ps all.1 any
    ] refl is

kept_natural : (l : PinnedLog) (place : ℤ) → Natural l.at.end → NaturalPins l.pinned → is_place_kept l place ≡ true → Natural place
kept_natural l place natural all is =
    elim (int_eq place l.at.end) as (λ b. int_eq place l.at.end ≡ b → (b || list_any (λ pin. int_eq pin.place place) (pins_in l.pinned)) ≡ true → Natural place) [
      | true ↦ λ same any. subst Natural (sym ((Decides-int_eq place l.at.end).0 same)) natural
      | false ↦ λ other any. named_natural place l.pinned all any
    ] refl is

pub place_natural : (place : ℤ) (list : List Entry) → IsTrue (is_kept_in list place) → pos 0 ≤ℤ place
place_natural place list kept =
    let both = all_natural nothing_pinned list (omega (arith, ints)) tt in
    kept_natural (pinned_log list) place both.0 both.1 kept

-- ---- where their number stays, no image came in place of all

abbrev most : ℕ
most = 2 ^ 64 - 1

raised_most : (n : ℕ) → raised n ≤ most
raised_most n = omega arith

one_more : (n : ℕ) (e : Entry) → n ≤ most → n ≤ loads_with n e
one_more n e few = elim (is_load e) as (λ b. n ≤ cond b (raised n) n) [ true ↦ omega (arith, few) | false ↦ omega arith ]

one_most : (n : ℕ) (e : Entry) → n ≤ most → loads_with n e ≤ most
one_most n e few = elim (is_load e) as (λ b. cond b (raised n) n ≤ most) [ true ↦ omega arith | false ↦ few ]

loads_most : (n : ℕ) (es : List Entry) → n ≤ most → fold loads_with n es ≤ most
loads_most n [] few = few
loads_most n (e ∷ es) few = loads_most (loads_with n e) es (one_most n e few)

loads_rise : (n : ℕ) (es : List Entry) → n ≤ most → n ≤ fold loads_with n es
loads_rise n [] few = omega arith
loads_rise n (e ∷ es) few =
    let first = one_more n e few in
    let rest = loads_rise (loads_with n e) es (one_most n e few) in
    omega (arith, first, rest)

no_loads : (n : ℕ) (es : List Entry) → fold loads_with n es ≡ n → n < most → AllByRecursion (λ e. is_load e ≡ false) es
no_loads n [] same few = tt
no_loads n (e ∷ es) same few =
    elim (is_load e) as (λ b. is_load e ≡ b → fold loads_with (cond b (raised n) n) es ≡ n → AllByRecursion (λ e. is_load e ≡ false) (e ∷ es)) [
      | true ↦ λ is raises. let up = loads_rise (raised n) es (raised_most n) in absurd (omega (arith, up, raises, few))
      | false ↦ λ is stays. (is, no_loads n es stays few)
    ] refl same

-- the image at the place stays
pub still_kept : KeptImagesStay → (place : ℤ) (first later : List Entry) → IsTrue (is_kept_in first place) → GoesOn later first → IsTrue (is_kept_in later place) → loads_of later ≡ loads_of first → loads_of later < most → StillKept place first later
still_kept stay place first later before on kept same few =
    let folded : fold loads_with (loads_of first) on.0 ≡ loads_of first = sym (fold-append loads_with 0 first on.0) ∙ ap loads_of (sym on.1) ∙ same in
    let fewer : loads_of first < most = omega (arith, few, same) in
    record {
      kept = kept;
      image = ap (image_below place) on.1 ∙ stay first on.0 place before (no_loads (loads_of first) on.0 folded fewer);
      loads = same;
      few = few;
    }

pub ruleset same_images = (still_kept)
