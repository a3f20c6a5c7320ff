-- Lists that begin no transaction leave none open.
use Rattle.std.proofs.Common.{◌≡◌, ◌∙◌, ℤ, pos, Bool, true, false, true≢false, ◌&&◌, cond, not, List, [], ◌∷◌, ◌++◌, fold, refl, subst, sym}
use Rattle.std.specs.Prelude.{◌+ℤ◌, int_lt, unsigned_abs, None, Result, Ok, Err}
use Rattle.std.specs.List.{AllByRecursion}
use Rattle.std.specs.Ordering.{int_eq}
use Rattle.std.proofs.lemmas.List.Sums.{fold-append}
use Rattle.kr_defs.specs.declared.ill.Ill.{Ill}
use Rattle.kr_defs.specs.declared.limits.TheConstants.{PLACES_END}
use Rattle.kr_defs.specs.declared.record.Item.{Item}
use Rattle.kr_defs.specs.declared.record.Item.TheVariants as items
use Rattle.kr_defs.specs.declared.record.Record.TheVariants as kinds
use Rattle.kr_defs.specs.Image.{Image, empty}
use Rattle.kr_defs.specs.LogStates.{LogState, apply_at}
use Rattle.kr_calls.specs.declared.events.Entry.{Entry}
use Rattle.kr_calls.specs.declared.events.Entry.TheVariants as entries
use Rattle.kr_calls.specs.Deciding.{apply_records}
use Rattle.kr_calls.specs.SeatList.{IsClosedList, Reached, nothing_reached, reached, reached_with, with_image, with_outcome}
use Rattle.kr_view.specs.Staged.{is_begin, is_begin_item}
use Rattle.kr_view.proofs.OpenTransactions.{abort_closes, end_closes, other_leaves}

abbrev IsClosed : LogState → Type 0
IsClosed state = state.opened ≡ None

item_closed : (state after : LogState) (item : Item) (place : Rattle.std.specs.Prelude.ℕ) → is_begin_item item ≡ false → IsClosed state → apply_at state place item ≡ Ok after → IsClosed after
unfolding apply_at
item_closed state after (items.Record (kinds.BeginTransaction name)) place plain closed is = absurd (true≢false plain)
item_closed state after (items.Record kinds.EndTransaction) place plain closed is = end_closes state after is
item_closed state after (items.Record (kinds.AbortTransaction reason)) place plain closed is = abort_closes state after is
item_closed state after item place plain closed is = other_leaves state item after is ∙ closed

with_closed : (r : Reached) (end : ℤ) (result : Result LogState Ill) (b : Bool) → IsClosed r.state → ((after : LogState) → result ≡ Ok after → IsClosed after) → IsClosed (cond b (with_outcome r end result) r).state
with_closed r end (Ok after) true closed step = step after refl
with_closed r end (Err cause) true closed step = closed
with_closed r end result false closed step = closed

load_closed : (r : Reached) (offset : ℤ) (result : Result Image Ill) (b : Bool) → IsClosed r.state → IsClosed (cond b (with_image r offset result) r).state
load_closed r offset (Ok image) true closed = refl
load_closed r offset (Err cause) true closed = closed
load_closed r offset result false closed = closed

one_closed : (r : Reached) (e : Entry) → is_begin e ≡ false → IsClosed r.state → IsClosed (reached_with r e).state
one_closed r (entries.Item place item) plain closed =
    with_closed r (place +ℤ pos 1) (apply_at r.state (unsigned_abs place) item) (int_eq place r.end && int_lt place PLACES_END) closed (λ after is. item_closed r.state after item (unsigned_abs place) plain closed is)
one_closed r (entries.Load offset records) plain closed = load_closed r offset (apply_records empty records) (not (int_lt offset r.end) && int_lt offset PLACES_END) closed
one_closed r (entries.Pin pin) plain closed = closed
one_closed r (entries.Unpin pin) plain closed = closed
one_closed r (entries.Answer answer) plain closed = closed
one_closed r (entries.Stop number) plain closed = closed

all_closed : (r : Reached) (es : List Entry) → AllByRecursion (λ e. is_begin e ≡ false) es → IsClosed r.state → IsClosed (fold reached_with r es).state
all_closed r [] plain closed = closed
all_closed r (e ∷ es) plain closed = all_closed (reached_with r e) es plain.1 (one_closed r e plain.0 closed)

pub stays_closed : (list more : List Entry) → IsClosedList list → AllByRecursion (λ e. is_begin e ≡ false) more → IsClosedList (list ++ more)
stays_closed list more closed plain = subst (λ (r : Reached). IsClosed r.state) (sym (fold-append reached_with nothing_reached list more)) (all_closed (reached list) more plain closed)
