-- Items in order that all have a meaning all count.
use Rattle.std.proofs.Common.{◌≡◌, ℕ, suc, ◌+◌, ℤ, pos, true, ◌&&◌, cond, List, [], ◌∷◌, length, fold, refl, sym, ap, subst, ◌∙◌, arith}
use Rattle.std.proofs.lemmas.Bool.Decides.{Decides-int_eq, nat_tests}
use Rattle.std.proofs.lemmas.Int.{ints}
use Rattle.std.specs.Prelude.{◌+ℤ◌, ◌≤ℤ◌, int_lt, Result, Ok, Err}
use Rattle.std.specs.Ordering.{int_eq}
use Rattle.kr_defs.specs.declared.ill.Ill.{Ill}
use Rattle.kr_defs.specs.declared.limits.TheConstants.{PLACES_END}
use Rattle.kr_defs.specs.declared.record.Item.{Item}
use Rattle.kr_defs.specs.Guard.{and_then}
use Rattle.kr_defs.specs.LogStates.{LogState, apply_all_at, apply_at}
use Rattle.kr_calls.specs.SeatList.{Reached, item_entries, reached_with, with_outcome}

next_place : (place n : ℕ) → (place + 1) + n ≡ place + suc n
next_place place n = omega arith

is_low : (place n : ℕ) → pos (place + suc n) ≤ℤ PLACES_END → int_lt (pos place) PLACES_END ≡ true
is_low place n low = grind (arith, ints, nat_tests)

abbrev at : LogState → ℕ → Reached
at state place = record { state = state; end = pos place }

stands : (place : ℕ) → int_lt (pos place) PLACES_END ≡ true → (int_eq (pos place) (pos place) && int_lt (pos place) PLACES_END) ≡ true
stands place low = ap (λ b. b && int_lt (pos place) PLACES_END) ((Decides-int_eq (pos place) (pos place)).1 refl) ∙ low

pub all_count : (state after : LogState) (place : ℕ) (items : List Item) → apply_all_at state place items ≡ Ok after → pos (place + length items) ≤ℤ PLACES_END
    → fold reached_with (at state place) (item_entries (pos place) items) ≡ at after (place + length items)
all_count state after place [] all low =
    let same : state ≡ after = cc in
    let end : place ≡ place + 0 = omega arith in
    ap (λ s. at s place) same ∙ ap (λ n. at after n) end
all_count state after place (x ∷ xs) all low =
    elim (apply_at state place x) as (λ (res : Result LogState Ill). and_then res (λ next. apply_all_at next (place + 1) xs) ≡ Ok after
    → fold reached_with (cond (int_eq (pos place) (pos place) && int_lt (pos place) PLACES_END) (with_outcome (at state place) (pos place +ℤ pos 1) res) (at state place)) (item_entries (pos (place + 1)) xs) ≡ at after (place + suc (length xs))) [
      | Ok next ↦ λ h.
          ap (λ b. fold reached_with (cond b (at next (place + 1)) (at state place)) (item_entries (pos (place + 1)) xs)) (stands place (is_low place (length xs) low))
          ∙ (all_count next after (place + 1) xs h (subst (λ n. pos n ≤ℤ PLACES_END) (sym (next_place place (length xs))) low)
          ∙ ap (λ n. at after n) (next_place place (length xs)))
      | Err cause ↦ λ h. absurd cc
    ] all
