-- What a found entry tells of a pin or an unpin.
use Rattle.std.proofs.Common.{◌≡◌, ◌∙◌, ◌∷◌, ◌++◌, ℕ, ℤ, List, subst, sym, ap, refl, append_assoc, true}
use Rattle.std.specs.Prelude.{IfOk, IfErr, Result, Ok, Err}
use Rattle.kr_calls.specs.declared.answers.Answer.{Answer}
use Rattle.kr_calls.specs.declared.events.Entry.{Entry}
use Rattle.kr_calls.specs.declared.events.Entry.TheVariants as entries
use Rattle.kr_calls.specs.declared.pins.Pin.{Pin}
use Rattle.kr_calls.specs.declared.seat_entry.SeatEntry.{SeatEntry}
use Rattle.kr_calls.specs.declared.seat_entry.SeatEntry.TheVariants as told
use Rattle.kr_calls.specs.SeatList.{is_kept_in}
use Rattle.kr_calls.proofs.KeptPlaces.{pins_stay}
use Rattle.kr_view.specs.declared.looks.Look.TheVariants as looks
use Rattle.kr_view.specs.declared.rule.ThreadView.{ThreadView}
use Rattle.kr_view.specs.Looks.{HasRightEntry, LookTells}
use Rattle.kr_shared.specs.declared.clients.SubmitFault.{SubmitFault}
use Rattle.kr_shared.specs.declared.clients.SubmitFault.TheVariants as faults
use Rattle.kr_shared.specs.declared.pins.Wanted.{Wanted}
use Rattle.kr_shared.specs.declared.pins.Wanted.TheVariants as wants
use Rattle.kr_shared.specs.Grants.{EndsAhead, EndsPlace, IsGranted, IsKeptFrom, IsPlaceCause, pin_at}
use Rattle.kr_shared.specs.Turns.{unpin_entry}

module _ (seen : ThreadView) (seat ticket : ℕ) (floor : ℤ) where
  abbrev Found : SeatEntry → Type 0
  Found e = LookTells seen.options seat ticket seen.list (looks.Found e)

  pin_ok : (pin : Pin) (place : ℤ) → Found (told.Pin pin) → EndsPlace (told.Pin pin) wants.Pin floor (Ok place) → IsGranted seen seat ticket floor wants.Pin place
  pin_ok pin place t x = record {
    right = subst (λ (p : Pin). HasRightEntry seen.options seen.list (entries.Pin p)) (λ i. record { seat = t.1 i; ticket = t.2 i; place = sym x.0 i }) t.0;
    asked = x.1;
  }

  unpin_ok : (pin : Pin) (own place : ℤ) → Found (told.Unpin pin) → EndsPlace (told.Unpin pin) (wants.Unpin own) floor (Ok place) → IsGranted seen seat ticket floor (wants.Unpin own) place
  unpin_ok pin own place t x = record {
    right = subst (λ (p : Pin). HasRightEntry seen.options seen.list (entries.Unpin p)) (λ i. record { seat = t.1 i; ticket = t.2 i; place = sym x.0 i }) t.0;
    asked = x.1;
  }

  pub place_ok : (e : SeatEntry) (wanted : Wanted) (end : Result ℤ SubmitFault) → Found e → EndsPlace e wanted floor end → IfOk end (λ place. IsGranted seen seat ticket floor wanted place)
  place_ok (told.Pin pin) wants.Pin (Ok place) t x = pin_ok pin place t x
  place_ok (told.Pin pin) wants.Pin (Err fault) t x = tt
  place_ok (told.Pin pin) (wants.Unpin own) (Ok place) t x = absurd x
  place_ok (told.Pin pin) (wants.Unpin own) (Err fault) t x = tt
  place_ok (told.Unpin pin) wants.Pin (Ok place) t x = absurd x
  place_ok (told.Unpin pin) wants.Pin (Err fault) t x = tt
  place_ok (told.Unpin pin) (wants.Unpin own) (Ok place) t x = unpin_ok pin own place t x
  place_ok (told.Unpin pin) (wants.Unpin own) (Err fault) t x = tt
  place_ok (told.Answer answer) wanted (Ok place) t x = absurd x
  place_ok (told.Answer answer) wanted (Err fault) t x = tt

  ahead : (answer : Answer) (fault : SubmitFault) → Found (told.Answer answer) → EndsAhead answer floor (Err fault) → IsPlaceCause seen seat ticket floor fault
  ahead answer (faults.Ended number) t x = absurd x
  ahead answer (faults.Ahead named tip) t x =
      (x.0, x.2, record { answer = answer; held = record { right = t.0; of_seat = t.1; of_ticket = t.2 }; of_kind = x.3; at = sym x.1 })
  ahead answer (faults.Exhausted tip) t x = absurd x
  ahead answer faults.NoMemory t x = absurd x

  pub place_err : (e : SeatEntry) (wanted : Wanted) (end : Result ℤ SubmitFault) → Found e → EndsPlace e wanted floor end → IfErr end (λ fault. IsPlaceCause seen seat ticket floor fault)
  place_err e wanted (Ok place) t x = tt
  place_err (told.Pin pin) wants.Pin (Err fault) t x = absurd x
  place_err (told.Pin pin) (wants.Unpin own) (Err fault) t x = absurd x
  place_err (told.Unpin pin) wants.Pin (Err fault) t x = absurd x
  place_err (told.Unpin pin) (wants.Unpin own) (Err fault) t x = absurd x
  place_err (told.Answer answer) wanted (Err fault) t x = ahead answer fault t x

-- ---- what is granted

pub kept_from : (seen : ThreadView) (seat ticket : ℕ) (floor place : ℤ) → IsGranted seen seat ticket floor wants.Pin place → IsKeptFrom seen.list (pin_at seat ticket place)
kept_from seen seat ticket floor place g =
    let before : List Entry = g.right.0 in
    let rest : List Entry = g.right.1 in
    let pin : Pin = pin_at seat ticket place in
    record {
      before = before;
      rest = rest;
      stands = g.right.2;
      kept = λ more plain.
          subst (λ (l : List Entry). is_kept_in l place ≡ true)
          (sym (ap (λ (l : List Entry). l ++ more) g.right.2 ∙ append_assoc before (entries.Pin pin ∷ rest) more))
          (pins_stay before (rest ++ more) pin g.right.3 plain).1;
    }

-- an unpin is of the asked place
pub of_the_asked : (seen : ThreadView) (seat ticket : ℕ) (floor own place : ℤ) → IsGranted seen seat ticket floor (wants.Unpin own) place → IsGranted seen seat ticket floor (wants.Unpin own) own
of_the_asked seen seat ticket floor own place g = record {
  right = subst (λ (z : ℤ). HasRightEntry seen.options seen.list (unpin_entry seat ticket z)) g.asked g.right;
  asked = refl;
}

pub ruleset places_found = (place_ok, place_err)
