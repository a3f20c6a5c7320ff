-- A controller leads from the offset of an image that it loaded.
use Rattle.std.proofs.Common.{◌≡◌, ◌∙◌, ℕ, ℤ, pos, negsuc, Bool, true, false, cond, not, ◌||◌, ◌+◌, ◌≤ℤ◌, List, [], ◌∷◌, refl, ap, sym, subst, arith}
use Rattle.std.specs.Prelude.{Option, Some, None, Result, Ok, Err, int_lt, is_some}
use Rattle.std.specs.Ordering.{int_eq}
use Rattle.std.specs.Result.{result_unwrap_or}
use Rattle.kr_calls.specs.declared.events.Event.{Event}
use Rattle.kr_calls.specs.declared.events.Event.TheVariants as events
use Rattle.kr_calls.specs.declared.events.Reason.{Reason}
use Rattle.kr_defs.specs.declared.ill.Ill.{Ill}
use Rattle.kr_defs.specs.declared.options.Options.{Options}
use Rattle.kr_defs.specs.declared.record.Item.TheVariants as items
use Rattle.kr_defs.specs.Brokers.{stopping, unfenced}
use Rattle.kr_defs.specs.Guard.{and_then}
use Rattle.kr_defs.specs.Heartbeats.{begin}
use Rattle.kr_defs.specs.Image.{Image, empty}
use Rattle.kr_defs.proofs.IdLists.{id_itself}
use Rattle.kr_snapshot.specs.declared.fault.ImageFault.{ImageFault}
use Rattle.kr_snapshot.specs.Reading.{image_of}
use Rattle.kr_model.specs.declared.writes.Write.{Write}
use Rattle.kr_model.specs.Engine.{Core, IsEngine}
use Rattle.kr_model.specs.Events.{at_time_of, happens, outcome, with_next_number}
use Rattle.kr_model.specs.Lead.{after_lead, giving_up}
use Rattle.kr_model.specs.Load.{after_load, image_or, take_image}
use Rattle.kr_model.specs.Outputs.{waiting_after}
use Rattle.kr_model.specs.Reasons.{bad_next, exhausted, older_image}
use Rattle.kr_model.specs.World.{State, World, image_of_tip, is_far, seen_at, start, tip_of, with_batch, with_heartbeats, with_records}
use Rattle.kr_defs.specs.Log.{tip}
use Rattle.kr_defs.specs.LogStates.{closed}
use Rattle.kr_defs.specs.declared.record.Record.TheVariants as kinds
use Rattle.kr_defs.proofs.StateLogs.{state_at_tip}
use Rattle.kr_model.proofs.Logs.{image_there, none_open_at_start}
use Rattle.kr_model.proofs.Places.{isnt_below}
use Rattle.kr_leaders.specs.Balance as balance
use Rattle.kr_leaders.specs.inner.Engines.{LeadsOn, IsAfterEvent, leader}

-- on standby, with this image alone
abbrev loaded : ℕ → Image → State
loaded n image = record {
  world = record { log = record { offset = n; image = image; items = [] }; committed = n; covered = []; batch_ends = []; leading = None; greatest = negsuc 0; count = 1 };
  basis = start.basis;
}

ok_is : (x y : Image) (r : Result Image Ill) → r ≡ Ok x → r ≡ Ok y → x ≡ y
ok_is x y r first second = ap (λ (s : Result Image Ill). result_unwrap_or s empty) (sym first ∙ second)

module _ (n : ℕ) (image : Image) (near : is_far (pos n) ≡ false) where
  taken : (s : State) → s.world.committed ≡ 0 → take_image s (pos n, image) ≡ Ok (after_load s n image)
  taken s none =
      ap (λ (c : ℕ). cond (int_lt (pos n) (pos c)) (Err (older_image (pos n) (pos s.world.committed))) (cond (is_far (pos n)) (Err (exhausted (pos n))) (Ok (after_load s n image)))) none
      ∙ (ap (λ b. cond b (Err (older_image (pos n) (pos s.world.committed))) (cond (is_far (pos n)) (Err (exhausted (pos n))) (Ok (after_load s n image)))) (isnt_below n 0 (omega arith))
      ∙ ap (λ b. let r : Result State Reason = cond b (Err (exhausted (pos n))) (Ok (after_load s n image)) in r) near)

  loaded_is : (bytes : List ℕ) → image_of bytes ≡ Ok (pos n, image) → happens balance.balance_options start (events.Load bytes) ≡ loaded n image
  loaded_is bytes is =
      let timed : State = at_time_of start (events.Load bytes) in
      ap (λ (r : Result (ℤ × Image) ImageFault). with_next_number (result_unwrap_or (and_then (image_or r) (take_image timed)) timed)) is
      ∙ ap (λ (r : Result State Reason). with_next_number (result_unwrap_or r timed)) (taken timed refl)

  abbrev s : State
  s = loaded n image

  abbrev lead : Event
  lead = events.Lead (pos 1) (pos n) (pos 0)

  image_is : image_of_tip s ≡ image
  image_is = ap (λ (r : Result Image Ill). result_unwrap_or r empty) (image_there s.world.log (tip_of s) (closed image) (state_at_tip s.world.log))

  -- where it leads at the end of the log, nothing is open
  abbrev led_by : Bool → World
  led_by b = record (cond b s.world (with_batch s.world (items.Control ∷ []))) { leading = Some (pos 1); greatest = pos 1 }

  none_given_up : with_records (led_by true) (giving_up (led_by true)) ≡ led_by true
  none_given_up = ap (λ (o : Option ℕ). with_records (led_by true) (cond (is_some o) (kinds.AbortTransaction None ∷ []) [])) (none_open_at_start n image (tip_of s))

  abbrev led_on : World → Image → State
  led_on w seen = record {
    world = record w { leading = Some (pos 1); greatest = pos 1 };
    basis = record (with_heartbeats start.basis (begin (unfenced seen) (stopping seen) (pos 0) (pos n))) { led = pos n };
  }

  led_outcome : outcome balance.balance_options (at_time_of s lead) lead ≡ Ok (after_lead s (pos 1) (pos n))
  led_outcome =
      ap (λ b. let r : Result State Reason = cond (not (b || int_eq (pos n) (pos (n + 1)))) (Err (bad_next (pos n) (pos n))) (cond (is_far (pos n)) (Err (exhausted (pos n))) (Ok (after_lead s (pos 1) (pos n)))) in r) (id_itself (pos n))
      ∙ ap (λ b. let r : Result State Reason = cond b (Err (exhausted (pos n))) (Ok (after_lead s (pos 1) (pos n))) in r) near

  abbrev led_then : World → State
  led_then w = record {
    world = w;
    basis = record (with_heartbeats start.basis (begin (unfenced (seen_at w.log (tip w.log))) (stopping (seen_at w.log (tip w.log))) (pos 0) (pos n))) { led = pos n };
  }

  led_so : after_lead s (pos 1) (pos n) ≡ led_on s.world image
  led_so =
      ap (λ b. led_then (with_records (led_by b) (giving_up (led_by b)))) (id_itself (pos n))
      ∙ (ap led_then none_given_up ∙ ap (led_on s.world) image_is)

  led_is : happens balance.balance_options s lead ≡ leader (pos n) image
  led_is =
      ap (λ (r : Result State Reason). with_next_number (result_unwrap_or r (at_time_of s lead))) led_outcome
      ∙ ap with_next_number led_so

-- the last two events of a controller that was new
pub leads : (new between after : Core) (bytes : List ℕ) (offset : ℤ) (image : Image) → new.options ≡ balance.balance_options → IsEngine new start [] → IsAfterEvent new between (events.Load bytes)
    → IsAfterEvent between after (events.Lead (pos 1) offset (pos 0)) → image_of bytes ≡ Ok (offset, image) → pos 0 ≤ℤ offset → is_far offset ≡ false → LeadsOn after offset image
leads new between after bytes (pos n) image options stands first second is natural near =
    let began : between.options ≡ balance.balance_options = first.options ∙ options in
    let one : IsEngine between (loaded n image) (waiting_after new.options start [] (events.Load bytes)) =
    subst (λ (s : State). IsEngine between s (waiting_after new.options start [] (events.Load bytes))) (ap (λ (o : Options). happens o start (events.Load bytes)) options ∙ loaded_is n image near bytes is) (first.stands start [] stands) in
    let writes : List Write = waiting_after between.options (loaded n image) (waiting_after new.options start [] (events.Load bytes)) (lead n image near) in
    let two : IsEngine after (leader (pos n) image) writes =
    subst (λ (s : State). IsEngine after s writes) (ap (λ (o : Options). happens o (loaded n image) (lead n image near)) began ∙ led_is n image near) (second.stands (loaded n image) (waiting_after new.options start [] (events.Load bytes)) one) in
    record { idle = second.idle; options = second.options ∙ began; natural = natural; near = near; writes = writes; stands = two }
leads new between after bytes (negsuc n) image options stands first second is natural near = absurd (omega (arith, natural))
