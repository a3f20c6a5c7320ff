-- The log behind a leadership that begins: it is longer by an item of the quorum's own and by an abort, and nothing is open at its tip.
use Rattle.std.proofs.Common.{◌≡◌, ◌∙◌, sym, ℕ, ℤ, pos, Bool, true, false, cond, List, [], ◌∷◌, ◌++◌, refl, ap}
use Rattle.std.proofs.lemmas.List.{append_assoc, append-nil}
use Rattle.std.specs.Prelude.{Option, Some, None, Ok, is_some}
use Rattle.std.specs.Option.{option_map, option_map_or}
use Rattle.std.specs.Ordering.{int_eq}
use Rattle.kr_defs.specs.declared.record.Item.{Item}
use Rattle.kr_defs.specs.declared.record.Item.TheVariants as items
use Rattle.kr_defs.specs.declared.record.Record.TheVariants as kinds
use Rattle.kr_defs.specs.Apply.{apply}
use Rattle.kr_defs.specs.Image.{Image, IsValid}
use Rattle.kr_defs.specs.ImageLaws.{as_items}
use Rattle.kr_defs.specs.Log.{Log, open_at, state_at, tip}
use Rattle.kr_defs.specs.LogStates.{IsValidState, LogState, Opened, apply_all_at, apply_at, closed}
use Rattle.kr_defs.proofs.StateLogs.{open_told, plain_all}
use Rattle.kr_model.specs.Lead.{giving_up, in_lead, taking_over}
use Rattle.kr_model.specs.World.{State, World, log_with, tip_of, with_batch, with_records}
use Rattle.kr_model.proofs.LogEntries.{batch_written}
use Rattle.kr_model.proofs.Logs.{state_written}

-- ---- what is written

abbrev pub control_if : Bool → List Item
control_if b = cond b [] (items.Control ∷ [])

up_to_written : (w : World) (b : Bool) → (cond b w (with_batch w (items.Control ∷ []))).log ≡ log_with w.log (control_if b)
up_to_written w true = ap (λ (is : List Item). record w.log { items = is }) (sym (append-nil w.log.items))
up_to_written w false = batch_written w (items.Control ∷ [])

pub lead_written : (s : State) (epoch next : ℤ) → (in_lead s epoch next).log ≡ log_with s.world.log (control_if (int_eq next (pos s.world.committed)) ++ as_items (giving_up (taking_over s epoch next).world))
lead_written s epoch next =
    let led : World = (taking_over s epoch next).world in
    let xs : List Item = control_if (int_eq next (pos s.world.committed)) in
    let ys : List Item = as_items (giving_up led) in
    batch_written led ys
    ∙ (ap (λ (l : Log). log_with l ys) (up_to_written s.world (int_eq next (pos s.world.committed)))
    ∙ ap (λ (is : List Item). record s.world.log { items = is }) (append_assoc s.world.log.items xs ys))

-- ---- what is left

-- the image below what is open, or the present one
abbrev pub image_left : LogState → Image
image_left state = option_map_or (λ (o : Opened). o.image) state.opened state.image

pub left_valid : (state : LogState) → IsValidState state → IsValid (image_left state)
left_valid state v = by state.opened v.below
  where
    by : (opened : Option Opened) → ((o : Opened) → opened ≡ Some o → IsValid o.image) → IsValid (option_map_or (λ (o : Opened). o.image) opened state.image)
    by None below = v.image
    by (Some o) below = below o refl

gives_up : (image : Image) (opened : Option Opened) (place : ℕ)
    → apply_all_at (record { image = image; opened = opened }) place (as_items (cond (is_some (option_map (λ (o : Opened). o.place) opened)) (kinds.AbortTransaction None ∷ []) []))
    ≡ Ok (closed (option_map_or (λ (o : Opened). o.image) opened image))
unfolding apply_at
gives_up image None place = refl
gives_up image (Some opened) place = refl

module _ (w : World) (state : LogState) (is : state_at w.log (tip w.log) ≡ Ok state) where
  given_up : apply_all_at state (tip w.log) (as_items (giving_up w)) ≡ Ok (closed (image_left state))
  given_up =
      ap (λ (o : Option ℕ). apply_all_at state (tip w.log) (as_items (cond (is_some o) (kinds.AbortTransaction None ∷ []) []))) (sym (open_told w.log (tip w.log) state is))
      ∙ gives_up state.image state.opened (tip w.log)

  pub state_given_up : state_at (with_records w (giving_up w)).log (tip (with_records w (giving_up w)).log) ≡ Ok (closed (image_left state))
  state_given_up =
      ap (λ (l : Log). state_at l (tip l)) (batch_written w (as_items (giving_up w)))
      ∙ (state_written w.log (as_items (giving_up w)) state is ∙ given_up)

pub state_up_to : (w : World) (state : LogState) (b : Bool) → state_at w.log (tip w.log) ≡ Ok state
    → state_at (cond b w (with_batch w (items.Control ∷ []))).log (tip (cond b w (with_batch w (items.Control ∷ []))).log) ≡ Ok state
unfolding apply
state_up_to w state true is = is
state_up_to w state false is =
    ap (λ (l : Log). state_at l (tip l)) (batch_written w (items.Control ∷ []))
    ∙ (state_written w.log (items.Control ∷ []) state is ∙ plain_all (items.Control ∷ []) state (tip w.log) state.image refl)

module _ (s : State) (epoch next : ℤ) (state : LogState) (is : state_at s.world.log (tip_of s) ≡ Ok state) where
  -- the state at the tip behind a leadership that begins
  pub lead_state : state_at (in_lead s epoch next).log (tip (in_lead s epoch next).log) ≡ Ok (closed (image_left state))
  lead_state = state_given_up (taking_over s epoch next).world state (state_up_to s.world state (int_eq next (pos s.world.committed)) is)

  -- where nothing is open, nothing is given up
  pub none_given_up : state.opened ≡ None → giving_up (taking_over s epoch next).world ≡ []
  none_given_up none =
      let led : World = (taking_over s epoch next).world in
      ap (λ (o : Option ℕ). cond (is_some o) (kinds.AbortTransaction None ∷ []) [])
      (sym (open_told led.log (tip led.log) state (state_up_to s.world state (int_eq next (pos s.world.committed)) is)) ∙ ap (λ (o : Option Opened). option_map (λ (x : Opened). x.place) o) none)

  pub lead_open : open_at (in_lead s epoch next).log (tip (in_lead s epoch next).log) ≡ None
  lead_open = sym (open_told (in_lead s epoch next).log (tip (in_lead s epoch next).log) (closed (image_left state)) lead_state)
