-- The pinned places of a store, and their images.
use Rattle.std.proofs.Common.{◌≡◌, ◌∙◌, ℤ, Bool, true, false, true≢false, cond, ◌||◌, not, ◌&&◌, List, [], ◌∷◌, ◌++◌, fold, filter, find, map, refl, sym, ap, subst}
use Rattle.std.specs.Prelude.{Option, Some, IsSome, IsTrue, unwrap_or, Result, Ok, Err, MatchResult}
use Rattle.std.specs.List.{AllByRecursion, list_any}
use Rattle.std.specs.Option.{option_map}
use Rattle.std.specs.Ordering.{int_eq}
use Rattle.std.proofs.lemmas.Bool.{and_parts}
use Rattle.std.proofs.lemmas.Bool.Decides.{Decides-int_eq}
use Rattle.kr_defs.specs.Image.{Image, empty}
use Rattle.kr_defs.proofs.Tests.{some_is}
use Rattle.kr_calls.specs.declared.events.Entry.{Entry}
use Rattle.kr_calls.specs.declared.pins.Pin.{Pin}
use Rattle.kr_calls.specs.SeatList.{PinnedLog, Reached, end_of, image_below, image_of, is_new_pin, is_pinned, is_place_kept, is_same_pin, lower, nothing_pinned, oldest_place, pinned_log, pins_in, reached, with_pin, without_pin}
use Rattle.kr_calls.proofs.KeptPlaces.{end_image, pin_images, same_at}
use Rattle.kr_image.proofs.KeptLists.{filter_map_is, map_push}
use Rattle.kr_store.specs.Images.{Images, kept_at}
use Rattle.kr_view.specs.declared.scans.ScanFault.{ScanFault}
use Rattle.kr_view.specs.Pinned.{kept_image_at, log_in, pin_image}
use Rattle.kr_view.specs.Scans.{AnswersAt, IsNotThere}
use Rattle.kr_view.specs.Standing.{IsStandingAt}
use Rattle.kr_view.proofs.Kept.{at_end, fewer_stand, is_there, one_more_stands}

pub pins_are : (store : Images) (pins : List Pin) → pins_in (map (pin_image store) pins) ≡ pins
pins_are store [] = refl
pins_are store (pin ∷ pins) = ap (λ (ps : List Pin). pin ∷ ps) (pins_are store pins)

pub kept_is : (store : Images) (end : ℤ) (pins : List Pin) (place : ℤ) → (int_eq place end || list_any (λ pin. int_eq pin.place place) pins) ≡ is_place_kept (log_in store end pins) place
kept_is store end pins place = ap (λ (ps : List Pin). int_eq place end || list_any (λ pin. int_eq pin.place place) ps) (sym (pins_are store pins))

pub oldest_is : (store : Images) (end : ℤ) (pins : List Pin) → fold lower end pins ≡ oldest_place (log_in store end pins)
oldest_is store end pins = ap (λ (ps : List Pin). fold lower end ps) (sym (pins_are store pins))

pub new_pin_is : (store : Images) (end : ℤ) (pins : List Pin) (pin : Pin) → (int_eq pin.place end && not (is_pinned pins pin)) ≡ is_new_pin (log_in store end pins).at (log_in store end pins).pinned pin
new_pin_is store end pins pin = ap (λ (ps : List Pin). int_eq pin.place end && not (is_pinned ps pin)) (sym (pins_are store pins))

pub ruleset pinned = (kept_is, oldest_is, new_pin_is)

-- ---- pins that are taken in

module _ (store : Images) (end : ℤ) (pins : List Pin) (pin : Pin) where
  abbrev log : PinnedLog
  log = log_in store end pins

  pub pin_taken : IsStandingAt store end pins → is_new_pin log.at log.pinned pin ≡ true → (log_in store end (pins ++ pin ∷ []) ≡ record log { pinned = with_pin log.at log.pinned pin }) × IsStandingAt store end (pins ++ pin ∷ [])
  pin_taken s new =
      let place : pin.place ≡ end = (Decides-int_eq pin.place end).0 (and_parts (int_eq pin.place end) (not (is_pinned (pins_in log.pinned) pin)) new).0 in
      let image : kept_at store pin.place ≡ Some store.tip = ap (kept_at store) place ∙ at_end store end pins s in (
        ap (λ (ps : List (Pin × Image)). record log { pinned = ps })
            (map_push (pin_image store) pins pin
            ∙ ap (λ (o : Option Image). log.pinned ++ (pin, unwrap_or o empty) ∷ []) image
            ∙ ap (λ b. cond b (log.pinned ++ (pin, store.tip) ∷ []) log.pinned) (sym new)),
        one_more_stands store end pins s pin place,
      )

  pub pin_passed : is_new_pin log.at log.pinned pin ≡ false → log ≡ record log { pinned = with_pin log.at log.pinned pin }
  pin_passed old = ap (λ b. record log { pinned = cond b (log.pinned ++ (pin, store.tip) ∷ []) log.pinned }) (sym old)

  pub unpin_taken : IsStandingAt store end pins → (left : List Pin) → left ≡ filter (λ other. not (is_same_pin pin other)) pins
      → (log_in store end left ≡ record log { pinned = without_pin log.pinned pin }) × IsStandingAt store end left
  unpin_taken s left is =
      let q : Pin → Bool = λ other. not (is_same_pin pin other) in
      let F : List Pin → Type 0 = λ ps. (log_in store end ps ≡ record log { pinned = without_pin log.pinned pin }) × IsStandingAt store end ps in
      subst F (sym is)
      (ap (λ (ps : List (Pin × Image)). record log { pinned = ps }) (sym (filter_map_is (pin_image store) (λ (p : Pin × Image). q p.0) pins)), fewer_stand store end pins s q)

-- the same, one by one
module _ (store : Images) (end : ℤ) (pins left : List Pin) (pin : Pin) (s : IsStandingAt store end pins) where
  pub taken_log : is_new_pin (log store end pins pin).at (log store end pins pin).pinned pin ≡ true → left ≡ pins ++ pin ∷ [] → log_in store end left ≡ record (log store end pins pin) { pinned = with_pin (log store end pins pin).at (log store end pins pin).pinned pin }
  taken_log new is = ap (λ (ps : List Pin). log_in store end ps) is ∙ (pin_taken store end pins pin s new).0

  pub taken_at : is_new_pin (log store end pins pin).at (log store end pins pin).pinned pin ≡ true → left ≡ pins ++ pin ∷ [] → IsStandingAt store end left
  taken_at new is = subst (λ (ps : List Pin). IsStandingAt store end ps) (sym is) (pin_taken store end pins pin s new).1

  pub unpin_log : left ≡ filter (λ other. not (is_same_pin pin other)) pins → log_in store end left ≡ record (log store end pins pin) { pinned = without_pin (log store end pins pin).pinned pin }
  unpin_log is = (unpin_taken store end pins pin s left is).0

  pub unpin_at : left ≡ filter (λ other. not (is_same_pin pin other)) pins → IsStandingAt store end left
  unpin_at is = (unpin_taken store end pins pin s left is).1

pub ruleset taken = (taken_log, taken_at, pin_passed, unpin_log, unpin_at)

-- ---- what a store has at a kept place

pub record Has (store : Images) (end : ℤ) (pins : List Pin) (place : ℤ) : Type 0 where
  pub image : Image
  pub at : kept_at store place ≡ Some image
  pub is : kept_image_at (log_in store end pins) place ≡ Some image

record HasPinned (store : Images) (pins : List Pin) (place : ℤ) : Type 0 where
  image : Image
  at : kept_at store place ≡ Some image
  is : option_map (λ (p : Pin × Image). p.1) (find (λ (p : Pin × Image). int_eq p.0.place place) (map (pin_image store) pins)) ≡ Some image

found_pin : (store : Images) (pins : List Pin) (place : ℤ) → AllByRecursion (λ pin. IsSome (kept_at store pin.place)) pins → list_any (λ pin. int_eq pin.place place) pins ≡ true → HasPinned store pins place
found_pin store [] place there any = absurd (true≢false (sym any))
found_pin store (pin ∷ pins) place there any =
    let found = λ (b : Bool). option_map (λ (p : Pin × Image). p.1) (cond b (Some (pin_image store pin)) (find (λ (p : Pin × Image). int_eq p.0.place place) (map (pin_image store) pins))) in
    elim (int_eq pin.place place) as (λ b. int_eq pin.place place ≡ b → (b || list_any (λ pin. int_eq pin.place place) pins) ≡ true → HasPinned store (pin ∷ pins) place) [
      | true ↦ λ is h.
          let here = is_there (kept_at store pin.place) there.0 in
          record { image = here.0; at = ap (kept_at store) (sym ((Decides-int_eq pin.place place).0 is)) ∙ here.1; is = ap found is ∙ ap (λ (o : Option Image). Some (unwrap_or o empty)) here.1 }
      | false ↦ λ is h. let rest = found_pin store pins place there.1 h in record { image = rest.image; at = rest.at; is = ap found is ∙ rest.is }
    ] refl any

pub has_kept : (store : Images) (end : ℤ) (pins : List Pin) (place : ℤ) → IsStandingAt store end pins → is_place_kept (log_in store end pins) place ≡ true → Has store end pins place
has_kept store end pins place s kept =
    let pinned_one = option_map (λ (p : Pin × Image). p.1) (find (λ (p : Pin × Image). int_eq p.0.place place) (map (pin_image store) pins)) in
    elim (int_eq place end) as (λ b. int_eq place end ≡ b → (b || list_any (λ pin. int_eq pin.place place) pins) ≡ true → Has store end pins place) [
      | true ↦ λ is h. record { image = store.tip; at = ap (kept_at store) ((Decides-int_eq place end).0 is) ∙ at_end store end pins s; is = ap (λ b. cond b (Some store.tip) pinned_one) is }
      | false ↦ λ is h. let one = found_pin store pins place s.pinned h in record { image = one.image; at = one.at; is = ap (λ b. cond b (Some store.tip) pinned_one) is ∙ one.is }
    ] refl (kept_is store end pins place ∙ kept)

-- ---- what the entries say of it

of_pinned : (list : List Entry) (place : ℤ) (image : Image) (pinned : List (Pin × Image)) → AllByRecursion (λ (p : Pin × Image). image_below p.0.place list ≡ p.1) pinned
    → option_map (λ (p : Pin × Image). p.1) (find (λ (p : Pin × Image). int_eq p.0.place place) pinned) ≡ Some image → (list_any (λ pin. int_eq pin.place place) (pins_in pinned) ≡ true) × (image ≡ image_below place list)
of_pinned list place image [] images found = absurd cc
of_pinned list place image (p ∷ ps) images found =
    elim (int_eq p.0.place place) as (λ b. int_eq p.0.place place ≡ b → option_map (λ (x : Pin × Image). x.1) (cond b (Some p) (find (λ (x : Pin × Image). int_eq x.0.place place) ps)) ≡ Some image → ((b || list_any (λ pin. int_eq pin.place place) (pins_in ps)) ≡ true) × (image ≡ image_below place list)) [
      | true ↦ λ is h. (refl, sym (some_is p.1 image h) ∙ sym images.0 ∙ ap (λ z. image_below z list) ((Decides-int_eq p.0.place place).0 is))
      | false ↦ λ is h. of_pinned list place image ps images.1 h
    ] refl found

image_is : (list : List Entry) (place : ℤ) (image : Image) → kept_image_at (pinned_log list) place ≡ Some image → IsTrue (is_place_kept (pinned_log list) place) × (image ≡ image_below place list)
image_is list place image found =
    let l = pinned_log list in
    let own : l.at ≡ reached list = same_at nothing_pinned list in
    elim (int_eq place l.at.end) as (λ b. int_eq place l.at.end ≡ b → cond b (Some l.at.state.image) (option_map (λ (p : Pin × Image). p.1) (find (λ (p : Pin × Image). int_eq p.0.place place) l.pinned)) ≡ Some image
    → ((b || list_any (λ pin. int_eq pin.place place) (pins_in l.pinned)) ≡ true) × (image ≡ image_below place list)) [
      | true ↦ λ is h. (
        refl,
        sym (some_is l.at.state.image image h) ∙ ap (λ (r : Reached). r.state.image) own ∙ sym (end_image list) ∙ ap (λ z. image_below z list) (sym ((Decides-int_eq place l.at.end).0 is ∙ ap (λ (r : Reached). r.end) own)),
      )
      | false ↦ λ is h. of_pinned list place image l.pinned (pin_images list) h
    ] refl found

-- what was found by what is kept is what the entries say
pub answered : {A : Type 0} (list : List Entry) (held : PinnedLog) (place : ℤ) (seen : A → Image) (result : Result A ScanFault) → held ≡ pinned_log list
    → MatchResult result (λ a. kept_image_at held place ≡ Some (seen a)) (IsNotThere held place) → AnswersAt list place (λ image a. seen a ≡ image) result
answered list held place seen (Ok a) is found = image_is list place (seen a) (subst (λ (l : PinnedLog). kept_image_at l place ≡ Some (seen a)) is found)
answered list held place seen (Err fault) is found = subst (λ (l : PinnedLog). IsNotThere l place fault) is found

-- ---- the end

pub log_end : (held : PinnedLog) (list : List Entry) → held ≡ pinned_log list → held.at.end ≡ end_of list
log_end held list is = ap (λ (l : PinnedLog). l.at.end) is ∙ ap (λ (r : Reached). r.end) (same_at nothing_pinned list)

pub log_image : (held : PinnedLog) (list : List Entry) → held ≡ pinned_log list → held.at.state.image ≡ image_of list
log_image held list is = ap (λ (l : PinnedLog). l.at.state.image) is ∙ ap (λ (r : Reached). r.state.image) (same_at nothing_pinned list)

pub ruleset ends = (log_end, log_image)
