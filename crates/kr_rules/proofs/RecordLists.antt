-- Records that are taken after others.
use Rattle.std.proofs.Common.{◌≡◌, ◌∙◌, ◌≤◌, ◌+◌, ℕ, pos, Bool, true, false, not, cond, List, [], ◌∷◌, ◌++◌, length, refl, sym, ap, arith, length-append}
use Rattle.std.proofs.Math.IntN.{+ℤ_assoc, +ℤ_idr}
use Rattle.std.specs.Prelude.{◌+ℤ◌, ℤ, Option, Some, None, Result, Ok, Err, is_err, ◌&&◌, IsErr, IsSome, option_map, unwrap_or}
use Rattle.std.specs.List.{list_all}
use Rattle.kr_defs.specs.declared.ill.Ill.{Ill}
use Rattle.kr_defs.specs.declared.record.Record.{Record}
use Rattle.kr_defs.specs.declared.record.Item.TheVariants as items
use Rattle.kr_defs.specs.Apply.{apply_record}
use Rattle.kr_defs.specs.Guard.{and_then}
use Rattle.kr_defs.specs.Image.{Image, empty}
use Rattle.kr_store.specs.Images.{Images, last_kept, last_image}
use Rattle.kr_defs.specs.Weight.{weight}
use Rattle.kr_calls.specs.Deciding.{nothing_decided, apply_records, weights, weight_then, is_within_limits, work_with, taken}
use Rattle.kr_calls.proofs.DecisionMeanings.{applied_in_two}
use Rattle.kr_defs.proofs.Tests.{both, not_false}
use Rattle.kr_rules.specs.Costs.{is_undone}
use Rattle.kr_rules.specs.Progress.{Drawn, work_at, base_of, begins}
use Rattle.kr_rules.specs.Room.{TellsRoom, takes_room, lacks_room}

module _ (d : Drawn) (image : Image) (records : List Record) where
  pub not_within : false ≡ is_within_limits d.records records → taken (work_at d image) records ≡ None
  unfolding taken
  not_within out = rw (← out) refl

  pub not_applied : IsErr (apply_records image records) → taken (work_at d image) records ≡ None
  unfolding taken
  not_applied e =
      elim (apply_records image records) as (λ r. IsErr r → cond (is_within_limits d.records records) (work_with (work_at d image) records r) None ≡ None) [
        | Ok after ↦ λ e. absurd cc
        | Err cause ↦ λ e. elim (is_within_limits d.records records) as (λ b. cond b (work_with (work_at d image) records (Err cause)) None ≡ None) [ true ↦ refl | false ↦ refl ]
      ] e

  -- the place behind both
  place_behind : (d.start +ℤ pos (length d.records)) +ℤ pos (length records) ≡ d.start +ℤ pos (length (d.records ++ records))
  place_behind = +ℤ_assoc d.start (pos (length d.records)) (pos (length records)) ∙ ap (λ n. d.start +ℤ pos n) (sym (length-append d.records records))

  pub all_taken : (after : Image) (more : Drawn) → true ≡ is_within_limits d.records records → apply_records image records ≡ Ok after → more ≡ record { start = d.start; records = d.records ++ records } → taken (work_at d image) records ≡ Some (work_at more after)
  unfolding taken
  all_taken after more within meaning is = rw (is, ← within, meaning, place_behind) refl

  -- what can be told isn't undone
  cut : (meaning : Result Image Ill) → IsErr meaning → begins image records ≡ true → TellsRoom records meaning true → (begins image records && is_err meaning && not (list_all takes_room records && lacks_room meaning)) ≡ false → ⊥
  cut (Ok after) e first told ordinary = absurd cc
  cut (Err cause) e first told ordinary =
      let rest : not (list_all takes_room records && lacks_room (Err cause)) ≡ false = rw first at ordinary in
      let lacks = both (list_all takes_room records) (lacks_room (Err cause)) (not_false (list_all takes_room records && lacks_room (Err cause)) rest) in
      let has : lacks_room (Err cause) ≡ false = told lacks.0 in
      let lack : lacks_room (Err cause) ≡ true = lacks.1 in
      cc

  -- where there is no room, some record has no meaning
  pub not_roomy : (fits : Bool) → fits ≡ false → TellsRoom records (apply_records image records) fits → taken (work_at d image) records ≡ None
  not_roomy fits is tells = not_applied (rw is at tells)

  -- so what is applied in part takes as few steps as need be
  pub own_part : (fits : Bool) (steps limit : ℕ) → fits ≡ true → TellsRoom records (apply_records image records) fits → IsErr (apply_records image records) × (begins image records ≡ true) → is_undone image records ≡ false → steps ≤ limit
  own_part fits steps limit is tells part ordinary = absurd (cut (apply_records image records) part.0 part.1 (rw is at tells) ordinary)

applied_behind : (image mid : Image) (xs ys : List Record) → apply_records image xs ≡ Ok mid → apply_records image (xs ++ ys) ≡ apply_records mid ys
applied_behind image mid xs ys first = applied_in_two image xs ys ∙ ap (λ r. and_then r (λ after. apply_records after ys)) first

weights_in_two : (image mid : Image) (xs ys : List Record) → apply_records image xs ≡ Ok mid → weights image (xs ++ ys) ≡ weights image xs + weights mid ys
weights_in_two image mid [] ys first = let e : weights image ys ≡ weights mid ys = ap (λ r. weight_then (λ i. weights i ys) r) first in omega (arith, e)
weights_in_two image mid (x ∷ xs) ys first =
    elim (apply_record image x) as (λ r. and_then r (λ after. apply_records after xs) ≡ Ok mid → weight image (items.Record x) + weight_then (λ after. weights after (xs ++ ys)) r ≡ (weight image (items.Record x) + weight_then (λ after. weights after xs) r) + weights mid ys) [
      | Ok after ↦ λ first. let rest = weights_in_two after mid xs ys first in omega (arith, rest)
      | Err cause ↦ λ first. absurd cc
    ] first

pub all_lead : (base image after : Image) (d more : Drawn) (records : List Record) → apply_records base d.records ≡ Ok image → apply_records image records ≡ Ok after → more ≡ record { start = d.start; records = d.records ++ records } → apply_records base more.records ≡ Ok after
all_lead base image after d more records leads meaning is = rw is (applied_behind base image d.records records leads ∙ meaning)

pub frugal : (base image : Image) (d more : Drawn) (records : List Record) (made now so_far : ℕ) → apply_records base d.records ≡ Ok image → now ≤ made + weights image records → more ≡ record { start = d.start; records = d.records ++ records } → made ≤ so_far + weights base d.records → now ≤ so_far + weights base more.records
frugal base image d more records made now so_far leads less is before = rw is (let sum = weights_in_two base image d.records records leads in omega (arith, sum, less, before))

-- the last kept epoch's image, where there is one
pub base_is : (images : Images) (image : Image) → last_image images ≡ Some image → base_of images ≡ image
base_is images image last = ap (λ o. unwrap_or o empty) last

some_of : {X Y : Type 0} (f : X → Y) (o : Option X) (y : Y) → option_map f o ≡ Some y → IsSome o
some_of f None y is = absurd cc
some_of f (Some x) y is = refl

pub is_kept : (images : Images) (image : Image) → last_image images ≡ Some image → IsSome (last_kept images)
is_kept images image last = some_of (λ (k : ℤ × Image). k.1) (last_kept images) image last

pub kept_base : (kept : List (ℤ × Image)) (old : Images) (image : Image) → kept ≡ old.kept → last_image old ≡ Some image → base_of (record old { kept = kept; made = 0 }) ≡ image
kept_base kept old image same last = rw same (base_is old image last)

-- no records yet
abbrev pub drawn_from : ℤ → Drawn
drawn_from place = record { start = place; records = [] }

pub begun_at : (d : Drawn) (place : ℤ) (image : Image) → d ≡ drawn_from place → work_at d image ≡ nothing_decided place image
begun_at d place image is = rw (is, +ℤ_idr place) refl

pub ruleset bases = (base_is, is_kept)

pub ruleset takes = (not_within, not_applied, not_roomy, own_part, all_taken, all_lead, frugal)
