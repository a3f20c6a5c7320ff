-- A log from its start, and what RemoveTopic leaves.
use Rattle.std.proofs.Common.{◌≡◌, ◌∙◌, sym, subst, ℕ, suc, ◌+◌, ◌≤◌, ◌<◌, ℤ, pos, ◌+ℤ◌, false, List, [], ◌∷◌, length, take, refl, ap, arith}
use Rattle.std.specs.Prelude.{Result, Ok, Err, Some, IfSome, IsOk, All, IsTrue, not, ◌==◌, filter}
use Rattle.std.proofs.lemmas.List.Elements.{filter_passes}
use Rattle.std.specs.Option.{option_map}
use Rattle.std.specs.Result.{result_err}
use Rattle.std.proofs.Math.IntN.{+ℤ_assoc, +ℤ_idr}
use Rattle.kr_defs.specs.declared.record.Record.TheVariants as kinds
use Rattle.kr_defs.specs.declared.record.Item.{Item}
use Rattle.kr_defs.specs.declared.record.Item.TheVariants as items
use Rattle.kr_defs.specs.declared.ill.Ill.{Ill}
use Rattle.kr_defs.specs.declared.ill.Ill.TheVariants.{NoTopic}
use Rattle.kr_defs.specs.Guard.{and_then}
use Rattle.kr_defs.specs.Image.{Image, IsValid, has_topic, topic_name}
use Rattle.kr_defs.specs.Log.{Log, tip, more, apply_all, image_at, state_image, state_at, ill_or, first_ill, IsBehindGood}
use Rattle.kr_defs.specs.LogStates.{LogState, IsValidState}
use Rattle.kr_defs.specs.Apply as apply
use Rattle.kr_defs.proofs.Validity.{kept}
use Rattle.kr_defs.proofs.ImageParts.{has_topic_any, none_left}
use Rattle.kr_defs.proofs.StateLogs.{if_some_then, ok_is, plain_at, state_at_start, state_more_at_tip, state_more_below, valid_state_at}
use Rattle.kr_defs.proofs.Tests.{Gives, gives_done, gives_found, gives_then, some_is}

-- ---- logs

pub kept_all : (items : List Item) (image : Image) → IsValid image → Gives IsValid (apply_all image items)
kept_all [] image v = gives_done IsValid image v
kept_all (item ∷ items) image v = gives_then IsValid IsValid (apply.apply image item) (λ after. apply_all after items) (kept image v item) (λ after w. kept_all items after w)

pub valid_at : (log : Log) (place : ℕ) → IsValid log.image → Gives IsValid (image_at log place)
unfolding image_at
valid_at log place v = gives_then IsValidState IsValid (state_at log place) (λ s. Ok s.image) (valid_state_at log place v) (λ s w. gives_done IsValid s.image w.image)

pub at_start : (log : Log) → image_at log log.offset ≡ Ok log.image
unfolding image_at
at_start log = ap state_image (state_at_start log)

more_at_tip_of : (log : Log) (item : Item) (image after : Image) (there : Result LogState Ill) → state_at log (tip log) ≡ there → state_image there ≡ Ok image → apply.apply image item ≡ Ok after → state_image (state_at (more log item) (tip log + 1)) ≡ Ok after
more_at_tip_of log item image after (Err cause) at is takes = absurd cc
more_at_tip_of log item image after (Ok state) at is takes =
    let same : state.image ≡ image = ok_is state.image image is in
    ap state_image (state_more_at_tip log item state at ∙ plain_at state (tip log) item after (ap (λ i. apply.apply i item) same ∙ takes))

-- an item that an image takes
pub more_at_tip : (log : Log) (item : Item) (image after : Image) → image_at log (tip log) ≡ Ok image → apply.apply image item ≡ Ok after → image_at (more log item) (tip log + 1) ≡ Ok after
unfolding image_at
more_at_tip log item image after is takes = more_at_tip_of log item image after (state_at log (tip log)) refl is takes

pub more_below : (log : Log) (item : Item) (place : ℕ) → place ≤ tip log → image_at (more log item) place ≡ image_at log place
unfolding image_at
more_below log item place below = ap state_image (state_more_below log item place below)

-- ---- RemoveTopic

pub topic_gone : (image : Image) (id : ℕ) → Gives (λ after. has_topic after.topics id ≡ false) (apply.apply image (items.Record (kinds.RemoveTopic id)))
unfolding apply.apply apply.apply_record
topic_gone image id = let P : Image → Type 0 = λ after. has_topic after.topics id ≡ false in
    gives_found P NoTopic (topic_name image.topics id) _ (λ name there. gives_done P _ (has_topic_any (filter (λ e. not (e.1 == id)) image.topics) id ∙ none_left id image.topics))

pub partitions_gone : (image : Image) (id : ℕ) → Gives (λ after. All (λ e. IsTrue (not (e.0.0 == id))) after.partitions) (apply.apply image (items.Record (kinds.RemoveTopic id)))
unfolding apply.apply apply.apply_record
partitions_gone image id = let P : Image → Type 0 = λ after. All (λ e. IsTrue (not (e.0.0 == id))) after.partitions in
    gives_found P NoTopic (topic_name image.topics id) _ (λ name there. gives_done P _ (filter_passes (λ e. not (e.0.0 == id)) image.partitions))

pub configs_gone : (image : Image) (id : ℕ) (name : List ℕ) → topic_name image.topics id ≡ Some name → Gives (λ after. All (λ e. IsTrue (not (apply.is_setting_of name e.0))) after.configs) (apply.apply image (items.Record (kinds.RemoveTopic id)))
unfolding apply.apply apply.apply_record
configs_gone image id name named = let P : Image → Type 0 = λ after. All (λ e. IsTrue (not (apply.is_setting_of name e.0))) after.configs in
    gives_found P NoTopic (topic_name image.topics id) _ (λ other there. gives_done P _ (
    let same : other ≡ name = some_is other name (sym there ∙ named) in
    rw same (filter_passes (λ e. not (apply.is_setting_of name e.0)) image.configs)))

-- ---- the first ill item

cause_of : (r : Result Image Ill) (place : ℤ) (items : List Item) → ((after : Image) → option_map (λ (i : ℤ × Ill). i.1) (first_ill after (place +ℤ pos 1) items) ≡ result_err (apply_all after items))
    → option_map (λ (i : ℤ × Ill). i.1) (ill_or place r (λ after. first_ill after (place +ℤ pos 1) items)) ≡ result_err (and_then r (λ after. apply_all after items))
cause_of (Ok after) place items step = step after
cause_of (Err cause) place items step = refl

pub cause_named : (items : List Item) (image : Image) (place : ℤ) → option_map (λ (i : ℤ × Ill). i.1) (first_ill image place items) ≡ result_err (apply_all image items)
cause_named [] image place = refl
cause_named (item ∷ items) image place = cause_of (apply.apply image item) place items (λ after. cause_named items after (place +ℤ pos 1))

one_further : (image after : Image) (place : ℤ) (item : Item) (items : List Item) → apply.apply image item ≡ Ok after
    → (ill : ℤ × Ill) → IsBehindGood after (place +ℤ pos 1) items ill → IsBehindGood image place (item ∷ items) ill
one_further image after place item items is ill (n, fewer, at, good) =
    let G : Result Image Ill → Type 0 = λ r. IsOk (and_then r (λ i. apply_all i (take n items))) in
    let few : suc n < length (item ∷ items) = omega (arith, fewer) in
    let next : 1 + n ≡ suc n = omega arith in
    (suc n, few, at ∙ +ℤ_assoc place (pos 1) (pos n) ∙ ap (λ m. place +ℤ pos m) next, subst G (sym is) good)

place_of : (image : Image) (place : ℤ) (item : Item) (items : List Item) (r : Result Image Ill) → apply.apply image item ≡ r
    → ((after : Image) → IfSome (first_ill after (place +ℤ pos 1) items) (IsBehindGood after (place +ℤ pos 1) items))
    → IfSome (ill_or place r (λ after. first_ill after (place +ℤ pos 1) items)) (IsBehindGood image place (item ∷ items))
place_of image place item items (Ok after) is step =
    if_some_then (IsBehindGood after (place +ℤ pos 1) items) (IsBehindGood image place (item ∷ items)) (first_ill after (place +ℤ pos 1) items)
    (one_further image after place item items is) (step after)
place_of image place item items (Err cause) is step =
    let some : 0 < length (item ∷ items) = omega arith in
    (0, some, sym (+ℤ_idr place), refl)

pub place_named : (items : List Item) (image : Image) (place : ℤ) → IfSome (first_ill image place items) (IsBehindGood image place items)
place_named [] image place = tt
place_named (item ∷ items) image place = place_of image place item items (apply.apply image item) refl (λ after. place_named items after (place +ℤ pos 1))
