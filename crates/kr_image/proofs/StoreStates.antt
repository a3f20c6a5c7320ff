-- What an item makes of a store's state.
use Rattle.std.proofs.Common.{◌≡◌, ◌∙◌, inl, inr, ℕ, ℤ, Bool, true, false, cond, List, [], ◌∷◌, length, refl, sym, ap, subst, find}
use Rattle.std.specs.Prelude.{Option, Some, None, Result, Ok, Err, IfSome, IsSome, IsTrue, OnOk, int_lt, is_some, slice_get, ◌-◌}
use Rattle.std.specs.Option.{option_map, option_map_or}
use Rattle.std.specs.Ordering.{int_eq}
use Rattle.std.specs.List.{AllByRecursion}
use Rattle.std.proofs.lemmas.Bool.Decides.{Decides-int_eq}
use Rattle.std.proofs.lemmas.List.Elements.{recursion_from_All}
use Rattle.kr_defs.specs.declared.ill.Ill.{Ill}
use Rattle.kr_defs.specs.declared.ill.Ill.TheVariants.{BadTransaction}
use Rattle.kr_defs.specs.declared.record.Item.{Item}
use Rattle.kr_defs.specs.Apply.{apply}
use Rattle.kr_defs.specs.Guard.{and_then, found}
use Rattle.kr_defs.specs.Image.{Image}
use Rattle.kr_defs.specs.LogStates.{LogState, Opened, abort_open, begin_at, closed, end_open, image_after}
use Rattle.kr_store.specs.Images.{Images, AreValid, IsAbove, begun_under, kept_at, last_kept, marked, opened_at, log_place, tip_state}
use Rattle.kr_store.specs.declared.places.ApplyFault.{ApplyFault}
use Rattle.kr_store.specs.declared.places.ApplyFault.TheVariants as faults
use Rattle.kr_store.specs.ItemAnswers.{Applies, Becomes, FallsBack, KeepsEpochs, MayOpen, with_epoch}
use Rattle.kr_store.proofs.LastKept.{last_found as last_under}
use Rattle.kr_image.specs.declared.kept_counts.KeptCounts.{KeptCounts}
use Rattle.kr_image.specs.declared.timelines.Timelines.{Timelines}
use Rattle.kr_image.specs.Timelines.{Keeps, keeps_of, image_in}
use Rattle.kr_image.specs.KeptImages.{IsKept, IsListed, IsStoreWith, HaveBegins, RevertsAll, listed_at, images_in, images_of, made_in}
use Rattle.kr_image.proofs.BegunEpochs.{begun_at_last}
use Rattle.kr_defs.proofs.Tests.{some_is}
use Rattle.kr_image.proofs.EpochEnds.{last, last_later}
use Rattle.kr_image.proofs.KeptLists.{apart_before, find_last, find_map}
use Rattle.kr_image.proofs.LastEpoch.{back_image, back_keeps, back_store, last_map}

-- ---- back to the last epoch

module _ (t after : Timelines) (list : List KeptCounts) (k : KeptCounts) (begun : Option ℤ) (is_last : last list ≡ Some k) (is : IsKept (keeps_of t) list) (has : HaveBegins list begun) (reverts : RevertsAll t after k.epoch) (counts : after.counts ≡ k.counts) where
  pub back_whole : IsStoreWith after list k.begun
  back_whole = record { store = back_store t after list k is_last is reverts counts; opens = begun_at_last list begun k has is_last }

  pub goes_back : FallsBack (images_of t list begun) (images_of after list k.begun)
  goes_back =
      let same : keeps_of after ≡ keeps_of t = back_keeps t after list k is_last is reverts counts in
      record {
        tip = back_image t after list k is_last is reverts counts begun;
        begun = sym (ap begun_under (last_map (λ (x : KeptCounts). (x.epoch, x.begun)) list ∙ ap (option_map (λ (x : KeptCounts). (x.epoch, x.begun))) is_last));
        made = reverts.unmade;
        epochs = record { images = ap (λ (ks : Keeps). images_in ks list) same; calls = ap (λ (ks : Keeps). made_in ks list) same; begun = refl };
      }

-- the same, from images that keep the same
pub goes_back_alike : (a b after : Images) → KeepsEpochs a b → FallsBack a after → FallsBack b after
goes_back_alike a b after same back = record {
  tip = ap (λ (ks : List (ℤ × Image)). option_map (λ (k : ℤ × Image). k.1) (slice_get ks (length ks - 1))) (sym same.images) ∙ back.tip;
  begun = back.begun ∙ ap (λ (ks : List (ℤ × Option ℤ)). begun_under (slice_get ks (length ks - 1))) same.begun;
  made = back.made;
  epochs = record { images = back.epochs.images ∙ same.images; calls = back.epochs.calls ∙ same.calls; begun = back.epochs.begun ∙ same.begun };
}

pub same_epochs : (t after : Timelines) (list : List KeptCounts) (begun later : Option ℤ) → keeps_of after ≡ keeps_of t → KeepsEpochs (images_of after list later) (images_of t list begun)
same_epochs t after list begun later same = record { images = ap (λ (ks : Keeps). images_in ks list) same; calls = ap (λ (ks : Keeps). made_in ks list) same; begun = refl }

pub some_still : (t after : Timelines) (list : List KeptCounts) (begun later : Option ℤ) → keeps_of after ≡ keeps_of t → IsSome (last_kept (images_of t list begun)) → IsSome (last_kept (images_of after list later))
some_still t after list begun later same some = subst (λ (ks : List (ℤ × Image)). IsSome (slice_get ks (length ks - 1))) (sym (ap (λ (ks : Keeps). images_in ks list) same)) some

-- ---- the epoch of a begin

all_apart : (kept : List (ℤ × Image)) (epoch : ℤ) → AllByRecursion (λ (k : ℤ × Image). int_lt k.0 epoch ≡ true) kept → AllByRecursion (λ (k : ℤ × Image). int_eq k.0 epoch ≡ false) kept
all_apart [] epoch a = tt
all_apart (k ∷ kept) epoch a = (apart_before k.0 epoch a.0, all_apart kept epoch a.1)

none_found : (kept : List (ℤ × Image)) (epoch : ℤ) → AllByRecursion (λ (k : ℤ × Image). int_eq k.0 epoch ≡ false) kept → find (λ (k : ℤ × Image). int_eq k.0 epoch) kept ≡ None
none_found [] epoch a = refl
none_found (k ∷ kept) epoch a = ap (λ b. cond b (Some k) (find (λ (k : ℤ × Image). int_eq k.0 epoch) kept)) a.0 ∙ none_found kept epoch a.1

module _ (images : Images) (epoch : ℤ) where
  apart_each : IsAbove images.kept epoch → AllByRecursion (λ (k : ℤ × Image). int_eq k.0 epoch ≡ false) images.kept
  apart_each above = all_apart images.kept epoch (recursion_from_All (λ (k : ℤ × Image). IsTrue (int_lt k.0 epoch)) images.kept above)

  pub kept_more : IsAbove images.kept epoch → with_epoch images epoch ≡ marked images epoch
  kept_more above = ap (λ (o : Option (ℤ × Image)). cond (is_some (option_map (λ (k : ℤ × Image). k.1) o)) images (marked images epoch)) (none_found images.kept epoch (apart_each above))

  pub marked_there : IsAbove images.kept epoch → kept_at (marked images epoch) epoch ≡ Some images.tip
  marked_there above = ap (option_map (λ (k : ℤ × Image). k.1)) (find_last (λ (k : ℤ × Image). int_eq k.0 epoch) images.kept (epoch, images.tip) (apart_each above) ((Decides-int_eq epoch epoch).1 refl))

  pub last_there : AreValid images → last_kept images ≡ Some (epoch, images.tip) → kept_at images epoch ≡ Some images.tip
  last_there valid is = ap (option_map (λ (k : ℤ × Image). k.1)) (last_under images.kept (epoch, images.tip) valid.rising is)

  pub kept_already : AreValid images → last_kept images ≡ Some (epoch, images.tip) → with_epoch images epoch ≡ images
  kept_already valid is = ap (λ (o : Option Image). cond (is_some o) images (marked images epoch)) (last_there valid is)

  -- whether it is the last one
  abbrev is_last_epoch : Bool
  is_last_epoch = option_map_or (λ (k : ℤ × Image). int_eq k.0 epoch) (last_kept images) false

  not_last_of : (kept : List (ℤ × Image)) → AllByRecursion (λ (k : ℤ × Image). int_eq k.0 epoch ≡ false) kept → option_map_or (λ (k : ℤ × Image). int_eq k.0 epoch) (last kept) false ≡ false
  not_last_of [] a = refl
  not_last_of (k ∷ []) a = a.0
  not_last_of (k ∷ j ∷ kept) a = ap (λ (o : Option (ℤ × Image)). option_map_or (λ (k : ℤ × Image). int_eq k.0 epoch) o false) (last_later k j kept) ∙ not_last_of (j ∷ kept) a.1

  pub last_if : is_last_epoch ≡ true → MayOpen images epoch → last_kept images ≡ Some (epoch, images.tip)
  last_if is (inl above) = absurd (let no = not_last_of images.kept (apart_each above) in cc)
  last_if is (inr there) = there

  pub above_if : is_last_epoch ≡ false → MayOpen images epoch → IsAbove images.kept epoch
  above_if is (inl above) = above
  above_if is (inr there) = absurd (let yes : is_last_epoch ≡ true = ap (λ (o : Option (ℤ × Image)). option_map_or (λ (k : ℤ × Image). int_eq k.0 epoch) o false) there ∙ (Decides-int_eq epoch epoch).1 refl in cc)

-- the last of the listed epochs
pub last_listed : (t : Timelines) (list : List KeptCounts) (begun : Option ℤ) (epoch : ℤ) → option_map_or (λ (k : ℤ × Image). int_eq k.0 epoch) (last_kept (images_of t list begun)) false ≡ option_map_or (λ (k : KeptCounts). int_eq k.epoch epoch) (last list) false
last_listed t list begun epoch =
    ap (λ (o : Option (ℤ × Image)). option_map_or (λ (k : ℤ × Image). int_eq k.0 epoch) o false) (last_map (λ (x : KeptCounts). (x.epoch, image_in (keeps_of t) x.epoch)) list)
    ∙ elim (last list) as (λ o. option_map_or (λ (k : ℤ × Image). int_eq k.0 epoch) (option_map (λ (x : KeptCounts). (x.epoch, image_in (keeps_of t) x.epoch)) o) false ≡ option_map_or (λ (k : KeptCounts). int_eq k.epoch epoch) o false) [ None ↦ refl | Some k ↦ refl ]

-- ---- what the rows give

abbrev gives : Image → Option Opened → Result LogState Ill
gives image opened = Ok (record { image = image; opened = opened })

abbrev opened_with : ℤ → Image → Opened
opened_with place image = record { place = log_place place; image = image }

module _ (images : Images) where
  abbrev if_none : Option Opened → Image → ℕ → Result LogState Ill
  if_none o image place = cond (is_some o) (Err BadTransaction) (gives image (Some (record { place = place; image = image })))

  -- none is open
  pub begins : (place : ℤ) (after : Images) → images.begun ≡ None → after.begun ≡ Some place → after.tip ≡ images.tip → kept_at after place ≡ Some images.tip → begin_at (tip_state images) (log_place place) ≡ Ok (tip_state after)
  begins place after none some tip there =
      ap (λ (o : Option ℤ). if_none (opened_at images o) images.tip (log_place place)) none
      ∙ sym (ap (λ (o : Option ℤ). gives after.tip (opened_at after o)) some
      ∙ (ap (λ (o : Option Image). gives after.tip (option_map (opened_with place) o)) there
      ∙ ap (λ (i : Image). gives i (Some (opened_with place images.tip))) tip))

  -- one is open
  open_some : (begin : ℤ) (image : Image) → images.begun ≡ Some begin → kept_at images begin ≡ Some image → opened_at images images.begun ≡ Some (opened_with begin image)
  open_some begin image some there = ap (λ (o : Option ℤ). opened_at images o) some ∙ ap (λ (o : Option Image). option_map (opened_with begin) o) there

  pub no_begin : (begin : ℤ) (image : Image) (place : ℕ) → images.begun ≡ Some begin → kept_at images begin ≡ Some image → begin_at (tip_state images) place ≡ Err BadTransaction
  no_begin begin image place some there = ap (λ (o : Option Opened). if_none o images.tip place) (open_some begin image some there)

  abbrev if_ended : Option Opened → Result LogState Ill
  if_ended o = found BadTransaction o (λ (opened : Opened). gives images.tip None)

  abbrev if_aborted : Option Opened → Result LogState Ill
  if_aborted o = found BadTransaction o (λ (opened : Opened). gives opened.image None)

  pub no_end : images.begun ≡ None → end_open (tip_state images) ≡ Err BadTransaction
  no_end none = ap (λ (o : Option ℤ). if_ended (opened_at images o)) none

  pub no_abort : images.begun ≡ None → abort_open (tip_state images) ≡ Err BadTransaction
  no_abort none = ap (λ (o : Option ℤ). if_aborted (opened_at images o)) none

  pub ends : (begin : ℤ) (image : Image) → images.begun ≡ Some begin → kept_at images begin ≡ Some image → end_open (tip_state images) ≡ Ok (closed images.tip)
  ends begin image some there = ap if_ended (open_some begin image some there)

  pub aborts : (begin : ℤ) (image : Image) → images.begun ≡ Some begin → kept_at images begin ≡ Some image → abort_open (tip_state images) ≡ Ok (closed image)
  aborts begin image some there = ap if_aborted (open_some begin image some there)

  abbrev if_changed : Result Image Ill → Result LogState Ill
  if_changed r = and_then r (λ (i : Image). gives i (opened_at images images.begun))

  pub changes : (item : Item) (after : Images) → apply images.tip item ≡ Ok after.tip → after.kept ≡ images.kept → after.begun ≡ images.begun → image_after (tip_state images) item ≡ Ok (tip_state after)
  changes item after is kept begun =
      ap if_changed is
      ∙ sym (ap (λ (o : Option ℤ). gives after.tip (opened_at after o)) begun
      ∙ ap (λ (ks : List (ℤ × Image)). gives after.tip (opened_at (record images { kept = ks }) images.begun)) kept)

  pub changes_nothing : (item : Item) (cause : Ill) → apply images.tip item ≡ Err cause → image_after (tip_state images) item ≡ Err cause
  changes_nothing item cause is = ap if_changed is

-- the image that is kept for the open transaction
pub record BeganOn (images : Images) (begin : ℤ) : Type 0 where
  pub image : Image
  pub there : kept_at images begin ≡ Some image

began_on : (images : Images) (begin : ℤ) (o : Option Image) → kept_at images begin ≡ o → IsSome o → BeganOn images begin
began_on images begin None is some = absurd cc
began_on images begin (Some image) is some = record { image = image; there = is }

open_kept : (images : Images) (o : Option ℤ) (begin : ℤ) → o ≡ Some begin → IfSome o (λ b. IsSome (kept_at images b)) → IsSome (kept_at images begin)
open_kept images None begin is h = absurd cc
open_kept images (Some b) begin is h = subst (λ x. IsSome (kept_at images x)) (some_is b begin is) h

pub open_began : (images : Images) (begin : ℤ) → AreValid images → images.begun ≡ Some begin → BeganOn images begin
open_began images begin valid is =
    began_on images begin (kept_at images begin) refl (open_kept images images.begun begin is valid.begun.tip)

-- ---- what a call makes of a store

pub epoch_tip : (images : Images) (epoch : ℤ) → (with_epoch images epoch).tip ≡ images.tip
epoch_tip images epoch = elim (is_some (kept_at images epoch)) as (λ b. (cond b images (marked images epoch)).tip ≡ images.tip) [ true ↦ refl | false ↦ refl ]

pub begin_refused : (images : Images) (place : ℕ) → AreValid images → is_some images.begun ≡ true → begin_at (tip_state images) place ≡ Err BadTransaction
begin_refused images place valid some = by_begun images.begun refl some
  where
    by_begun : (o : Option ℤ) → images.begun ≡ o → is_some o ≡ true → begin_at (tip_state images) place ≡ Err BadTransaction
    by_begun None is some = absurd cc
    by_begun (Some begin) is some = let there = open_began images begin valid is in no_begin images begin there.image place is there.there

pub end_done : (images : Images) → AreValid images → is_some images.begun ≡ true → end_open (tip_state images) ≡ Ok (closed images.tip)
end_done images valid some = by_begun images.begun refl some
  where
    by_begun : (o : Option ℤ) → images.begun ≡ o → is_some o ≡ true → end_open (tip_state images) ≡ Ok (closed images.tip)
    by_begun None is some = absurd cc
    by_begun (Some begin) is some = let there = open_began images begin valid is in ends images begin there.image is there.there

listed_there : (o : Option KeptCounts) (f : KeptCounts → ℤ × Image) → IsSome (option_map (λ (e : ℤ × Image). e.1) (option_map f o)) → IsSome o
listed_there None f h = h
listed_there (Some k) f h = refl

pub kept_listed : (t : Timelines) (list : List KeptCounts) (begun : Option ℤ) (epoch : ℤ) (image : Image) → kept_at (images_of t list begun) epoch ≡ Some image → IsListed list epoch
kept_listed t list begun epoch image is =
    let f : KeptCounts → ℤ × Image = λ k. (k.epoch, image_in (keeps_of t) k.epoch) in
    listed_there (listed_at list epoch) f (subst (λ (o : Option (ℤ × Image)). IsSome (option_map (λ (e : ℤ × Image). e.1) o)) (find_map f (λ (e : ℤ × Image). int_eq e.0 epoch) list)
    (subst (λ (o : Option Image). IsSome o) (sym is) refl))

-- the image alone has changed, or nothing, or all has gone back
pub becomes_changed : (before after : Images) (r : Result (Unit {0}) ApplyFault) (place : ℤ) (item : Item) → Applies before after r place item → KeepsEpochs after before → OnOk r (after.begun ≡ before.begun) → Becomes before after r place (image_after (tip_state before) item) before
becomes_changed before after (Ok done) place item is same begun = (changes before item after is same.images begun, same)
becomes_changed before after (Err (faults.IllFormed there cause)) place item is same begun = (changes_nothing before item cause is.0, is.1, is.2)
becomes_changed before after (Err faults.NoMemory) place item is same begun = record { tip = is.0; begun = is.2; made = is.1; epochs = same }

-- what follows from an answer's clause
pub on_ok_then : {X E : Type 0} (P Q : Type 0) (r : Result X E) → (P → Q) → OnOk r P → OnOk r Q
on_ok_then P Q (Ok x) step p = step p
on_ok_then P Q (Err e) step p = tt
