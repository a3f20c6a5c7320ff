-- What is written for an image stands for it.
use Rattle.std.proofs.Common.{◌≡◌, ℕ, ℤ, pos, ◌+◌, ◌<◌, ◌≤◌, ◌^◌, List, [], ◌∷◌, ◌++◌, length, length-append, append_assoc, Ok, refl, sym, ap, subst, arith, All}
use Rattle.std.specs.Prelude.{FitsSigned, ◌≤ℤ◌, map, sum_by, Result, Err, OnOk}
use Rattle.std.specs.Int.{w64}
use Rattle.std.specs.List.{AllByRecursion}
use Rattle.std.proofs.lemmas.Int.{ints}
use Rattle.std.proofs.lemmas.List.{length-map}
use Rattle.std.proofs.lemmas.List.Elements.{All-from_recursion, recursion_from_All}
use Rattle.std.proofs.lemmas.List.Sums.{sum_by-append, sum_by-cons}
use Rattle.kr_defs.specs.declared.limits.TheConstants.{IMAGE_BATCH, MOST_CONFIG_TEXT}
use Rattle.kr_defs.specs.declared.record.Record.{Record}
use Rattle.kr_defs.specs.declared.record.Item.{Item}
use Rattle.kr_defs.specs.declared.record.Item.TheVariants as items
use Rattle.kr_defs.specs.Image.{Image, IsValid}
use Rattle.kr_defs.specs.ImageLaws.{as_items}
use Rattle.kr_defs.specs.Records.{records_of}
use Rattle.kr_defs.proofs.OwnRecords.{own_records}
use Rattle.kr_defs.proofs.ReadingOrder.{own_order}
use Rattle.kr_wire.specs.Grammar.{IsSigned}
use Rattle.kr_wire.specs.Spelling.{signed}
use Rattle.kr_wire.proofs.ReadingLaws.{joined}
use Rattle.kr_wire.proofs.WrittenForms.{signed_spelled}
use Rattle.kr_record.specs.Encodable.{IsHeld}
use Rattle.kr_batch.specs.BatchBytes.{IsHeldItem, batch_bytes}
use Rattle.kr_batch.proofs.WrittenBatches.{batch_spelled}
use Rattle.kr_snapshot.specs.Grammar.{IsPart, AreParts, all_of, Makes, IsImage}
use Rattle.kr_snapshot.specs.Reading.{image_of}
use Rattle.kr_snapshot.specs.inner.Writer.{setting_text, item_text, texts, IsLight, IsLightItem}
use Rattle.kr_snapshot.specs.ImageText.{chunks, batch_of_group, batches_bytes, image_text}
use Rattle.kr_snapshot.proofs.WriterRecords.{all_front, all_back}
use Rattle.kr_snapshot.proofs.Chunks.{Sized, chunks_mapped, chunks_all, chunks_sized}
use Rattle.kr_snapshot.proofs.Groups.{group_writable, group_small}
use Rattle.kr_snapshot.proofs.WholeImages.{image_complete}
use Rattle.kr_snapshot.proofs.SmallRecords.{own_light, own_text}

-- ---- the batches

pub items_light : (rs : List Record) → AllByRecursion IsLight rs → AllByRecursion IsLightItem (as_items rs)
items_light [] a = tt
items_light (r ∷ rs) a = (a.0, items_light rs a.1)

items_held : (rs : List Record) → AllByRecursion IsHeld rs → AllByRecursion IsHeldItem (as_items rs)
items_held [] a = tt
items_held (r ∷ rs) a = (a.0, items_held rs a.1)

pub items_text : (rs : List Record) → sum_by item_text (as_items rs) ≡ texts rs
items_text [] = refl
items_text (r ∷ rs) =
    let a = sum_by-cons item_text (items.Record r) (as_items rs) in
    let b = sum_by-cons setting_text r rs in
    let c = items_text rs in
    omega (arith, a, b, c)

part_spelled : (before : ℕ) (group : List Record) → before < 2 ^ 63 → Sized IMAGE_BATCH group → AllByRecursion IsLight group → AllByRecursion IsHeld group → texts group ≤ MOST_CONFIG_TEXT
    → IsPart before group (batch_bytes (batch_of_group before (as_items group)))
part_spelled before group low sized light held little =
    let all : List Item = as_items group in
    let long : length all ≡ length group = length-map group (λ r. items.Record r) in
    let each : All IsLightItem all = All-from_recursion IsLightItem all (items_light group light) in
    let text = items_text group in
    let some = sized.some in
    let few = sized.few in
    record {
      batch = batch_of_group before all;
      base = refl;
      items = refl;
      spelled = batch_spelled (batch_of_group before all) (omega (arith, ints)) (record { sfits = low }) (record { sfits = omega arith }) (record { sfits = omega arith })
          (omega (arith, long, some)) (omega (arith, long, few)) (group_writable all each) (All-from_recursion IsHeldItem all (items_held group held))
          (group_small all each (omega (arith, long, few)) (omega (arith, text, little)));
    }

parts_spelled : (gs : List (List Record)) (before : ℕ) → before + length (all_of gs) < 2 ^ 63 → AllByRecursion (Sized IMAGE_BATCH) gs → AllByRecursion IsLight (all_of gs) → AllByRecursion IsHeld (all_of gs)
    → texts (all_of gs) ≤ MOST_CONFIG_TEXT → AreParts before gs (batches_bytes before (map as_items gs))
parts_spelled [] before low sized light held little = refl
parts_spelled (g ∷ gs) before low sized light held little =
    let long = length-append g (all_of gs) in
    let sum = sum_by-append setting_text g (all_of gs) in
    let counted : length (as_items g) ≡ length g = length-map g (λ r. items.Record r) in
    let rest = parts_spelled gs (before + length g) (omega (arith, low, long)) sized.1 (all_back IsLight g (all_of gs) light) (all_back IsHeld g (all_of gs) held) (omega (arith, sum, little)) in
    joined _ _ (part_spelled before g (omega (arith, low)) sized.0 (all_front IsLight g (all_of gs) light) (all_front IsHeld g (all_of gs) held) (omega (arith, sum, little)))
    (subst (λ (n : ℕ). AreParts (before + length g) gs (batches_bytes (before + n) (map as_items gs))) (sym counted) rest)

-- ---- the image

pub text_stands : (offset : ℤ) (image : Image) → IsValid image → pos 0 ≤ℤ offset → FitsSigned w64 offset → length (records_of image) < 2 ^ 63 → All IsHeld (records_of image)
    → IsImage offset image (image_text offset image)
unfolding image_text
text_stands offset image valid least fits few held =
    let rs : List Record = records_of image in
    let gs : List (List Record) = chunks IMAGE_BATCH rs in
    let all : all_of gs ≡ rs = chunks_all IMAGE_BATCH rs (omega arith) in
    let spelled : AreParts 0 gs (batches_bytes 0 (map as_items gs)) = parts_spelled gs 0 (let l = ap (λ (xs : List Record). length xs) all in omega (arith, few, l)) (chunks_sized IMAGE_BATCH rs (omega arith))
    (subst (λ (xs : List Record). AllByRecursion IsLight xs) (sym all) (recursion_from_All IsLight rs (own_light image valid)))
    (subst (λ (xs : List Record). AllByRecursion IsHeld xs) (sym all) (recursion_from_All IsHeld rs held))
    (subst (λ (xs : List Record). texts xs ≤ MOST_CONFIG_TEXT) (sym all) (own_text image valid)) in
    let count : IsSigned w64 (pos (length (all_of gs))) (signed w64 (pos (length rs))) = subst (λ (xs : List Record). IsSigned w64 (pos (length xs)) (signed w64 (pos (length rs)))) (sym all) (signed_spelled w64 (pos (length rs)) (omega arith) (record { sfits = few })) in
    let makes : Makes rs image = record { ordered = own_order image valid; applied = own_records image valid } in
    record {
      parts = gs;
      natural = least;
      makes = subst (λ (xs : List Record). Makes xs image) (sym all) makes;
      spelled = record {
        left = signed w64 offset;
        right = signed w64 (pos (length rs)) ++ batches_bytes 0 (chunks IMAGE_BATCH (as_items rs));
        is = append_assoc (signed w64 offset) (signed w64 (pos (length rs))) (batches_bytes 0 (chunks IMAGE_BATCH (as_items rs)));
        first = signed_spelled w64 offset (omega arith) fits;
        second = joined _ _ count (subst (λ (is : List (List Item)). AreParts 0 gs (batches_bytes 0 is)) (sym (chunks_mapped (λ (r : Record). items.Record r) IMAGE_BATCH rs)) spelled);
      };
    }

pub text_again : (offset : ℤ) (image : Image) → IsValid image → pos 0 ≤ℤ offset → FitsSigned w64 offset → length (records_of image) < 2 ^ 63 → All IsHeld (records_of image)
    → image_of (image_text offset image) ≡ Ok (offset, image)
text_again offset image valid least fits few held = image_complete offset image (image_text offset image) (text_stands offset image valid least fits few held)

-- the same of a call that writes it
pub on_ok_stands : {T E : Type 0} (offset : ℤ) (image : Image) (result : Result T E) → IsValid image → pos 0 ≤ℤ offset → FitsSigned w64 offset → OnOk result (length (records_of image) < 2 ^ 63)
    → OnOk result (All IsHeld (records_of image)) → OnOk result (IsImage offset image (image_text offset image))
on_ok_stands offset image (Ok done) valid least fits few held = text_stands offset image valid least fits few held
on_ok_stands offset image (Err fault) valid least fits few held = tt
