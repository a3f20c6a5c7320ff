-- One batch more of an image whose records come in pieces.
use Rattle.std.proofs.Common.{pos, negsuc, ◌≡◌, ◌∙◌, ℕ, ℤ, zero, suc, ◌+◌, ◌*◌, ◌<◌, ◌≤◌, List, [], ◌∷◌, ◌++◌, length, length-append, append_assoc, refl, sym, ap, subst, arith, inl, inr, ◌^◌, All}
use Rattle.std.specs.Prelude.{sum_by}
use Rattle.std.specs.List.{AllByRecursion}
use Rattle.std.proofs.lemmas.List.Elements.{All-from_recursion, recursion_from_All}
use Rattle.std.proofs.lemmas.List.Sums.{sum_by-append}
use Rattle.std.proofs.lemmas.Bool.{cases_lt}
use Rattle.std.specs.Prelude.{take, drop, FitsSigned, ◌≤ℤ◌, unsigned_abs}
use Rattle.std.specs.Int.{w64}
use Rattle.std.proofs.lemmas.Int.{ints}
use Rattle.std.proofs.lemmas.List.{append-nil, length-map, length-drop, length-take-le, take-append-drop, map-append}
use Rattle.kr_defs.specs.declared.limits.TheConstants.{IMAGE_BATCH, MOST_RECORDS}
use Rattle.kr_defs.specs.declared.record.Record.{Record}
use Rattle.kr_defs.specs.declared.record.Item.{Item}
use Rattle.kr_defs.specs.declared.record.Item.TheVariants as kinds
use Rattle.kr_defs.specs.Image.{Image, IsValid}
use Rattle.kr_defs.specs.ImageLaws.{as_items}
use Rattle.kr_defs.specs.Records.{records_of}
use Rattle.kr_batch.specs.BatchBytes.{batch_bytes}
use Rattle.kr_snapshot.specs.ImageText.{batch_of_group, batches_bytes, chunks, image_head, image_text, text_up_to}
use Rattle.kr_snapshot.specs.inner.Writer.{IsLight, IsLightItem, setting_text}
use Rattle.kr_snapshot.specs.Written.{Written, IsUnderway, MayPut, IsNextText, put_bytes}
use Rattle.kr_snapshot.proofs.Chunks.{chunk_first, chunk_last, no_elements}
use Rattle.kr_snapshot.proofs.Groups.{group_small, group_writable}
use Rattle.kr_snapshot.proofs.SmallRecords.{own_light, own_text}
use Rattle.kr_snapshot.proofs.Texts.{items_light, items_text}
use Rattle.kr_snapshot.proofs.WriterRecords.{all_back, all_front}

-- behind full batches a group of at most 1,000 is a batch of its own
batches_on : (batches before : ℕ) (first more : List Item) → length first ≡ IMAGE_BATCH * batches → 1 ≤ length more → length more ≤ IMAGE_BATCH
    → batches_bytes before (chunks IMAGE_BATCH (first ++ more)) ≡ batches_bytes before (chunks IMAGE_BATCH first) ++ batch_bytes (batch_of_group (before + length first) more)
batches_on zero before first more full some few =
    let none : first ≡ [] = no_elements first (omega (arith, full)) in
    let place : before ≡ before + length first = omega (arith, full) in
    ap (λ (l : List Item). batches_bytes before (chunks IMAGE_BATCH (l ++ more))) none
    ∙ (ap (batches_bytes before) (chunk_last IMAGE_BATCH more some few)
    ∙ (append-nil (batch_bytes (batch_of_group before more))
    ∙ (ap (λ (n : ℕ). batch_bytes (batch_of_group n more)) place
    ∙ ap (λ (l : List Item). batches_bytes before (chunks IMAGE_BATCH l) ++ batch_bytes (batch_of_group (before + length first) more)) (sym none))))
batches_on (suc batches) before first more full some few =
    let front : List Item = take IMAGE_BATCH first in
    let rest : List Item = drop IMAGE_BATCH first in
    let whole : front ++ rest ≡ first = take-append-drop IMAGE_BATCH first in
    let long : length front ≡ IMAGE_BATCH = length-take-le IMAGE_BATCH first (omega (arith, full)) in
    let left = length-drop IMAGE_BATCH first in
    let behind = batches_on batches (before + IMAGE_BATCH) rest more (omega (arith, left, full)) some few in
    let cut : chunks IMAGE_BATCH first ≡ front ∷ chunks IMAGE_BATCH rest = ap (chunks IMAGE_BATCH) (sym whole) ∙ chunk_first IMAGE_BATCH front rest (omega arith) long in
    let cut_on : chunks IMAGE_BATCH (first ++ more) ≡ front ∷ chunks IMAGE_BATCH (rest ++ more) =
    ap (λ (l : List Item). chunks IMAGE_BATCH (l ++ more)) (sym whole) ∙ (ap (chunks IMAGE_BATCH) (append_assoc front rest more) ∙ chunk_first IMAGE_BATCH front (rest ++ more) (omega arith) long) in
    let place : before + IMAGE_BATCH + length rest ≡ before + length first = omega (arith, left, full) in
    ap (batches_bytes before) cut_on
    ∙ (ap (λ (n : ℕ). batch_bytes (batch_of_group before front) ++ batches_bytes (before + n) (chunks IMAGE_BATCH (rest ++ more))) long
    ∙ (ap (λ (l : List ℕ). batch_bytes (batch_of_group before front) ++ l) behind
    ∙ (sym (append_assoc (batch_bytes (batch_of_group before front)) (batches_bytes (before + IMAGE_BATCH) (chunks IMAGE_BATCH rest)) (batch_bytes (batch_of_group (before + IMAGE_BATCH + length rest) more)))
    ∙ (ap (λ (n : ℕ). (batch_bytes (batch_of_group before front) ++ batches_bytes (before + IMAGE_BATCH) (chunks IMAGE_BATCH rest)) ++ batch_bytes (batch_of_group n more)) place
    ∙ ap (λ (l : List ℕ). l ++ batch_bytes (batch_of_group (before + length first) more))
    (ap (λ (n : ℕ). batch_bytes (batch_of_group before front) ++ batches_bytes (before + n) (chunks IMAGE_BATCH rest)) (sym long) ∙ ap (batches_bytes before) (sym cut))))))

pub goes_on : (w : Written) (records : List Record) → IsUnderway w.count w.done → MayPut w records → IsNextText w records (put_bytes w records)
goes_on w records within may offset first is =
    let some = may.some in
    let room = may.within in
    let few = may.few in
    let full = within.full (omega (arith, some, room)) in
    let long : length (as_items records) ≡ length records = length-map records (λ r. kinds.Record r) in
    let short : length (as_items first) ≡ w.done = length-map first (λ r. kinds.Record r) ∙ is in
    let place : 0 + length (as_items first) ≡ w.done = omega (arith, short) in
    let front : List ℕ = image_head offset (pos w.count) in
    let before : List ℕ = batches_bytes 0 (chunks IMAGE_BATCH (as_items first)) in
    let on = batches_on full.0 0 (as_items first) (as_items records) (short ∙ full.1) (omega (arith, long, some)) (omega (arith, long, few)) in
    ap (λ (l : List Item). front ++ batches_bytes 0 (chunks IMAGE_BATCH l)) (map-append (λ (r : Record). kinds.Record r) first records)
    ∙ (ap (λ (l : List ℕ). front ++ l) on
    ∙ (sym (append_assoc front before (batch_bytes (batch_of_group (0 + length (as_items first)) (as_items records))))
    ∙ ap (λ (n : ℕ). (front ++ before) ++ batch_bytes (batch_of_group n (as_items records))) place))

-- ---- what a put asks for

pub may_some : (w : Written) (records : List Record) → MayPut w records → 1 ≤ length (as_items records)
may_some w records may =
    let long : length (as_items records) ≡ length records = length-map records (λ r. kinds.Record r) in
    let some = may.some in
    omega (arith, long, some)

pub may_few : (w : Written) (records : List Record) → MayPut w records → length (as_items records) ≤ MOST_RECORDS
may_few w records may =
    let long : length (as_items records) ≡ length records = length-map records (λ r. kinds.Record r) in
    let few = may.few in
    omega (arith, long, few)

pub done_number : (w : Written) → IsUnderway w.count w.done → w.done < 2 ^ 63
done_number w within =
    let number = within.number in
    let done = within.within in
    omega (arith, number, done)

pub put_number : (w : Written) (records : List Record) → IsUnderway w.count w.done → MayPut w records → w.done + length records < 2 ^ 64
put_number w records within may =
    let number = within.number in
    let room = may.within in
    omega (arith, number, room)

-- the numbers stay within
pub put_within : (w : Written) (records : List Record) → IsUnderway w.count w.done → MayPut w records → IsUnderway w.count (w.done + length records)
put_within w records within may = record {
  number = within.number;
  within = may.within;
  full = λ less.
      let some = may.some in
      let room = may.within in
      let full = within.full (omega (arith, some, room)) in
      let few = may.few in
      elim (cases_lt (length records) IMAGE_BATCH) [
        | inl lt ↦ (let last = may.full lt in absurd (omega (arith, last, less)))
        | inr ge ↦ (suc full.0, (let f = full.1 in omega (arith, f, few, ge)))
      ];
}

-- ---- the records of an image

-- any 1,000 of a valid image's records, and the last ones, may be put behind those before them
pub part_may_put : (image : Image) → IsValid image → (w : Written) (front part rest : List Record) → records_of image ≡ front ++ (part ++ rest) → w.count ≡ length (records_of image)
    → w.done ≡ length front → 1 ≤ length part → length part ≤ IMAGE_BATCH → (length part < IMAGE_BATCH → rest ≡ []) → MayPut w part
part_may_put image valid w front part rest whole count done some few last =
    let all = ap (λ (rs : List Record). length rs) whole in
    let long = length-append front (part ++ rest) in
    let behind = length-append part rest in
    let light = subst (λ (rs : List Record). AllByRecursion IsLight rs) whole (recursion_from_All IsLight (records_of image) (own_light image valid)) in
    let own : AllByRecursion IsLight part = all_front IsLight part rest (all_back IsLight front (part ++ rest) light) in
    let each : All IsLightItem (as_items part) = All-from_recursion IsLightItem (as_items part) (items_light part own) in
    let text = ap (λ (rs : List Record). sum_by setting_text rs) whole in
    let sum = sum_by-append setting_text front (part ++ rest) in
    let sum_behind = sum_by-append setting_text part rest in
    let most = own_text image valid in
    let held = items_text part in
    let counted : length (as_items part) ≡ length part = length-map part (λ r. kinds.Record r) in
    record {
      some = some;
      few = few;
      within = omega (arith, count, done, all, long, behind);
      full = λ short. (let none = ap (λ (rs : List Record). length rs) (last short) in omega (arith, count, done, all, long, behind, none));
      each = group_writable (as_items part) each;
      small = group_small (as_items part) each (omega (arith, counted, few)) (omega (arith, text, sum, sum_behind, most, held));
    }

-- the text as far as all records is the image's
pub text_of_all : (offset : ℤ) (image : Image) → text_up_to offset (pos (length (records_of image))) (records_of image) ≡ image_text offset image
unfolding image_text
text_of_all offset image = refl

-- ---- at the beginning

-- a count that isn't negative is the same number without its sign
pub counted : (count : ℤ) → pos 0 ≤ℤ count → pos (unsigned_abs count) ≡ count
counted (pos n) natural = refl
counted (negsuc n) natural = absurd (omega (arith, ints))

pub few_counted : (count : ℤ) → pos 0 ≤ℤ count → FitsSigned w64 count → unsigned_abs count < 2 ^ 63
few_counted (pos n) natural fits = fits.sfits
few_counted (negsuc n) natural fits = absurd (omega (arith, ints))

pub begun : (count : ℕ) → count < 2 ^ 63 → IsUnderway count 0
begun count few = record {
  number = few;
  within = omega arith;
  full = λ some. (0, refl);
}

pub ruleset put_on = (goes_on, may_some, may_few, done_number, put_number, put_within)

pub ruleset new = (counted, few_counted, begun)
