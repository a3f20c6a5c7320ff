-- Records in groups, and the batches of them.
use Rattle.std.proofs.Common.{pos, negsuc, ◌≡◌, ◌∙◌, ℕ, ◌+◌, ◌*◌, ◌<◌, ◌≤◌, List, [], ◌∷◌, ◌++◌, length, length-append, append_assoc, refl, sym, ap, arith, All}
use Rattle.std.specs.Prelude.{sum_by}
use Rattle.std.specs.List.{AllByRecursion}
use Rattle.std.proofs.lemmas.List.{append-nil, map-append}
use Rattle.std.proofs.lemmas.List.Elements.{All-nil, All-append, All-from_recursion, recursion_from_All}
use Rattle.std.proofs.lemmas.List.Sums.{sum_by-append, sum_by-cons}
use Rattle.kr_defs.specs.declared.limits.TheConstants.{IMAGE_BATCH, MOST_CONFIG_TEXT}
use Rattle.kr_defs.specs.declared.record.Record.{Record}
use Rattle.kr_defs.specs.declared.record.Item.{Item}
use Rattle.kr_defs.specs.declared.record.Item.TheVariants as items
use Rattle.kr_wire.specs.Spelling.{signed, varint32, varint64}
use Rattle.kr_defs.specs.ImageLaws.{as_items}
use Rattle.kr_record.specs.Encodable.{IsHeld}
use Rattle.kr_record.specs.Spelling.{record_value}
use Rattle.kr_batch.specs.BatchBytes.{RECORDS_END, VALUES_END, IsWritable, item_value, values_size, record_body, record_bytes, records_bytes, fixed_bytes, checked_bytes, head_bytes, whole_bytes, batch_bytes}
use Rattle.kr_batch.proofs.Records.{records_more}
use Rattle.kr_batch.proofs.Sizes.{records_length}
use Rattle.kr_batch.specs.Crc.{crc32c}
use Rattle.std.specs.Int.{w8}
use Rattle.kr_snapshot.specs.ImageText.{chunks, batch_of_group, batches_bytes}
use Rattle.kr_snapshot.proofs.Chunks.{no_elements, chunk_first, chunk_last}
use Rattle.kr_snapshot.specs.inner.Writer.{setting_text, item_text, IsLight, IsLightItem, most_beside, Stands, MayAdd, Puts, Adds}
use Rattle.kr_snapshot.specs.declared.batch_writer.BatchWriter.{BatchWriter}

-- light items can be written
writable : (group : List Item) → AllByRecursion IsLightItem group → AllByRecursion IsWritable group
writable [] each = tt
writable (items.Record r ∷ group) each = (each.0.encodable, writable group each.1)
writable (items.Control ∷ group) each = absurd each.0

-- and need few bytes
weighed : (group : List Item) → AllByRecursion IsLightItem group → values_size group ≤ most_beside * length group + sum_by item_text group
weighed [] each = omega arith
weighed (items.Record r ∷ group) each =
    let a = sum_by-cons (λ i. length (item_value i)) (items.Record r) group in
    let b = sum_by-cons item_text (items.Record r) group in
    let c = weighed group each.1 in
    let d = each.0.size in
    omega (arith, a, b, c, d)
weighed (items.Control ∷ group) each = absurd each.0

pub group_writable : (group : List Item) → All IsLightItem group → All IsWritable group
group_writable group each = All-from_recursion IsWritable group (writable group (recursion_from_All IsLightItem group each))

pub group_small : (group : List Item) → All IsLightItem group → length group ≤ IMAGE_BATCH → sum_by item_text group ≤ MOST_CONFIG_TEXT → values_size group < VALUES_END
group_small group each few little =
    let a = weighed group (recursion_from_All IsLightItem group each) in
    omega (arith, a, few, little)

-- ---- each record takes a byte at least

zero_long : length (varint32 (pos 0)) ≡ 1
unfolding varint32
zero_long = refl

abbrev body_front : ℕ → List ℕ → List ℕ
body_front delta value = signed w8 (pos 0) ++ varint64 (pos 0) ++ varint32 (pos delta) ++ varint32 (negsuc 0) ++ varint32 (pos (length value)) ++ value

body_long : (delta : ℕ) (value : List ℕ) → 1 ≤ length (record_body delta value)
unfolding record_body
body_long delta value = let a = length-append (body_front delta value) (varint32 (pos 0)) in let b = zero_long in omega (arith, a, b)

records_long : (delta : ℕ) (group : List Item) → length group ≤ length (records_bytes delta group)
unfolding records_bytes
records_long delta [] = omega arith
records_long delta (item ∷ group) =
    let a = length-append (record_bytes delta (item_value item)) (records_bytes (delta + 1) group) in
    let b = length-append (varint32 (pos (length (record_body delta (item_value item))))) (record_body delta (item_value item)) in
    let c = body_long delta (item_value item) in
    let d = records_long (delta + 1) group in
    omega (arith, a, b, c, d)

batch_long : (before : ℕ) (group : List Item) → length group ≤ length (batch_bytes (batch_of_group before group))
unfolding batch_bytes checked_bytes
batch_long before group =
    let checked : List ℕ = checked_bytes (batch_of_group before group) in
    let a = length-append (head_bytes (pos before) (length checked + 9) (pos 0) (crc32c checked)) checked in
    let b = length-append (fixed_bytes (length group) (pos 0)) (records_bytes 0 group) in
    let c = records_long 0 group in
    omega (arith, a, b, c)

-- ---- the batch of records that stand in bytes

group_bytes : (before count : ℕ) (records : List ℕ) (group : List Item) → count ≡ length group → records ≡ records_bytes 0 group
    → whole_bytes (pos before) (pos 0) (fixed_bytes count (pos 0) ++ records) ≡ batch_bytes (batch_of_group before group)
unfolding batch_bytes checked_bytes
group_bytes before count records group counted spelled = rw (counted, spelled) refl

-- they are short
pub records_short : (w : BatchWriter) → MayAdd w [] → length w.records.items < RECORDS_END
records_short w may =
    let s = may.stands in
    let small = group_small s.group s.each s.few (omega (arith, s.text, may.little)) in
    rw s.spelled (omega (arith, records_length 0 s.group, s.few, small))

-- ---- no record yet

pub none_yet : (w : BatchWriter) → w.before ≡ 0 → w.body.items ≡ [] → w.count ≡ 0 → w.records.items ≡ [] → Stands w []
unfolding records_bytes
none_yet w before body count records = record {
  group = [];
  few = omega arith;
  each = All-nil IsLightItem;
  text = omega arith;
  counted = count;
  spelled = records;
  behind = rw (before, body) (omega arith);
  all = rw (before, count) (omega arith);
  bytes = λ more. rw (before, body) refl;
}

-- ---- a record more

module _ (w mid after : BatchWriter) (r : Record) (light : IsLight r) (room : mid.count < IMAGE_BATCH)
    (count : after.count ≡ mid.count + 1) (before : after.before ≡ mid.before) (body : after.body.items ≡ mid.body.items)
    (records : after.records.items ≡ mid.records.items ++ record_bytes mid.count (record_value r)) where
  pub one_more : (done : List Record) → Stands mid done → Stands after (done ++ r ∷ [])
  one_more done s =
      let item : Item = items.Record r in
      let group : List Item = s.group ++ item ∷ [] in
      let long = length-append s.group (item ∷ []) in
      let told = length-append done (r ∷ []) in
      let own = sum_by-cons item_text item [] in
      let its = sum_by-cons setting_text r [] in
      let sums = sum_by-append item_text s.group (item ∷ []) in
      let total = sum_by-append setting_text done (r ∷ []) in
      let named : as_items (done ++ r ∷ []) ≡ as_items done ++ item ∷ [] = map-append (λ r. items.Record r) done (r ∷ []) in
      record {
        group = group;
        few = omega (arith, long, s.counted, room);
        each = All-append IsLightItem s.group (item ∷ []) s.each (All-from_recursion IsLightItem (item ∷ []) (light, tt));
        text = omega (arith, own, its, sums, total, s.text);
        counted = omega (arith, count, long, s.counted);
        spelled = records ∙ rw (s.counted, s.spelled) (sym (records_more s.group item));
        behind = rw (before, body) s.behind;
        all = omega (arith, count, before, told, s.all);
        bytes = λ more.
            rw (before, body, append_assoc s.group (item ∷ []) more)
            (s.bytes (item ∷ more) ∙ ap (λ (is : List Item). batches_bytes 0 (chunks IMAGE_BATCH is)) (sym (append_assoc (as_items done) (item ∷ []) more) ∙ ap (λ (is : List Item). is ++ more) (sym named)));
      }

  pub push_adds : IsHeld r → ((done : List Record) → Stands w done → Stands mid done) → Adds w after (r ∷ [])
  push_adds held stays = record {
    stands = λ done s little. one_more done (stays done s);
    held = All-from_recursion IsHeld (r ∷ []) (held, tt);
  }

-- ---- once a group was put

module _ (w after : BatchWriter) (puts : Puts w after) (done : List Record) (s : Stands w done) where
  put_bytes : after.body.items ≡ w.body.items ++ batch_bytes (batch_of_group w.before s.group)
  put_bytes = puts.body ∙ ap (λ (l : List ℕ). w.body.items ++ l) (group_bytes w.before w.count w.records.items s.group s.counted s.spelled)

  pub put_behind : after.before ≤ length after.body.items
  put_behind =
      let a = ap (λ (l : List ℕ). length l) put_bytes in
      omega (arith, a, length-append w.body.items (batch_bytes (batch_of_group w.before s.group)), batch_long w.before s.group, s.behind, puts.before, s.counted)

  pub put_all : after.before ≡ length done
  put_all = omega (arith, puts.before, s.all)

  -- a full one
  pub put_full : w.count ≡ IMAGE_BATCH → Stands after done
  unfolding records_bytes
  put_full full =
      let before : after.before ≡ w.before + length s.group = omega (arith, puts.before, s.counted) in
      record {
        group = [];
        few = omega arith;
        each = All-nil IsLightItem;
        text = omega arith;
        counted = puts.count;
        spelled = puts.records;
        behind = put_behind;
        all = omega (arith, puts.before, puts.count, s.all);
        bytes = λ more.
            rw (put_bytes, before)
            (append_assoc w.body.items (batch_bytes (batch_of_group w.before s.group)) (batches_bytes (w.before + length s.group) (chunks IMAGE_BATCH more))
            ∙ ap (λ (gs : List (List Item)). w.body.items ++ batches_bytes w.before gs) (sym (chunk_first IMAGE_BATCH s.group more (omega arith) (omega (arith, full, s.counted))))
            ∙ s.bytes more);
      }

  -- the last one
  pub put_last : 1 ≤ w.count → after.body.items ≡ batches_bytes 0 (chunks IMAGE_BATCH (as_items done))
  put_last some =
      let one : chunks IMAGE_BATCH (s.group ++ []) ≡ s.group ∷ [] = ap (chunks IMAGE_BATCH) (append-nil s.group) ∙ chunk_last IMAGE_BATCH s.group (omega (arith, some, s.counted)) s.few in
      put_bytes
      ∙ ap (λ (l : List ℕ). w.body.items ++ l) (sym (ap (batches_bytes w.before) one ∙ append-nil (batch_bytes (batch_of_group w.before s.group))))
      ∙ s.bytes [] ∙ ap (λ (is : List Item). batches_bytes 0 (chunks IMAGE_BATCH is)) (append-nil (as_items done))

-- with none in hand
pub at_rest : (w : BatchWriter) (done : List Record) → Stands w done → w.count ≡ 0 → w.body.items ≡ batches_bytes 0 (chunks IMAGE_BATCH (as_items done))
at_rest w done s none =
    let empty : s.group ≡ [] = no_elements s.group (omega (arith, none, s.counted)) in
    sym (append-nil w.body.items) ∙ (rw empty at s.bytes []) ∙ ap (λ (is : List Item). batches_bytes 0 (chunks IMAGE_BATCH is)) (append-nil (as_items done))
