-- How many bytes an image has that is written.
use Rattle.std.proofs.Common.{◌≡◌, ◌≤◌, ◌<◌, ◌+◌, ◌*◌, ◌^◌, ℕ, zero, suc, ℤ, pos, negsuc, Bool, true, false, cond, List, [], ◌∷◌, ◌++◌, length, length-append, map, take, drop, refl, sym, ap, subst, ◌∙◌, All, arith}
use Rattle.std.proofs.lemmas.Bool.Decides.{nat_tests}
use Rattle.std.proofs.lemmas.Int.{ints}
use Rattle.std.proofs.lemmas.List.{append_assoc, length-map, length-take, take-append-drop}
use Rattle.std.proofs.lemmas.List.Elements.{recursion_from_All}
use Rattle.std.proofs.lemmas.List.Sums.{sum_by-append, sum_by-cons}
use Rattle.std.specs.declared.cmp.Ordering.{Ordering}
use Rattle.std.specs.declared.cmp.Ordering.TheVariants.{Less, Equal, Greater}
use Rattle.std.specs.List.{AllByRecursion, flat_map}
use Rattle.std.specs.List.Sorted.{IsStrictlySortedBy}
use Rattle.std.specs.Int.{w64}
use Rattle.std.specs.Map.{keys_of}
use Rattle.std.specs.Ordering.{int_cmp, ordering_then}
use Rattle.std.specs.Prelude.{◌==◌, ◌&&◌, ◌≤ℤ◌, ◌+ℤ◌, ◌-ℤ◌, filter, int_le, sum_by, IsTrue, Some}
use Rattle.kr_batch.specs.BatchBytes.{batch_bytes, checked_bytes, fixed_bytes, head_bytes, item_value, records_bytes, values_size}
use Rattle.kr_batch.specs.Crc.{crc32c}
use Rattle.kr_batch.proofs.Sizes.{fixed_length, head_length, records_length}
use Rattle.kr_defs.specs.declared.limits.TheConstants.{IMAGE_BATCH, MOST_BROKERS, MOST_CONFIG_TEXT, MOST_FEATURES, MOST_PARTITIONS, MOST_TOPICS}
use Rattle.kr_defs.specs.declared.partition.Partition.{Partition}
use Rattle.kr_defs.specs.declared.record.ConfigKey.{ConfigKey}
use Rattle.kr_defs.specs.declared.record.Item.{Item}
use Rattle.kr_defs.specs.declared.record.Item.TheVariants as items
use Rattle.kr_defs.specs.declared.record.Record.{Record}
use Rattle.kr_defs.specs.declared.record.Record.TheVariants as kinds
use Rattle.kr_defs.specs.Image.{Image, IsValid, config_text, entry_text}
use Rattle.kr_defs.specs.ImageLaws.{as_items}
use Rattle.kr_defs.specs.Map.{IsMap, config_order, text_order}
use Rattle.kr_defs.specs.Records.{partition_record, records_of, topic_records}
use Rattle.kr_defs.specs.Sizes.{text_bytes, uvarint_bytes, value_bytes}
use Rattle.kr_defs.specs.Walk.{walk_topic}
use Rattle.kr_defs.proofs.Maps.{IsMap-filter}
use Rattle.kr_defs.proofs.Tests.{both}
use Rattle.kr_record.proofs.RecordForms.{size}
use Rattle.kr_snapshot.specs.ImageText.{batch_of_group, batches_bytes, chunks, chunks_within, image_head, image_text}
use Rattle.kr_snapshot.specs.inner.EntryRecords.{broker_record, config_record, feature_record}
use Rattle.kr_snapshot.specs.inner.Writer.{IsLight, most_beside, setting_text, texts}
use Rattle.kr_snapshot.proofs.SmallRecords.{brokers, configs, features, in_sections, own_light, own_text, topics}
use Rattle.kr_snapshot.proofs.WriterRecords.{all_back, all_front}
use Rattle.kr_wire.specs.Spelling.{signed}
use Rattle.kr_wire.proofs.Lengths.{length_signed_64}
use Rattle.law_safety.proofs.Lengths.{walk_few}
use Rattle.law_invariants.specs.ImageFrames.{ImagesFitFrames, is_type}

-- ---- batches

batch_length : (before : ℕ) (group : List Item) → length (batch_bytes (batch_of_group before group)) ≤ 61 + 19 * length group + values_size group
unfolding batch_bytes checked_bytes
batch_length before group =
    let checked : List ℕ = checked_bytes (batch_of_group before group) in
    let a = length-append (head_bytes (pos before) (length checked + 9) (pos 0) (crc32c checked)) checked in
    let b = length-append (fixed_bytes (length group) (pos 0)) (records_bytes 0 group) in
    let d = head_length (pos before) (length checked + 9) (pos 0) (crc32c checked) in
    let e = fixed_length (length group) (pos 0) in
    let f = records_length 0 group in
    omega (arith, a, b, d, e, f)

-- no group is empty, so there are at most as many as items
groups_length : (n before : ℕ) (all : List Item) → length (batches_bytes before (chunks_within n IMAGE_BATCH all)) ≤ 80 * length all + values_size all
groups_length n before [] = omega arith
groups_length zero before (item ∷ behind) = omega arith
groups_length (suc n) before (item ∷ behind) =
    let all : List Item = item ∷ behind in
    let group : List Item = take IMAGE_BATCH all in
    let rest : List Item = drop IMAGE_BATCH all in
    let others : List ℕ = batches_bytes (before + length group) (chunks_within n IMAGE_BATCH rest) in
    let a = length-append (batch_bytes (batch_of_group before group)) others in
    let b = batch_length before group in
    let d = groups_length n (before + length group) rest in
    let e = length-append group rest in
    let f = ap (λ (l : List Item). length l) (take-append-drop IMAGE_BATCH all) in
    let h = sum_by-append (λ (i : Item). length (item_value i)) group rest in
    let k = ap values_size (take-append-drop IMAGE_BATCH all) in
    let long = length-take IMAGE_BATCH all in
    let some : 1 ≤ length group = omega (arith, long) in
    omega (arith, a, b, d, e, f, h, k, some)

text_length : (offset : ℤ) (image : Image) → length (image_text offset image) ≤ 16 + (80 * length (records_of image) + values_size (as_items (records_of image)))
unfolding image_text
text_length offset image =
    let records = records_of image in
    let all = as_items records in
    let count = pos (length records) in
    let a = length-append (image_head offset count) (batches_bytes 0 (chunks IMAGE_BATCH all)) in
    let b = length-append (signed w64 offset) (signed w64 count) in
    let d = length_signed_64 offset in
    let e = length_signed_64 count in
    let f = groups_length (length all) 0 all in
    let long : length all ≡ length records = length-map records (λ (r : Record). items.Record r) in
    omega (arith, a, b, d, e, f, long)

-- ---- the values of light records

light_values : (records : List Record) → AllByRecursion IsLight records → values_size (as_items records) ≤ 8192 * length records + texts records
light_values [] light = omega arith
light_values (r ∷ records) light =
    let a = sum_by-cons (λ (i : Item). length (item_value i)) (items.Record r) (as_items records) in
    let b = sum_by-cons setting_text r records in
    let d = light.0.size in
    let e = light_values records light.1 in
    omega (arith, a, b, d, e)

values_both : (xs ys : List Record) → values_size (as_items (xs ++ ys)) ≡ values_size (as_items xs) + values_size (as_items ys)
values_both [] ys = omega arith
values_both (x ∷ xs) ys =
    let a = sum_by-cons (λ (i : Item). length (item_value i)) (items.Record x) (as_items (xs ++ ys)) in
    let b = sum_by-cons (λ (i : Item). length (item_value i)) (items.Record x) (as_items xs) in
    let d = values_both xs ys in
    omega (arith, a, b, d)

-- ---- settings

number_few : (n : ℕ) → uvarint_bytes n ≤ 5
number_few n = grind (arith, nat_tests)

text_few : (text : List ℕ) → text_bytes text ≤ 5 + length text
text_few text = let few = number_few (length text + 1) in omega (arith, few)

config_few : (e : ConfigKey × List ℕ) → value_bytes (config_record e) ≤ 20 + entry_text e.0 e.1
unfolding value_bytes
config_few e =
    let a = text_few e.0.name in
    let b = text_few e.0.key in
    let d = text_few e.1 in
    omega (arith, a, b, d)

config_values : (es : List (ConfigKey × List ℕ)) → AllByRecursion IsLight (map config_record es) → values_size (as_items (map config_record es)) ≤ 20 * length es + config_text es
config_values [] light = omega arith
config_values (e ∷ es) light =
    let a = sum_by-cons (λ (i : Item). length (item_value i)) (items.Record (config_record e)) (as_items (map config_record es)) in
    let b = sum_by-cons (λ (c : ConfigKey × List ℕ). entry_text c.0 c.1) e es in
    let d = size (config_record e) light.0.encodable in
    let f = config_few e in
    let h = config_values es light.1 in
    omega (arith, a, b, d, f, h)

not_zero : (n : ℕ) → (n == 0) ≡ false → 1 ≤ n
not_zero n some = grind (arith, nat_tests)

zero_is : (n : ℕ) → (n == 0) ≡ true → n ≡ 0
zero_is n none = grind (arith, nat_tests)

-- a setting without name and key
abbrev is_blank : ConfigKey × List ℕ → Bool
is_blank e = length e.0.name + length e.0.key == 0

some_text : (e : ConfigKey × List ℕ) → is_blank e ≡ false → 1 ≤ entry_text e.0 e.1
some_text e named = let more : 1 ≤ length e.0.name + length e.0.key = not_zero (length e.0.name + length e.0.key) named in omega (arith, more)

named_few : (es : List (ConfigKey × List ℕ)) → length es ≤ config_text es + length (filter is_blank es)
named_few [] = omega arith
named_few (e ∷ es) =
    let a = sum_by-cons (λ (c : ConfigKey × List ℕ). entry_text c.0 c.1) e es in
    let b = named_few es in
    elim (is_blank e) as (λ b. is_blank e ≡ b → length (e ∷ es) ≤ config_text (e ∷ es) + length (cond b (e ∷ filter is_blank es) (filter is_blank es))) [
      | true ↦ λ is. omega (arith, a, b)
      | false ↦ λ is. let more = some_text e is in omega (arith, a, b, more)
    ] refl

-- those without have types that rise
record IsBlank (e : ConfigKey × List ℕ) : Type 0 where
  name : e.0.name ≡ []
  key : e.0.key ≡ []
  type : is_type e.0.kind ≡ true

none_long : (l : List ℕ) → length l ≡ 0 → l ≡ []
none_long [] none = refl
none_long (x ∷ l) none = absurd (omega (arith, none))

blanks : (es : List (ConfigKey × List ℕ)) → AllByRecursion (λ e. is_type e.0.kind ≡ true) es → AllByRecursion IsBlank (filter is_blank es)
blanks [] types = tt
blanks (e ∷ es) types =
    elim (is_blank e) as (λ b. is_blank e ≡ b → AllByRecursion IsBlank (cond b (e ∷ filter is_blank es) (filter is_blank es))) [
      | true ↦ λ is.
          let none : length e.0.name + length e.0.key ≡ 0 = zero_is (length e.0.name + length e.0.key) is in
          (record { name = none_long e.0.name (omega (arith, none)); key = none_long e.0.key (omega (arith, none)); type = types.0 }, blanks es types.1)
      | false ↦ λ is. blanks es types.1
    ] refl

int_at_most : (a b : ℤ) → int_le a b ≡ true → a ≤ℤ b
int_at_most a b is = grind (arith, ints)

then_equal : (o : Ordering) → ordering_then o Equal ≡ Less → o ≡ Less
then_equal Less is = refl
then_equal Equal is = absurd cc
then_equal Greater is = absurd cc

below : (a b : ℤ) → int_cmp a b ≡ Less → (a +ℤ pos 1) ≤ℤ b
below a b is = grind (arith, ints)

type_rises : (a b : ConfigKey × List ℕ) → IsBlank a → IsBlank b → config_order a.0 b.0 ≡ Less → (a.0.kind +ℤ pos 1) ≤ℤ b.0.kind
type_rises a b x y less =
    below a.0.kind b.0.kind (then_equal (int_cmp a.0.kind b.0.kind)
    (sym (ap (λ (l : List ℕ). ordering_then (int_cmp a.0.kind b.0.kind) (ordering_then (text_order l b.0.name) (text_order a.0.key b.0.key))) x.name
    ∙ (ap (λ (l : List ℕ). ordering_then (int_cmp a.0.kind b.0.kind) (ordering_then (text_order [] l) (text_order a.0.key b.0.key))) y.name
    ∙ (ap (λ (l : List ℕ). ordering_then (int_cmp a.0.kind b.0.kind) (text_order l b.0.key)) x.key
    ∙ ap (λ (l : List ℕ). ordering_then (int_cmp a.0.kind b.0.kind) (text_order [] l)) y.key))) ∙ less))

later : (a : ConfigKey × List ℕ) (es : List (ConfigKey × List ℕ)) → IsBlank a → AllByRecursion IsBlank es → AllByRecursion (λ k. config_order a.0 k ≡ Less) (keys_of es) → AllByRecursion (λ (e : ConfigKey × List ℕ). (a.0.kind +ℤ pos 1) ≤ℤ e.0.kind) es
later a [] x blank less = tt
later a (e ∷ es) x blank less = (type_rises a e x blank.0 less.0, later a es x blank.1 less.1)

types_few : (least : ℤ) (es : List (ConfigKey × List ℕ)) → least ≤ℤ pos 128 → IsMap config_order es → AllByRecursion IsBlank es → AllByRecursion (λ (e : ConfigKey × List ℕ). least ≤ℤ e.0.kind) es
    → pos (length es) ≤ℤ (pos 128 -ℤ least)
unfolding IsStrictlySortedBy
types_few least [] low ordered blank high = omega (arith, ints, low)
types_few least (e ∷ es) low ordered blank high =
    let most = int_at_most e.0.kind (pos 127) (both (int_le (negsuc 127) e.0.kind) (int_le e.0.kind (pos 127)) blank.0.type).1 in
    let rest = types_few (e.0.kind +ℤ pos 1) es (omega (arith, ints, most)) ordered.1 blank.1 (later e es blank.0 blank.1 ordered.0) in
    let here = high.0 in
    omega (arith, ints, rest, here)

type_least : (es : List (ConfigKey × List ℕ)) → AllByRecursion IsBlank es → AllByRecursion (λ (e : ConfigKey × List ℕ). negsuc 127 ≤ℤ e.0.kind) es
type_least [] blank = tt
type_least (e ∷ es) blank = (int_at_most (negsuc 127) e.0.kind (both (int_le (negsuc 127) e.0.kind) (int_le e.0.kind (pos 127)) blank.0.type).0, type_least es blank.1)

settings_few : (es : List (ConfigKey × List ℕ)) → IsMap config_order es → config_text es ≤ MOST_CONFIG_TEXT → AllByRecursion (λ e. is_type e.0.kind ≡ true) es → length es ≤ MOST_CONFIG_TEXT + 256
settings_few es ordered little types =
    let named = named_few es in
    let blank = blanks es types in
    let few = types_few (negsuc 127) (filter is_blank es) (omega (arith, ints)) (IsMap-filter config_order is_blank es ordered) blank (type_least (filter is_blank es) blank) in
    let fewer : length (filter is_blank es) ≤ 256 = omega (arith, ints, few) in
    omega (arith, named, little, fewer)

-- ---- topics

topics_length : (ps : List ((ℕ × ℤ) × Partition)) (ts : List (List ℕ × ℕ)) → length (flat_map (topic_records ps) ts) ≡ length ts + length (flat_map (walk_topic ps) ts)
topics_length ps [] = refl
topics_length ps (t ∷ ts) =
    let a = length-append (topic_records ps t) (flat_map (topic_records ps) ts) in
    let b = length-append (walk_topic ps t) (flat_map (walk_topic ps) ts) in
    let d = length-map (walk_topic ps t) partition_record in
    let e = topics_length ps ts in
    omega (arith, a, b, d, e)

-- ---- an image

module _ (image : Image) (valid : IsValid image) (types : All (λ e. IsTrue (is_type e.0.kind)) image.configs) where
  abbrev front : List Record
  front = features image valid ++ (brokers image valid ++ topics image valid)

  whole : records_of image ≡ front ++ configs image valid
  whole = in_sections image valid ∙ (ap (λ (rs : List Record). features image valid ++ rs) (sym (append_assoc (brokers image valid) (topics image valid) (configs image valid))) ∙ sym (append_assoc (features image valid) (brokers image valid ++ topics image valid) (configs image valid)))

  front_few : length front ≤ 20000
  front_few =
      let a = length-append (features image valid) (brokers image valid ++ topics image valid) in
      let b = length-append (brokers image valid) (topics image valid) in
      let d = length-map image.features feature_record in
      let e = length-map image.brokers broker_record in
      let f = topics_length image.partitions image.topics in
      let h = walk_few image.partitions image.topics valid.topics.distinct in
      let i = valid.features.few in
      let j = valid.brokers.few in
      let k = valid.topics.few in
      let l = valid.partitions.few in
      omega (arith, a, b, d, e, f, h, i, j, k, l)

  values_few : values_size (as_items (records_of image)) ≤ 8192 * 20000 + 20 * length image.configs + 2 * MOST_CONFIG_TEXT
  values_few =
      let light = subst (λ (rs : List Record). AllByRecursion IsLight rs) whole (recursion_from_All IsLight (records_of image) (own_light image valid)) in
      let a = light_values front (all_front IsLight front (configs image valid) light) in
      let b = config_values image.configs (all_back IsLight front (configs image valid) light) in
      let d = values_both front (configs image valid) in
      let e = ap (λ (rs : List Record). values_size (as_items rs)) whole in
      let f = front_few in
      let h = own_text image valid in
      let i = ap texts whole in
      let j = sum_by-append setting_text front (configs image valid) in
      let k = valid.configs.little in
      omega (arith, a, b, d, e, f, h, i, j, k)

  all_few : length (records_of image) ≤ 20000 + length image.configs
  all_few =
      let a = ap (λ (rs : List Record). length rs) whole in
      let b = length-append front (configs image valid) in
      let d = length-map image.configs config_record in
      let e = front_few in
      omega (arith, a, b, d, e)

  pub frames_fit : (offset : ℤ) → length (image_text offset image) + 1 < 2 ^ 32
  frames_fit offset =
      let a = text_length offset image in
      let b = values_few in
      let d = all_few in
      let e = settings_few image.configs valid.configs.ordered valid.configs.little (recursion_from_All (λ e. IsTrue (is_type e.0.kind)) image.configs types) in
      omega (arith, a, b, d, e)

pub images_fit_frames : ImagesFitFrames
images_fit_frames offset image valid types = frames_fit image valid types offset
