-- A new topic's id is new, and where a topic has no partition yet.
use Rattle.std.proofs.Common.{◌≡◌, ◌∙◌, ℕ, zero, suc, ◌+◌, ◌-◌, ◌*◌, ◌^◌, ◌≤◌, ◌<◌, ℤ, pos, Bool, true, false, cond, not, ◌==◌, List, [], ◌∷◌, length, map, refl, sym, ap, subst, arith, inl, inr}
use Rattle.std.specs.Prelude.{◌⊎◌, Some, find, fold, max, is_some, unsigned_abs, unwrap_or}
use Rattle.std.specs.Cmp.{unsigned_tied}
use Rattle.std.specs.declared.cmp.Ordering.TheVariants.{Less, Equal, Greater}
use Rattle.std.specs.BTreeMap.{insert_entry}
use Rattle.std.specs.List.{AllByRecursion, list_any, range_with_len}
use Rattle.std.specs.Map.{values_of}
use Rattle.std.specs.Ordering.{int_cmp, is_eq, match_ordering, nat_cmp}
use Rattle.std.proofs.lemmas.Bool.{cases_Bool, or_cases, or_left, or_right}
use Rattle.std.proofs.lemmas.Bool.Decides.{nat_tests}
use Rattle.std.proofs.lemmas.List.{length-map}
use Rattle.std.proofs.lemmas.Map.Steps.{le-length_from_below}
use Rattle.kr_defs.specs.declared.options.Options.{Options}
use Rattle.kr_defs.specs.declared.partition.Partition.{Partition}
use Rattle.kr_defs.specs.Image.{Image, has_topic}
use Rattle.kr_defs.specs.Map as entries
use Rattle.kr_defs.specs.Map.{partition_order, text_order}
use Rattle.kr_defs.specs.Topics.{count_of}
use Rattle.kr_defs.specs.Walk.{of_topic}
use Rattle.kr_defs.proofs.EntryCounts.{is_equal}
use Rattle.kr_defs.proofs.IdLists.{same_id}
use Rattle.kr_defs.proofs.ImageParts.{has_topic_any, partition_total}
use Rattle.kr_defs.proofs.Maps.{then_equal}
use Rattle.kr_defs.proofs.Tests.{not_false}
use Rattle.kr_defs.proofs.TopicWalks.{equal_ids, same_topic}
use Rattle.kr_defs.proofs.Walks.{get_other}
use Rattle.kr_calls.specs.CreateTopics as create_topics

-- ---- the least number that is free

-- none of a range passes, or the first that does is found
pub first_in_range : (test : ℕ → Bool) (first n : ℕ) → ((q : ℕ) → q < n → test (first + q) ≡ false) ⊎ ((k : ℕ) × (find test (range_with_len first n) ≡ Some k) × (test k ≡ true) × (first ≤ k))
first_in_range test first zero = inl (λ q less. absurd (omega arith))
first_in_range test first (suc n) = elim (cases_Bool (test first)) [
  | inl passes ↦ inr (first, rw passes refl, passes, omega arith)
  | inr fails ↦ elim (first_in_range test (first + 1) n) [
    | inl none ↦ inl (λ q less. by_index q none fails less)
    | inr one ↦ inr (one.0, rw fails one.1, one.2, let low = one.3 in omega (arith, low))
  ]
]
  where
    by_index : (q : ℕ) → ((p : ℕ) → p < n → test ((first + 1) + p) ≡ false) → test first ≡ false → q < suc n → test (first + q) ≡ false
    by_index zero none fails less = let e : first + zero ≡ first = omega arith in subst (λ x. test x ≡ false) (sym e) fails
    by_index (suc q) none fails less = let e : first + suc q ≡ (first + 1) + q = omega arith in subst (λ x. test x ≡ false) (sym e) (none q (omega arith))

-- ids from one on, as they lie above it
shifted : (ids : List ℕ) (first q : ℕ) → list_any (λ other. other == first + q) ids ≡ true → list_any (λ y. q == y) (map (λ v. v - first) ids) ≡ true
shifted [] first q there = absurd cc
shifted (id ∷ ids) first q there = elim (or_cases (id == first + q) (list_any (λ other. other == first + q) ids) there) [
  | inl here ↦ or_left (q == (id - first)) (list_any (λ y. q == y) (map (λ v. v - first) ids)) (grind (arith, nat_tests, here))
  | inr later ↦ or_right (q == (id - first)) (list_any (λ y. q == y) (map (λ v. v - first) ids)) (shifted ids first q later)
]

-- of one id more than there are topics one is free
pub one_is_free : (topics : List (List ℕ × ℕ)) (first : ℕ) → (k : ℕ) × (find (λ id. not (has_topic topics id)) (range_with_len first (length topics + 1)) ≡ Some k) × (has_topic topics k ≡ false) × (first ≤ k)
one_is_free topics first = elim (first_in_range (λ id. not (has_topic topics id)) first (length topics + 1)) [
  | inl none ↦
      let ids = values_of topics in
      let each = λ (q : ℕ) (less : q < length topics + 1). shifted ids first q (sym (has_topic_any topics (first + q)) ∙ not_false (has_topic topics (first + q)) (none q less)) in
      let many : length topics + 1 ≤ length (map (λ v. v - first) ids) = le-length_from_below (map (λ v. v - first) ids) (length topics + 1) each in
      let same : length (map (λ v. v - first) ids) ≡ length ids = length-map ids (λ v. v - first) in
      let as_many : length ids ≡ length topics = length-map topics (λ (t : List ℕ × ℕ). t.1) in
      absurd (omega (arith, many, same, as_many))
  | inr one ↦ (one.0, one.1, not_topic (has_topic topics one.0) one.2, one.3)
]
  where
    not_topic : (b : Bool) → not b ≡ true → b ≡ false
    not_topic true is = absurd cc
    not_topic false is = refl

-- what a new topic's id is: no topic's, and not zero
pub record IsNewId (topics : List (List ℕ × ℕ)) (id : ℕ) : Type 0 where
  pub free : has_topic topics id ≡ false
  pub some : (id == 0) ≡ false

pub new_id_new : (options : Options) (image : Image) (place : ℤ) → IsNewId image.topics (create_topics.new_id options image place)
new_id_new options image place =
    let first : ℕ = options.salt * 2 ^ 64 + unsigned_abs place + 1 in
    let one = one_is_free image.topics first in
    let is : create_topics.new_id options image place ≡ one.0 = ap (λ o. unwrap_or o first) one.1 in
    let low = one.3 in
    subst (IsNewId image.topics) (sym is) (record { free = one.2; some = not_zero one.0 (omega (arith, low)) })
  where
    not_zero : (n : ℕ) → 0 < n → (n == 0) ≡ false
    not_zero n less = grind (arith, nat_tests)

-- a topic that is inserted stands
pub inserted_stands : (topics : List (List ℕ × ℕ)) (name : List ℕ) (id : ℕ) → has_topic (entries.insert text_order topics name id) id ≡ true
inserted_stands topics name id = has_topic_any (entries.insert text_order topics name id) id ∙ among topics
  where
    among : (ts : List (List ℕ × ℕ)) → list_any (λ other. other == id) (values_of (entries.insert text_order ts name id)) ≡ true
    among [] = or_left (id == id) false (equal_ids id id refl)
    among (t ∷ ts) =
        elim (text_order name t.0) as (λ r. list_any (λ other. other == id) (values_of (match_ordering r ((name, id) ∷ t ∷ ts) ((t.0, id) ∷ ts) (t ∷ insert_entry text_order ts name id))) ≡ true) [
          | Less ↦ or_left (id == id) (list_any (λ other. other == id) (values_of (t ∷ ts))) (equal_ids id id refl)
          | Equal ↦ or_left (id == id) (list_any (λ other. other == id) (values_of ts)) (equal_ids id id refl)
          | Greater ↦ or_right (t.1 == id) (list_any (λ other. other == id) (values_of (insert_entry text_order ts name id))) (among ts)
        ]

-- ---- where there is no partition

-- the topic has no partition at this index or above
abbrev pub HasNoneFrom : List ((ℕ × ℤ) × Partition) → ℕ → ℕ → Type 0
HasNoneFrom partitions id first = (k : ℕ) → first ≤ k → entries.contains partition_order partitions (id, pos k) ≡ false

same_keys : (a b : ℕ × ℤ) → is_eq (partition_order a b) ≡ true → (nat_cmp a.0 b.0 ≡ Equal) × (int_cmp a.1 b.1 ≡ Equal)
same_keys a b same = then_equal (nat_cmp a.0 b.0) (int_cmp a.1 b.1) (is_equal (partition_order a b) same)

same_topics : (a b : ℕ) → nat_cmp a b ≡ Equal → a ≡ b
same_topics a b same = same_topic a b (sym (unsigned_tied a b) ∙ ap is_eq same)

pub none_owned : (topics : List (List ℕ × ℕ)) (partitions : List ((ℕ × ℤ) × Partition)) (id : ℕ) → AllByRecursion (λ e. has_topic topics e.0.0 ≡ true) partitions → has_topic topics id ≡ false → HasNoneFrom partitions id 0
none_owned topics [] id owned free k low = refl
none_owned topics (e ∷ partitions) id owned free k low = elim (cases_Bool (is_eq (partition_order (id, pos k) e.0))) [
  | inl same ↦
      let is : id ≡ e.0.0 = same_topics id e.0.0 (same_keys (id, pos k) e.0 same).0 in
      let there : has_topic topics id ≡ true = subst (λ t. has_topic topics t ≡ true) (sym is) owned.0 in absurd cc
  | inr other ↦ rw other (none_owned topics partitions id owned.1 free k low)
]

-- ---- behind the last partition

abbrev counting : ℕ → (ℕ × ℤ) × Partition → ℕ
counting count e = max count (unsigned_abs e.0.1 + 1)

counted_more : (es : List ((ℕ × ℤ) × Partition)) (start : ℕ) → start ≤ fold counting start es
counted_more [] start = omega arith
counted_more (e ∷ es) start = let rest = counted_more es (counting start e) in omega (arith, rest)

none_counted : (partitions : List ((ℕ × ℤ) × Partition)) (id k start : ℕ) → fold counting start (of_topic id partitions) ≤ k → entries.contains partition_order partitions (id, pos k) ≡ false
none_counted [] id k start fits = refl
none_counted (e ∷ partitions) id k start fits = elim (cases_Bool (is_eq (partition_order (id, pos k) e.0))) [
  | inl same ↦
      let keys = same_keys (id, pos k) e.0 same in
      let own : (e.0.0 == id) ≡ true = equal_ids e.0.0 id (sym (same_topics id e.0.0 keys.0)) in
      let index : pos k ≡ e.0.1 = same_id (pos k) e.0.1 (ap is_eq keys.1) in
      let counted : k ≡ unsigned_abs e.0.1 = ap unsigned_abs index in
      let more = counted_more (of_topic id partitions) (counting start e) in
      let fits : fold counting (counting start e) (of_topic id partitions) ≤ k = rw own at fits in
      absurd (omega (arith, counted, more, fits))
  | inr other ↦ rw other (elim (e.0.0 == id) as (λ b. fold counting start (cond b (e ∷ of_topic id partitions) (of_topic id partitions)) ≤ k → entries.contains partition_order partitions (id, pos k) ≡ false) [
    | true ↦ λ fits. none_counted partitions id k (counting start e) fits
    | false ↦ λ fits. none_counted partitions id k start fits
  ] fits)
]

pub none_behind : (image : Image) (id : ℕ) → HasNoneFrom image.partitions id (count_of image id)
none_behind image id k low = none_counted image.partitions id k 0 low

-- one more index
pub none_after : (partitions : List ((ℕ × ℤ) × Partition)) (id first : ℕ) (state : Partition) → HasNoneFrom partitions id first → HasNoneFrom (entries.insert partition_order partitions (id, pos first) state) id (suc first)
none_after partitions id first state none k low =
    ap is_some (get_other partition_total partitions (id, pos first) (id, pos k) state (other_index k (omega (arith, low)))) ∙ none k (omega (arith, low))
  where
    other_index : (k : ℕ) → first < k → is_eq (partition_order (id, pos k) (id, pos first)) ≡ false
    other_index k less = elim (cases_Bool (is_eq (partition_order (id, pos k) (id, pos first)))) [
      | inl same ↦ let e : k ≡ first = ap unsigned_abs (same_id (pos k) (pos first) (ap is_eq (same_keys (id, pos k) (id, pos first) same).1)) in absurd (omega (arith, e, less))
      | inr other ↦ other
    ]
