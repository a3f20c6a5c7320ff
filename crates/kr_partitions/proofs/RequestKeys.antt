-- The partitions that a request names, by key and by name.
use Rattle.std.proofs.Common.{◌≡◌, ◌∙◌, ◌<◌, ◌+◌, ℕ, ℤ, Bool, true, false, cond, List, [], ◌∷◌, ◌++◌, length, get_or, take, refl, sym, ap, arith, ◌&&◌, ◌||◌}
use Rattle.std.specs.Prelude.{Option, Some, None, ◌==◌, bytes_eq, not, option_to_list}
use Rattle.std.specs.BTreeSet.{BTreeSet, contains, Updates}
use Rattle.std.specs.List.{AllByRecursion, flat_map, list_any}
use Rattle.std.specs.List.Sorted.{IsStrictlySortedBy}
use Rattle.std.specs.Map.{keys_of, values_of}
use Rattle.std.specs.declared.cmp.Ordering.{Ordering}
use Rattle.std.specs.declared.cmp.Ordering.TheVariants.{Less, Equal, Greater}
use Rattle.std.specs.Ordering.{int_cmp, int_eq, is_eq, nat_cmp, ordering_then}
use Rattle.std.proofs.lemmas.Bool.Decides.{nat_tests}
use Rattle.std.proofs.lemmas.List.Folds.{list_any_more}
use Rattle.std.proofs.lemmas.Map.Lookups.{exact_bytes}
use Rattle.std.proofs.lemmas.Map.Text.{is_eq-slice_cmp}
use Rattle.kr_defs.specs.Ids.{has}
use Rattle.kr_defs.specs.Image.{AreTopics, Image, are_distinct}
use Rattle.kr_defs.specs.Map as entries
use Rattle.kr_defs.specs.Map.{partition_order, text_order}
use Rattle.kr_defs.proofs.EntryCounts.{is_equal}
use Rattle.kr_defs.proofs.Tests.{both, neither, not_equal, not_true}
use Rattle.kr_calls.specs.declared.list_partition_reassignments.ListedTopic.{ListedTopic}
use Rattle.kr_calls.specs.declared.list_partition_reassignments.OngoingTopicReassignment.{OngoingTopicReassignment}
use Rattle.kr_calls.specs.ListPartitionReassignments.{is_asked, shown}
use Rattle.kr_partitions.specs.inner.RequestKeys.{AreKeys, Asks, is_among, is_id_of, is_this, names_key, shown_where}

-- functions with the same values are the same
same_function : {A B : Type 0} {f g : A → B} → ((x : A) → f x ≡ g x) → f ≡ g
same_function h = λ i x. h x i

-- ---- keys

then_is : (r s : Ordering) → is_eq (ordering_then r s) ≡ (is_eq r && is_eq s)
then_is Less s = refl
then_is Equal s = refl
then_is Greater s = refl

id_is : (id q : ℕ) → is_eq (nat_cmp id q) ≡ (id == q)
id_is id q = grind (arith, nat_tests)

key_is : (id : ℕ) (index : ℤ) (k : ℕ × ℤ) → is_eq (partition_order (id, index) k) ≡ (id == k.0 && int_eq index k.1)
key_is id index k = then_is (nat_cmp id k.0) (int_cmp index k.1) ∙ ap (λ b. b && is_eq (int_cmp index k.1)) (id_is id k.0)

or_is : (a b : Bool) → cond a true b ≡ (b || a)
or_is true true = refl
or_is true false = refl
or_is false true = refl
or_is false false = refl

pub added : (old new : BTreeSet (ℕ × ℤ)) (key k : ℕ × ℤ) → Updates partition_order old new key true → contains partition_order new k ≡ (contains partition_order old k || is_eq (partition_order key k))
added old new key k updates = updates.0 k ∙ or_is (is_eq (partition_order key k)) (contains partition_order old k)

one_more : (a b c d : Bool) → ((a || (b && c)) || (b && d)) ≡ (a || (b && (c || d)))
one_more true b c d = refl
one_more false true c d = refl
one_more false false c d = refl

none_yet : (a b : Bool) → a ≡ (a || (b && false))
none_yet true b = refl
none_yet false true = refl
none_yet false false = refl

pub no_index : (old : Bool) (id : ℕ) (indices : List ℤ) (k : ℕ × ℤ) → old ≡ (old || (id == k.0 && has (take 0 indices) k.1))
no_index old id indices k = none_yet old (id == k.0)

pub index_more : (first old new : Bool) (id : ℕ) (indices : List ℤ) (at : ℕ) (index d : ℤ) (k : ℕ × ℤ) → at < length indices → index ≡ get_or indices at d
    → old ≡ (first || (id == k.0 && has (take at indices) k.1)) → new ≡ (old || is_eq (partition_order (id, index) k)) → new ≡ (first || (id == k.0 && has (take (at + 1) indices) k.1))
index_more first old new id indices at index d k inside is so_far step =
    step ∙ (ap (λ b. b || is_eq (partition_order (id, index) k)) so_far ∙ (ap (λ b. (first || (id == k.0 && has (take at indices) k.1)) || b) (key_is id index k)
    ∙ (one_more first (id == k.0) (has (take at indices) k.1) (int_eq index k.1) ∙ ap (λ b. first || (id == k.0 && b)) (ap (λ x. has (take at indices) k.1 || int_eq x k.1) is ∙ sym (list_any_more (λ x. int_eq x k.1) indices at d inside)))))

-- ---- topics

-- in a list of topics each name has one id, and each id one name
found_among : (ts : List (List ℕ × ℕ)) (name : List ℕ) (other : ℕ) → list_any (λ x. x == other) (values_of ts) ≡ false → is_id_of ts name other ≡ false
found_among [] name other none = refl
found_among (t ∷ ts) name other none =
    let n = neither (t.1 == other) (list_any (λ x. x == other) (values_of ts)) none in
    elim (is_eq (text_order name t.0)) as (λ b. is_this other (cond b (Some t.1) (entries.get text_order ts name)) ≡ false) [
      | true ↦ n.0
      | false ↦ found_among ts name other n.1
    ]

abbrev OneOfEach : List (List ℕ × ℕ) → List ℕ × ℕ → Type 0
OneOfEach ts u = (name : List ℕ) → is_id_of ts name u.1 ≡ bytes_eq name u.0

first_of : (t : List ℕ × ℕ) (ts : List (List ℕ × ℕ)) → list_any (λ x. x == t.1) (values_of ts) ≡ false → OneOfEach (t ∷ ts) t
first_of t ts none name =
    elim (is_eq (text_order name t.0)) as (λ b. is_eq (text_order name t.0) ≡ b → is_this t.1 (cond b (Some t.1) (entries.get text_order ts name)) ≡ bytes_eq name t.0) [
      | true ↦ λ is. (let same : (t.1 == t.1) ≡ true = grind (arith, nat_tests) in same) ∙ (sym is ∙ is_eq-slice_cmp name t.0)
      | false ↦ λ is. found_among ts name t.1 none ∙ (sym is ∙ is_eq-slice_cmp name t.0)
    ] refl

later_of : (t : List ℕ × ℕ) (ts us : List (List ℕ × ℕ)) → AllByRecursion (λ z. text_order t.0 z ≡ Less) (keys_of us) → list_any (λ x. x == t.1) (values_of us) ≡ false → AllByRecursion (OneOfEach ts) us → AllByRecursion (OneOfEach (t ∷ ts)) us
later_of t ts [] below none each = tt
later_of t ts (u ∷ us) below none each =
    let n = neither (u.1 == t.1) (list_any (λ x. x == t.1) (values_of us)) none in
    let one : OneOfEach (t ∷ ts) u = λ name.
    elim (is_eq (text_order name t.0)) as (λ b. is_eq (text_order name t.0) ≡ b → is_this u.1 (cond b (Some t.1) (entries.get text_order ts name)) ≡ bytes_eq name u.0) [
      | true ↦ λ is.
          let same : name ≡ t.0 = exact_bytes name t.0 (is_equal (text_order name t.0) is) in
          let apart : is_eq (text_order name u.0) ≡ false = ap (λ n. is_eq (text_order n u.0)) same ∙ ap is_eq below.0 in
          not_equal u.1 t.1 n.0 ∙ (sym apart ∙ is_eq-slice_cmp name u.0)
      | false ↦ λ is. each.0 name
    ] refl in
    (one, later_of t ts us below.1 n.1 each.1)

each_of : (ts : List (List ℕ × ℕ)) → entries.IsMap text_order ts → are_distinct (values_of ts) ≡ true → AllByRecursion (OneOfEach ts) ts
unfolding IsStrictlySortedBy
each_of [] ordered distinct = tt
each_of (t ∷ ts) ordered distinct =
    let d = both (not (list_any (λ x. x == t.1) (values_of ts))) (are_distinct (values_of ts)) distinct in
    let none = not_true (list_any (λ x. x == t.1) (values_of ts)) d.0 in
    (first_of t ts none, later_of t ts ts ordered.0 none (each_of ts ordered.1 d.1))

-- ---- what is shown

asked_is : (topics : List (List ℕ × ℕ)) (listed : List ListedTopic) (keys : BTreeSet (ℕ × ℤ)) (t : List ℕ × ℕ) → AreKeys topics listed keys → OneOfEach topics t → (index : ℤ) → is_among (Some keys) (t.1, index) ≡ is_asked (Some listed) t.0 index
asked_is topics listed keys t are one index =
    are (t.1, index) ∙ ap (λ (p : ListedTopic → Bool). list_any p listed) (same_function (λ (q : ListedTopic). ap (λ b. b && has q.partitions index) (one q.name)))

module _ (image : Image) where
  same_shown : (asked : Option (List ListedTopic)) (keys : Option (BTreeSet (ℕ × ℤ))) (t : List ℕ × ℕ) → Asks image.topics asked keys → OneOfEach image.topics t → shown_where image (λ index. is_among keys (t.1, index)) t ≡ shown image asked t
  same_shown None None t asks one = refl
  same_shown None (Some keys) t asks one = absurd asks
  same_shown (Some listed) None t asks one = absurd asks
  same_shown (Some listed) (Some keys) t asks one = ap (λ (test : ℤ → Bool). shown_where image test t) (same_function (λ (index : ℤ). asked_is image.topics listed keys t asks one index))

  each_shown : (asked : Option (List ListedTopic)) (keys : Option (BTreeSet (ℕ × ℤ))) (ts : List (List ℕ × ℕ)) → Asks image.topics asked keys → AllByRecursion (OneOfEach image.topics) ts
      → flat_map (λ (t : List ℕ × ℕ). option_to_list (shown_where image (λ index. is_among keys (t.1, index)) t)) ts ≡ flat_map (λ t. option_to_list (shown image asked t)) ts
  each_shown asked keys [] asks each = refl
  each_shown asked keys (t ∷ ts) asks each =
      ap (λ (o : Option OngoingTopicReassignment). option_to_list o ++ flat_map (λ (t : List ℕ × ℕ). option_to_list (shown_where image (λ index. is_among keys (t.1, index)) t)) ts) (same_shown asked keys t asks each.0)
      ∙ ap (λ (rows : List OngoingTopicReassignment). option_to_list (shown image asked t) ++ rows) (each_shown asked keys ts asks each.1)

  -- by key the same is shown as by name
  pub shown_by_key : (asked : Option (List ListedTopic)) (keys : Option (BTreeSet (ℕ × ℤ))) → AreTopics image.topics → Asks image.topics asked keys
      → flat_map (λ (t : List ℕ × ℕ). option_to_list (shown_where image (λ index. is_among keys (t.1, index)) t)) image.topics ≡ flat_map (λ t. option_to_list (shown image asked t)) image.topics
  shown_by_key asked keys are asks = each_shown asked keys image.topics asks (each_of image.topics are.ordered are.distinct)

pub topic_more : (topics : List (List ℕ × ℕ)) (listed : List ListedTopic) (at : ℕ) (t : ListedTopic) (k : ℕ × ℤ) (old new : Bool) → at < length listed → t ≡ get_or listed at t
    → old ≡ list_any (λ q. names_key topics q k) (take at listed) → new ≡ (old || names_key topics t k) → new ≡ list_any (λ q. names_key topics q k) (take (at + 1) listed)
topic_more topics listed at t k old new inside is so_far step =
    step ∙ (ap (λ b. b || names_key topics t k) so_far ∙ (ap (λ (q : ListedTopic). list_any (λ q. names_key topics q k) (take at listed) || names_key topics q k) is ∙ sym (list_any_more (λ q. names_key topics q k) listed at t inside)))
