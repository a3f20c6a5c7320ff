-- The partitions that a walk passes: each stands under its key, beside its topic's name, and no two under one.
use Rattle.std.proofs.Common.{◌≡◌, ◌≢◌, ◌∙◌, ℤ, ℕ, ◌<◌, true, false, cond, List, [], ◌∷◌, ◌++◌, refl, ap, subst, sym}
use Rattle.std.specs.Prelude.{Some, not, map, find, ◌==◌}
use Rattle.std.specs.declared.cmp.Ordering.{Ordering}
use Rattle.std.specs.declared.cmp.Ordering.TheVariants.{Less, Equal, Greater}
use Rattle.std.specs.Ordering.{is_eq, nat_cmp, int_cmp, ordering_then, MatchOrdering}
use Rattle.std.specs.Option.{option_map}
use Rattle.std.specs.List.{AllByRecursion, flat_map, list_any}
use Rattle.std.specs.List.Sorted.{IsStrictlySortedBy}
use Rattle.std.specs.Map.{keys_of, values_of}
use Rattle.std.proofs.lemmas.Cmp.{ranked}
use Rattle.std.proofs.lemmas.List.Elements.{All-from_recursion}
use Rattle.kr_defs.specs.declared.partition.Partition.{Partition}
use Rattle.kr_defs.specs.Image.{Image, topic_name, are_distinct}
use Rattle.kr_defs.specs.Map as entries
use Rattle.kr_defs.specs.Map.{IsMap, partition_order}
use Rattle.kr_defs.specs.Walk.{Walked, walked, of_topic, walk_topic, walk}
use Rattle.kr_defs.specs.WalkLaws.{AreApart, ValidImagesAreWalkedOnce}
use Rattle.kr_defs.proofs.ImageParts.{partition_total}
use Rattle.kr_defs.proofs.Tests.{both, not_true, neither, not_equal, not_both}
use Rattle.kr_defs.proofs.TopicWalks.{same_topic, equal_ids}
use Rattle.kr_defs.proofs.Walks.{behind_apart, own_entries}

abbrev Entry : Type 0
Entry = (ℕ × ℤ) × Partition

all_append : {X : Type 0} (P : X → Type 0) (xs ys : List X) → AllByRecursion P xs → AllByRecursion P ys → AllByRecursion P (xs ++ ys)
all_append P [] ys a b = b
all_append P (x ∷ xs) ys a b = (a.0, all_append P xs ys a.1 b)

-- what is true of each partition of a topic
all_walked : (P : Walked → Type 0) (name : List ℕ) (id : ℕ) (ps : List Entry) → AllByRecursion (λ e. (e.0.0 == id) ≡ true → P (walked name e)) ps → AllByRecursion P (map (walked name) (of_topic id ps))
all_walked P name id [] a = tt
all_walked P name id (p ∷ ps) a =
    elim (p.0.0 == id) as (λ b. (p.0.0 == id) ≡ b → AllByRecursion P (map (walked name) (cond b (p ∷ of_topic id ps) (of_topic id ps)))) [
      | true ↦ λ is. (a.0 is, all_walked P name id ps a.1)
      | false ↦ λ is. all_walked P name id ps a.1
    ] refl

-- and of each topic's
all_topics : (P : Walked → Type 0) (ps : List Entry) (ts : List (List ℕ × ℕ)) → AllByRecursion (λ t. AllByRecursion P (walk_topic ps t)) ts → AllByRecursion P (flat_map (walk_topic ps) ts)
all_topics P ps [] a = tt
all_topics P ps (t ∷ ts) a = all_append P (walk_topic ps t) (flat_map (walk_topic ps) ts) a.0 (all_topics P ps ts a.1)

each_entry : {X : Type 0} (P : X → Type 0) (xs : List X) → ((x : X) → P x) → AllByRecursion P xs
each_entry P [] f = tt
each_entry P (x ∷ xs) f = (f x, each_entry P xs f)

weaker : {X : Type 0} (P Q : X → Type 0) (xs : List X) → ((x : X) → P x → Q x) → AllByRecursion P xs → AllByRecursion Q xs
weaker P Q [] step a = tt
weaker P Q (x ∷ xs) step a = (step x a.0, weaker P Q xs step a.1)

-- ---- names

named_later : (t : List ℕ × ℕ) (ts us : List (List ℕ × ℕ)) → list_any (λ other. other == t.1) (values_of us) ≡ false → AllByRecursion (λ u. topic_name ts u.1 ≡ Some u.0) us → AllByRecursion (λ u. topic_name (t ∷ ts) u.1 ≡ Some u.0) us
named_later t ts [] absent named = tt
named_later t ts (u ∷ us) absent named =
    let n = neither (u.1 == t.1) (list_any (λ other. other == t.1) (values_of us)) absent in
    (ap (λ b. option_map (λ (e : List ℕ × ℕ). e.0) (cond b (Some t) (find (λ e. e.1 == u.1) ts))) (not_equal u.1 t.1 n.0) ∙ named.0, named_later t ts us n.1 named.1)

own_names : (ts : List (List ℕ × ℕ)) → are_distinct (values_of ts) ≡ true → AllByRecursion (λ t. topic_name ts t.1 ≡ Some t.0) ts
own_names [] distinct = tt
own_names (t ∷ ts) distinct =
    let d = both (not (list_any (λ other. other == t.1) (values_of ts))) (are_distinct (values_of ts)) distinct in
    (ap (λ b. option_map (λ (e : List ℕ × ℕ). e.0) (cond b (Some t) (find (λ e. e.1 == t.1) ts))) (equal_ids t.1 t.1 refl), named_later t ts ts (not_true (list_any (λ other. other == t.1) (values_of ts)) d.0) (own_names ts d.1))

-- ---- apart

then_apart : (r s : Ordering) (x y : ℕ) → MatchOrdering r (x < y) (x ≡ y) (y < x) → x ≢ y → is_eq (ordering_then r s) ≡ false
then_apart Less s x y m other = refl
then_apart Equal s x y m other = absurd (other m)
then_apart Greater s x y m other = refl

other_ids : (x y id : ℕ) → (x == id) ≡ false → (y == id) ≡ true → x ≢ y
other_ids x y id a b = λ e. let c : (y == id) ≡ false = subst (λ (n : ℕ). (n == id) ≡ false) e a in absurd cc

-- partitions of different topics
topics_apart : (a b : ℕ × ℤ) (id : ℕ) → (a.0 == id) ≡ false → (b.0 == id) ≡ true → is_eq (partition_order a b) ≡ false
topics_apart a b id other same = then_apart (nat_cmp a.0 b.0) (int_cmp a.1 b.1) a.0 b.0 (ranked a.0 b.0 (nat_cmp a.0 b.0) refl) (other_ids a.0 b.0 id other same)

-- apart from one
abbrev From : Walked → Walked → Type 0
From w v = is_eq (partition_order v.key w.key) ≡ false

abbrev Apart : List Walked → Type 0
Apart [] = Unit {0}
Apart (w ∷ ws) = AllByRecursion (From w) ws × Apart ws

are_apart : (ws : List Walked) → Apart ws → AreApart ws
are_apart [] a = tt
are_apart (w ∷ ws) a = (All-from_recursion (From w) ws a.0, are_apart ws a.1)

apart-append : (id : ℕ) (xs ys : List Walked) → Apart xs → Apart ys → AllByRecursion (λ w. (w.key.0 == id) ≡ true) xs → AllByRecursion (λ v. (v.key.0 == id) ≡ false) ys → Apart (xs ++ ys)
apart-append id [] ys a b here there = b
apart-append id (x ∷ xs) ys a b here there =
    (all_append (From x) xs ys a.0 (weaker (λ (v : Walked). (v.key.0 == id) ≡ false) (From x) ys (λ v other. topics_apart v.key x.key id other here.0) there), apart-append id xs ys a.1 b here.1 there)

behind_all : (name : List ℕ) (id : ℕ) (k : Entry) (ps : List Entry) → AllByRecursion (λ z. partition_order k.0 z ≡ Less) (keys_of ps) → AllByRecursion (λ e. (e.0.0 == id) ≡ true → From (walked name k) (walked name e)) ps
behind_all name id k [] lt = tt
behind_all name id k (p ∷ ps) lt = (λ _. behind_apart partition_total k.0 p.0 lt.0, behind_all name id k ps lt.1)

topic_apart : (name : List ℕ) (id : ℕ) (ps : List Entry) → IsMap partition_order ps → Apart (map (walked name) (of_topic id ps))
unfolding IsStrictlySortedBy
topic_apart name id [] s = tt
topic_apart name id (p ∷ ps) s =
    elim (p.0.0 == id) as (λ b. Apart (map (walked name) (cond b (p ∷ of_topic id ps) (of_topic id ps)))) [
      | true ↦ (all_walked (From (walked name p)) name id ps (behind_all name id p ps s.0), topic_apart name id ps s.1)
      | false ↦ topic_apart name id ps s.1
    ]

-- of another topic
others : (id : ℕ) (ps : List Entry) (ts : List (List ℕ × ℕ)) → list_any (λ other. other == id) (values_of ts) ≡ false → AllByRecursion (λ t. AllByRecursion (λ w. (w.key.0 == id) ≡ false) (walk_topic ps t)) ts
others id ps [] absent = tt
others id ps (t ∷ ts) absent =
    let n = neither (t.1 == id) (list_any (λ other. other == id) (values_of ts)) absent in
    (all_walked (λ w. (w.key.0 == id) ≡ false) t.0 t.1 ps (each_entry (λ (e : Entry). (e.0.0 == t.1) ≡ true → (e.0.0 == id) ≡ false) ps (λ e is. not_both e.0.0 t.1 id is (not_equal t.1 id n.0))), others id ps ts n.1)

all_apart : (ps : List Entry) (ts : List (List ℕ × ℕ)) → IsMap partition_order ps → are_distinct (values_of ts) ≡ true → Apart (flat_map (walk_topic ps) ts)
all_apart ps [] s distinct = tt
all_apart ps (t ∷ ts) s distinct =
    let d = both (not (list_any (λ other. other == t.1) (values_of ts))) (are_distinct (values_of ts)) distinct in
    apart-append t.1 (walk_topic ps t) (flat_map (walk_topic ps) ts) (topic_apart t.0 t.1 ps s) (all_apart ps ts s d.1)
    (all_walked (λ w. (w.key.0 == t.1) ≡ true) t.0 t.1 ps (each_entry (λ (e : Entry). (e.0.0 == t.1) ≡ true → (e.0.0 == t.1) ≡ true) ps (λ e is. is)))
    (all_topics (λ v. (v.key.0 == t.1) ≡ false) ps ts (others t.1 ps ts (not_true (list_any (λ other. other == t.1) (values_of ts)) d.0)))

-- ---- the walk

module _ (image : Image) where
  abbrev Stands : Walked → Type 0
  Stands w = entries.get partition_order image.partitions w.key ≡ Some w.partition

  abbrev IsNamed : Walked → Type 0
  IsNamed w = topic_name image.topics w.key.0 ≡ Some w.topic

  all_stand : IsMap partition_order image.partitions → AllByRecursion Stands (walk image)
  all_stand s =
      let own = own_entries partition_total image.partitions s in
      all_topics Stands image.partitions image.topics (each_entry (λ t. AllByRecursion Stands (walk_topic image.partitions t)) image.topics (λ t.
      all_walked Stands t.0 t.1 image.partitions (weaker (λ (e : Entry). Stands (walked t.0 e)) (λ (e : Entry). (e.0.0 == t.1) ≡ true → Stands (walked t.0 e)) image.partitions (λ e there _. there) own)))

  all_named : are_distinct (values_of image.topics) ≡ true → AllByRecursion IsNamed (walk image)
  all_named distinct =
      all_topics IsNamed image.partitions image.topics (weaker (λ (t : List ℕ × ℕ). topic_name image.topics t.1 ≡ Some t.0) (λ t. AllByRecursion IsNamed (walk_topic image.partitions t)) image.topics (λ t named.
      all_walked IsNamed t.0 t.1 image.partitions (each_entry (λ (e : Entry). (e.0.0 == t.1) ≡ true → IsNamed (walked t.0 e)) image.partitions
      (λ e is. subst (λ (id : ℕ). topic_name image.topics id ≡ Some t.0) (sym (same_topic e.0.0 t.1 is)) named))) (own_names image.topics distinct))

pub walked_once : ValidImagesAreWalkedOnce
walked_once image v =
    let s = v.partitions.ordered in
    let d = v.topics.distinct in
    record {
      there = All-from_recursion (Stands image) (walk image) (all_stand image s);
      named = All-from_recursion (IsNamed image) (walk image) (all_named image d);
      apart = are_apart (walk image) (all_apart image.partitions image.topics s d);
    }
