-- An image's own records are in order.
use Rattle.std.proofs.Common.{◌≡◌, ◌∙◌, sym, refl, ap, subst, Bool, true, false, cond, ◌==◌, nat_lt, ℕ, ℤ, List, [], ◌∷◌, ◌++◌, map, Some, None, append_assoc, append-nil, ◌≤◌, arith}
use Rattle.std.proofs.lemmas.Bool.Decides.{nat_tests}
use Rattle.std.proofs.lemmas.Cmp.{nat_list_cmp_total}
use Rattle.std.specs.Prelude.{Option, flat_map}
use Rattle.std.specs.Cmp.{IsTotalOrder}
use Rattle.std.specs.declared.cmp.Ordering.{Ordering}
use Rattle.std.specs.declared.cmp.Ordering.TheVariants.{Less, Equal, Greater}
use Rattle.std.specs.List.{AllByRecursion}
use Rattle.std.specs.List.Sorted.{IsStrictlySortedBy}
use Rattle.std.specs.Map.{keys_of}
use Rattle.std.specs.Option.{option_map_or}
use Rattle.std.specs.Ordering.{nat_cmp, int_cmp, is_lt, ordering_reverse, ordering_then}
use Rattle.kr_defs.specs.declared.broker.Broker.{Broker}
use Rattle.kr_defs.specs.declared.partition.Partition.{Partition}
use Rattle.kr_defs.specs.declared.record.ConfigKey.{ConfigKey}
use Rattle.kr_defs.specs.declared.record.Record.{Record}
use Rattle.kr_defs.specs.declared.record.Record.TheVariants as kinds
use Rattle.kr_defs.specs.Image.{Image, IsValid}
use Rattle.kr_defs.specs.ImageOrder.{Rank, ReadSoFar, named, rank_order, rank_of, topic_after, seen_with, is_later, are_in_order, nothing_seen}
use Rattle.kr_defs.specs.Map.{IsMap, text_order, partition_order, config_order}
use Rattle.kr_defs.specs.Records.{partition_record, topic_records, records_of}
use Rattle.kr_defs.specs.Walk.{walked, of_topic, walk_topic}
use Rattle.kr_defs.proofs.Maps.{IsMap-filter}

-- ---- orders

itself : (r : Ordering) → r ≡ ordering_reverse r → r ≡ Equal
itself Less e = absurd cc
itself Equal e = refl
itself Greater e = absurd cc

ties : {K : Type 0} {R : K → K → Ordering} → IsTotalOrder R → (x : K) → R x x ≡ Equal
ties {K} {R} o x = itself (R x x) (o.antisymm x x)

then_ends : (a b c : Ordering) → ordering_then a (ordering_then b c) ≡ Less → ordering_then a (ordering_then b (ordering_then c Equal)) ≡ Less
then_ends Less b c h = refl
then_ends Greater b c h = absurd cc
then_ends Equal Less c h = refl
then_ends Equal Greater c h = absurd cc
then_ends Equal Equal Less h = refl
then_ends Equal Equal Equal h = absurd cc
then_ends Equal Equal Greater h = absurd cc

less : (a b : ℕ) → nat_lt a b ≡ true → nat_cmp a b ≡ Less
less a b h = grind (arith, nat_tests)

map_all : {X : Type 0} (P Q : X → Type 0) (xs : List X) → ((x : X) → P x → Q x) → AllByRecursion P xs → AllByRecursion Q xs
map_all P Q [] step a = tt
map_all P Q (x ∷ xs) step a = (step x a.0, map_all P Q xs step a.1)

-- ---- one stretch of records, each of an entry of a map

-- the rank is behind the last one
abbrev later : Option Rank → Rank → Bool
later last rank = option_map_or (λ (before : Rank). is_lt (rank_order before rank)) last true

-- no rank so far is of this section or a later one
abbrev Below : ℕ → Option Rank → Type 0
Below n last = option_map_or (λ (rank : Rank). nat_lt rank.section n) last true ≡ true

later_section : (last : Option Rank) (rank : Rank) → Below rank.section last → later last rank ≡ true
later_section None rank below = refl
later_section (Some before) rank below = rw (less before.section rank.section below) refl

module _ {K V : Type 0} (R : K → K → Ordering) (f : K × V → Record) (rank : K → Rank) (P : Option (List ℕ × ℕ) → Type 0) (B : Option Rank → Type 0) (Q : K × V → Type 0) (ranks : (t : Option (List ℕ × ℕ)) (e : K × V) → P t → Q e → rank_of t (f e) ≡ Some (rank e.0)) (keeps : (t : Option (List ℕ × ℕ)) (e : K × V) → P t → P (topic_after t (f e))) (bound : (k : K) → B (Some (rank k))) (rises : (x y : K) → R x y ≡ Less → rank_order (rank x) (rank y) ≡ Less) (rest : List Record) (next : (seen : ReadSoFar) → P seen.topic → B seen.rank → are_in_order seen rest ≡ true) where
  stretch : (es : List (K × V)) → IsMap R es → AllByRecursion Q es → (seen : ReadSoFar) → P seen.topic → B seen.rank → AllByRecursion (λ k. later seen.rank (rank k) ≡ true) (keys_of es) → are_in_order seen (map f es ++ rest) ≡ true
  unfolding IsStrictlySortedBy
  stretch [] sorted all seen topic last a = next seen topic last
  stretch (e ∷ es) sorted all seen topic last a =
      let is : rank_of seen.topic (f e) ≡ Some (rank e.0) = ranks seen.topic e topic all.0 in
      let is_it : is_later seen (f e) ≡ true = ap (λ (o : Option Rank). option_map_or (λ (r : Rank). later seen.rank r) o false) is ∙ a.0 in
      let C : Option Rank → Type 0 = λ o. AllByRecursion (λ k. later o (rank k) ≡ true) (keys_of es) in
      let behind : C (Some (rank e.0)) = map_all (λ k. R e.0 k ≡ Less) (λ k. later (Some (rank e.0)) (rank k) ≡ true) (keys_of es) (λ k l. ap is_lt (rises e.0 k l)) sorted.0 in
      ap (λ b. cond b (are_in_order (seen_with seen (f e)) (map f es ++ rest)) false) is_it
      ∙ stretch es sorted.1 all.1 (seen_with seen (f e)) (keeps seen.topic e topic) (subst B (sym is) (bound e.0)) (subst C (sym is) behind)

all_of : {X : Type 0} (Q : X → Type 0) (xs : List X) → ((x : X) → Q x) → AllByRecursion Q xs
all_of Q [] f = tt
all_of Q (x ∷ xs) f = (f x, all_of Q xs f)

-- ---- features, brokers and settings

abbrev feature_rank : List ℕ → Rank
feature_rank name = named 0 name None

feature_rises : (x y : List ℕ) → text_order x y ≡ Less → rank_order (feature_rank x) (feature_rank y) ≡ Less
feature_rises x y h = rw h refl

abbrev broker_rank : ℤ → Rank
broker_rank id = named 1 [] (Some id)

broker_rises : (x y : ℤ) → int_cmp x y ≡ Less → rank_order (broker_rank x) (broker_rank y) ≡ Less
broker_rises x y h = rw h refl

abbrev setting_rank : ConfigKey → Rank
setting_rank key = record { section = 3; kind = key.kind; name = key.name; key = key.key; number = None }

setting_rises : (x y : ConfigKey) → config_order x y ≡ Less → rank_order (setting_rank x) (setting_rank y) ≡ Less
setting_rises x y h = then_ends (int_cmp x.kind y.kind) (text_order x.name y.name) (text_order x.key y.key) h

-- ---- topics

module _ (name : List ℕ) (id : ℕ) where
  abbrev IsOf : (ℕ × ℤ) × Partition → Type 0
  IsOf e = (e.0.0 == id) ≡ true

  abbrev by_index : ℕ × ℤ → ℕ × ℤ → Ordering
  by_index x y = int_cmp x.1 y.1

  abbrev part_rank : ℕ × ℤ → Rank
  part_rank key = named 2 name (Some key.1)

  same_topic : (x y : ℕ × ℤ) → (x.0 == id) ≡ true → (y.0 == id) ≡ true → partition_order x y ≡ Less → by_index x y ≡ Less
  same_topic x y h k l = let e : nat_cmp x.0 y.0 ≡ Equal = grind (arith, nat_tests) in sym (ap (λ o. ordering_then o (int_cmp x.1 y.1)) e) ∙ l

  same_topics : (x : ℕ × ℤ) (es : List ((ℕ × ℤ) × Partition)) → (x.0 == id) ≡ true → AllByRecursion IsOf es → AllByRecursion (λ k. partition_order x k ≡ Less) (keys_of es) → AllByRecursion (λ k. by_index x k ≡ Less) (keys_of es)
  same_topics x [] h all a = tt
  same_topics x (e ∷ es) h all a = (same_topic x e.0 h all.0 a.0, same_topics x es h all.1 a.1)

  indexes_rise : (es : List ((ℕ × ℤ) × Partition)) → AllByRecursion IsOf es → IsMap partition_order es → IsMap by_index es
  unfolding IsStrictlySortedBy
  indexes_rise [] all sorted = tt
  indexes_rise (e ∷ es) all sorted = (same_topics e.0 es all.0 all.1 sorted.0, indexes_rise es all.1 sorted.1)

  all_of_topic : (es : List ((ℕ × ℤ) × Partition)) → AllByRecursion IsOf (of_topic id es)
  all_of_topic [] = tt
  all_of_topic (e ∷ es) =
      elim (e.0.0 == id) as (λ b. (e.0.0 == id) ≡ b → AllByRecursion IsOf (cond b (e ∷ of_topic id es) (of_topic id es))) [
        | true ↦ λ is. (is, all_of_topic es)
        | false ↦ λ is. all_of_topic es
      ] refl

  part_rises : (x y : ℕ × ℤ) → by_index x y ≡ Less → rank_order (part_rank x) (part_rank y) ≡ Less
  part_rises x y h = rw (ties nat_list_cmp_total name) (rw h refl)

  part_ranks : (t : Option (List ℕ × ℕ)) (e : (ℕ × ℤ) × Partition) → t ≡ Some (name, id) → IsOf e → rank_of t (partition_record (walked name e)) ≡ Some (part_rank e.0)
  part_ranks t e is own =
      let same : (id == e.0.0) ≡ true = grind (arith, nat_tests) in
      ap (λ (o : Option (List ℕ × ℕ)). rank_of o (partition_record (walked name e))) is ∙ rw same refl

  -- the last rank is of this topic
  abbrev Ends : Option Rank → Type 0
  Ends last = (index : Option ℤ) × (last ≡ Some (named 2 name index))

  topic_then : (names : List (List ℕ)) (last : Option Rank) → Ends last → AllByRecursion (λ other. text_order name other ≡ Less) names → AllByRecursion (λ other. later last (named 2 other None) ≡ true) names
  topic_then names last (index, is) a =
      let C : Option Rank → Type 0 = λ o. AllByRecursion (λ other. later o (named 2 other None) ≡ true) names in
      subst C (sym is) (map_all (λ other. text_order name other ≡ Less) (λ other. later (Some (named 2 name index)) (named 2 other None) ≡ true) names (λ other l. rw l refl) a)

  below_then : (last : Option Rank) → Ends last → Below 3 last
  below_then last (index, is) = subst (λ o. Below 3 o) (sym is) refl

maps_once : {X Y Z : Type 0} (g : Y → Z) (h : X → Y) (xs : List X) → map g (map h xs) ≡ map (λ x. g (h x)) xs
maps_once g h [] = refl
maps_once g h (x ∷ xs) = ap (λ zs. g (h x) ∷ zs) (maps_once g h xs)

module _ (partitions : List ((ℕ × ℤ) × Partition)) (sorted : IsMap partition_order partitions) (rest : List Record) (next : (seen : ReadSoFar) → Below 3 seen.rank → are_in_order seen rest ≡ true) where
  topics_in_order : (ts : List (List ℕ × ℕ)) → IsMap text_order ts → (seen : ReadSoFar) → Below 3 seen.rank → AllByRecursion (λ name. later seen.rank (named 2 name None) ≡ true) (keys_of ts) → are_in_order seen (flat_map (topic_records partitions) ts ++ rest) ≡ true
  unfolding IsStrictlySortedBy
  topics_in_order [] up seen below a = next seen below
  topics_in_order (t ∷ ts) up seen below a =
      let name : List ℕ = t.0 in
      let id : ℕ = t.1 in
      let own : List ((ℕ × ℤ) × Partition) = of_topic id partitions in
      let f : (ℕ × ℤ) × Partition → Record = λ e. partition_record (walked name e) in
      let others : List Record = flat_map (topic_records partitions) ts ++ rest in
      let read : ReadSoFar = record { rank = Some (named 2 name None); topic = Some (name, id) } in
      let joined : (map partition_record (walk_topic partitions t) ++ flat_map (topic_records partitions) ts) ++ rest ≡ map f own ++ others =
      append_assoc (map partition_record (walk_topic partitions t)) (flat_map (topic_records partitions) ts) rest ∙ ap (λ (xs : List Record). xs ++ others) (maps_once partition_record (walked name) own) in
      let all = all_of_topic name id partitions in
      ap (λ b. cond b (are_in_order read ((map partition_record (walk_topic partitions t) ++ flat_map (topic_records partitions) ts) ++ rest)) false) a.0
      ∙ ap (are_in_order read) joined
      ∙ stretch (by_index name id) f (part_rank name id) (λ o. o ≡ Some (name, id)) (Ends name id) (IsOf name id) (part_ranks name id) (λ t e is. is) (λ k. (Some k.1, refl)) (part_rises name id) others
      (λ after topic ends. topics_in_order ts up.1 after (below_then name id after.rank ends) (topic_then name id (keys_of ts) after.rank ends up.0))
      own (indexes_rise name id own all (IsMap-filter partition_order (λ e. e.0.0 == id) partitions sorted)) all read refl (None, refl)
      (all_of (λ k. later (Some (named 2 name None)) (part_rank name id k) ≡ true) (keys_of own) (λ k. rw (ties nat_list_cmp_total name) refl))

-- ---- the image

below_more : (n m : ℕ) → n ≤ m → (last : Option Rank) → Below n last → Below m last
below_more n m more None below = refl
below_more n m more (Some rank) below = grind (arith, nat_tests)

abbrev feature_record : List ℕ × ℤ → Record
feature_record e = kinds.FeatureLevel e.0 e.1

abbrev broker_record : ℤ × Broker → Record
broker_record e = kinds.RegisterBroker e.0 e.1

abbrev setting_record : ConfigKey × List ℕ → Record
setting_record e = kinds.Config e.0.kind e.0.name e.0.key (Some e.1)

module _ (image : Image) (valid : IsValid image) where
  abbrev settings : List Record
  settings = map setting_record image.configs

  abbrev topics : List Record
  topics = flat_map (topic_records image.partitions) image.topics

  abbrev brokers : List Record
  brokers = map broker_record image.brokers

  settings_in_order : (seen : ReadSoFar) → Below 3 seen.rank → are_in_order seen settings ≡ true
  settings_in_order seen below =
      ap (are_in_order seen) (sym (append-nil settings))
      ∙ stretch config_order setting_record setting_rank (λ t. Unit {0}) (Below 4) (λ e. Unit {0}) (λ t e p q. refl) (λ t e p. tt) (λ k. refl) setting_rises [] (λ after p b. refl)
      image.configs valid.configs.ordered (all_of (λ e. Unit {0}) image.configs (λ e. tt)) seen tt (below_more 3 4 (omega arith) seen.rank below)
      (all_of (λ k. later seen.rank (setting_rank k) ≡ true) (keys_of image.configs) (λ k. later_section seen.rank (setting_rank k) below))

  rest_in_order : (seen : ReadSoFar) → Below 2 seen.rank → are_in_order seen (topics ++ settings) ≡ true
  rest_in_order seen below =
      topics_in_order image.partitions valid.partitions.ordered settings settings_in_order image.topics valid.topics.ordered seen (below_more 2 3 (omega arith) seen.rank below)
      (all_of (λ name. later seen.rank (named 2 name None) ≡ true) (keys_of image.topics) (λ name. later_section seen.rank (named 2 name None) below))

  brokers_in_order : (seen : ReadSoFar) → Below 1 seen.rank → are_in_order seen (brokers ++ (topics ++ settings)) ≡ true
  brokers_in_order seen below =
      stretch int_cmp broker_record broker_rank (λ t. Unit {0}) (Below 2) (λ e. Unit {0}) (λ t e p q. refl) (λ t e p. tt) (λ k. refl) broker_rises (topics ++ settings) (λ after p b. rest_in_order after b)
      image.brokers valid.brokers.ordered (all_of (λ e. Unit {0}) image.brokers (λ e. tt)) seen tt (below_more 1 2 (omega arith) seen.rank below)
      (all_of (λ k. later seen.rank (broker_rank k) ≡ true) (keys_of image.brokers) (λ k. later_section seen.rank (broker_rank k) below))

  pub own_order : are_in_order nothing_seen (records_of image) ≡ true
  unfolding records_of
  own_order =
      let features : List Record = map feature_record image.features in
      ap (are_in_order nothing_seen) (append_assoc (features ++ brokers) topics settings ∙ append_assoc features brokers (topics ++ settings))
      ∙ stretch text_order feature_record feature_rank (λ t. Unit {0}) (Below 1) (λ e. Unit {0}) (λ t e p q. refl) (λ t e p. tt) (λ k. refl) feature_rises (brokers ++ (topics ++ settings)) (λ after p b. brokers_in_order after b)
      image.features valid.features.ordered (all_of (λ e. Unit {0}) image.features (λ e. tt)) nothing_seen tt refl
      (all_of (λ k. later None (feature_rank k) ≡ true) (keys_of image.features) (λ k. refl))
