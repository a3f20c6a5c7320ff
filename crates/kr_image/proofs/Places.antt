-- The map of a timeline at a place is that of the image there.
use Rattle.std.proofs.Common.{◌≡◌, ℕ, ℤ, true, List, [], refl, sym, ap, subst, ◌∙◌, map, find}
use Rattle.std.specs.Prelude.{Option, Some, None, MatchOption, unwrap_or}
use Rattle.std.specs.Option.{option_map}
use Rattle.std.specs.Ordering.{int_eq, nat_cmp}
use Rattle.std.specs.Map.{values_of}
use Rattle.std.proofs.lemmas.Bool.Decides.{Decides-int_eq}
use Rattle.std.proofs.lemmas.List.Elements.{recursion_from_All}
use Rattle.kr_defs.specs.declared.record.Topic.{Topic}
use Rattle.kr_defs.specs.Image.{Image, IsValid, topic_name, are_distinct}
use Rattle.kr_defs.specs.KeptMaps.{Kept as KeptMap}
use Rattle.kr_defs.specs.Map as entries
use Rattle.kr_defs.specs.Map.{text_order}
use Rattle.kr_store.specs.Images.{Images, brokers_at, topics_at, partitions_at, configs_at, features_at, topic_of, topic_entry}
use Rattle.kr_store.specs.declared.places.At.{At}
use Rattle.kr_store.specs.declared.places.At.TheVariants as places
use Rattle.kr_image.specs.declared.kept_counts.KeptCounts.{KeptCounts}
use Rattle.kr_image.specs.declared.timelines.Timelines.{Timelines}
use Rattle.kr_image.specs.Timelines.{Keeps, keeps_of, kept_in, map_in, image_in, IsIndex}
use Rattle.kr_image.specs.KeptImages.{images_in, images_of, IsCountedRight, IsStoreWith}
use Rattle.kr_image.specs.inner.TimelineMaps.{entries_at}
use Rattle.kr_defs.proofs.Tests.{some_is}
use Rattle.kr_image.proofs.KeptLists.{find_map, all_map}
use Rattle.kr_image.proofs.Index.{name_of_id, next_named}
use Rattle.kr_image.proofs.Stores.{kept_image, not_kept, found_has, found_passes}

module _ {K V : Type 0} where
  alike_cases : (o : Option (KeptMap K V)) (p : Option KeptCounts) (image : List (K × V)) → option_map (λ (k : KeptMap K V). k.epoch) o ≡ option_map (λ (k : KeptCounts). k.epoch) p → image ≡ unwrap_or (option_map (λ (k : KeptMap K V). k.map) o) []
      → option_map (λ (k : KeptMap K V). k.map) o ≡ option_map (λ (k : KeptCounts). image) p
  alike_cases None None image same is = refl
  alike_cases None (Some k) image same is = absurd cc
  alike_cases (Some m) None image same is = absurd cc
  alike_cases (Some m) (Some k) image same is = ap (λ (es : List (K × V)). Some es) (sym is)

  -- a timeline that keeps the store's epochs
  alike : (ks : List (KeptMap K V)) (list : List KeptCounts) → map (λ (k : KeptMap K V). k.epoch) ks ≡ map (λ (k : KeptCounts). k.epoch) list → (epoch : ℤ) → option_map (λ (k : KeptMap K V). k.epoch) (find (λ (k : KeptMap K V). int_eq k.epoch epoch) ks) ≡ option_map (λ (k : KeptCounts). k.epoch) (find (λ (k : KeptCounts). int_eq k.epoch epoch) list)
  alike ks list same epoch = sym (find_map (λ (k : KeptMap K V). k.epoch) (λ x. int_eq x epoch) ks) ∙ (ap (find (λ x. int_eq x epoch)) same ∙ find_map (λ (k : KeptCounts). k.epoch) (λ x. int_eq x epoch) list)

  image_there : (f : Image → List (K × V)) (kept : Keeps) (list : List KeptCounts) (epoch : ℤ) → option_map f (option_map (λ (e : ℤ × Image). e.1) (find (λ (e : ℤ × Image). int_eq e.0 epoch) (images_in kept list))) ≡ option_map (λ (k : KeptCounts). f (image_in kept epoch)) (find (λ (k : KeptCounts). int_eq k.epoch epoch) list)
  image_there f kept list epoch = elim (find (λ (k : KeptCounts). int_eq k.epoch epoch) list) as (λ o. find (λ (k : KeptCounts). int_eq k.epoch epoch) list ≡ o → option_map f (option_map (λ (e : ℤ × Image). e.1) (find (λ (e : ℤ × Image). int_eq e.0 epoch) (images_in kept list))) ≡ option_map (λ (k : KeptCounts). f (image_in kept epoch)) o) [
    | None ↦ λ none. ap (λ (o : Option (ℤ × Image)). option_map f (option_map (λ (e : ℤ × Image). e.1) o)) (not_kept kept list epoch none)
    | Some k ↦ λ found. ap (λ (o : Option (ℤ × Image)). option_map f (option_map (λ (e : ℤ × Image). e.1) o)) (kept_image kept list k epoch found)
  ] refl

  pub kept_there : (f : Image → List (K × V)) (kept : Keeps) (ks : List (KeptMap K V)) (list : List KeptCounts) → map (λ (k : KeptMap K V). k.epoch) ks ≡ map (λ (k : KeptCounts). k.epoch) list → ((x : ℤ) → f (image_in kept x) ≡ map_in ks x) → (epoch : ℤ) → kept_in ks epoch ≡ option_map f (option_map (λ (e : ℤ × Image). e.1) (find (λ (e : ℤ × Image). int_eq e.0 epoch) (images_in kept list)))
  kept_there f kept ks list same is epoch = alike_cases (find (λ (k : KeptMap K V). int_eq k.epoch epoch) ks) (find (λ (k : KeptCounts). int_eq k.epoch epoch) list) (f (image_in kept epoch)) (alike ks list same epoch) (is epoch) ∙ sym (image_there f kept list epoch)

module _ (t : Timelines) (list : List KeptCounts) (begun : Option ℤ) (is : IsStoreWith t list begun) where
  brokers_there : (place : At) → entries_at t.brokers.maps place ≡ brokers_at (images_of t list begun) place
  brokers_there places.Tip = refl
  brokers_there (places.Epoch epoch) = kept_there (λ (i : Image). i.brokers) (keeps_of t) t.brokers.maps.kept list is.store.kept.epochs.brokers (λ x. refl) epoch

  names_there : (place : At) → entries_at t.names.maps place ≡ topics_at (images_of t list begun) place
  names_there places.Tip = refl
  names_there (places.Epoch epoch) = kept_there (λ (i : Image). i.topics) (keeps_of t) t.names.maps.kept list is.store.kept.epochs.names (λ x. refl) epoch

  partitions_there : (place : At) → entries_at t.partitions.maps place ≡ partitions_at (images_of t list begun) place
  partitions_there places.Tip = refl
  partitions_there (places.Epoch epoch) = kept_there (λ (i : Image). i.partitions) (keeps_of t) t.partitions.maps.kept list is.store.kept.epochs.partitions (λ x. refl) epoch

  configs_there : (place : At) → entries_at t.configs.maps place ≡ configs_at (images_of t list begun) place
  configs_there places.Tip = refl
  configs_there (places.Epoch epoch) = kept_there (λ (i : Image). i.configs) (keeps_of t) t.configs.maps.kept list is.store.kept.epochs.configs (λ x. refl) epoch

  features_there : (place : At) → entries_at t.features.maps place ≡ features_at (images_of t list begun) place
  features_there places.Tip = refl
  features_there (places.Epoch epoch) = kept_there (λ (i : Image). i.features) (keeps_of t) t.features.maps.kept list is.store.kept.epochs.features (λ x. refl) epoch

-- ---- what a contract sees

module _ (t : Timelines) (list : List KeptCounts) (begun : Option ℤ) (is : IsStoreWith t list begun) (seen : Images) (same : images_of t list begun ≡ seen) (place : At) where
  pub brokers_seen : entries_at t.brokers.maps place ≡ brokers_at seen place
  brokers_seen = brokers_there t list begun is place ∙ ap (λ (i : Images). brokers_at i place) same

  pub names_seen : entries_at t.names.maps place ≡ topics_at seen place
  names_seen = names_there t list begun is place ∙ ap (λ (i : Images). topics_at i place) same

  pub partitions_seen : entries_at t.partitions.maps place ≡ partitions_at seen place
  partitions_seen = partitions_there t list begun is place ∙ ap (λ (i : Images). partitions_at i place) same

  pub configs_seen : entries_at t.configs.maps place ≡ configs_at seen place
  configs_seen = configs_there t list begun is place ∙ ap (λ (i : Images). configs_at i place) same

  pub features_seen : entries_at t.features.maps place ≡ features_at seen place
  features_seen = features_there t list begun is place ∙ ap (λ (i : Images). features_at i place) same

-- ---- the topics by id

-- the topics by id that stand beside the topics by name
abbrev pub Indexed : Option (List (List ℕ × ℕ)) → Option (List (ℕ × Topic)) → Type 0
Indexed None None = Unit {0}
Indexed None (Some topics) = ⊥
Indexed (Some names) None = ⊥
Indexed (Some names) (Some topics) = IsIndex names topics × (are_distinct (values_of names) ≡ true)

index_there : (t : Timelines) (list : List KeptCounts) (begun : Option ℤ) → IsStoreWith t list begun → (place : At) → Indexed (topics_at (images_of t list begun) place) (entries_at t.topics.maps place)
index_there t list begun is places.Tip = (is.store.present.index, is.store.valid.topics.distinct)
index_there t list begun is (places.Epoch epoch) =
    let by_id : kept_in t.topics.maps.kept epoch ≡ option_map (λ (k : KeptCounts). map_in t.topics.maps.kept epoch) (find (λ (k : KeptCounts). int_eq k.epoch epoch) list) =
    alike_cases (find (λ (k : KeptMap ℕ Topic). int_eq k.epoch epoch) t.topics.maps.kept) (find (λ (k : KeptCounts). int_eq k.epoch epoch) list) (map_in t.topics.maps.kept epoch)
    (alike t.topics.maps.kept list is.store.kept.epochs.topics epoch) refl in
    let by_name = image_there (λ (i : Image). i.topics) (keeps_of t) list epoch in
    subst (λ (o : Option (List (ℕ × Topic))). Indexed (topics_at (images_of t list begun) (places.Epoch epoch)) o) (sym by_id)
    (subst (λ (o : Option (List (List ℕ × ℕ))). Indexed o (option_map (λ (k : KeptCounts). map_in t.topics.maps.kept epoch) (find (λ (k : KeptCounts). int_eq k.epoch epoch) list))) (sym by_name)
    (elim (find (λ (k : KeptCounts). int_eq k.epoch epoch) list) as (λ o. find (λ (k : KeptCounts). int_eq k.epoch epoch) list ≡ o → Indexed (option_map (λ (k : KeptCounts). map_in t.names.maps.kept epoch) o) (option_map (λ (k : KeptCounts). map_in t.topics.maps.kept epoch) o)) [
      | None ↦ λ none. tt
      | Some k ↦ λ found.
          let right : IsCountedRight (keeps_of t) k = found_has (IsCountedRight (keeps_of t)) (λ (k : KeptCounts). int_eq k.epoch epoch) list k (recursion_from_All (IsCountedRight (keeps_of t)) list is.store.kept.right) found in
          let valid : IsValid (image_in (keeps_of t) k.epoch) = found_has (λ (k : KeptCounts). IsValid (image_in (keeps_of t) k.epoch)) (λ (k : KeptCounts). int_eq k.epoch epoch) list k (all_map (λ (k : KeptCounts). (k.epoch, image_in (keeps_of t) k.epoch)) (λ (e : ℤ × Image). IsValid e.1) list (recursion_from_All (λ (e : ℤ × Image). IsValid e.1) (images_in (keeps_of t) list) is.store.kept.valid)) found in
          let same : k.epoch ≡ epoch = (Decides-int_eq k.epoch epoch).0 (found_passes (λ (k : KeptCounts). int_eq k.epoch epoch) list k found) in
          subst (λ (x : ℤ). IsIndex (map_in t.names.maps.kept x) (map_in t.topics.maps.kept x) × (are_distinct (values_of (map_in t.names.maps.kept x)) ≡ true)) same (right.index, valid.topics.distinct)
    ] refl))

pub index_seen : (t : Timelines) (list : List KeptCounts) (begun : Option ℤ) → IsStoreWith t list begun → (seen : Images) → images_of t list begun ≡ seen → (place : At) → Indexed (topics_at seen place) (entries_at t.topics.maps place)
index_seen t list begun is seen same place = subst (λ (i : Images). Indexed (topics_at i place) (entries_at t.topics.maps place)) same (index_there t list begun is place)

module _ (C : Option Topic → Type 0) (E : Type 0) where
  pub topic_there : (names : Option (List (List ℕ × ℕ))) (topics : Option (List (ℕ × Topic))) (id : ℕ) → Indexed names topics → MatchOption topics E (λ m. C (entries.get nat_cmp m id)) → MatchOption names E (λ m. C (option_map (λ n. topic_of n id) (topic_name m id)))
  topic_there None None id is h = h
  topic_there None (Some topics) id is h = absurd is
  topic_there (Some names) None id is h = absurd is
  topic_there (Some names) (Some topics) id is h = subst C (is.0.found id) h

  pub named_there : (F : Type 0) (names : Option (List (List ℕ × ℕ))) (topics : Option (List (ℕ × Topic))) (name : List ℕ) (id : ℕ) → Indexed names topics → MatchOption names F (λ m. Some id ≡ entries.get text_order m name) → MatchOption topics E (λ m. C (entries.get nat_cmp m id))
      → MatchOption names E (λ m. C (option_map (λ i. topic_of name i) (entries.get text_order m name)))
  named_there F None None name id is there h = h
  named_there F None (Some topics) name id is there h = absurd is
  named_there F (Some names) None name id is there h = absurd is
  named_there F (Some names) (Some topics) name id is there h =
      let named : topic_name names id ≡ Some name = name_of_id names name id is.1 (sym there) in
      let got : entries.get nat_cmp topics id ≡ option_map (λ i. topic_of name i) (entries.get text_order names name) = is.0.found id ∙ (ap (option_map (λ n. topic_of n id)) named ∙ ap (option_map (λ i. topic_of name i)) there) in
      subst C got h

  pub unnamed_there : (names : Option (List (List ℕ × ℕ))) (name : List ℕ) → C None → MatchOption names E (λ m. None ≡ entries.get text_order m name) → MatchOption names E (λ m. C (option_map (λ i. topic_of name i) (entries.get text_order m name)))
  unnamed_there None name none h = h
  unnamed_there (Some names) name none h = subst (λ (o : Option ℕ). C (option_map (λ i. topic_of name i) o)) h none

-- ---- the topic of the entry that a walk has come to

module _ (E F : Type 0) (after : Option (List ℕ)) (name : List ℕ) (id : ℕ) where
  its_topic : (names : List (List ℕ × ℕ)) (topics : List (ℕ × Topic)) → Indexed (Some names) (Some topics) → Some (name, id) ≡ entries.next text_order names after → entries.get nat_cmp topics id ≡ Some (topic_of name id)
  its_topic names topics is there = is.0.found id ∙ ap (option_map (λ n. topic_of n id)) (next_named names after name id is.1 (sym there))

  pub walked : (names : Option (List (List ℕ × ℕ))) (topics : Option (List (ℕ × Topic))) (topic : Topic) → Indexed names topics → MatchOption names E (λ m. Some (name, id) ≡ entries.next text_order m after) → MatchOption topics F (λ m. Some topic ≡ entries.get nat_cmp m id)
      → MatchOption names E (λ m. Some (name, topic) ≡ option_map topic_entry (entries.next text_order m after))
  walked None topics topic is there found = there
  walked (Some names) None topic is there found = absurd is
  walked (Some names) (Some topics) topic is there found =
      let same : topic ≡ topic_of name id = some_is topic (topic_of name id) (found ∙ its_topic names topics is there) in
      ap (λ (t : Topic). Some (name, t)) same ∙ ap (option_map topic_entry) there

  -- it has one
  pub not_walked : (names : Option (List (List ℕ × ℕ))) (topics : Option (List (ℕ × Topic))) → Indexed names topics → MatchOption names E (λ m. Some (name, id) ≡ entries.next text_order m after) → MatchOption topics F (λ m. None ≡ entries.get nat_cmp m id)
      → MatchOption names E (λ m. None ≡ option_map topic_entry (entries.next text_order m after))
  not_walked None topics is there found = there
  not_walked (Some names) None is there found = absurd is
  not_walked (Some names) (Some topics) is there found = let none : None ≡ Some (topic_of name id) = found ∙ its_topic names topics is there in absurd cc

pub none_walked : (E : Type 0) (names : Option (List (List ℕ × ℕ))) (after : Option (List ℕ)) → MatchOption names E (λ m. None ≡ entries.next text_order m after) → MatchOption names E (λ m. None ≡ option_map topic_entry (entries.next text_order m after))
none_walked E None after h = h
none_walked E (Some names) after h = ap (option_map topic_entry) h

pub walked_nowhere : (F G : Type 0) (Q : List (List ℕ × ℕ) → Type 0) (names : Option (List (List ℕ × ℕ))) (topics : Option (List (ℕ × Topic))) → Indexed names topics → MatchOption topics F (λ m. ⊥) → G → MatchOption names G Q
walked_nowhere F G Q None topics is found g = g
walked_nowhere F G Q (Some names) None is found g = absurd is
walked_nowhere F G Q (Some names) (Some topics) is found g = absurd found
