-- What a topic gives, and the topics behind it.
use Rattle.std.proofs.Common.{◌≡◌, ◌∙◌, ℕ, ℤ, negsuc, List, [], ◌++◌, ◌≤◌, length, map, take, refl, sym, ap}
use Rattle.std.specs.Prelude.{Option, Some, None, All, IsTrue, flat_map}
use Rattle.std.specs.Option.{option_map, option_map_or}
use Rattle.std.proofs.lemmas.List.Elements.{recursion_from_All}
use Rattle.kr_defs.specs.declared.partition.Partition.{Partition}
use Rattle.kr_defs.specs.declared.record.Topic.{Topic}
use Rattle.kr_defs.specs.Image.{Image, is_index}
use Rattle.kr_defs.specs.Map.{IsMap, above, get, next, partition_order, text_order}
use Rattle.kr_defs.specs.Walk.{Walked, of_topic, walk_topic, walked}
use Rattle.kr_defs.proofs.ImageParts.{text_total}
use Rattle.kr_defs.proofs.Tests.{some_is}
use Rattle.kr_defs.proofs.TopicWalks.{group_begin}
use Rattle.kr_defs.proofs.Walks.{walk_next}
use Rattle.kr_image.proofs.KeptLists.{map_again}
use Rattle.kr_store.specs.Images.{topic_of, topic_under}
use Rattle.kr_view.specs.Listings.{listed, rest_of_topic}
use Rattle.kr_view.proofs.Filling.{behind_others, none_added}

-- the name of a topic, and what is found under it
pub is_named : (name : List ℕ) (o : Option ℕ) (topic : Topic) → Some topic ≡ option_map (λ id. topic_of name id) o → o ≡ Some topic.id
is_named name None topic found = absurd cc
is_named name (Some id) topic found = ap (λ (x : Topic). Some x.id) (sym (some_is topic (topic_of name id) found))

pub not_named : (name : List ℕ) (o : Option ℕ) → None ≡ option_map (λ id. topic_of name id) o → o ≡ None
not_named name None none = refl
not_named name (Some id) none = absurd cc

module _ {Y : Type 0} (heads : List ℕ × ℕ → List Y) (rows : Walked → Y) where
  -- its partitions come behind what it gives before them
  pub topic_listed : (ps : List ((ℕ × ℤ) × Partition)) (topic : List ℕ × ℕ) (most : ℕ) (old mid new : List Y) → All (λ (e : (ℕ × ℤ) × Partition). IsTrue (is_index e.0.1)) ps
      → mid ≡ take most (old ++ heads topic) → new ≡ take most (mid ++ map (λ e. rows (walked topic.0 e)) (of_topic topic.1 (above partition_order ps (Some (topic.1, negsuc 0))))) → new ≡ take most (old ++ listed heads rows ps topic)
  topic_listed ps topic most old mid new indexes first then =
      let own = group_begin topic.1 ps (recursion_from_All (λ (e : (ℕ × ℤ) × Partition). IsTrue (is_index e.0.1)) ps indexes) in
      behind_others most old mid new (heads topic) (map rows (walk_topic ps topic)) first
      (then ∙ ap (λ (ys : List Y). take most (mid ++ ys)) (ap (map (λ e. rows (walked topic.0 e))) own ∙ sym (map_again (walked topic.0) rows (of_topic topic.1 ps))))

  -- the topic that comes next, and those behind it
  pub topics_left : (ps : List ((ℕ × ℤ) × Partition)) (topics : List (List ℕ × ℕ)) (after : Option (List ℕ)) (e : List ℕ × ℕ) → IsMap text_order topics → Some e ≡ next text_order topics after
      → flat_map (listed heads rows ps) (above text_order topics after) ≡ listed heads rows ps e ++ flat_map (listed heads rows ps) (above text_order topics (Some e.0))
  topics_left ps topics after e ordered found = ap (flat_map (listed heads rows ps)) (walk_next text_total topics after e ordered (sym found))

  -- the later partitions of the topic of a name
  module _ (image : Image) (name : List ℕ) (index : ℤ) (most : ℕ) (old : List Y) where
    abbrev part : ℕ → List Y
    part = rest_of_topic heads rows image name index

    pub rest_listed : (topic : Topic) (new : List Y) → Some topic ≡ topic_under image.topics name → new ≡ take most (old ++ part topic.id) → new ≡ take most (old ++ option_map_or part (get text_order image.topics name) [])
    rest_listed topic new found is = is ∙ ap (λ (o : Option ℕ). take most (old ++ option_map_or part o [])) (sym (is_named name (get text_order image.topics name) topic found))

    pub no_rest : length old ≤ most → None ≡ topic_under image.topics name → old ≡ take most (old ++ option_map_or part (get text_order image.topics name) [])
    no_rest few none = none_added most old (option_map_or part (get text_order image.topics name) []) few (ap (λ (o : Option ℕ). option_map_or part o []) (not_named name (get text_order image.topics name) none))
