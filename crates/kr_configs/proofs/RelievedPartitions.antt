-- Which partitions a changed minimum relieves.
use Rattle.std.proofs.Common.{◌≡◌, ◌∙◌, ℕ, ℤ, Bool, true, false, cond, List, [], ◌∷◌, ◌++◌, length, map, refl, sym, ap, subst}
use Rattle.std.specs.Prelude.{Option, Some, None, not, ◌&&◌, ◌==◌, bytes_eq, flat_map, option_and_then, unwrap_or}
use Rattle.std.specs.declared.cmp.Ordering.TheVariants.{Less}
use Rattle.std.specs.Cmp.{int_eq_equiv}
use Rattle.std.specs.Cmp.Lexicographic.{texts_ties, nat_list_eq_equiv}
use Rattle.std.specs.List.{AllByRecursion}
use Rattle.std.specs.List.Sorted.{IsStrictlySortedBy}
use Rattle.std.specs.Map.{keys_of}
use Rattle.std.specs.Option.{option_map_or, option_or}
use Rattle.std.specs.Ordering.{int_eq, is_eq}
use Rattle.std.proofs.lemmas.List.{append-nil}
use Rattle.std.proofs.lemmas.List.Elements.{filter_map-append}
use Rattle.kr_defs.specs.declared.partition.Partition.{Partition}
use Rattle.kr_defs.specs.declared.partition.PartitionChange.{PartitionChange}
use Rattle.kr_defs.specs.declared.options.Options.{Options}
use Rattle.kr_defs.specs.declared.record.Record.{Record}
use Rattle.kr_defs.specs.Apply.{broker_kind, topic_kind}
use Rattle.kr_defs.specs.Eligible.{is_enough}
use Rattle.kr_defs.specs.Image.{Image}
use Rattle.kr_defs.specs.Map.{IsMap, get, config_order, text_order}
use Rattle.kr_defs.specs.NewPartition.{emptying}
use Rattle.kr_defs.specs.Settings.{minimum_key, minimum_of, read_minimum, setting_value}
use Rattle.kr_defs.specs.Walk.{Walked, walked, of_topic, walk_topic, change_of, changes_of}
use Rattle.kr_defs.proofs.ImageParts.{text_total}
use Rattle.kr_defs.proofs.Maps.{none_below}
use Rattle.kr_defs.proofs.Tests.{both}
use Rattle.kr_calls.specs.declared.incremental_alter_configs.ConfigResource.{ConfigResource}
use Rattle.kr_calls.specs.IncrementalAlterConfigs.{Values, is_same_value, relief, value_now}
use Rattle.kr_replicas.specs.BrokerPartitions.{has_standing_by}
use Rattle.kr_replication.specs.ListedWalks.{ConcernsOnly}
use Rattle.kr_configs.specs.inner.NewSettings.{after, has_enough, keeps_minimum}
use Rattle.kr_configs.specs.NamedKeys.{AreOnce}
use Rattle.kr_configs.proofs.OperationKeys.{same_text}
use Rattle.kr_configs.proofs.Overlay.{got_other_key, got_own_key, same_number}

-- ---- one partition

module _ (options : Options) (before later : Image) (w : Walked) where
  too_few : has_enough options before later w.topic w.partition ≡ false → relief options before later w ≡ None
  too_few few = ap (λ b. cond (b && has_standing_by w.partition) (Some (emptying w.partition)) None) few

none_stands : (b : Bool) (change : Option PartitionChange) → cond (b && false) change None ≡ None
none_stands true change = refl
none_stands false change = refl

-- nothing changes where no replica stands by
pub relief_concerns : (options : Options) (before later : Image) → ConcernsOnly has_standing_by (relief options before later)
relief_concerns options before later w formed absent =
    let enough : Bool = has_enough options before later w.topic w.partition in
    let change : Option PartitionChange = Some (emptying w.partition) in
    ap (λ b. cond (enough && b) change None) absent ∙ none_stands enough change

-- ---- the minimum afterwards

never_both : (a b : Bool) → b ≡ false → (a && b) ≡ false
never_both true b is = is
never_both false b is = refl

same_value : (a b : Option (List ℕ)) → is_same_value a b ≡ true → a ≡ b
same_value None None is = refl
same_value None (Some v) is = absurd cc
same_value (Some v) None is = absurd cc
same_value (Some v) (Some w) is = ap Some (same_text v w is)

module _ (image : Image) (entry : ConfigResource) (values : Values) (ordered : IsMap config_order image.configs) (once : AreOnce values) where
  pub own_minimum : (kind : ℤ) (name : List ℕ) → (int_eq kind entry.kind && bytes_eq name entry.name) ≡ true → setting_value (after image entry values) kind name minimum_key ≡ value_now image entry values minimum_key
  own_minimum kind name own =
      let parts = both (int_eq kind entry.kind) (bytes_eq name entry.name) own in
      ap (λ k. setting_value (after image entry values) k name minimum_key) (same_number kind entry.kind parts.0)
      ∙ ap (λ n. setting_value (after image entry values) entry.kind n minimum_key) (same_text name entry.name parts.1)
      ∙ got_own_key entry image.configs values minimum_key ordered once

  pub other_minimum : (kind : ℤ) (name : List ℕ) → (int_eq kind entry.kind && bytes_eq name entry.name) ≡ false → setting_value (after image entry values) kind name minimum_key ≡ setting_value image kind name minimum_key
  other_minimum kind name other = got_other_key entry image.configs values (record { kind = kind; name = name; key = minimum_key }) ordered other

  module _ (keeps : keeps_minimum image entry values ≡ true) where
    kept_at : (kind : ℤ) (name : List ℕ) → setting_value (after image entry values) kind name minimum_key ≡ setting_value image kind name minimum_key
    kept_at kind name =
        elim (int_eq kind entry.kind && bytes_eq name entry.name) as (λ b. (int_eq kind entry.kind && bytes_eq name entry.name) ≡ b → setting_value (after image entry values) kind name minimum_key ≡ setting_value image kind name minimum_key) [
          | true ↦ λ own.
              let parts = both (int_eq kind entry.kind) (bytes_eq name entry.name) own in
              own_minimum kind name own
              ∙ same_value (value_now image entry values minimum_key) (setting_value image entry.kind entry.name minimum_key) keeps
              ∙ sym (ap (λ k. setting_value image k name minimum_key) (same_number kind entry.kind parts.0) ∙ ap (λ n. setting_value image entry.kind n minimum_key) (same_text name entry.name parts.1))
          | false ↦ λ other. other_minimum kind name other
        ] refl

    kept_minimum : (otherwise : ℤ) (topic : List ℕ) → minimum_of otherwise (after image entry values) topic ≡ minimum_of otherwise image topic
    kept_minimum otherwise topic =
        ap (λ o. unwrap_or (option_or (option_and_then read_minimum o) (option_and_then read_minimum (setting_value (after image entry values) broker_kind [] minimum_key))) otherwise) (kept_at topic_kind topic)
        ∙ ap (λ o. unwrap_or (option_or (option_and_then read_minimum (setting_value image topic_kind topic minimum_key)) (option_and_then read_minimum o)) otherwise) (kept_at broker_kind [])

    none_relieved : (options : Options) (w : Walked) → relief options image (after image entry values) w ≡ None
    none_relieved options w =
        let same : int_eq (minimum_of options.minimum image w.topic) (minimum_of options.minimum (after image entry values) w.topic) ≡ true =
        ap (int_eq (minimum_of options.minimum image w.topic)) (kept_minimum options.minimum w.topic) ∙ int_eq_equiv.refl (minimum_of options.minimum image w.topic) in
        too_few options image (after image entry values) w (ap (λ b. not b && is_enough w.partition.replicas w.partition.in_sync (minimum_of options.minimum (after image entry values) w.topic)) same)

    no_reliefs : (options : Options) (ws : List Walked) → changes_of (relief options image (after image entry values)) ws ≡ []
    no_reliefs options [] = refl
    no_reliefs options (w ∷ ws) = rw (none_relieved options w) (no_reliefs options ws)

  -- where the minimum stays, no change is added
  pub none_added : (keeps : Bool) → keeps ≡ keeps_minimum image entry values → keeps ≡ true → (options : Options) (ws : List Walked) (records : List Record) → records ≡ records ++ changes_of (relief options image (after image entry values)) ws
  none_added keeps told is options ws records = sym (append-nil records) ∙ ap (λ rs. records ++ rs) (sym (no_reliefs (sym told ∙ is) options ws))

  -- ---- a topic's own setting

  -- what the minimum of a topic goes by is none of the resource's
  module _ (topic : List ℕ) (own : (int_eq topic_kind entry.kind && bytes_eq topic entry.name) ≡ false) (common : (int_eq broker_kind entry.kind && bytes_eq [] entry.name) ≡ false) where
    same_minimum : (otherwise : ℤ) → minimum_of otherwise (after image entry values) topic ≡ minimum_of otherwise image topic
    same_minimum otherwise =
        ap (λ o. unwrap_or (option_or (option_and_then read_minimum o) (option_and_then read_minimum (setting_value (after image entry values) broker_kind [] minimum_key))) otherwise) (other_minimum topic_kind topic own)
        ∙ ap (λ o. unwrap_or (option_or (option_and_then read_minimum (setting_value image topic_kind topic minimum_key)) (option_and_then read_minimum o)) otherwise) (other_minimum broker_kind [] common)

    stays : (options : Options) (w : Walked) → w.topic ≡ topic → relief options image (after image entry values) w ≡ None
    stays options w named =
        let kept : minimum_of options.minimum (after image entry values) w.topic ≡ minimum_of options.minimum image w.topic = ap (minimum_of options.minimum (after image entry values)) named ∙ same_minimum options.minimum ∙ sym (ap (minimum_of options.minimum image) named) in
        let same : int_eq (minimum_of options.minimum image w.topic) (minimum_of options.minimum (after image entry values) w.topic) ≡ true = ap (int_eq (minimum_of options.minimum image w.topic)) kept ∙ int_eq_equiv.refl (minimum_of options.minimum image w.topic) in
        too_few options image (after image entry values) w (ap (λ b. not b && is_enough w.partition.replicas w.partition.in_sync (minimum_of options.minimum (after image entry values) w.topic)) same)

    all_stay : (options : Options) (ws : List Walked) → AllByRecursion (λ (w : Walked). w.topic ≡ topic) ws → changes_of (relief options image (after image entry values)) ws ≡ []
    all_stay options [] named = refl
    all_stay options (w ∷ ws) named = rw (stays options w named.0) (all_stay options ws named.1)

    all_named : (es : List ((ℕ × ℤ) × Partition)) → AllByRecursion (λ (w : Walked). w.topic ≡ topic) (map (walked topic) es)
    all_named [] = tt
    all_named (e ∷ es) = (refl, all_named es)

    topic_stays : (options : Options) (id : ℕ) → changes_of (relief options image (after image entry values)) (walk_topic image.partitions (topic, id)) ≡ []
    topic_stays options id = all_stay options (walk_topic image.partitions (topic, id)) (all_named (of_topic id image.partitions))

  other_kind : (b : Bool) → int_eq entry.kind topic_kind ≡ true → (int_eq broker_kind entry.kind && b) ≡ false
  other_kind b is = ap (λ k. int_eq broker_kind k && b) (same_number entry.kind topic_kind is)

  module _ (is : int_eq entry.kind topic_kind ≡ true) (options : Options) where
    abbrev relieved : List (List ℕ × ℕ) → List Record
    relieved ts = changes_of (relief options image (after image entry values)) (flat_map (walk_topic image.partitions) ts)

    abbrev relieved_of : List ℕ × ℕ → List Record
    relieved_of t = changes_of (relief options image (after image entry values)) (walk_topic image.partitions t)

    parts : (t : List ℕ × ℕ) (ts : List (List ℕ × ℕ)) → relieved (t ∷ ts) ≡ relieved_of t ++ relieved ts
    parts t ts = filter_map-append (change_of (relief options image (after image entry values))) (walk_topic image.partitions t) (flat_map (walk_topic image.partitions) ts)

    -- those of its partitions, where it stands
    own_reliefs : (ts : List (List ℕ × ℕ)) → IsMap text_order ts → relieved ts ≡ option_map_or (λ id. relieved_of (entry.name, id)) (get text_order ts entry.name) []
    unfolding IsStrictlySortedBy
    own_reliefs [] sorted = refl
    own_reliefs (t ∷ ts) sorted =
        let rest = own_reliefs ts sorted.1 in
        elim (is_eq (text_order entry.name t.0)) as (λ b. is_eq (text_order entry.name t.0) ≡ b → relieved (t ∷ ts) ≡ option_map_or (λ id. relieved_of (entry.name, id)) (cond b (Some t.1) (get text_order ts entry.name)) []) [
          | true ↦ λ here.
              let same : entry.name ≡ t.0 = same_text entry.name t.0 (texts_ties entry.name t.0 ∙ here) in
              let none : get text_order ts entry.name ≡ None = none_below text_total ts entry.name (subst (λ (n : List ℕ). AllByRecursion (λ z. text_order n z ≡ Less) (keys_of ts)) (sym same) sorted.0) in
              parts t ts
              ∙ ap (λ rs. relieved_of t ++ rs) (rest ∙ ap (λ o. option_map_or (λ id. relieved_of (entry.name, id)) o []) none)
              ∙ append-nil (relieved_of t)
              ∙ ap (λ (n : List ℕ). relieved_of (n, t.1)) (sym same)
          | false ↦ λ other.
              let apart : bytes_eq t.0 entry.name ≡ false = nat_list_eq_equiv.symm t.0 entry.name ∙ texts_ties entry.name t.0 ∙ other in
              parts t ts
              ∙ ap (λ rs. rs ++ relieved ts) (topic_stays t.0 (never_both (int_eq topic_kind entry.kind) (bytes_eq t.0 entry.name) apart) (other_kind (bytes_eq [] entry.name) is) options t.1)
              ∙ rest
        ] refl

    pub topic_reliefs : (id : ℕ) → Some id ≡ get text_order image.topics entry.name → IsMap text_order image.topics → (records : List Record) → records ++ relieved_of (entry.name, id) ≡ records ++ relieved image.topics
    topic_reliefs id found sorted records =
        ap (λ rs. records ++ rs) (sym (own_reliefs image.topics sorted ∙ ap (λ o. option_map_or (λ id. relieved_of (entry.name, id)) o []) (sym found)))

    pub no_topic_reliefs : None ≡ get text_order image.topics entry.name → IsMap text_order image.topics → (records : List Record) → records ≡ records ++ relieved image.topics
    no_topic_reliefs none sorted records =
        sym (ap (λ rs. records ++ rs) (own_reliefs image.topics sorted ∙ ap (λ o. option_map_or (λ id. relieved_of (entry.name, id)) o []) (sym none)) ∙ append-nil records)

  -- ---- a single broker's setting

  module _ (kind : int_eq entry.kind topic_kind ≡ false) (named : (length entry.name == 0) ≡ false) (options : Options) where
    other_number : (int_eq topic_kind entry.kind) ≡ false
    other_number = int_eq_equiv.symm topic_kind entry.kind ∙ kind

    other_name : (name : List ℕ) → (length name == 0) ≡ false → bytes_eq [] name ≡ false
    other_name [] is = absurd cc
    other_name (n ∷ ns) is = refl

    broker_stays : (w : Walked) → relief options image (after image entry values) w ≡ None
    broker_stays w = stays w.topic (ap (λ b. b && bytes_eq w.topic entry.name) other_number) (never_both (int_eq broker_kind entry.kind) (bytes_eq [] entry.name) (other_name entry.name named)) options w refl

    brokers_stay : (ws : List Walked) → changes_of (relief options image (after image entry values)) ws ≡ []
    brokers_stay [] = refl
    brokers_stay (w ∷ ws) = rw (broker_stays w) (brokers_stay ws)

    pub no_broker_reliefs : (ws : List Walked) (records : List Record) → records ≡ records ++ changes_of (relief options image (after image entry values)) ws
    no_broker_reliefs ws records = sym (append-nil records) ∙ ap (λ rs. records ++ rs) (sym (brokers_stay ws))
