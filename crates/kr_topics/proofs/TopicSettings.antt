-- Settings of a new topic, one after the other.
use Rattle.std.proofs.Common.{◌≡◌, ◌∙◌, ◌<◌, ◌+◌, ℕ, true, false, cond, List, [], ◌∷◌, ◌++◌, length, get_or, drop, refl, sym, ap, subst, append_assoc}
use Rattle.std.specs.Prelude.{Some, bytes_eq}
use Rattle.std.specs.declared.cmp.Ordering.{Ordering}
use Rattle.std.specs.declared.cmp.Ordering.TheVariants.{Less, Equal, Greater}
use Rattle.std.specs.Ordering.{is_eq, ordering_reverse}
use Rattle.std.specs.Option.{option_map_or, option_or}
use Rattle.kr_defs.specs.declared.record.ConfigKey.{ConfigKey}
use Rattle.kr_defs.specs.declared.record.Record.{Record}
use Rattle.kr_defs.specs.declared.record.Record.TheVariants as kinds
use Rattle.kr_defs.specs.Apply.{topic_kind}
use Rattle.kr_defs.specs.Map.{get, insert, text_order, config_order}
use Rattle.kr_defs.proofs.ImageParts.{text_total, config_total}
use Rattle.kr_calls.specs.declared.create_topics.CreatableTopicConfig.{CreatableTopicConfig}
use Rattle.kr_calls.specs.CreateTopics.{settings_records}
use Rattle.kr_rules.proofs.KeyLookups.{get_inserted}
use Rattle.kr_rules.proofs.SingleEntries.{here_of}
use Rattle.kr_topics.specs.inner.TopicSettings.{topic_setting_key, value_before, value_of, is_set_already}

pub mirrored : (r : Ordering) → r ≡ ordering_reverse r → r ≡ Equal
mirrored Less e = absurd cc
mirrored Equal e = refl
mirrored Greater e = absurd cc

keys_alike : (topic q k : List ℕ) → config_order (topic_setting_key topic q) (topic_setting_key topic k) ≡ text_order q k
keys_alike topic q k = rw (mirrored (text_order topic topic) (text_total.antisymm topic topic)) refl

-- configurations that have, at the keys of the topic, what was given so far above what stood
pub record IsUnder (base : List (ConfigKey × List ℕ)) (topic : List ℕ) (given : List (List ℕ × List ℕ)) (records : List Record) (left : List CreatableTopicConfig) (all : List Record) : Type 0 where
  pub configs : List (ConfigKey × List ℕ)
  pub stands : (q : List ℕ) → get config_order configs (topic_setting_key topic q) ≡ value_before base given topic q
  pub told : records ++ settings_records configs topic left ≡ all

module _ (base : List (ConfigKey × List ℕ)) (topic : List ℕ) where
  pub begins : (records : List Record) (settings : List CreatableTopicConfig) → IsUnder base topic [] records settings (records ++ settings_records base topic settings)
  begins records settings = record { configs = base; stands = λ q. refl; told = refl }

  module _ (given : List (List ℕ × List ℕ)) (configs : List (ConfigKey × List ℕ)) (stands : (q : List ℕ) → get config_order configs (topic_setting_key topic q) ≡ value_before base given topic q) where
    stands_more : (k v : List ℕ) (q : List ℕ) → get config_order (insert config_order configs (topic_setting_key topic k) v) (topic_setting_key topic q) ≡ value_before base (insert text_order given k v) topic q
    stands_more k v q =
        let first : get config_order (insert config_order configs (topic_setting_key topic k) v) (topic_setting_key topic q) ≡ cond (is_eq (text_order q k)) (Some v) (get config_order configs (topic_setting_key topic q)) =
        get_inserted config_total configs (topic_setting_key topic k) (topic_setting_key topic q) v ∙ ap (λ r. cond (is_eq r) (Some v) (get config_order configs (topic_setting_key topic q))) (keys_alike topic q k) in
        let then : value_before base (insert text_order given k v) topic q ≡ option_or (cond (is_eq (text_order q k)) (Some v) (get text_order given q)) (get config_order base (topic_setting_key topic q)) =
        ap (λ o. option_or o (get config_order base (topic_setting_key topic q))) (get_inserted text_total given k q v) in
        first ∙ elim (is_eq (text_order q k)) as (λ b. cond b (Some v) (get config_order configs (topic_setting_key topic q)) ≡ option_or (cond b (Some v) (get text_order given q)) (get config_order base (topic_setting_key topic q))) [ true ↦ refl | false ↦ stands q ] ∙ sym then

    -- what the records of a setting and those of others are, by whether its value is old
    records_by : (s : CreatableTopicConfig) (rest : List CreatableTopicConfig) → settings_records configs topic (s ∷ rest) ≡ cond (is_set_already base given topic s) (settings_records configs topic rest) (kinds.Config topic_kind topic s.name (Some (value_of s)) ∷ settings_records (insert config_order configs (topic_setting_key topic s.name) (value_of s)) topic rest)
    records_by s rest = ap (λ o. cond (option_map_or (bytes_eq (value_of s)) o false) (settings_records configs topic rest) (kinds.Config topic_kind topic s.name (Some (value_of s)) ∷ settings_records (insert config_order configs (topic_setting_key topic s.name) (value_of s)) topic rest)) (stands s.name)

  -- one setting more
  pub setting_more : (given given' : List (List ℕ × List ℕ)) (records records' : List Record) (s : CreatableTopicConfig) (rest : List CreatableTopicConfig) (all : List Record)
      → given' ≡ cond (is_set_already base given topic s) given (insert text_order given s.name (value_of s))
      → records' ≡ cond (is_set_already base given topic s) records (records ++ kinds.Config topic_kind topic s.name (Some (value_of s)) ∷ [])
      → IsUnder base topic given records (s ∷ rest) all → IsUnder base topic given' records' rest all
  setting_more given given' records records' s rest all is_given is_records under =
      let told = ap (λ rs. records ++ rs) (sym (records_by given under.configs under.stands s rest)) ∙ under.told in
      elim (is_set_already base given topic s) as (λ b. given' ≡ cond b given (insert text_order given s.name (value_of s)) → records' ≡ cond b records (records ++ kinds.Config topic_kind topic s.name (Some (value_of s)) ∷ []) → records ++ cond b (settings_records under.configs topic rest) (kinds.Config topic_kind topic s.name (Some (value_of s)) ∷ settings_records (insert config_order under.configs (topic_setting_key topic s.name) (value_of s)) topic rest) ≡ all → IsUnder base topic given' records' rest all) [
        | true ↦ λ is_given is_records told. rw (is_given, is_records) (record { configs = under.configs; stands = under.stands; told = told })
        | false ↦ λ is_given is_records told. rw (is_given, is_records) (record {
          configs = insert config_order under.configs (topic_setting_key topic s.name) (value_of s);
          stands = stands_more given under.configs under.stands s.name (value_of s);
          told = append_assoc records (kinds.Config topic_kind topic s.name (Some (value_of s)) ∷ []) (settings_records (insert config_order under.configs (topic_setting_key topic s.name) (value_of s)) topic rest) ∙ told;
        })
      ] is_given is_records told

  -- the setting at an index of a list
  pub setting_at : (given given' : List (List ℕ × List ℕ)) (records records' : List Record) (settings : List CreatableTopicConfig) (i : ℕ) (s : CreatableTopicConfig) (all : List Record) → i < length settings → s ≡ get_or settings i s
      → given' ≡ cond (is_set_already base given topic s) given (insert text_order given s.name (value_of s))
      → records' ≡ cond (is_set_already base given topic s) records (records ++ kinds.Config topic_kind topic s.name (Some (value_of s)) ∷ [])
      → IsUnder base topic given records (drop i settings) all → IsUnder base topic given' records' (drop (i + 1) settings) all
  setting_at given given' records records' settings i s all lt here is_given is_records under =
      setting_more given given' records records' s (drop (i + 1) settings) all is_given is_records (subst (λ left. IsUnder base topic given records left all) (here_of settings i s lt here) under)

  pub ends : (given : List (List ℕ × List ℕ)) (records all : List Record) → IsUnder base topic given records [] all → records ++ [] ≡ all
  ends given records all under = under.told
