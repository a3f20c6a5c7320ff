-- The settings of a new topic, each beside those that its entry set before. This project's own.
use Rattle.std.specs.Prelude.{ℕ, Bool, false, List, [], ◌∷◌, ◌++◌, bytes_eq, unwrap_or, Option, Some, if◌then◌else◌}
use Rattle.std.specs.Option.{option_map_or, option_or}
use Rattle.kr_defs.specs.declared.record.ConfigKey.{ConfigKey}
use Rattle.kr_defs.specs.declared.record.Record.{Record}
use Rattle.kr_defs.specs.declared.record.Record.TheVariants as kinds
use Rattle.kr_defs.specs.Apply.{topic_kind}
use Rattle.kr_defs.specs.Map.{config_order, get, insert, text_order}
use Rattle.kr_calls.specs.declared.create_topics.CreatableTopicConfig.{CreatableTopicConfig}

-- where a topic's setting stands
abbrev pub topic_setting_key : List ℕ → List ℕ → ConfigKey
topic_setting_key topic key = record { kind = topic_kind; name = topic; key = key }

-- its value among those that were given so far, or else among the configurations
abbrev pub value_before : List (ConfigKey × List ℕ) → List (List ℕ × List ℕ) → List ℕ → List ℕ → Option (List ℕ)
value_before configs given topic key = option_or (get text_order given key) (get config_order configs (topic_setting_key topic key))

-- the value of a setting, which isn't absent in what is accepted
abbrev pub value_of : CreatableTopicConfig → List ℕ
value_of setting = unwrap_or setting.value []

-- the setting has this value already
abbrev pub is_set_already : List (ConfigKey × List ℕ) → List (List ℕ × List ℕ) → List ℕ → CreatableTopicConfig → Bool
is_set_already configs given topic setting = option_map_or (bytes_eq (value_of setting)) (value_before configs given topic setting.name) false

-- what is given so far with the setting, where its value is new
abbrev pub given_with : List (ConfigKey × List ℕ) → List (List ℕ × List ℕ) → List ℕ → CreatableTopicConfig → List (List ℕ × List ℕ)
given_with configs given topic setting = if is_set_already configs given topic setting then given else insert text_order given setting.name (value_of setting)

-- the records so far with that of the setting, where its value is new
abbrev pub records_after : List (ConfigKey × List ℕ) → List (List ℕ × List ℕ) → List ℕ → CreatableTopicConfig → List Record → List Record
records_after configs given topic setting records =
    if is_set_already configs given topic setting
    then records
    else records ++ kinds.Config topic_kind topic setting.name (Some (value_of setting)) ∷ []
