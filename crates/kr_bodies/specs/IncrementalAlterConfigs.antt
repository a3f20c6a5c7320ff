-- IncrementalAlterConfigs, key 44, version 1, after Kafka's published schemas: what its bytes and those of its reply stand for, and their layouts.
use Rattle.std.specs.Prelude.{List, ℕ, pos, None, refl}
use Rattle.std.specs.Int.{w16, w32, w8}
use Rattle.kr_wire.specs.Grammar.{◌⌢◌, IsSigned, IsBool, IsText, IsTextOrNull, IsNull, IsList, NoTags}
use Rattle.kr_wire.specs.Schema.{Schema, ◌▸◌, Int16, Int32, Boolean, Text, TextOrNull, Array, Constant, Structure, End, Int8}
use Rattle.kr_calls.specs.declared.incremental_alter_configs.ConfigOperation.{ConfigOperation}
use Rattle.kr_calls.specs.declared.incremental_alter_configs.ConfigResource.{ConfigResource}
use Rattle.kr_calls.specs.declared.incremental_alter_configs.IncrementalAlterConfigs.{IncrementalAlterConfigs}
use Rattle.kr_calls.specs.declared.incremental_alter_configs.ConfigResponse.{ConfigResponse}
use Rattle.kr_calls.specs.declared.incremental_alter_configs.IncrementalAlterConfigsReply.{IncrementalAlterConfigsReply}

-- ---- what bytes stand for

abbrev pub IsConfigOperation : ConfigOperation → List ℕ → Type 0
IsConfigOperation c = IsText c.name ⌢ IsSigned w8 c.operation ⌢ IsTextOrNull c.value ⌢ NoTags

abbrev pub IsConfigResource : ConfigResource → List ℕ → Type 0
IsConfigResource r = IsSigned w8 r.kind ⌢ IsText r.name ⌢ IsList IsConfigOperation r.configs ⌢ NoTags

abbrev pub IsIncrementalAlterConfigs : IncrementalAlterConfigs → List ℕ → Type 0
IsIncrementalAlterConfigs q = IsList IsConfigResource q.resources ⌢ IsBool q.validate_only ⌢ NoTags

-- error, no message, type, name
abbrev pub IsConfigResponse : ConfigResponse → List ℕ → Type 0
IsConfigResponse r = IsSigned w16 r.error ⌢ IsNull ⌢ IsSigned w8 r.kind ⌢ IsText r.name ⌢ NoTags

-- no throttling, responses
abbrev pub IsIncrementalAlterConfigsReply : IncrementalAlterConfigsReply → List ℕ → Type 0
IsIncrementalAlterConfigsReply p = IsSigned w32 (pos 0) ⌢ IsList IsConfigResponse p.responses ⌢ NoTags

-- ---- the order in which they are read and written

abbrev pub config_operation : Schema ConfigOperation
config_operation = Structure (Text ▸ Int8 ▸ TextOrNull ▸ End)
    (λ (name, (operation, (value, end))). record { name = name; operation = operation; value = value })
    (λ c. (c.name, (c.operation, (c.value, tt)))) (λ v. refl) (λ c. refl)

abbrev pub config_resource : Schema ConfigResource
config_resource = Structure (Int8 ▸ Text ▸ Array config_operation ▸ End)
    (λ (kind, (name, (configs, end))). record { kind = kind; name = name; configs = configs })
    (λ r. (r.kind, (r.name, (r.configs, tt)))) (λ v. refl) (λ r. refl)

abbrev pub incremental_alter_configs : Schema IncrementalAlterConfigs
incremental_alter_configs = Structure (Array config_resource ▸ Boolean ▸ End)
    (λ (resources, (validate_only, end)). record { resources = resources; validate_only = validate_only })
    (λ q. (q.resources, (q.validate_only, tt))) (λ v. refl) (λ q. refl)

-- error, no message, type, name
abbrev pub config_response : Schema ConfigResponse
config_response = Structure (Int16 ▸ Constant None TextOrNull ▸ Int8 ▸ Text ▸ End)
    (λ (error, (_, (kind, (name, end)))). record { error = error; kind = kind; name = name })
    (λ r. (r.error, (tt, (r.kind, (r.name, tt))))) (λ v. refl) (λ r. refl)

-- no throttling, responses
abbrev pub incremental_alter_configs_reply : Schema IncrementalAlterConfigsReply
incremental_alter_configs_reply = Structure (Constant (pos 0) Int32 ▸ Array config_response ▸ End)
    (λ (_, (responses, end)). record { responses = responses })
    (λ p. (tt, (p.responses, tt))) (λ v. refl) (λ p. refl)
