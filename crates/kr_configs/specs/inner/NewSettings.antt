-- The image once a resource's settings have their new values.
use Rattle.std.specs.Prelude.{Bool, not, ◌&&◌, if◌then◌else◌, List, [], ℕ, ℤ, Option, option_and_then, unwrap_or}
use Rattle.std.specs.Ordering.{int_eq}
use Rattle.kr_defs.specs.declared.options.Options.{Options}
use Rattle.kr_defs.specs.declared.partition.Partition.{Partition}
use Rattle.kr_defs.specs.Eligible.{is_enough}
use Rattle.kr_defs.specs.Image.{Image}
use Rattle.kr_defs.specs.Settings.{minimum_key, minimum_of, read_minimum, setting_value}
use Rattle.kr_calls.specs.declared.incremental_alter_configs.ConfigOperation.{ConfigOperation}
use Rattle.kr_calls.specs.declared.incremental_alter_configs.ConfigResource.{ConfigResource}
use Rattle.kr_calls.specs.IncrementalAlterConfigs.{Values, appended, is_append, is_same_value, subtracted, value_now, with_values}

abbrev pub after : Image → ConfigResource → Values → Image
after image entry values = record image { configs = with_values image.configs entry values }

-- the topic's minimum is another, and enough are in sync for the new one
abbrev pub has_enough : Options → Image → Image → List ℕ → Partition → Bool
has_enough options before after topic p =
    not (int_eq (minimum_of options.minimum before topic) (minimum_of options.minimum after topic))
    && is_enough p.replicas p.in_sync (minimum_of options.minimum after topic)

-- the resource's own minimum stays as it is
abbrev pub keeps_minimum : Image → ConfigResource → Values → Bool
keeps_minimum image entry values =
    is_same_value (value_now image entry values minimum_key) (setting_value image entry.kind entry.name minimum_key)

-- the minimum that a resource sets, where it reads
abbrev pub minimum_set : Image → ℤ → List ℕ → Option ℤ
minimum_set image kind name = option_and_then read_minimum (setting_value image kind name minimum_key)

-- the list that an operation on parts makes of the value before
abbrev pub list_of_parts : ConfigOperation → List ℕ → List ℕ
list_of_parts o before = if is_append o then appended before (unwrap_or o.value []) else subtracted before (unwrap_or o.value [])
