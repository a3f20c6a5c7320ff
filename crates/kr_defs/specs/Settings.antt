-- Kafka's configurations: which keys and values one may have, and the two that are read, with their defaults for all brokers.
use Rattle.std.specs.Prelude.{ℕ, ℤ, pos, Bool, true, false, not, ◌&&◌, ◌||◌, List, [], length, ◌==◌, nat_lt, nat_le, bytes_eq, codes, Option, Some, None, is_some, unwrap_or, option_and_then, if◌then◌else◌}
use Rattle.std.specs.Option.{option_or}
use Rattle.kr_defs.specs.declared.changing.Facts.{Facts}
use Rattle.kr_defs.specs.declared.limits.TheConstants.{GREATEST_BROKER, GREATEST_MINIMUM, LONGEST_KEY, LONGEST_VALUE}
use Rattle.kr_defs.specs.declared.options.Options.{Options}
use Rattle.kr_defs.specs.Brokers.{active}
use Rattle.kr_defs.specs.Map as map
use Rattle.kr_defs.specs.Map.{config_order}
use Rattle.kr_defs.specs.Image.{Image}
use Rattle.kr_defs.specs.Apply.{topic_kind, broker_kind}
use Rattle.kr_defs.specs.Texts.{is_name, decimal_up_to}

abbrev pub minimum_key : List ℕ
minimum_key = codes "min.insync.replicas"

abbrev pub unclean_key : List ℕ
unclean_key = codes "unclean.leader.election.enable"

-- a minimum is a decimal number from 1
abbrev pub read_minimum : List ℕ → Option ℤ
read_minimum value = option_and_then (λ n. if nat_lt 0 n then Some (pos n) else None) (decimal_up_to GREATEST_MINIMUM value)

-- `true` or `false`
abbrev pub read_switch : List ℕ → Option Bool
read_switch value =
    if bytes_eq value (codes "true") then Some true else
    if bytes_eq value (codes "false") then Some false else None

-- the value of a setting
abbrev pub setting_value : Image → ℤ → List ℕ → List ℕ → Option (List ℕ)
setting_value image kind name key = map.get config_order image.configs (record { kind = kind; name = name; key = key })

-- the topic's own setting where it reads, else the default of all brokers where that reads
abbrev pub setting : {X : Type 0} → (List ℕ → Option X) → List ℕ → Image → List ℕ → Option X
setting read key image topic =
    option_or (option_and_then read (setting_value image topic_kind topic key)) (option_and_then read (setting_value image broker_kind [] key))

-- how many replicas have to be in sync, where the options say the last number
abbrev pub minimum_of : ℤ → Image → List ℕ → ℤ
minimum_of otherwise image topic = unwrap_or (setting read_minimum minimum_key image topic) otherwise

-- a replica that isn't in sync may be elected
abbrev pub is_unclean : Image → List ℕ → Bool
is_unclean image topic = unwrap_or (setting read_switch unclean_key image topic) false

-- what an election of the topic follows from, with these brokers active
abbrev pub facts_with : ℤ → Image → List ℤ → List ℕ → Facts
facts_with otherwise image active topic =
    record { active = active; unclean = is_unclean image topic; minimum = minimum_of otherwise image topic }

-- the same with the image's active brokers
abbrev pub facts_of : Options → Image → List ℕ → Facts
facts_of options image topic = facts_with options.minimum image (active image) topic

-- ---- what a request may set (the rules for keys and the length of values are this project's own)

-- 1 to 249 ASCII letters, digits, `.`, `_` and `-`
abbrev pub is_setting_key : List ℕ → Bool
is_setting_key key = is_name LONGEST_KEY key

-- the value isn't too long, and reads where the key is one that is read
abbrev pub is_setting_value : List ℕ → List ℕ → Bool
is_setting_value key value =
    nat_le (length value) LONGEST_VALUE
    && (not (bytes_eq key minimum_key) || is_some (read_minimum value))
    && (not (bytes_eq key unclean_key) || is_some (read_switch value))

-- Kafka's topic configurations of type list
abbrev pub is_list_key : List ℕ → Bool
is_list_key key =
    bytes_eq key (codes "cleanup.policy")
    || bytes_eq key (codes "leader.replication.throttled.replicas")
    || bytes_eq key (codes "follower.replication.throttled.replicas")

-- a broker resource is named by nothing, for all brokers, or by a broker's id
abbrev pub is_broker_name : List ℕ → Bool
is_broker_name name = length name == 0 || is_some (decimal_up_to GREATEST_BROKER name)
