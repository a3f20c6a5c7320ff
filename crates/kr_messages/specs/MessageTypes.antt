-- The requests whose messages are known.
use Rattle.std.specs.Prelude.{ℤ, Option, Some, option_map, if◌then◌else◌}
use Rattle.kr_pages.specs.Reading.{is_key}
use Rattle.kr_req.specs.Reading.{served_by}
use Rattle.kr_messages.specs.declared.message_type.ApiMessageType.{ApiMessageType}
use Rattle.kr_messages.specs.declared.message_type.ApiMessageType.TheVariants as types

-- those that are served, and DescribeTopicPartitions (key 75, version 0; KIP-966)
abbrev pub known_by : ℤ → ℤ → Option ApiMessageType
known_by key version =
    if is_key key version then Some types.DescribeTopicPartitions else option_map (λ api. types.Served api) (served_by key version)
