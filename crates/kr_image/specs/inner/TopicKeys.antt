-- The keys that stand around those of one topic.
use Rattle.std.specs.Prelude.{◌+ℤ◌, pos, ℕ, ℤ, List, [], ◌∷◌, ◌++◌}
use Rattle.kr_defs.specs.declared.limits.TheConstants.{LAST_INDEX}
use Rattle.kr_defs.specs.declared.record.ConfigKey.{ConfigKey}
use Rattle.kr_defs.specs.Apply.{topic_kind}

-- the least key above all settings of the topic
abbrev pub settings_end : List ℕ → ConfigKey
settings_end name = record { kind = topic_kind; name = name ++ 0 ∷ []; key = [] }

-- the least key above all partitions of the topic
abbrev pub partitions_end : ℕ → ℕ × ℤ
partitions_end topic = (topic, LAST_INDEX +ℤ pos 1)
