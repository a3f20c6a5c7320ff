-- The text of an image, a line an entry, in the order of its records (this project's own; fields by Kafka's words where it
-- has them: isr for replicas in sync).
use Rattle.std.specs.Prelude.{ℕ, ℤ, pos, Bool, true, false, not, ◌&&◌, ◌==◌, nat_lt, nat_le, ◌+◌, ◌/◌, ◌%◌, List, [], ◌∷◌, ◌++◌, length, flat_map, Option, Some, None, if◌then◌else◌, codes}
use Rattle.std.specs.Fmt.{signed_decimal, decimal}
use Rattle.std.specs.Int.{w128, to_be_bytes}
use Rattle.uuid.specs.Text.{hyphenated_text, lower}
use Rattle.kr_defs.specs.declared.broker.Broker.{Broker}
use Rattle.kr_defs.specs.declared.partition.Partition.{Partition}
use Rattle.kr_defs.specs.declared.record.ConfigKey.{ConfigKey}
use Rattle.kr_defs.specs.Image.{Image}
use Rattle.kr_defs.specs.Walk.{of_topic}

-- ---- texts

-- a visible byte of ASCII but for `"` and `\`
abbrev pub is_plain : ℕ → Bool
is_plain byte = nat_le 32 byte && nat_le byte 126 && not (byte == 34) && not (byte == 92)

abbrev pub hex_digit : ℕ → ℕ
hex_digit n = if nat_lt n 10 then 48 + n else 87 + n

abbrev pub shown_byte : ℕ → List ℕ
shown_byte byte = if is_plain byte then byte ∷ [] else codes "\\x" ++ (hex_digit (byte / 16) ∷ hex_digit (byte % 16) ∷ [])

abbrev pub quoted : List ℕ → List ℕ
quoted text = codes "\"" ++ (flat_map shown_byte text ++ codes "\"")

abbrev pub rack_text : Option (List ℕ) → List ℕ
rack_text None = codes "-"
rack_text (Some rack) = quoted rack

-- ---- numbers

abbrev pub further_id : ℤ → List ℕ
further_id id = codes "," ++ signed_decimal id

-- commas between them
abbrev pub ids_text : List ℤ → List ℕ
ids_text [] = codes "-"
ids_text (id ∷ ids) = signed_decimal id ++ flat_map further_id ids

abbrev pub id_text : ℕ → List ℕ
id_text id = hyphenated_text lower (to_be_bytes w128 id)

-- ---- lines

abbrev pub offset_line : ℤ → List ℕ
offset_line offset = codes "offset " ++ (signed_decimal offset ++ codes "\n")

abbrev pub feature_line : List ℕ × ℤ → List ℕ
feature_line (name, level) = codes "feature " ++ (quoted name ++ (codes " " ++ (signed_decimal level ++ codes "\n")))

-- may lead; began to shut down; registered alone
abbrev pub state_word : Broker → List ℕ
state_word b = if b.fenced then codes "fenced" else if b.stopping then codes "stopping" else codes "active"

-- up to the rack
abbrev pub registration_line : ℤ → Broker → List ℕ
registration_line id b =
    codes "broker " ++ (signed_decimal id ++ (codes " epoch " ++ (signed_decimal b.epoch ++ (codes " " ++ (state_word b ++ codes " rack ")))))

abbrev pub broker_line : ℤ × Broker → List ℕ
broker_line (id, b) =
    registration_line id b ++ (rack_text b.rack ++ (codes " listeners " ++ (decimal (length b.endpoints)
    ++ (codes " features " ++ (decimal (length b.features) ++ codes "\n")))))

abbrev pub topic_line : List ℕ × ℕ → List ℕ
topic_line (name, id) = codes "topic " ++ (quoted name ++ (codes " " ++ (id_text id ++ codes "\n")))

-- the replicas of each kind
abbrev pub lists_text : Partition → List ℕ
lists_text p =
    codes " replicas " ++ (ids_text p.replicas ++ (codes " isr " ++ (ids_text p.in_sync
    ++ (codes " eligible " ++ (ids_text p.eligible ++ (codes " last " ++ (ids_text p.last_known
    ++ (codes " adding " ++ (ids_text p.adding ++ (codes " removing " ++ ids_text p.removing))))))))))

abbrev pub leadership_text : Partition → List ℕ
leadership_text p =
    codes " leader " ++ (signed_decimal p.leader ++ (codes " recovery " ++ (signed_decimal p.recovery
    ++ (codes " epochs " ++ (signed_decimal p.leader_epoch ++ (codes " " ++ (signed_decimal p.partition_epoch ++ codes "\n")))))))

-- of the topic of this name
unfoldable pub partition_line : List ℕ → (ℕ × ℤ) × Partition → List ℕ
partition_line name ((topic, index), p) =
    codes "partition " ++ (quoted name ++ (codes " " ++ (signed_decimal index ++ (lists_text p ++ leadership_text p))))

-- up to the value
abbrev pub config_key_text : ConfigKey → List ℕ
config_key_text key = codes "config " ++ (signed_decimal key.kind ++ (codes " " ++ (quoted key.name ++ (codes " " ++ quoted key.key))))

abbrev pub config_line : ConfigKey × List ℕ → List ℕ
config_line (key, value) = config_key_text key ++ (codes " " ++ (quoted value ++ codes "\n"))

-- ---- the whole

-- a topic, and its partitions by index
abbrev pub topic_lines : Image → List ℕ × ℕ → List ℕ
topic_lines image (name, id) = topic_line (name, id) ++ flat_map (partition_line name) (of_topic id image.partitions)

unfoldable pub dump_text : ℤ → Image → List ℕ
dump_text offset image =
    offset_line offset
    ++ (flat_map feature_line image.features
    ++ (flat_map broker_line image.brokers
    ++ (flat_map (topic_lines image) image.topics
    ++ flat_map config_line image.configs)))
