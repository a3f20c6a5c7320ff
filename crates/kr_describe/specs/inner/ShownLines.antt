-- Lines as entries of their topics, and these put together. This project's own.
use Rattle.std.specs.Prelude.{ℕ, ℤ, Bool, false, pos, negsuc, int_lt, ◌-ℤ◌, List, [], ◌∷◌, ◌++◌, filter, flat_map, fold, map, slice_get, take, Option, Some, None, if◌then◌else◌}
use Rattle.std.specs.declared.cmp.Ordering.{Ordering}
use Rattle.std.specs.declared.cmp.Ordering.TheVariants.{Less, Equal, Greater}
use Rattle.std.specs.Option.{option_map, option_map_or, unwrap_or}
use Rattle.kr_defs.specs.declared.partition.Partition.{Partition}
use Rattle.kr_defs.specs.Image.{Image}
use Rattle.kr_defs.specs.Map.{above, get, text_order}
use Rattle.kr_defs.specs.Walk.{rest_of_topic, walked}
use Rattle.kr_calls.specs.declared.errors.TheConstants.{UNKNOWN_TOPIC_OR_PARTITION}
use Rattle.kr_calls.specs.Metadata.{leader_error}
use Rattle.kr_pages.specs.declared.describe.LineKey.{LineKey}
use Rattle.kr_pages.specs.declared.describe.Described.{Described}
use Rattle.kr_pages.specs.declared.describe.DescribedPart.{DescribedPart}
use Rattle.kr_pages.specs.declared.describe.DescribedTopic.{DescribedTopic}
use Rattle.kr_pages.specs.Lines.{Line, line_of_partition, name_lines}
use Rattle.kr_pages.specs.Pages.{entry_of_topic, has_name, is_from}

-- ---- one line

-- the offline replicas are given
abbrev pub part_with : ℤ → Partition → List ℤ → DescribedPart
part_with index p offline = record {
  error = leader_error p;
  index = index;
  leader = p.leader;
  leader_epoch = p.leader_epoch;
  replicas = p.replicas;
  in_sync = p.in_sync;
  eligible = p.eligible;
  last_known = p.last_known;
  offline = offline;
}

abbrev pub part_entry : List ℕ → ℕ → DescribedPart → DescribedTopic
part_entry name id part = record { error = pos 0; name = Some name; id = id; parts = part ∷ [] }

-- of a topic without partitions, or of a name that no topic has
abbrev pub bare_entry : List ℕ → Option ℕ → DescribedTopic
bare_entry name id = record {
  error = option_map_or (λ (i : ℕ). pos 0) id UNKNOWN_TOPIC_OR_PARTITION;
  name = Some name;
  id = unwrap_or id 0;
  parts = [];
}

-- ---- many

abbrev pub line_entries : Image → List Line → List DescribedTopic
line_entries image those = map (entry_of_topic image) those

-- the partitions of a topic behind an index
abbrev pub part_entries : Image → List ℕ → ℕ → ℤ → List DescribedTopic
part_entries image name id index = map (λ (e : (ℕ × ℤ) × Partition). entry_of_topic image (line_of_partition (walked name e))) (rest_of_topic (id, index) image.partitions)

-- the index behind which all from an index on stand; -1 where it is below 0, as a line without a partition stands there
abbrev pub index_before : ℤ → ℤ
index_before index = if int_lt index (pos 0) then negsuc 0 else index -ℤ pos 1

-- the lines of a name from an index on
abbrev pub name_entries : Image → List ℕ → ℤ → List DescribedTopic
name_entries image name index = line_entries image (filter (is_from (Some (record { topic = name; index = index }))) (name_lines image name))

-- the lines of names from a cursor on
abbrev pub names_entries : Image → LineKey → List (List ℕ) → List DescribedTopic
names_entries image cursor names = line_entries image (filter (is_from (Some cursor)) (flat_map (name_lines image) names))

-- the index from which on the lines of a name aren't before the cursor; none where all of them are
abbrev pub index_after : Ordering → ℤ → Option ℤ
index_after Less index = None
index_after Equal index = Some index
index_after Greater index = Some (negsuc 0)

abbrev pub first_index : List ℕ → LineKey → Option ℤ
first_index name cursor = index_after (text_order name cursor.topic) cursor.index

-- all lines of the topics behind a name
abbrev pub topics_entries : Image → List ℕ → List DescribedTopic
topics_entries image name = flat_map (λ (e : List ℕ × ℕ). line_entries image (name_lines image e.0)) (above text_order image.topics (Some name))

-- the cursor, or the one before all lines
abbrev pub cursor_or_first : Option LineKey → LineKey
cursor_or_first None = record { topic = []; index = negsuc 0 }
cursor_or_first (Some cursor) = cursor

-- the lines of the cursor's own topic, where there is one
abbrev pub own_entries : Image → LineKey → List DescribedTopic
own_entries image cursor = option_map_or (λ (id : ℕ). name_entries image cursor.topic cursor.index) (get text_order image.topics cursor.topic) []

-- ---- put together

abbrev pub is_of_topic : Option (List ℕ) → DescribedTopic → Bool
is_of_topic None last = false
is_of_topic (Some name) last = has_name name last

-- an entry of the same topic as the last one joins it
abbrev pub with_line_entry : List DescribedTopic → DescribedTopic → List DescribedTopic
with_line_entry [] entry = entry ∷ []
with_line_entry (last ∷ []) entry =
    if is_of_topic entry.name last then record last { parts = last.parts ++ entry.parts } ∷ [] else last ∷ entry ∷ []
with_line_entry (first ∷ second ∷ rest) entry = first ∷ with_line_entry (second ∷ rest) entry

-- where an entry of one line stands
abbrev pub key_of_entry : DescribedTopic → LineKey
key_of_entry entry = record {
  topic = unwrap_or entry.name [];
  index = option_map_or (λ (part : DescribedPart). part.index) (slice_get entry.parts 0) (negsuc 0);
}

-- the first entries put together, and where the one behind them stands
abbrev pub described_of : List DescribedTopic → ℕ → Described
described_of entries limit = record {
  topics = fold with_line_entry [] (take limit entries);
  next = option_map key_of_entry (slice_get entries limit);
}
