-- The order in which the records of an image are read: features by name, brokers by id, topics by name with the
-- partitions of each by index behind it, settings by type, resource name and key (this project's own).
use Rattle.std.specs.Prelude.{ℕ, ℤ, pos, Bool, true, false, ◌==◌, List, [], ◌∷◌, Option, Some, None, if◌then◌else◌}
use Rattle.std.specs.declared.cmp.Ordering.{Ordering}
use Rattle.std.specs.Option.{option_and_then, option_cmp, option_map_or}
use Rattle.std.specs.Ordering.{nat_cmp, int_cmp, is_lt, ordering_then}
use Rattle.kr_defs.specs.declared.record.Record.{Record}
use Rattle.kr_defs.specs.declared.record.Record.TheVariants as kinds
use Rattle.kr_defs.specs.Map.{text_order}

-- where a record stands among those of an image; what its kind hasn't is 0, empty or none
pub record Rank : Type 0 where
  -- 0 features, 1 brokers, 2 topics, 3 settings
  pub section : ℕ
  pub kind : ℤ
  pub name : List ℕ
  pub key : List ℕ
  pub number : Option ℤ

-- none comes before a number
abbrev pub rank_order : Rank → Rank → Ordering
rank_order x y =
    ordering_then (nat_cmp x.section y.section)
    (ordering_then (int_cmp x.kind y.kind)
    (ordering_then (text_order x.name y.name)
    (ordering_then (text_order x.key y.key) (option_cmp int_cmp x.number y.number))))

-- a name or a number in one of the first three sections
abbrev pub named : ℕ → List ℕ → Option ℤ → Rank
named section name number = record { section = section; kind = pos 0; name = name; key = []; number = number }

-- A partition stands with the last topic that was read, if it is that topic's.
abbrev pub rank_of : Option (List ℕ × ℕ) → Record → Option Rank
rank_of last (kinds.FeatureLevel name level) = Some (named 0 name None)
rank_of last (kinds.RegisterBroker id state) = Some (named 1 [] (Some id))
rank_of last (kinds.Topic name id) = Some (named 2 name None)
rank_of last (kinds.Partition index topic state) =
    option_and_then (λ t. if t.1 == topic then Some (named 2 t.0 (Some index)) else None) last
rank_of last (kinds.Config kind name key value) = Some (record { section = 3; kind = kind; name = name; key = key; number = None })
rank_of last _ = None

-- what was read so far: the rank of the last record, and the last topic
pub record ReadSoFar : Type 0 where
  pub rank : Option Rank
  pub topic : Option (List ℕ × ℕ)

abbrev pub nothing_seen : ReadSoFar
nothing_seen = record { rank = None; topic = None }

-- the last topic once the record is read
abbrev pub topic_after : Option (List ℕ × ℕ) → Record → Option (List ℕ × ℕ)
topic_after last (kinds.Topic name id) = Some (name, id)
topic_after last _ = last

abbrev pub seen_with : ReadSoFar → Record → ReadSoFar
seen_with seen r = record { rank = rank_of seen.topic r; topic = topic_after seen.topic r }

-- the record has a rank, and it is later than that of the record before
abbrev pub is_later : ReadSoFar → Record → Bool
is_later seen r = option_map_or (λ rank. option_map_or (λ before. is_lt (rank_order before rank)) seen.rank true) (rank_of seen.topic r) false

-- each record is later than the one before it
abbrev pub are_in_order : ReadSoFar → List Record → Bool
are_in_order seen [] = true
are_in_order seen (r ∷ records) = if is_later seen r then are_in_order (seen_with seen r) records else false
