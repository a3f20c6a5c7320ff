-- What a record of the kind tells.
use Rattle.std.specs.Prelude.{ℕ, ℤ, List, Option, Some, None, Bool, true}
use Rattle.kr_defs.specs.declared.partition.Partition.{Partition}
use Rattle.kr_defs.specs.declared.record.Record.{Record}
use Rattle.kr_defs.specs.declared.record.Record.TheVariants as kinds

abbrev pub id_in : Option Record → Option ℕ
id_in None = None
id_in (Some (kinds.Topic name id)) = Some id
id_in (Some _) = None

abbrev pub name_in : Option Record → Option (List ℕ)
name_in None = None
name_in (Some (kinds.Topic name id)) = Some name
name_in (Some _) = None

abbrev pub partition_in : Option Record → Option (ℤ × Partition)
partition_in None = None
partition_in (Some (kinds.Partition index topic state)) = Some (index, state)
partition_in (Some _) = None

-- the broker is fenced, or there is none
abbrev pub is_offline_in : Option Record → Bool
is_offline_in None = true
is_offline_in (Some (kinds.RegisterBroker id state)) = state.fenced
is_offline_in (Some _) = true
