-- Partitions: which are well formed (KIP-631's fields; the rules are this project's own).
use Rattle.std.specs.Prelude.{Bool, not, ◌&&◌, ◌||◌, ◌==◌, List, length, nat_le, nat_lt, ℤ, pos, negsuc, int_lt}
use Rattle.std.specs.Ordering.{int_eq}
use Rattle.std.specs.List.{list_all}
use Rattle.kr_defs.specs.declared.partition.Partition.{Partition}
use Rattle.kr_defs.specs.declared.limits.TheConstants.{MOST_REPLICAS, MOST_TARGETS}
use Rattle.kr_defs.specs.Ids.{has, is_distinct, is_within, are_apart, without}

-- not below 0
abbrev pub is_natural : ℤ → Bool
is_natural number = not (int_lt number (pos 0))

-- some of the replicas, each once
abbrev pub is_part : List ℤ → List ℤ → Bool
is_part ids replicas = is_distinct ids && is_within ids replicas

-- KIP-455: the replicas before the reassignment that runs
abbrev pub original : Partition → List ℤ
original p = without p.replicas p.adding

-- KIP-455: the replicas that the reassignment leads to
abbrev pub target : Partition → List ℤ
target p = without p.replicas p.removing

-- 1 to 64 replicas, each once, none negative
abbrev pub are_replicas : List ℤ → Bool
are_replicas replicas =
    nat_lt 0 (length replicas) && nat_le (length replicas) MOST_REPLICAS
    && is_distinct replicas && list_all is_natural replicas

-- KIP-455: the replicas that a request may ask for, 1 to 32, each once
abbrev pub are_targets : List ℤ → Bool
are_targets ids = nat_lt 0 (length ids) && nat_le (length ids) MOST_TARGETS && is_distinct ids

-- a reassignment adds and removes other replicas, and keeps one before it and one after it
abbrev pub is_reassignment : List ℤ → List ℤ → List ℤ → Bool
is_reassignment replicas adding removing =
    is_part adding replicas && is_part removing replicas && are_apart adding removing
    && not (is_within replicas adding) && not (is_within replicas removing)

-- a reassignment runs
abbrev pub is_moving : Partition → Bool
is_moving p = not (length p.adding == 0) || not (length p.removing == 0)

-- KIP-966: in sync, eligible and last known are three parts of the replicas with no common member
abbrev pub are_parts : List ℤ → List ℤ → List ℤ → List ℤ → Bool
are_parts replicas in_sync eligible last_known =
    is_part in_sync replicas && is_part eligible replicas && is_part last_known replicas
    && are_apart in_sync eligible && are_apart in_sync last_known && are_apart eligible last_known

-- -1, or a replica that is in sync
abbrev pub is_leader : ℤ → List ℤ → Bool
is_leader leader in_sync = int_eq leader (negsuc 0) || has in_sync leader

-- 0: recovered, 1: recovering from an unclean election
abbrev pub is_recovery : ℤ → Bool
is_recovery recovery = int_eq recovery (pos 0) || int_eq recovery (pos 1)

-- both epochs are at least 0
abbrev pub has_epochs : Partition → Bool
has_epochs p = is_natural p.leader_epoch && is_natural p.partition_epoch

unfoldable pub is_well_formed : Partition → Bool
is_well_formed p =
    are_replicas p.replicas
    && is_reassignment p.replicas p.adding p.removing
    && are_parts p.replicas p.in_sync p.eligible p.last_known
    && is_leader p.leader p.in_sync && is_recovery p.recovery && has_epochs p
