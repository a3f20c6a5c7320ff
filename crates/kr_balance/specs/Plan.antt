-- Which partitions are to be given back to their preferred leaders (after leader.imbalance.per.broker.percentage of Kafka's
-- controller; that nothing is planned which an election couldn't give back is this project's own).
use Rattle.std.specs.Prelude.{ℕ, ℤ, negsuc, ◌*◌, nat_lt, Bool, not, ◌&&◌, List, length, filter, map, slice_get, unwrap_or}
use Rattle.std.specs.Ordering.{int_eq}
use Rattle.kr_defs.specs.declared.partition.Partition.{Partition}
use Rattle.kr_defs.specs.Brokers.{active}
use Rattle.kr_defs.specs.Ids.{has}
use Rattle.kr_defs.specs.Image.{Image}
use Rattle.kr_defs.specs.Partition.{is_moving}
use Rattle.kr_defs.specs.Walk.{Walked, walk}

-- the first of the replicas
abbrev pub preferred_leader : Partition → ℤ
preferred_leader p = unwrap_or (slice_get p.replicas 0) (negsuc 0)

-- its preferred leader doesn't lead, though it is in sync and active, and nothing is being added or removed
abbrev pub is_imbalanced : Image → Partition → Bool
is_imbalanced image p =
    not (int_eq p.leader (preferred_leader p)) && has p.in_sync (preferred_leader p)
    && has (active image) (preferred_leader p) && not (is_moving p)

-- of all partitions those that prefer the broker, under reassignment or not, and of these the imbalanced ones
abbrev pub prefers_broker : ℤ → (ℕ × ℤ) × Partition → Bool
prefers_broker broker e = int_eq (preferred_leader e.1) broker

abbrev pub is_imbalanced_of : Image → ℤ → (ℕ × ℤ) × Partition → Bool
is_imbalanced_of image broker e = prefers_broker broker e && is_imbalanced image e.1

abbrev pub preferring : Image → ℤ → ℕ
preferring image broker = length (filter (prefers_broker broker) image.partitions)

abbrev pub imbalanced : Image → ℤ → ℕ
imbalanced image broker = length (filter (is_imbalanced_of image broker) image.partitions)

-- more than so many of a hundred of those that prefer the broker are imbalanced
abbrev pub is_above_percentage : Image → ℕ → ℤ → Bool
is_above_percentage image percent broker = nat_lt (percent * preferring image broker) (imbalanced image broker * 100)

abbrev pub is_planned : Image → ℕ → Walked → Bool
is_planned image percent w = is_imbalanced image w.partition && is_above_percentage image percent (preferred_leader w.partition)

-- the imbalanced partitions of all brokers that are above, in walking order
abbrev pub planned : Image → ℕ → List Walked
planned image percent = filter (is_planned image percent) (walk image)

-- a partition by its topic's name and its index
abbrev pub by_name : Walked → List ℕ × ℤ
by_name w = (w.topic, w.key.1)

abbrev pub plan : Image → ℕ → List (List ℕ × ℤ)
plan image percent = map by_name (planned image percent)
