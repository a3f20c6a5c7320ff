-- Plans by computation.
use Rattle.std.specs.Prelude.{◌≡◌, ℕ, ℤ, pos, negsuc, false, true, List, [], ◌∷◌, None, codes}
use Rattle.std.proofs.Common.{refl}
use Rattle.kr_defs.specs.declared.broker.Broker.{Broker}
use Rattle.kr_defs.specs.declared.partition.Partition.{Partition}
use Rattle.kr_defs.specs.Image.{Image}
use Rattle.kr_balance.specs.Plan.{plan}

abbrev broker : Broker
broker = record { epoch = pos 0; incarnation = 100; endpoints = []; features = []; rack = None; fenced = false; stopping = false }

-- brokers 1, 2 and 3
abbrev cluster : Broker → List ((ℕ × ℤ) × Partition) → Image
cluster first partitions = record {
  brokers = (pos 1, first) ∷ (pos 2, broker) ∷ (pos 3, broker) ∷ [];
  topics = (codes "t", 77) ∷ (codes "u", 55) ∷ [];
  partitions = partitions;
  configs = [];
  features = [];
}

abbrev led_by : ℤ → List ℤ → Partition
led_by leader replicas = record {
  replicas = replicas;
  in_sync = replicas;
  eligible = [];
  last_known = [];
  removing = [];
  adding = [];
  leader = leader;
  recovery = pos 0;
  leader_epoch = pos 0;
  partition_epoch = pos 0;
}

-- broker 1 should lead, and broker 2 does
abbrev follows : Partition
follows = led_by (pos 2) (pos 1 ∷ pos 2 ∷ [])

abbrev leads : Partition
leads = led_by (pos 1) (pos 1 ∷ pos 2 ∷ [])

abbrev one : Partition → Image
one p = cluster broker (((77, pos 0), p) ∷ [])

-- ---- one partition

low : plan (one follows) 10 ≡ (codes "t", pos 0) ∷ []
low = refl

lowest : plan (one follows) 0 ≡ (codes "t", pos 0) ∷ []
lowest = refl

nearly_all : plan (one follows) 99 ≡ (codes "t", pos 0) ∷ []
nearly_all = refl

-- of 100 per cent no more can be imbalanced
high : plan (one follows) 100 ≡ []
high = refl

led : plan (one leads) 0 ≡ []
led = refl

-- nobody leads: the first replica should
leaderless : plan (one (record follows { leader = negsuc 0 })) 10 ≡ (codes "t", pos 0) ∷ []
leaderless = refl

-- ---- what an election wouldn't give back

fenced : plan (cluster (record broker { fenced = true }) (((77, pos 0), follows) ∷ [])) 0 ≡ []
fenced = refl

stopping : plan (cluster (record broker { stopping = true }) (((77, pos 0), follows) ∷ [])) 0 ≡ []
stopping = refl

not_in_sync : plan (one (record follows { in_sync = pos 2 ∷ [] })) 0 ≡ []
not_in_sync = refl

removing : plan (one (record follows { removing = pos 2 ∷ [] })) 0 ≡ []
removing = refl

-- ---- of a hundred

-- a partition under reassignment counts among those that prefer the broker: one of two is half
half : Image
half = cluster broker (((77, pos 0), follows) ∷ ((77, pos 1), record follows { removing = pos 2 ∷ [] }) ∷ [])

at_half : plan half 50 ≡ []
unfolding half
at_half = refl

below_half : plan half 49 ≡ (codes "t", pos 0) ∷ []
unfolding half
below_half = refl

-- another broker's partitions don't count: of three one is imbalanced, of broker 1 all are
alone : Image
alone = cluster broker (((55, pos 0), led_by (pos 3) (pos 3 ∷ pos 1 ∷ [])) ∷ ((77, pos 0), follows) ∷ ((77, pos 1), led_by (pos 3) (pos 3 ∷ pos 2 ∷ [])) ∷ [])

of_the_broker : plan alone 50 ≡ (codes "t", pos 0) ∷ []
unfolding alone
of_the_broker = refl

-- walking order is by the topic's name, not by its id; broker 3, of which one of two is imbalanced, isn't above
two_brokers : Image
two_brokers =
    cluster broker (((55, pos 0), follows) ∷ ((77, pos 0), follows) ∷ ((77, pos 1), led_by (pos 2) (pos 3 ∷ pos 2 ∷ [])) ∷ ((77, pos 2), led_by (pos 3) (pos 3 ∷ pos 2 ∷ [])) ∷ [])

in_order : plan two_brokers 50 ≡ (codes "t", pos 0) ∷ (codes "u", pos 0) ∷ []
unfolding two_brokers
in_order = refl

all_brokers : plan two_brokers 49 ≡ (codes "t", pos 0) ∷ (codes "t", pos 1) ∷ (codes "u", pos 0) ∷ []
unfolding two_brokers
all_brokers = refl
