-- A small cluster for worked examples: three active brokers and a fenced one, a topic of one partition, and the minimum of
-- replicas in sync as the default of all brokers.
use Rattle.std.specs.Prelude.{ℤ, pos, negsuc, Bool, true, false, [], ◌∷◌, None, codes}
use Rattle.kr_defs.specs.declared.basis.Basis.{Basis}
use Rattle.kr_defs.specs.declared.basis.Contact.{Contact}
use Rattle.kr_defs.specs.declared.broker.Broker.{Broker}
use Rattle.kr_defs.specs.declared.options.Options.{Options}
use Rattle.kr_defs.specs.declared.partition.Partition.{Partition}
use Rattle.kr_defs.specs.declared.partition.PartitionChange.{PartitionChange}
use Rattle.kr_defs.specs.declared.record.ConfigKey.{ConfigKey}
use Rattle.kr_defs.specs.Image.{Image}

abbrev pub broker : ℤ → Bool → Broker
broker epoch fenced = record {
  epoch = epoch;
  incarnation = 100;
  endpoints = [];
  features = [];
  rack = None;
  fenced = fenced;
  stopping = false;
}

-- three replicas, all in sync, led by the first
abbrev pub whole : Partition
whole = record {
  replicas = pos 1 ∷ pos 2 ∷ pos 3 ∷ [];
  in_sync = pos 1 ∷ pos 2 ∷ pos 3 ∷ [];
  eligible = [];
  last_known = [];
  adding = [];
  removing = [];
  leader = pos 1;
  recovery = pos 0;
  leader_epoch = pos 5;
  partition_epoch = pos 7;
}

-- nobody leads, the third replica alone is eligible
abbrev pub leaderless : Partition
leaderless = record whole { in_sync = []; eligible = pos 3 ∷ []; leader = negsuc 0 }

abbrev pub minimum : ConfigKey
minimum = record { kind = pos 4; name = []; key = codes "min.insync.replicas" }

abbrev pub cluster : Partition → Image
cluster p = record {
  brokers = (pos 1, broker (pos 10) false) ∷ (pos 2, broker (pos 11) false) ∷ (pos 3, broker (pos 12) false) ∷ (pos 4, broker (pos 13) true) ∷ [];
  topics = (codes "t.a", 77) ∷ [];
  partitions = ((77, pos 0), p) ∷ [];
  configs = (minimum, codes "2") ∷ [];
  features = [];
}

abbrev pub image : Image
image = cluster whole

abbrev pub options : Options
options = record {
  node = pos 1;
  salt = 7;
  session_ms = 9000;
  partitions = pos 1;
  factor = pos 3;
  minimum = pos 1;
  cluster = codes "c1";
}

abbrev pub contact : ℤ → ℤ → Contact
contact broker offset = record { broker = broker; time = pos 1000; offset = offset }

abbrev pub basis : Basis
basis = record {
  time = pos 2000;
  led = pos 0;
  contacts = contact (pos 1) (pos 20) ∷ contact (pos 2) (pos 21) ∷ contact (pos 3) (pos 22) ∷ [];
  stopping = [];
}

abbrev pub no_change : PartitionChange
no_change = record { in_sync = None; replicas = None; removing = None; adding = None; eligible = None; last_known = None; leader = None; recovery = None }
