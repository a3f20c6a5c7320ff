-- A line of each form, by computation.
use Rattle.std.specs.Prelude.{◌≡◌, ℤ, pos, negsuc, Bool, true, false, List, [], ◌∷◌, Option, Some, None, codes}
use Rattle.std.proofs.Common.{refl}
use Rattle.kr_defs.specs.declared.broker.Broker.{Broker}
use Rattle.kr_defs.specs.declared.partition.Partition.{Partition}
use Rattle.std.specs.Fmt.{digits}
use Rattle.uuid.proofs.OnLiterals.{uuid_on_literals}
use Rattle.kr_dump.specs.DumpText.{offset_line, feature_line, broker_line, topic_line, partition_line, config_line, quoted, state_word}

offset : offset_line (pos 12) ≡ codes "offset 12\n"
unfolding digits
offset = refl

feature : feature_line (codes "name", pos 1) ≡ codes "feature \"name\" 1\n"
unfolding digits
feature = refl

abbrev broker : Bool → Bool → Broker
broker fenced stopping = record {
  epoch = pos 0;
  incarnation = 9;
  endpoints = record { name = codes "l"; host = codes "h"; port = 9092; protocol = pos 0 } ∷ [];
  features = [];
  rack = None;
  fenced = fenced;
  stopping = stopping;
}

active_broker : broker_line (pos 1, broker false false) ≡ codes "broker 1 epoch 0 active rack - listeners 1 features 0\n"
unfolding digits
active_broker = refl

fenced_first : state_word (broker true true) ≡ codes "fenced"
fenced_first = refl

stopping_else : state_word (broker false true) ≡ codes "stopping"
stopping_else = refl

-- the salt 7 and the number 11
topic : topic_line (codes "t", 129127208515966861323) ≡ codes "topic \"t\" 00000000-0000-0007-0000-00000000000b\n"
unfolding uuid_on_literals
topic = refl

abbrev partition : Partition
partition = record {
  replicas = pos 1 ∷ pos 2 ∷ pos 3 ∷ [];
  in_sync = pos 1 ∷ pos 2 ∷ [];
  eligible = [];
  last_known = [];
  adding = [];
  removing = [];
  leader = pos 1;
  recovery = pos 0;
  leader_epoch = pos 0;
  partition_epoch = pos 1;
}

partition_one : partition_line (codes "t") ((11, pos 0), partition)
    ≡ codes "partition \"t\" 0 replicas 1,2,3 isr 1,2 eligible - last - adding - removing - leader 1 recovery 0 epochs 0 1\n"
unfolding partition_line digits
partition_one = refl

nobody_leads : partition_line (codes "t") ((11, pos 0), record partition { leader = negsuc 0 })
    ≡ codes "partition \"t\" 0 replicas 1,2,3 isr 1,2 eligible - last - adding - removing - leader -1 recovery 0 epochs 0 1\n"
unfolding partition_line digits
nobody_leads = refl

config : config_line (record { kind = pos 4; name = []; key = codes "min.insync.replicas" }, codes "2") ≡ codes "config 4 \"\" \"min.insync.replicas\" \"2\"\n"
unfolding digits
config = refl

-- a quote, a backslash, a line feed, a byte above ASCII; the first and the last visible byte
escapes : quoted (34 ∷ 92 ∷ 10 ∷ 195 ∷ 32 ∷ 126 ∷ 31 ∷ 127 ∷ []) ≡ codes "\"\\x22\\x5c\\x0a\\xc3 ~\\x1f\\x7f\""
escapes = refl
