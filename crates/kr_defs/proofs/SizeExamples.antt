-- Sizes of written values, computed: each number is the length of the bytes that an independent encoder wrote.
use Rattle.std.proofs.Common.{◌≡◌, refl, ℤ, List, [], ◌∷◌}
use Rattle.std.specs.Prelude.{pos, negsuc, codes, Some, None}
use Rattle.kr_defs.specs.declared.record.Record.TheVariants as kinds
use Rattle.kr_defs.specs.Sizes.{value_bytes}

abbrev three : List ℤ
three = pos 8 ∷ pos 4 ∷ pos 7 ∷ []

setting : value_bytes (kinds.Config (pos 4) [] (codes "min.insync.replicas") (Some (codes "2"))) ≡ 28
unfolding value_bytes
setting = refl

-- recovery is left out at 0, and a list where it is empty
partition : value_bytes (kinds.Partition (pos 1) 30 (record { replicas = three; in_sync = pos 1 ∷ pos 2 ∷ three; eligible = pos 4 ∷ pos 5 ∷ []; last_known = []; adding = negsuc 0 ∷ []; removing = pos 8 ∷ []; leader = pos 0; recovery = pos 0; leader_epoch = pos 1; partition_epoch = pos 1 })) ≡ 140
unfolding value_bytes
partition = refl

change : value_bytes (kinds.PartitionChange (pos 5) 30 (record { in_sync = Some three; replicas = None; removing = Some three; adding = None; eligible = None; last_known = None; leader = None; recovery = None })) ≡ 54
unfolding value_bytes
change = refl

registration_change : value_bytes (kinds.BrokerRegistrationChange (negsuc 0) (pos 0) (pos 5) (pos 0)) ≡ 19
unfolding value_bytes
registration_change = refl

fence : value_bytes (kinds.FenceBroker (pos 0) (pos 1)) ≡ 16
unfolding value_bytes
fence = refl

topic_removed : value_bytes (kinds.RemoveTopic 7) ≡ 20
unfolding value_bytes
topic_removed = refl

feature : value_bytes (kinds.FeatureLevel (codes "a.b") (pos 0)) ≡ 10
unfolding value_bytes
feature = refl

-- a name or a reason is left out where there is none
begun : value_bytes (kinds.BeginTransaction None) ≡ 4
unfolding value_bytes
begun = refl

begun_named : value_bytes (kinds.BeginTransaction (Some (codes "a"))) ≡ 8
unfolding value_bytes
begun_named = refl

ended : value_bytes kinds.EndTransaction ≡ 4
unfolding value_bytes
ended = refl

aborted : value_bytes (kinds.AbortTransaction (Some (codes "why"))) ≡ 10
unfolding value_bytes
aborted = refl

nothing : value_bytes kinds.NoOp ≡ 4
unfolding value_bytes
nothing = refl
