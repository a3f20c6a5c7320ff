-- Shared rules by computation: active brokers, walks, counts, names that agree, keys and values, ill items, the order of an image.
use Rattle.std.proofs.Common.{◌≡◌, refl, true, false, List, [], ◌∷◌, ℕ, ℤ, pos, map, Some, None}
use Rattle.std.specs.Prelude.{codes}
use Rattle.kr_defs.specs.declared.broker.Broker.{Broker}
use Rattle.kr_defs.specs.declared.ill.Ill.TheVariants.{NoBroker, NoTopic}
use Rattle.kr_defs.specs.declared.partition.Partition.{Partition}
use Rattle.kr_defs.specs.declared.record.Item.{Item}
use Rattle.kr_defs.specs.declared.record.Item.TheVariants as items
use Rattle.kr_defs.specs.declared.record.Record.{Record}
use Rattle.kr_defs.specs.declared.record.Record.TheVariants as kinds
use Rattle.kr_defs.specs.Apply.{apply, apply_record}
use Rattle.kr_defs.specs.Brokers.{active, unfenced, stopping}
use Rattle.kr_defs.specs.Image.{Image}
use Rattle.kr_defs.specs.ImageOrder.{nothing_seen, are_in_order}
use Rattle.kr_defs.specs.Log.{first_ill}
use Rattle.kr_defs.specs.Partition.{is_moving}
use Rattle.kr_defs.specs.Records.{records_of}
use Rattle.kr_defs.specs.Settings.{facts_with, is_list_key, is_setting_value, minimum_key, unclean_key}
use Rattle.kr_defs.specs.Texts.{names_agree}
use Rattle.kr_defs.specs.Topics.{count_of, is_named_once}
use Rattle.kr_defs.specs.Walk.{Walked, walk}

-- ---- an image: broker 1 is active, 2 stopping, 3 fenced, 4 fenced while stopping; the topic `a` has the greater id

abbrev broker : Broker
broker = record { epoch = pos 5; incarnation = 77; endpoints = []; features = []; rack = None; fenced = false; stopping = false }

abbrev partition : Partition
partition = record { replicas = pos 1 ∷ pos 2 ∷ []; in_sync = pos 1 ∷ []; eligible = []; last_known = []; adding = []; removing = []; leader = pos 1; recovery = pos 0; leader_epoch = pos 0; partition_epoch = pos 3 }

abbrev image : Image
image = record {
  brokers = (pos 1, broker) ∷ (pos 2, record broker { stopping = true }) ∷ (pos 3, record broker { fenced = true }) ∷ (pos 4, record broker { fenced = true; stopping = true }) ∷ [];
  topics = (codes "a", 9) ∷ (codes "b.c", 4) ∷ (codes "d", 6) ∷ [];
  partitions = ((4, pos 0), partition) ∷ ((4, pos 2), partition) ∷ ((9, pos 0), partition) ∷ [];
  configs = (record { kind = pos 2; name = codes "a"; key = minimum_key }, codes "3") ∷ (record { kind = pos 4; name = []; key = unclean_key }, codes "true") ∷ [];
  features = (codes "f", pos 2) ∷ [];
}

active_brokers : active image ≡ pos 1 ∷ []
active_brokers = refl

unfenced_brokers : unfenced image ≡ pos 1 ∷ pos 2 ∷ []
unfenced_brokers = refl

stopping_brokers : stopping image ≡ pos 2 ∷ []
stopping_brokers = refl

-- by name, and not by id
walking_order : map {B = List ℕ × (ℕ × ℤ)} (λ (w : Walked). (w.topic, w.key)) (walk image) ≡ (codes "a", (9, pos 0)) ∷ (codes "b.c", (4, pos 0)) ∷ (codes "b.c", (4, pos 2)) ∷ []
walking_order = refl

count_with_gap : count_of image 4 ≡ 3
count_with_gap = refl

count_of_none : count_of image 6 ≡ 0
count_of_none = refl

facts : facts_with (pos 1) image (pos 1 ∷ []) (codes "a") ≡ record { active = pos 1 ∷ []; unclean = true; minimum = pos 3 }
facts = refl

facts_of_other : facts_with (pos 1) image [] (codes "b.c") ≡ record { active = []; unclean = true; minimum = pos 1 }
facts_of_other = refl

at_rest : is_moving partition ≡ false
at_rest = refl

adds : is_moving (record partition { adding = pos 2 ∷ [] }) ≡ true
adds = refl

removes : is_moving (record partition { removing = pos 2 ∷ [] }) ≡ true
removes = refl

-- ---- names, keys and values

dot_and_underscore : names_agree (codes "b.c") (codes "b_c") ≡ true
dot_and_underscore = refl

dash : names_agree (codes "b.c") (codes "b-c") ≡ false
dash = refl

longer : names_agree (codes "b") (codes "b.") ≡ false
longer = refl

by_name : is_named_once (Some (codes "a")) 0 ≡ true
by_name = refl

by_id : is_named_once None 9 ≡ true
by_id = refl

by_both : is_named_once (Some (codes "a")) 9 ≡ false
by_both = refl

by_neither : is_named_once None 0 ≡ false
by_neither = refl

policy : is_list_key (codes "cleanup.policy") ≡ true
policy = refl

leader_throttled : is_list_key (codes "leader.replication.throttled.replicas") ≡ true
leader_throttled = refl

follower_throttled : is_list_key (codes "follower.replication.throttled.replicas") ≡ true
follower_throttled = refl

no_list : is_list_key minimum_key ≡ false
no_list = refl

minimum_0 : is_setting_value minimum_key (codes "0") ≡ false
minimum_0 = refl

minimum_2 : is_setting_value minimum_key (codes "2") ≡ true
minimum_2 = refl

unclean_yes : is_setting_value unclean_key (codes "yes") ≡ false
unclean_yes = refl

unclean_false : is_setting_value unclean_key (codes "false") ≡ true
unclean_false = refl

unread : is_setting_value (codes "note") (codes "yes") ≡ true
unread = refl

-- ---- ill items

fencing : ℤ → Item
fencing id = items.Record (kinds.FenceBroker id (pos 5))

third_is_ill : first_ill image (pos 30) (fencing (pos 1) ∷ items.Control ∷ fencing (pos 7) ∷ items.Record (kinds.RemoveTopic 1) ∷ []) ≡ Some (pos 32, NoBroker)
unfolding apply apply_record fencing
third_is_ill = refl

first_is_ill : first_ill image (pos 30) (items.Record (kinds.RemoveTopic 1) ∷ fencing (pos 7) ∷ []) ≡ Some (pos 30, NoTopic)
unfolding apply apply_record fencing
first_is_ill = refl

none_is_ill : first_ill image (pos 30) (fencing (pos 1) ∷ items.Control ∷ []) ≡ None
unfolding apply apply_record fencing
none_is_ill = refl

-- ---- the order of an image

its_own_records : are_in_order nothing_seen (records_of image) ≡ true
unfolding records_of
its_own_records = refl

abbrev topic : List ℕ → ℕ → Record
topic name id = kinds.Topic name id

abbrev part : ℤ → ℕ → Record
part index id = kinds.Partition index id partition

in_order : are_in_order nothing_seen (topic (codes "a") 9 ∷ part (pos 0) 9 ∷ part (pos 3) 9 ∷ topic (codes "b") 2 ∷ part (pos 1) 2 ∷ []) ≡ true
in_order = refl

same_index : are_in_order nothing_seen (topic (codes "a") 9 ∷ part (pos 0) 9 ∷ part (pos 0) 9 ∷ []) ≡ false
same_index = refl

-- of a topic before the last one
earlier_topic : are_in_order nothing_seen (topic (codes "a") 9 ∷ topic (codes "b") 2 ∷ part (pos 0) 9 ∷ []) ≡ false
earlier_topic = refl

no_topic : are_in_order nothing_seen (part (pos 0) 9 ∷ []) ≡ false
no_topic = refl

names_fall : are_in_order nothing_seen (topic (codes "b") 2 ∷ part (pos 0) 2 ∷ topic (codes "a") 9 ∷ []) ≡ false
names_fall = refl

feature_behind_broker : are_in_order nothing_seen (kinds.RegisterBroker (pos 1) broker ∷ kinds.FeatureLevel (codes "f") (pos 1) ∷ []) ≡ false
feature_behind_broker = refl

brokers_rise : are_in_order nothing_seen (kinds.RegisterBroker (pos 1) broker ∷ kinds.RegisterBroker (pos 2) broker ∷ topic (codes "a") 9 ∷ []) ≡ true
brokers_rise = refl

brokers_fall : are_in_order nothing_seen (kinds.RegisterBroker (pos 2) broker ∷ kinds.RegisterBroker (pos 1) broker ∷ []) ≡ false
brokers_fall = refl

-- level 0 and no value take part in the order
features_rise : are_in_order nothing_seen (kinds.FeatureLevel (codes "f") (pos 0) ∷ kinds.FeatureLevel (codes "g") (pos 0) ∷ []) ≡ true
features_rise = refl

feature_twice : are_in_order nothing_seen (kinds.FeatureLevel (codes "f") (pos 0) ∷ kinds.FeatureLevel (codes "f") (pos 1) ∷ []) ≡ false
feature_twice = refl

settings_rise : are_in_order nothing_seen (kinds.Config (pos 2) (codes "b") (codes "k") None ∷ kinds.Config (pos 2) (codes "b") (codes "l") None ∷ kinds.Config (pos 2) (codes "c") (codes "k") None ∷ kinds.Config (pos 4) [] (codes "k") None ∷ []) ≡ true
settings_rise = refl

types_fall : are_in_order nothing_seen (kinds.Config (pos 4) [] (codes "k") None ∷ kinds.Config (pos 2) (codes "b") (codes "k") None ∷ []) ≡ false
types_fall = refl

other_kind : are_in_order nothing_seen (kinds.NoOp ∷ []) ≡ false
other_kind = refl

transaction : are_in_order nothing_seen (kinds.BeginTransaction None ∷ []) ≡ false
transaction = refl
