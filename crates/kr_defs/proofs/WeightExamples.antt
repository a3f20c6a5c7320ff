-- How many entries an item writes, computed.
use Rattle.std.proofs.Common.{◌≡◌, ℕ, refl, [], ◌∷◌}
use Rattle.std.specs.Prelude.{pos, codes, None, Some}
use Rattle.kr_defs.specs.declared.partition.Partition.{Partition}
use Rattle.kr_defs.specs.declared.record.Record.{Record}
use Rattle.kr_defs.specs.declared.record.Record.TheVariants as kinds
use Rattle.kr_defs.specs.declared.record.Item.TheVariants as items
use Rattle.kr_defs.specs.Image.{Image}
use Rattle.kr_defs.specs.NewPartition.{new_partition}
use Rattle.kr_defs.specs.Weight.{weight}

abbrev state : Partition
state = new_partition (pos 1 ∷ []) (pos 1 ∷ [])

-- topic `t` has two partitions and two settings; a broker setting (type 4) has its name, and another topic a setting
abbrev image : Image
image = record {
  brokers = [];
  topics = (codes "s", 8) ∷ (codes "t", 9) ∷ [];
  partitions = ((8, pos 0), state) ∷ ((9, pos 0), state) ∷ ((9, pos 1), state) ∷ [];
  configs =
      (record { kind = pos 2; name = codes "s"; key = codes "note" }, codes "v")
      ∷ (record { kind = pos 2; name = codes "t"; key = codes "a" }, codes "x")
      ∷ (record { kind = pos 2; name = codes "t"; key = codes "b" }, codes "y")
      ∷ (record { kind = pos 4; name = codes "t"; key = codes "a" }, codes "z")
      ∷ [];
  features = [];
}

abbrev weighs : Record → ℕ → Type 0
weighs r entries = weight image (items.Record r) ≡ entries

control : weight image items.Control ≡ 1
unfolding weight
control = refl

topic : weighs (kinds.Topic (codes "u") 10) 2
unfolding weight
topic = refl

-- the topic by name and by id, two partitions, two settings
topic_removed : weighs (kinds.RemoveTopic 9) 6
unfolding weight
topic_removed = refl

other_removed : weighs (kinds.RemoveTopic 8) 4
unfolding weight
other_removed = refl

-- where no topic has the id, nothing is counted but the topic
none_removed : weighs (kinds.RemoveTopic 7) 2
unfolding weight
none_removed = refl

partition : weighs (kinds.Partition (pos 2) 9 state) 1
unfolding weight
partition = refl

setting : weighs (kinds.Config (pos 2) (codes "t") (codes "a") None) 1
unfolding weight
setting = refl

fence : weighs (kinds.FenceBroker (pos 1) (pos 5)) 1
unfolding weight
fence = refl

-- what begins a transaction keeps the place of its beginning besides
begun : weighs (kinds.BeginTransaction None) 8
unfolding weight
begun = refl

ended : weighs kinds.EndTransaction 1
unfolding weight
ended = refl

aborted : weighs (kinds.AbortTransaction (Some (codes "why"))) 1
unfolding weight
aborted = refl

nothing : weighs kinds.NoOp 1
unfolding weight
nothing = refl
