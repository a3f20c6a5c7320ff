-- A broker is taken out of the partitions that it keeps in sync, and fenced (KIP-631; KIP-966's unclean shutdowns).
use Rattle.std.specs.Prelude.{ℤ, pos, Bool, false, ◌&&◌, ◌||◌, List, [], ◌∷◌, Option, Some, None, if◌then◌else◌}
use Rattle.kr_defs.specs.declared.changing.Want.{Want}
use Rattle.kr_defs.specs.declared.partition.Partition.{Partition}
use Rattle.kr_defs.specs.declared.partition.PartitionChange.{PartitionChange}
use Rattle.kr_defs.specs.declared.record.Record.{Record}
use Rattle.kr_defs.specs.declared.record.Record.TheVariants as kinds
use Rattle.kr_defs.specs.Brokers.{active}
use Rattle.kr_defs.specs.Build.{built}
use Rattle.kr_defs.specs.DefaultWant.{default_want}
use Rattle.kr_defs.specs.Ids.{has, without}
use Rattle.kr_defs.specs.Image.{Image}
use Rattle.kr_defs.specs.Settings.{facts_with}
use Rattle.kr_defs.specs.Walk.{Walked, changes_of, walk}

-- in sync without the broker, which may have restarted uncleanly
abbrev pub without_broker : Partition → ℤ → Bool → Want
without_broker p broker restarted = record (default_want p) {
  in_sync = without p.in_sync (broker ∷ []);
  restarted = if restarted then Some broker else None;
}

-- the partition has to lose the broker
abbrev pub is_held : Partition → ℤ → Bool → Bool
is_held p broker restarted = has p.in_sync broker || (restarted && has p.eligible broker)

-- the change where the broker is in sync, or eligible where it has restarted; the broker itself counts as not active
abbrev pub taking_out : ℤ → Image → ℤ → Bool → Walked → Option PartitionChange
taking_out minimum image broker restarted w =
    if is_held w.partition broker restarted
    then built w.partition (without_broker w.partition broker restarted) (facts_with minimum image (without (active image) (broker ∷ [])) w.topic)
    else None

-- taking the broker out; as restarted where it has restarted uncleanly
abbrev pub taken_out : ℤ → Image → ℤ → Bool → List Record
taken_out minimum image broker restarted = changes_of (taking_out minimum image broker restarted) (walk image)

-- to fence a broker of this epoch
abbrev pub fencing : ℤ → Image → ℤ → ℤ → List Record
fencing minimum image broker epoch =
    kinds.BrokerRegistrationChange broker epoch (pos 1) (pos 0) ∷ taken_out minimum image broker false
