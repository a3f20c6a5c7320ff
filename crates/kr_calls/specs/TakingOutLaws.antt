-- Laws of taking out: on a valid image none of its records is refused (this project's own).
use Rattle.std.specs.Prelude.{◌≡◌, ℕ, ℤ, Bool, true, List, Some, Ok}
use Rattle.std.specs.Ordering.{int_cmp}
use Rattle.kr_defs.specs.declared.broker.Broker.{Broker}
use Rattle.kr_defs.specs.declared.options.Options.{Options}
use Rattle.kr_defs.specs.declared.partition.Partition.{Partition}
use Rattle.kr_defs.specs.declared.record.Record.{Record}
use Rattle.kr_defs.specs.Image.{Image, IsValid}
use Rattle.kr_defs.specs.Map as entries
use Rattle.kr_calls.specs.declared.unregister_broker.UnregisterBroker.{UnregisterBroker}
use Rattle.kr_calls.specs.declared.unregister_broker.UnregisterBrokerReply.{UnregisterBrokerReply}
use Rattle.kr_calls.specs.declared.deciding.Draft.{Draft}
use Rattle.kr_calls.specs.Deciding.{apply_records}
use Rattle.kr_calls.specs.TakingOut.{fencing, taken_out}
use Rattle.kr_calls.specs.UnregisterBroker as unregister_broker

-- Each record has a meaning after the ones before it. The last one leaves the image with these brokers and other partitions.
abbrev pub LeaveWith : Image → List (ℤ × Broker) → List Record → Type 0
LeaveWith image brokers records =
    (after : List ((ℕ × ℤ) × Partition)) × (apply_records image records ≡ Ok (record image { brokers = brokers; partitions = after }))

-- Where a broker is taken out, the partitions alone are others then.
abbrev pub TakingOutIsNeverRefused : Type 0
TakingOutIsNeverRefused =
    (minimum : ℤ) (image : Image) (broker : ℤ) (restarted : Bool) → IsValid image →
    LeaveWith image image.brokers (taken_out minimum image broker restarted)

-- A registered broker that is fenced by its own epoch is fenced then.
abbrev pub FencingIsNeverRefused : Type 0
FencingIsNeverRefused =
    (minimum : ℤ) (image : Image) (broker : ℤ) (state : Broker) → IsValid image →
    entries.get int_cmp image.brokers broker ≡ Some state →
    LeaveWith image (entries.insert int_cmp image.brokers broker (record state { fenced = true })) (fencing minimum image broker state.epoch)

-- A broker that unregisters is registered no more.
abbrev pub UnregisteringIsNeverRefused : Type 0
UnregisteringIsNeverRefused =
    (options : Options) (image : Image) (place : ℤ) (request : UnregisterBroker) (draft : Draft UnregisterBrokerReply) → IsValid image →
    unregister_broker.rule options image place request ≡ Ok draft →
    LeaveWith image (entries.remove int_cmp image.brokers request.broker) draft.records
