-- What a move asks of its node, as the node and what is shared have it.
use Rattle.std.specs.Prelude.{◌≡◌, ◌⊎◌, ◌<◌, ◌<ℤ◌, ℕ, ℤ, List, [], length, int_lt, is_some, Some, None, true, false}
use Rattle.std.specs.List.{slice_get}
use Rattle.std.specs.Ordering.{int_eq}
use Rattle.law_nodes.specs.declared.moves.MoveFault.{MoveFault}
use Rattle.law_nodes.specs.declared.moves.MoveFault.TheVariants as faults
use Rattle.kr_nodes.specs.declared.node.Node.{Node}
use Rattle.kr_nodes.specs.declared.shared.ListBatch.{ListBatch}
use Rattle.kr_nodes.specs.declared.shared.Shared.{Shared}

abbrev pub IsStandbyFault : ℕ → Node → MoveFault → Type 0
IsStandbyFault number node fault = (is_some node.engine.leading ≡ true) × (fault ≡ faults.NotStandby number)

abbrev pub IsLeadingFault : ℕ → Node → MoveFault → Type 0
IsLeadingFault number node fault = (node.engine.leading ≡ None) × (fault ≡ faults.NotLeading number)

-- ---- Feed

pub record MayFeed (list : List ListBatch) (node : Node) (batch : ListBatch) : Type 0 where
  pub idle : node.engine.leading ≡ None
  pub is : slice_get list node.fed ≡ Some batch
  pub low : node.fed < length list

abbrev pub IsFeedFault : ℕ → List ListBatch → Node → MoveFault → Type 0
IsFeedFault number list node fault =
    IsStandbyFault number node fault
    ⊎ ((node.engine.leading ≡ None) × (slice_get list node.fed ≡ None) × (fault ≡ faults.NothingNew node.engine.committed))

-- ---- Elect

pub record MayElect (epoch : ℤ) (shared : Shared) (node : Node) (next : ℤ) : Type 0 where
  pub idle : node.engine.leading ≡ None
  pub new : int_lt shared.elected epoch ≡ true
  pub is : next ≡ node.engine.committed
  pub whole : node.engine.committed ≡ shared.length

abbrev pub IsElectFault : ℕ → ℤ → Shared → Node → MoveFault → Type 0
IsElectFault number epoch shared node fault =
    IsStandbyFault number node fault
    ⊎ ((node.engine.leading ≡ None) × (int_lt shared.elected epoch ≡ false) × (fault ≡ faults.OldEpoch epoch shared.elected))
    ⊎ ((node.engine.leading ≡ None) × (int_lt shared.elected epoch ≡ true) × (int_eq node.engine.committed shared.length ≡ false)
    × (fault ≡ faults.Behind node.engine.committed shared.length))

-- ---- Settle

pub record MaySettleNext (shared : Shared) (node : Node) : Type 0 where
  pub latest : node.engine.leading ≡ Some shared.elected
  pub some : length node.pending.unsettled.items ≡ 0 → ⊥

abbrev pub IsSettleFault : ℕ → Shared → Node → MoveFault → Type 0
IsSettleFault number shared node fault =
    IsLeadingFault number node fault
    ⊎ ((epoch : ℤ) × (node.engine.leading ≡ Some epoch) × (int_eq epoch shared.elected ≡ false) × (fault ≡ faults.NotLatest epoch shared.elected))
    ⊎ ((node.engine.leading ≡ Some shared.elected) × (node.pending.unsettled.items ≡ []) × (fault ≡ faults.NothingNew shared.length))

-- ---- Tell

pub record MayTell (node : Node) (epoch : ℤ) : Type 0 where
  pub leads : node.engine.leading ≡ Some epoch
  pub some : node.engine.committed <ℤ node.settled

abbrev pub IsTellFault : ℕ → Node → MoveFault → Type 0
IsTellFault number node fault =
    IsLeadingFault number node fault
    ⊎ ((epoch : ℤ) × (node.engine.leading ≡ Some epoch) × (int_lt node.engine.committed node.settled ≡ false) × (fault ≡ faults.NothingNew node.engine.committed))
