-- Batch: on standby, a committed batch of another leader's log comes.
use Rattle.std.specs.Prelude.{ℕ, ℤ, pos, ◌+◌, ◌+ℤ◌, List, [], ◌∷◌, length, not, is_some, Option, Some, None, Result, Ok, Err}
use Rattle.std.specs.Ordering.{int_eq}
use Rattle.kr_calls.specs.declared.events.Reason.{Reason}
use Rattle.kr_defs.specs.declared.ill.Ill.{Ill}
use Rattle.kr_defs.specs.Guard.{and_then, refuse◌when◌else◌}
use Rattle.kr_defs.specs.LogStates.{first_ill_at}
use Rattle.kr_batch.specs.declared.Batch.{Batch}
use Rattle.kr_batch.specs.declared.fault.BatchFault.{BatchFault}
use Rattle.kr_batch.specs.Reading.{batch_of}
use Rattle.kr_model.specs.Reasons.{already_leading, bad_batch, exhausted, gap, ill_formed}
use Rattle.kr_model.specs.World.{State, is_far, log_with, state_of_tip, tip_of, with_end}

abbrev pub batch_or : Result Batch BatchFault → Result Batch Reason
batch_or (Ok batch) = Ok batch
batch_or (Err fault) = Err (bad_batch fault)

-- the first record without meaning
abbrev pub unless_ill : {X : Type 0} → Option (ℤ × Ill) → X → Result X Reason
unless_ill None x = Ok x
unless_ill (Some (place, cause)) x = Err (ill_formed place cause)

-- one place above the last item of a batch
abbrev pub end_of : Batch → ℤ
end_of batch = batch.base +ℤ pos (length batch.items)

-- what comes is committed
abbrev pub after_batch : State → Batch → State
after_batch s batch = record s {
  world = with_end (record s.world { log = log_with s.world.log batch.items }) (tip_of s + length batch.items) ((tip_of s + length batch.items) ∷ []);
}

abbrev pub take_batch : State → Batch → Result State Reason
take_batch s batch =
    refuse gap (pos s.world.committed) batch.base when not (int_eq batch.base (pos s.world.committed)) else
    refuse exhausted (end_of batch) when is_far (end_of batch) else
    unless_ill (first_ill_at (state_of_tip s) (tip_of s) batch.items) (after_batch s batch)

abbrev pub batch : State → List ℕ → Result State Reason
batch s bytes =
    refuse already_leading s.world.leading when is_some s.world.leading else
    and_then (batch_or (batch_of bytes)) (take_batch s)
