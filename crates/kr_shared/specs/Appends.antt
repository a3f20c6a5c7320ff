-- What a quorum is given of a step's outputs. This project's own.
use Rattle.std.specs.Prelude.{◌≡◌, ◌≤◌, ℕ, Bool, true, false, List, ◌∷◌, ◌++◌, Option, Some, None, IsSome, fold}
use Rattle.kr_base.specs.Appends.{with_piece}
use Rattle.kr_base.specs.Causes.{Rose}
use Rattle.kr_calls.specs.declared.events.Output.{Output}
use Rattle.kr_calls.specs.declared.events.Output.TheVariants as given
use Rattle.kr_model.specs.declared.writes.Told.{Told}

-- the batch of an output, if it is one
abbrev pub batch_of_output : Output → Option (List ℕ)
batch_of_output (given.Append bytes) = Some bytes
batch_of_output (given.Reply client correlation reply) = None
batch_of_output (given.Refused event reason) = None
batch_of_output (given.Image bytes) = None

abbrev pub batch_told : Told → Option (List ℕ)
batch_told told = batch_of_output told.output

abbrev pub with_some : Option (List (List ℕ)) → Option (List ℕ) → Option (List (List ℕ))
with_some pieces (Some batch) = with_piece pieces batch
with_some pieces None = pieces

-- the quorum's pieces, where it tells them, with the output's batch
abbrev pub with_told_batch : Option (List (List ℕ)) → Told → Option (List (List ℕ))
with_told_batch pieces told = with_some pieces (batch_told told)

-- it got the batches of these outputs, in order
abbrev pub with_batches : Option (List (List ℕ)) → List Told → Option (List (List ℕ))
with_batches pieces told = fold with_told_batch pieces told

-- up to the first that failed
pub record FailsAt (old new : Option (List (List ℕ))) (faults faults' : ℕ) (told : List Told) : Type 0 where
  pub before : List Told
  pub failed : Told
  pub behind : List Told
  pub in_order : told ≡ before ++ failed ∷ behind
  pub batch : IsSome (batch_told failed)
  pub pieces : new ≡ with_batches old before
  pub cause : Rose faults faults'

-- the quorum got all batches of the outputs, and no append failed; or it got those before the first that failed
abbrev pub Appends : Option (List (List ℕ)) → Option (List (List ℕ)) → ℕ → ℕ → List Told → Bool → Type 0
Appends old new faults faults' told true = (new ≡ with_batches old told) × (faults' ≡ faults)
Appends old new faults faults' told false = FailsAt old new faults faults' told

abbrev pub AppendsOne : Option (List (List ℕ)) → Option (List (List ℕ)) → ℕ → ℕ → Told → Bool → Type 0
AppendsOne old new faults faults' told true = (new ≡ with_told_batch old told) × (faults' ≡ faults)
AppendsOne old new faults faults' told false = IsSome (batch_told told) × (new ≡ old) × Rose faults faults' × (faults ≤ faults')

-- after one that failed no other is given
abbrev pub AppendsIf : Bool → Option (List (List ℕ)) → Option (List (List ℕ)) → ℕ → ℕ → Told → Bool → Type 0
AppendsIf true old new faults faults' told appended = AppendsOne old new faults faults' told appended
AppendsIf false old new faults faults' told appended = (new ≡ old) × (faults' ≡ faults) × (appended ≡ false)
