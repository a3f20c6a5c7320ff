-- One output more is handed out, and counted.
use Rattle.std.proofs.Common.{◌≡◌, List, [], ◌∷◌, ◌++◌, Some, sym, ap, ◌∙◌}
use Rattle.kr_calls.specs.declared.events.Output.{Output}
use Rattle.kr_session_loop.specs.inner.Serving.{HandsSome}
use Rattle.kr_session_loop.proofs.Handed.{one_more}
use Rattle.kr_model.specs.Engine.{Core, Hands}
use Rattle.kr_workload.specs.declared.tally.Tally.{Tally}
use Rattle.kr_workload.specs.inner.Counting.{with_output, with_outputs}
use Rattle.kr_workload.proofs.Counts.{outputs_more}

pub handed_on : (first engine next : Core) (tally now then : Tally) (output : Output) → (given : List Output) × HandsSome first given engine × (now ≡ with_outputs tally given) → Hands engine next (Some output)
    → then ≡ with_output now output → (given : List Output) × HandsSome first given next × (then ≡ with_outputs tally given)
handed_on first engine next tally now then output (given, some, counted) hands is = (
  given ++ output ∷ [],
  one_more first engine next given output some hands,
  is ∙ (ap (λ (t : Tally). with_output t output) counted ∙ sym (outputs_more tally given output)),
)
