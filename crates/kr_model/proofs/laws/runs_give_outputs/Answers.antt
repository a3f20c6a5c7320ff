use Rattle.kr_model.proofs.AllEvents.{runs_give_outputs}
use Rattle.kr_model.proofs.laws.runs_give_outputs.Goals as goal

-- src/laws.rt:7:1
pub returns : goal.returns
returns c = runs_give_outputs
