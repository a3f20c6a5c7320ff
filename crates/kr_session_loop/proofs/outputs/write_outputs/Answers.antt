use Rattle.std.proofs.Common.{[], ◌∷◌, ◌++◌, arith}
use Rattle.kr_session_loop.proofs.Handed.{drains, one_more, some_written}
use Rattle.kr_session_loop.proofs.OutputFrames.{both_written}
use Rattle.kr_session_loop.proofs.outputs.write_outputs.Goals as goal

pub returns-in-Err-clause-err : goal.returns-in-Err-clause-err
returns-in-Err-clause-err g c =
    let gone = c.loop-output.invariant.gone in
    some_written _ _ _ gone.0 c.in-Some.output _ _ _ gone.1 c.in-Some.ensures.hands gone.2 c.in-Err.ensures.err

pub loop-output-preserved : goal.loop-output-preserved
loop-output-preserved g c =
    let gone = c.loop-output.invariant.gone in
    record {
      ordered = c.in-Some.ensures.hands.ordered;
      later = omega (arith, c.write_output.ensures.later);
      gone = (
        gone.0 ++ c.in-Some.output ∷ [],
        one_more _ _ _ gone.0 c.in-Some.output gone.1 c.in-Some.ensures.hands,
        both_written _ _ _ gone.0 (c.in-Some.output ∷ []) gone.2 c.in-Ok.ensures.ok,
      );
    }

pub returns-clause-ok : goal.returns-clause-ok
returns-clause-ok g c =
    let gone = c.loop-output.invariant.gone in
    (gone.0, drains _ _ _ gone.0 gone.1 c.in_default.ensures.hands, gone.2)
