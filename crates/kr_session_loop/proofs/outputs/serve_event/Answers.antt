use Rattle.std.proofs.Common.{subst}
use Rattle.std.proofs.lemmas.Result.{on_ok_weaker, on_err_weaker}
use Rattle.kr_session_loop.specs.Endings.{WroteSome}
use Rattle.kr_session_loop.proofs.OutputFrames.{none_of}
use Rattle.kr_session_loop.proofs.outputs.serve_event.Goals as goal

pub write_outputs-requires : goal.write_outputs-requires
write_outputs-requires g c =
    let sound = c.requires.sound in
    (c.in-Ok.ensures.step.stands sound.state sound.writes sound.stands).ordered

pub returns-in-Err-clause-err : goal.returns-in-Err-clause-err
returns-in-Err-clause-err g c = λ s writes k. none_of _ _

pub returns-in-Ok-clause-ok : goal.returns-in-Ok-clause-ok
returns-in-Ok-clause-ok g c = on_ok_weaker c.write_outputs.result
    (λ w. record { stepped = c.step.new.self; given = w.0; step = c.in-Ok.ensures.step; drains = w.1; wrote = w.2 }) c.write_outputs.ensures.ok

pub returns-in-Ok-clause-err : goal.returns-in-Ok-clause-err
returns-in-Ok-clause-err g c = on_err_weaker c.write_outputs.result
    (λ w s writes k. subst (WroteSome _ _) (c.in-Ok.ensures.step.outputs s writes k) w) c.write_outputs.ensures.err
