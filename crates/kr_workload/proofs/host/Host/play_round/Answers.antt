use Rattle.std.proofs.Common.{◌∙◌, ap, arith}
use Rattle.std.proofs.lemmas.Result.{on_ok_weaker}
use Rattle.kr_workload.specs.declared.chances.Chances.{Chances}
use Rattle.kr_workload.specs.Session.{act, after_draw, chances}
use Rattle.kr_workload.proofs.Goings.{goes_as, goes_both, may_go_on, may_less}
use Rattle.kr_workload.proofs.Parts.{play_round_is}
use Rattle.kr_workload.proofs.host.Host.play_round.Goals as goal

pub draw-chances-requires : goal.draw-chances-requires
draw-chances-requires g c = may_less _ 1 1 0 0 (omega arith) (omega arith) c.requires

pub act-requires-clause-may : goal.act-requires-clause-may
act-requires-clause-may g c = may_go_on _ _ _ 0 0 c.draw-chances.ensures.goes 1 1 c.requires

pub returns : goal.returns
returns g c = on_ok_weaker c.act.result (λ last. goes_as _ _ _ _ 1 1 1 1
    (λ seed made stands. ap (λ (x : Chances). act seed c.args.round x (after_draw made)) (c.draw-chances.ensures.chances ∙ ap chances stands.drawn) ∙ play_round_is seed made c.args.round)
    (omega arith) (omega arith) (goes_both _ _ _ 0 0 c.draw-chances.ensures.goes _ _ 1 1 last)) c.act.ensures
