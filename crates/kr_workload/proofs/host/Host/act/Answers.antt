use Rattle.std.proofs.Common.{arith}
use Rattle.std.proofs.lemmas.Result.{on_ok_weaker}
use Rattle.kr_workload.proofs.Goings.{goes_as}
use Rattle.kr_workload.proofs.Parts.{act_beat, act_elect, act_fail_over, act_fence, act_reassign, act_report}
use Rattle.kr_workload.proofs.host.Host.act.Goals as goal

pub returns-in-0 : goal.returns-in-0
returns-in-0 g c = on_ok_weaker c.beat.result (λ last. goes_as _ _ _ _ 1 0 1 1 (λ seed made stands. act_fence seed c.args.round c.args.chances.now made c.in-0.is) (omega arith) (omega arith) last) c.beat.ensures

pub returns-in-1 : goal.returns-in-1
returns-in-1 g c = on_ok_weaker c.beat-in-1.result (λ last. goes_as _ _ _ _ 1 0 1 1 (λ seed made stands. act_beat seed c.args.round c.args.chances.now made c.in-1.is) (omega arith) (omega arith) last) c.beat-in-1.ensures

pub returns-in-2 : goal.returns-in-2
returns-in-2 g c = on_ok_weaker c.reassign.result (λ last. goes_as _ _ _ _ 1 0 1 1 (λ seed made stands. act_reassign seed c.args.round c.args.chances.now made c.in-2.is) (omega arith) (omega arith) last) c.reassign.ensures

pub returns-in-3 : goal.returns-in-3
returns-in-3 g c = on_ok_weaker c.send_report.result (λ last. goes_as _ _ _ _ 1 0 1 1 (λ seed made stands. act_report seed c.args.round c.args.chances.now made c.in-3.is) (omega arith) (omega arith) last) c.send_report.ensures

pub returns-in-4 : goal.returns-in-4
returns-in-4 g c = on_ok_weaker c.elect.result (λ last. goes_as _ _ _ _ 1 0 1 1 (λ seed made stands. act_elect seed c.args.round c.args.chances.now made c.in-4.is) (omega arith) (omega arith) last) c.elect.ensures

pub returns-in_default : goal.returns-in_default
returns-in_default g c = on_ok_weaker c.fail_over.result
    (λ last. goes_as _ _ _ _ 1 1 1 1 (λ seed made stands. act_fail_over seed c.args.round c.args.chances.now made (omega arith) (omega arith) (omega arith) (omega arith) (omega arith)) (omega arith) (omega arith) last) c.fail_over.ensures
