use Rattle.std.proofs.Common.{◌∙◌, sym, arith}
use Rattle.std.proofs.lemmas.Result.{on_ok_weaker}
use Rattle.kr_workload.proofs.Goings.{goes_as, goes_itself}
use Rattle.kr_workload.proofs.Parts.{not_sent, sent}
use Rattle.kr_workload.proofs.host.Host.send_report.Goals as goal

pub returns-in-Some : goal.returns-in-Some
returns-in-Some g c = on_ok_weaker c.ask_and_commit.result (λ last. goes_as _ _ _ _ 1 0 1 0
    (λ seed made stands. sent seed made c.args.topic c.args.partition c.in-Some.request (sym c.in-Some.is ∙ c.in_ok-request.ensures seed made stands)) (omega arith) (omega arith) last) c.ask_and_commit.ensures

pub returns-in-None : goal.returns-in-None
returns-in-None g c = goes_as _ _ (λ seed made. made) _ 0 0 1 0
    (λ seed made stands. not_sent seed made c.args.topic c.args.partition (sym c.in-None.is ∙ c.in_ok-request.ensures seed made stands)) (omega arith) (omega arith) (goes_itself c.args.self.now c.requires.may.ready)
