use Rattle.std.proofs.Common.{◌∙◌, length, ap, arith}
use Rattle.kr_workload.specs.Summary.{summary}
use Rattle.kr_workload.specs.Session.{Made, options}
use Rattle.kr_workload.proofs.Answered.{all_answered}
use Rattle.kr_workload.proofs.Goings.{may_go_on}
use Rattle.kr_workload.proofs.Lengths.{session_few}
use Rattle.kr_workload.proofs.Parts.{made_session_is}
use Rattle.kr_workload.proofs.Sums.{sum_is_few}
use Rattle.kr_workload.proofs.making.make_with.Goals as goal

pub open-requires : goal.open-requires
open-requires g c = record { ready = c.in_ok-host.ensures.ready; room = omega (arith, c.in_ok-host.ensures.requests); few = omega (arith, c.in_ok-host.ensures.epoch) }

pub rounds-requires : goal.rounds-requires
rounds-requires g c = may_go_on _ _ _ 312 1 c.in_ok-open.ensures c.args.rounds c.args.rounds (record {
  ready = c.in_ok-host.ensures.ready;
  room = omega (arith, c.in_ok-host.ensures.requests, c.requires.rounds);
  few = omega (arith, c.in_ok-host.ensures.epoch, c.requires.rounds);
})

pub returns-clause-value : goal.returns-clause-value
returns-clause-value g c =
    let opened = c.in_ok-open.ensures.stands c.args.seed _ c.in_ok-host.ensures.stands in
    let played = c.in_ok-rounds.ensures.stands c.args.seed _ opened in
    let few = session_few c.args.seed c.args.rounds in
    let is = made_session_is c.args.seed c.args.rounds in
    let long = ap (λ (made : Made). length made.events) is in
    c.summary.ensures c.args.seed _ played (omega (arith, few, long, c.requires.rounds)) ∙ ap (λ (made : Made). summary (options c.args.seed) made.events) is

pub returns-clause-linear : goal.returns-clause-linear
returns-clause-linear g c = sum_is_few c.args.seed c.args.rounds c.summary.result (returns-clause-value g c)

pub returns-clause-answered : goal.returns-clause-answered
returns-clause-answered g c =
    let opened = c.in_ok-open.ensures.stands c.args.seed _ c.in_ok-host.ensures.stands in
    let played = c.in_ok-rounds.ensures.stands c.args.seed _ opened in
    let few = session_few c.args.seed c.args.rounds in
    let is = made_session_is c.args.seed c.args.rounds in
    let long = ap (λ (made : Made). length made.events) is in
    all_answered c.args.seed c.args.rounds _ _ played is (omega (arith, few, long, c.requires.rounds)) c.summary.result (returns-clause-value g c)
