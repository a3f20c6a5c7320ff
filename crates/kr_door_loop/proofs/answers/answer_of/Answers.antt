use Rattle.std.proofs.Common.{sym, subst}
use Rattle.kr_door_loop.specs.declared.kind.QuestionKind.{QuestionKind}
use Rattle.kr_door_loop.specs.Answers.{AnswersKind}
use Rattle.kr_door_loop.proofs.answers.answer_of.Goals as goal

pub returns-in-Elect : goal.returns-in-Elect
returns-in-Elect c = subst (λ (kind : QuestionKind). AnswersKind kind c.args.body.now c.elect_leader.result) (sym c.in-Elect.is) c.elect_leader.ensures

pub returns-in-Place : goal.returns-in-Place
returns-in-Place c = subst (λ (kind : QuestionKind). AnswersKind kind c.args.body.now c.place_replicas.result) (sym c.in-Place.is) c.place_replicas.ensures

pub returns-in-Reply : goal.returns-in-Reply
returns-in-Reply c = subst (λ (kind : QuestionKind). AnswersKind kind c.args.body.now c.show_reply.result) (sym c.in-Reply.is) c.show_reply.ensures

pub returns-in-Request : goal.returns-in-Request
returns-in-Request c = subst (λ (kind : QuestionKind). AnswersKind kind c.args.body.now c.write_request.result) (sym c.in-Request.is) c.write_request.ensures
