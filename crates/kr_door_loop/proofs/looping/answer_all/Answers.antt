use Rattle.kr_door_loop.proofs.Statuses.{answers_whole, refuses_rest}
use Rattle.kr_door_loop.proofs.looping.answer_all.Goals as goal

pub returns-clause-complete : goal.returns-clause-complete
returns-clause-complete g c = λ read write.
    answers_whole _ _ _ _ c.answer_frames.result c.answer_frames.ensures.ends (λ is. read (c.answer_frames.ensures.read is)) (λ is. write (c.answer_frames.ensures.write is))

pub returns-clause-broken : goal.returns-clause-broken
returns-clause-broken g c = λ read write.
    refuses_rest _ _ _ _ c.answer_frames.result c.answer_frames.ensures.ends (λ is. read (c.answer_frames.ensures.read is)) (λ is. write (c.answer_frames.ensures.write is))
