use Rattle.kr_session_loop.proofs.Statuses.{serves_whole, refuses_broken, breaks_rightly}
use Rattle.kr_session_loop.proofs.sessions.session.Goals as goal

pub returns-clause-complete : goal.returns-clause-complete
returns-clause-complete g c = λ read write.
    serves_whole _ _ _ _ c.serve.result c.serve.ensures.ends c.serve.ensures.usage (λ is. read (c.serve.ensures.read is)) (λ is. write (c.serve.ensures.write is))

pub returns-clause-broken : goal.returns-clause-broken
returns-clause-broken g c = λ read write.
    refuses_broken _ _ _ _ c.serve.result c.serve.ensures.ends c.serve.ensures.usage (λ is. read (c.serve.ensures.read is)) (λ is. write (c.serve.ensures.write is))

pub returns-clause-breaks : goal.returns-clause-breaks
returns-clause-breaks g c = breaks_rightly _ _ _ _ c.serve.result c.serve.ensures.ends
