use Rattle.kr_fold.proofs.Completeness.{dumps_whole, refuses_broken, refuses_longer}
use Rattle.kr_fold.proofs.calls.dump.Goals as goal

pub returns-clause-complete : goal.returns-clause-complete
returns-clause-complete g c = λ read write.
    dumps_whole _ _ _ c.dump_image.result _ c.dump_image.ensures.ends (λ is. read (c.dump_image.ensures.read is)) (λ is. write (c.dump_image.ensures.write is))

pub returns-clause-broken : goal.returns-clause-broken
returns-clause-broken g c = λ read write.
    refuses_broken _ _ _ c.dump_image.result _ c.dump_image.ensures.ends (λ is. read (c.dump_image.ensures.read is)) (λ is. write (c.dump_image.ensures.write is))

pub returns-clause-longer : goal.returns-clause-longer
returns-clause-longer g c = λ read write.
    refuses_longer _ _ _ c.dump_image.result _ c.dump_image.ensures.ends (λ is. read (c.dump_image.ensures.read is)) (λ is. write (c.dump_image.ensures.write is))
