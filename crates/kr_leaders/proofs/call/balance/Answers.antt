use Rattle.kr_leaders.proofs.Endings.{balances_whole, refuses_broken_image, refuses_longer_image, refuses_past}
use Rattle.kr_leaders.proofs.call.balance.Goals as goal

pub returns-clause-complete : goal.returns-clause-complete
returns-clause-complete g c = λ read write.
    let b = c.balance_image in
    balances_whole c.args.percent _ _ _ b.result _ b.ensures.ends (λ is. read (b.ensures.read is)) (λ is. write (b.ensures.write is))

pub returns-clause-past : goal.returns-clause-past
returns-clause-past g c = λ read write.
    let b = c.balance_image in
    refuses_past c.args.percent _ _ _ b.result _ b.ensures.ends (λ is. read (b.ensures.read is)) (λ is. write (b.ensures.write is))

pub returns-clause-broken : goal.returns-clause-broken
returns-clause-broken g c = λ read write.
    let b = c.balance_image in
    refuses_broken_image c.args.percent _ _ _ b.result _ b.ensures.ends (λ is. read (b.ensures.read is)) (λ is. write (b.ensures.write is))

pub returns-clause-longer : goal.returns-clause-longer
returns-clause-longer g c = λ read write.
    let b = c.balance_image in
    refuses_longer_image c.args.percent _ _ _ b.result _ b.ensures.ends (λ is. read (b.ensures.read is)) (λ is. write (b.ensures.write is))
