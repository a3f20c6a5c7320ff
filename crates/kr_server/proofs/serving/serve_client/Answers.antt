use Rattle.std.proofs.Common.{sym, subst}
use Rattle.kr_server.specs.inner.Paging.{HoldsAlone}
use Rattle.kr_server.proofs.Ends.{copy_cause, gives_back_last, holds_none_but, served_misses, served_onward}
use Rattle.kr_server.proofs.Streams.{serves_messages, serves_up_to_break}
use Rattle.kr_server.proofs.serving.serve_client.Goals as goal

pub returns-clause-served : goal.returns-clause-served
returns-clause-served g c = (c.serve_messages-end.new.seat, c.serve_messages-end.ensures.served, gives_back_last _ _ _ _ c.let_go.result c.let_go.ensures.gave)

pub returns-clause-onward : goal.returns-clause-onward
returns-clause-onward g c = served_onward _ _ _ _ _ c.let_go.result c.let_go.ensures.gave c.serve_messages-end.result c.serve_messages-end.ensures.served

pub returns-clause-misses : goal.returns-clause-misses
returns-clause-misses g c = served_misses _ _ _ _ _ c.let_go.result c.let_go.ensures.gave c.serve_messages-end.result c.serve_messages-end.ensures.served

pub returns-clause-none : goal.returns-clause-none
returns-clause-none g c = λ is.
    let alone = c.serve_messages-end.ensures.places.alone (subst (HoldsAlone c.args.seat.now.held) (sym c.none-paging.ensures) is) in
    holds_none_but _ _ _ _ c.let_go.result c.let_go.ensures.gave alone (c.let_go.ensures.places.alone alone)

pub returns-clause-copy : goal.returns-clause-copy
returns-clause-copy g c = copy_cause _ _ _ _ _ c.let_go.result c.let_go.ensures.gave c.serve_messages-end.result c.serve_messages-end.ensures.served

pub returns-clause-complete : goal.returns-clause-complete
returns-clause-complete g c = λ read write copy.
    serves_messages _ _ c.serve_messages-end.result c.serve_messages-end.ensures.served (λ is. read (c.serve_messages-end.ensures.read is)) (λ is. write (c.serve_messages-end.ensures.write is))
    (λ is. copy (copy_cause _ _ _ _ _ c.let_go.result c.let_go.ensures.gave c.serve_messages-end.result c.serve_messages-end.ensures.served is))

pub returns-clause-broken : goal.returns-clause-broken
returns-clause-broken g c = λ read write copy.
    serves_up_to_break _ _ c.serve_messages-end.result c.serve_messages-end.ensures.served (λ is. read (c.serve_messages-end.ensures.read is)) (λ is. write (c.serve_messages-end.ensures.write is))
    (λ is. copy (copy_cause _ _ _ _ _ c.let_go.result c.let_go.ensures.gave c.serve_messages-end.result c.serve_messages-end.ensures.served is))
