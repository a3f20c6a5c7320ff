use Rattle.std.proofs.Common.{◌≡◌, ◌-◌}
use Rattle.kr_wire.specs.Reading.{elements_at}
use Rattle.kr_wire.specs.Schema.{value_at}
use Rattle.kr_wire.proofs.Elements.{with_front}
use Rattle.kr_pages.specs.Messages.{topic_request}
use Rattle.kr_pages.proofs.request.some_names.Given as goal

abbrev pub invariant-loop : goal.invariant-loop
invariant-loop l =
    with_front (value_at topic_request) l.list.items (elements_at (value_at topic_request) (l.count - l.counter) l.from) ≡ elements_at (value_at topic_request) l.count l.fn.from
