use Rattle.std.proofs.Common.{◌≡◌, ◌-◌}
use Rattle.kr_wire.specs.Reading.{elements_at}
use Rattle.kr_wire.specs.Schema.{value_at}
use Rattle.kr_wire.proofs.Elements.{with_front}
use Rattle.kr_layout.proofs.get.some_elements.Given as goal

abbrev pub invariant-loop : goal.invariant-loop
invariant-loop g l =
    with_front (value_at g.T.Get.schema) l.list.items (elements_at (value_at g.T.Get.schema) (l.count - l.counter) l.from) ≡ elements_at (value_at g.T.Get.schema) l.count l.fn.from
