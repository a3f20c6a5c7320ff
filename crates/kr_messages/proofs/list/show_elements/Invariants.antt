use Rattle.kr_messages.specs.Layouts.{decoded_at}
use Rattle.kr_messages.proofs.Loops.{TakesSome}
use Rattle.kr_messages.proofs.list.show_elements.Given as goal

abbrev pub invariant-loop : goal.invariant-loop
invariant-loop g l = TakesSome (decoded_at g.T.Shape.form.layout) g.T.Shape.form.json l.count l.counter l.is_further l.fn.from l.from l.fn.out.items l.out.items
