use Rattle.kr_describe.proofs.NamesInOrder.{keys_with}
use Rattle.kr_describe.proofs.names.add_sorted.Goals as goal

pub returns : goal.returns
returns c = rw (c.in_ok-insert.ensures.entries, c.in_ok-copied.ensures) (keys_with {V = Unit {0}} c.args.sorted.now.entries c.args.name.now tt)
