use Rattle.kr_configs.proofs.OperationKeys.{once_after, seen, seen_after}
use Rattle.kr_configs.proofs.values.Values.set.Goals as goal

pub invariant_of-self-2 : goal.invariant_of-self-2
invariant_of-self-2 c =
    rw (c.in_ok-insert.ensures.entries, seen_after c.self.inside.named.entries c.args.key c.args.value) (once_after (seen c.self.inside.named.entries) c.args.key.now c.args.value c.self.invariant)

pub returns : goal.returns
returns c = rw (c.in_ok-insert.ensures.entries, ← c.self.view_is) (seen_after c.self.inside.named.entries c.args.key c.args.value)
