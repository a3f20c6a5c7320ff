use Rattle.kr_configs.proofs.ListParts.{known_more}
use Rattle.kr_configs.proofs.parts.Parts.with.Goals as goal

pub invariant_of-self : goal.invariant_of-self
invariant_of-self c =
    rw c.in_ok-push.ensures.items (known_more c.self.inside.known.keys c.insert.new.self.keys c.self.inside.list.items c.args.part c.in_ok-insert.ensures.updates.0 c.self.invariant)
