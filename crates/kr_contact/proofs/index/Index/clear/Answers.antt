use Rattle.kr_contact.proofs.Entries.{none_ordered}
use Rattle.kr_contact.proofs.index.Index.clear.Goals as goal

pub invariant_of-self : goal.invariant_of-self
invariant_of-self c = none_ordered _ c.clear.ensures.items
