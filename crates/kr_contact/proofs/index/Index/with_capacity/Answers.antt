use Rattle.kr_contact.proofs.Entries.{none_ordered}
use Rattle.kr_contact.proofs.index.Index.with_capacity.Goals as goal

pub invariant_of-result : goal.invariant_of-result
invariant_of-result c = none_ordered _ c.in_ok-entries.ensures.items
