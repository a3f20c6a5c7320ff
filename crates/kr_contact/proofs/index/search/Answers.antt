use Rattle.std.proofs.Common.{rules}
use Rattle.std.proofs.lemmas.List.Sorted.{answers_always}
use Rattle.kr_contact.proofs.Entries.{searched}
use Rattle.kr_contact.proofs.index.search.Goals as goal

pub returns : goal.returns
returns c =
    let looked = c.binary_search_by_key.ensures in
    let ends = searched c.args.entries.now c.args.broker.now c.binary_search_by_key.result c.requires looked.bound (looked.position (λ e. e.0) (answers_always _ _ _ (λ f a r t called. search rules))) in
    record { found = ends.found; within = ends.within; absent = ends.absent; bound = ends.bound }
