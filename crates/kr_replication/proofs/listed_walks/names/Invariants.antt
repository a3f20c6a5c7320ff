use Rattle.std.proofs.Common.{◌≡◌}
use Rattle.std.specs.Prelude.{fold}
use Rattle.kr_replication.specs.ListedWalks.{names_of_keys, with_topic_name}
use Rattle.kr_replication.proofs.listed_walks.names.Given as goal

abbrev pub invariant-loop-key : goal.invariant-loop-key
invariant-loop-key g l = fold (with_topic_name l.seen.topics) l.names.entries l.key-iterator ≡ names_of_keys l.seen.topics l.keys
