use Rattle.std.proofs.Common.{◌≡◌, ◌++◌}
use Rattle.kr_replication.specs.ListedWalks.{keys_of_topic, records_of_keys}
use Rattle.kr_replication.proofs.listed_walks.add_listed.Given as goal

abbrev pub invariant-loop-key : goal.invariant-loop-key
invariant-loop-key g l =
    let change = g.C.Change.change l.rule l.seen in
    l.records ++ records_of_keys change l.seen l.name l.key-iterator ≡ l.fn.records ++ records_of_keys change l.seen l.name (keys_of_topic l.id l.keys)
