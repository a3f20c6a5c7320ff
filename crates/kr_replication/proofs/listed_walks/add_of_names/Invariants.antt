use Rattle.std.proofs.Common.{◌≡◌, ◌++◌}
use Rattle.kr_replication.specs.ListedWalks.{records_of_names}
use Rattle.kr_replication.proofs.listed_walks.add_of_names.Given as goal

abbrev pub invariant-loop-name : goal.invariant-loop-name
invariant-loop-name g l =
    let change = g.C.Change.change l.rule l.seen in
    l.records ++ records_of_names change l.seen l.keys l.name-iterator ≡ l.fn.records ++ records_of_names change l.seen l.keys l.names.entries
