use Rattle.std.proofs.Common.{◌∙◌, sym, subst, ℤ}
use Rattle.std.specs.Prelude.{Result}
use Rattle.kr_calls.specs.declared.deciding.Draft.{Draft}
use Rattle.kr_calls.specs.declared.elect_leaders.PartitionElectionResult.{PartitionElectionResult}
use Rattle.kr_rules.specs.Refusals.{Judges}
use Rattle.kr_partitions.proofs.LeaderlessElections.{elects_by}
use Rattle.kr_partitions.proofs.elections.elects_any.Goals as goal

pub returns : goal.returns
returns g c =
    let P : Result (Draft PartitionElectionResult) ℤ → Type 0 = λ r. Judges c.with_leader.result r in
    subst P (sym (elects_by c.args.options.now c.args.seen.now (c.args.name.now, c.args.index.now) c.args.topic.now c.args.partition.now c.in_ok-change.change (sym c.has_leader.ensures ∙ c.if-has_leader.false) c.in_ok-change.ensures)) c.with_leader.ensures
