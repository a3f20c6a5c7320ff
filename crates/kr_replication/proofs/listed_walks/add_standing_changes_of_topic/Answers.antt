use Rattle.std.proofs.Common.{◌≡◌, ◌++◌, List, subst}
use Rattle.std.specs.Prelude.{OnOk}
use Rattle.kr_defs.specs.declared.record.Record.{Record}
use Rattle.kr_replicas.specs.BrokerPartitions.{has_standing_by}
use Rattle.kr_replication.proofs.ListedWalks.{topic_changes}
use Rattle.kr_replication.proofs.listed_walks.add_standing_changes_of_topic.Goals as goal

pub returns : goal.returns
returns g c =
    let change = g.C.Change.change c.args.rule.now c.args.seen.now in
    subst (λ (rs : List Record). OnOk c.add_listed.result (c.add_listed.new.records ≡ c.args.records.now ++ rs))
    (topic_changes change c.args.seen.now has_standing_by c.standing_keys-keys.result.now c.is_valid.ensures c.as_set.ensures.ordered c.standing_keys-keys.ensures c.requires c.args.name.now c.args.id)
    c.add_listed.ensures
