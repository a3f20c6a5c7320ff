use Rattle.std.proofs.Common.{ℤ, List, pos, subst, drop, get_or, ◌+◌, ◌<◌, length}
use Rattle.std.proofs.lemmas.List.{drop_more}
use Rattle.kr_replicas.proofs.Listed.{Left, grows_then, left_more}
use Rattle.kr_replicas.proofs.brokers.BrokerPartitions.add.Goals as goal

pub loop-broker-preserved : goal.loop-broker-preserved
loop-broker-preserved c =
    let i = c.loop-broker.broker-index in
    let replicas = c.args.replicas.now in
    let now = c.loop-broker.self-inside.listed.entries in
    let then = c.add_key.new.listed.entries in
    let left = subst (λ (ids : List ℤ). Left replicas c.args.key.now c.args.self.now ids now) (drop_more replicas i (pos 0) (subst (λ (ids : List ℤ). i < length ids) c.as_slice-broker-items.ensures c.loop-broker-test.true)) c.loop-broker.invariant.0 in
    (left_more replicas c.args.key.now c.args.self.now now then (get_or replicas i (pos 0)) (drop (i + 1) replicas) (rw c.as_slice-broker-items.ensures at c.in_ok-add_key.ensures.added) left, grows_then c.args.self.now now then c.loop-broker.invariant.1 c.add_key.ensures.grows)
