use Rattle.std.proofs.Common.{◌∙◌, ap, w64}
use Rattle.std.proofs.lemmas.Int.{to_z-of_z}
use Rattle.kr_store.specs.Images.{Images}
use Rattle.kr_workload.proofs.Goings.{heartbeat_seen}
use Rattle.kr_workload.proofs.host.Host.heartbeat_now.Goals as goal

pub returns : goal.returns
returns c = λ seed made stands.
    c.heartbeat.ensures
    ∙ heartbeat_seen seed made c.args.self.now stands _ _ (c.tip-seen.ensures ∙ ap (λ (i : Images). i.tip) c.store.ensures) (to_z-of_z w64 c.tip.result (record { sfits = c.tip.type_inv }) ∙ c.tip.ensures) c.args.broker c.args.want_fence
