use Rattle.std.proofs.Common.{◌∙◌, ap, sym, w32}
use Rattle.std.proofs.lemmas.Int.{to_z-of_z}
use Rattle.std.proofs.lemmas.Result.{IfOk-weaker}
use Rattle.std.specs.Prelude.{ℤ, pos}
use Rattle.kr_defs.specs.Image.{Image}
use Rattle.kr_store.specs.Images.{Images}
use Rattle.kr_workload.specs.Requests.{report}
use Rattle.kr_workload.proofs.Goings.{image_seen}
use Rattle.kr_workload.proofs.host.Host.report_now.Goals as goal

pub returns : goal.returns
returns c =
    let index = to_z-of_z w32 c.index_of.result (record { sfits = c.index_of.type_inv }) ∙ c.index_of.ensures in
    IfOk-weaker c.report.result _ _ (λ request is seed made stands.
    is
    ∙ (ap (λ (z : ℤ). report c.tip-seen.result c.args.topic z) index
    ∙ ap (λ (i : Image). report i c.args.topic (pos c.args.partition)) ((c.tip-seen.ensures ∙ ap (λ (i : Images). i.tip) c.store.ensures) ∙ sym (image_seen seed made c.args.self.now stands)))) c.report.ensures
