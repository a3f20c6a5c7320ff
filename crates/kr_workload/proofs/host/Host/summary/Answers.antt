use Rattle.std.proofs.Common.{◌∙◌, ap, w64}
use Rattle.std.proofs.lemmas.Int.{to_z-of_z}
use Rattle.std.specs.Prelude.{unsigned_abs}
use Rattle.kr_store.specs.Images.{Images}
use Rattle.kr_workload.specs.Summary.{led_of}
use Rattle.kr_workload.proofs.Sums.{summed}
use Rattle.kr_workload.proofs.host.Host.summary.Goals as goal

pub returns : goal.returns
returns c = λ seed made stands few.
    summed seed made c.args.self.now stands few _ _
    (c.unsigned_abs.ensures.value ∙ ap unsigned_abs (to_z-of_z w64 c.committed.result (record { sfits = c.committed.type_inv }) ∙ c.committed.ensures))
    (c.count_led.ensures ∙ ap led_of (c.tip-seen.ensures ∙ ap (λ (i : Images). i.tip) c.store.ensures))
