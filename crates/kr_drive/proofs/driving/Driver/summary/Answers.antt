use Rattle.std.proofs.Common.{rules, ◌≡◌, ◌∙◌, ap, List, length, w64, to_z, of_z}
use Rattle.std.specs.Prelude.{filter}
use Rattle.kr_nodes.specs.declared.told.ToldReply.{ToldReply}
use Rattle.kr_workload.specs.Session.{options}
use Rattle.kr_drive.specs.Driving.{run_behind}
use Rattle.kr_drive.specs.inner.Standing.{stands}
use Rattle.kr_drive.proofs.StandingReplies.{same_counted, same_numbers}
use Rattle.kr_drive.proofs.driving.Driver.summary.Goals as goal

pub returns : goal.returns
returns c = λ seed d has.
    let long : to_z w64 (of_z w64 c.length.result) ≡ c.length.result = search rules in
    same_numbers _ _ _ _ _ _ _ _ has.made c.from.ensures (long ∙ c.length.ensures (options seed) 3 d.past has.cluster)
    (c.count_standing.ensures
    ∙ (ap (λ (l : List ToldReply). length (filter stands l)) (c.told.ensures (options seed) 3 d.past has.cluster) ∙ same_counted (run_behind seed d).told))
