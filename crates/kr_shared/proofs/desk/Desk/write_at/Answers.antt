use Rattle.std.proofs.Common.{◌∙◌, ap, rules, w64}
use Rattle.std.specs.Prelude.{FitsSigned}
use Rattle.std.proofs.lemmas.Int.{to_z-of_z}
use Rattle.kr_shared.specs.Desks.{DeskState, settled}
use Rattle.kr_shared.proofs.Turning.{request_done}
use Rattle.kr_shared.proofs.desk.Desk.write_at.Goals as goal

pub returns-in-Ok-serve_whole-clause-done : goal.returns-in-Ok-serve_whole-clause-done
returns-in-Ok-serve_whole-clause-done g c =
    let now : FitsSigned w64 c.args.now.now = search rules in
    let floor : FitsSigned w64 c.args.caller.floor = search rules in
    let place : FitsSigned w64 c.tip-place.result = search rules in
    request_done _ _ _ _ (settled c.args.self.now) _ c.args.caller c.args.now.now c.tip-place.result c.in-Ok.basis c.args.call c.in-Ok-serve_whole.field-0
    (c.tip-place.ensures ∙ ap (λ (k : DeskState). k.engine.tip) c.self.view_is) c.in-Ok.ensures
    (rw (to_z-of_z w64 c.args.now.now now, to_z-of_z w64 c.args.caller.floor floor, to_z-of_z w64 c.tip-place.result place) at c.in-Ok-serve_whole.ensures.done)
