use Rattle.std.proofs.Common.{◌∙◌, rules, sym, w64}
use Rattle.std.specs.Prelude.{FitsSigned}
use Rattle.std.proofs.lemmas.Int.{to_z-of_z}
use Rattle.std.proofs.lemmas.Result.{on_ok_weaker}
use Rattle.kr_shared.specs.Desks.{settled}
use Rattle.kr_shared.proofs.Turning.{write_done}
use Rattle.kr_shared.proofs.desk.Desk.write.Goals as goal

pub returns-clause-done : goal.returns-clause-done
returns-clause-done g c =
    let now : FitsSigned w64 c.now-now.result = search rules in
    on_ok_weaker c.write_at.result
    (write_done _ (settled c.args.self.now) (settled c.write_at.new.self) c.args.caller c.now-now.result c.args.call c.now-now.ensures.last c.now-now.ensures.asks (sym c.is_behind.ensures ∙ c.if-is_behind.false))
    (rw (to_z-of_z w64 c.now-now.result now) at c.write_at.ensures.done)
