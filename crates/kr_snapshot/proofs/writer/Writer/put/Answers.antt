use Rattle.std.proofs.Common.{ℕ, ◌+◌, sym, subst}
use Rattle.kr_snapshot.specs.Written.{Written, IsUnderway, MayPut}
use Rattle.kr_snapshot.proofs.Written.{goes_on, put_within}
use Rattle.kr_snapshot.proofs.writer.Writer.put.Goals as goal

pub returns-in_err-items-clause-text : goal.returns-in_err-items-clause-text
returns-in_err-items-clause-text c =
    goes_on c.args.self.now c.args.records.now (subst (λ (w : Written). IsUnderway w.count w.done) c.self.view_is c.self.invariant) c.requires

pub invariant_of-self : goal.invariant_of-self
invariant_of-self c =
    let may : MayPut (record { count = c.self.inside.count; done = c.self.inside.done }) c.args.records.now = subst (λ (w : Written). MayPut w c.args.records.now) (sym c.self.view_is) c.requires in
    let within : IsUnderway c.self.inside.count c.self.inside.done = c.self.invariant in
    let after = put_within (record { count = c.self.inside.count; done = c.self.inside.done }) c.args.records.now within may in
    subst (λ (n : ℕ). IsUnderway c.self.inside.count (c.self.inside.done + n)) (sym c.len.ensures) after
