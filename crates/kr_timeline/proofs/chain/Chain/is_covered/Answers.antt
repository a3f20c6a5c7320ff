use Rattle.std.proofs.Common.{arith, subst}
use Rattle.std.specs.Bool.{OnTrue, OnFalse}
use Rattle.kr_timeline.specs.Chains.{EndsCovered, EndsOpen}
use Rattle.kr_timeline.proofs.Versions.{covered_one, covered_at, open_at}
use Rattle.kr_timeline.proofs.chain.Chain.is_covered.Goals as goal

pub returns-then-count-eq1-clause-covered : goal.returns-then-count-eq1-clause-covered
returns-then-count-eq1-clause-covered g c = subst (λ s. OnTrue c.is_up_to.result (EndsCovered c.args.number s)) c.self.view_is
    (covered_one c.args.number c.self.inside.newest c.self.inside.older.items c.is_up_to.result (omega (arith, c.self.inside.older.ok)) c.is_up_to.ensures)

pub returns-in-Some-clause-covered : goal.returns-in-Some-clause-covered
returns-in-Some-clause-covered g c = subst (λ s. OnTrue c.is_up_to-in-Some.result (EndsCovered c.args.number s)) c.self.view_is
    (covered_at c.args.number c.self.inside.newest c.self.inside.older.items c.len-count.result c.in-Some.version.now c.is_up_to-in-Some.result (omega (arith, c.self.inside.older.ok)) (omega arith) c.in-Some.ensures.lookup c.is_up_to-in-Some.ensures)

pub returns-in-Some-clause-open : goal.returns-in-Some-clause-open
returns-in-Some-clause-open g c = subst (λ s. OnFalse c.is_up_to-in-Some.result (EndsOpen c.args.number s)) c.self.view_is
    (open_at c.args.number c.self.inside.newest c.self.inside.older.items c.len-count.result c.in-Some.version.now c.is_up_to-in-Some.result (omega (arith, c.self.inside.older.ok)) (omega arith) c.in-Some.ensures.lookup c.is_up_to-in-Some.ensures)
