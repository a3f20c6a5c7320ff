use Rattle.std.proofs.Common.{ℕ}
use Rattle.kr_workload.specs.inner.Standing.{Goes}
use Rattle.kr_workload.specs.Session.{create, steps}
use Rattle.kr_workload.proofs.host.Host.create_topics.Given as goal

abbrev pub invariant-loop-n : goal.invariant-loop-n
invariant-loop-n g l = Goes l.fn.self l.self (λ (seed : ℕ). steps l.n (create seed)) l.n 0
