use Rattle.std.proofs.Common.{◌≡◌, ◌∙◌, arith, refl, subst, sym}
use Rattle.std.specs.VecDeque.{deque_len}
use Rattle.kr_timeline.specs.Chains.{is_gone}
use Rattle.kr_timeline.proofs.Versions.{gone_at}
use Rattle.kr_timeline.proofs.chain.Chain.is_gone.Goals as goal

pub returns-in-Some-clause-value : goal.returns-in-Some-clause-value
returns-in-Some-clause-value g c = subst (λ s. c.is_gone.result ≡ is_gone c.args.number s) c.self.view_is
    (c.is_gone.ensures ∙ sym (gone_at c.args.number c.self.inside.newest c.self.inside.older.items (deque_len c.self.inside.older) c.in-Some.version.now (omega (arith, c.self.inside.older.ok)) (c.in-Some.ensures.variant.0 refl) c.in-Some.ensures.lookup))
