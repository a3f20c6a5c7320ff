use Rattle.std.proofs.Common.{◌≡◌, ◌∷◌, subst}
use Rattle.std.specs.Bool.{OnTrue}
use Rattle.kr_timeline.specs.Chains.{newer}
use Rattle.kr_timeline.proofs.Versions.{newer_popped}
use Rattle.kr_timeline.proofs.chain.Chain.drop_oldest.Goals as goal

pub returns-clause-left : goal.returns-clause-left
returns-clause-left g c = subst (λ s. OnTrue c.is_some.result (c.self.inside.newest ∷ c.pop_back.new.self.items ≡ newer s)) c.self.view_is
    (newer_popped c.self.inside.newest c.self.inside.older.items c.pop_back.new.self.items c.pop_back.result c.is_some.result c.pop_back.ensures.items c.is_some.ensures)
