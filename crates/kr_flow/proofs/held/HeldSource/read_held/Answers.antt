use Rattle.std.proofs.Common.{◌∙◌, ap, take}
use Rattle.kr_flow.proofs.Holding.{read_of_held}
use Rattle.kr_flow.proofs.held.HeldSource.read_held.Goals as goal

pub returns-clause-bytes : goal.returns-clause-bytes
returns-clause-bytes g c =
    read_of_held (g.S.Source.left c.args.self.now.inner) c.args.self.now.held.items _ c.args.self.now.at c.copy_front-count.result (c.copy_front-count.ensures.copied ∙ ap (take c.copy_front-count.result) c.held.ensures)
