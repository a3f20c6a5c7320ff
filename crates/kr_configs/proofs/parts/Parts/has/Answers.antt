use Rattle.std.proofs.Common.{◌∙◌, ap}
use Rattle.std.specs.Prelude.{bytes_eq}
use Rattle.std.specs.List.{list_any}
use Rattle.kr_configs.proofs.ListParts.{among_seen}
use Rattle.kr_configs.proofs.parts.Parts.has.Goals as goal

pub returns : goal.returns
returns c =
    c.contains.ensures ∙ (c.self.invariant c.args.part.now ∙ (among_seen c.args.part.now c.self.inside.list.items ∙ ap (list_any (bytes_eq c.args.part.now)) c.self.view_is))
