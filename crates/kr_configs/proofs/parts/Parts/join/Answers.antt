use Rattle.std.proofs.Common.{◌∙◌, ℕ, List, [], ◌∷◌, ap}
use Rattle.std.specs.Borrow.{Bor}
use Rattle.std.specs.List.{join_by}
use Rattle.kr_defs.specs.Texts.{joined}
use Rattle.kr_configs.proofs.ListParts.{joined_rows}
use Rattle.kr_configs.proofs.parts.Parts.join.Goals as goal

pub returns : goal.returns
returns c =
    c.from_string.ensures ∙ (c.in_ok-text.ensures.ok ∙ (ap (join_by (λ (s : Bor (List ℕ)). s.now) (44 ∷ [])) c.deref.ensures.value ∙ (joined_rows 44 c.self.inside.list.items ∙ ap joined c.self.view_is)))
