use Rattle.std.proofs.Common.{◌∙◌, ℕ, List, ap, map, subst}
use Rattle.std.specs.Prelude.{OnOk}
use Rattle.kr_flags.specs.Words.{AreTaken, AreWrong}
use Rattle.kr_flags.proofs.reading.settings.Goals as goal

pub returns-clause-taken : goal.returns-clause-taken
returns-clause-taken c =
    subst (λ (words : List (List ℕ)). OnOk c.settings_in.result (AreTaken words)) (ap (map (λ s. s.now)) c.as_slice.ensures.value ∙ c.in_ok-words.ensures) c.settings_in.ensures.taken

pub returns-clause-refused : goal.returns-clause-refused
returns-clause-refused c = λ refused.
    subst AreWrong (ap (map (λ s. s.now)) c.as_slice.ensures.value ∙ c.in_ok-words.ensures) (c.settings_in.ensures.refused refused)
