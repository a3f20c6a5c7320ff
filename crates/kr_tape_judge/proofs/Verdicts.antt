-- A refused line is the first that isn't allowed.
use Rattle.std.proofs.Common.{◌≡◌, ◌∙◌, sym, ℕ, ◌<◌, List, refl, ap, subst}
use Rattle.std.specs.Prelude.{Option, None, Some, not, nat_lt}
use Rattle.std.specs.Option.{option_map}
use Rattle.law_quorum.specs.Batches.{StoredImage}
use Rattle.law_link.specs.Links.{no_web}
use Rattle.law_tape.specs.Rules.{TapeState, first_refused, known_fault, line_fault, node_told, tape_begins}
use Rattle.law_tape.specs.Tapes.{IsVerdict}
use Rattle.law_tape.specs.declared.fault.Fault.{Fault}
use Rattle.law_tape.specs.declared.fault.Fault.TheVariants as faults
use Rattle.law_tape.specs.declared.line.Line.{Line}
use Rattle.law_tape.proofs.Allowed.{passes}
use Rattle.law_tape.proofs.EqualityLemmas.{holds_not, lt_true}
use Rattle.law_tape.proofs.Verdicts.{verdicts_are_exact}
use Rattle.kr_tape_judge.specs.declared.verdict.RefusedLine.{RefusedLine}

numbers : (answer : Option RefusedLine) → option_map (λ (r : RefusedLine). r.line) answer ≡ option_map (λ (p : ℕ × Fault). p.0) (option_map (λ (r : RefusedLine). (r.line, r.fault)) answer)
numbers None = refl
numbers (Some r) = refl

pub verdict_of : (folds : List StoredImage) (lines' : List Line) (answer : Option RefusedLine) → option_map (λ (r : RefusedLine). (r.line, r.fault)) answer ≡ first_refused folds 0 tape_begins lines'
    → IsVerdict folds no_web lines' (option_map (λ (r : RefusedLine). r.line) answer)
verdict_of folds lines' answer e =
    subst (IsVerdict folds no_web lines') (sym (numbers answer ∙ ap (option_map (λ (p : ℕ × Fault). p.0)) e)) (verdicts_are_exact folds lines')

pub known_node : (folds : List StoredImage) (s : TapeState) (line : Line) → None ≡ line_fault folds s line → node_told line < 256
known_node folds s line f = lt_true (node_told line) 256 (holds_not _ (passes faults.NoNode _ _ (sym f)).0)

pub ruleset nodes = (known_node)

pub ruleset verdicts = (verdict_of)
