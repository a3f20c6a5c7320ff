-- Commands of a text and a number.
use Rattle.std.proofs.Common.{◌≡◌, ◌∙◌, ℕ, ◌<◌, ◌≤◌, List, [], ◌∷◌, length, get_or, sym, arith}
use Rattle.std.specs.Fmt.{decimal}
use Rattle.std.specs.Prelude.{◌↔◌, Some, codes}
use Rattle.kr_words.specs.declared.running.Word.TheVariants as forms
use Rattle.kr_words.specs.Notes.{IsBalance}

second : (a b c d : List ℕ) → a ∷ b ∷ [] ≡ c ∷ d ∷ [] → b ≡ d
second a b c d is = cc

both : (a b c d : List ℕ) → a ≡ c → b ≡ d → a ∷ b ∷ [] ≡ c ∷ d ∷ []
both a b c d first then = cc

pub balance_is : (word number said : List ℕ) (found percent : ℕ) → word ≡ codes "balance" → said ≡ number → ((Some found ≡ Some percent) ↔ ((percent ≤ 100) × (said ≡ decimal percent)))
    → (Some (forms.Balance found) ≡ Some (forms.Balance percent)) ↔ IsBalance (word ∷ number ∷ []) percent
balance_is word number said found percent is same so = (
  λ one. let spelled = so.0 cc in (spelled.0, both word number (codes "balance") (decimal percent) is (sym same ∙ spelled.1)),
  λ (low, two). let one = so.1 (low, same ∙ second word number (codes "balance") (decimal percent) two) in cc,
)

pub two_words : (words : List (List ℕ)) (first second : List ℕ) → 2 ≤ length words → length words < 3 → first ≡ get_or words 0 first → second ≡ get_or words 1 second → words ≡ first ∷ second ∷ []
two_words [] first second many few one two = absurd (omega (arith, many))
two_words (a ∷ []) first second many few one two = absurd (omega (arith, many))
two_words (a ∷ b ∷ []) first second many few one two = both a b first second (sym one) (sym two)
two_words (a ∷ b ∷ c ∷ words) first second many few one two = absurd (omega (arith, few))
