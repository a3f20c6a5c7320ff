use Rattle.std.proofs.Common.{◌≡◌, ℕ, List, [], ◌∷◌, subst, sym}
use Rattle.std.specs.Prelude.{◌↔◌, Some}
use Rattle.kr_words.specs.declared.running.Word.TheVariants as forms
use Rattle.kr_words.specs.Notes.{IsBalance, IsNodes}
use Rattle.kr_words.proofs.NumberedWords.{two_words}
use Rattle.kr_words.proofs.running.word_of.Goals as goal

pub returns-in-len2-clause-balance : goal.returns-in-len2-clause-balance
returns-in-len2-clause-balance c = λ percent.
    let list : c.args.words.now ≡ c.word-item-then-words-lt3.result ∷ c.number-item.result ∷ [] =
    two_words c.args.words.now c.word-item-then-words-lt3.result c.number-item.result c.in-len2.len_at_least c.in-len2.len_below c.word-item-then-words-lt3.is c.number-item.is in
    subst (λ (ws : List (List ℕ)). (c.numbered_word.result ≡ Some (forms.Balance percent)) ↔ IsBalance ws percent) (sym list) (c.numbered_word.ensures.balance percent)

pub returns-in-len2-clause-nodes : goal.returns-in-len2-clause-nodes
returns-in-len2-clause-nodes c = λ seed.
    let list : c.args.words.now ≡ c.word-item-then-words-lt3.result ∷ c.number-item.result ∷ [] =
    two_words c.args.words.now c.word-item-then-words-lt3.result c.number-item.result c.in-len2.len_at_least c.in-len2.len_below c.word-item-then-words-lt3.is c.number-item.is in
    subst (λ (ws : List (List ℕ)). (c.numbered_word.result ≡ Some (forms.Nodes seed)) ↔ IsNodes ws seed) (sym list) (c.numbered_word.ensures.nodes seed)
