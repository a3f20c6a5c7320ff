use Rattle.std.proofs.Common.{◌≡◌, rules}
use Rattle.std.specs.Prelude.{codes}
use Rattle.kr_words.proofs.NumberedWords.{balance_is}
use Rattle.kr_words.proofs.running.balance_word.Goals as goal

pub returns-in-Some-clause-balance : goal.returns-in-Some-clause-balance
returns-in-Some-clause-balance c = λ percent.
    let word : c.args.word.now ≡ codes "balance" = search rules in
    let number : c.as_str-2.result.now ≡ c.args.number.now = search rules in
    balance_is c.args.word.now c.args.number.now c.as_str-2.result.now c.in-Some.percent percent word number (c.in-Some.ensures percent)
