use Rattle.std.proofs.Common.{rules, inr}
use Rattle.kr_words.specs.Notes.{IsBalance}
use Rattle.kr_words.proofs.running.serve_words.Goals as goal

pub returns-in-Some-Balance-clause-served : goal.returns-in-Some-Balance-clause-served
returns-in-Some-Balance-clause-served g c = λ none.
    let is : IsBalance c.args.words.now c.in-Some-Balance.percent = search rules in
    absurd (none (inr (inr (inr (inr (inr (c.in-Some-Balance.percent, is)))))))
