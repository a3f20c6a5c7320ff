use Rattle.std.proofs.Common.{◌≡◌, List, [], ℕ, Some, rules, subst}
use Rattle.kr_leaders.specs.Endings.{BalanceEnds}
use Rattle.testlib_codec_answers.proofs.balances.balance_answer.Goals as goal

pub returns : goal.returns
returns c =
    let left = c.balance-answer.new.input.left in
    let written = c.balance-answer.new.output.written in
    let began : c.new-input.result.left ≡ c.args.bytes.items = search rules in
    let empty : c.in_ok-output.output.written ≡ [] = search rules in
    record {
      left = left;
      written = written;
      answer = c.balance-answer.result;
      ends =
          subst (λ (bytes : List ℕ). BalanceEnds c.args.percent (Some bytes) (Some left) (Some []) (Some written) c.balance-answer.result) began
          (subst (λ (old : List ℕ). BalanceEnds c.args.percent (Some c.new-input.result.left) (Some left) (Some old) (Some written) c.balance-answer.result) empty c.balance-answer.ensures.ends);
      words = rw (c.as_slice-2.ensures.value, c.written.ensures) at c.in_ok-balance_text.ensures;
    }
