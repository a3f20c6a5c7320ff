use Rattle.std.proofs.Common.{◌∙◌, sym, ap, ◌+◌, ◌-◌, ◌*◌, suc, drop, get_or, drop-cons, arith}
use Rattle.kr_defs.specs.Texts.{number_behind}
use Rattle.kr_defs.proofs.Decimal.{too_great}
use Rattle.kr_flags.proofs.numbers.long_up_to.Goals as goal

pub returns-then-number-from : goal.returns-then-number-from
returns-then-number-from c =
    let text = c.args.text.now in
    let at = c.loop-byte.byte-index in
    let spelled = ap (number_behind c.loop-byte.number) (sym (drop-cons text at 0 c.loop-byte-test.true)) ∙ c.loop-byte.invariant.spelled in
    too_great c.args.greatest (c.loop-byte.number * 10 + (get_or text at 0 - 48)) text (drop (suc at) text) spelled (omega (arith, c.if-number-from.true, c.from.ensures, c.saturating_sub.ensures, c.from-in-loop-byte.ensures))
