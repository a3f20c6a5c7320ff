use Rattle.std.proofs.Common.{◌∙◌, sym, ap, arith}
use Rattle.kr_defs.specs.Texts.{decimal_up_to}
use Rattle.kr_words.proofs.DecimalTexts.{spells}
use Rattle.kr_words.proofs.percents.percent_of.Goals as goal

pub returns-in-Some : goal.returns-in-Some
returns-in-Some c = λ percent.
    let so = spells c.args.word.now 100 percent (omega arith) in
    let is = c.in-Some.ensures ∙ ap (decimal_up_to 100) c.as_bytes.ensures.value in
    (λ found. so.0 (sym is ∙ found), λ spelled. is ∙ so.1 spelled)

pub returns-in-None : goal.returns-in-None
returns-in-None c = λ percent.
    let so = spells c.args.word.now 100 percent (omega arith) in
    let is = c.in-None.ensures ∙ ap (decimal_up_to 100) c.as_bytes.ensures.value in
    (λ found. so.0 (sym is ∙ found), λ spelled. is ∙ so.1 spelled)
