use Rattle.std.proofs.Common.{◌-◌, ◌^◌, ◌∙◌, sym, ap, arith}
use Rattle.kr_defs.specs.Texts.{decimal_up_to}
use Rattle.kr_words.proofs.DecimalTexts.{spells}
use Rattle.kr_words.proofs.seeds.seed_of.Goals as goal

pub returns : goal.returns
returns c = λ seed.
    let so = spells c.args.word.now (2 ^ 32 - 1) seed (omega arith) in
    let is = c.decimal_up_to.ensures ∙ ap (decimal_up_to (2 ^ 32 - 1)) c.as_bytes.ensures.value in (
      λ found. let spelled = so.0 (sym is ∙ found) in let low = spelled.0 in (omega (arith, low), spelled.1),
      λ (low, spelled). is ∙ so.1 (omega (arith, low), spelled),
    )
