use Rattle.std.proofs.Common.{◌≡◌, ◌∙◌, ap, sym, subst}
use Rattle.std.specs.Prelude.{IfOk, option_and_then}
use Rattle.kr_defs.specs.Settings.{read_minimum}
use Rattle.kr_configs.proofs.RelievedPartitions.{other_minimum, own_minimum}
use Rattle.kr_configs.proofs.reliefs.minimum_after_at.Goals as goal

pub returns-in_ok-value : goal.returns-in_ok-value
returns-in_ok-value g c =
    let own = own_minimum c.args.seen.now c.args.relief.now.entry.now c.args.relief.now.values.now c.is_valid.ensures.configs.ordered c.are_once.ensures c.args.kind.now c.args.name.now (sym c.is_own.ensures ∙ c.if-is_own.true) in
    c.minimum_in.ensures ∙ ap (option_and_then read_minimum) (c.in_ok-value.ensures ∙ sym own)

pub returns-else-is_own : goal.returns-else-is_own
returns-else-is_own g c =
    let other = other_minimum c.args.seen.now c.args.relief.now.entry.now c.args.relief.now.values.now c.is_valid.ensures.configs.ordered c.are_once.ensures c.args.kind.now c.args.name.now (sym c.is_own.ensures ∙ c.if-is_own.false) in
    subst (λ value. IfOk c.minimum_at.result (λ minimum. minimum ≡ option_and_then read_minimum value)) (sym other) c.minimum_at.ensures
