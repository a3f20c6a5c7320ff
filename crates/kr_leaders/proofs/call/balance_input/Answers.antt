use Rattle.std.proofs.Common.{◌∙◌, sym, ap, rules, w64}
use Rattle.std.specs.Prelude.{FitsSigned}
use Rattle.std.proofs.lemmas.Int.{to_z-of_z}
use Rattle.kr_model.specs.World.{is_far}
use Rattle.kr_leaders.proofs.Endings.{balanced_of, fault_of, past_of}
use Rattle.kr_leaders.proofs.call.balance_input.Goals as goal

pub returns-in-Err-clause-fault : goal.returns-in-Err-clause-fault
returns-in-Err-clause-fault g c = fault_of _ _ c.in-Err.fault c.in-Err.ensures.fault

pub returns-then-is_far-clause-fault : goal.returns-then-is_far-clause-fault
returns-then-is_far-clause-fault g c =
    let i = c.in-Ok.image in
    let fits : FitsSigned w64 i.offset = search rules in
    let far = ap is_far (sym (to_z-of_z w64 i.offset fits)) ∙ (sym c.is_far.ensures ∙ c.if-is_far.true) in
    past_of _ _ i.bytes.items i.offset i.store.tip c.in-Ok.ensures.took c.in-Ok.ensures.image far

pub returns-clause-text : goal.returns-clause-text
returns-clause-text g c =
    let i = c.in-Ok.image in
    let fits : FitsSigned w64 i.offset = search rules in
    let near = ap is_far (sym (to_z-of_z w64 i.offset fits)) ∙ (sym c.is_far.ensures ∙ c.if-is_far.false) in
    balanced_of _ _ c.args.percent i.bytes.items c.in_ok-balanced_text.field-0.items i.offset i.store.tip c.rounds_balance.ensures c.in-Ok.ensures.took c.in-Ok.ensures.image near c.in_ok-balanced_text.ensures
