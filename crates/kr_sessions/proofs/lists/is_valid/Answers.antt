use Rattle.std.proofs.Common.{◌+ℤ◌, pos, int_lt, Bool, false, sym, ap, ◌∙◌}
use Rattle.std.specs.Option.{option_map_or}
use Rattle.kr_defs.specs.declared.basis.Contact.{Contact}
use Rattle.kr_sessions.proofs.ValidContacts.{found_holds}
use Rattle.kr_sessions.proofs.lists.is_valid.Goals as goal

pub returns-in-Some : goal.returns-in-Some
returns-in-Some c =
    let test : Contact → Bool = λ d. int_lt c.args.now.now (d.time +ℤ pos c.args.session_ms.now) in
    c.is_heard.ensures ∙ ap (λ o. option_map_or test o false) (sym c.in-Some.is ∙ c.contact_of.ensures) ∙ found_holds test c.args.contacts.now.contacts c.args.broker.now c.requires

pub returns-in-None : goal.returns-in-None
returns-in-None c =
    let test : Contact → Bool = λ d. int_lt c.args.now.now (d.time +ℤ pos c.args.session_ms.now) in
    ap (λ o. option_map_or test o false) (sym c.in-None.is ∙ c.contact_of.ensures) ∙ found_holds test c.args.contacts.now.contacts c.args.broker.now c.requires
