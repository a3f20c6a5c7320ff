use Rattle.std.proofs.Common.{◌∙◌, ap, subst}
use Rattle.std.specs.Map.{lookup}
use Rattle.std.specs.Ordering.{int_eq}
use Rattle.kr_contact.specs.Entries.{EntriesSeen, IsEntryAt, IsGapAt}
use Rattle.kr_contact.proofs.Entries.{absent, found}
use Rattle.kr_contact.proofs.index.Index.place_of.Goals as goal

pub returns-in-Ok : goal.returns-in-Ok
returns-in-Ok c =
    found c.self.inside.entries.items c.args.broker.now c.in-Ok.at c.self.invariant (subst (λ es. IsEntryAt es c.args.broker.now c.in-Ok.at) c.as_slice.ensures.value c.in-Ok.ensures.found) c.index.result.now c.index.ensures
    ∙ ap (λ (seen : EntriesSeen). lookup (int_eq c.args.broker.now) seen.entries) c.self.view_is

pub returns-in-Err : goal.returns-in-Err
returns-in-Err c =
    absent c.self.inside.entries.items c.args.broker.now c.in-Err.field-0 (subst (λ es. IsGapAt es c.args.broker.now c.in-Err.field-0) c.as_slice.ensures.value c.in-Err.ensures.absent)
    ∙ ap (λ (seen : EntriesSeen). lookup (int_eq c.args.broker.now) seen.entries) c.self.view_is
