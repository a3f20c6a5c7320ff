use Rattle.std.proofs.Common.{◌∙◌, ap, subst}
use Rattle.std.specs.Map.{lookup}
use Rattle.std.specs.Ordering.{int_eq}
use Rattle.kr_contact.specs.Entries.{EntriesSeen, IsEntryAt, IsGapAt}
use Rattle.kr_contact.proofs.Entries.{absent, found, left, none_taken, ordered_left}
use Rattle.kr_contact.proofs.index.Index.take.Goals as goal

pub invariant_of-self : goal.invariant_of-self
invariant_of-self c = rw c.remove.ensures.items (ordered_left c.self.inside.entries.items c.args.broker.now c.in-Ok.at c.self.invariant (subst (λ es. IsEntryAt es c.args.broker.now c.in-Ok.at) c.as_slice.ensures.value c.in-Ok.ensures.found))

pub returns-in-Ok-clause-value : goal.returns-in-Ok-clause-value
returns-in-Ok-clause-value c =
    found c.self.inside.entries.items c.args.broker.now c.in-Ok.at c.self.invariant (subst (λ es. IsEntryAt es c.args.broker.now c.in-Ok.at) c.as_slice.ensures.value c.in-Ok.ensures.found) c.remove.result c.remove.ensures.value
    ∙ ap (λ (seen : EntriesSeen). lookup (int_eq c.args.broker.now) seen.entries) c.self.view_is

pub returns-in-Ok-clause-entries : goal.returns-in-Ok-clause-entries
returns-in-Ok-clause-entries c = rw (c.remove.ensures.items, ← c.self.view_is) (left c.self.inside.entries.items c.args.broker.now c.in-Ok.at c.self.invariant (subst (λ es. IsEntryAt es c.args.broker.now c.in-Ok.at) c.as_slice.ensures.value c.in-Ok.ensures.found))

pub returns-in-Err-clause-value : goal.returns-in-Err-clause-value
returns-in-Err-clause-value c =
    absent c.self.inside.entries.items c.args.broker.now c.in-Err.field-0 (subst (λ es. IsGapAt es c.args.broker.now c.in-Err.field-0) c.as_slice.ensures.value c.in-Err.ensures.absent)
    ∙ ap (λ (seen : EntriesSeen). lookup (int_eq c.args.broker.now) seen.entries) c.self.view_is

pub returns-in-Err-clause-entries : goal.returns-in-Err-clause-entries
returns-in-Err-clause-entries c = rw (← c.self.view_is) (none_taken c.self.inside.entries.items c.args.broker.now c.in-Err.field-0 (subst (λ es. IsGapAt es c.args.broker.now c.in-Err.field-0) c.as_slice.ensures.value c.in-Err.ensures.absent))
