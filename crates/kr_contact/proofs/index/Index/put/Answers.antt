use Rattle.std.proofs.Common.{◌≡◌, ◌<◌, arith, subst, sym}
use Rattle.std.specs.Prelude.{List, vec_capacity, vec_len}
use Rattle.std.specs.List.{insert}
use Rattle.kr_contact.specs.Entries.{IsEntryAt, IsGapAt}
use Rattle.kr_contact.proofs.Entries.{inserted_so, more, not_fresh, ordered_more}
use Rattle.kr_contact.proofs.index.Index.put.Goals as goal

pub invariant_of-self : goal.invariant_of-self
invariant_of-self c =
    let room = rw (← c.self.view_is) at c.requires.room in
    let is = inserted_so c.insert.result c.insert.new.self.items c.self.inside.entries.items _ c.insert.ensures.items (c.insert.ensures.succeeds (omega (arith, room))) in
    rw (is, c.entry_of.ensures) (ordered_more c.self.inside.entries.items c.args.broker.now c.in-Err.at (subst (λ es. IsGapAt es c.args.broker.now c.in-Err.at) c.as_slice.ensures.value c.in-Err.ensures.absent) c.args.place c.self.invariant)

pub returns-in-Err-clause-entries : goal.returns-in-Err-clause-entries
returns-in-Err-clause-entries c =
    let room = rw (← c.self.view_is) at c.requires.room in
    let is = inserted_so c.insert.result c.insert.new.self.items c.self.inside.entries.items _ c.insert.ensures.items (c.insert.ensures.succeeds (omega (arith, room))) in
    rw (is, c.entry_of.ensures, ← c.self.view_is) (more c.self.inside.entries.items c.args.broker.now c.in-Err.at (subst (λ es. IsGapAt es c.args.broker.now c.in-Err.at) c.as_slice.ensures.value c.in-Err.ensures.absent) c.args.place)

pub returns-in-Ok-clause-entries : goal.returns-in-Ok-clause-entries
returns-in-Ok-clause-entries c = absurd (not_fresh c.self.inside.entries.items c.args.broker.now c.in-Ok.field-0 c.self.invariant (subst (λ es. IsEntryAt es c.args.broker.now c.in-Ok.field-0) c.as_slice.ensures.value c.in-Ok.ensures.found) (rw (← c.self.view_is) at c.requires.fresh))

pub returns-in-Ok-clause-len : goal.returns-in-Ok-clause-len
returns-in-Ok-clause-len c = absurd (not_fresh c.self.inside.entries.items c.args.broker.now c.in-Ok.field-0 c.self.invariant (subst (λ es. IsEntryAt es c.args.broker.now c.in-Ok.field-0) c.as_slice.ensures.value c.in-Ok.ensures.found) (rw (← c.self.view_is) at c.requires.fresh))
