use Rattle.std.proofs.Common.{arith}
use Rattle.std.proofs.lemmas.Int.{ints}
use Rattle.kr_fold.proofs.ItemSteps.{applied_here, applied_to_end, may_stand, none_applied, refused_here}
use Rattle.kr_fold.proofs.log.apply_items.Goals as goal

pub loop-item-init : goal.loop-item-init
loop-item-init g c = rw c.at-next.ensures (none_applied (g.S.Store.images c.args.store.now) c.args.place.now c.args.items.now c.requires.stands)

pub apply_one-requires-clause-kept : goal.apply_one-requires-clause-kept
apply_one-requires-clause-kept g c = c.loop-item.invariant.stands.keeps.some

pub apply_one-requires-clause-stands : goal.apply_one-requires-clause-stands
apply_one-requires-clause-stands g c = may_stand (g.S.Store.images c.loop-item.store) c.loop-item.next.place c.item-item.result c.loop-item.invariant.stands

pub returns-in-Some-clause-applied : goal.returns-in-Some-clause-applied
returns-in-Some-clause-applied g c =
    refused_here (g.S.Store.images c.args.store.now) (g.S.Store.images c.loop-item.store) (g.S.Store.images c.apply_one.new.store) c.args.place.now c.loop-item.next.place c.args.items.now c.loop-item.item-index c.item-item.result c.in-Some.cause
    c.loop-item-test.true c.item-item.is c.loop-item.invariant (rw c.in-Some.is at c.in_ok-cause.ensures.applied)

pub go_on-requires : goal.go_on-requires
go_on-requires g c = omega (arith, ints, c.loop-item.invariant.at_place, c.requires.low, c.loop-item-test.true, c.requires.few)

pub loop-item-preserved : goal.loop-item-preserved
loop-item-preserved g c =
    rw c.go_on.ensures (applied_here (g.S.Store.images c.args.store.now) (g.S.Store.images c.loop-item.store) (g.S.Store.images c.apply_one.new.store) c.args.place.now c.loop-item.next.place c.args.items.now c.loop-item.item-index c.item-item.result
    c.in_ok-cause.ensures.valid c.loop-item-test.true c.item-item.is c.loop-item.invariant (rw c.in-None.is at c.in_ok-cause.ensures.applied))

pub returns-clause-applied : goal.returns-clause-applied
returns-clause-applied g c =
    (applied_to_end (g.S.Store.images c.args.store.now) (g.S.Store.images c.loop-item.store) c.args.place.now c.loop-item.next.place c.args.items.now c.loop-item.item-index
    c.requires.some (omega (arith, c.loop-item-test.false)) c.loop-item.invariant).0

pub returns-clause-beyond : goal.returns-clause-beyond
returns-clause-beyond g c = λ _.
    (applied_to_end (g.S.Store.images c.args.store.now) (g.S.Store.images c.loop-item.store) c.args.place.now c.loop-item.next.place c.args.items.now c.loop-item.item-index
    c.requires.some (omega (arith, c.loop-item-test.false)) c.loop-item.invariant).1
