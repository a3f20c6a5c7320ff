use Rattle.std.proofs.Common.{sym, subst, arith}
use Rattle.std.proofs.lemmas.Int.{ints}
use Rattle.kr_store.specs.Images.{Images}
use Rattle.kr_engine.specs.inner.Changes.{IsLonger}
use Rattle.kr_engine.proofs.ItemSteps.{applied_here, applied_to_end, may_stand, none_applied, place_more, refused_here, same_longer}
use Rattle.kr_engine.proofs.apply.apply_items.Goals as goal

pub loop-item-init : goal.loop-item-init
loop-item-init g c =
    rw c.at-next.ensures (record {
      applying = none_applied (g.S.Store.images c.args.store.now) c.args.place.now c.args.items.now c.requires.here c.requires.above c.requires.natural;
      later = omega arith;
      at = sym (Rattle.std.proofs.Math.IntN.+ℤ_idr c.args.place.now);
    })

pub apply_one-requires-clause-kept : goal.apply_one-requires-clause-kept
apply_one-requires-clause-kept g c = c.loop-item.invariant.applying.some

pub apply_one-requires-clause-stands : goal.apply_one-requires-clause-stands
apply_one-requires-clause-stands g c = may_stand (g.S.Store.images c.loop-item.store) c.loop-item.next.place c.item-item.result c.loop-item.invariant.applying.may

pub returns-in_err-cause-clause-longer : goal.returns-in_err-cause-clause-longer
returns-in_err-cause-clause-longer g c =
    same_longer (g.S.Store.images c.args.store.now) (g.S.Store.images c.loop-item.store) (g.S.Store.images c.apply_one.new.store) c.args.place.now c.loop-item.invariant.applying.longer c.in_err-cause.ensures.epochs

pub returns-in-Some-clause-found : goal.returns-in-Some-clause-found
returns-in-Some-clause-found g c =
    let taken = rw c.in-Some.is at c.in_ok-cause.ensures.taken in
    rw c.at_place.ensures (refused_here (g.S.Store.images c.args.store.now) (g.S.Store.images c.loop-item.store) c.args.place.now c.loop-item.next.place c.args.items.now c.loop-item.item-index c.item-item.result c.in-Some.cause
    c.loop-item-test.true c.item-item.is c.loop-item.invariant.applying taken.0)

pub returns-in-Some-clause-longer : goal.returns-in-Some-clause-longer
returns-in-Some-clause-longer g c =
    let taken = rw c.in-Some.is at c.in_ok-cause.ensures.taken in
    subst (λ (i : Images). IsLonger (g.S.Store.images c.args.store.now) i c.args.place.now) (sym taken.1) c.loop-item.invariant.applying.longer

pub go_on-requires : goal.go_on-requires
go_on-requires g c = omega (arith, ints, c.loop-item.invariant.at, c.requires.low, c.loop-item-test.true, c.requires.few)

pub loop-item-preserved : goal.loop-item-preserved
loop-item-preserved g c =
    rw c.go_on.ensures (record {
      applying =
          applied_here (g.S.Store.images c.args.store.now) (g.S.Store.images c.loop-item.store) (g.S.Store.images c.apply_one.new.store) c.args.place.now c.loop-item.next.place c.args.items.now c.loop-item.item-index c.item-item.result
          c.requires.here c.loop-item-test.true c.item-item.is c.loop-item.invariant.applying (rw c.in-None.is at c.in_ok-cause.ensures.taken);
      later = omega (arith, c.loop-item.invariant.later, c.in_ok-cause.ensures.later);
      at = place_more c.args.place.now c.loop-item.next.place c.loop-item.item-index c.loop-item.invariant.at;
    })

pub returns-clause-found : goal.returns-clause-found
returns-clause-found g c =
    (applied_to_end (g.S.Store.images c.args.store.now) (g.S.Store.images c.loop-item.store) c.args.place.now c.loop-item.next.place c.args.items.now c.loop-item.item-index
    (omega (arith, c.loop-item-test.false)) c.loop-item.invariant.applying).0

pub returns-clause-all : goal.returns-clause-all
returns-clause-all g c = λ none.
    (applied_to_end (g.S.Store.images c.args.store.now) (g.S.Store.images c.loop-item.store) c.args.place.now c.loop-item.next.place c.args.items.now c.loop-item.item-index
    (omega (arith, c.loop-item-test.false)) c.loop-item.invariant.applying).1

pub returns-clause-longer : goal.returns-clause-longer
returns-clause-longer g c = c.loop-item.invariant.applying.longer
