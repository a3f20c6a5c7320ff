use Rattle.std.proofs.Common.{ap, arith, length, not}
use Rattle.std.specs.Prelude.{int_lt}
use Rattle.kr_defs.proofs.Maps.{length-filter_le}
use Rattle.kr_timeline.proofs.Drops.{length_parts}
use Rattle.kr_image.specs.Timelines.{keeps_of}
use Rattle.kr_image.specs.declared.kept_counts.KeptCounts.{KeptCounts}
use Rattle.kr_image.proofs.BegunEpochs.{begun_from}
use Rattle.kr_image.proofs.KeptCalls.{covered_all, length_below}
use Rattle.kr_image.proofs.Stores.{kept_rises, forgotten_images, forgotten_store}
use Rattle.kr_image.proofs.states.drop_below.Goals as goal

pub keep_from-requires : goal.keep_from-requires
keep_from-requires g c = kept_rises (keeps_of c.args.timelines.now) c.args.kept.now.items c.requires.store.store.kept

pub returns-clause-counted : goal.returns-clause-counted
returns-clause-counted g c = omega (arith, c.forget_below.ensures.counted, c.keep_from.ensures.counted, ap length c.keep_from.ensures.left, length-filter_le (λ (k : KeptCounts). not (int_lt k.epoch c.args.epoch.now)) c.args.kept.now.items)

pub returns-clause-bound : goal.returns-clause-bound
returns-clause-bound g c =
    let kept = keeps_of c.args.timelines.now in
    let list = c.args.kept.now.items in
    omega (
      arith,
      c.forget_below.ensures.bound,
      c.keep_from.ensures.counted,
      ap length c.keep_from.ensures.left,
      length_parts (λ (k : KeptCounts). int_lt k.epoch c.args.epoch.now) list,
      covered_all kept list c.requires.store.store.kept.epochs c.args.epoch.now,
      length_below kept list c.requires.store.store.kept.epochs c.args.epoch.now,
    )

pub returns-clause-store : goal.returns-clause-store
returns-clause-store g c = rw c.keep_from.ensures.left (record {
  store = forgotten_store c.args.timelines.now c.forget_below.new.self c.args.epoch.now c.forget_below.ensures.left c.args.kept.now.items c.requires.store.store;
  opens = begun_from c.args.timelines.now c.args.kept.now.items c.args.begun.now c.args.epoch.now c.requires.store.opens c.requires.from;
})

pub returns-clause-images : goal.returns-clause-images
returns-clause-images g c = rw c.keep_from.ensures.left (forgotten_images c.args.timelines.now c.forget_below.new.self c.args.epoch.now c.forget_below.ensures.left c.args.kept.now.items c.args.begun.now c.requires.store.store.kept.epochs)
