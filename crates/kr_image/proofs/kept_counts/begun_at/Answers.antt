use Rattle.std.proofs.Common.{◌<◌, rules, arith, ap, length, sym}
use Rattle.std.specs.Prelude.{Option, None}
use Rattle.std.specs.Option.{option_map_or}
use Rattle.std.proofs.lemmas.List.Sorted.{answers_always}
use Rattle.kr_timeline.proofs.Places.{stands_found, stands_read, searchable, nowhere}
use Rattle.kr_image.specs.declared.kept_counts.KeptCounts.{KeptCounts}
use Rattle.kr_image.proofs.kept_counts.begun_at.Goals as goal

pub returns-in-Ok : goal.returns-in-Ok
returns-in-Ok c =
    let lt : c.in-Ok.place < length c.args.kept.now.items = omega (arith, c.in-Ok.ensures.bound, c.args.kept.now.ok) in
    let at = stands_found (λ (k : KeptCounts). k.epoch) c.args.kept.now.items c.args.epoch.now c.in-Ok.place c.requires lt (c.in-Ok.ensures.position (λ k. k.epoch) (answers_always _ _ _ (λ f a r t called. search rules))) in
    sym (ap (λ (o : Option KeptCounts). option_map_or (λ (k : KeptCounts). k.begun) o None) (stands_read (λ (k : KeptCounts). k.epoch) c.args.kept.now.items c.args.epoch.now c.in-Ok.place at c.index.result.now lt c.index.ensures))

pub returns-in-Err : goal.returns-in-Err
returns-in-Err c = sym (ap (λ (o : Option KeptCounts). option_map_or (λ (k : KeptCounts). k.begun) o None) (nowhere (λ (k : KeptCounts). k.epoch) c.args.kept.now.items c.args.epoch.now c.in-Err.field-0 (c.in-Err.ensures.position (λ k. k.epoch) (answers_always _ _ _ (λ f a r t called. search rules)) (searchable (λ (k : KeptCounts). k.epoch) c.args.kept.now.items c.args.epoch.now c.requires))))
