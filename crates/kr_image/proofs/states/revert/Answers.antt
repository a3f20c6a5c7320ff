use Rattle.std.proofs.Common.{◌≡◌, ◌∙◌, refl, ap, arith, filter, length, not, subst, sym, ℤ}
use Rattle.std.specs.Prelude.{Option, Some, None, int_lt}
use Rattle.std.specs.Option.{option_map, option_map_or}
use Rattle.kr_defs.specs.Image.{Image}
use Rattle.kr_timeline.proofs.Drops.{length_parts}
use Rattle.kr_image.specs.Timelines.{keeps_of}
use Rattle.kr_image.proofs.LastEpoch.{are_kept}
use Rattle.kr_defs.proofs.Maps.{length-filter_le}
use Rattle.kr_image.specs.declared.kept_counts.KeptCounts.{KeptCounts}
use Rattle.kr_image.specs.KeptImages.{HaveBegins, images_of}
use Rattle.kr_image.proofs.BegunEpochs.{begun_up_to}
use Rattle.kr_image.proofs.KeptCalls.{length_above, undone_all}
use Rattle.kr_image.proofs.Stores.{kept_rises, counts_none, counts_some, kept_image, not_kept, reverted_images, reverted_store}
use Rattle.kr_image.proofs.states.revert.Goals as goal

pub counts_at-requires : goal.counts_at-requires
counts_at-requires g c = kept_rises (keeps_of c.args.timelines.now) c.args.kept.now.items c.requires.kept

pub keep_up_to-requires : goal.keep_up_to-requires
keep_up_to-requires g c = kept_rises (keeps_of c.args.timelines.now) c.args.kept.now.items c.requires.kept

pub returns-clause-counted : goal.returns-clause-counted
returns-clause-counted g c = omega (arith, c.revert.ensures.counted, c.keep_up_to.ensures.counted, ap length c.keep_up_to.ensures.left, length-filter_le (λ (k : KeptCounts). not (int_lt c.args.epoch.now k.epoch)) c.args.kept.now.items)

pub returns-clause-bound : goal.returns-clause-bound
returns-clause-bound g c =
    let kept = keeps_of c.args.timelines.now in
    let list = c.args.kept.now.items in
    omega (
      arith,
      c.revert.ensures.bound,
      c.keep_up_to.ensures.counted,
      ap length c.keep_up_to.ensures.left,
      length_parts (λ (k : KeptCounts). int_lt c.args.epoch.now k.epoch) list,
      undone_all kept list c.requires.kept.epochs c.args.epoch.now,
      length_above kept list c.requires.kept.epochs c.args.epoch.now,
    )

pub returns-in_default-clause-no_epoch : goal.returns-in_default-clause-no_epoch
returns-in_default-clause-no_epoch g c =
    let none = counts_none _ c.in_default.ensures in
    (λ _. ap (option_map (λ (e : ℤ × Image). e.1)) (not_kept (keeps_of c.args.timelines.now) c.args.kept.now.items c.args.epoch.now none), λ _. refl)

pub revert-requires : goal.revert-requires
revert-requires g c =
    let there = counts_some _ c.in-Some.counts c.in-Some.ensures in
    are_kept (keeps_of c.args.timelines.now) c.args.kept.now.items there.here c.args.epoch.now c.requires.kept.epochs there.found

begun_there : (o : Option KeptCounts) (k : KeptCounts) (begun : Option ℤ) → begun ≡ option_map_or (λ (k : KeptCounts). k.begun) o None → o ≡ Some k → begun ≡ k.begun
begun_there o k begun is found = is ∙ ap (λ (o : Option KeptCounts). option_map_or (λ (k : KeptCounts). k.begun) o None) found

pub begun_at-requires : goal.begun_at-requires
begun_at-requires g c = kept_rises (keeps_of c.args.timelines.now) c.args.kept.now.items c.requires.kept

pub returns-clause-store : goal.returns-clause-store
returns-clause-store g c =
    let there = counts_some _ c.in-Some.counts c.in-Some.ensures in
    let begun = begun_there _ there.here c.begun_at.result c.begun_at.ensures there.found in
    rw c.keep_up_to.ensures.left (record {
      store = reverted_store c.args.timelines.now c.revert.new.self c.args.epoch.now c.revert.ensures.back c.args.kept.now.items there.here there.found (rw there.same at c.revert.ensures.counts) c.requires.kept;
      opens = subst (HaveBegins (filter (λ (k : KeptCounts). not (int_lt c.args.epoch.now k.epoch)) c.args.kept.now.items)) (sym begun) (begun_up_to c.args.kept.now.items c.args.begun.now c.args.epoch.now there.here c.requires.begun there.found);
    })

pub returns-clause-ok : goal.returns-clause-ok
returns-clause-ok g c =
    let there = counts_some _ c.in-Some.counts c.in-Some.ensures in
    let begun = begun_there _ there.here c.begun_at.result c.begun_at.ensures there.found in
    rw c.keep_up_to.ensures.left (reverted_images c.args.timelines.now c.revert.new.self c.args.epoch.now c.revert.ensures.back c.args.kept.now.items there.here there.found (rw there.same at c.revert.ensures.counts) c.requires.kept c.args.begun.now
    ∙ ap (λ (b : Option ℤ). Some (images_of c.revert.new.self (filter (λ (k : KeptCounts). not (int_lt c.args.epoch.now k.epoch)) c.args.kept.now.items) b)) (sym begun))

pub returns-clause-no_epoch : goal.returns-clause-no_epoch
returns-clause-no_epoch g c =
    let there = counts_some _ c.in-Some.counts c.in-Some.ensures in
    let kept = ap (option_map (λ (e : ℤ × Image). e.1)) (kept_image (keeps_of c.args.timelines.now) c.args.kept.now.items there.here c.args.epoch.now there.found) in
    (λ h. absurd cc, λ h. absurd cc)
