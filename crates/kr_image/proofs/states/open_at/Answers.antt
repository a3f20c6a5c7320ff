use Rattle.std.proofs.Common.{◌≡◌, ◌∙◌, ap, refl, sym, find, ℤ, List}
use Rattle.std.specs.Prelude.{Option, Some, None}
use Rattle.std.specs.Option.{option_map, option_map_or}
use Rattle.std.specs.Ordering.{int_eq}
use Rattle.kr_defs.specs.Image.{Image}
use Rattle.kr_store.specs.Images.{begun_under}
use Rattle.kr_image.specs.declared.kept_counts.KeptCounts.{KeptCounts}
use Rattle.kr_image.specs.Timelines.{keeps_of}
use Rattle.kr_image.specs.KeptImages.{begins_in, listed_at}
use Rattle.kr_image.proofs.KeptLists.{find_map}
use Rattle.kr_image.proofs.Stores.{counts_none, counts_some, kept_image, kept_rises, not_kept}
use Rattle.kr_image.proofs.states.open_at.Goals as goal

pub counts_at-requires : goal.counts_at-requires
counts_at-requires c = kept_rises (keeps_of c.args.timelines.now) c.args.kept.now.items c.requires.store.kept

pub begun_at-requires : goal.begun_at-requires
begun_at-requires c = kept_rises (keeps_of c.args.timelines.now) c.args.kept.now.items c.requires.store.kept

-- what is listed under the epoch is what is seen there
begun_of : (o : Option KeptCounts) → option_map_or (λ (k : KeptCounts). k.begun) o None ≡ begun_under (option_map (λ (k : KeptCounts). (k.epoch, k.begun)) o)
begun_of None = refl
begun_of (Some k) = refl

begun_seen : (list : List KeptCounts) (epoch : ℤ) → option_map_or (λ (k : KeptCounts). k.begun) (listed_at list epoch) None ≡ begun_under (find (λ (b : ℤ × Option ℤ). int_eq b.0 epoch) (begins_in list))
begun_seen list epoch = begun_of (listed_at list epoch) ∙ ap begun_under (sym (find_map (λ (k : KeptCounts). (k.epoch, k.begun)) (λ (b : ℤ × Option ℤ). int_eq b.0 epoch) list))

pub returns-in-Some : goal.returns-in-Some
returns-in-Some c =
    let there = counts_some _ _ c.in-Some.ensures in
    let image = ap (option_map (λ (e : ℤ × Image). e.1)) (kept_image (keeps_of c.args.timelines.now) c.args.kept.now.items there.here c.in-Epoch.epoch there.found) in
    rw (c.in-Epoch.is, image) (c.begun_at.ensures ∙ begun_seen c.args.kept.now.items c.in-Epoch.epoch)

pub returns-in-None : goal.returns-in-None
returns-in-None c =
    let none = counts_none _ c.in-None.ensures in
    rw (c.in-Epoch.is, ap (option_map (λ (e : ℤ × Image). e.1)) (not_kept (keeps_of c.args.timelines.now) c.args.kept.now.items c.in-Epoch.epoch none)) refl
