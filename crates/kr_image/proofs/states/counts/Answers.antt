use Rattle.std.proofs.Common.{◌∙◌, ap, refl, ℤ}
use Rattle.std.specs.Option.{option_map}
use Rattle.kr_defs.specs.Image.{Image}
use Rattle.kr_image.specs.Timelines.{keeps_of}
use Rattle.kr_image.proofs.PlaceCounts.{counts_there}
use Rattle.kr_image.proofs.Stores.{counts_none, counts_some, kept_image, kept_rises, not_kept}
use Rattle.kr_image.proofs.states.counts.Goals as goal

pub counts_at-requires : goal.counts_at-requires
counts_at-requires c = kept_rises (keeps_of c.args.timelines.now) c.args.kept.now.items c.requires.store.kept

pub returns-in-Some : goal.returns-in-Some
returns-in-Some c =
    let there = counts_some _ c.in-Some.counts c.in-Some.ensures in
    let image = ap (option_map (λ (e : ℤ × Image). e.1)) (kept_image (keeps_of c.args.timelines.now) c.args.kept.now.items there.here c.in-Epoch.epoch there.found) in
    rw (c.in-Epoch.is, image) (there.same ∙ counts_there (keeps_of c.args.timelines.now) c.args.kept.now.items there.here c.in-Epoch.epoch there.found c.requires.store.kept)

pub returns-in-None : goal.returns-in-None
returns-in-None c =
    let none = counts_none _ c.in-None.ensures in
    rw (c.in-Epoch.is, ap (option_map (λ (e : ℤ × Image). e.1)) (not_kept (keeps_of c.args.timelines.now) c.args.kept.now.items c.in-Epoch.epoch none)) refl
