use Rattle.std.proofs.Common.{◌∙◌, ap, refl}
use Rattle.kr_store.specs.Images.{Images, marked}
use Rattle.kr_image.specs.Timelines.{keeps_of}
use Rattle.kr_image.proofs.BegunEpochs.{begun_then}
use Rattle.kr_image.proofs.LastEpoch.{are_above}
use Rattle.kr_image.proofs.Stores.{above_each, marked_images, marked_store, same_images_of, same_kept, same_store}
use Rattle.kr_image.proofs.states.mark.Goals as goal

pub mark-requires-clause-above : goal.mark-requires-clause-above
mark-requires-clause-above c =
    let is = same_kept c.args.timelines.now c.reserve.new.self c.args.kept.now.items c.reserve.ensures.same.kept c.requires.store.store.kept in
    are_above (keeps_of c.reserve.new.self) c.args.kept.now.items c.args.epoch.now is.epochs (above_each (keeps_of c.args.timelines.now) c.args.kept.now.items c.args.epoch.now c.requires.above)

pub returns-clause-store : goal.returns-clause-store
returns-clause-store c =
    let is = same_store c.args.timelines.now c.reserve.new.self c.args.kept.now.items c.reserve.ensures.same c.requires.store.store in
    let above = above_each (keeps_of c.args.timelines.now) c.args.kept.now.items c.args.epoch.now c.requires.above in
    rw (c.in_ok-push_back.ensures.items, c.kept_under.ensures) (record {
      store = marked_store c.reserve.new.self c.mark.new.self c.args.epoch.now c.mark.ensures c.args.kept.now.items is.kept.epochs above c.args.begun.now c.walks_up_to-walks.result is;
      opens = begun_then c.args.kept.now.items c.args.begun.now (record { epoch = c.args.epoch.now; counts = c.reserve.new.self.counts; begun = c.args.begun.now; walks = c.walks_up_to-walks.result }) refl c.requires.store.opens above;
    })

pub returns-clause-ok : goal.returns-clause-ok
returns-clause-ok c =
    let is = same_store c.args.timelines.now c.reserve.new.self c.args.kept.now.items c.reserve.ensures.same c.requires.store.store in
    let above = above_each (keeps_of c.args.timelines.now) c.args.kept.now.items c.args.epoch.now c.requires.above in
    let same = same_images_of c.args.timelines.now c.reserve.new.self c.args.kept.now.items c.args.begun.now c.reserve.ensures.same in
    rw (c.in_ok-push_back.ensures.items, c.kept_under.ensures) (marked_images c.reserve.new.self c.mark.new.self c.args.epoch.now c.mark.ensures c.args.kept.now.items is.kept.epochs above c.args.begun.now c.walks_up_to-walks.result ∙ ap (λ (i : Images). marked i c.args.epoch.now) same)
