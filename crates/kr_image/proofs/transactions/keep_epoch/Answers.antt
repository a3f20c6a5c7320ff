use Rattle.std.proofs.Common.{◌≡◌, ◌∙◌, ap, sym}
use Rattle.std.specs.Prelude.{Some}
use Rattle.kr_store.specs.Images.{Images, kept_at, marked}
use Rattle.kr_store.specs.ItemAnswers.{with_epoch}
use Rattle.kr_image.specs.KeptImages.{images_of}
use Rattle.kr_image.proofs.BegunEpochs.{are_valid}
use Rattle.kr_image.proofs.StoreStates.{above_if, kept_already, kept_more, last_if, last_listed, last_there, marked_there, on_ok_then}
use Rattle.kr_image.proofs.transactions.keep_epoch.Goals as goal

pub returns-then-is_last-clause-ok : goal.returns-then-is_last-clause-ok
returns-then-is_last-clause-ok g c =
    let images = images_of c.args.timelines.now c.args.kept.now.items c.args.begun.now in
    let is = last_listed c.args.timelines.now c.args.kept.now.items c.args.begun.now c.args.epoch.now ∙ sym c.is_last.ensures ∙ c.if-is_last.true in
    sym (kept_already images c.args.epoch.now (are_valid c.args.timelines.now c.args.kept.now.items c.args.begun.now c.requires.store) (last_if images c.args.epoch.now is c.requires.may))

pub returns-then-is_last-clause-there : goal.returns-then-is_last-clause-there
returns-then-is_last-clause-there g c =
    let images = images_of c.args.timelines.now c.args.kept.now.items c.args.begun.now in
    let is = last_listed c.args.timelines.now c.args.kept.now.items c.args.begun.now c.args.epoch.now ∙ sym c.is_last.ensures ∙ c.if-is_last.true in
    last_there images c.args.epoch.now (are_valid c.args.timelines.now c.args.kept.now.items c.args.begun.now c.requires.store) (last_if images c.args.epoch.now is c.requires.may)

pub mark_or_go_back-requires-clause-above : goal.mark_or_go_back-requires-clause-above
mark_or_go_back-requires-clause-above g c =
    let images = images_of c.args.timelines.now c.args.kept.now.items c.args.begun.now in
    let is = last_listed c.args.timelines.now c.args.kept.now.items c.args.begun.now c.args.epoch.now ∙ sym c.is_last.ensures ∙ c.if-is_last.false in
    above_if images c.args.epoch.now is c.requires.may

pub returns-clause-ok : goal.returns-clause-ok
returns-clause-ok g c =
    let images = images_of c.args.timelines.now c.args.kept.now.items c.args.begun.now in
    let after = images_of c.mark_or_go_back.new.timelines c.mark_or_go_back.new.kept.items c.mark_or_go_back.new.begun in
    let is = last_listed c.args.timelines.now c.args.kept.now.items c.args.begun.now c.args.epoch.now ∙ sym c.is_last.ensures ∙ c.if-is_last.false in
    on_ok_then (after ≡ marked images c.args.epoch.now) (after ≡ with_epoch images c.args.epoch.now) c.mark_or_go_back.result
    (λ same. same ∙ sym (kept_more images c.args.epoch.now (above_if images c.args.epoch.now is c.requires.may))) c.mark_or_go_back.ensures.ok

pub returns-clause-there : goal.returns-clause-there
returns-clause-there g c =
    let images = images_of c.args.timelines.now c.args.kept.now.items c.args.begun.now in
    let after = images_of c.mark_or_go_back.new.timelines c.mark_or_go_back.new.kept.items c.mark_or_go_back.new.begun in
    let is = last_listed c.args.timelines.now c.args.kept.now.items c.args.begun.now c.args.epoch.now ∙ sym c.is_last.ensures ∙ c.if-is_last.false in
    on_ok_then (after ≡ marked images c.args.epoch.now) (kept_at after c.args.epoch.now ≡ Some images.tip) c.mark_or_go_back.result
    (λ same. ap (λ (i : Images). kept_at i c.args.epoch.now) same ∙ marked_there images c.args.epoch.now (above_if images c.args.epoch.now is c.requires.may)) c.mark_or_go_back.ensures.ok
