use Rattle.std.proofs.Common.{◌≡◌, ◌≤◌, arith}
use Rattle.kr_store.specs.Images.{log_place, tip_state}
use Rattle.kr_store.specs.ItemAnswers.{made_at, with_epoch}
use Rattle.kr_image.specs.Timelines.{made_of}
use Rattle.kr_image.specs.KeptImages.{images_of}
use Rattle.kr_image.specs.declared.transactions.Role.TheVariants as roles
use Rattle.kr_image.proofs.ItemRows.{row}
use Rattle.kr_image.proofs.StoreStates.{on_ok_then}
use Rattle.kr_image.proofs.transactions.apply_at.Goals as goal

pub begin-requires-clause-may : goal.begin-requires-clause-may
begin-requires-clause-may g c =
    let r = row c.args.item.now roles.Begin c.in-Begin.ensures in
    r.may (images_of c.args.timelines.now c.args.kept.now.items c.args.begun.now) c.args.place.now c.requires.stands

pub returns-in-Begin-clause-applied : goal.returns-in-Begin-clause-applied
returns-in-Begin-clause-applied g c =
    let images = images_of c.args.timelines.now c.args.kept.now.items c.args.begun.now in
    let r = row c.args.item.now roles.Begin c.in-Begin.ensures in
    rw (r.row (tip_state images) (log_place c.args.place.now), r.epochs images c.args.place.now) c.begin.ensures.applied

pub returns-in-Begin-clause-made : goal.returns-in-Begin-clause-made
returns-in-Begin-clause-made g c =
    let images = images_of c.args.timelines.now c.args.kept.now.items c.args.begun.now in
    let r = row c.args.item.now roles.Begin c.in-Begin.ensures in
    on_ok_then (made_of c.begin.new.timelines ≡ (with_epoch images c.args.place.now).made) (made_of c.begin.new.timelines ≤ made_at images c.args.place.now c.args.item.now) c.begin.result
    (λ is. rw (r.epochs images c.args.place.now) (omega (arith, is))) c.begin.ensures.made

pub returns-in-End-clause-applied : goal.returns-in-End-clause-applied
returns-in-End-clause-applied g c =
    let images = images_of c.args.timelines.now c.args.kept.now.items c.args.begun.now in
    let r = row c.args.item.now roles.End c.in-End.ensures in
    rw (r.row (tip_state images) (log_place c.args.place.now), r.epochs images c.args.place.now) c.end.ensures.applied

pub returns-in-Abort-clause-applied : goal.returns-in-Abort-clause-applied
returns-in-Abort-clause-applied g c =
    let images = images_of c.args.timelines.now c.args.kept.now.items c.args.begun.now in
    let r = row c.args.item.now roles.Abort c.in-Abort.ensures in
    rw (r.row (tip_state images) (log_place c.args.place.now), r.epochs images c.args.place.now) c.abort.ensures.applied

pub returns-in-Inner-clause-applied : goal.returns-in-Inner-clause-applied
returns-in-Inner-clause-applied g c =
    let images = images_of c.args.timelines.now c.args.kept.now.items c.args.begun.now in
    let r = row c.args.item.now roles.Inner c.in-Inner.ensures in
    rw (r.row (tip_state images) (log_place c.args.place.now), r.epochs images c.args.place.now) c.change.ensures.applied
