use Rattle.std.proofs.Common.{drop}
use Rattle.left_right.specs.Sides.{view}
use Rattle.kr_view.proofs.Shows.{may_publish, list_after, options_after, view_after}
use Rattle.kr_view.proofs.window.show.Goals as goal

pub publish_as-requires : goal.publish_as-requires
publish_as-requires g c next is =
    let w = c.args.copies in may_publish w.desk.place.id _ w.desk.shown.value next (drop w.behind w.log.items) c.requires is

pub returns-clause-list : goal.returns-clause-list
returns-clause-list g c =
    let w = c.args.copies in
    let n = c.publish_as.result.0 in
    list_after w.desk.shown.value n.desk.shown.value (drop w.behind w.log.items) (drop n.behind n.log.items) c.publish_as.result.1 c.publish_as.ensures.values

pub returns-clause-options : goal.returns-clause-options
returns-clause-options g c =
    let w = c.args.copies in
    let n = c.publish_as.result.0 in
    options_after w.desk.shown.value n.desk.shown.value (drop w.behind w.log.items) (drop n.behind n.log.items) c.publish_as.result.1 c.publish_as.ensures.values

pub returns-clause-view : goal.returns-clause-view
returns-clause-view g c =
    let w = c.args.copies in
    let n = c.publish_as.result.0 in
    view_after (view w.desk.place) w.desk.shown.value n.desk.shown.value (view n.desk.place) c.publish_as.result.1 c.publish_as.ensures.rule
