use Rattle.std.specs.VecDeque.Iter.{deque_iter_rest}
use Rattle.kr_image.proofs.IndexedMaps.{grows_on}
use Rattle.kr_image.proofs.MapWalks.{left_more, left_none}
use Rattle.kr_image.proofs.index_walks.add_kept.Goals as goal

pub loop-k-preserved : goal.loop-k-preserved
loop-k-preserved c =
    let at = c.loop-k in
    record {
      left = left_more c.args.timeline.now.maps.kept c.args.kept.now.items (deque_iter_rest at.k-iterator) c.in-Some.k.now (deque_iter_rest c.next.new.self) at.index c.add_epoch.new.index c.in-Some.ensures.steps at.invariant.left c.add_epoch.ensures.grows c.in_ok-add_epoch.ensures.lists;
      grows = grows_on c.args.index.now at.index c.add_epoch.new.index at.invariant.grows c.add_epoch.ensures.grows;
    }

pub returns-clause-lists : goal.returns-clause-lists
returns-clause-lists c =
    left_none c.args.timeline.now.maps.kept c.args.kept.now.items (deque_iter_rest c.loop-k.k-iterator) c.loop-k.index c.in-None.ensures.steps.0 c.epochs.ensures.rising c.requires c.loop-k.invariant.left
