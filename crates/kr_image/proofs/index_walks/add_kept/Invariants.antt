use Rattle.std.specs.VecDeque.Iter.{deque_iter_rest}
use Rattle.kr_image.specs.inner.PartitionKeys.{IndexGrows}
use Rattle.kr_image.proofs.MapWalks.{LeftIndex}
use Rattle.kr_image.proofs.index_walks.add_kept.Given as goal

abbrev pub invariant-loop-k : goal.invariant-loop-k
invariant-loop-k l = record {
  left : LeftIndex l.timeline.maps.kept l.kept.items (deque_iter_rest l.k-iterator) l.index;
  grows : IndexGrows l.fn.index l.index;
}
