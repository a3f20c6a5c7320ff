use Rattle.std.proofs.Common.{◌≡◌, ◌<◌, ◌-◌, length, arith}
use Rattle.kr_topics.proofs.Assignments.{index_begin, index_earlier, index_all}
use Rattle.kr_topics.proofs.assigning.by_index.Goals as goal

pub loop-k-init : goal.loop-k-init
loop-k-init c = index_begin c.args.assignments.now _ c.new-those.ensures.empty

pub loop-k-preserved : goal.loop-k-preserved
loop-k-preserved c =
    let lt : c.loop-k.k < length c.args.assignments.now = omega arith in
    index_earlier c.args.assignments.now c.loop-k.k (length c.args.assignments.now - 1 - c.loop-k.k) c.index-assignments-at.result c.loop-k.those.entries _ lt (omega arith) c.index-assignments-at.is c.in_ok-add.ensures c.loop-k.invariant

pub returns : goal.returns
returns c =
    let all : c.loop-k.k ≡ length c.args.assignments.now = omega arith in
    index_all c.args.assignments.now c.loop-k.k c.loop-k.those.entries all c.loop-k.invariant
