use Rattle.std.proofs.Common.{Ok, Err, List, ℕ, [], subst, arith}
use Rattle.kr_snapshot.specs.Reading.{so_far}
use Rattle.kr_fold.specs.inner.ImageParts.{IsFed}
use Rattle.kr_fold.proofs.Fronts.{breaks_short}
use Rattle.kr_fold.proofs.PartReading.{head_part, head_fault}
use Rattle.kr_fold.proofs.image.feed_head.Goals as goal

pub returns-then-bytes-lt-HEAD-clause-fault : goal.returns-then-bytes-lt-HEAD-clause-fault
returns-then-bytes-lt-HEAD-clause-fault c = breaks_short c.args.bytes.now (omega arith)

pub returns-in-Ok-clause-next : goal.returns-in-Ok-clause-next
returns-in-Ok-clause-next c =
    head_part c.args.bytes.now c.feed.new.reader (omega arith) (subst (λ (l : List ℕ). IsFed (so_far l) c.feed.new.reader 0 (Ok tt)) c.split_at.ensures.front (c.in-Ok.ensures [] c.requires))

pub returns-in-Err-clause-fault : goal.returns-in-Err-clause-fault
returns-in-Err-clause-fault c =
    head_fault c.args.bytes.now c.feed.new.reader c.in-Err.fault (omega arith) (subst (λ (l : List ℕ). IsFed (so_far l) c.feed.new.reader 0 (Err c.in-Err.fault)) c.split_at.ensures.front (c.in-Err.ensures [] c.requires))
