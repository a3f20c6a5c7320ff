use Rattle.std.proofs.Common.{◌≤◌, Ok, Err, List, ℕ, ◌++◌, take, length, refl, subst, ◌∙◌, ap}
use Rattle.kr_snapshot.specs.Reading.{so_far}
use Rattle.kr_fold.specs.inner.ImageParts.{IsFed, IsNoBatch}
use Rattle.kr_fold.specs.SourceBytes.{IsSized}
use Rattle.kr_fold.proofs.Fronts.{stands_of}
use Rattle.kr_fold.proofs.PartReading.{no_batch_fault, batch_part, batch_fault}
use Rattle.kr_fold.proofs.image.feed_batch.Goals as goal

pub returns-in-None-clause-fault : goal.returns-in-None-clause-fault
returns-in-None-clause-fault c =
    no_batch_fault c.args.bytes.now c.args.reader.now c.args.at c.requires.part c.requires.more
    (subst (λ (l : List ℕ). IsNoBatch l) c.split_at.ensures.back (c.in-None.ensures.none refl))

pub returns-in-Ok-clause-next : goal.returns-in-Ok-clause-next
returns-in-Ok-clause-next c =
    let back = c.split_at.ensures.back in
    let part = c.split_at-2.ensures.front ∙ ap (take c.in-Some.len) back in
    batch_part c.args.bytes.now c.args.reader.now c.args.at c.requires.part c.feed.new.reader c.in-Some.len
    (subst (λ (l : List ℕ). c.in-Some.len ≤ length l) back c.in-Some.ensures.some.0)
    (subst (λ (l : List ℕ). IsSized (take c.in-Some.len l)) back c.in-Some.ensures.some.1)
    (subst (λ (l : List ℕ). IsFed (so_far (take c.args.at c.args.bytes.now ++ l)) c.feed.new.reader c.args.at (Ok tt)) part
    (c.in-Ok.ensures (take c.args.at c.args.bytes.now) (stands_of _ c.args.reader.now c.requires.part.read)))

pub returns-in-Err-clause-fault : goal.returns-in-Err-clause-fault
returns-in-Err-clause-fault c =
    let back = c.split_at.ensures.back in
    let part = c.split_at-2.ensures.front ∙ ap (take c.in-Some.len) back in
    batch_fault c.args.bytes.now c.args.reader.now c.args.at c.requires.part c.feed.new.reader c.in-Some.len c.in-Err.fault
    (subst (λ (l : List ℕ). IsSized (take c.in-Some.len l)) back c.in-Some.ensures.some.1)
    (subst (λ (l : List ℕ). IsFed (so_far (take c.args.at c.args.bytes.now ++ l)) c.feed.new.reader c.args.at (Err c.in-Err.fault)) part
    (c.in-Err.ensures (take c.args.at c.args.bytes.now) (stands_of _ c.args.reader.now c.requires.part.read)))
