use Rattle.std.proofs.Common.{[], List, ℕ, subst}
use Rattle.kr_snapshot.specs.ReaderState.{Restores, StandsFor}
use Rattle.test_bench.specs.declared.image.TheConstants.{OFFSET}
use Rattle.test_bench.proofs.ImageReading.{restored}
use Rattle.test_bench.proofs.image.Written.read.Goals as goal

pub returns : goal.returns
returns c =
    let image = c.args.self.now in
    let fed = subst (λ (bytes : List ℕ). StandsFor c.feed.new.self bytes) c.deref.ensures.value (c.in_ok-feed.ensures.stands [] c.new-reader.ensures) in
    let given = c.finish.ensures.exact image.bytes.items fed in
    restored c.finish.result OFFSET image.store.tip (subst (Restores c.finish.result) image.stands given)
