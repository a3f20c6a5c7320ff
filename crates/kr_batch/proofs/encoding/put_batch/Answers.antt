use Rattle.std.proofs.Common.{List, ℕ, length, ap, arith}
use Rattle.kr_batch.proofs.Sizes.{behind_fixed}
use Rattle.kr_batch.proofs.encoding.put_batch.Goals as goal

pub set_head-requires-clause-small : goal.set_head-requires-clause-small
set_head-requires-clause-small c =
    let long = behind_fixed _ _ _ _ _ _ c.in_ok-put_fixed.ensures c.in_ok-put_bytes-2.ensures.ok in
    omega (arith, c.requires.small, long, ap (λ (l : List ℕ). length l) (rw c.in_ok-whole.ensures.items at c.in_ok-put_bytes.ensures.ok))
