use Rattle.std.proofs.Common.{rules, FitsSigned, w32, w64, List, ℕ, length, length-append, ap, arith}
use Rattle.kr_batch.specs.BatchBytes.{checked_bytes}
use Rattle.kr_batch.proofs.Sizes.{checked_length}
use Rattle.kr_batch.proofs.WrittenBatches.{batch_spelled}
use Rattle.kr_batch.proofs.encoding.encode.Goals as goal

pub returns-clause-stands : goal.returns-clause-stands
returns-clause-stands c based each =
    let base : FitsSigned w64 c.args.batch.now.base = search rules in
    let epoch : FitsSigned w32 c.args.batch.now.epoch = search rules in
    batch_spelled c.args.batch.now based base epoch c.in_ok-put_checked.ensures.time c.requires.some c.requires.few c.requires.each each c.requires.small

pub set_head-requires-clause-small : goal.set_head-requires-clause-small
set_head-requires-clause-small c =
    omega (
      arith,
      checked_length c.args.batch.now c.requires.few c.requires.small,
      ap (λ (l : List ℕ). length l) (rw c.in_ok-whole.ensures.items at c.in_ok-put_bytes.ensures.ok),
      ap (λ (l : List ℕ). length l) c.in_ok-put_checked.ensures.ok,
      length-append c.put_bytes.new.out.items (checked_bytes c.args.batch.now),
    )
