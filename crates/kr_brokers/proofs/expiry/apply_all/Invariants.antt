use Rattle.std.proofs.Common.{◌≡◌, ◌≤◌, ◌+◌, drop, length}
use Rattle.std.specs.Prelude.{IsSome}
use Rattle.kr_calls.specs.Deciding.{apply_records, weights}
use Rattle.kr_store.specs.Images.{IsSettled, last_kept}
use Rattle.kr_brokers.proofs.expiry.apply_all.Given as goal

abbrev pub invariant-loop-record : goal.invariant-loop-record
invariant-loop-record g l =
    let images = g.S.Store.images in
    let rest = drop l.record-index l.records in
    record {
      left : apply_records (images l.store).tip rest ≡ apply_records (images l.fn.store).tip l.records;
      kept : (images l.store).kept ≡ (images l.fn.store).kept;
      calls : (images l.store).kept_made ≡ (images l.fn.store).kept_made;
      begins : (images l.store).kept_begun ≡ (images l.fn.store).kept_begun;
      settled : IsSettled (images l.fn.store) → IsSettled (images l.store);
      some : IsSome (last_kept (images l.store));
      made : (images l.store).made + weights (images l.store).tip rest ≤ (images l.fn.store).made + weights (images l.fn.store).tip l.records;
      counted : l.steps + length rest ≡ l.fn.steps + length l.records;
      later : l.fn.steps ≤ l.steps;
    }
