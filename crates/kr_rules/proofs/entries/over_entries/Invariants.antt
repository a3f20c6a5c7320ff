use Rattle.std.proofs.Common.{◌≡◌, ◌≤◌, ◌+◌, ◌++◌, drop, ℕ}
use Rattle.std.specs.Prelude.{IfSome, IsSome}
use Rattle.kr_calls.specs.Deciding as deciding
use Rattle.kr_calls.specs.Deciding.{weights}
use Rattle.kr_store.specs.Images.{IsSettled, last_kept}
use Rattle.kr_rules.specs.Costs.{cost}
use Rattle.kr_rules.specs.Progress.{work_at, base_of, Leads}
use Rattle.kr_rules.proofs.EntryCosts.{Reach}
use Rattle.kr_rules.proofs.entries.over_entries.Given as goal

abbrev pub invariant-loop-entry : goal.invariant-loop-entry
invariant-loop-entry g l =
    let images = g.S.Store.images in
    let refused = g.R.Rule.refusal l.rule in
    let rule = g.R.Rule.rule l.rule in
    let left = drop l.entry-index l.entries in
    record {
      told : l.answers ++ deciding.answers refused rule (work_at l.work (images l.store).tip) left ≡ deciding.answers refused rule (work_at l.fn.work (images l.fn.store).tip) l.entries;
      rest : deciding.after_all refused rule (work_at l.work (images l.store).tip) left ≡ deciding.after_all refused rule (work_at l.fn.work (images l.fn.store).tip) l.entries;
      some : IsSome (last_kept (images l.store));
      leads : Leads (images l.store) l.work.records;
      same : (images l.store).kept ≡ (images l.fn.store).kept;
      calls : (images l.store).kept_made ≡ (images l.fn.store).kept_made;
      begins : (images l.store).kept_begun ≡ (images l.fn.store).kept_begun;
      settled : IsSettled (images l.fn.store) → IsSettled (images l.store);
      start : l.work.start ≡ l.fn.work.start;
      made : (so_far : ℕ) → (images l.fn.store).made ≤ so_far + weights (base_of (images l.fn.store)) l.fn.work.records → (images l.store).made ≤ so_far + weights (base_of (images l.store)) l.work.records;
      own : IfSome (cost refused rule (work_at l.fn.work (images l.fn.store).tip) l.entries) (λ n. Reach (cost refused rule (work_at l.work (images l.store).tip) left) l.steps (l.fn.steps + n));
      later : l.fn.steps ≤ l.steps;
    }
