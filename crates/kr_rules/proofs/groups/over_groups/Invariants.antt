use Rattle.std.proofs.Common.{◌≡◌, ◌≤◌, ◌+◌, ◌++◌, drop, ℕ}
use Rattle.std.specs.Prelude.{IfSome, IsSome}
use Rattle.kr_calls.specs.Deciding as deciding
use Rattle.kr_calls.specs.Deciding.{weights}
use Rattle.kr_store.specs.Images.{IsSettled, last_kept}
use Rattle.kr_rules.specs.Costs.{group_cost}
use Rattle.kr_rules.specs.Progress.{work_at, base_of, Leads}
use Rattle.kr_rules.proofs.EntryCosts.{Reach}
use Rattle.kr_rules.proofs.groups.over_groups.Given as goal

abbrev pub invariant-loop-group : goal.invariant-loop-group
invariant-loop-group g l =
    let images = g.S.Store.images in
    let refused = g.R.ItemRule.refusal l.rule in
    let rule = g.R.ItemRule.rule l.rule in
    let entries_of = g.R.Groups.entries_of in
    let answer_of = g.R.Groups.answer_of in
    let left = drop l.group-index l.groups in
    record {
      told : l.answers ++ deciding.group_answers refused rule entries_of answer_of (work_at l.work (images l.store).tip) left ≡ deciding.group_answers refused rule entries_of answer_of (work_at l.fn.work (images l.fn.store).tip) l.groups;
      rest : deciding.after_groups refused rule entries_of answer_of (work_at l.work (images l.store).tip) left ≡ deciding.after_groups refused rule entries_of answer_of (work_at l.fn.work (images l.fn.store).tip) l.groups;
      some : IsSome (last_kept (images l.store));
      leads : Leads (images l.store) l.work.records;
      same : (images l.store).kept ≡ (images l.fn.store).kept;
      calls : (images l.store).kept_made ≡ (images l.fn.store).kept_made;
      begins : (images l.store).kept_begun ≡ (images l.fn.store).kept_begun;
      settled : IsSettled (images l.fn.store) → IsSettled (images l.store);
      start : l.work.start ≡ l.fn.work.start;
      made : (so_far : ℕ) → (images l.fn.store).made ≤ so_far + weights (base_of (images l.fn.store)) l.fn.work.records → (images l.store).made ≤ so_far + weights (base_of (images l.store)) l.work.records;
      own : IfSome (group_cost refused rule entries_of (work_at l.fn.work (images l.fn.store).tip) l.groups) (λ n. Reach (group_cost refused rule entries_of (work_at l.work (images l.store).tip) left) l.steps (l.fn.steps + n));
      later : l.fn.steps ≤ l.steps;
    }
