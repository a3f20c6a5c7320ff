use Rattle.std.proofs.Common.{◌≡◌, ◌++◌, ◌-◌, length}
use Rattle.std.specs.Prelude.{is_some}
use Rattle.std.specs.List.{filter_map, list_all, range_with_len}
use Rattle.kr_calls.specs.CreateTopics.{assigned_at, are_whole, indexes_of}
use Rattle.kr_topics.proofs.assigning.lists_of.Given as goal

abbrev pub invariant-loop-index : goal.invariant-loop-index
invariant-loop-index l =
    let left = range_with_len l.index (length l.assignments - l.index) in
    record {
      told : l.lists ++ filter_map (assigned_at l.assignments) left ≡ filter_map (assigned_at l.assignments) (indexes_of l.assignments);
      whole : list_all (λ index. is_some (assigned_at l.assignments index)) left ≡ are_whole l.assignments;
      count : length l.lists ≡ l.index;
    }
