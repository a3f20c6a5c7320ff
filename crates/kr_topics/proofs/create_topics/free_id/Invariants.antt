use Rattle.std.proofs.Common.{◌≡◌, ◌+◌, ◌-◌, ℕ, not}
use Rattle.std.specs.Prelude.{find}
use Rattle.std.specs.List.{range_with_len}
use Rattle.kr_defs.specs.Image.{has_topic}
use Rattle.kr_topics.proofs.create_topics.free_id.Given as goal

abbrev pub invariant-loop-id : goal.invariant-loop-id
invariant-loop-id g l =
    let free = λ (id : ℕ). not (has_topic l.seen.topics id) in
    find free (range_with_len l.id (l.first + l.count - l.id)) ≡ find free (range_with_len l.first l.count)
