-- Commit: the quorum commits a leader's log, whole batches at a time.
use Rattle.std.specs.Prelude.{ℕ, ℤ, pos, int_lt, unsigned_abs, List, filter, Bool, not, ◌||◌, Result, Ok}
use Rattle.std.specs.List.{list_any}
use Rattle.std.specs.Ordering.{int_eq}
use Rattle.kr_calls.specs.declared.events.Reason.{Reason}
use Rattle.kr_defs.specs.Guard.{refuse◌when◌else◌}
use Rattle.kr_model.specs.Reasons.{bad_commit, not_leading}
use Rattle.kr_model.specs.World.{World, State, tip_of, leads_in, with_end}

-- the committed end itself, or the end of a batch above it
abbrev pub is_end : World → ℤ → Bool
is_end w end = int_eq end (pos w.committed) || list_any (λ n. int_eq end (pos n)) w.batch_ends

-- the ends that a commit passes
abbrev pub ends_up_to : ℤ → List ℕ → List ℕ
ends_up_to end ends = filter (λ n. not (int_lt end (pos n))) ends

abbrev pub after_commit : State → ℤ → State
after_commit s end = record s {
  world = record (with_end s.world (unsigned_abs end) (ends_up_to end s.world.batch_ends)) { batch_ends = filter (λ n. int_lt end (pos n)) s.world.batch_ends };
}

abbrev pub commit : State → ℤ → ℤ → Result State Reason
commit s epoch end =
    refuse not_leading epoch s.world.leading when not (leads_in s.world.leading epoch) else
    refuse bad_commit end (pos s.world.committed) (pos (tip_of s)) when not (is_end s.world end) else
    Ok (after_commit s end)
