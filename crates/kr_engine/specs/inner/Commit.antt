-- What a Commit makes of an engine.
use Rattle.std.specs.Prelude.{◌+◌, ◌*◌, ◌&&◌, ℕ, ℤ, int_le, length, not, Option, Some, None, IsSome, is_some, if◌then◌else◌}
use Rattle.kr_calls.specs.declared.events.Reason.{Reason}
use Rattle.kr_store.specs.Images.{Images, AreBegunFrom, below, calls_of, forgotten, kept_at, oldest_from}
use Rattle.kr_model.specs.World.{leads_in}
use Rattle.kr_model.specs.Reasons.{bad_commit, not_leading}
use Rattle.kr_model.specs.Engine.{Core}
use Rattle.kr_engine.specs.inner.Changes.{counted_core, refused_core_or}
use Rattle.kr_engine.specs.inner.Settled.{closed_at}

-- an image is kept under the end, which isn't below the committed one
abbrev pub commit_reason : Core → ℤ → ℤ → Option Reason
commit_reason e epoch end =
    if not (leads_in e.leading epoch) then Some (not_leading epoch e.leading) else
    if not (int_le e.committed end && is_some (kept_at e.images end)) then Some (bad_commit end e.committed e.tip) else
    None

-- what is kept below the closed end behind it is dropped
abbrev pub core_after_commit : Core → ℤ → Core
core_after_commit e end = record e { images = forgotten e.images (closed_at e.images end); committed = end; closed = closed_at e.images end }

-- an image is kept under the end, and no transaction that is open behind it began below its closed end
pub record CanCommit (images : Images) (end : ℤ) : Type 0 where
  pub kept : IsSome (kept_at images end)
  pub begun : AreBegunFrom images (closed_at images end)

-- the Commit is counted, and taken or refused
abbrev pub core_taking_commit : Core → ℤ → ℤ → Core
core_taking_commit e epoch end = counted_core (refused_core_or e (commit_reason e epoch end) (core_after_commit e end))

-- what it takes at most to forget what stands below the place
abbrev pub forgetting_steps : Images → ℤ → ℕ
forgetting_steps images end = calls_of (below images end) + calls_of (oldest_from images end) + 7 * length (below images end) + 6

abbrev pub steps_unless : Option Reason → ℕ → ℕ
steps_unless None steps = steps
steps_unless (Some reason) steps = 0
