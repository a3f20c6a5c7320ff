-- What a clause says of a queue's passes. This project's own.
use Rattle.std.specs.Prelude.{◌≡◌, ℕ, ◌+◌, ◌<◌, List, length, slice_index_or}
use Rattle.crossbeam_queue.specs.SegTies.{IsSegPassOf}
use Rattle.kr_queue.specs.declared.passes.Pass.{Pass}
use Rattle.kr_queue.specs.declared.passes.View.{View}
use Rattle.kr_queue.specs.declared.passes.Role.TheVariants as roles
use Rattle.kr_queue.specs.declared.queue.Queue.{Queue}
use Rattle.kr_queue.specs.QueueRule.{a_pass}

-- what the pass knows
abbrev pub view : Pass → View
view p = p.seat.me.view.client

-- it is a pass of this queue
abbrev pub IsPassOf : Queue → Pass → Type 0
IsPassOf queue p = IsSegPassOf queue.ruled p.seat

-- the passes of the seats 1, 2 and so on of this queue, under which nothing was pushed yet
abbrev pub AreClients : Queue → List Pass → Type 0
AreClients queue passes =
    (k : ℕ) (d : Pass) → k < length passes → IsPassOf queue (slice_index_or passes k d) × (view (slice_index_or passes k d) ≡ a_pass (roles.Client (k + 1)) 0)
