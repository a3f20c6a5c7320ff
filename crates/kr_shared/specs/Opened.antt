-- What was opened. This project's own.
use Rattle.std.specs.Prelude.{◌≡◌, ℕ, ◌+◌, false, List, [], length, None}
use Rattle.kr_base.specs.Causes.{Rose}
use Rattle.kr_defs.specs.declared.options.Options.{Options}
use Rattle.kr_queue.specs.declared.jobs.Job.{Job}
use Rattle.kr_queue.specs.declared.passes.Role.TheVariants as roles
use Rattle.kr_queue.specs.QueueRule.{a_pass}
use Rattle.kr_view.specs.declared.opening.ViewFault.{ViewFault}
use Rattle.kr_view.specs.declared.opening.ViewFault.TheVariants.{NoPlace, NoMemory}
use Rattle.kr_model.specs.World.{start}
use Rattle.kr_shared.specs.Clients.{AreClientSeats, Client}
use Rattle.kr_shared.specs.Standing.{Standing}
use Rattle.kr_shared.specs.Turns.{Bench}
use Rattle.kr_shared.specs.Works.{resting}

-- the worker stands for the state before all events and shows an empty list; the link pushed nothing, and the clients asked
-- nothing
pub record AreSeated (options : Options) (seats : ℕ) (worker : Bench) (link : List Job) (clients : List Client) : Type 0 where
  pub knows : worker.knows ≡ a_pass roles.Worker (seats + 2)
  pub stands : Standing worker.work start []
  pub shelf : worker.work.shelf ≡ resting options []
  pub shown : worker.shown ≡ []
  pub stays : worker.stays ≡ None
  pub events : worker.events ≡ 0
  pub refusal : worker.refusal ≡ None
  pub stopped : worker.stopped ≡ false
  pub late : worker.late ≡ false
  pub nothing : link ≡ []
  pub many : length clients ≡ seats
  pub seated : AreClientSeats options clients

-- no place only where the count of refused places rose; of want of memory nothing is said
abbrev pub IsOpenCause : ℕ → ℕ → ViewFault → Type 0
IsOpenCause old new NoPlace = Rose old new
IsOpenCause old new NoMemory = Unit {0}
