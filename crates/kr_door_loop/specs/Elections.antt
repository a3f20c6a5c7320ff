-- Who leads a partition: the question's layout, and its answer. This project's own.
use Rattle.std.specs.Prelude.{ℕ, ℤ, pos, List, [], ◌∷◌, ◌++◌, int_lt, Option, Some, None, Result, Ok, refl, if◌then◌else◌}
use Rattle.std.specs.Int.{w32}
use Rattle.kr_defs.specs.declared.changing.Choice.{Choice}
use Rattle.kr_defs.specs.declared.changing.Choice.TheVariants as choices
use Rattle.kr_defs.specs.declared.changing.Facts.{Facts}
use Rattle.kr_defs.specs.declared.changing.Mode.{Mode}
use Rattle.kr_defs.specs.declared.changing.Mode.TheVariants as modes
use Rattle.kr_defs.specs.declared.partition.Partition.{Partition}
use Rattle.kr_defs.specs.Elect.{elected}
use Rattle.kr_wire.specs.Schema.{Schema, ◌▸◌, Boolean, Int32, Array, Structure, End}
use Rattle.kr_wire.specs.Spelling.{signed}
use Rattle.kr_door_loop.specs.declared.elections.ElectQuestion.{ElectQuestion}
use Rattle.kr_door_loop.specs.declared.refusal.DoorRefusal.{DoorRefusal}

-- replicas, in-sync, eligible (each [i32]), leader i32, active [i32], preferred bool, unclean bool, restarted i32
abbrev pub elect_question : Schema ElectQuestion
elect_question = Structure (Array Int32 ▸ Array Int32 ▸ Array Int32 ▸ Int32 ▸ Array Int32 ▸ Boolean ▸ Boolean ▸ Int32 ▸ End)
    (λ (replicas, (in_sync, (eligible, (leader, (active, (preferred, (unclean, (restarted, end)))))))). record {
      replicas = replicas;
      in_sync = in_sync;
      eligible = eligible;
      leader = leader;
      active = active;
      preferred = preferred;
      unclean = unclean;
      restarted = restarted;
    })
    (λ q. (q.replicas, (q.in_sync, (q.eligible, (q.leader, (q.active, (q.preferred, (q.unclean, (q.restarted, tt))))))))) (λ v. refl) (λ q. refl)

-- the partition, of which an election reads these fields alone
abbrev pub partition_of : ElectQuestion → Partition
partition_of q = record {
  replicas = q.replicas;
  in_sync = q.in_sync;
  eligible = q.eligible;
  last_known = [];
  adding = [];
  removing = [];
  leader = q.leader;
  recovery = pos 0;
  leader_epoch = pos 0;
  partition_epoch = pos 0;
}

abbrev pub facts_for : ElectQuestion → Facts
facts_for q = record { active = q.active; unclean = q.unclean; minimum = pos 1 }

abbrev pub mode_of : ElectQuestion → Mode
mode_of q = if q.preferred then modes.Preferred else modes.Plain

-- below 0 for none
abbrev pub restarted_of : ElectQuestion → Option ℤ
restarted_of q = if int_lt q.restarted (pos 0) then None else Some q.restarted

abbrev pub choice_number : Choice → ℕ
choice_number choices.InSync = 0
choice_number choices.Eligible = 1
choice_number choices.Unclean = 2
choice_number choices.Nobody = 3

-- the leader, and among whom it was found
abbrev pub ballot : ℤ × Choice → List ℕ
ballot (leader, choice) = signed w32 leader ++ choice_number choice ∷ []

unfoldable pub elects : ElectQuestion → Result (List ℕ) DoorRefusal
elects q = Ok (ballot (elected (partition_of q) q.replicas q.in_sync (mode_of q) (restarted_of q) (facts_for q)))
