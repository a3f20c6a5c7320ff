-- Small schedules, computed. Each request sets a broker default.
use Rattle.std.specs.Prelude.{◌≡◌, ℕ, ℤ, pos, negsuc, false, List, [], ◌∷◌, map, Some, Err, codes}
use Rattle.std.proofs.Common.{refl}
use Rattle.kr_calls.specs.declared.calls.Reply.{Reply}
use Rattle.kr_calls.specs.declared.calls.Reply.TheVariants as replies
use Rattle.kr_calls.specs.declared.calls.Request.TheVariants as requests
use Rattle.kr_calls.specs.Decide.{work_of}
use Rattle.kr_calls.specs.Deciding.{done, taken}
use Rattle.kr_calls.specs.IncrementalAlterConfigs as incremental_alter_configs
use Rattle.kr_calls.specs.NextBasis.{heartbeats_after}
use Rattle.kr_calls.specs.Refuse as refusals
use Rattle.kr_defs.specs.declared.options.Options.{Options}
use Rattle.kr_defs.specs.declared.record.ConfigKey.{ConfigKey}
use Rattle.kr_defs.specs.declared.record.Item.{Item}
use Rattle.kr_defs.specs.declared.record.Item.TheVariants as items
use Rattle.kr_defs.specs.declared.record.Record.TheVariants as kinds
use Rattle.kr_defs.specs.Apply.{apply, apply_record}
use Rattle.kr_defs.specs.Log.{image_at, open_at, state_at}
use Rattle.kr_defs.specs.LogStates.{apply_at}
use Rattle.kr_defs.specs.Sizes.{value_bytes}
use Rattle.kr_model.specs.World.{image_of_closed}
use Rattle.law_nodes.specs.declared.moves.Move.{Move}
use Rattle.law_nodes.specs.declared.moves.Move.TheVariants as moves
use Rattle.law_nodes.specs.declared.moves.MoveFault.TheVariants as faults
use Rattle.law_nodes.specs.Moves.{committed_end, move_outcome, run}
use Rattle.law_nodes.specs.Nodes.{NodeTold, Run}

abbrev options : Options
options = record { node = pos 1; salt = 7; session_ms = 9000; partitions = pos 1; factor = pos 3; minimum = pos 1; cluster = codes "c1" }

abbrev key : List ℕ
key = codes "min.insync.replicas"

-- to set it to the value
abbrev ask : ℕ → ℤ → List ℕ → Move
ask k correlation value = moves.Ask k 1 (pos 0) (record {
  correlation = correlation;
  request = requests.IncrementalAlterConfigs (record {
    resources = record { kind = pos 4; name = []; configs = record { name = key; operation = pos 0; value = Some value } ∷ [] } ∷ [];
    validate_only = false;
  });
})

abbrev elect : ℕ → ℤ → Move
elect k epoch = moves.Elect k epoch (pos 0)

abbrev reply : ℤ → Reply
reply error = replies.IncrementalAlterConfigs (record { responses = record { error = error; kind = pos 4; name = [] } ∷ [] })

abbrev item : List ℕ → Item
item value = items.Record (kinds.Config (pos 4) [] key (Some value))

-- a write of node 0 that stands at the place, and one that was lost
abbrev stands : ℤ → ℤ → List ℕ → NodeTold
stands correlation place value = record { node = 0; client = 1; correlation = correlation; place = place; items = item value ∷ []; reply = reply (pos 0) }

abbrev lost : ℤ → NodeTold
lost correlation = record { node = 0; client = 1; correlation = correlation; place = negsuc 0; items = []; reply = reply (pos 41) }

abbrev ends : Run → List ℕ
ends r = map (λ n. committed_end n) r.nodes

abbrev settings : Run → List (List (ConfigKey × List ℕ))
settings r = map (λ n. (image_of_closed n.state).configs) r.nodes

abbrev setting : List ℕ → List (ConfigKey × List ℕ)
setting value = (record { kind = pos 4; name = []; key = key }, value) ∷ []

-- ---- a leader is deposed before it is told; it is behind until it is fed

abbrev deposed : List Move
deposed = elect 0 (pos 1) ∷ ask 0 (pos 7) (codes "2") ∷ moves.Settle 0 ∷ moves.Depose 0 ∷ []

abbrev late : Run
late = run options 3 (
    elect 0 (pos 1) ∷ ask 0 (pos 7) (codes "2") ∷ moves.Settle 0 ∷ moves.Depose 0 ∷ elect 0 (pos 2) ∷ moves.Feed 1 ∷ elect 1 (pos 2) ∷ moves.Feed 0 ∷ [])

is_behind : move_outcome options (run options 3 deposed) (elect 0 (pos 2)) ≡ Err (faults.Behind (pos 0) (pos 1))
unfolding work_of incremental_alter_configs.decided done taken apply_record apply image_at state_at apply_at open_at value_bytes heartbeats_after refusals.refuse
is_behind = refl

late_told : late.told ≡ lost (pos 7) ∷ []
unfolding work_of incremental_alter_configs.decided done taken apply_record apply image_at state_at apply_at open_at value_bytes heartbeats_after refusals.refuse
late_told = refl

late_ends : ends late ≡ 1 ∷ 1 ∷ 0 ∷ []
unfolding work_of incremental_alter_configs.decided done taken apply_record apply image_at state_at apply_at open_at value_bytes heartbeats_after refusals.refuse
late_ends = refl

late_settings : settings late ≡ setting (codes "2") ∷ setting (codes "2") ∷ [] ∷ []
unfolding work_of incremental_alter_configs.decided done taken apply_record apply image_at state_at apply_at open_at value_bytes heartbeats_after refusals.refuse
late_settings = refl

-- ---- a success is told once it is settled

abbrev asked : Run
asked = run options 3 (elect 0 (pos 1) ∷ ask 0 (pos 7) (codes "2") ∷ [])

abbrev told : Run
told = run options 3 (elect 0 (pos 1) ∷ ask 0 (pos 7) (codes "2") ∷ moves.Tell 0 ∷ moves.Settle 0 ∷ moves.Tell 0 ∷ [])

not_yet : move_outcome options asked (moves.Tell 0) ≡ Err (faults.NothingNew (pos 0))
unfolding work_of incremental_alter_configs.decided done taken apply_record apply image_at state_at apply_at open_at value_bytes heartbeats_after refusals.refuse
not_yet = refl

told_then : told.told ≡ stands (pos 7) (pos 0) (codes "2") ∷ []
unfolding work_of incremental_alter_configs.decided done taken apply_record apply image_at state_at apply_at open_at value_bytes heartbeats_after refusals.refuse
told_then = refl

no_more : move_outcome options told (moves.Tell 0) ≡ Err (faults.NothingNew (pos 1))
unfolding work_of incremental_alter_configs.decided done taken apply_record apply image_at state_at apply_at open_at value_bytes heartbeats_after refusals.refuse
no_more = refl

-- ---- a leader that was passed over settles nothing more, but tells what it settled

abbrev passed : List Move
passed = elect 0 (pos 1) ∷ ask 0 (pos 7) (codes "2") ∷ ask 0 (pos 8) (codes "3") ∷ moves.Settle 0 ∷ moves.Feed 1 ∷ elect 1 (pos 2) ∷ []

is_passed : move_outcome options (run options 3 passed) (moves.Settle 0) ≡ Err (faults.NotLatest (pos 1) (pos 2))
unfolding work_of incremental_alter_configs.decided done taken apply_record apply image_at state_at apply_at open_at value_bytes heartbeats_after refusals.refuse
is_passed = refl

abbrev follows : Run
follows = run options 3 (
    elect 0 (pos 1) ∷ ask 0 (pos 7) (codes "2") ∷ ask 0 (pos 8) (codes "3") ∷ moves.Settle 0 ∷ moves.Feed 1 ∷ elect 1 (pos 2)
    ∷ moves.Settle 0 ∷ moves.Tell 0 ∷ ask 1 (pos 9) (codes "4") ∷ moves.Settle 1 ∷ moves.Tell 0 ∷ moves.Depose 0 ∷ moves.Feed 0 ∷ [])

follows_told : follows.told ≡ stands (pos 7) (pos 0) (codes "2") ∷ lost (pos 8) ∷ []
unfolding work_of incremental_alter_configs.decided done taken apply_record apply image_at state_at apply_at open_at value_bytes heartbeats_after refusals.refuse
follows_told = refl

-- node 1 isn't told yet of what it settled
follows_settings : settings follows ≡ setting (codes "4") ∷ setting (codes "2") ∷ [] ∷ []
unfolding work_of incremental_alter_configs.decided done taken apply_record apply image_at state_at apply_at open_at value_bytes heartbeats_after refusals.refuse
follows_settings = refl

-- ---- a new node gets the image, unless the other one is older

copied : ends (run options 3 (elect 0 (pos 1) ∷ ask 0 (pos 7) (codes "2") ∷ moves.Settle 0 ∷ moves.Tell 0 ∷ moves.Copy 0 2 ∷ moves.Copy 1 2 ∷ [])) ≡ 1 ∷ 0 ∷ 1 ∷ []
unfolding work_of incremental_alter_configs.decided done taken apply_record apply image_at state_at apply_at open_at value_bytes heartbeats_after refusals.refuse
copied = refl

no_node : move_outcome options (run options 3 []) (moves.Copy 4 3) ≡ Err (faults.NoNode 4 3)
no_node = refl
