-- A run, computed: node 0 leads and writes a batch for a client. The append reaches the store twice, and takes effect once; the link sees the
-- batch and commits it, and the client is told.
use Rattle.std.proofs.Common.{◌≡◌, ℕ, pos, List, [], ◌∷◌, refl, inl}
use Rattle.std.specs.Prelude.{Some, codes, false, fold}
use Rattle.kr_batch.specs.declared.Batch.{Batch}
use Rattle.kr_calls.specs.declared.calls.Ask.TheVariants as asks
use Rattle.kr_calls.specs.declared.calls.Reply.TheVariants as replies
use Rattle.kr_calls.specs.declared.calls.Request.TheVariants as requests
use Rattle.kr_calls.specs.declared.events.Event.{Event}
use Rattle.kr_calls.specs.declared.events.Event.TheVariants as events
use Rattle.kr_calls.specs.Decide.{work_of}
use Rattle.kr_calls.specs.Deciding.{done, taken}
use Rattle.kr_calls.specs.IncrementalAlterConfigs as incremental_alter_configs
use Rattle.kr_calls.specs.NextBasis.{heartbeats_after}
use Rattle.kr_calls.specs.Refuse as refusals
use Rattle.kr_defs.specs.declared.options.Options.{Options}
use Rattle.kr_defs.specs.declared.record.Item.{Item}
use Rattle.kr_defs.specs.declared.record.Item.TheVariants as items
use Rattle.kr_defs.specs.declared.record.Record.TheVariants as kinds
use Rattle.kr_defs.specs.Apply.{apply, apply_record}
use Rattle.kr_defs.specs.Log.{image_at, open_at, state_at}
use Rattle.kr_defs.specs.LogStates.{apply_at}
use Rattle.kr_defs.specs.Sizes.{value_bytes}
use Rattle.law_quorum.specs.Batches.{Batch as StoredBatch}
use Rattle.law_quorum.specs.Changes.{Campaign}
use Rattle.law_link.specs.Frames.{Commit, Lead}
use Rattle.law_link.specs.Links.{Ask, Begin, Call, Execute, Hear, Held, Make, Settle, Win}
use Rattle.law_nodes.specs.Nodes.{NodeTold}
use Rattle.law_one_log.specs.Daemons.{AllMayTurn, IsReadBatch, Link, Serve, SystemTurn, Take, no_system, turned}
use Rattle.law_one_log.specs.StoredBatches.{stored}

abbrev options : Options
options = record { node = pos 1; salt = 7; session_ms = 9000; partitions = pos 1; factor = pos 3; minimum = pos 1; cluster = codes "c1" }

abbrev key : List ℕ
key = codes "min.insync.replicas"

abbrev item : Item
item = items.Record (kinds.Config (pos 4) [] key (Some (codes "2")))

-- the client is told that its write stands at place 0
abbrev success : NodeTold
success = record {
  node = 0;
  client = 1;
  correlation = pos 7;
  place = pos 0;
  items = item ∷ [];
  reply = replies.IncrementalAlterConfigs (record { responses = record { error = pos 0; kind = pos 4; name = [] } ∷ [] });
}

abbrev asked : Event
asked = events.Request 1 (pos 0) (asks.Call (record {
  correlation = pos 7;
  request = requests.IncrementalAlterConfigs (record {
    resources = record { kind = pos 4; name = []; configs = record { name = key; operation = pos 0; value = Some (codes "2") } ∷ [] } ∷ [];
    validate_only = false;
  });
}))

abbrev appended : Batch
appended = record { base = pos 0; epoch = pos 1; time = pos 0; items = item ∷ [] }

abbrev batch : StoredBatch
batch = stored appended

abbrev one : Held
one = record { epoch = 1; made = 1; start = 0 }

abbrev call : Call
call = record { epoch = 1; made = 1; group = batch ∷ [] }

abbrev run : List SystemTurn
run = Link (Make (Campaign 0 7 1)) ∷ Link (Win 0 one) ∷ Link (Begin 0 one) ∷ Take 0 (Lead 1 0) [] (pos 0) ∷ Serve 0 asked ∷ Link (Hear 0 batch []) ∷ Link (Ask 0 one (batch ∷ []) [])
    ∷ Link (Execute 0 call) ∷ Link (Execute 0 call) ∷ Link (Settle 0 one) ∷ Take 0 (Commit 1 1) [] (pos 0) ∷ []

-- it meets the conditions, where the bytes of its batch are read as it
may_turn : IsReadBatch appended → AllMayTurn options no_system run
unfolding work_of incremental_alter_configs.decided done taken apply_record apply image_at state_at apply_at open_at value_bytes heartbeats_after refusals.refuse
may_turn read = (
  (tt, tt),
  (
    ((refl, (λ x. x), record { leadership = record { node = 0; token = 7; epoch = 1; made = 1; start = []; wrote = [] }; found = refl; holder = refl; key = refl; began = refl }), tt),
    (
      (record { holds = refl; standby = refl; reached = refl }, tt),
      (
        (refl, tt, refl),
        (
          (tt, (read, tt)),
          (
            ((refl, refl), tt),
            (
              (record { holds = refl; leads = refl; none = refl; first = batch; others = []; some = refl; next = refl }, tt),
              (
                (inl refl, tt),
                (
                  (inl refl, tt),
                  (
                    (record { holds = refl; leads = refl; first = batch; others = []; some = refl; seen = record { before = []; after = []; split = refl; begins = refl } }, tt),
                    ((refl, tt, refl), tt),
                  ),
                ),
              ),
            ),
          ),
        ),
      ),
    ),
  ),
)

told_then : (fold (turned options) no_system run).told ≡ success ∷ []
unfolding work_of incremental_alter_configs.decided done taken apply_record apply image_at state_at apply_at open_at value_bytes heartbeats_after refusals.refuse
told_then = refl

-- the log has it once
log_then : (fold (turned options) no_system run).network.web.cluster.point.log ≡ batch ∷ []
unfolding work_of incremental_alter_configs.decided done taken apply_record apply image_at state_at apply_at open_at value_bytes heartbeats_after refusals.refuse
log_then = refl

-- what the link is told of it is what the daemon gave
pipe_then : ((fold (turned options) no_system (Link (Make (Campaign 0 7 1)) ∷ Link (Win 0 one) ∷ Link (Begin 0 one) ∷ Take 0 (Lead 1 0) [] (pos 0) ∷ Serve 0 asked ∷ [])).network.web.links 0).pipe ≡ batch ∷ []
unfolding work_of incremental_alter_configs.decided done taken apply_record apply image_at state_at apply_at open_at value_bytes heartbeats_after refusals.refuse
pipe_then = refl
