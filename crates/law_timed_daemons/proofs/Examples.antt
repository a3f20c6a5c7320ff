-- A run, computed: a daemon is led by its link, and writes a batch for a client. The append is called for twice, reaches the store twice, and
-- takes effect once; the link is told so, and the client is told.
use Rattle.std.proofs.Common.{◌≡◌, ℕ, zero, suc, ◌+◌, pos, List, [], ◌∷◌, refl, inl, inr}
use Rattle.std.specs.Prelude.{None, Some, codes, false, fold}
use Rattle.kr_batch.specs.declared.Batch.{Batch}
use Rattle.kr_calls.specs.declared.calls.Ask.TheVariants as asks
use Rattle.kr_calls.specs.declared.calls.Reply.TheVariants as replies
use Rattle.kr_calls.specs.declared.calls.Request.TheVariants as requests
use Rattle.kr_calls.specs.declared.events.Event.{Event}
use Rattle.kr_calls.specs.declared.events.Event.TheVariants as events
use Rattle.kr_calls.specs.Decide.{work_of}
use Rattle.kr_calls.specs.Deciding.{done, taken}
use Rattle.kr_calls.specs.IncrementalAlterConfigs as incremental_alter_configs
use Rattle.kr_calls.specs.NextBasis.{heartbeats_after}
use Rattle.kr_calls.specs.Refuse as refusals
use Rattle.kr_defs.specs.declared.options.Options.{Options}
use Rattle.kr_defs.specs.declared.record.Item.{Item}
use Rattle.kr_defs.specs.declared.record.Item.TheVariants as items
use Rattle.kr_defs.specs.declared.record.Record.TheVariants as kinds
use Rattle.kr_defs.specs.Apply.{apply, apply_record}
use Rattle.kr_defs.specs.Log.{image_at, open_at, state_at}
use Rattle.kr_defs.specs.LogStates.{apply_at}
use Rattle.kr_defs.specs.Sizes.{value_bytes}
use Rattle.law_quorum.specs.Batches.{Batch as StoredBatch}
use Rattle.law_nodes.specs.Nodes.{NodeTold}
use Rattle.law_one_log.specs.StoredBatches.{stored}
use Rattle.law_quorum.specs.Changes.{Append, Campaign}
use Rattle.law_link.specs.Frames.{Commit, Lead}
use Rattle.kr_link.specs.declared.actions.Action.TheVariants as actions
use Rattle.kr_link.specs.declared.actions.DaemonFrame.TheVariants as frames
use Rattle.kr_link.specs.declared.actions.Guard.{Guard}
use Rattle.kr_link.specs.declared.link.LinkSettings.{LinkSettings}
use Rattle.kr_link.specs.declared.link.SeenLog.{SeenLog}
use Rattle.kr_link.specs.declared.roles.Held.{Held}
use Rattle.kr_link.specs.LinkMoves as calls
use Rattle.kr_link.specs.TimedLinks.{admits, asks_again, asks_image, asks_renewal, beats, beats_when_due, calls_again, campaign_of, campaigning, closes, commits, considers, ends_when_due, first_link, follows, gives_up, hears, holds, holds_any, is_awaited, is_beat, is_below_end, is_below_image, is_due_to_end, is_follower, is_looking, is_ping_answer, is_served, is_silent, is_stray, is_to_renew, let_go, looks, may_campaign, notes, on_fail, on_join, on_miss, on_refuse, on_see, on_stand, on_wake, on_win, on_write, pinged, places_of, reads_batches, reads_image, renews, resigns, serves, settles_campaign, stands_for, ticks, tries, wants_image, with_beat, with_ping_answer}
use Rattle.law_one_log.specs.Daemons.{IsReadBatch}
use Rattle.law_timed_links.specs.TimedRuns.{Calls, Reaches, Takes}
use Rattle.law_timed_daemons.specs.TimedDaemons.{AllMayTurnTimed, Handles, Links, Receives, TimedTurn, first_timed, timed_turned}

abbrev options : Options
options = record { node = pos 1; salt = 7; session_ms = 9000; partitions = pos 1; factor = pos 3; minimum = pos 1; cluster = codes "c1" }

abbrev key : List ℕ
key = codes "min.insync.replicas"

abbrev item : Item
item = items.Record (kinds.Config (pos 4) [] key (Some (codes "2")))

-- the client is told that its write stands at place 0
abbrev success : NodeTold
success = record {
  node = 0;
  client = 1;
  correlation = pos 7;
  place = pos 0;
  items = item ∷ [];
  reply = replies.IncrementalAlterConfigs (record { responses = record { error = pos 0; kind = pos 4; name = [] } ∷ [] });
}

abbrev asked : Event
asked = events.Request 1 (pos 0) (asks.Call (record {
  correlation = pos 7;
  request = requests.IncrementalAlterConfigs (record {
    resources = record { kind = pos 4; name = []; configs = record { name = key; operation = pos 0; value = Some (codes "2") } ∷ [] } ∷ [];
    validate_only = false;
  });
}))

abbrev appended : Batch
appended = record { base = pos 0; epoch = pos 1; time = pos 0; items = item ∷ [] }

abbrev batch : StoredBatch
batch = stored appended

-- names of campaigns, which differ: twice as great for the next link, and odd for the first
abbrev name : ℕ → ℕ → ℕ
name zero token = token + token + 1
name (suc life) token = name life token + name life token

abbrev settings : ℕ → LinkSettings
settings k = record { term = 5000; images = 0 }

abbrev held : Held
held = record { epoch = 1; made = 1; start = 0 }

abbrev seen : SeenLog
seen = record { end = 0; is_led = false; image = 0 }

abbrev guard : Guard
guard = record { made = 1; end = 0 }

abbrev run : List TimedTurn
run =
    Links (Calls 0 (calls.Join 0))
    ∷ Links (Takes 0 (actions.Send frames.Ping) [])
    ∷ Links (Calls 0 (calls.Refuse 1 None 1))
    ∷ Links (Takes 0 actions.Look [])
    ∷ Links (Calls 0 (calls.See seen 1))
    ∷ Links (Takes 0 (actions.Campaign 0) [])
    ∷ Links (Reaches 0 0 (actions.Campaign 0) (Campaign 0 1 1))
    ∷ Links (Calls 0 (calls.Win 0 held))
    ∷ Links (Takes 0 (actions.Send (frames.Lead 1 0)) [])
    ∷ Receives 0 (Lead 1 0) [] (pos 0)
    ∷ Handles 0 asked
    ∷ Links (Calls 0 (calls.Write batch))
    ∷ Links (Takes 0 (actions.Append guard (batch ∷ [])) [])
    ∷ Links (Calls 0 (calls.Miss 1 0))
    ∷ Links (Calls 0 (calls.Wake 3))
    ∷ Links (Takes 0 (actions.Append guard (batch ∷ [])) (actions.Send frames.Tick ∷ actions.Send frames.Ping ∷ actions.Look ∷ []))
    ∷ Links (Reaches 0 0 (actions.Append guard (batch ∷ [])) (Append 1 (batch ∷ [])))
    ∷ Links (Reaches 0 0 (actions.Append guard (batch ∷ [])) (Append 1 (batch ∷ [])))
    ∷ Links (Takes 0 (actions.Send frames.Tick) (actions.Send frames.Ping ∷ actions.Look ∷ []))
    ∷ Links (Takes 0 (actions.Send frames.Ping) (actions.Look ∷ []))
    ∷ Links (Calls 0 (calls.Stand 1 0))
    ∷ Links (Takes 0 actions.Look (actions.Send (frames.Commit 1 1) ∷ []))
    ∷ Links (Takes 0 (actions.Send (frames.Commit 1 1)) [])
    ∷ Receives 0 (Commit 1 1) [] (pos 0)
    ∷ []

may_turn : IsReadBatch appended → AllMayTurnTimed options name (first_timed settings) run
unfolding first_link on_join serves pinged on_refuse is_served is_ping_answer with_ping_answer looks let_go closes gives_up on_see is_looking notes considers wants_image asks_image places_of follows is_follower is_below_image is_below_end reads_image reads_batches stands_for may_campaign campaigning on_win settles_campaign campaign_of admits holds_any holds resigns on_write is_stray hears on_fail is_awaited on_stand commits on_miss on_wake ends_when_due is_due_to_end calls_again asks_again renews is_to_renew tries asks_renewal beats_when_due is_beat beats with_beat is_silent ticks work_of incremental_alter_configs.decided done taken apply_record apply image_at state_at apply_at open_at value_bytes heartbeats_after refusals.refuse
may_turn read = (
  (tt, refl),
  (
    (tt, refl),
    (
      (tt, tt),
      (
        (tt, refl),
        (
          (tt, tt),
          (
            (tt, refl),
            (
              (tt, (inl refl, (1, refl))),
              (
                (tt, (record { leadership = record { node = 0; token = 1; epoch = 1; made = 1; start = []; wrote = [] }; found = refl; holder = refl; key = refl; began = refl }, refl)),
                (
                  (tt, refl),
                  (
                    (refl, tt, refl),
                    (
                      (tt, (read, tt)),
                      (
                        (tt, ([], refl)),
                        (
                          (tt, refl),
                          (
                            (tt, tt),
                            (
                              (tt, tt),
                              (
                                (tt, refl),
                                (
                                  (tt, (inl refl, refl)),
                                  (
                                    (tt, (inl refl, refl)),
                                    (
                                      (tt, refl),
                                      (
                                        (tt, refl),
                                        (
                                          (tt, record { life = 0; guard = guard; first = batch; others = []; was_done = inr (inr (inl refl)); key = refl; at = refl; seen = record { before = []; after = []; split = refl; begins = refl } }),
                                          (
                                            (tt, refl),
                                            (
                                              (tt, refl),
                                              ((refl, tt, refl), tt),
                                            ),
                                          ),
                                        ),
                                      ),
                                    ),
                                  ),
                                ),
                              ),
                            ),
                          ),
                        ),
                      ),
                    ),
                  ),
                ),
              ),
            ),
          ),
        ),
      ),
    ),
  ),
)

told_then : (fold (timed_turned options) (first_timed settings) run).told ≡ success ∷ []
unfolding first_link on_join serves pinged on_refuse is_served is_ping_answer with_ping_answer looks let_go closes gives_up on_see is_looking notes considers wants_image asks_image places_of follows is_follower is_below_image is_below_end reads_image reads_batches stands_for may_campaign campaigning on_win settles_campaign campaign_of admits holds_any holds resigns on_write is_stray hears on_fail is_awaited on_stand commits on_miss on_wake ends_when_due is_due_to_end calls_again asks_again renews is_to_renew tries asks_renewal beats_when_due is_beat beats with_beat is_silent ticks work_of incremental_alter_configs.decided done taken apply_record apply image_at state_at apply_at open_at value_bytes heartbeats_after refusals.refuse
told_then = refl

-- the log has it once
log_then : (fold (timed_turned options) (first_timed settings) run).run.cluster.point.log ≡ batch ∷ []
unfolding first_link on_join serves pinged on_refuse is_served is_ping_answer with_ping_answer looks let_go closes gives_up on_see is_looking notes considers wants_image asks_image places_of follows is_follower is_below_image is_below_end reads_image reads_batches stands_for may_campaign campaigning on_win settles_campaign campaign_of admits holds_any holds resigns on_write is_stray hears on_fail is_awaited on_stand commits on_miss on_wake ends_when_due is_due_to_end calls_again asks_again renews is_to_renew tries asks_renewal beats_when_due is_beat beats with_beat is_silent ticks work_of incremental_alter_configs.decided done taken apply_record apply image_at state_at apply_at open_at value_bytes heartbeats_after refusals.refuse
log_then = refl
