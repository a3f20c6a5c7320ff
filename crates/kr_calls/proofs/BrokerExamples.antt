-- What is decided of brokers, by computation: each refusal, and each row of the table of heartbeats.
use Rattle.std.specs.Prelude.{◌≡◌, ℤ, pos, negsuc, Bool, true, false, [], ◌∷◌, Some, None, Ok, Err, codes, OnOk}
use Rattle.std.proofs.Common.{refl}
use Rattle.kr_defs.specs.declared.record.Record.TheVariants as kinds
use Rattle.kr_defs.specs.Build.{aimed, built, completes, difference, ended, settled, standing_by}
use Rattle.kr_defs.specs.Elect.{elected}
use Rattle.kr_defs.specs.Eligible.{eligible_after}
use Rattle.kr_defs.specs.Heartbeats.{Heartbeats, heard}
use Rattle.kr_defs.specs.Image.{Image}
use Rattle.kr_calls.specs.declared.errors.TheConstants.{BROKER_ID_NOT_REGISTERED, DUPLICATE_BROKER_REGISTRATION, INCONSISTENT_CLUSTER_ID, INVALID_REQUEST, STALE_BROKER_EPOCH}
use Rattle.kr_calls.specs.declared.broker_heartbeat.BrokerHeartbeat.{BrokerHeartbeat}
use Rattle.kr_calls.specs.declared.broker_heartbeat.BrokerHeartbeatReply.{BrokerHeartbeatReply}
use Rattle.kr_calls.specs.declared.broker_registration.BrokerRegistration.{BrokerRegistration}
use Rattle.kr_calls.specs.BrokerHeartbeat as broker_heartbeat
use Rattle.kr_calls.specs.BrokerRegistration as broker_registration
use Rattle.kr_calls.specs.UnregisterBroker as unregister_broker
use Rattle.kr_calls.proofs.Cluster.{basis, broker, cluster, image, leaderless, no_change, options}

-- ---- registrations

abbrev asks : BrokerRegistration
asks = record {
  broker = pos 4;
  cluster = codes "c1";
  incarnation = 101;
  listeners = record { name = []; host = codes "h"; port = 1; protocol = pos 0 } ∷ [];
  features = [];
  rack = None;
  migrating = false;
  previous_epoch = pos 13;
}

other_cluster : broker_registration.rule options basis.time (heard basis) image (pos 30) (record asks { cluster = codes "c2"; broker = negsuc 0 }) ≡ Err INCONSISTENT_CLUSTER_ID
other_cluster = refl

negative_id : broker_registration.rule options basis.time (heard basis) image (pos 30) (record asks { broker = negsuc 0 }) ≡ Err INVALID_REQUEST
negative_id = refl

migrating : broker_registration.rule options basis.time (heard basis) image (pos 30) (record asks { migrating = true }) ≡ Err INVALID_REQUEST
migrating = refl

no_listener : broker_registration.rule options basis.time (heard basis) image (pos 30) (record asks { listeners = [] }) ≡ Err INVALID_REQUEST
no_listener = refl

-- broker 1 was heard of a second ago
other_incarnation : broker_registration.rule options basis.time (heard basis) image (pos 30) (record asks { broker = pos 1 }) ≡ Err DUPLICATE_BROKER_REGISTRATION
other_incarnation = refl

-- its session has just ended
late : OnOk (broker_registration.rule options (pos 10000) (heard basis) image (pos 30) (record asks { broker = pos 1 })) (Unit {0})
late = tt

-- one millisecond before that it hasn't
in_time : broker_registration.rule options (pos 9999) (heard basis) image (pos 30) (record asks { broker = pos 1 }) ≡ Err DUPLICATE_BROKER_REGISTRATION
in_time = refl

-- a fenced broker registers anew; it is in sync nowhere
anew : broker_registration.rule options basis.time (heard basis) image (pos 30) asks
    ≡ Ok (record { records = kinds.RegisterBroker (pos 4) (record (broker (pos 30) true) { incarnation = 101; endpoints = asks.listeners }) ∷ []; answer = record { error = pos 0; epoch = pos 30 } })
anew = refl

-- ---- heartbeats

abbrev beats : BrokerHeartbeat
beats = record { broker = pos 2; epoch = pos 11; offset = pos 30; want_fence = false; want_shutdown = false }

abbrev fenced_beats : BrokerHeartbeat
fenced_beats = record beats { broker = pos 4; epoch = pos 13 }

abbrev answers : Bool → Bool → Bool → BrokerHeartbeatReply
answers caught_up fenced shuts_down = record { error = pos 0; caught_up = caught_up; fenced = fenced; should_shut_down = shuts_down }

unknown_broker : broker_heartbeat.rule options (heard basis) image (pos 30) (record beats { broker = pos 9 }) ≡ Err STALE_BROKER_EPOCH
unknown_broker = refl

stale_epoch : broker_heartbeat.rule options (heard basis) image (pos 30) (record beats { epoch = pos 12 }) ≡ Err STALE_BROKER_EPOCH
stale_epoch = refl

active_stays : broker_heartbeat.rule options (heard basis) image (pos 30) beats ≡ Ok (record { records = []; answer = answers true false false })
unfolding broker_heartbeat.step
active_stays = refl

active_behind : broker_heartbeat.rule options (heard basis) image (pos 30) (record beats { offset = pos 10 }) ≡ Ok (record { records = []; answer = answers false false false })
unfolding broker_heartbeat.step
active_behind = refl

fenced_shuts_down : broker_heartbeat.rule options (heard basis) image (pos 30) (record fenced_beats { want_shutdown = true }) ≡ Ok (record { records = []; answer = answers true true true })
unfolding broker_heartbeat.step
fenced_shuts_down = refl

fenced_stays : broker_heartbeat.rule options (heard basis) image (pos 30) (record fenced_beats { want_fence = true }) ≡ Ok (record { records = []; answer = answers true true false })
unfolding broker_heartbeat.step
fenced_stays = refl

fenced_behind : broker_heartbeat.rule options (heard basis) image (pos 30) (record fenced_beats { offset = pos 12 }) ≡ Ok (record { records = []; answer = answers false true false })
unfolding broker_heartbeat.step
fenced_behind = refl

unfences : broker_heartbeat.rule options (heard basis) image (pos 30) fenced_beats
    ≡ Ok (record { records = kinds.BrokerRegistrationChange (pos 4) (pos 13) (negsuc 0) (pos 0) ∷ []; answer = answers true false false })
unfolding broker_heartbeat.step
unfences = refl

-- broker 2 follows, so that it leaves the replicas in sync alone
wants_fence : broker_heartbeat.rule options (heard basis) image (pos 30) (record beats { want_fence = true })
    ≡ Ok (record {
      records = kinds.BrokerRegistrationChange (pos 2) (pos 11) (pos 1) (pos 0)
          ∷ kinds.PartitionChange (pos 0) 77 (record no_change { in_sync = Some (pos 1 ∷ pos 3 ∷ []) }) ∷ [];
      answer = answers true true false;
    })
unfolding broker_heartbeat.step built aimed ended completes settled standing_by elected eligible_after difference
wants_fence = refl

-- broker 2 leads nothing, so that it may go at once
shuts_down : broker_heartbeat.rule options (heard basis) image (pos 30) (record beats { want_shutdown = true })
    ≡ Ok (record {
      records = kinds.BrokerRegistrationChange (pos 2) (pos 11) (pos 1) (pos 0)
          ∷ kinds.PartitionChange (pos 0) 77 (record no_change { in_sync = Some (pos 1 ∷ pos 3 ∷ []) }) ∷ [];
      answer = answers true true true;
    })
unfolding broker_heartbeat.step built aimed ended completes settled standing_by elected eligible_after difference
shuts_down = refl

-- broker 1 leads, so that it stops first and hands its leadership on
begins_to_stop : broker_heartbeat.rule options (heard basis) image (pos 30) (record beats { broker = pos 1; epoch = pos 10; want_shutdown = true })
    ≡ Ok (record {
      records = kinds.BrokerRegistrationChange (pos 1) (pos 10) (pos 0) (pos 1)
          ∷ kinds.PartitionChange (pos 0) 77 (record no_change { in_sync = Some (pos 2 ∷ pos 3 ∷ []); leader = Some (pos 2) }) ∷ [];
      answer = answers true false false;
    })
unfolding broker_heartbeat.step built aimed ended completes settled standing_by elected eligible_after difference
begins_to_stop = refl

-- ---- a stopping broker

abbrev stopping_image : Image
stopping_image = record image {
  brokers = (pos 1, record (broker (pos 10) false) { stopping = true }) ∷ (pos 2, broker (pos 11) false) ∷ (pos 3, broker (pos 12) false) ∷ [];
  partitions = [];
}

abbrev stopping_at : ℤ → Heartbeats
stopping_at tip = record (heard basis) { stopping = record { broker = pos 1; tip = tip } ∷ [] }

-- broker 2 has read up to 21 alone
waits : broker_heartbeat.rule options (stopping_at (pos 22)) stopping_image (pos 30) (record beats { broker = pos 1; epoch = pos 10 })
    ≡ Ok (record { records = []; answer = answers true false false })
unfolding broker_heartbeat.step
waits = refl

-- both active brokers have read so far
goes : broker_heartbeat.rule options (stopping_at (pos 21)) stopping_image (pos 30) (record beats { broker = pos 1; epoch = pos 10 })
    ≡ Ok (record { records = kinds.BrokerRegistrationChange (pos 1) (pos 10) (pos 1) (pos 0) ∷ []; answer = answers true true true })
unfolding broker_heartbeat.step
goes = refl

-- ---- a leaderless partition finds the broker that is unfenced

abbrev broken_image : Image
broken_image = record (cluster leaderless) {
  brokers = (pos 1, broker (pos 10) false) ∷ (pos 2, broker (pos 11) false) ∷ (pos 3, broker (pos 12) true) ∷ [];
}

leads_again : broker_heartbeat.rule options (heard basis) broken_image (pos 30) (record beats { broker = pos 3; epoch = pos 12 })
    ≡ Ok (record {
      records = kinds.BrokerRegistrationChange (pos 3) (pos 12) (negsuc 0) (pos 0)
          ∷ kinds.PartitionChange (pos 0) 77 (record no_change { in_sync = Some (pos 3 ∷ []); eligible = Some []; leader = Some (pos 3) }) ∷ [];
      answer = answers true false false;
    })
unfolding broker_heartbeat.step built aimed ended completes settled standing_by elected eligible_after difference
leads_again = refl

-- ---- unregistrations

not_registered : unregister_broker.rule options image (pos 30) (record { broker = pos 9 }) ≡ Err BROKER_ID_NOT_REGISTERED
not_registered = refl

-- broker 3 goes uncleanly: it is neither in sync nor eligible afterwards
goes_for_good : unregister_broker.rule options image (pos 30) (record { broker = pos 3 })
    ≡ Ok (record {
      records = kinds.UnregisterBroker (pos 3) (pos 12)
          ∷ kinds.PartitionChange (pos 0) 77 (record no_change { in_sync = Some (pos 1 ∷ pos 2 ∷ []) }) ∷ [];
      answer = record { error = pos 0 };
    })
unfolding built aimed ended completes settled standing_by elected eligible_after difference
goes_for_good = refl
