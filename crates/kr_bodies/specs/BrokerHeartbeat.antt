-- BrokerHeartbeat, key 63, version 0, after Kafka's published schemas: what its bytes and those of its reply stand for, and their layouts.
use Rattle.std.specs.Prelude.{List, ℕ, pos, refl}
use Rattle.std.specs.Int.{w16, w32, w64}
use Rattle.kr_wire.specs.Grammar.{◌⌢◌, IsSigned, IsBool, NoTags}
use Rattle.kr_wire.specs.Schema.{Schema, ◌▸◌, Int16, Int32, Int64, Boolean, Constant, Structure, End}
use Rattle.kr_calls.specs.declared.broker_heartbeat.BrokerHeartbeat.{BrokerHeartbeat}
use Rattle.kr_calls.specs.declared.broker_heartbeat.BrokerHeartbeatReply.{BrokerHeartbeatReply}

-- ---- what bytes stand for

abbrev pub IsBrokerHeartbeat : BrokerHeartbeat → List ℕ → Type 0
IsBrokerHeartbeat q =
    IsSigned w32 q.broker ⌢ IsSigned w64 q.epoch ⌢ IsSigned w64 q.offset ⌢ IsBool q.want_fence ⌢
    IsBool q.want_shutdown ⌢ NoTags

-- no throttling first
abbrev pub IsBrokerHeartbeatReply : BrokerHeartbeatReply → List ℕ → Type 0
IsBrokerHeartbeatReply p =
    IsSigned w32 (pos 0) ⌢ IsSigned w16 p.error ⌢ IsBool p.caught_up ⌢ IsBool p.fenced ⌢
    IsBool p.should_shut_down ⌢ NoTags

-- ---- the order in which they are read and written

abbrev pub broker_heartbeat : Schema BrokerHeartbeat
broker_heartbeat = Structure (Int32 ▸ Int64 ▸ Int64 ▸ Boolean ▸ Boolean ▸ End)
    (λ (broker, (epoch, (offset, (want_fence, (want_shutdown, end))))). record {
      broker = broker;
      epoch = epoch;
      offset = offset;
      want_fence = want_fence;
      want_shutdown = want_shutdown;
    })
    (λ q. (q.broker, (q.epoch, (q.offset, (q.want_fence, (q.want_shutdown, tt)))))) (λ v. refl) (λ q. refl)

-- no throttling first
abbrev pub broker_heartbeat_reply : Schema BrokerHeartbeatReply
broker_heartbeat_reply = Structure (Constant (pos 0) Int32 ▸ Int16 ▸ Boolean ▸ Boolean ▸ Boolean ▸ End)
    (λ (_, (error, (caught_up, (fenced, (should_shut_down, end))))). record {
      error = error;
      caught_up = caught_up;
      fenced = fenced;
      should_shut_down = should_shut_down;
    })
    (λ p. (tt, (p.error, (p.caught_up, (p.fenced, (p.should_shut_down, tt)))))) (λ v. refl) (λ p. refl)
