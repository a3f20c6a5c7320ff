-- Which brokers are heard of after a write was decided (after KIP-631's BrokerHeartbeatManager).
use Rattle.std.specs.Prelude.{ℤ, pos, Bool, false, not, ◌&&◌, if◌then◌else◌}
use Rattle.std.specs.Option.{option_map_or}
use Rattle.std.specs.Ordering.{int_cmp, int_eq}
use Rattle.kr_defs.specs.Map as entries
use Rattle.kr_defs.specs.Heartbeats.{Heartbeats, beat, leave, stop}
use Rattle.kr_defs.specs.Image.{Image}
use Rattle.kr_calls.specs.declared.broker_heartbeat.BrokerHeartbeat.{BrokerHeartbeat}
use Rattle.kr_calls.specs.declared.broker_heartbeat.BrokerHeartbeatReply.{BrokerHeartbeatReply}
use Rattle.kr_calls.specs.declared.calls.Reply.{Reply}
use Rattle.kr_calls.specs.declared.calls.Request.{Request}
use Rattle.kr_calls.specs.declared.calls.Reply.TheVariants as replies
use Rattle.kr_calls.specs.declared.calls.Request.TheVariants as requests

-- a request with an error number changes nothing, another one makes the broker leave
abbrev pub after_leaving : Heartbeats → ℤ → ℤ → Heartbeats
after_leaving h error broker = if int_eq error (pos 0) then leave h broker else h

abbrev pub broker_is_stopping : Image → ℤ → Bool
broker_is_stopping image broker = option_map_or (λ state. state.stopping) (entries.get int_cmp image.brokers broker) false

-- an unfenced broker is the last contact; it began to stop where this request set the flag
abbrev pub after_contact : Heartbeats → Image → Image → ℤ → ℤ → BrokerHeartbeat → Heartbeats
after_contact h before after now place request =
    if broker_is_stopping after request.broker && not (broker_is_stopping before request.broker)
    then stop (beat h request.broker now request.offset) request.broker place
    else beat h request.broker now request.offset

-- a broker that is unfenced now is a contact, one that is fenced leaves
abbrev pub after_heartbeat : Heartbeats → Image → Image → ℤ → ℤ → BrokerHeartbeat → BrokerHeartbeatReply → Heartbeats
after_heartbeat h before after now place request reply =
    if not (int_eq reply.error (pos 0)) then h else
    if reply.fenced then leave h request.broker else
    after_contact h before after now place request

-- the lists after a request that was decided at the place, with its reply, and the images before and after its records
unfoldable pub heartbeats_after : Heartbeats → Image → Image → ℤ → ℤ → Request → Reply → Heartbeats
heartbeats_after h before after now place (requests.BrokerRegistration q) (replies.BrokerRegistration p) = after_leaving h p.error q.broker
heartbeats_after h before after now place (requests.UnregisterBroker q) (replies.UnregisterBroker p) = after_leaving h p.error q.broker
heartbeats_after h before after now place (requests.BrokerHeartbeat q) (replies.BrokerHeartbeat p) =
    after_heartbeat h before after now place q p
heartbeats_after h before after now place request reply = h
