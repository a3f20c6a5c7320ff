-- The lists of heartbeats stay what they are, whatever a broker asks.
use Rattle.std.proofs.Common.{◌≡◌, ◌∙◌, ℤ, pos, Bool, true, false, cond, refl, ap, not}
use Rattle.std.specs.Prelude.{◌&&◌, Option, Some, None}
use Rattle.std.specs.Option.{option_map_or}
use Rattle.std.specs.Ordering.{int_cmp, int_eq}
use Rattle.kr_calls.specs.declared.broker_heartbeat.BrokerHeartbeat.{BrokerHeartbeat}
use Rattle.kr_calls.specs.declared.broker_heartbeat.BrokerHeartbeatReply.{BrokerHeartbeatReply}
use Rattle.kr_calls.specs.declared.calls.Request.{Request}
use Rattle.kr_calls.specs.Decide.{decide}
use Rattle.kr_calls.specs.NextBasis.{after_contact, after_heartbeat, after_leaving, broker_is_stopping}
use Rattle.kr_defs.specs.declared.basis.Basis.{Basis}
use Rattle.kr_defs.specs.declared.broker.Broker.{Broker}
use Rattle.kr_defs.specs.declared.options.Options.{Options}
use Rattle.kr_defs.specs.Brokers as brokers
use Rattle.kr_defs.specs.Heartbeats as hearing
use Rattle.kr_defs.specs.Heartbeats.{AreHeartbeats, Heartbeats}
use Rattle.kr_defs.specs.Ids.{has}
use Rattle.kr_defs.specs.Image.{Image, IsValid}
use Rattle.kr_defs.specs.Map as entries
use Rattle.kr_defs.proofs.HeartbeatLists.{beaten, beats, left, stopped}
use Rattle.kr_defs.proofs.IdLists.{id_itself}
use Rattle.kr_defs.proofs.Tests.{both, not_true, or_right}
use Rattle.kr_model.proofs.ContactTimes.{AreInTime, decided_keeps, last_before}
use Rattle.law_safety.specs.HearingLaws.{HearsOf}
use Rattle.law_safety.proofs.BrokerTests.{by_get}

none_stops : (o : Option Broker) → option_map_or (λ (b : Broker). b.stopping) o false ≡ false → option_map_or brokers.is_stopping o false ≡ false
none_stops None is = refl
none_stops (Some b) is = ap (λ x. not b.fenced && x) is ∙ and_false (not b.fenced)
  where
    and_false : (b : Bool) → (b && false) ≡ false
    and_false true = refl
    and_false false = refl

either : (b : Bool) (g h : Heartbeats) → AreHeartbeats g → AreHeartbeats h → AreHeartbeats (cond b g h)
either true g h first then = first
either false g h first then = then

module _ (h : Heartbeats) (image : Image) (now : ℤ) (valid : IsValid image) (hears : HearsOf h image) (late : AreInTime now h) (are : AreHeartbeats h) where
  -- who doesn't stop is none of those that do
  not_among : (broker : ℤ) → broker_is_stopping image broker ≡ false → has (hearing.stopping_brokers h) broker ≡ false
  not_among broker not_stopping =
      hears.stopping_ones broker
      ∙ (by_get brokers.is_stopping image.brokers broker valid.brokers.ordered ∙ none_stops (entries.get int_cmp image.brokers broker) not_stopping)

  beat_stands : (broker offset : ℤ) → AreHeartbeats (hearing.beat h broker now offset)
  beat_stands broker offset = beaten h broker now offset are (last_before h.contacts now late)

  stop_stands : (broker offset place : ℤ) → broker_is_stopping image broker ≡ false → AreHeartbeats (hearing.stop (hearing.beat h broker now offset) broker place)
  stop_stands broker offset place not_stopping =
      stopped (hearing.beat h broker now offset) broker place (beat_stands broker offset)
      ((beats h broker now offset broker).contacts ∙ or_right (has (hearing.contact_brokers h) broker) (int_eq broker broker) (id_itself broker))
      (not_among broker not_stopping)

  contact_stands : (after : Image) (place : ℤ) (q : BrokerHeartbeat) → AreHeartbeats (after_contact h image after now place q)
  contact_stands after place q = by (broker_is_stopping after q.broker && not (broker_is_stopping image q.broker)) refl
    where
      by : (b : Bool) → (broker_is_stopping after q.broker && not (broker_is_stopping image q.broker)) ≡ b
          → AreHeartbeats (cond b (hearing.stop (hearing.beat h q.broker now q.offset) q.broker place) (hearing.beat h q.broker now q.offset))
      by true begins = stop_stands q.broker q.offset place (not_true (broker_is_stopping image q.broker) (both (broker_is_stopping after q.broker) (not (broker_is_stopping image q.broker)) begins).1)
      by false other = beat_stands q.broker q.offset

  heartbeat_stands : (after : Image) (place : ℤ) (q : BrokerHeartbeat) (p : BrokerHeartbeatReply) → AreHeartbeats (after_heartbeat h image after now place q p)
  heartbeat_stands after place q p =
      either (not (int_eq p.error (pos 0))) h _ are
      (either p.fenced (hearing.leave h q.broker) (after_contact h image after now place q) (left h q.broker are) (contact_stands after place q))

  leaving_stands : (error broker : ℤ) → AreHeartbeats (after_leaving h error broker)
  leaving_stands error broker = either (int_eq error (pos 0)) (hearing.leave h broker) h (left h broker are) are

pub decided_stand : (options : Options) (b : Basis) (image : Image) (place : ℤ) (request : Request) → IsValid image → HearsOf (hearing.heard b) image → AreInTime b.time (hearing.heard b) → AreHeartbeats (hearing.heard b)
    → AreHeartbeats (decide options image b place request).heartbeats
decided_stand options b image place request valid hears late are =
    let h = hearing.heard b in
    decided_keeps AreHeartbeats options b image place request are
    (leaving_stands h image b.time valid hears late are)
    (λ after q p. heartbeat_stands h image b.time valid hears late are after place q p)
