-- Nobody is heard of later than now, whatever a broker asks.
use Rattle.std.proofs.Common.{◌≡◌, ◌∙◌, sym, subst, ℤ, pos, Bool, true, false, cond, List, [], ◌∷◌, refl, not, map}
use Rattle.std.proofs.lemmas.Bool.{and_from}
use Rattle.std.proofs.lemmas.List.Folds.{list_all-append}
use Rattle.std.specs.Prelude.{◌&&◌, int_le, filter, None}
use Rattle.std.specs.List.{last_or, list_all}
use Rattle.std.specs.Option.{option_map_or}
use Rattle.std.specs.Ordering.{int_eq}
use Rattle.kr_calls.specs.declared.broker_heartbeat.BrokerHeartbeat.{BrokerHeartbeat}
use Rattle.kr_calls.specs.declared.broker_heartbeat.BrokerHeartbeatReply.{BrokerHeartbeatReply}
use Rattle.kr_calls.specs.declared.calls.Request.{Request}
use Rattle.kr_calls.specs.declared.calls.Request.TheVariants as requests
use Rattle.kr_calls.specs.BrokerHeartbeat as broker_heartbeat
use Rattle.kr_calls.specs.BrokerRegistration as broker_registration
use Rattle.kr_calls.specs.UnregisterBroker as unregister_broker
use Rattle.kr_calls.specs.Decide.{decide, work_of}
use Rattle.kr_calls.specs.Deciding.{nothing_decided, one}
use Rattle.kr_calls.specs.NextBasis.{after_contact, after_heartbeat, after_leaving, heartbeats_after, broker_is_stopping}
use Rattle.kr_calls.specs.NextBasisLaws.{is_of_a_broker}
use Rattle.kr_calls.proofs.OtherRequests.{others_leave}
use Rattle.kr_defs.specs.declared.basis.Basis.{Basis}
use Rattle.kr_defs.specs.declared.basis.Contact.{Contact}
use Rattle.kr_defs.specs.declared.options.Options.{Options}
use Rattle.kr_defs.specs.Heartbeats as hearing
use Rattle.kr_defs.specs.Heartbeats.{Heartbeats}
use Rattle.kr_defs.specs.Image.{Image}
use Rattle.kr_defs.proofs.HeartbeatLists.{le_itself}
use Rattle.kr_defs.proofs.Tests.{both}

-- who is left was heard of in time
pub left_in_time : (p q : Contact → Bool) (contacts : List Contact) → list_all p contacts ≡ true → list_all p (filter q contacts) ≡ true
left_in_time p q [] all = refl
left_in_time p q (c ∷ contacts) all =
    let parts = both (p c) (list_all p contacts) all in
    elim (q c) as (λ b. list_all p (cond b (c ∷ filter q contacts) (filter q contacts)) ≡ true) [
      | true ↦ and_from (p c) (list_all p (filter q contacts)) parts.0 (left_in_time p q contacts parts.1)
      | false ↦ left_in_time p q contacts parts.1
    ]

-- nor is the last one later
pub last_before : (contacts : List Contact) (time : ℤ) → list_all (λ (c : Contact). int_le c.time time) contacts ≡ true → option_map_or (λ (c : Contact). int_le c.time time) (last_or None contacts) true ≡ true
last_before [] time all = refl
last_before (c ∷ []) time all = (both (int_le c.time time) true all).0
last_before (c ∷ other ∷ contacts) time all = last_before (other ∷ contacts) time (both (int_le c.time time) (list_all (λ (c : Contact). int_le c.time time) (other ∷ contacts)) all).1

-- whom a leadership begins with is heard of now
pub begun_now : (now : ℤ) (ids : List ℤ) → list_all (λ (c : Contact). int_le c.time now) (map (hearing.new_contact now) ids) ≡ true
begun_now now [] = refl
begun_now now (id ∷ ids) = and_from (int_le now now) (list_all (λ (c : Contact). int_le c.time now) (map (hearing.new_contact now) ids)) (le_itself now) (begun_now now ids)

abbrev pub AreInTime : ℤ → Heartbeats → Type 0
AreInTime now h = list_all (λ (c : Contact). int_le c.time now) h.contacts ≡ true

pub leaving_in_time : (now : ℤ) (h : Heartbeats) (broker : ℤ) → AreInTime now h → AreInTime now (hearing.leave h broker)
leaving_in_time now h broker all = left_in_time (λ c. int_le c.time now) (λ c. not (int_eq c.broker broker)) h.contacts all

beating_in_time : (now : ℤ) (h : Heartbeats) (broker offset : ℤ) → AreInTime now h → AreInTime now (hearing.beat h broker now offset)
beating_in_time now h broker offset all =
    let p = λ (c : Contact). int_le c.time now in
    list_all-append p (hearing.contacts_without h.contacts broker) (record { broker = broker; time = now; offset = offset } ∷ [])
    ∙ and_from (list_all p (hearing.contacts_without h.contacts broker)) (int_le now now && true) (leaving_in_time now h broker all) (and_from (int_le now now) true (le_itself now) refl)

either_in_time : (now : ℤ) (b : Bool) (g h : Heartbeats) → AreInTime now g → AreInTime now h → AreInTime now (cond b g h)
either_in_time now true g h first then = first
either_in_time now false g h first then = then

of_contact : (now : ℤ) (h : Heartbeats) (before after : Image) (place : ℤ) (q : BrokerHeartbeat) → AreInTime now h → AreInTime now (after_contact h before after now place q)
of_contact now h before after place q all =
    let beaten = beating_in_time now h q.broker q.offset all in
    either_in_time now (broker_is_stopping after q.broker && not (broker_is_stopping before q.broker)) (hearing.stop (hearing.beat h q.broker now q.offset) q.broker place) (hearing.beat h q.broker now q.offset) beaten beaten

of_heartbeat : (now : ℤ) (h : Heartbeats) (before after : Image) (place : ℤ) (q : BrokerHeartbeat) (p : BrokerHeartbeatReply) → AreInTime now h → AreInTime now (after_heartbeat h before after now place q p)
of_heartbeat now h before after place q p all =
    either_in_time now (not (int_eq p.error (pos 0))) h _ all
    (either_in_time now p.fenced (hearing.leave h q.broker) _ (leaving_in_time now h q.broker all) (of_contact now h before after place q all))

of_leaving : (now : ℤ) (h : Heartbeats) (error broker : ℤ) → AreInTime now h → AreInTime now (after_leaving h error broker)
of_leaving now h error broker all = either_in_time now (int_eq error (pos 0)) (hearing.leave h broker) h (leaving_in_time now h broker all) all

-- ---- what is decided

-- a request leaves the lists, or makes a broker leave, or is a heartbeat
module _ (P : Heartbeats → Type 0) (options : Options) (b : Basis) (image : Image) (place : ℤ) where
  abbrev h : Heartbeats
  h = hearing.heard b

  -- of a request that isn't a broker's own nobody's contact changes
  of_other : (request : Request) → is_of_a_broker request ≡ false → P h → P (decide options image b place request).heartbeats
  of_other request other all = subst P (sym (others_leave options b image place request other).heard_of) all

  pub decided_keeps : (request : Request) → P h → ((error broker : ℤ) → P (after_leaving h error broker)) → ((after : Image) (q : BrokerHeartbeat) (p : BrokerHeartbeatReply) → P (after_heartbeat h image after b.time place q p))
      → P (decide options image b place request).heartbeats
  unfolding work_of broker_registration.decided broker_heartbeat.decided unregister_broker.decided heartbeats_after
  decided_keeps (requests.BrokerRegistration q) all leaving beating = leaving (one broker_registration.refused (broker_registration.rule options b.time h) (nothing_decided place image) q).1.error q.broker
  decided_keeps (requests.BrokerHeartbeat q) all leaving beating = beating (work_of options b.time h image place (requests.BrokerHeartbeat q)).0.image q (one broker_heartbeat.refused (broker_heartbeat.rule options h) (nothing_decided place image) q).1
  decided_keeps (requests.UnregisterBroker q) all leaving beating = leaving (one unregister_broker.refused (unregister_broker.rule options) (nothing_decided place image) q).1.error q.broker
  decided_keeps (requests.CreateTopics q) all leaving beating = of_other (requests.CreateTopics q) refl all
  decided_keeps (requests.DeleteTopics q) all leaving beating = of_other (requests.DeleteTopics q) refl all
  decided_keeps (requests.CreatePartitions q) all leaving beating = of_other (requests.CreatePartitions q) refl all
  decided_keeps (requests.AlterPartition q) all leaving beating = of_other (requests.AlterPartition q) refl all
  decided_keeps (requests.ElectLeaders q) all leaving beating = of_other (requests.ElectLeaders q) refl all
  decided_keeps (requests.AlterPartitionReassignments q) all leaving beating = of_other (requests.AlterPartitionReassignments q) refl all
  decided_keeps (requests.IncrementalAlterConfigs q) all leaving beating = of_other (requests.IncrementalAlterConfigs q) refl all
  decided_keeps (requests.ListPartitionReassignments q) all leaving beating = of_other (requests.ListPartitionReassignments q) refl all
  decided_keeps (requests.Metadata q) all leaving beating = of_other (requests.Metadata q) refl all

pub decided_in_time : (options : Options) (b : Basis) (image : Image) (place : ℤ) (request : Request) → AreInTime b.time (hearing.heard b) → AreInTime b.time (decide options image b place request).heartbeats
decided_in_time options b image place request all =
    decided_keeps (AreInTime b.time) options b image place request all
    (λ error broker. of_leaving b.time (hearing.heard b) error broker all)
    (λ after q p. of_heartbeat b.time (hearing.heard b) image after place q p all)
