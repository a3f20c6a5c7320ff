-- BrokerRegistration, key 62, version 3, after Kafka's published schemas: what its bytes and those of its reply stand for, and their layouts.
use Rattle.std.specs.Prelude.{List, ℕ, pos, refl}
use Rattle.std.specs.Int.{w16, w32, w64}
use Rattle.kr_wire.specs.Grammar.{◌⌢◌, IsNumber, IsSigned, IsBool, IsId, IsText, IsTextOrNull, IsList, IsDropped, NoTags}
use Rattle.kr_wire.specs.Schema.{Schema, ◌▸◌, Int16, Int32, Int64, Uint16, Boolean, Uuid, Text, TextOrNull, Array, Dropped, Constant, Structure, End}
use Rattle.kr_defs.specs.declared.broker.Endpoint.{Endpoint}
use Rattle.kr_defs.specs.declared.broker.Range.{Range}
use Rattle.kr_calls.specs.declared.broker_registration.BrokerRegistration.{BrokerRegistration}
use Rattle.kr_calls.specs.declared.broker_registration.BrokerRegistrationReply.{BrokerRegistrationReply}

-- ---- what bytes stand for

-- a listener
abbrev pub IsEndpoint : Endpoint → List ℕ → Type 0
IsEndpoint e = IsText e.name ⌢ IsText e.host ⌢ IsNumber w16 e.port ⌢ IsSigned w16 e.protocol ⌢ NoTags

-- a feature
abbrev pub IsRange : Range → List ℕ → Type 0
IsRange r = IsText r.name ⌢ IsSigned w16 r.min ⌢ IsSigned w16 r.max ⌢ NoTags

-- the log directories before the previous epoch are dropped
abbrev pub IsBrokerRegistration : BrokerRegistration → List ℕ → Type 0
IsBrokerRegistration q =
    IsSigned w32 q.broker ⌢ IsText q.cluster ⌢ IsId q.incarnation ⌢ IsList IsEndpoint q.listeners ⌢
    IsList IsRange q.features ⌢ IsTextOrNull q.rack ⌢ IsBool q.migrating ⌢ IsDropped (IsList IsId) ⌢
    IsSigned w64 q.previous_epoch ⌢ NoTags

-- no throttling, error, epoch
abbrev pub IsBrokerRegistrationReply : BrokerRegistrationReply → List ℕ → Type 0
IsBrokerRegistrationReply p = IsSigned w32 (pos 0) ⌢ IsSigned w16 p.error ⌢ IsSigned w64 p.epoch ⌢ NoTags

-- ---- the order in which they are read and written

-- a listener
abbrev pub endpoint : Schema Endpoint
endpoint = Structure (Text ▸ Text ▸ Uint16 ▸ Int16 ▸ End)
    (λ (name, (host, (port, (protocol, end)))). record { name = name; host = host; port = port; protocol = protocol })
    (λ e. (e.name, (e.host, (e.port, (e.protocol, tt))))) (λ v. refl) (λ e. refl)

-- a feature
abbrev pub range : Schema Range
range = Structure (Text ▸ Int16 ▸ Int16 ▸ End)
    (λ (name, (min, (max, end))). record { name = name; min = min; max = max })
    (λ r. (r.name, (r.min, (r.max, tt)))) (λ v. refl) (λ r. refl)

-- the log directories before the previous epoch are dropped
abbrev pub broker_registration : Schema BrokerRegistration
broker_registration = Structure (Int32 ▸ Text ▸ Uuid ▸ Array endpoint ▸ Array range ▸ TextOrNull ▸ Boolean ▸ Dropped (Array Uuid) ▸ Int64 ▸ End)
    (λ (broker, (cluster, (incarnation, (listeners, (features, (rack, (migrating, (_, (previous_epoch, end))))))))). record {
      broker = broker;
      cluster = cluster;
      incarnation = incarnation;
      listeners = listeners;
      features = features;
      rack = rack;
      migrating = migrating;
      previous_epoch = previous_epoch;
    })
    (λ q. (q.broker, (q.cluster, (q.incarnation, (q.listeners, (q.features, (q.rack, (q.migrating, (tt, (q.previous_epoch, tt)))))))))) (λ v. refl) (λ q. refl)

-- no throttling, error, epoch
abbrev pub broker_registration_reply : Schema BrokerRegistrationReply
broker_registration_reply = Structure (Constant (pos 0) Int32 ▸ Int16 ▸ Int64 ▸ End)
    (λ (_, (error, (epoch, end))). record { error = error; epoch = epoch })
    (λ p. (tt, (p.error, (p.epoch, tt)))) (λ v. refl) (λ p. refl)
