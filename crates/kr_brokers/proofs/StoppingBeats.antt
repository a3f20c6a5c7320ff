-- A broker that beats and begins to stop.
use Rattle.std.proofs.Common.{◌≡◌, ◌∙◌, ℤ, true, false, refl}
use Rattle.std.specs.Prelude.{IsTrue}
use Rattle.std.specs.Ordering.{int_eq}
use Rattle.kr_defs.specs.Heartbeats.{Heartbeats, beat, contact_brokers, stopping_brokers}
use Rattle.kr_defs.specs.Ids.{has}
use Rattle.kr_defs.specs.Image.{Image}
use Rattle.kr_defs.proofs.HeartbeatLists.{beats}
use Rattle.kr_defs.proofs.IdLists.{id_itself}
use Rattle.kr_defs.proofs.Tests.{or_right}
use Rattle.kr_calls.specs.NextBasis.{broker_is_stopping}

pub is_contact : (h : Heartbeats) (broker now offset : ℤ) → has (contact_brokers (beat h broker now offset)) broker ≡ true
is_contact h broker now offset = (beats h broker now offset broker).contacts ∙ or_right (has (contact_brokers h) broker) (int_eq broker broker) (id_itself broker)

pub is_fresh : (h : Heartbeats) (base : Image) (broker : ℤ) → ((id : ℤ) → IsTrue (has (stopping_brokers h) id) → IsTrue (broker_is_stopping base id)) → broker_is_stopping base broker ≡ false → has (stopping_brokers h) broker ≡ false
is_fresh h base broker among apart =
    elim (has (stopping_brokers h) broker) as (λ b. (b ≡ true → broker_is_stopping base broker ≡ true) → b ≡ false) [
      | true ↦ λ f. let stops = f refl in absurd cc
      | false ↦ λ f. refl
    ] (among broker)

pub ruleset contacts = (is_contact, is_fresh)
