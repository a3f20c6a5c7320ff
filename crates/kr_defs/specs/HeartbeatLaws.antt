-- Laws of the brokers whose heartbeats a leading controller has (this project's own).
use Rattle.std.specs.Prelude.{◌≡◌, ◌&&◌, ◌||◌, not, false, ℤ, List, Some, filter, map, int_le, IsTrue}
use Rattle.std.specs.Ordering.{int_eq}
use Rattle.kr_defs.specs.Ids.{has, is_distinct, is_within}
use Rattle.kr_defs.specs.Heartbeats.{Heartbeats, AreHeartbeats, contact_brokers, stopping_brokers, is_not_before, begin, beat, leave, stop, offset_of, expired}

-- ---- brokers stay distinct, times never fall, and stopping brokers are contacts

abbrev pub BeginningsStand : Type 0
BeginningsStand =
    (unfenced stopping : List ℤ) (now led : ℤ) → IsTrue (is_distinct unfenced) → IsTrue (is_distinct stopping) →
    IsTrue (is_within stopping unfenced) → AreHeartbeats (begin unfenced stopping now led)

abbrev pub BeatsStand : Type 0
BeatsStand =
    (h : Heartbeats) (broker now offset : ℤ) → AreHeartbeats h → IsTrue (is_not_before h now) →
    AreHeartbeats (beat h broker now offset)

abbrev pub LeavingStands : Type 0
LeavingStands = (h : Heartbeats) (broker : ℤ) → AreHeartbeats h → AreHeartbeats (leave h broker)

abbrev pub StoppingStands : Type 0
StoppingStands =
    (h : Heartbeats) (broker tip : ℤ) → AreHeartbeats h → IsTrue (has (contact_brokers h) broker) →
    has (stopping_brokers h) broker ≡ false → AreHeartbeats (stop h broker tip)

-- ---- whose they are

-- who leaves is in neither list, and the others stay
pub record Leaves (h : Heartbeats) (broker id : ℤ) : Type 0 where
  pub contacts : has (contact_brokers (leave h broker)) id ≡ (has (contact_brokers h) id && not (int_eq id broker))
  pub stopping : has (stopping_brokers (leave h broker)) id ≡ (has (stopping_brokers h) id && not (int_eq id broker))

-- who beats is a contact with the reported offset, and the others stay
pub record Beats (h : Heartbeats) (broker now offset id : ℤ) : Type 0 where
  pub contacts : has (contact_brokers (beat h broker now offset)) id ≡ (has (contact_brokers h) id || int_eq broker id)
  pub reported : offset_of (beat h broker now offset) broker ≡ Some offset
  pub others : int_eq id broker ≡ false → offset_of (beat h broker now offset) id ≡ offset_of h id

-- Where the times never fall, who has expired is who was heard of at the limit or before.
abbrev pub TheOldExpire : Type 0
TheOldExpire =
    (h : Heartbeats) (limit : ℤ) → AreHeartbeats h →
    expired h limit ≡ map (λ c. c.broker) (filter (λ c. int_le c.time limit) h.contacts)
