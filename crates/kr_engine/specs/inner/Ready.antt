-- What calls rest on in an engine that stands for past events.
use Rattle.std.specs.Prelude.{◌≡◌, ◌≤ℤ◌, ℤ, pos, int_lt, IsTrue, IsSome, None, Some}
use Rattle.kr_defs.specs.declared.limits.TheConstants.{PLACES_END}
use Rattle.kr_defs.specs.Heartbeats as hearing
use Rattle.kr_defs.specs.Ids.{has}
use Rattle.kr_calls.specs.NextBasis.{broker_is_stopping}
use Rattle.kr_store.specs.Images.{IsAbove, IsSettled, begun_at, last_kept}
use Rattle.kr_model.specs.Engine.{Core}

pub record IsReady (e : Core) : Type 0 where
  pub natural : pos 0 ≤ℤ e.committed
  pub closed_natural : pos 0 ≤ℤ e.closed
  pub late : pos 0 ≤ℤ e.time
  pub rising : e.committed ≤ℤ e.tip
  pub low : e.tip ≤ℤ PLACES_END
  -- the present image is kept under the place of the tip, and none under a later place
  pub last : last_kept e.images ≡ Some (e.tip, e.images.tip)
  -- no call counts since then
  pub unmade : e.images.made ≡ 0
  pub above : (place : ℤ) → IsTrue (int_lt e.tip place) → IsAbove e.images.kept place
  -- the transaction that is open at the tip was open when the tip was kept
  pub begun : begun_at e.images e.tip ≡ e.images.begun
  -- a leader has given it up
  pub settled : IsSome e.leading → IsSettled e.images
  pub at_standby : e.leading ≡ None → e.committed ≡ e.tip
  pub in_time : IsTrue (hearing.is_not_before e.heard e.time)
  pub among : (id : ℤ) → IsTrue (has (hearing.stopping_brokers e.heard) id) → IsTrue (broker_is_stopping e.images.tip id)

-- a leader's records may be appended at the tip
pub record MayAppend (e : Core) : Type 0 where
  pub natural : pos 0 ≤ℤ e.tip
  pub low : e.tip ≤ℤ PLACES_END
  -- the present image is kept under the place of the tip, and none under a later place
  pub last : last_kept e.images ≡ Some (e.tip, e.images.tip)
  pub above : (place : ℤ) → IsTrue (int_lt e.tip place) → IsAbove e.images.kept place
  pub settled : IsSettled e.images

-- an open transaction may be given up at the tip
pub record MayGiveUp (e : Core) : Type 0 where
  pub low : e.tip ≤ℤ PLACES_END
  pub kept : IsSome (last_kept e.images)
  pub above : (place : ℤ) → IsTrue (int_lt e.tip place) → IsAbove e.images.kept place
