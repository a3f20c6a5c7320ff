-- An engine that stands for past events is ready for the next one.
use Rattle.std.proofs.Common.{◌≡◌, ◌∙◌, sym, subst, ℕ, ℤ, pos, negsuc, Bool, true, false, cond, ◌≤◌, ◌-◌, List, [], ◌∷◌, ◌++◌, length, refl, ap, arith}
use Rattle.std.proofs.lemmas.Bool.{and_parts}
use Rattle.std.proofs.lemmas.Int.{ints}
use Rattle.std.specs.Prelude.{◌≤ℤ◌, Option, Some, None, IsSome, find, int_lt, int_le, not, slice_get, unsigned_abs, unwrap_or}
use Rattle.std.specs.Int.{int_max}
use Rattle.std.specs.List.{last_or}
use Rattle.std.specs.Option.{option_map, option_map_or}
use Rattle.std.specs.Ordering.{int_cmp, int_eq}
use Rattle.kr_defs.specs.declared.basis.Contact.{Contact}
use Rattle.kr_defs.specs.declared.broker.Broker.{Broker}
use Rattle.kr_defs.specs.declared.limits.TheConstants.{PLACES_END}
use Rattle.kr_defs.specs.Brokers as brokers
use Rattle.kr_defs.specs.Heartbeats as hearing
use Rattle.kr_defs.specs.Heartbeats.{Heartbeats}
use Rattle.kr_defs.specs.Ids.{has}
use Rattle.kr_defs.specs.Image.{Image, IsValid}
use Rattle.kr_defs.specs.Map as entries
use Rattle.kr_calls.specs.NextBasis.{broker_is_stopping}
use Rattle.kr_defs.proofs.HeartbeatLists.{le_through}
use Rattle.law_safety.specs.HearingLaws.{HearsOf}
use Rattle.law_safety.proofs.BrokerTests.{by_get}
use Rattle.kr_store.specs.Images.{AreValid, IsSettled, begun_at, begun_under}
use Rattle.kr_model.specs.declared.writes.Write.{Write}
use Rattle.kr_model.specs.Engine.{Core, IsEngine, IsSound}
use Rattle.kr_engine.specs.inner.Changes.{cleared_core}
use Rattle.kr_engine.specs.inner.Ready.{IsReady}
use Rattle.kr_engine.proofs.KeptPlaces.{found_under, last_under, one_last}
use Rattle.kr_defs.specs.Log.{Log, open_at}
use Rattle.kr_model.specs.World.{State, closed_of, tip_of}
use Rattle.kr_model.proofs.ContactTimes.{last_before}
use Rattle.kr_model.proofs.EventsWithoutWrites.{grown}
use Rattle.kr_model.proofs.StandingEngines.{all_kept_below, last_kept_is, places_rise, rises, same_image, stands_still}

-- ---- the stopping ones

stops_or : (o : Option Broker) → option_map_or brokers.is_stopping o false ≡ true → option_map_or (λ (b : Broker). b.stopping) o false ≡ true
stops_or None is = absurd cc
stops_or (Some b) is = (and_parts (not b.fenced) b.stopping is).1

none_stops : (h : Heartbeats) (id : ℤ) → h ≡ hearing.end → has (hearing.stopping_brokers h) id ≡ true → ⊥
none_stops h id is there = let both : false ≡ true = ap (λ (h : Heartbeats). has (hearing.stopping_brokers h) id) (sym is) ∙ there in cc

are_stopping : (leading : Option ℤ) (h : Heartbeats) (image : Image) → IsValid image → (leading ≡ None → h ≡ hearing.end) → (IsSome leading → HearsOf h image)
    → (id : ℤ) → has (hearing.stopping_brokers h) id ≡ true → broker_is_stopping image id ≡ true
are_stopping None h image valid standby hears id there = absurd (none_stops h id (standby refl) there)
are_stopping (Some epoch) h image valid standby hears id there =
    stops_or (entries.get int_cmp image.brokers id)
    (sym (by_get brokers.is_stopping image.brokers id valid.brokers.ordered) ∙ (sym ((hears refl).stopping_ones id) ∙ there))

-- ---- times

not_negative : (z : ℤ) → int_le (pos 0) z ≡ true → pos 0 ≤ℤ z
not_negative (pos n) test = omega (arith, ints)
not_negative (negsuc n) test = absurd cc

greater_of : (b : Bool) (x y : ℤ) → int_lt y x ≡ b → pos 0 ≤ℤ x → pos 0 ≤ℤ cond b x y
greater_of true x y is low = low
greater_of false x (pos n) is low = omega (arith, ints)
greater_of false (pos m) (negsuc n) is low = absurd cc
greater_of false (negsuc m) (negsuc n) is low = absurd (omega (arith, ints))

-- ---- the last contact

still_before : (o : Option Contact) (time now : ℤ) → int_le time now ≡ true → option_map_or (λ (c : Contact). int_le c.time time) o true ≡ true → option_map_or (λ (c : Contact). int_le c.time now) o true ≡ true
still_before None time now le is = refl
still_before (Some c) time now le is = le_through c.time time now is le

-- ---- an engine

nats_le : (m n : ℕ) → m ≤ n → pos m ≤ℤ pos n
nats_le m n le = omega (arith, ints)

pub closed_of_places : (o : Option ℕ) (place : ℕ) → unwrap_or (option_map (λ (n : ℕ). pos n) o) (pos place) ≡ pos (unwrap_or o place)
closed_of_places None place = refl
closed_of_places (Some n) place = refl

module _ (e : Core) (s : State) (writes : List Write) (k : IsEngine e s writes) where
  abbrev log : Log
  log = s.world.log

  abbrev open_under : ℕ → Option ℤ
  open_under n = option_map (λ (n : ℕ). pos n) (open_at log n)

  abbrev ends : List ℕ
  ends = s.world.covered ++ s.world.batch_ends

  -- what is open at the tip was so when the tip was kept
  begun_kept : begun_at e.images e.tip ≡ e.images.begun
  begun_kept =
      ap (begun_at e.images) k.tip
      ∙ (ap (λ (bs : List (ℤ × Option ℤ)). begun_under (find (λ (b : ℤ × Option ℤ). int_eq b.0 (pos (tip_of s))) bs)) k.kept_begun
      ∙ (ap begun_under (found_under open_under (tip_of s) (closed_of s.world ∷ ends) (one_last (closed_of s.world) ends (tip_of s) (places_rise e s writes k)))
      ∙ sym k.begun))

  -- a leader has nothing open
  pub settled_leader : IsSome s.world.leading → IsSettled e.images
  settled_leader leads =
      let none = k.is_state.decided leads in record {
        tip = k.begun ∙ ap (option_map (λ (n : ℕ). pos n)) none;
        last =
            ap (λ (bs : List (ℤ × Option ℤ)). begun_under (slice_get bs (length bs - 1))) k.kept_begun
            ∙ (ap begun_under (last_under open_under (closed_of s.world) ends (tip_of s) (places_rise e s writes k))
            ∙ ap (option_map (λ (n : ℕ). pos n)) none);
      }

  is_ready : AreValid e.images → IsReady e
  is_ready valid = record {
    natural = subst (λ c. pos 0 ≤ℤ c) (sym k.committed) (nats_le 0 s.world.committed (omega arith));
    closed_natural = subst (λ c. pos 0 ≤ℤ c) (sym k.closed) (nats_le 0 (closed_of s.world) (omega arith));
    late = subst (λ t. pos 0 ≤ℤ t) (sym k.time) (not_negative s.basis.time k.is_state.natural);
    rising = subst (λ c. c ≤ℤ e.tip) (sym k.committed) (subst (λ t. pos s.world.committed ≤ℤ t) (sym k.tip) (nats_le s.world.committed (tip_of s) (rises e s writes k)));
    low = subst (λ t. t ≤ℤ PLACES_END) (sym k.tip) (nats_le (tip_of s) (unsigned_abs PLACES_END) k.is_state.low);
    last = last_kept_is e s writes k;
    unmade = k.weighed.unmade;
    above = all_kept_below e s writes k;
    begun = begun_kept;
    settled = λ some. settled_leader (subst (λ (l : Option ℤ). IsSome l) k.leading some);
    at_standby = stands_still e s writes k;
    in_time = ap (λ h. hearing.is_not_before h e.time) k.heard_of ∙ (ap (hearing.is_not_before (hearing.heard s.basis)) k.time ∙ last_before s.basis.contacts s.basis.time k.is_state.in_time);
    among = are_stopping e.leading e.heard e.images.tip valid.tip
        (λ none. k.heard_of ∙ (k.is_state.at_standby (sym k.leading ∙ none)).1)
        (λ some. subst (λ h. HearsOf h e.images.tip) (sym k.heard_of) (subst (HearsOf (hearing.heard s.basis)) (same_image e s writes k) (k.is_state.hears (subst (λ l. IsSome l) k.leading some))));
  }

pub ready : (e : Core) → IsSound e → AreValid e.images → IsReady e
ready e sound valid = is_ready e sound.state sound.writes sound.stands valid

-- time goes on
pub timed_ready : (e : Core) (now : ℤ) → IsReady e → IsReady (record e { time = int_max e.time now; fresh = [] })
timed_ready e now r = record {
  natural = r.natural;
  closed_natural = r.closed_natural;
  late = greater_of (int_lt now e.time) e.time now refl r.late;
  rising = r.rising;
  low = r.low;
  last = r.last;
  unmade = r.unmade;
  above = r.above;
  begun = r.begun;
  settled = r.settled;
  at_standby = r.at_standby;
  in_time = still_before (last_or None e.heard.contacts) e.time (int_max e.time now) (grown e.time now) r.in_time;
  among = r.among;
}

pub ready_then : (e after : Core) (now : ℤ) → after ≡ record e { time = int_max e.time now; fresh = [] } → IsReady e → IsReady after
ready_then e after now is r = subst IsReady (sym is) (timed_ready e now r)

pub cleared_ready : (e after : Core) → after ≡ cleared_core e → IsReady e → IsReady after
cleared_ready e after is r = subst IsReady (sym is) (record {
  natural = r.natural;
  closed_natural = r.closed_natural;
  late = r.late;
  rising = r.rising;
  low = r.low;
  last = r.last;
  unmade = r.unmade;
  above = r.above;
  begun = r.begun;
  settled = r.settled;
  at_standby = r.at_standby;
  in_time = r.in_time;
  among = r.among;
})
