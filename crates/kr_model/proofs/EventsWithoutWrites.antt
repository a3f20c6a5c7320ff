-- What stays of a state and of an engine where an event adds no write.
use Rattle.std.proofs.Common.{◌≡◌, ◌∙◌, sym, subst, ℤ, pos, negsuc, Bool, true, false, cond, List, [], ◌∷◌, ◌++◌, refl, ap, arith}
use Rattle.std.proofs.lemmas.Bool.{and_from}
use Rattle.std.proofs.lemmas.Bool.Decides.{nat_tests}
use Rattle.std.proofs.lemmas.List.{append-nil}
use Rattle.std.proofs.lemmas.List.Elements.{All-filter}
use Rattle.std.specs.Prelude.{Option, filter, int_le, int_lt, All, true}
use Rattle.std.specs.Int.{int_max}
use Rattle.std.specs.List.{list_all}
use Rattle.kr_calls.specs.declared.events.Event.{Event}
use Rattle.kr_calls.specs.declared.events.Event.TheVariants as events
use Rattle.kr_calls.specs.declared.events.Output.{Output}
use Rattle.kr_defs.specs.declared.basis.Contact.{Contact}
use Rattle.kr_defs.proofs.HeartbeatLists.{le_itself, le_through}
use Rattle.kr_defs.proofs.Tests.{both}
use Rattle.kr_model.specs.declared.writes.Write.{Write}
use Rattle.kr_model.specs.Engine.{Core, IsEngine, IsState}
use Rattle.kr_model.specs.Events.{with_next_number, time_after, at_time_of, next_number}
use Rattle.kr_model.specs.Outputs.{answers, answers_in, is_open, is_open_in}
use Rattle.kr_model.specs.World.{State, World, closed_of, tip_of}
use Rattle.kr_model.proofs.Queues.{IsDrained}

-- ---- times

le_of_not : (a b : ℤ) → int_lt b a ≡ false → int_le a b ≡ true
le_of_not (pos a) (pos b) h = grind (arith, nat_tests)
le_of_not (pos a) (negsuc b) h = absurd cc
le_of_not (negsuc a) (pos b) h = refl
le_of_not (negsuc a) (negsuc b) h = grind (arith, nat_tests)

max_by : (b : Bool) (x y : ℤ) → int_lt y x ≡ b → int_le x (cond b x y) ≡ true
max_by true x y is = le_itself x
max_by false x y is = le_of_not x y is

pub grown : (x y : ℤ) → int_le x (int_max x y) ≡ true
grown x y = max_by (int_lt y x) x y refl

pub never_earlier : (time : ℤ) (event : Event) → int_le time (time_after time event) ≡ true
never_earlier time (events.Lead epoch next now) = grown time now
never_earlier time (events.Commit epoch end) = le_itself time
never_earlier time (events.Lost epoch) = le_itself time
never_earlier time (events.Batch bytes) = le_itself time
never_earlier time (events.Load bytes) = le_itself time
never_earlier time (events.Tick now) = grown time now
never_earlier time (events.Request client now ask) = grown time now
never_earlier time events.Image = le_itself time

pub later_too : (contacts : List Contact) (time now : ℤ) → int_le time now ≡ true → list_all (λ (c : Contact). int_le c.time time) contacts ≡ true → list_all (λ (c : Contact). int_le c.time now) contacts ≡ true
later_too [] time now le all = refl
later_too (c ∷ contacts) time now le all =
    let parts = both (int_le c.time time) (list_all (λ (c : Contact). int_le c.time time) contacts) all in
    and_from (int_le c.time now) (list_all (λ (c : Contact). int_le c.time now) contacts) (le_through c.time time now parts.0 le) (later_too contacts time now le parts.1)

-- ---- states

pub timed_state : (s : State) (writes : List Write) (event : Event) → IsState s writes → IsState (at_time_of s event) writes
timed_state s writes event k =
    let never = never_earlier s.basis.time event in record {
      valid = k.valid;
      started = k.started;
      settled = k.settled;
      ends = k.ends;
      begun = k.begun;
      low = k.low;
      at_standby = k.at_standby;
      decided = k.decided;
      hears = k.hears;
      in_time = later_too s.basis.contacts s.basis.time (time_after s.basis.time event) never k.in_time;
      natural = le_through (pos 0) s.basis.time (time_after s.basis.time event) k.natural never;
      reached = k.reached;
    }

pub counted_state : (s : State) (writes : List Write) → IsState s writes → IsState (with_next_number s) writes
counted_state s writes k = record {
  valid = k.valid;
  started = k.started;
  settled = k.settled;
  ends = k.ends;
  begun = k.begun;
  low = k.low;
  at_standby = k.at_standby;
  decided = k.decided;
  hears = k.hears;
  in_time = k.in_time;
  natural = k.natural;
  reached = k.reached;
}

-- fewer writes wait
pub fewer_wait : (p : Write → Bool) (P : Write → Type 0) (writes : List Write) → All P writes → All P (filter p (writes ++ []))
fewer_wait p P writes all = All-filter p P (writes ++ []) (subst (All P) (sym (append-nil writes)) all)

-- ---- engines

module _ (e : Core) (s : State) (writes : List Write) (d : IsDrained e) (k : IsEngine e s writes) where
  pub held_wait : e.held ≡ writes
  held_wait = sym d.all_wait ∙ k.waits

  pub held_then : e.held ≡ writes ++ []
  held_then = held_wait ∙ sym (append-nil writes)

  module _ (leading : Option ℤ) (end : ℤ) (w : World) (led : leading ≡ w.leading) (at : end ≡ pos (closed_of w)) where
    pub waits_then : filter (is_open leading end) e.held ≡ filter (is_open_in w) (writes ++ [])
    waits_then =
        ap (λ l. filter (is_open l end) e.held) led
        ∙ (ap (λ c. filter (is_open w.leading c) e.held) at
        ∙ ap (filter (is_open_in w)) held_then)

    pub answers_then : answers leading end e.held ≡ answers_in w (writes ++ [])
    answers_then =
        ap (λ l. answers l end e.held) led
        ∙ (ap (λ c. answers w.leading c e.held) at
        ∙ ap (answers_in w) held_then)

-- ---- events that change no state

-- the engine after an event that changes no state, with what it gives out
abbrev pub passing : Core → Event → List Output → Option Output → Core
passing e event outputs refusal = record e { count = next_number e.count; time = time_after e.time event; given = outputs; refusal = refusal; fresh = [] }

module _ (e : Core) (event : Event) (outputs : List Output) (refusal : Option Output) (d : IsDrained e) where
  pub passes : (s : State) (writes : List Write) → IsEngine e s writes → IsEngine (passing e event outputs refusal) (with_next_number (at_time_of s event)) (filter (is_open_in s.world) (writes ++ []))
  passes s writes k =
      let state = counted_state (at_time_of s event) writes (timed_state s writes event k.is_state) in record {
        tip = k.tip;
        committed = k.committed;
        closed = k.closed;
        leading = k.leading;
        greatest = k.greatest;
        count = ap next_number k.count;
        time = ap (λ time. time_after time event) k.time;
        led = k.led;
        heard_of = k.heard_of;
        present = k.present;
        kept = k.kept;
        begun = k.begun;
        kept_begun = k.kept_begun;
        weighed = k.weighed;
        waits = waits_then e s writes d k e.leading e.closed s.world k.leading k.closed;
        ordered = k.ordered;
        is_state = record {
          valid = state.valid;
          started = state.started;
          settled = state.settled;
          ends = state.ends;
          begun = state.begun;
          low = state.low;
          at_standby = state.at_standby;
          decided = state.decided;
          hears = state.hears;
          in_time = state.in_time;
          natural = state.natural;
          reached = fewer_wait (is_open_in s.world) (λ write. int_le write.need (pos (tip_of s)) ≡ true) writes state.reached;
        };
      }
