-- The laws of the states that any events lead to.
use Rattle.std.proofs.Common.{sym, subst, ◌≤◌, List, [], ◌∷◌, refl, arith}
use Rattle.std.proofs.lemmas.List.Sums.{fold-append}
use Rattle.std.specs.Prelude.{fold, MatchResult, Result}
use Rattle.kr_calls.specs.declared.events.Event.{Event}
use Rattle.kr_defs.specs.declared.ill.Ill.{Ill}
use Rattle.kr_defs.specs.declared.options.Options.{Options}
use Rattle.kr_defs.specs.Image.{Image, IsValid, empty}
use Rattle.kr_defs.specs.Log.{image_at, state_at, tip}
use Rattle.kr_defs.specs.LogStates.{closed}
use Rattle.kr_defs.proofs.HeartbeatLists.{ended}
use Rattle.kr_defs.proofs.Logs.{valid_at}
use Rattle.kr_defs.proofs.StateLogs.{closed_end_between, state_at_tip}
use Rattle.kr_model.specs.Events.{happens, state}
use Rattle.kr_model.specs.World.{State, closed_of, image_of_tip, seen_at, start}
use Rattle.kr_model.proofs.DueWrites.{event_goes}
use Rattle.kr_model.proofs.KeptImages.{not_higher, seen_below}
use Rattle.kr_model.proofs.LoadedImages.{empty_valid}
use Rattle.kr_model.proofs.Logs.{image_there}
use Rattle.kr_model.proofs.OrderlyStates.{IsOrderly, holds, stays_orderly, timed_orderly}
use Rattle.kr_model.proofs.Queues.{never}
use Rattle.law_invariants.specs.WorldLaws.{ClosedIsCommitted, ClosedRises, CommittedRises, ContactsAreOnce, ContactsRise, HearsWhileLeading, ImagesAreValid, NoneOpenWhileLeading}
use Rattle.law_invariants.proofs.WholeStates.{IsWhole, stays_whole}

module _ (options : Options) where
  orderly : (past : List Event) → IsOrderly (state options past)
  orderly past = (holds options past).orderly

  -- ---- the committed end, and the closed one

  rises_on : (later : List Event) (s : State) → IsOrderly s → s.world.committed ≤ (fold (happens options) s later).world.committed
  rises_on [] s k = omega arith
  rises_on (event ∷ later) s k =
      let first = (event_goes options s event k.rises.started k.rises.ends).committed in
      let rest = rises_on later (happens options s event) (stays_orderly options s event k) in
      omega (arith, first, rest)

  closed_on : (later : List Event) (s : State) → IsOrderly s → closed_of s.world ≤ closed_of (fold (happens options) s later).world
  closed_on [] s k = omega arith
  closed_on (event ∷ later) s k =
      let first = (event_goes options s event k.rises.started k.rises.ends).closed in
      let rest = closed_on later (happens options s event) (stays_orderly options s event k) in
      omega (arith, first, rest)

  -- ---- whole states

  whole_on : (events : List Event) (s : State) → IsOrderly s → IsWhole s → IsWhole (fold (happens options) s events)
  whole_on [] s k w = w
  whole_on (event ∷ events) s k w =
      whole_on events (happens options s event) (stays_orderly options s event k) (stays_whole options s event (timed_orderly s event k) w)

  whole_start : IsWhole start
  unfolding image_at state_at
  whole_start = record {
    log = record { valid = empty_valid; shows = image_there start.world.log (tip start.world.log) (closed empty) (state_at_tip start.world.log) };
    decided = λ some. absurd (never some);
    hears = λ some. absurd (never some);
    in_time = refl;
    stand = ended;
  }

  whole : (past : List Event) → IsWhole (state options past)
  whole past = whole_on past start (orderly []) whole_start

pub committed_rises : CommittedRises
committed_rises options past later =
    subst (λ (s : State). (state options past).world.committed ≤ s.world.committed) (sym (fold-append (happens options) start past later))
    (rises_on options later (state options past) (orderly options past))

pub closed_rises : ClosedRises
closed_rises options past later =
    subst (λ (s : State). closed_of (state options past).world ≤ closed_of s.world) (sym (fold-append (happens options) start past later))
    (closed_on options later (state options past) (orderly options past))

pub closed_is_committed : ClosedIsCommitted
closed_is_committed options past =
    let r = (orderly options past).rises in
    let w = (state options past).world in
    (closed_end_between w.log w.committed r.started (not_higher w.committed w.batch_ends (tip w.log) r.ends)).1

pub none_open_while_leading : NoneOpenWhileLeading
none_open_while_leading options past = (whole options past).decided

pub contacts_rise : ContactsRise
contacts_rise options past = let w = whole options past in (w.stand.rising, w.in_time)

pub contacts_are_once : ContactsAreOnce
contacts_are_once options past = let stand = (whole options past).stand in (stand.distinct, stand.stopping_distinct, stand.among)

pub hears_while_leading : HearsWhileLeading
hears_while_leading options past = ((whole options past).hears, λ none. ((orderly options past).at_standby none).1)

pub images_are_valid : ImagesAreValid
images_are_valid options past place =
    let s = state options past in
    let log = s.world.log in
    let w = whole options past in
    let is = seen_below log place (image_of_tip s) w.log.shows in
    subst (λ (r : Result Image Ill). MatchResult r IsValid (λ ill. ⊥)) (sym is) (valid_at log place w.log.valid (seen_at log place) is)
