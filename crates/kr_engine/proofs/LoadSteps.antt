-- What a committed image in place of batches makes of an engine.
use Rattle.std.proofs.Common.{◌≡◌, ◌∙◌, sym, subst, ℕ, ℤ, pos, negsuc, true, false, ◌≤◌, List, [], ◌∷◌, ◌++◌, refl, ap, arith}
use Rattle.std.proofs.lemmas.List.Elements.{All-nil}
use Rattle.std.specs.Option.{option_map}
use Rattle.std.specs.Prelude.{Option, None, unwrap_or, Result, Ok, Err, filter, int_lt, int_le, is_some, option_to_list, unsigned_abs, All}
use Rattle.kr_calls.specs.declared.events.Event.{Event}
use Rattle.kr_calls.specs.declared.events.Entry.TheVariants as entries
use Rattle.kr_calls.specs.declared.events.Event.TheVariants as events
use Rattle.kr_defs.specs.declared.limits.TheConstants.{PLACES_END}
use Rattle.kr_defs.specs.Guard.{and_then}
use Rattle.kr_defs.specs.Image.{Image, IsValid}
use Rattle.kr_defs.specs.Log.{Log, image_at, open_at, tip}
use Rattle.kr_defs.specs.LogStates.{closed}
use Rattle.kr_defs.proofs.StateLogs.{state_at_tip}
use Rattle.kr_defs.specs.Records.{records_of}
use Rattle.kr_defs.proofs.Tests.{Gives, none_is}
use Rattle.kr_snapshot.specs.declared.fault.ImageFault.{ImageFault}
use Rattle.kr_snapshot.specs.Reading.{image_of}
use Rattle.kr_model.specs.declared.writes.Write.{Write}
use Rattle.kr_engine.specs.inner.Changes.{cleared_core, core_with_entries, counted_core, timed_core, Settles, core_at}
use Rattle.kr_model.specs.Engine.{Core, IsEngine, IsState, IsStep, kept_begin, kept_image, outputs_left}
use Rattle.kr_model.specs.Events.{with_next_number, next_number, outcome, at_time_of}
use Rattle.kr_model.specs.Outputs.{answers, is_open_in}
use Rattle.kr_model.specs.Reasons.{already_leading, exhausted, older_image}
use Rattle.kr_model.specs.Load.{image_or, load, take_image, after_load}
use Rattle.kr_engine.specs.inner.Load.{load_reason, core_after_read_image, read_image_reason}
use Rattle.kr_model.specs.World.{State, closed_of, is_far, seen_at}
use Rattle.kr_model.proofs.Logs.{image_there, none_open_at_start}
use Rattle.kr_model.proofs.LoadedImages.{IsLoadable, loaded_valid}
use Rattle.kr_model.proofs.Places.{near}
use Rattle.kr_engine.proofs.LeadSteps.{no_writes}
use Rattle.kr_engine.proofs.BatchSteps.{leads_not}
use Rattle.kr_model.proofs.Queues.{IsDrained, drained}
use Rattle.kr_engine.proofs.StandbyOutcomes.{settled_step}
use Rattle.kr_model.proofs.EventsWithoutWrites.{answers_then, held_then, waits_then}
use Rattle.kr_engine.proofs.FirstReasons.{IsAccepted, none_row, row, unless_refused}
use Rattle.kr_model.proofs.StandingEngines.{core_of, is_core}

is_natural : (z : ℤ) (n : ℕ) → int_lt z (pos n) ≡ false → z ≡ pos (unsigned_abs z)
is_natural (pos m) n test = refl
is_natural (negsuc m) n test = absurd cc

-- the log of an image alone
abbrev alone : ℕ → Image → Log
alone offset image = record { offset = offset; image = image; items = [] }

at_start : (offset : ℕ) (image : Image) → image_at (alone offset image) (tip (alone offset image)) ≡ Ok image
at_start offset image =
    image_there (alone offset image) (tip (alone offset image)) (closed image)
    (state_at_tip (alone offset image))

module _ (e : Core) (bytes : List ℕ) (d : IsDrained e) where
  abbrev event : Event
  event = events.Load bytes

  abbrev before : Core
  before = timed_core e event

  abbrev state_by : Result (ℤ × Image) ImageFault → State → State
  state_by (Ok (offset, image)) s = after_load s (unsigned_abs offset) image
  state_by (Err fault) s = s

  -- ---- the reasons

  read_so : (s : State) (read : Result (ℤ × Image) ImageFault) → and_then (image_or read) (take_image s) ≡ unless_refused (read_image_reason (timed_core (core_of e s) event) read) (state_by read s)
  read_so s (Ok (offset, image)) =
      row (int_lt offset (pos s.world.committed)) (older_image offset (pos s.world.committed)) _ _ (after_load s (unsigned_abs offset) image)
      (row (is_far offset) (exhausted offset) None (Ok (after_load s (unsigned_abs offset) image)) (after_load s (unsigned_abs offset) image) refl)
  read_so s (Err fault) = refl

  judged_so : (s : State) → load s bytes ≡ unless_refused (load_reason (timed_core (core_of e s) event) (image_of bytes)) (state_by (image_of bytes) s)
  judged_so s = row (is_some s.world.leading) (already_leading s.world.leading) _ _ (state_by (image_of bytes) s) (read_so s (image_of bytes))

  judged : (s : State) (writes : List Write) → IsEngine e s writes → outcome e.options (at_time_of s event) event ≡ unless_refused (load_reason before (image_of bytes)) (state_by (image_of bytes) s)
  judged s writes k = judged_so s ∙ ap (λ (c : Core). unless_refused (load_reason (timed_core c event) (image_of bytes)) (state_by (image_of bytes) s)) (sym (is_core e s writes k))

  -- ---- the engine of the image

  module _ (offset : ℤ) (image : Image) (valid : IsValid image) (s : State) (writes : List Write) (k : IsEngine e s writes) (none : e.leading ≡ None) (late : int_lt offset e.committed ≡ false) (is_near : is_far offset ≡ false) where
    abbrev n : ℕ
    n = unsigned_abs offset

    abbrev after : State
    after = after_load s n image

    is : offset ≡ pos n
    is = is_natural offset s.world.committed (sym (ap (int_lt offset) k.committed) ∙ late)

    standby : s.world.leading ≡ None
    standby = sym k.leading ∙ none

    none_waits : writes ≡ []
    none_waits = no_writes e.leading e.closed e.held writes none k.waits

    new_tip : n ≡ tip (alone n image)
    new_tip = omega arith

    none_open : (place : ℕ) → open_at (alone n image) place ≡ None
    none_open place = none_open_at_start n image place

    closed_is : closed_of after.world ≡ n
    closed_is = ap (λ o. unwrap_or o n) (none_open n)

    seen : seen_at (alone n image) n ≡ image
    seen = ap (λ r. Rattle.std.specs.Result.result_unwrap_or r Rattle.kr_defs.specs.Image.empty) (ap (image_at (alone n image)) new_tip ∙ at_start n image)

    state_after : IsState (with_next_number after) (filter (is_open_in after.world) (writes ++ []))
    state_after = record {
      valid = valid;
      started = omega arith;
      settled = closed_is;
      ends = new_tip;
      begun = tt;
      low = subst (λ m. m ≤ unsigned_abs PLACES_END) new_tip (near n (ap is_far (sym is) ∙ is_near));
      at_standby = λ _. (refl, (k.is_state.at_standby standby).1);
      decided = λ some. absurd (leads_not s.world.leading standby some);
      hears = λ some. absurd (leads_not s.world.leading standby some);
      in_time = k.is_state.in_time;
      natural = k.is_state.natural;
      reached = (let P : Write → Type 0 = λ write. int_le write.need (pos (tip (alone n image))) ≡ true in
          subst (λ (ws : List Write). All P (filter (is_open_in after.world) (ws ++ []))) (sym none_waits) (All-nil P));
    }

    closed_so : offset ≡ pos (closed_of after.world)
    closed_so = is ∙ ap pos (sym closed_is)

    accepted : IsAccepted e e.options s writes event (core_at (core_with_entries before (entries.Load offset (records_of image) ∷ [])) offset image) after
    accepted = record {
      stands = record {
        tip = is ∙ ap pos new_tip;
        committed = is;
        closed = closed_so;
        leading = k.leading;
        greatest = k.greatest;
        count = ap next_number k.count;
        time = k.time;
        led = k.led;
        heard_of = k.heard_of;
        present = at_start n image;
        kept = ap (λ z. (z, image) ∷ []) is ∙ (ap (λ i. (pos n, i) ∷ []) (sym seen) ∙ ap (λ m. kept_image (alone n image) m ∷ []) (sym closed_is));
        begun = ap (option_map (λ (n : ℕ). pos n)) (sym (none_open (tip (alone n image))));
        kept_begun =
            ap (λ z. (z, None) ∷ []) is
            ∙ (ap (λ (o : Option ℕ). (pos n, option_map (λ (n : ℕ). pos n) o) ∷ []) (sym (none_open n)) ∙ ap (λ m. kept_begin (alone n image) m ∷ []) (sym closed_is));
        weighed = record { unmade = refl; rest = []; counted = ap (λ z. (z, 0) ∷ []) closed_so; each = tt };
        waits = waits_then e s writes d k e.leading offset after.world k.leading closed_so;
        ordered = k.ordered;
        is_state = state_after;
      };
      outputs =
          ap (λ g. g ++ option_to_list e.refusal ++ answers e.leading offset e.held) d.none_given
          ∙ (ap (λ o. option_to_list o ++ answers e.leading offset e.held) d.none_refused
          ∙ answers_then e s writes d k e.leading offset after.world k.leading closed_so);
      held = held_then e s writes d k;
      fresh = ap (λ z. entries.Load z (records_of image) ∷ []) is;
    }

  allowed_by : (read : Result (ℤ × Image) ImageFault) → Gives IsLoadable read → load_reason before read ≡ None → (s : State) (writes : List Write) → IsEngine e s writes → IsAccepted e e.options s writes event (core_after_read_image before read) (state_by read s)
  allowed_by (Ok (offset, image)) gives none s writes k =
      let one = none_row (is_some e.leading) (already_leading e.leading) _ none in
      let two = none_row (int_lt offset e.committed) (older_image offset e.committed) _ one.1 in
      let three = none_row (is_far offset) (exhausted offset) None two.1 in
      accepted offset image (gives (offset, image) refl) s writes k (none_is e.leading one.0) two.0 three.0
  allowed_by (Err fault) gives none s writes k =
      let one = none_row (is_some e.leading) (already_leading e.leading) _ none in absurd cc

same_options : (e : Core) (read : Result (ℤ × Image) ImageFault) → (core_after_read_image e read).options ≡ e.options
same_options e (Ok (offset, image)) = refl
same_options e (Err fault) = refl

pub load_step : (e noted between after : Core) (bytes : List ℕ) → outputs_left e ≡ [] → noted ≡ cleared_core e
    → Settles noted between (load_reason noted (image_of bytes)) (core_after_read_image noted (image_of bytes)) → after ≡ counted_core between → IsStep e after (events.Load bytes)
load_step e noted between stepped bytes none clears settled is =
    let d = drained e none in
    let before = timed_core e (events.Load bytes) in
    subst (λ (a : Core). IsStep e a (events.Load bytes)) (sym is) (settled_step e (events.Load bytes) d between (load_reason before (image_of bytes)) (core_after_read_image before (image_of bytes)) (state_by e bytes d (image_of bytes)) (same_options before (image_of bytes))
    (subst (λ (c : Core). Settles c between (load_reason c (image_of bytes)) (core_after_read_image c (image_of bytes))) clears settled)
    (judged e bytes d) (allowed_by e bytes d (image_of bytes) (loaded_valid bytes)))
