-- What a lost leadership makes of an engine.
use Rattle.std.proofs.Common.{◌≡◌, ◌∙◌, sym, subst, ℕ, ℤ, pos, Bool, true, false, cond, ◌≤◌, ◌<◌, ◌+◌, ◌-◌, List, [], ◌∷◌, ◌++◌, map, refl, ap, arith}
use Rattle.std.proofs.lemmas.List.{append-nil}
use Rattle.std.proofs.lemmas.List.Elements.{All-nil, filter-append}
use Rattle.std.specs.Prelude.{Option, Some, None, Result, Ok, Err, not, filter, find, int_lt, unwrap_or, option_to_list, int_le, All}
use Rattle.std.specs.Option.{option_map, option_map_or}
use Rattle.std.specs.Ordering.{int_eq}
use Rattle.std.specs.Result.{result_unwrap_or}
use Rattle.kr_calls.specs.declared.events.Event.{Event}
use Rattle.kr_calls.specs.declared.events.Reason.{Reason}
use Rattle.kr_calls.specs.declared.events.Event.TheVariants as events
use Rattle.kr_defs.specs.declared.ill.Ill.{Ill}
use Rattle.kr_defs.specs.Image.{Image, empty}
use Rattle.kr_defs.specs.Log.{Log, closed_end_at, image_at, open_at, state_at, tip}
use Rattle.kr_defs.specs.LogStates.{LogState}
use Rattle.kr_store.specs.Images.{Images, begun_at, begun_under, kept_at, reverted}
use Rattle.kr_model.specs.declared.writes.Write.{Write}
use Rattle.kr_engine.specs.inner.Changes.{cleared_core, counted_core, refused_core_or}
use Rattle.kr_engine.specs.inner.Commit.{steps_unless}
use Rattle.kr_engine.specs.inner.Lost.{core_after_lost, lost_reason, reverting_steps}
use Rattle.kr_model.specs.Engine.{Core, IsEngine, IsSound, IsState, IsStep, Rise, kept_begin, kept_image, kept_places, outputs_left}
use Rattle.kr_model.specs.Entries.{item_entries}
use Rattle.kr_model.specs.Events.{with_next_number, next_number}
use Rattle.kr_model.specs.Lost.{cut, after_lost, lost}
use Rattle.kr_model.specs.Weights.{IsWeighed, lost_steps, weight_below, weight_settled}
use Rattle.kr_model.specs.World.{leads_in, State, closed_of, seen_at, tip_of}
use Rattle.kr_model.specs.Outputs.{answers, answers_in, is_open_in}
use Rattle.kr_model.specs.Reasons.{not_leading}
use Rattle.kr_engine.proofs.ClosedEnds.{stands_open}
use Rattle.kr_engine.proofs.CommitSteps.{same_leading}
use Rattle.kr_engine.proofs.KeptPlaces.{found_under, is_one, none_up_to, one_before, one_last, same_under, up_to, up_to_under}
use Rattle.kr_model.proofs.EventOutcomes.{entries_accepted, outputs_accepted, refuses, stands_accepted, writes_accepted}
use Rattle.kr_model.proofs.LogEntries.{cut_behind}
use Rattle.kr_model.proofs.Logs.{cut_below, cut_tip, open_cut_below, state_seen}
use Rattle.kr_model.proofs.Places.{isnt_below}
use Rattle.kr_model.proofs.Queues.{IsDrained, drained, never}
use Rattle.kr_model.proofs.SoundEngines.{stepped_sound}
use Rattle.kr_model.proofs.StandingEngines.{tip_only}
use Rattle.kr_model.proofs.TransactionWeights.{begun_below}
use Rattle.kr_model.proofs.Weights.{lost_bound, lost_weighed, weight_cut}
use Rattle.kr_engine.proofs.Refusals.{refused_step}
use Rattle.kr_model.proofs.EventsWithoutWrites.{answers_then, held_then, waits_then}
use Rattle.kr_model.proofs.KeptImages.{none_open, not_higher, seen_below}

-- ---- what stands below the committed end

all_up_to : (c from : ℕ) (ns : List ℕ) (to : ℕ) → to ≤ c → Rise from ns to → up_to c ns ≡ ns
all_up_to c from [] to high rise = refl
all_up_to c from (n ∷ ns) to high rise =
    let under = not_higher n ns to rise.1 in
    ap (λ b. cond (not b) (n ∷ up_to c ns) (up_to c ns)) (isnt_below c n (omega (arith, under, high))) ∙ ap (λ rest. n ∷ rest) (all_up_to c n ns to high rise.1)

-- covered ends stay, the ends of batches above them don't
covered_left : (closed : ℕ) (covered : List ℕ) (c : ℕ) (ends : List ℕ) (to : ℕ) → Rise closed covered c → Rise c ends to → up_to c (covered ++ ends) ≡ covered
covered_left closed covered c ends to settled rise =
    filter-append (λ n. not (int_lt (pos c) (pos n))) covered ends
    ∙ (ap (λ xs. xs ++ up_to c ends) (all_up_to c closed covered c (omega arith) settled)
    ∙ (ap (λ xs. covered ++ xs) (none_up_to c c ends to (omega arith) rise) ∙ append-nil covered))

settled_cut : (log : Log) (place : ℕ) (state : LogState) (o : Option ℕ) → state_at log place ≡ Ok state → open_at log place ≡ o
    → option_map_or (λ (begin : ℕ). weight_below (cut log place) (begin + 1)) o (weight_below (cut log place) place) ≡ option_map_or (λ (begin : ℕ). weight_below log (begin + 1)) o (weight_below log place)
settled_cut log place state None is unclosed = weight_cut log place place (omega arith)
settled_cut log place state (Some begin) is unclosed = weight_cut log place (begin + 1) (begun_below log place state begin is unclosed)

-- where no end is covered, nothing is open at the committed end
all_settled : (e : Core) (s : State) (writes : List Write) → IsEngine e s writes → s.world.covered ≡ [] → weight_settled s.world.log s.world.committed ≡ weight_below s.world.log s.world.committed
all_settled e s writes k none = by (open_at s.world.log s.world.committed) refl
  where
    by : (o : Option ℕ) → open_at s.world.log s.world.committed ≡ o → weight_settled s.world.log s.world.committed ≡ weight_below s.world.log s.world.committed
    by None unclosed = ap (λ o. option_map_or (λ (begin : ℕ). weight_below s.world.log (begin + 1)) o (weight_below s.world.log s.world.committed)) unclosed
    by (Some begin) unclosed =
        let at : closed_of s.world ≡ s.world.committed = tip_only s.world.log (closed_of s.world) s.world.covered s.world.committed k.is_state.settled none in
        let first : closed_of s.world ≡ begin = ap (λ o. unwrap_or o s.world.committed) unclosed in
        let up = (stands_open s.world.log e.images.tip s.world.committed begin k.present unclosed).below in
        absurd (omega (arith, at, first, up))

-- ---- the step

-- the images after a revert
abbrev gone_back : List (ℤ × Image) → List (ℤ × ℕ) → Image → Option ℤ → List (ℤ × Option ℤ) → Images
gone_back kept kept_made image begun kept_begun = record { kept = kept; tip = image; made = 0; kept_made = kept_made; begun = begun; kept_begun = kept_begun }

abbrev tip_in : Images → Result Image Ill
tip_in images = Ok images.tip

abbrev place_of : Option ℕ → Option ℤ
place_of o = option_map (λ (n : ℕ). pos n) o

module _ (e : Core) (epoch : ℤ) (d : IsDrained e) where
  abbrev event : Event
  event = events.Lost epoch

  abbrev after : Core
  after = counted_core (core_after_lost (cleared_core e))

  abbrev judged : Bool → State → Result State Reason
  judged b s = cond (not b) (Err (not_leading epoch s.world.leading)) (Ok (after_lost s))

  judged_so : (b : Bool) → leads_in e.leading epoch ≡ b → (s : State) (writes : List Write) → IsEngine e s writes → lost s epoch ≡ judged b s
  judged_so b leads s writes k = ap (λ b. judged b s) (same_leading e s writes k epoch ∙ leads)

  module _ (s : State) (writes : List Write) (k : IsEngine e s writes) where
    abbrev end : ℕ
    end = s.world.committed

    abbrev log : Log
    log = s.world.log

    abbrev shorter : Log
    shorter = cut log end

    abbrev places : List ℕ
    places = closed_of s.world ∷ s.world.covered

    below : end ≤ tip_of s
    below = not_higher end s.world.batch_ends (tip_of s) k.is_state.ends

    closed_below : closed_of s.world ≤ end
    closed_below = not_higher (closed_of s.world) s.world.covered end k.is_state.settled

    new_tip : tip shorter ≡ end
    new_tip = cut_tip log end k.is_state.started below

    one_end : is_one end (kept_places s.world) ≡ true
    one_end = one_before end places s.world.batch_ends (one_last (closed_of s.world) s.world.covered end k.is_state.settled)

    abbrev left : {X : Type 0} → List (ℤ × X) → List (ℤ × X)
    left {X} xs = filter (λ (x : ℤ × X). not (int_lt (pos end) x.0)) xs

    found : kept_at e.images (pos end) ≡ Some (seen_at log end)
    found =
        ap (λ (ks : List (ℤ × Image)). option_map (λ (i : ℤ × Image). i.1) (find (λ (i : ℤ × Image). int_eq i.0 (pos end)) ks)) k.kept
        ∙ ap (option_map (λ (i : ℤ × Image). i.1)) (found_under (seen_at log) end (kept_places s.world) one_end)

    begun_found : begun_at e.images (pos end) ≡ place_of (open_at log end)
    begun_found =
        ap (λ (bs : List (ℤ × Option ℤ)). begun_under (find (λ (b : ℤ × Option ℤ). int_eq b.0 (pos end)) bs)) k.kept_begun
        ∙ ap begun_under (found_under (λ n. place_of (open_at log n)) end (kept_places s.world) one_end)

    images_left : left e.images.kept ≡ map (kept_image log) places
    images_left =
        ap (λ (ks : List (ℤ × Image)). left ks) k.kept
        ∙ (up_to_under (seen_at log) end (closed_of s.world) (s.world.covered ++ s.world.batch_ends) closed_below
        ∙ ap (λ ns. map (kept_image log) (closed_of s.world ∷ ns)) (covered_left (closed_of s.world) s.world.covered end s.world.batch_ends (tip_of s) k.is_state.settled k.is_state.ends))

    begins_left : left e.images.kept_begun ≡ map (kept_begin log) places
    begins_left =
        ap (λ (bs : List (ℤ × Option ℤ)). left bs) k.kept_begun
        ∙ (up_to_under (λ n. place_of (open_at log n)) end (closed_of s.world) (s.world.covered ++ s.world.batch_ends) closed_below
        ∙ ap (λ ns. map (kept_begin log) (closed_of s.world ∷ ns)) (covered_left (closed_of s.world) s.world.covered end s.world.batch_ends (tip_of s) k.is_state.settled k.is_state.ends))

    abbrev left_made : List (ℤ × ℕ)
    left_made = left e.images.kept_made

    abbrev back : Images
    back = gone_back (map (kept_image log) places) left_made (seen_at log end) (place_of (open_at log end)) (map (kept_begin log) places)

    reverted_so : unwrap_or (reverted e.images e.committed) e.images ≡ back
    reverted_so =
        ap (λ c. unwrap_or (reverted e.images c) e.images) k.committed
        ∙ (ap (λ (o : Option Image). unwrap_or (option_map (λ (tip : Image). gone_back (left e.images.kept) left_made tip (begun_at e.images (pos end)) (left e.images.kept_begun)) o) e.images) found
        ∙ (ap (λ ks. gone_back ks left_made (seen_at log end) (begun_at e.images (pos end)) (left e.images.kept_begun)) images_left
        ∙ (ap (λ b. gone_back (map (kept_image log) places) left_made (seen_at log end) b (left e.images.kept_begun)) begun_found
        ∙ ap (λ bs. gone_back (map (kept_image log) places) left_made (seen_at log end) (place_of (open_at log end)) bs) begins_left)))

    -- ---- the log that is cut

    closed_same : closed_end_at shorter end ≡ closed_of s.world
    closed_same = ap (λ o. unwrap_or o end) (open_cut_below log end end (omega arith))

    places_same : closed_of s.world ∷ s.world.covered ≡ kept_places (after_lost s).world
    places_same = ap (λ ns. closed_of s.world ∷ ns) (sym (append-nil s.world.covered)) ∙ ap (λ c. c ∷ (s.world.covered ++ [])) (sym closed_same)

    images_so : map (kept_image log) places ≡ map (kept_image shorter) (kept_places (after_lost s).world)
    images_so =
        sym (same_under (seen_at log) (seen_at shorter) (closed_of s.world) s.world.covered end (λ n high low. ap (λ (r : Result Image Ill). result_unwrap_or r empty) (cut_below log end n low)) k.is_state.settled)
        ∙ ap (map (kept_image shorter)) places_same

    begins_so : map (kept_begin log) places ≡ map (kept_begin shorter) (kept_places (after_lost s).world)
    begins_so =
        sym (same_under (λ n. place_of (open_at log n)) (λ n. place_of (open_at shorter n)) (closed_of s.world) s.world.covered end (λ n high low. ap place_of (open_cut_below log end n low)) k.is_state.settled)
        ∙ ap (map (kept_begin shorter)) places_same

    present : image_at shorter (tip shorter) ≡ Ok (seen_at log end)
    present =
        ap (image_at shorter) new_tip
        ∙ (cut_below log end end (omega arith) ∙ seen_below log end e.images.tip k.present)

    begun_so : place_of (open_at log end) ≡ place_of (open_at shorter (tip shorter))
    begun_so = ap place_of (sym (ap (open_at shorter) new_tip ∙ open_cut_below log end end (omega arith)))

    settled_same : weight_settled shorter end ≡ weight_settled log end
    settled_same =
        let h = state_seen log end (seen_at log end) (seen_below log end e.images.tip k.present) in
        ap (λ o. option_map_or (λ (begin : ℕ). weight_below shorter (begin + 1)) o (weight_below shorter end)) (open_cut_below log end end (omega arith))
        ∙ settled_cut log end h.state (open_at log end) h.there refl

    weighed_so : IsWeighed after.images shorter (closed_end_at shorter end) (weight_settled shorter end) (s.world.covered ++ [])
    weighed_so =
        subst (λ c. IsWeighed after.images shorter c (weight_settled shorter end) (s.world.covered ++ [])) (sym closed_same)
        (subst (λ b. IsWeighed after.images shorter (closed_of s.world) b (s.world.covered ++ [])) (sym settled_same)
        (subst (λ ns. IsWeighed after.images shorter (closed_of s.world) (weight_settled log end) ns) (sym (append-nil s.world.covered))
        (lost_weighed e.images log (closed_of s.world) (weight_settled log end) end s.world.covered s.world.batch_ends (tip_of s) k.weighed k.is_state.settled k.is_state.ends (all_settled e s writes k)
        after.images (ap (λ (images : Images). images.made) reverted_so) (ap (λ (images : Images). images.kept_made) reverted_so))))

    state : IsState (with_next_number (after_lost s)) (filter (is_open_in (after_lost s).world) (writes ++ []))
    state = record {
      valid = k.is_state.valid;
      started = k.is_state.started;
      settled = subst (λ c. Rise c s.world.covered end) (sym closed_same) k.is_state.settled;
      ends = sym new_tip;
      begun = tt;
      low = (let low = k.is_state.low in let under = below in let at = new_tip in omega (arith, low, under, at));
      at_standby = λ none. (refl, refl);
      decided = λ some. absurd (never some);
      hears = λ some. absurd (never some);
      in_time = refl;
      natural = k.is_state.natural;
      reached = (let P : Write → Type 0 = λ write. int_le write.need (pos (tip_of (after_lost s))) ≡ true in
          subst (All P) (sym (none_open (pos (closed_of (after_lost s).world)) (writes ++ []))) (All-nil P));
    }

    closed_so : e.closed ≡ pos (closed_end_at shorter end)
    closed_so = k.closed ∙ ap pos (sym closed_same)

    stands : IsEngine after (with_next_number (after_lost s)) (filter (is_open_in (after_lost s).world) (writes ++ []))
    stands = record {
      tip = k.committed ∙ ap pos (sym new_tip);
      committed = k.committed;
      closed = closed_so;
      leading = refl;
      greatest = k.greatest;
      count = ap next_number k.count;
      time = k.time;
      led = k.led;
      heard_of = refl;
      present = present ∙ ap tip_in (sym reverted_so);
      kept = ap (λ (images : Images). images.kept) reverted_so ∙ images_so;
      begun = ap (λ (images : Images). images.begun) reverted_so ∙ begun_so;
      kept_begun = ap (λ (images : Images). images.kept_begun) reverted_so ∙ begins_so;
      weighed = weighed_so;
      waits = waits_then e s writes d k None e.closed (after_lost s).world refl closed_so;
      ordered = k.ordered;
      is_state = state;
    }

    left_then : outputs_left after ≡ answers_in (after_lost s).world (writes ++ [])
    left_then =
        ap (λ g. g ++ option_to_list e.refusal ++ answers None e.closed e.held) d.none_given
        ∙ (ap (λ o. option_to_list o ++ answers None e.closed e.held) d.none_refused
        ∙ answers_then e s writes d k None e.closed (after_lost s).world refl closed_so)

  accepted_step : leads_in e.leading epoch ≡ true → IsStep e after event
  accepted_step leads = record {
    options = refl;
    stands = λ s writes k. stands_accepted after e.options s writes event (after_lost s) (judged_so true leads s writes k) (stands s writes k);
    outputs = λ s writes k. left_then s writes k ∙ sym (outputs_accepted e e.options s writes event (after_lost s) (judged_so true leads s writes k));
    held = λ s writes k. held_then e s writes d k ∙ ap (λ ws. writes ++ ws) (sym (writes_accepted e e.options s writes event (after_lost s) (judged_so true leads s writes k)));
    fresh = λ s writes k.
        ap (item_entries (pos (tip_of s))) (sym (cut_behind s.world.log s.world.committed))
        ∙ sym (entries_accepted e e.options s writes event (after_lost s) (judged_so true leads s writes k));
  }

  same_reason : (s : State) (writes : List Write) → IsEngine e s writes → refuses (not_leading epoch s.world.leading) ≡ refuses (not_leading epoch e.leading)
  same_reason s writes k = ap (λ leading. refuses (not_leading epoch leading)) (sym k.leading)

  step_by : (b : Bool) → leads_in e.leading epoch ≡ b → IsStep e (counted_core (refused_core_or (cleared_core e) (cond (not b) (Some (not_leading epoch e.leading)) None) (core_after_lost (cleared_core e)))) event
  step_by false leads = refused_step e event (not_leading epoch e.leading) d (λ s writes k. judged_so false leads s writes k ∙ same_reason s writes k)
  step_by true leads = accepted_step leads

pub lost_step : (e : Core) (epoch : ℤ) → outputs_left e ≡ [] → IsStep e (counted_core (refused_core_or (cleared_core e) (lost_reason (cleared_core e) epoch) (core_after_lost (cleared_core e)))) (events.Lost epoch)
lost_step e epoch none = step_by e epoch (drained e none) (leads_in e.leading epoch) refl

pub lost_sound : (e : Core) (epoch : ℤ) → outputs_left e ≡ [] → IsSound e → IsSound (counted_core (refused_core_or (cleared_core e) (lost_reason (cleared_core e) epoch) (core_after_lost (cleared_core e))))
lost_sound e epoch none sound = stepped_sound e _ (events.Lost epoch) (lost_step e epoch none) sound

-- ---- the steps

pub lost_within : (e : Core) (epoch : ℤ) (before steps : ℕ) → steps ≤ before + steps_unless (lost_reason (cleared_core e) epoch) (reverting_steps e.images e.committed)
    → (s : State) (writes : List Write) → IsEngine e s writes → steps ≤ before + lost_steps s
lost_within e epoch before steps bound s writes k = within_by (lost_reason (cleared_core e) epoch) bound
  where
    within_by : (reason : Option Reason) → steps ≤ before + steps_unless reason (reverting_steps e.images e.committed) → steps ≤ before + lost_steps s
    within_by None bound =
        let within = lost_bound e.images s.world.log (closed_of s.world) (weight_settled s.world.log s.world.committed) s.world.committed s.world.covered s.world.batch_ends (tip_of s) k.weighed k.is_state.settled k.is_state.ends (all_settled e s writes k) before steps
        (let at_end : steps ≤ before + reverting_steps e.images (pos s.world.committed) = subst (λ c. steps ≤ before + reverting_steps e.images c) k.committed bound in omega (arith, at_end)) in omega (arith, within)
    within_by (Some reason) bound = omega (arith, bound)
