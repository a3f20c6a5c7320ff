-- What a committed batch of another leader makes of an engine.
use Rattle.std.proofs.Common.{◌≡◌, ◌∙◌, sym, subst, ℕ, ℤ, pos, Bool, true, false, cond, ◌+◌, ◌-◌, ◌≤◌, ◌<◌, List, [], ◌∷◌, ◌++◌, map, length, refl, ap, arith}
use Rattle.std.proofs.lemmas.Int.{ints}
use Rattle.std.proofs.lemmas.List.{append_assoc, append-nil}
use Rattle.std.proofs.lemmas.Bool.Decides.{nat_tests}
use Rattle.std.proofs.lemmas.List.Elements.{All-from_recursion, All-nil, filter-append}
use Rattle.std.specs.Prelude.{◌+ℤ◌, ◌≤ℤ◌, Option, Some, None, Result, Ok, Err, OnErr, not, filter, find, int_lt, int_le, is_some, nat_lt, option_to_list, unsigned_abs, unwrap_or, All, IfSome, IsSome, IsTrue}
use Rattle.std.specs.List.{AllByRecursion}
use Rattle.std.specs.Option.{option_map, option_map_or}
use Rattle.std.specs.Ordering.{int_eq}
use Rattle.std.specs.Result.{result_unwrap_or}
use Rattle.kr_batch.specs.declared.Batch.{Batch}
use Rattle.kr_batch.specs.declared.fault.BatchFault.{BatchFault}
use Rattle.kr_batch.specs.Grammar.{IsBatch}
use Rattle.kr_batch.specs.Reading.{batch_of}
use Rattle.kr_calls.specs.declared.events.Entry.{Entry}
use Rattle.kr_calls.specs.declared.events.Event.{Event}
use Rattle.kr_calls.specs.declared.events.Reason.{Reason}
use Rattle.kr_calls.specs.declared.events.Event.TheVariants as events
use Rattle.kr_defs.specs.declared.ill.Ill.{Ill}
use Rattle.kr_defs.specs.declared.limits.TheConstants.{PLACES_END}
use Rattle.kr_defs.specs.declared.record.Item.{Item}
use Rattle.kr_defs.specs.Guard.{and_then}
use Rattle.kr_defs.specs.Image.{Image, empty}
use Rattle.kr_defs.specs.Log.{Log, closed_end_at, open_at, state_at, tip}
use Rattle.kr_defs.specs.LogStates.{LogState, closed, first_ill_at}
use Rattle.kr_defs.proofs.IdLists.{same_id}
use Rattle.kr_defs.proofs.StateLogs.{closed_end_between}
use Rattle.kr_defs.proofs.Tests.{none_is, not_false}
use Rattle.kr_store.specs.Images.{Images, AreBegunFrom, AreValid, IsAbove, forgotten, log_place, marked, oldest_unmade, reverted, tip_state}
use Rattle.kr_model.specs.declared.writes.Write.{Write}
use Rattle.kr_engine.specs.inner.Changes.{BreaksOff, GivesAlone, IsLonger, cleared_core, counted_core, timed_core, core_with_entries, refused_core}
use Rattle.kr_model.specs.Engine.{Core, IsEngine, IsSound, IsState, IsStep, Rise, kept_begin, kept_image, kept_places, outputs_left}
use Rattle.kr_model.specs.Entries.{item_entries}
use Rattle.kr_model.specs.Events.{with_next_number, next_number, outcome, at_time_of}
use Rattle.kr_model.specs.Outputs.{answers, is_open_in}
use Rattle.kr_model.specs.Reasons.{already_leading, bad_batch, exhausted, gap, ill_formed}
use Rattle.kr_engine.specs.inner.Ready.{IsReady}
use Rattle.kr_engine.specs.inner.Settled.{closed_behind, core_moved}
use Rattle.kr_model.specs.Batch as replicas
use Rattle.kr_model.specs.Batch.{batch_or, end_of, batch, take_batch, unless_ill}
use Rattle.kr_engine.specs.inner.Batch.{Follows, FollowsRead, SettlesBatch, SettlesItems, TakesItems, batch_reason, decoded_batch_reason, first_ill_of, items_reason, read_batch_reason}
use Rattle.kr_model.specs.Weights.{AreWeighed, IsWeighed, weight_below, weight_settled}
use Rattle.kr_model.specs.World.{State, World, closed_of, is_far, log_with, seen_at, state_of_tip, tip_of}
use Rattle.kr_model.proofs.CoveredEnds.{settled_by_batch}
use Rattle.kr_model.proofs.KeptImages.{all_below, not_higher}
use Rattle.kr_model.proofs.Places.{is_below, isnt_below, near}
use Rattle.kr_model.proofs.LogEntries.{behind}
use Rattle.kr_model.proofs.Logs.{open_written_below, tip_written}
use Rattle.kr_model.proofs.Queues.{IsDrained, drained, never}
use Rattle.kr_model.proofs.StandingEngines.{places_rise, tip_only, core_of, is_core}
use Rattle.kr_model.proofs.TransactionWeights.{begun_below, weighs_since}
use Rattle.kr_model.proofs.Weights.{commit_weighed, weight_longer, weight_stays, weight_told, weight_up_to}
use Rattle.kr_engine.proofs.ClosedEnds.{begun_from, open_before}
use Rattle.kr_engine.proofs.FirstReasons.{IsAccepted, accepted_step, none_row, row, unless_refused}
use Rattle.kr_engine.proofs.Refusals.{refused_step}
use Rattle.kr_engine.proofs.KeptPlaces.{above, above_tested, from_under, is_one, one_last, rise_above}
use Rattle.kr_engine.proofs.KeptStates.{Behind, Keeps, engine_keeps, items_behind, keeps_state, keeps_weighed, open_first, place_of, tip_kept}
use Rattle.kr_engine.proofs.LeadSteps.{no_writes}
use Rattle.kr_engine.proofs.ReadyEngines.{closed_of_places}
use Rattle.kr_engine.proofs.Undoing.{added_breaks, adding_breaks, images_back, longer_breaks, same_breaks}
use Rattle.kr_model.proofs.EventsWithoutWrites.{answers_then, held_then, waits_then}

-- ---- items that are applied, or not

-- the images of the tip are back
pub items_refused : (e between after : Core) (end : ℤ) (items : List Item) (ill : ℤ × Ill) → IsReady e → AreValid e.images → IsLonger e.images between.images e.tip → between ≡ record e { images = between.images } → Some ill ≡ first_ill_of e items
    → after ≡ refused_core (record between { images = unwrap_or (reverted between.images between.tip) between.images }) (ill_formed ill.0 ill.1) → SettlesItems e after items end (items_reason (first_ill_of e items))
items_refused e between after end items ill r valid longer same is refuses =
    let back : unwrap_or (reverted between.images between.tip) between.images ≡ e.images =
    ap (λ t. unwrap_or (reverted between.images t) between.images) (ap (λ (c : Core). c.tip) same) ∙ images_back e r valid between.images longer in
    subst (λ o. SettlesItems e after items end (items_reason o)) is
    (refuses
    ∙ (ap (λ (i : Images). refused_core (record between { images = i }) (ill_formed ill.0 ill.1)) back
    ∙ ap (λ (c : Core). refused_core (record c { images = e.images }) (ill_formed ill.0 ill.1)) same))

pub items_followed : (e between told after : Core) (end : ℤ) (items : List Item) → 1 ≤ length items → None ≡ first_ill_of e items → TakesItems e.images between.images e.tip items → between ≡ record e { images = between.images }
    → told ≡ core_with_entries between (item_entries between.tip items) → after ≡ core_moved told end → SettlesItems e after items end (items_reason (first_ill_of e items))
items_followed e between told after end items some is takes same adds moves =
    subst (λ o. SettlesItems e after items end (items_reason o)) is (record {
      some = some;
      images = between.images;
      takes = takes;
      same =
          moves
          ∙ (ap (λ (c : Core). core_moved c end) adds
          ∙ ap (λ (c : Core). core_moved (core_with_entries c (item_entries c.tip items)) end) same);
    })

higher_by : (z : ℤ) (n : ℕ) → 1 ≤ n → int_lt z (z +ℤ pos n) ≡ true
higher_by z n some = grind (arith, ints)

-- ---- what is counted under kept places

-- what is kept from the last place on
last_counted : (log : Log) (first before : ℕ) (ns : List ℕ) (last : ℕ) (ms : List (ℤ × ℕ)) (count : ℕ) → Rise first ns last → AreWeighed log before ns ms
    → (x : ℕ) × (filter (λ (m : ℤ × ℕ). not (int_lt m.0 (pos last))) ((pos first, count) ∷ ms) ≡ (pos last, x) ∷ [])
last_counted log first before [] last [] count rise are =
    (count, ap (λ b. cond (not b) ((pos first, count) ∷ []) []) (isnt_below first last (omega (arith, rise))) ∙ ap (λ n. (pos n, count) ∷ []) rise)
last_counted log first before [] last (m ∷ ms) count rise are = absurd are
last_counted log first before (n ∷ ns) last [] count rise are = absurd are
last_counted log first before (n ∷ ns) last (m ∷ ms) count rise are =
    let up = rise.0 in
    let high = not_higher n ns last rise.1 in
    let q : ℤ × ℕ → Bool = λ m. not (int_lt m.0 (pos last)) in
    let later = last_counted log n (weight_below log n) ns last ms m.1 rise.1 are.2 in (
      later.0,
      ap (λ b. cond (not b) ((pos first, count) ∷ filter q (m ∷ ms)) (filter q (m ∷ ms))) (is_below first last (omega (arith, up, high)))
          ∙ (ap (λ z. filter q ((z, m.1) ∷ ms)) are.0 ∙ later.1),
    )

-- ---- places that aren't above one

abbrev AreUpTo : ℕ → List ℕ → Type 0
AreUpTo c ns = AllByRecursion (λ n. n ≤ c) ns

none_later : (c : ℕ) (ns : List ℕ) → AreUpTo c ns → above c ns ≡ []
none_later c [] all = refl
none_later c (n ∷ ns) all = ap (λ b. cond b (n ∷ above c ns) (above c ns)) (isnt_below c n all.0) ∙ none_later c ns all.1

all_within : (from : ℕ) (ns : List ℕ) (to c : ℕ) → Rise from ns to → to ≤ c → AreUpTo c ns
all_within from [] to c rise high = tt
all_within from (n ∷ ns) to c rise high = (let under = not_higher n ns to rise.1 in omega (arith, under, high), all_within n ns to c rise.1 high)

within_both : (c : ℕ) (xs ys : List ℕ) → AreUpTo c xs → AreUpTo c ys → AreUpTo c (xs ++ ys)
within_both c [] ys first then = then
within_both c (x ∷ xs) ys first then = (first.0, within_both c xs ys first.1 then)

last_within : (from : ℕ) (ns : List ℕ) (to c : ℕ) → Rise from ns to → from ≤ c → AreUpTo c ns → to ≤ c
last_within from [] to c rise low all = omega (arith, rise, low)
last_within from (n ∷ ns) to c rise low all = last_within n ns to c rise.1 all.0 all.1

-- ---- an engine behind items that have a meaning, on standby

module _ (e : Core) (images : Images) (items : List Item) (s : State) (writes : List Write) (k : IsEngine e s writes) (standby : s.world.leading ≡ None) (takes : TakesItems e.images images e.tip items) (some : 1 ≤ length items) where
  abbrev log : Log
  log = s.world.log

  abbrev longer : Log
  longer = log_with log items

  abbrev first : ℕ
  first = closed_of s.world

  abbrev before : ℕ
  before = weight_settled log s.world.committed

  abbrev ends : List ℕ
  ends = s.world.covered ++ s.world.batch_ends

  abbrev end : ℕ
  end = tip longer

  long : end ≡ tip_of s + length items
  long = tip_written log items

  at_end : s.world.committed ≡ tip_of s
  at_end = tip_only log s.world.committed s.world.batch_ends (tip_of s) k.is_state.ends (k.is_state.at_standby standby).0

  place_is : e.tip +ℤ pos (length items) ≡ pos end
  place_is = ap (λ t. t +ℤ pos (length items)) k.tip ∙ ap pos (sym long)

  reached : Behind images longer first before ends true
  reached = items_behind items e.images images log first before ends (tip_of s) (engine_keeps e s writes k) some (subst (λ z. TakesItems e.images images z items) k.tip takes)

  -- the tip is kept
  abbrev places : List ℕ
  places = (ends ++ reached.new) ++ end ∷ []

  keeps : Keeps (marked images (pos end)) longer first before places end
  keeps = tip_kept images (marked images (pos end)) longer first before (ends ++ reached.new) reached.last reached.keeps (reached.under refl) refl

  -- the closed end
  abbrev c : ℕ
  c = closed_end_at longer end

  started : longer.offset ≤ end
  started = omega arith

  first_low : first ≤ tip_of s
  first_low = not_higher first ends (tip_of s) (places_rise e s writes k)

  closed_low : c ≤ end
  closed_low = (closed_end_between longer end started (omega arith)).1

  closed_is : closed_behind images (pos end) ≡ pos c
  closed_is = ap (λ o. unwrap_or o (pos end)) reached.keeps.begun ∙ closed_of_places (open_at longer end) end

  pub may_forget : AreBegunFrom (marked images (pos end)) (closed_behind images (pos end))
  may_forget =
      subst (λ z. AreBegunFrom (marked images (pos end)) z) (sym closed_is)
      (begun_from (marked images (pos end)) longer images.tip end first places keeps.present started (omega arith) keeps.rise keeps.begun keeps.kept_begun)

  pub end_above : IsAbove images.kept (pos end)
  end_above =
      subst (λ (ks : List (ℤ × Image)). IsAbove ks (pos end)) (sym reached.keeps.kept)
      (All-from_recursion (λ (i : ℤ × Image). IsTrue (int_lt i.0 (pos end))) (map (kept_image longer) (first ∷ (ends ++ reached.new)))
      (all_below longer reached.last (pos end) first (ends ++ reached.new) reached.keeps.rise (is_below reached.last end (reached.under refl))))

  one_closed : is_one c (first ∷ places) ≡ true
  one_closed = elim (open_at longer end) as (λ o. open_at longer end ≡ o → is_one (unwrap_or o end) (first ∷ places) ≡ true) [
    | None ↦ λ is. one_last first places end keeps.rise
    | Some begin ↦ λ is. keeps.there begin is
  ] refl

  -- above it, what was covered before and the end are kept
  left : above c places ≡ above c (s.world.covered ++ end ∷ [])
  left =
      filter-append (λ n. int_lt (pos c) (pos n)) (ends ++ reached.new) (end ∷ [])
      ∙ (ap (λ xs. xs ++ above c (end ∷ [])) (filter-append (λ n. int_lt (pos c) (pos n)) ends reached.new)
      ∙ (ap (λ xs. (above c ends ++ xs) ++ above c (end ∷ [])) (none_later c reached.new reached.low)
      ∙ (ap (λ xs. xs ++ above c (end ∷ [])) (append-nil (above c ends) ∙ ap (above c) (ap (λ xs. s.world.covered ++ xs) (k.is_state.at_standby standby).0 ∙ append-nil s.world.covered))
      ∙ sym (filter-append (λ n. int_lt (pos c) (pos n)) s.world.covered (end ∷ [])))))

  abbrev then_images : Images
  then_images = forgotten (marked images (pos end)) (closed_behind images (pos end))

  images_kept : then_images.kept ≡ map (kept_image longer) (c ∷ above c (s.world.covered ++ end ∷ []))
  images_kept =
      ap (λ z. filter (λ (i : ℤ × Image). not (int_lt i.0 z)) (marked images (pos end)).kept) closed_is
      ∙ (ap (λ (ks : List (ℤ × Image)). filter (λ (i : ℤ × Image). not (int_lt i.0 (pos c))) ks) keeps.kept
      ∙ (from_under (seen_at longer) longer c first places end keeps.rise one_closed
      ∙ ap (λ ns. map (kept_image longer) (c ∷ ns)) left))

  begins_kept : then_images.kept_begun ≡ map (kept_begin longer) (c ∷ above c (s.world.covered ++ end ∷ []))
  begins_kept =
      ap (λ z. filter (λ (b : ℤ × Option ℤ). not (int_lt b.0 z)) (marked images (pos end)).kept_begun) closed_is
      ∙ (ap (λ (bs : List (ℤ × Option ℤ)). filter (λ (b : ℤ × Option ℤ). not (int_lt b.0 (pos c))) bs) keeps.kept_begun
      ∙ (from_under (λ n. place_of (open_at longer n)) longer c first places end keeps.rise one_closed
      ∙ ap (λ ns. map (kept_begin longer) (c ∷ ns)) left))

  -- ---- what is counted

  weighed_all : IsWeighed (marked images (pos end)) longer first before places
  weighed_all = keeps_weighed (marked images (pos end)) longer first before places end keeps refl

  abbrev weight : ℕ
  weight = weight_up_to (marked images (pos end)) longer first before places end (pos c) weighed_all keeps.rise one_closed

  settled_by : (o : Option ℕ) → open_at longer end ≡ o → weight_settled longer end ≡ option_map_or (λ (begin : ℕ). weight_below longer (begin + 1)) o (weight_below longer end)
  settled_by o is = ap (λ o. option_map_or (λ (begin : ℕ). weight_below longer (begin + 1)) o (weight_below longer end)) is

  abbrev Weighed : Type 0
  Weighed = IsWeighed then_images longer c (weight_settled longer end) (above c (s.world.covered ++ end ∷ []))

  weighed_with : weight ≡ weight_settled longer end → Weighed
  weighed_with is =
      subst (λ z. IsWeighed (forgotten (marked images (pos end)) z) longer c (weight_settled longer end) (above c (s.world.covered ++ end ∷ []))) (sym closed_is)
      (subst (λ ns. IsWeighed (forgotten (marked images (pos end)) (pos c)) longer c (weight_settled longer end) ns) left
      (subst (λ b. IsWeighed (forgotten (marked images (pos end)) (pos c)) longer c b (above c places)) is
      (commit_weighed (marked images (pos end)) longer first before places end (pos c) weighed_all keeps.rise one_closed)))

  -- nothing is open
  weighed_closed : open_at longer end ≡ None → Weighed
  weighed_closed none =
      let at : c ≡ end = ap (λ o. unwrap_or o end) none in
      let up = first_low in
      let far = long in
      weighed_with
      (weight_told (marked images (pos end)) longer first before places end (pos c) weighed_all keeps.rise one_closed
      (λ same. let first_end : c ≡ first = ap unsigned_abs same in absurd (omega (arith, at, up, far, first_end, some)))
      ∙ (ap (weight_below longer) at ∙ sym (settled_by None none)))

  -- what was open before still is
  weighed_still : (begin : ℕ) → open_at longer end ≡ Some begin → begin < tip_of s → Weighed
  weighed_still begin unclosed low =
      let there : open_at log (tip_of s) ≡ Some begin =
      sym (open_written_below log items (tip_of s) (omega arith)) ∙ open_before longer (tip_of s) end begin (omega arith) (let far = long in omega (arith, far)) (omega arith) unclosed low in
      let at = open_first e s writes k begin there in
      let same : c ≡ first = ap (λ o. unwrap_or o end) unclosed ∙ sym at.1 in
      let up : begin + 1 ≤ tip_of s = omega (arith, low) in
      let settled : before ≡ weight_below log (begin + 1) =
      ap (λ n. option_map_or (λ (b : ℕ). weight_below log (b + 1)) (open_at log n) (weight_below log n)) at.0 ∙ ap (λ o. option_map_or (λ (b : ℕ). weight_below log (b + 1)) o (weight_below log (tip_of s))) there in
      weighed_with
      (weight_stays (marked images (pos end)) longer first before places end (pos c) weighed_all keeps.rise one_closed (ap pos same)
      ∙ (settled ∙ (sym (weight_longer log items (begin + 1) up) ∙ sym (settled_by (Some begin) unclosed))))

  -- a transaction that began among the items is the last that is kept below the end
  weighed_new : (begin : ℕ) → open_at longer end ≡ Some begin → tip_of s ≤ begin → Weighed
  weighed_new begin unclosed high =
      let at : c ≡ begin = ap (λ o. unwrap_or o end) unclosed in
      let up = first_low in
      let old_low : AreUpTo c ends = all_within first ends (tip_of s) c (places_rise e s writes k) (omega (arith, at, high)) in
      let last_low : reached.last ≤ c = last_within first (ends ++ reached.new) reached.last c reached.keeps.rise (omega (arith, at, high, up)) (within_both c ends reached.new old_low reached.low) in
      let last_high : begin ≤ reached.last = highest first (ends ++ reached.new) reached.last reached.keeps.rise begin (reached.keeps.there begin unclosed) in
      let last_is : reached.last ≡ c = omega (arith, at, last_low, last_high) in
      let state : state_at longer end ≡ Ok (tip_state images) = keeps_state images longer first before (ends ++ reached.new) reached.last reached.keeps in
      let below : c < end = let b = begun_below longer end (tip_state images) begin state unclosed in omega (arith, b, at) in
      let found = last_counted longer first before (ends ++ reached.new) reached.last reached.keeps.rest 0 reached.keeps.rise reached.keeps.each in
      let q : ℤ × ℕ → Bool = λ m. not (int_lt m.0 (pos c)) in
      let kept_last : filter q images.kept_made ≡ (pos c, found.0) ∷ [] =
      ap (filter q) reached.keeps.counted ∙ subst (λ n. filter (λ (m : ℤ × ℕ). not (int_lt m.0 (pos n))) ((pos first, 0) ∷ reached.keeps.rest) ≡ (pos n, found.0) ∷ []) last_is found.1 in
      let within = reached.keeps.undoes begin unclosed in
      let share = weighs_since longer (tip_state images) state begin unclosed in
      let one_left : above c (s.world.covered ++ end ∷ []) ≡ end ∷ [] =
      filter-append (λ n. int_lt (pos c) (pos n)) s.world.covered (end ∷ [])
      ∙ (ap (λ xs. xs ++ above c (end ∷ [])) (none_later c s.world.covered (covered_low c old_low)) ∙ ap (λ b. cond b (end ∷ []) []) (is_below c end below)) in
      let settled : weight_settled longer end ≡ weight_below longer (begin + 1) = settled_by (Some begin) unclosed in
      let few : images.made + weight_settled longer end ≤ weight_below longer end = omega (arith, within, share, settled) in
      subst (λ z. IsWeighed (forgotten (marked images (pos end)) z) longer c (weight_settled longer end) (above c (s.world.covered ++ end ∷ []))) (sym closed_is)
      (subst (λ ns. IsWeighed (forgotten (marked images (pos end)) (pos c)) longer c (weight_settled longer end) ns) (sym one_left) (record {
        unmade = refl;
        rest = (pos end, images.made) ∷ [];
        counted =
            ap oldest_unmade
            (filter-append q images.kept_made ((pos end, images.made) ∷ [])
            ∙ (ap (λ xs. xs ++ filter q ((pos end, images.made) ∷ [])) kept_last
            ∙ ap (λ b. (pos c, found.0) ∷ cond (not b) ((pos end, images.made) ∷ []) []) (isnt_below end c (omega (arith, below)))));
        each = (refl, few, tt);
      }))
    where
      highest : (from : ℕ) (ns : List ℕ) (to : ℕ) → Rise from ns to → (n : ℕ) → is_one n (from ∷ ns) ≡ true → n ≤ to
      highest from ns to rise n is = not_higher n (above n ns) to (rise_above longer n from ns to rise is)

      covered_low : (c : ℕ) → AreUpTo c ends → AreUpTo c s.world.covered
      covered_low c all = first_of_both s.world.covered s.world.batch_ends all
        where
          first_of_both : (xs ys : List ℕ) → AreUpTo c (xs ++ ys) → AreUpTo c xs
          first_of_both [] ys all = tt
          first_of_both (x ∷ xs) ys all = (all.0, first_of_both xs ys all.1)

  weighed_then : Weighed
  weighed_then = elim (open_at longer end) as (λ o. open_at longer end ≡ o → Weighed) [
    | None ↦ λ none. weighed_closed none
    | Some begin ↦ λ unclosed. either_side begin unclosed
  ] refl
    where
      less : (a b : ℕ) → nat_lt a b ≡ true → a < b
      less a b is = grind (arith, nat_tests)

      not_less : (a b : ℕ) → nat_lt a b ≡ false → b ≤ a
      not_less a b is = grind (arith, nat_tests)

      either_side : (begin : ℕ) → open_at longer end ≡ Some begin → Weighed
      either_side begin unclosed =
          elim (nat_lt begin (tip_of s)) as (λ b. nat_lt begin (tip_of s) ≡ b → Weighed) [
            | true ↦ λ is. weighed_still begin unclosed (less begin (tip_of s) is)
            | false ↦ λ is. weighed_new begin unclosed (not_less begin (tip_of s) is)
          ] refl

-- ---- what a Batch asks of the engine

pub batch_above : (e between told : Core) (items : List Item) (end : ℤ) (new : List Entry) → IsSound e → e.leading ≡ None → TakesItems e.images between.images e.tip items → 1 ≤ length items → end ≡ e.tip +ℤ pos (length items)
    → told ≡ core_with_entries between new → IsAbove told.images.kept end
batch_above e between told items end new sound none takes some at adds =
    let k = sound.stands in
    let standby : sound.state.world.leading ≡ None = sym k.leading ∙ none in
    subst (λ (c : Core). IsAbove c.images.kept end) (sym adds)
    (subst (λ z. IsAbove between.images.kept z) (sym (at ∙ place_is e between.images items sound.state sound.writes k standby takes some)) (end_above e between.images items sound.state sound.writes k standby takes some))

pub batch_forgets : (e between told : Core) (items : List Item) (end : ℤ) (new : List Entry) → IsSound e → e.leading ≡ None → TakesItems e.images between.images e.tip items → 1 ≤ length items → end ≡ e.tip +ℤ pos (length items)
    → told ≡ core_with_entries between new → AreBegunFrom (marked told.images end) (closed_behind told.images end)
batch_forgets e between told items end new sound none takes some at adds =
    let k = sound.stands in
    let standby : sound.state.world.leading ≡ None = sym k.leading ∙ none in
    subst (λ (c : Core). AreBegunFrom (marked c.images end) (closed_behind c.images end)) (sym adds)
    (subst (λ z. AreBegunFrom (marked between.images z) (closed_behind between.images z)) (sym (at ∙ place_is e between.images items sound.state sound.writes k standby takes some))
    (may_forget e between.images items sound.state sound.writes k standby takes some))

pub still_low : (before between : Core) → IsReady before → between ≡ record before { images = between.images } → between.tip ≤ℤ PLACES_END
still_low before between r same = subst (λ t. t ≤ℤ PLACES_END) (sym (ap (λ (a : Core). a.tip) same)) r.low

pub ruleset take_items = (items_refused, items_followed, batch_above, batch_forgets, still_low, added_breaks, adding_breaks, longer_breaks)

-- ---- the place behind the items

pub has_items : (batch : Batch) (bytes : List ℕ) → IsBatch batch bytes → 1 ≤ length batch.items
has_items batch bytes is = is.fixed.first.second.second.second.second.some

pub few_items : (batch : Batch) (bytes : List ℕ) → IsBatch batch bytes → length batch.items ≤ 10000
few_items batch bytes is = is.fixed.first.second.second.second.second.few

-- on standby the committed end is the tip
pub ends_there : (e : Core) (batch : Batch) (end : ℤ) → IsReady e → e.leading ≡ None → batch.base ≡ e.committed → end ≡ end_of batch → end ≡ e.tip +ℤ pos (length batch.items)
ends_there e batch end r none at is = is ∙ ap (λ z. z +ℤ pos (length batch.items)) (at ∙ r.at_standby none)

-- ---- rows of refusals

pub row_refuses : (before after : Core) (items : List Item) (end : ℤ) (b : Bool) (reason : Reason) (rest : Option Reason) → b ≡ true → after ≡ refused_core before reason → SettlesItems before after items end (cond b (Some reason) rest)
row_refuses before after items end true reason rest is refuses = refuses
row_refuses before after items end false reason rest is refuses = absurd cc

pub row_passes : (before after : Core) (items : List Item) (end : ℤ) (b : Bool) (reason : Reason) (rest : Option Reason) → b ≡ false → SettlesItems before after items end rest → SettlesItems before after items end (cond b (Some reason) rest)
row_passes before after items end true reason rest is settles = absurd cc
row_passes before after items end false reason rest is settles = settles

pub ruleset taking_batch = (ends_there, row_refuses, row_passes)

settles_by : (before after : Core) (batch : Batch) (reason : Option Reason) → SettlesItems before after batch.items (end_of batch) reason → SettlesBatch before after (Ok batch) reason
settles_by before after batch None follows = follows
settles_by before after batch (Some reason) refuses = refuses

pub read_settles : (before after : Core) (read : Result Batch BatchFault) (batch : Batch) → read ≡ Ok batch → before.leading ≡ None → SettlesItems before after batch.items (end_of batch) (decoded_batch_reason before batch) → SettlesBatch before after read (batch_reason before read)
read_settles before after read batch is none settles =
    subst (λ (r : Result Batch BatchFault). SettlesBatch before after r (batch_reason before r)) (sym is)
    (subst (λ (l : Option ℤ). SettlesBatch before after (Ok batch) (cond (is_some l) (Some (already_leading l)) (decoded_batch_reason before batch))) (sym none) (settles_by before after batch (decoded_batch_reason before batch) settles))

pub ruleset settle_batch = (has_items, few_items, read_settles, same_breaks)

-- ---- the step

pub leads_not : (leading : Option ℤ) → leading ≡ None → IsSome leading → ⊥
leads_not leading none some = never (subst (λ (l : Option ℤ). IsSome l) none some)

module _ (e : Core) (bytes : List ℕ) (d : IsDrained e) where
  abbrev event : Event
  event = events.Batch bytes

  abbrev noted : Core
  noted = timed_core e event

  abbrev state_by : Result Batch BatchFault → State → State
  state_by (Ok batch) s = replicas.after_batch s batch
  state_by (Err fault) s = s

  -- ---- the reasons

  -- with the state at the tip
  abbrev reason_by : Core → LogState → ℕ → Batch → Option Reason
  reason_by c state place batch =
      cond (not (int_eq batch.base c.committed)) (Some (gap c.committed batch.base))
      (cond (is_far (end_of batch)) (Some (exhausted (end_of batch))) (items_reason (first_ill_at state place batch.items)))

  ill_so : (s : State) (batch : Batch) (o : Option (ℤ × Ill)) → unless_ill o (replicas.after_batch s batch) ≡ unless_refused (items_reason o) (replicas.after_batch s batch)
  ill_so s batch None = refl
  ill_so s batch (Some (place, cause)) = refl

  taken_so : (s : State) (batch : Batch) → take_batch s batch ≡ unless_refused (reason_by (core_of e s) (state_of_tip s) (tip_of s) batch) (replicas.after_batch s batch)
  taken_so s batch =
      row (not (int_eq batch.base (pos s.world.committed))) (gap (pos s.world.committed) batch.base) _ _ (replicas.after_batch s batch)
      (row (is_far (end_of batch)) (exhausted (end_of batch)) _ _ (replicas.after_batch s batch) (ill_so s batch (first_ill_at (state_of_tip s) (tip_of s) batch.items)))

  module _ (s : State) (writes : List Write) (k : IsEngine e s writes) where
    state_is : state_of_tip s ≡ tip_state e.images
    state_is = ap (λ (r : Result LogState Ill). result_unwrap_or r (closed empty)) (keeps_state e.images s.world.log (closed_of s.world) (weight_settled s.world.log s.world.committed) (s.world.covered ++ s.world.batch_ends) (tip_of s) (engine_keeps e s writes k))

    tip_is : tip_of s ≡ log_place e.tip
    tip_is = ap log_place (sym k.tip)

    reason_is : (batch : Batch) → reason_by (core_of e s) (state_of_tip s) (tip_of s) batch ≡ decoded_batch_reason noted batch
    reason_is batch =
        ap (λ (c : Core). reason_by c (state_of_tip s) (tip_of s) batch) (sym (is_core e s writes k))
        ∙ (ap (λ (state : LogState). reason_by e state (tip_of s) batch) state_is
        ∙ ap (λ n. reason_by e (tip_state e.images) n batch) tip_is)

    read_so : (read : Result Batch BatchFault) → and_then (batch_or read) (take_batch s) ≡ unless_refused (read_batch_reason noted read) (state_by read s)
    read_so (Ok batch) = taken_so s batch ∙ ap (λ r. unless_refused r (replicas.after_batch s batch)) (reason_is batch)
    read_so (Err fault) = refl

    judged : outcome e.options (at_time_of s event) event ≡ unless_refused (batch_reason noted (batch_of bytes)) (state_by (batch_of bytes) s)
    judged =
        row (is_some s.world.leading) (already_leading s.world.leading) _ _ (state_by (batch_of bytes) s) (read_so (batch_of bytes))
        ∙ ap (λ (l : Option ℤ). unless_refused (cond (is_some l) (Some (already_leading l)) (read_batch_reason noted (batch_of bytes))) (state_by (batch_of bytes) s)) (sym k.leading)

  -- ---- the engine behind the batch

  module _ (core : Core) (batch : Batch) (f : Follows noted core batch.items (end_of batch)) (s : State) (writes : List Write) (k : IsEngine e s writes) (none : e.leading ≡ None) (at : batch.base ≡ e.committed) (is_near : is_far (end_of batch) ≡ false) where
    abbrev after : State
    after = replicas.after_batch s batch

    standby : s.world.leading ≡ None
    standby = sym k.leading ∙ none

    abbrev far : Log
    far = log_with s.world.log batch.items

    abbrev last : ℕ
    last = tip_of s + length batch.items

    last_is : last ≡ tip far
    last_is = sym (tip_written s.world.log batch.items)

    behind_is : end_of batch ≡ pos last
    behind_is = ap (λ b. b +ℤ pos (length batch.items)) (at ∙ (k.committed ∙ ap pos (at_end e f.images batch.items s writes k standby f.takes f.some)))

    none_waits : writes ≡ []
    none_waits = no_writes e.leading e.closed e.held writes none k.waits

    closed_then : closed_behind f.images (end_of batch) ≡ pos (closed_of after.world)
    closed_then =
        ap (closed_behind f.images) (behind_is ∙ ap pos last_is)
        ∙ (closed_is e f.images batch.items s writes k standby f.takes f.some ∙ ap (λ n. pos (closed_end_at far n)) (sym last_is))

    state_after : IsState (with_next_number after) (filter (is_open_in after.world) (writes ++ []))
    state_after = record {
      valid = k.is_state.valid;
      started = (let low = k.is_state.started in let there = at_end e f.images batch.items s writes k standby f.takes f.some in omega (arith, low, there));
      settled = settled_by_batch s.world batch.items k.is_state.started k.is_state.settled (at_end e f.images batch.items s writes k standby f.takes f.some) f.some;
      ends = subst (λ ns. Rise last ns (tip far)) (sym (k.is_state.at_standby standby).0) last_is;
      begun = subst (λ ns. AllByRecursion (λ (n : ℕ). IfSome (open_at far n) (λ begin. begin < last)) ns) (sym (k.is_state.at_standby standby).0) tt;
      low = subst (λ n. n ≤ unsigned_abs PLACES_END) last_is (near last (ap is_far (sym behind_is) ∙ is_near));
      at_standby = λ _. k.is_state.at_standby standby;
      decided = λ leads. absurd (leads_not s.world.leading standby leads);
      hears = λ leads. absurd (leads_not s.world.leading standby leads);
      in_time = k.is_state.in_time;
      natural = k.is_state.natural;
      reached = (let P : Write → Type 0 = λ write. int_le write.need (pos (tip far)) ≡ true in
          subst (λ (ws : List Write). All P (filter (is_open_in after.world) (ws ++ []))) (sym none_waits) (All-nil P));
    }

    abbrev core_then : Core
    core_then = core_moved (core_with_entries (record noted { images = f.images }) (item_entries e.tip batch.items)) (end_of batch)

    -- what is kept, at the end as the world has it
    abbrev Kept : ℕ → Images → Type 0
    Kept n images = (images.kept ≡ map (kept_image far) (closed_end_at far n ∷ above (closed_end_at far n) (s.world.covered ++ n ∷ [])))
        × (images.kept_begun ≡ map (kept_begin far) (closed_end_at far n ∷ above (closed_end_at far n) (s.world.covered ++ n ∷ [])))
        × IsWeighed images far (closed_end_at far n) (weight_settled far n) (above (closed_end_at far n) (s.world.covered ++ n ∷ []))

    kept_then : Kept last core_then.images
    kept_then =
        subst (λ n. Kept n core_then.images) (sym last_is)
        (subst (λ z. Kept (tip far) (forgotten (marked f.images z) (closed_behind f.images z))) (sym (behind_is ∙ ap pos last_is))
        (images_kept e f.images batch.items s writes k standby f.takes f.some, begins_kept e f.images batch.items s writes k standby f.takes f.some, weighed_then e f.images batch.items s writes k standby f.takes f.some))

    -- the ends above the closed one
    ends_so : above (closed_of after.world) (s.world.covered ++ last ∷ []) ≡ after.world.covered ++ after.world.batch_ends
    ends_so = above_tested (closed_of after.world) (s.world.covered ++ last ∷ []) ∙ (sym (append-nil after.world.covered) ∙ ap (λ xs. after.world.covered ++ xs) (sym (k.is_state.at_standby standby).0))

    accepted_so : IsAccepted e e.options s writes event core_then after
    accepted_so = record {
      stands = record {
        tip = behind_is ∙ ap pos last_is;
        committed = behind_is;
        closed = closed_then;
        leading = k.leading;
        greatest = k.greatest;
        count = ap next_number k.count;
        time = k.time;
        led = k.led;
        heard_of = k.heard_of;
        present = (keeps e f.images batch.items s writes k standby f.takes f.some).present;
        kept = kept_then.0 ∙ ap (λ ns. map (kept_image far) (closed_of after.world ∷ ns)) ends_so;
        begun = (keeps e f.images batch.items s writes k standby f.takes f.some).begun;
        kept_begun = kept_then.1 ∙ ap (λ ns. map (kept_begin far) (closed_of after.world ∷ ns)) ends_so;
        weighed = subst (λ ns. IsWeighed core_then.images far (closed_of after.world) (weight_settled far last) ns) ends_so kept_then.2;
        waits = waits_then e s writes d k e.leading core_then.closed after.world k.leading closed_then;
        ordered = k.ordered;
        is_state = state_after;
      };
      outputs =
          ap (λ g. g ++ option_to_list e.refusal ++ answers e.leading core_then.closed e.held) d.none_given
          ∙ (ap (λ o. option_to_list o ++ answers e.leading core_then.closed e.held) d.none_refused
          ∙ answers_then e s writes d k e.leading core_then.closed after.world k.leading closed_then);
      held = held_then e s writes d k;
      fresh = ap (λ t. item_entries t batch.items) k.tip ∙ ap (item_entries (pos (tip_of s))) (sym (behind s.world.log batch.items));
    }

    accepted : IsAccepted e e.options s writes event core after
    accepted = subst (λ (c : Core). IsAccepted e e.options s writes event c after) (sym f.same) accepted_so

  accepted_by : (core : Core) (read : Result Batch BatchFault) → batch_reason noted read ≡ None → FollowsRead noted core read → (s : State) (writes : List Write) → IsEngine e s writes
      → IsAccepted e e.options s writes event core (state_by read s)
  accepted_by core (Ok batch) none f s writes k =
      let one = none_row (is_some e.leading) (already_leading e.leading) _ none in
      let two = none_row (not (int_eq batch.base e.committed)) (gap e.committed batch.base) _ one.1 in
      let three = none_row (is_far (end_of batch)) (exhausted (end_of batch)) _ two.1 in
      accepted core batch f s writes k (none_is e.leading one.0) (same_id batch.base e.committed (not_false (int_eq batch.base e.committed) two.0)) three.0
  accepted_by core (Err fault) none f s writes k = absurd f

  same_options : (core : Core) (read : Result Batch BatchFault) → FollowsRead noted core read → core.options ≡ e.options
  same_options core (Ok batch) f = ap (λ (c : Core). c.options) f.same
  same_options core (Err fault) f = absurd f

  settled : (core : Core) (reason : Option Reason) → batch_reason noted (batch_of bytes) ≡ reason → SettlesBatch noted core (batch_of bytes) reason → IsStep e (counted_core core) event
  settled core None is follows =
      accepted_step e event d core (same_options core (batch_of bytes) follows) (state_by (batch_of bytes))
      (λ s writes k. judged s writes k ∙ ap (λ r. unless_refused r (state_by (batch_of bytes) s)) is)
      (λ s writes k. accepted_by core (batch_of bytes) is follows s writes k)
  settled core (Some reason) is refuses =
      subst (λ (c : Core). IsStep e (counted_core c) event) (sym refuses)
      (refused_step e event reason d (λ s writes k. judged s writes k ∙ ap (λ r. unless_refused r (state_by (batch_of bytes) s)) is))

pub batch_step : (e begun between after : Core) (bytes : List ℕ) → outputs_left e ≡ [] → begun ≡ cleared_core e
    → SettlesBatch begun between (batch_of bytes) (batch_reason begun (batch_of bytes)) → after ≡ counted_core between → IsStep e after (events.Batch bytes)
batch_step e begun between stepped bytes none clears settles counts =
    subst (λ (a : Core). IsStep e a (events.Batch bytes)) (sym counts)
    (settled e bytes (drained e none) between (batch_reason (timed_core e (events.Batch bytes)) (batch_of bytes)) refl
    (subst (λ (c : Core). SettlesBatch c between (batch_of bytes) (batch_reason c (batch_of bytes))) clears settles))
