-- What a commit makes of an engine.
use Rattle.std.proofs.Common.{◌≡◌, ◌∙◌, ◌≤◌, ◌<◌, ◌+◌, ◌-◌, sym, subst, ℕ, ℤ, pos, negsuc, Bool, true, false, cond, List, [], ◌∷◌, ◌++◌, map, length, refl, ap, arith, inl, inr}
use Rattle.std.proofs.lemmas.Bool.Decides.{nat_tests}
use Rattle.std.specs.Prelude.{◌⊎◌, ◌&&◌, ◌||◌, Option, Some, None, Result, Ok, Err, IfSome, IsSome, not, filter, find, int_le, int_lt, is_some, nat_le, option_to_list, unsigned_abs, unwrap_or}
use Rattle.std.specs.List.{AllByRecursion, list_any}
use Rattle.std.specs.Option.{option_map, option_map_or}
use Rattle.std.specs.Ordering.{int_eq}
use Rattle.kr_calls.specs.declared.events.Event.{Event}
use Rattle.kr_calls.specs.declared.events.Reason.{Reason}
use Rattle.kr_calls.specs.declared.events.Event.TheVariants as events
use Rattle.kr_defs.specs.Image.{Image}
use Rattle.kr_defs.specs.Log.{Log, closed_end_at, open_at, tip}
use Rattle.kr_defs.proofs.IdLists.{same_id}
use Rattle.kr_defs.proofs.StateLogs.{if_some_then}
use Rattle.kr_defs.proofs.Tests.{not_false}
use Rattle.kr_store.specs.Images.{AreBegunFrom, begun_under, forgotten, kept_at}
use Rattle.kr_model.specs.declared.writes.Write.{Write}
use Rattle.kr_model.specs.Commit as commits
use Rattle.kr_model.specs.Commit.{commit, is_end}
use Rattle.kr_engine.specs.inner.Changes.{cleared_core, counted_core, refused_core_or}
use Rattle.kr_model.specs.Engine.{Core, IsEngine, IsSound, IsState, IsStep, Rise, kept_begin, kept_image, kept_places, outputs_left}
use Rattle.kr_engine.specs.inner.Commit.{CanCommit, commit_reason, core_after_commit, forgetting_steps, steps_unless}
use Rattle.kr_engine.specs.inner.Settled.{closed_at}
use Rattle.kr_model.specs.Entries.{item_entries}
use Rattle.kr_model.specs.Events.{with_next_number, next_number}
use Rattle.kr_model.specs.Weights.{IsWeighed, commit_steps, weight_below, weight_between, weight_settled}
use Rattle.kr_model.specs.World.{State, World, closed_of, leads_in, seen_at, tip_of}
use Rattle.kr_model.specs.Outputs.{answers, answers_in, is_open_in}
use Rattle.kr_model.specs.Reasons.{bad_commit, not_leading}
use Rattle.kr_model.proofs.CoveredEnds.{places_by_commit, settled_by_commit}
use Rattle.kr_model.proofs.EventOutcomes.{entries_accepted, outputs_accepted, refuses, stands_accepted, writes_accepted}
use Rattle.kr_model.proofs.KeptImages.{not_higher}
use Rattle.kr_model.proofs.LogEntries.{none_behind}
use Rattle.kr_model.proofs.Places.{Moves, is_kept, moves}
use Rattle.kr_model.proofs.Queues.{IsDrained, drained}
use Rattle.kr_model.proofs.SoundEngines.{stepped_sound}
use Rattle.kr_model.proofs.StandingEngines.{places_rise}
use Rattle.kr_model.proofs.Weights.{commit_bound, commit_weighed, weight_stays, weight_told, weight_up_to}
use Rattle.kr_engine.proofs.ClosedEnds.{begun_from, open_before}
use Rattle.kr_engine.proofs.FirstReasons.{none_row}
use Rattle.kr_engine.proofs.KeptPlaces.{above, above_tested, found_under, from_under, is_one, one_first}
use Rattle.kr_engine.proofs.KeptStates.{settled_high}
use Rattle.kr_engine.proofs.ReadyEngines.{closed_of_places}
use Rattle.kr_engine.proofs.Refusals.{refused_step}
use Rattle.kr_model.proofs.EventsWithoutWrites.{answers_then, fewer_wait, held_then, waits_then}

-- ---- the tests say the same of the engine and of the world

abbrev any_end : ℤ → List ℕ → Bool
any_end end ns = list_any (λ n. int_eq end (pos n)) ns

any_append : (end : ℤ) (xs ys : List ℕ) → any_end end (xs ++ ys) ≡ (any_end end xs || any_end end ys)
any_append end [] ys = refl
any_append end (x ∷ xs) ys = either (int_eq end (pos x)) (any_end end (xs ++ ys)) (any_end end xs) (any_end end ys) (any_append end xs ys)
  where
    either : (a b c d : Bool) → b ≡ (c || d) → (a || b) ≡ ((a || c) || d)
    either true b c d is = refl
    either false b c d is = is

isnt_higher : (end : ℤ) (c n : ℕ) → int_le (pos c) end ≡ false → c ≤ n → int_eq end (pos n) ≡ false
isnt_higher (pos e) c n below high = grind (arith, nat_tests)
isnt_higher (negsuc e) c n below high = refl

isnt_lower : (end : ℤ) (c n : ℕ) → int_le (pos c) end ≡ true → n < c → int_eq end (pos n) ≡ false
isnt_lower (pos e) c n above low = grind (arith, nat_tests)
isnt_lower (negsuc e) c n above low = refl

-- none of the ends is below the committed one
none_higher : (end : ℤ) (c from : ℕ) (ns : List ℕ) (to : ℕ) → int_le (pos c) end ≡ false → c ≤ from → Rise from ns to → any_end end ns ≡ false
none_higher end c from [] to below low rise = refl
none_higher end c from (n ∷ ns) to below low rise =
    let up = rise.0 in
    ap (λ b. b || any_end end ns) (isnt_higher end c n below (omega (arith, up, low))) ∙ none_higher end c n ns to below (omega (arith, up, low)) rise.1

-- of the covered ends the committed one alone isn't below it
covered_one : (end : ℤ) (from : ℕ) (ns : List ℕ) (c : ℕ) → int_le (pos c) end ≡ true → Rise from ns c → any_end end (from ∷ ns) ≡ int_eq end (pos c)
covered_one end from [] c above rise = ap (λ n. int_eq end (pos n) || false) rise ∙ or_false (int_eq end (pos c))
  where
    or_false : (b : Bool) → (b || false) ≡ b
    or_false true = refl
    or_false false = refl
covered_one end from (n ∷ ns) c above rise =
    let up = rise.0 in
    let high = not_higher n ns c rise.1 in
    ap (λ b. b || any_end end (n ∷ ns)) (isnt_lower end c from above (omega (arith, up, high))) ∙ covered_one end n ns c above rise.1

end_by : (b : Bool) (end : ℤ) (closed : ℕ) (covered : List ℕ) (c : ℕ) (ends : List ℕ) (to : ℕ) → int_le (pos c) end ≡ b → Rise closed covered c → Rise c ends to → (b && any_end end (closed ∷ (covered ++ ends))) ≡ (int_eq end (pos c) || any_end end ends)
end_by true end closed covered c ends to is settled rise = any_append end (closed ∷ covered) ends ∙ ap (λ b. b || any_end end ends) (covered_one end closed covered c is settled)
end_by false end closed covered c ends to is settled rise =
    sym (ap (λ b. b || any_end end ends) (isnt_higher end c c is (omega arith)) ∙ none_higher end c c ends to is (omega arith) rise)

module _ (e : Core) (s : State) (writes : List Write) (k : IsEngine e s writes) where
  pub same_leading : (epoch : ℤ) → leads_in s.world.leading epoch ≡ leads_in e.leading epoch
  same_leading epoch = ap (λ leading. leads_in leading epoch) (sym k.leading)

  kept_is : (end : ℤ) → is_some (kept_at e.images end) ≡ any_end end (kept_places s.world)
  kept_is end =
      ap (λ (kept : List (ℤ × Image)). is_some (kept_at (record e.images { kept = kept }) end)) k.kept
      ∙ is_kept s.world.log (kept_places s.world) end

  same_end : (end : ℤ) → is_end s.world end ≡ (int_le e.committed end && is_some (kept_at e.images end))
  same_end end =
      sym (ap (λ c. int_le c end && is_some (kept_at e.images end)) k.committed
      ∙ (ap (λ b. int_le (pos s.world.committed) end && b) (kept_is end)
      ∙ end_by (int_le (pos s.world.committed) end) end (closed_of s.world) s.world.covered s.world.committed s.world.batch_ends (tip_of s) refl k.is_state.settled k.is_state.ends))

-- ---- the closed end behind a commit

both_true : (a b : Bool) → (a && b) ≡ true → (a ≡ true) × (b ≡ true)
both_true true true is = (refl, refl)
both_true true false is = absurd cc
both_true false b is = absurd cc

begun_at_one : (P : ℕ → Type 0) (n : ℕ) (ns : List ℕ) → is_one n ns ≡ true → AllByRecursion P ns → P n
begun_at_one P n [] is all = absurd cc
begun_at_one P n (m ∷ ns) is all =
    elim (int_eq (pos n) (pos m)) as (λ b. int_eq (pos n) (pos m) ≡ b → (b || is_one n ns) ≡ true → P n) [
      | true ↦ λ same _. subst P (sym (ap unsigned_abs (same_id (pos n) (pos m) same))) all.0
      | false ↦ λ other is. begun_at_one P n ns is all.1
    ] refl is

-- what is open there: nothing, or what is open at the committed end
abbrev pub OpensAs : Log → ℕ → ℕ → Type 0
OpensAs log committed end = (open_at log end ≡ None) ⊎ ((begin : ℕ) × (open_at log end ≡ Some begin) × (open_at log committed ≡ Some begin))

opens_by : (log : Log) (committed end : ℕ) (o : Option ℕ) → open_at log end ≡ o → log.offset ≤ committed → committed ≤ end → end ≤ tip log → IfSome o (λ begin. begin < committed) → OpensAs log committed end
opens_by log committed end None is start up low below = inl is
opens_by log committed end (Some begin) is start up low below = inr (begin, is, open_before log committed end begin start up low is below)

itself_opens : (log : Log) (n : ℕ) (o : Option ℕ) → open_at log n ≡ o → OpensAs log n n
itself_opens log n None is = inl is
itself_opens log n (Some begin) is = inr (begin, is, is)

module _ (e : Core) (end : ℤ) (s : State) (writes : List Write) (k : IsEngine e s writes) (kept : (int_le e.committed end && is_some (kept_at e.images end)) ≡ true) where
  abbrev log : Log
  log = s.world.log

  abbrev committed : ℕ
  committed = s.world.committed

  abbrev ends : List ℕ
  ends = s.world.covered ++ s.world.batch_ends

  abbrev u : ℕ
  u = unsigned_abs end

  -- the closed end behind it
  abbrev c : ℕ
  c = closed_end_at log u

  abbrev after : World
  after = (commits.after_commit s end).world

  is : is_end s.world end ≡ true
  is = same_end e s writes k end ∙ kept

  moved : Moves log committed s.world.batch_ends (tip_of s) end
  moved = moves log (tip_of s) committed s.world.batch_ends end k.is_state.ends is

  low : u ≤ tip_of s
  low = not_higher u (filter (λ n. int_lt end (pos n)) s.world.batch_ends) (tip_of s) moved.rise

  start : log.offset ≤ u
  start = let first = k.is_state.started in let up = moved.above in omega (arith, first, up)

  rise : Rise (closed_of s.world) ends (tip_of s)
  rise = places_rise e s writes k

  one_end : is_one u (closed_of s.world ∷ ends) ≡ true
  one_end = ap (λ z. any_end z (kept_places s.world)) (sym moved.natural) ∙ (sym (kept_is e s writes k end) ∙ (both_true (int_le e.committed end) (is_some (kept_at e.images end)) kept).1)

  opens : OpensAs log committed u
  opens =
      elim (int_eq end (pos committed)) as (λ b. int_eq end (pos committed) ≡ b → (b || any_end end s.world.batch_ends) ≡ true → OpensAs log committed u) [
        | true ↦ λ same _. subst (OpensAs log committed) (sym (ap unsigned_abs (same_id end (pos committed) same))) (itself_opens log committed (open_at log committed) refl)
        | false ↦ λ other one.
            opens_by log committed u (open_at log u) refl k.is_state.started moved.above low
            (begun_at_one (λ n. IfSome (open_at log n) (λ begin. begin < committed)) u s.world.batch_ends (ap (λ z. any_end z s.world.batch_ends) (sym moved.natural) ∙ one) k.is_state.begun)
      ] refl is

  -- the closed end is one of the kept places
  one_closed : is_one c (closed_of s.world ∷ ends) ≡ true
  one_closed = by opens
    where
      by : OpensAs log committed u → is_one c (closed_of s.world ∷ ends) ≡ true
      by (inl none) = subst (λ o. is_one (unwrap_or o u) (closed_of s.world ∷ ends) ≡ true) (sym none) one_end
      by (inr (begin, there, before)) =
          ap (λ o. is_one (unwrap_or o u) (closed_of s.world ∷ ends)) there
          ∙ (ap (λ o. is_one begin (unwrap_or o committed ∷ ends)) before ∙ one_first begin ends)

  closed_is : closed_at e.images end ≡ pos c
  closed_is =
      ap (closed_at e.images) moved.natural
      ∙ (ap (λ (bs : List (ℤ × Option ℤ)). unwrap_or (begun_under (find (λ (b : ℤ × Option ℤ). int_eq b.0 (pos u)) bs)) (pos u)) k.kept_begun
      ∙ (ap (λ o. unwrap_or (begun_under o) (pos u)) (found_under (λ n. option_map (λ (m : ℕ). pos m) (open_at log n)) u (closed_of s.world ∷ ends) one_end)
      ∙ closed_of_places (open_at log u) u))

  begun_behind : AreBegunFrom e.images (closed_at e.images end)
  begun_behind = subst (λ z. AreBegunFrom e.images z) (sym closed_is) (begun_from e.images log e.images.tip u (closed_of s.world) ends k.present start low rise k.begun k.kept_begun)

  places : above c ends ≡ after.covered ++ after.batch_ends
  places = above_tested c ends ∙ places_by_commit s end k.is_state.started k.is_state.settled k.is_state.ends is

  images_kept : (forgotten e.images (closed_at e.images end)).kept ≡ map (kept_image log) (kept_places after)
  images_kept =
      ap (λ z. filter (λ (i : ℤ × Image). not (int_lt i.0 z)) e.images.kept) closed_is
      ∙ (ap (λ (ks : List (ℤ × Image)). filter (λ (i : ℤ × Image). not (int_lt i.0 (pos c))) ks) k.kept
      ∙ (from_under (seen_at log) log c (closed_of s.world) ends (tip_of s) rise one_closed
      ∙ ap (λ ns. map (kept_image log) (c ∷ ns)) places))

  begins_kept : (forgotten e.images (closed_at e.images end)).kept_begun ≡ map (kept_begin log) (kept_places after)
  begins_kept =
      ap (λ z. filter (λ (b : ℤ × Option ℤ). not (int_lt b.0 z)) e.images.kept_begun) closed_is
      ∙ (ap (λ (bs : List (ℤ × Option ℤ)). filter (λ (b : ℤ × Option ℤ). not (int_lt b.0 (pos c))) bs) k.kept_begun
      ∙ (from_under (λ n. option_map (λ (m : ℕ). pos m) (open_at log n)) log c (closed_of s.world) ends (tip_of s) rise one_closed
      ∙ ap (λ ns. map (kept_begin log) (c ∷ ns)) places))

  -- ---- the weights

  abbrev before : ℕ
  before = weight_settled log committed

  abbrev weight : ℕ
  weight = weight_up_to e.images log (closed_of s.world) before ends (tip_of s) (pos c) k.weighed rise one_closed

  settled_weight : (o : Option ℕ) (n : ℕ) → open_at log n ≡ o → weight_settled log n ≡ option_map_or (λ (begin : ℕ). weight_below log (begin + 1)) o (weight_below log n)
  settled_weight o n there = ap (λ o. option_map_or (λ (begin : ℕ). weight_below log (begin + 1)) o (weight_below log n)) there

  weight_is : weight ≡ weight_settled log u
  weight_is = by opens
    where
      both_ends : (a b d : ℕ) → a ≡ d → a ≤ b → b ≤ d → b ≡ d
      both_ends a b d same le up = omega (arith, same, le, up)

      by : OpensAs log committed u → weight ≡ weight_settled log u
      by (inl none) =
          let at : c ≡ u = ap (λ o. unwrap_or o u) none in
          weight_told e.images log (closed_of s.world) before ends (tip_of s) (pos c) k.weighed rise one_closed
          (λ same.
          let first : closed_of s.world ≡ u = sym (ap unsigned_abs same) ∙ at in
          let up = moved.above in
          let under = not_higher (closed_of s.world) s.world.covered committed k.is_state.settled in
          let here : committed ≡ u = both_ends (closed_of s.world) committed u first under up in
          ap (weight_settled log) here ∙ (settled_weight None u none ∙ ap (weight_below log) (sym first)))
          ∙ (ap (weight_below log) at ∙ sym (settled_weight None u none))
      by (inr (begin, there, before_there)) =
          let at : pos c ≡ pos (closed_of s.world) = ap (λ o. pos (unwrap_or o u)) there ∙ sym (ap (λ o. pos (unwrap_or o committed)) before_there) in
          weight_stays e.images log (closed_of s.world) before ends (tip_of s) (pos c) k.weighed rise one_closed at
          ∙ (settled_weight (Some begin) committed before_there ∙ sym (settled_weight (Some begin) u there))

  weighed_then : IsWeighed (forgotten e.images (closed_at e.images end)) log (closed_of after) (weight_settled log after.committed) (after.covered ++ after.batch_ends)
  weighed_then =
      subst (λ z. IsWeighed (forgotten e.images z) log c (weight_settled log u) (after.covered ++ after.batch_ends)) (sym closed_is)
      (subst (λ ns. IsWeighed (forgotten e.images (pos c)) log c (weight_settled log u) ns) places
      (subst (λ b. IsWeighed (forgotten e.images (pos c)) log c b (above c ends)) weight_is
      (commit_weighed e.images log (closed_of s.world) before ends (tip_of s) (pos c) k.weighed rise one_closed)))

  -- what is newly settled weighs at most so much
  weight_few : weight - before ≤ weight_between log (closed_of s.world) c
  weight_few = by opens
    where
      by : OpensAs log committed u → weight - before ≤ weight_between log (closed_of s.world) c
      by (inl none) =
          let at : weight_below log c ≡ weight_settled log u = ap (λ o. weight_below log (unwrap_or o u)) none ∙ sym (settled_weight None u none) in
          let told = weight_is in
          let least = settled_high log committed in
          omega (arith, at, told, least)
      by (inr (begin, there, before_there)) =
          let same : weight ≡ before = weight_is ∙ (settled_weight (Some begin) u there ∙ sym (settled_weight (Some begin) committed before_there)) in
          omega (arith, same)

  same_tests : (ns : List ℕ) → filter (λ n. not (int_lt (pos c) (pos n))) ns ≡ filter (λ n. nat_le n c) ns
  same_tests [] = refl
  same_tests (n ∷ ns) =
      ap (λ b. cond b (n ∷ filter (λ n. not (int_lt (pos c) (pos n))) ns) (filter (λ n. not (int_lt (pos c) (pos n))) ns)) (le_so c n)
      ∙ ap (λ rest. cond (nat_le n c) (n ∷ rest) rest) (same_tests ns)
    where
      le_so : (c n : ℕ) → not (int_lt (pos c) (pos n)) ≡ nat_le n c
      le_so c n = grind (arith, nat_tests)

  steps_within : (first steps : ℕ) → steps ≤ first + forgetting_steps e.images (closed_at e.images end) → steps ≤ first + commit_steps s end
  steps_within first steps bound =
      let there : steps ≤ first + forgetting_steps e.images (pos c) = subst (λ z. steps ≤ first + forgetting_steps e.images z) closed_is bound in
      let within = commit_bound e.images log (closed_of s.world) before ends (tip_of s) (pos c) k.weighed rise one_closed first steps (omega (arith, there)) in
      let few = weight_few in
      let many : length (filter (λ n. not (int_lt (pos c) (pos n))) ends) ≡ length (filter (λ n. nat_le n c) ends) = ap (λ (ns : List ℕ). length ns) (same_tests ends) in
      omega (arith, within, few, many)

-- ---- the state behind a commit

still_below : (log : Log) (low high : ℕ) (p : ℕ → Bool) (ns : List ℕ) → low ≤ high → AllByRecursion (λ n. IfSome (open_at log n) (λ begin. begin < low)) ns → AllByRecursion (λ n. IfSome (open_at log n) (λ begin. begin < high)) (filter p ns)
still_below log low high p [] le all = tt
still_below log low high p (n ∷ ns) le all =
    elim (p n) as (λ b. AllByRecursion (λ n. IfSome (open_at log n) (λ begin. begin < high)) (cond b (n ∷ filter p ns) (filter p ns))) [
      | true ↦ (if_some_then (λ begin. begin < low) (λ begin. begin < high) (open_at log n) (λ begin below. omega (arith, below, le)) all.0, still_below log low high p ns le all.1)
      | false ↦ still_below log low high p ns le all.1
    ]

module _ (s : State) (writes : List Write) (epoch end : ℤ) (k : IsState s writes) (led : leads_in s.world.leading epoch ≡ true) (is : is_end s.world end ≡ true) (m : Moves s.world.log s.world.committed s.world.batch_ends (tip_of s) end) where
  none_leads : s.world.leading ≡ None → ⊥
  none_leads none = let both : false ≡ true = ap (λ leading. leads_in leading epoch) (sym none) ∙ led in cc

  committed_state : IsState (with_next_number (commits.after_commit s end)) (filter (is_open_in (commits.after_commit s end).world) (writes ++ []))
  committed_state = record {
    valid = k.valid;
    started = (let low = k.started in let high = m.above in omega (arith, low, high));
    settled = settled_by_commit s end k.started k.settled k.ends is;
    ends = m.rise;
    begun = still_below s.world.log s.world.committed (unsigned_abs end) (λ n. int_lt end (pos n)) s.world.batch_ends m.above k.begun;
    low = k.low;
    at_standby = λ none. absurd (none_leads none);
    decided = k.decided;
    hears = k.hears;
    in_time = k.in_time;
    natural = k.natural;
    reached = fewer_wait (is_open_in (commits.after_commit s end).world) (λ write. int_le write.need (pos (tip_of s)) ≡ true) writes k.reached;
  }

-- ---- the step

module _ (e : Core) (epoch end : ℤ) (d : IsDrained e) where
  abbrev event : Event
  event = events.Commit epoch end

  abbrev then_core : Core
  then_core = counted_core (core_after_commit (cleared_core e) end)

  -- an image is kept under the end, which isn't below the committed one
  abbrev is_kept_end : Bool
  is_kept_end = int_le e.committed end && is_some (kept_at e.images end)

  -- the commit of a state
  abbrev judged : Bool → Bool → State → Result State Reason
  judged b c s = cond (not b) (Err (not_leading epoch s.world.leading)) (cond (not c) (Err (bad_commit end (pos s.world.committed) (pos (tip_of s)))) (Ok (commits.after_commit s end)))

  module _ (b c : Bool) (leads : leads_in e.leading epoch ≡ b) (kept : is_kept_end ≡ c) where
    judged_so : (s : State) (writes : List Write) → IsEngine e s writes → commit s epoch end ≡ judged b c s
    judged_so s writes k =
        ap (λ (x : Bool). judged x (is_end s.world end) s) (same_leading e s writes k epoch ∙ leads)
        ∙ ap (λ (x : Bool). judged b x s) (same_end e s writes k end ∙ kept)

  module _ (leads : leads_in e.leading epoch ≡ true) (kept : is_kept_end ≡ true) where
    module _ (s : State) (writes : List Write) (k : IsEngine e s writes) where
      stands : IsEngine then_core (with_next_number (commits.after_commit s end)) (filter (is_open_in (commits.after_commit s end).world) (writes ++ []))
      stands = record {
        tip = k.tip;
        committed = (moved e end s writes k kept).natural;
        closed = closed_is e end s writes k kept;
        leading = k.leading;
        greatest = k.greatest;
        count = ap next_number k.count;
        time = k.time;
        led = k.led;
        heard_of = k.heard_of;
        present = k.present;
        kept = images_kept e end s writes k kept;
        begun = k.begun;
        kept_begun = begins_kept e end s writes k kept;
        weighed = weighed_then e end s writes k kept;
        waits = waits_then e s writes d k e.leading (closed_at e.images end) (commits.after_commit s end).world k.leading (closed_is e end s writes k kept);
        ordered = k.ordered;
        is_state = committed_state s writes epoch end k.is_state (same_leading e s writes k epoch ∙ leads) (same_end e s writes k end ∙ kept) (moved e end s writes k kept);
      }

      left_then : outputs_left then_core ≡ answers_in (commits.after_commit s end).world (writes ++ [])
      left_then =
          ap (λ g. g ++ option_to_list e.refusal ++ answers e.leading (closed_at e.images end) e.held) d.none_given
          ∙ (ap (λ o. option_to_list o ++ answers e.leading (closed_at e.images end) e.held) d.none_refused
          ∙ answers_then e s writes d k e.leading (closed_at e.images end) (commits.after_commit s end).world k.leading (closed_is e end s writes k kept))

    accepted_step : IsStep e then_core event
    accepted_step = record {
      options = refl;
      stands = λ s writes k. stands_accepted then_core e.options s writes event (commits.after_commit s end) (judged_so true true leads kept s writes k) (stands s writes k);
      outputs = λ s writes k. left_then s writes k ∙ sym (outputs_accepted e e.options s writes event (commits.after_commit s end) (judged_so true true leads kept s writes k));
      held = λ s writes k. held_then e s writes d k ∙ ap (λ ws. writes ++ ws) (sym (writes_accepted e e.options s writes event (commits.after_commit s end) (judged_so true true leads kept s writes k)));
      fresh = λ s writes k.
          ap (item_entries (pos (tip_of s))) (sym (none_behind s.world.log))
          ∙ sym (entries_accepted e e.options s writes event (commits.after_commit s end) (judged_so true true leads kept s writes k));
    }

  same_reason : (s : State) (writes : List Write) → IsEngine e s writes → refuses (not_leading epoch s.world.leading) ≡ refuses (not_leading epoch e.leading)
  same_reason s writes k = ap (λ leading. refuses (not_leading epoch leading)) (sym k.leading)

  same_bounds : (s : State) (writes : List Write) → IsEngine e s writes → refuses (bad_commit end (pos s.world.committed) (pos (tip_of s))) ≡ refuses (bad_commit end e.committed e.tip)
  same_bounds s writes k = ap (λ c. refuses (bad_commit end c (pos (tip_of s)))) (sym k.committed) ∙ ap (λ t. refuses (bad_commit end e.committed t)) (sym k.tip)

  step_by : (b c : Bool) → leads_in e.leading epoch ≡ b → is_kept_end ≡ c
      → IsStep e (counted_core (refused_core_or (cleared_core e) (cond (not b) (Some (not_leading epoch e.leading)) (cond (not c) (Some (bad_commit end e.committed e.tip)) None)) (core_after_commit (cleared_core e) end))) event
  step_by false c leads kept = refused_step e event (not_leading epoch e.leading) d (λ s writes k. judged_so false c leads kept s writes k ∙ same_reason s writes k)
  step_by true false leads kept = refused_step e event (bad_commit end e.committed e.tip) d (λ s writes k. judged_so true false leads kept s writes k ∙ same_bounds s writes k)
  step_by true true leads kept = accepted_step leads kept

pub commit_step : (e : Core) (epoch end : ℤ) → outputs_left e ≡ [] → IsStep e (counted_core (refused_core_or (cleared_core e) (commit_reason (cleared_core e) epoch end) (core_after_commit (cleared_core e) end))) (events.Commit epoch end)
commit_step e epoch end none = step_by e epoch end (drained e none) (leads_in e.leading epoch) (int_le e.committed end && is_some (kept_at e.images end)) refl refl

pub commit_sound : (e : Core) (epoch end : ℤ) → outputs_left e ≡ [] → IsSound e → IsSound (counted_core (refused_core_or (cleared_core e) (commit_reason (cleared_core e) epoch end) (core_after_commit (cleared_core e) end)))
commit_sound e epoch end none sound = stepped_sound e _ (events.Commit epoch end) (commit_step e epoch end none) sound

-- what may be forgotten
pub can_commit : (e : Core) (epoch end : ℤ) → IsSound e → commit_reason (cleared_core e) epoch end ≡ None → CanCommit e.images end
can_commit e epoch end sound none =
    let one = none_row (not (leads_in e.leading epoch)) (not_leading epoch e.leading) _ none in
    let two = none_row (not (int_le e.committed end && is_some (kept_at e.images end))) (bad_commit end e.committed e.tip) None one.1 in
    let kept : (int_le e.committed end && is_some (kept_at e.images end)) ≡ true = not_false (int_le e.committed end && is_some (kept_at e.images end)) two.0 in
    record {
      kept = some_of (kept_at e.images end) (both_true (int_le e.committed end) (is_some (kept_at e.images end)) kept).1;
      begun = begun_behind e end sound.state sound.writes sound.stands kept;
    }
  where
    some_of : {X : Type 0} (o : Option X) → is_some o ≡ true → IsSome o
    some_of None is = absurd cc
    some_of {X} (Some x) is = refl

-- ---- the steps

module _ (e : Core) (epoch end : ℤ) (first steps : ℕ) (s : State) (writes : List Write) (k : IsEngine e s writes) where
  within_by : (b c : Bool) → (int_le e.committed end && is_some (kept_at e.images end)) ≡ c
      → steps ≤ first + steps_unless (cond (not b) (Some (not_leading epoch e.leading)) (cond (not c) (Some (bad_commit end e.committed e.tip)) None)) (forgetting_steps e.images (closed_at e.images end))
      → steps ≤ first + commit_steps s end
  within_by false c is bound = omega (arith, bound)
  within_by true false is bound = omega (arith, bound)
  within_by true true is bound = steps_within e end s writes k is first steps bound

pub commit_within : (e : Core) (epoch end : ℤ) (first steps : ℕ) → steps ≤ first + steps_unless (commit_reason (cleared_core e) epoch end) (forgetting_steps e.images (closed_at e.images end))
    → (s : State) (writes : List Write) → IsEngine e s writes → steps ≤ first + commit_steps s end
commit_within e epoch end first steps bound s writes k = within_by e epoch end first steps s writes k (leads_in e.leading epoch) (int_le e.committed end && is_some (kept_at e.images end)) refl bound
