-- What an engine's images keep of a log that gets longer, item by item.
use Rattle.std.proofs.Common.{◌≡◌, ◌∙◌, sym, subst, ℕ, zero, suc, ℤ, pos, negsuc, Bool, true, false, cond, not, ◌+◌, ◌≤◌, ◌<◌, List, [], ◌∷◌, ◌++◌, map, filter, length, refl, ap, arith, inl, inr}
use Rattle.std.proofs.lemmas.List.{append-nil, append_assoc, length-append, map-append}
use Rattle.std.proofs.lemmas.List.Elements.{filter-append}
use Rattle.std.proofs.lemmas.List.Sums.{sum_by-append, sum_by-cons}
use Rattle.std.proofs.lemmas.Bool.Decides.{nat_tests}
use Rattle.std.specs.Prelude.{◌⊎◌, ◌+ℤ◌, Option, Some, None, Result, Ok, Err, IfSome, IsSome, find, int_lt, is_some, unwrap_or, sum_by, unsigned_abs}
use Rattle.std.specs.List.{AllByRecursion}
use Rattle.std.specs.Option.{option_map, option_map_or}
use Rattle.std.specs.Ordering.{int_eq}
use Rattle.std.specs.Result.{result_unwrap_or}
use Rattle.kr_calls.specs.Deciding.{apply_records, weights}
use Rattle.kr_defs.specs.declared.ill.Ill.{Ill}
use Rattle.kr_defs.specs.declared.ill.Ill.TheVariants.{BadTransaction}
use Rattle.kr_defs.specs.declared.record.Item.{Item}
use Rattle.kr_defs.specs.declared.record.Item.TheVariants as items
use Rattle.kr_defs.specs.declared.record.Record.{Record}
use Rattle.kr_defs.specs.declared.record.Record.TheVariants as kinds
use Rattle.kr_defs.specs.Apply.{apply}
use Rattle.kr_defs.specs.Guard.{and_then}
use Rattle.kr_defs.specs.Image.{Image, empty}
use Rattle.kr_defs.specs.ImageLaws.{as_items}
use Rattle.kr_defs.specs.Log.{Log, apply_all, closed_end_at, image_at, open_at, state_at, tip}
use Rattle.kr_defs.specs.LogStates.{LogState, Opened, apply_all_at, apply_at, closed, open_behind}
use Rattle.kr_defs.specs.Weight.{weight}
use Rattle.kr_defs.proofs.StateLogs.{closed_end_stays, closed_end_between, open_told}
use Rattle.kr_store.specs.Images.{Images, AreValid, above, calls_of, kept_at, log_place, marked, opened_at, tip_state}
use Rattle.kr_store.specs.ItemAnswers.{KeepsEpochs, calls_at, calls_to_undo, made_at, with_begin, with_epoch}
use Rattle.kr_model.specs.declared.writes.Write.{Write}
use Rattle.kr_model.specs.Engine.{Core, IsEngine, Rise, kept_begin, kept_image}
use Rattle.kr_model.specs.Weights.{AreWeighed, IsWeighed, item_weights, since_begin, weight_behind, weight_below, weight_of_state, weight_settled}
use Rattle.kr_model.specs.World.{State, closed_of, log_with, seen_at, tip_of}
use Rattle.kr_model.proofs.KeptImages.{not_higher}
use Rattle.kr_model.proofs.Logs.{HasState, as_records, image_there, open_still, open_written, open_written_below, state_seen, state_written, tip_written, written_at_tip, written_below}
use Rattle.kr_model.proofs.LongerLogs.{rise_more}
use Rattle.kr_model.proofs.Places.{is_below, isnt_below}
use Rattle.kr_model.proofs.Queues.{never}
use Rattle.kr_model.proofs.StandingEngines.{places_rise, rises, tip_only}
use Rattle.kr_model.proofs.TransactionWeights.{UndoesWithin, begun_below, item_counts, undo_within, undoes_from_first, undoes_more, undoes_none}
use Rattle.kr_model.proofs.Weights.{since_at, weight_at_tip, weight_longer, weights_of_records, weights_rise}
use Rattle.kr_engine.specs.inner.Batch.{TakesItem, TakesItems}
use Rattle.kr_engine.proofs.ClosedEnds.{state_kept}
use Rattle.kr_engine.proofs.KeptPlaces.{found_under, is_one, last_under, one_before, one_behind, one_first, one_last, same_under, under}

abbrev pub place_of : Option ℕ → Option ℤ
place_of opened = option_map (λ (n : ℕ). pos n) opened

-- ---- what is kept

-- what weighs up to the last kept place
abbrev base : Log → ℕ → List ℕ → ℕ
base log before [] = before
base log before (n ∷ ns) = base log (weight_below log n) ns

-- images keep these places of a log, the present one is that of its tip
pub record Keeps (images : Images) (log : Log) (first before : ℕ) (ends : List ℕ) (last : ℕ) : Type 0 where
  pub present : image_at log (tip log) ≡ Ok images.tip
  pub begun : images.begun ≡ place_of (open_at log (tip log))
  pub kept : images.kept ≡ map (kept_image log) (first ∷ ends)
  pub kept_begun : images.kept_begun ≡ map (kept_begin log) (first ∷ ends)
  -- where the open transaction began
  pub there : (begin : ℕ) → open_at log (tip log) ≡ Some begin → is_one begin (first ∷ ends) ≡ true
  pub rise : Rise first ends last
  pub low : last ≤ tip log
  pub rest : List (ℤ × ℕ)
  pub counted : images.kept_made ≡ (pos first, 0) ∷ rest
  pub each : AreWeighed log before ends rest
  pub made : images.made + base log before ends ≤ weight_below log (tip log)
  pub least : weight_below log first ≤ before
  pub undoes : UndoesWithin images log

-- the image that is kept at a place of them
kept_there : (images : Images) (log : Log) (first before : ℕ) (ends : List ℕ) (last : ℕ) → Keeps images log first before ends last → (n : ℕ) → is_one n (first ∷ ends) ≡ true → kept_at images (pos n) ≡ Some (seen_at log n)
kept_there images log first before ends last k n is =
    ap (λ (ks : List (ℤ × Image)). option_map (λ (i : ℤ × Image). i.1) (find (λ (i : ℤ × Image). int_eq i.0 (pos n)) ks)) k.kept
    ∙ ap (option_map (λ (i : ℤ × Image). i.1)) (found_under (seen_at log) n (first ∷ ends) is)

pub keeps_state : (images : Images) (log : Log) (first before : ℕ) (ends : List ℕ) (last : ℕ) → Keeps images log first before ends last → state_at log (tip log) ≡ Ok (tip_state images)
keeps_state images log first before ends last k =
    state_kept images log (tip log) k.present k.begun (λ begin unclosed. kept_there images log first before ends last k begin (k.there begin unclosed))

-- ---- weights up to the last kept place

base_low : (log : Log) (first before : ℕ) (ends : List ℕ) (to : ℕ) → Rise first ends to → (ends ≡ [] → before ≤ weight_below log to) → base log before ends ≤ weight_below log to
base_low log first before [] to rise start = start refl
base_low log first before (n ∷ ns) to rise start =
    base_low log n (weight_below log n) ns to rise.1 (λ none. weights_rise log n to (not_higher n ns to rise.1))

base_high : (log : Log) (first before : ℕ) (ends : List ℕ) (last : ℕ) → Rise first ends last → weight_below log first ≤ before → weight_below log last ≤ base log before ends
base_high log first before [] last rise least = subst (λ n. weight_below log n ≤ before) rise least
base_high log first before (n ∷ ns) last rise least = base_high log n (weight_below log n) ns last rise.1 (omega arith)

base_longer : (log : Log) (more : List Item) (first before : ℕ) (ends : List ℕ) (last : ℕ) → Rise first ends last → last ≤ tip log → base (log_with log more) before ends ≡ base log before ends
base_longer log more first before [] last rise low = refl
base_longer log more first before (n ∷ ns) last rise low =
    let high = not_higher n ns last rise.1 in
    ap (λ b. base (log_with log more) b ns) (weight_longer log more n (omega (arith, high, low))) ∙ base_longer log more n (weight_below log n) ns last rise.1 low

base_more : (log : Log) (before : ℕ) (ends : List ℕ) (n : ℕ) → base log before (ends ++ n ∷ []) ≡ weight_below log n
base_more log before [] n = refl
base_more log before (m ∷ ms) n = base_more log (weight_below log m) ms n

weighed_longer : (log : Log) (more : List Item) (first before : ℕ) (ends : List ℕ) (last : ℕ) (ms : List (ℤ × ℕ)) → Rise first ends last → last ≤ tip log → AreWeighed log before ends ms → AreWeighed (log_with log more) before ends ms
weighed_longer log more first before [] last [] rise low are = tt
weighed_longer log more first before [] last (m ∷ ms) rise low are = absurd are
weighed_longer log more first before (n ∷ ns) last [] rise low are = absurd are
weighed_longer log more first before (n ∷ ns) last (m ∷ ms) rise low are =
    let high = not_higher n ns last rise.1 in
    let same : weight_below (log_with log more) n ≡ weight_below log n = weight_longer log more n (omega (arith, high, low)) in
    let here : m.1 + before ≤ weight_below log n = are.1 in
    (are.0, omega (arith, here, same), subst (λ b. AreWeighed (log_with log more) b ns ms) (sym same) (weighed_longer log more n (weight_below log n) ns last ms rise.1 low are.2))

weighed_added : (log : Log) (before : ℕ) (ends : List ℕ) (ms : List (ℤ × ℕ)) (n made : ℕ) → AreWeighed log before ends ms → made + base log before ends ≤ weight_below log n → AreWeighed log before (ends ++ n ∷ []) (ms ++ (pos n, made) ∷ [])
weighed_added log before [] [] n made are few = (refl, few, tt)
weighed_added log before [] (m ∷ ms) n made are few = absurd are
weighed_added log before (k ∷ ks) [] n made are few = absurd are
weighed_added log before (k ∷ ks) (m ∷ ms) n made are few = (are.0, are.1, weighed_added log (weight_below log k) ks ms n made are.2 few)

-- nothing is counted above the last kept place
none_counted : (log : Log) (first before : ℕ) (ends : List ℕ) (last : ℕ) (ms : List (ℤ × ℕ)) (c : ℕ) → Rise first ends last → last ≤ c → AreWeighed log before ends ms → filter (λ (m : ℤ × ℕ). int_lt (pos c) m.0) ms ≡ []
none_counted log first before [] last [] c rise low are = refl
none_counted log first before [] last (m ∷ ms) c rise low are = absurd are
none_counted log first before (n ∷ ns) last [] c rise low are = absurd are
none_counted log first before (n ∷ ns) last (m ∷ ms) c rise low are =
    let rest : List (ℤ × ℕ) = filter (λ (m : ℤ × ℕ). int_lt (pos c) m.0) ms in
    let high = not_higher n ns last rise.1 in
    ap (λ b. cond b (m ∷ rest) rest) (ap (λ z. int_lt (pos c) z) are.0 ∙ isnt_below c n (omega (arith, high, low)))
    ∙ none_counted log n (weight_below log n) ns last ms c rise.1 low are.2

-- ---- lists under a longer log

module _ (log : Log) (more : List Item) where
  abbrev longer : Log
  longer = log_with log more

  seen_still : (n : ℕ) → n ≤ tip log → seen_at longer n ≡ seen_at log n
  seen_still n low = ap (λ (r : Result Image Ill). result_unwrap_or r empty) (written_below log more n low)

  open_still_there : (n : ℕ) → n ≤ tip log → place_of (open_at longer n) ≡ place_of (open_at log n)
  open_still_there n low = ap place_of (open_written_below log more n low)

  images_still : (first : ℕ) (ends : List ℕ) (last : ℕ) → Rise first ends last → last ≤ tip log → map (kept_image log) (first ∷ ends) ≡ map (kept_image longer) (first ∷ ends)
  images_still first ends last rise low = sym (same_under (seen_at log) (seen_at longer) first ends last (λ n high end. seen_still n (omega (arith, end, low))) rise)

  begins_still : (first : ℕ) (ends : List ℕ) (last : ℕ) → Rise first ends last → last ≤ tip log → map (kept_begin log) (first ∷ ends) ≡ map (kept_begin longer) (first ∷ ends)
  begins_still first ends last rise low =
      sym (same_under (λ n. place_of (open_at log n)) (λ n. place_of (open_at longer n)) first ends last (λ n high end. open_still_there n (omega (arith, end, low))) rise)

one_more_image : (log : Log) (first : ℕ) (ends : List ℕ) (n : ℕ) (image : Image) → image ≡ seen_at log n → map (kept_image log) (first ∷ ends) ++ (pos n, image) ∷ [] ≡ map (kept_image log) (first ∷ (ends ++ n ∷ []))
one_more_image log first ends n image is = ap (λ i. map (kept_image log) (first ∷ ends) ++ (pos n, i) ∷ []) is ∙ sym (map-append (kept_image log) (first ∷ ends) (n ∷ []))

one_more_begin : (log : Log) (first : ℕ) (ends : List ℕ) (n : ℕ) (begun : Option ℤ) → begun ≡ place_of (open_at log n) → map (kept_begin log) (first ∷ ends) ++ (pos n, begun) ∷ [] ≡ map (kept_begin log) (first ∷ (ends ++ n ∷ []))
one_more_begin log first ends n begun is = ap (λ b. map (kept_begin log) (first ∷ ends) ++ (pos n, b) ∷ []) is ∙ sym (map-append (kept_begin log) (first ∷ ends) (n ∷ []))

-- ---- places of kept images

record IsPlace (z : ℤ) (ns : List ℕ) : Type 0 where
  n : ℕ
  is : z ≡ pos n
  one : is_one n ns ≡ true

later_place : (z : ℤ) (m : ℕ) (ns : List ℕ) → IsPlace z ns → IsPlace z (m ∷ ns)
later_place z m ns p = record { n = p.n; is = p.is; one = Rattle.kr_engine.proofs.KeptPlaces.one_later p.n m ns p.one }

place_found : (log : Log) (z : ℤ) (ns : List ℕ) → is_some (option_map (λ (i : ℤ × Image). i.1) (find (λ (i : ℤ × Image). int_eq i.0 z) (map (kept_image log) ns))) ≡ true → IsPlace z ns
place_found log z [] is = absurd cc
place_found log z (m ∷ ns) is =
    elim (int_eq (pos m) z) as (λ b. int_eq (pos m) z ≡ b → is_some (option_map (λ (i : ℤ × Image). i.1) (cond b (Some (kept_image log m)) (find (λ (i : ℤ × Image). int_eq i.0 z) (map (kept_image log) ns)))) ≡ true → IsPlace z (m ∷ ns)) [
      | true ↦ λ same _. record { n = m; is = sym (Rattle.kr_defs.proofs.IdLists.same_id (pos m) z same); one = one_first m ns }
      | false ↦ λ other is. later_place z m ns (place_found log z ns is)
    ] refl is

some_true : {X : Type 0} (o : Option X) → IsSome o → is_some o ≡ true
some_true None some = absurd (never some)
some_true {X} (Some x) some = refl

place_kept : (images : Images) (log : Log) (ns : List ℕ) (z : ℤ) → images.kept ≡ map (kept_image log) ns → IsSome (kept_at images z) → IsPlace z ns
place_kept images log ns z kept some =
    place_found log z ns (sym (ap (λ (ks : List (ℤ × Image)). is_some (option_map (λ (i : ℤ × Image). i.1) (find (λ (i : ℤ × Image). int_eq i.0 z) ks))) kept) ∙ some_true (kept_at images z) some)

-- ---- the open transaction of a valid store

abbrev opened_with : ℤ → Image → Opened
opened_with begin image = record { place = log_place begin; image = image }

-- where it began, told by the state
module _ (images : Images) (log : Log) (ns : List ℕ) (valid : AreValid images) (kept : images.kept ≡ map (kept_image log) ns) where
  abbrev told : Option ℤ → Option ℤ
  told o = place_of (option_map (λ (x : Opened). x.place) (opened_at images o))

  begun_by : (o : Option ℤ) → IfSome o (λ begin. IsSome (kept_at images begin)) → o ≡ told o
  begun_by None there = refl
  begun_by (Some begin) there = by (kept_at images begin) there
    where
      natural : begin ≡ pos (log_place begin)
      natural = let p = place_kept images log ns begin kept there in p.is ∙ ap (λ z. pos (log_place z)) (sym p.is)

      by : (k : Option Image) → IsSome k → Some begin ≡ place_of (option_map (λ (x : Opened). x.place) (option_map (opened_with begin) k))
      by None some = absurd (never some)
      by (Some image) some = ap (λ z. Some z) natural

  pub begun_told : images.begun ≡ told images.begun
  begun_told = begun_by images.begun valid.begun.tip

  place_by : (o : Option ℤ) → IfSome o (λ begin. IsSome (kept_at images begin)) → (n : ℕ) → o ≡ Some (pos n) → is_one n ns ≡ true
  place_by None there n is = absurd cc
  place_by (Some begin) there n is =
      let p = place_kept images log ns begin kept there in
      let same : n ≡ p.n = ap unsigned_abs (sym (Rattle.kr_defs.proofs.Tests.some_is begin (pos n) is) ∙ p.is) in
      subst (λ m. is_one m ns ≡ true) (sym same) p.one

  pub begun_there : (n : ℕ) → images.begun ≡ Some (pos n) → is_one n ns ≡ true
  begun_there n is = place_by images.begun valid.begun.tip n is

-- ---- an item more

-- whether its place is kept
pub record IsMarked (images : Images) (place : ℤ) (item : Item) : Type 0 where
  pub new : is_some (kept_at images place) ≡ false
  pub is : with_begin images place item ≡ marked images place

abbrev pub Marks : Images → ℤ → Item → Type 0
Marks images place item = (with_begin images place item ≡ images) ⊎ IsMarked images place item

begin_marks : (images : Images) (place : ℤ) (name : Option (List ℕ)) (b : Bool) → is_some (kept_at images place) ≡ b → cond b images (marked images place) ≡ with_epoch images place → Marks images place (items.Record (kinds.BeginTransaction name))
begin_marks images place name true is same = inl (sym same)
begin_marks images place name false is same = inr (record { new = is; is = sym same })

marks : (images : Images) (place : ℤ) (item : Item) → Marks images place item
marks images place (items.Record (kinds.BeginTransaction name)) = begin_marks images place name (is_some (kept_at images place)) refl refl
marks images place item = inl refl

none_begun : (state after : LogState) (place : ℕ) (name : Option (List ℕ)) → apply_at state place (items.Record (kinds.BeginTransaction name)) ≡ Ok after → option_map (λ (o : Opened). o.place) state.opened ≡ None
unfolding apply_at
none_begun state after place name means = by state.opened means
  where
    by : (opened : Option Opened) → cond (is_some opened) (Err BadTransaction) (Ok (record state { opened = Some (record { place = place; image = state.image }) })) ≡ Ok after → option_map (λ (o : Opened). o.place) opened ≡ None
    by None means = refl
    by (Some o) means = absurd cc

none_vacuous : (images : Images) (log : Log) → open_at log (tip log) ≡ None → UndoesWithin images log
none_vacuous images log none begin unclosed = absurd (let both : None ≡ Some begin = sym none ∙ unclosed in cc)

-- what an item leaves to undo
undoes_behind : (images next : Images) (log : Log) (item : Item) → state_at log (tip log) ≡ Ok (tip_state images) → apply_at (tip_state images) (tip log) item ≡ Ok (tip_state next) → UndoesWithin images log → calls_to_undo images ≤ since_at log
    → KeepsEpochs next (with_begin images (pos (tip log)) item) → next.made ≤ made_at images (pos (tip log)) item → ((with_epoch images (pos (tip log))).made ≡ 0) → (above (with_epoch images (pos (tip log))) (pos (tip log)) ≡ [])
    → UndoesWithin next (log_with log (item ∷ []))
undoes_behind images next log (items.Record (kinds.BeginTransaction name)) is means within few keeps made unmade none =
    let item = items.Record (kinds.BeginTransaction name) in
    let none_open : open_at log (tip log) ≡ None = sym (open_told log (tip log) (tip_state images) is) ∙ none_begun (tip_state images) (tip_state next) (tip log) name means in
    undoes_none images next log (tip_state images) (tip_state next) item is means (omega (arith, made, unmade))
    (ap (λ (ms : List (ℤ × ℕ)). filter (λ (m : ℤ × ℕ). int_lt (pos (tip log)) m.0) ms) keeps.calls ∙ none)
    (ap (λ o. Some (unwrap_or o (tip log))) none_open)
undoes_behind images next log (items.Record kinds.EndTransaction) is means within few keeps made unmade none =
    none_vacuous next (log_with log (items.Record kinds.EndTransaction ∷ [])) (open_written log (items.Record kinds.EndTransaction ∷ []))
undoes_behind images next log (items.Record (kinds.AbortTransaction reason)) is means within few keeps made unmade none =
    none_vacuous next (log_with log (items.Record (kinds.AbortTransaction reason) ∷ [])) (open_written log (items.Record (kinds.AbortTransaction reason) ∷ []))
undoes_behind images next log item is means within few keeps made unmade none =
    undoes_more images next log (tip_state images) (tip_state next) item is means within keeps.calls made refl refl

module _ (images next : Images) (log : Log) (first before : ℕ) (ends : List ℕ) (last : ℕ) (k : Keeps images log first before ends last) (item : Item) (t : TakesItem images next (pos (tip log)) item) where
  abbrev place : ℕ
  place = tip log

  abbrev behind : Log
  behind = log_with log (item ∷ [])

  state_before : state_at log place ≡ Ok (tip_state images)
  state_before = keeps_state images log first before ends last k

  abbrev ok_state : LogState → Result LogState Ill
  ok_state s = Ok s

  state_behind : state_at behind (tip behind) ≡ Ok (tip_state next)
  state_behind = state_written log (item ∷ []) (tip_state images) state_before ∙ ap (λ r. and_then r ok_state) t.applied

  new_tip : tip behind ≡ place + 1
  new_tip = tip_written log (item ∷ [])

  present_behind : image_at behind (tip behind) ≡ Ok next.tip
  present_behind = image_there behind (tip behind) (tip_state next) state_behind

  begun_behind : (ns : List ℕ) → next.kept ≡ map (kept_image behind) ns → next.begun ≡ place_of (open_at behind (tip behind))
  begun_behind ns kept = begun_told next behind ns t.valid kept ∙ ap place_of (open_told behind (tip behind) (tip_state next) state_behind)

  there_behind : (ns : List ℕ) → next.kept ≡ map (kept_image behind) ns → (begin : ℕ) → open_at behind (tip behind) ≡ Some begin → is_one begin ns ≡ true
  there_behind ns kept begin unclosed = begun_there next behind ns t.valid kept begin (begun_behind ns kept ∙ ap place_of unclosed)

  few : calls_to_undo images ≤ since_at log
  few = undo_within images log k.begun k.undoes

  weight_behind_is : weight_below behind (tip behind) ≡ weight_below log place + weight_behind (since_at log) images.tip item
  weight_behind_is =
      let whole = weight_at_tip log (item ∷ []) (tip_state images) state_before in
      let none : weight_of_state (λ (s : LogState). 0) (apply_at (tip_state images) place item) ≡ 0 = ap (λ r. weight_of_state (λ (s : LogState). 0) r) t.applied in
      omega (arith, whole, none)

  -- the last kept place is the tip where an image is kept there
  last_is : is_some (kept_at images (pos place)) ≡ true → place ≤ last
  last_is some =
      let p = place_found log (pos place) (first ∷ ends) (sym (ap (λ (ks : List (ℤ × Image)). is_some (option_map (λ (i : ℤ × Image). i.1) (find (λ (i : ℤ × Image). int_eq i.0 (pos place)) ks))) k.kept) ∙ some) in
      let same : place ≡ p.n = ap unsigned_abs p.is in
      let high : p.n ≤ last = highest first ends last k.rise p.n p.one in
      omega (arith, same, high)
    where
      highest : (from : ℕ) (ns : List ℕ) (to : ℕ) → Rise from ns to → (n : ℕ) → is_one n (from ∷ ns) ≡ true → n ≤ to
      highest from ns to rise n is = not_higher n (Rattle.kr_engine.proofs.KeptPlaces.above n ns) to (Rattle.kr_engine.proofs.KeptPlaces.rise_above log n from ns to rise is)

  last_below : is_some (kept_at images (pos place)) ≡ false → last < place
  last_below none =
      let low = k.low in
      less last place low (λ same.
      let there = kept_there images log first before ends last k last (one_last first ends last k.rise) in
      let both : false ≡ true = sym none ∙ (ap (λ n. is_some (kept_at images (pos n))) (sym same) ∙ ap (λ (o : Option Image). is_some o) there) in cc)
    where
      less : (a b : ℕ) → a ≤ b → (a ≡ b → ⊥) → a < b
      less a b le ne = omega (arith, le, ne)

  -- at a begin nothing is counted
  zero_by : (b : Bool) → is_some (kept_at images (pos place)) ≡ b → (cond b images (marked images (pos place))).made ≡ 0
  zero_by true some =
      let up = last_is some in
      let made = k.made in
      let high = base_high log first before ends last k.rise k.least in
      let whole = weights_rise log place last up in
      omega (arith, made, high, whole)
  zero_by false none = refl

  none_above : above images (pos place) ≡ []
  none_above =
      let low = k.low in
      let up = not_higher first ends last k.rise in
      let rest : List (ℤ × ℕ) = filter (λ (m : ℤ × ℕ). int_lt (pos place) m.0) k.rest in
      ap (λ (ms : List (ℤ × ℕ)). filter (λ (m : ℤ × ℕ). int_lt (pos place) m.0) ms) k.counted
      ∙ (ap (λ b. cond b ((pos first, 0) ∷ rest) rest) (isnt_below place first (omega (arith, low, up)))
      ∙ none_counted log first before ends last k.rest place k.rise low k.each)

  empty_by : (b : Bool) → is_some (kept_at images (pos place)) ≡ b → above (cond b images (marked images (pos place))) (pos place) ≡ []
  empty_by true some = none_above
  empty_by false none =
      filter-append (λ (m : ℤ × ℕ). int_lt (pos place) m.0) images.kept_made ((pos place, images.made) ∷ [])
      ∙ (ap (λ xs. xs ++ filter (λ (m : ℤ × ℕ). int_lt (pos place) m.0) ((pos place, images.made) ∷ [])) none_above
      ∙ ap (λ b. cond b ((pos place, images.made) ∷ []) []) (isnt_below place place (omega arith)))

  undoes : UndoesWithin next behind
  undoes =
      undoes_behind images next log item state_before t.applied k.undoes few t.epochs t.made
      (zero_by (is_some (kept_at images (pos place))) refl) (empty_by (is_some (kept_at images (pos place))) refl)

  counts : calls_at images item ≤ weight_behind (since_at log) images.tip item
  counts = item_counts images log item few

  -- its place isn't kept besides
  pub item_kept : with_begin images (pos place) item ≡ images → Keeps next behind first before ends last
  item_kept same =
      let keeps : KeepsEpochs next images = subst (λ (i : Images). KeepsEpochs next i) same t.epochs in
      let made_few : next.made ≤ images.made + calls_at images item = subst (λ (i : Images). next.made ≤ i.made + calls_at images item) same t.made in
      let kept : next.kept ≡ map (kept_image behind) (first ∷ ends) = keeps.images ∙ (k.kept ∙ images_still log (item ∷ []) first ends last k.rise k.low) in
      let low = k.low in
      let one = counts in
      let made = k.made in
      let whole = weight_behind_is in
      let still = base_longer log (item ∷ []) first before ends last k.rise k.low in
      let low_still = weight_longer log (item ∷ []) first (let up = not_higher first ends last k.rise in omega (arith, up, low)) in
      let least = k.least in
      record {
        present = present_behind;
        begun = begun_behind (first ∷ ends) kept;
        kept = kept;
        kept_begun = keeps.begun ∙ (k.kept_begun ∙ begins_still log (item ∷ []) first ends last k.rise k.low);
        there = there_behind (first ∷ ends) kept;
        rise = k.rise;
        low = (let long = new_tip in omega (arith, low, long));
        rest = k.rest;
        counted = keeps.calls ∙ k.counted;
        each = weighed_longer log (item ∷ []) first before ends last k.rest k.rise k.low k.each;
        made = omega (arith, made_few, one, made, whole, still);
        least = omega (arith, low_still, least);
        undoes = undoes;
      }

  -- or it is
  pub begin_kept : IsMarked images (pos place) item → Keeps next behind first before (ends ++ place ∷ []) place
  begin_kept m =
      let keeps : KeepsEpochs next (marked images (pos place)) = subst (λ (i : Images). KeepsEpochs next i) m.is t.epochs in
      let made_few : next.made ≤ 0 + calls_at images item = subst (λ (i : Images). next.made ≤ i.made + calls_at images item) m.is t.made in
      let up = last_below m.new in
      let low = k.low in
      let seen : images.tip ≡ seen_at behind place = sym (seen_still log (item ∷ []) place (omega arith) ∙ ap (λ (r : Result Image Ill). result_unwrap_or r empty) k.present) in
      let unclosed : images.begun ≡ place_of (open_at behind place) = k.begun ∙ sym (open_still_there log (item ∷ []) place (omega arith)) in
      let kept : next.kept ≡ map (kept_image behind) (first ∷ (ends ++ place ∷ [])) =
      keeps.images
      ∙ (ap (λ (ks : List (ℤ × Image)). ks ++ (pos place, images.tip) ∷ []) (k.kept ∙ images_still log (item ∷ []) first ends last k.rise k.low)
      ∙ one_more_image behind first ends place images.tip seen) in
      let one = counts in
      let whole = weight_behind_is in
      let here = weight_longer log (item ∷ []) place (omega arith) in
      let based = base_more behind before ends place in
      let low_still = weight_longer log (item ∷ []) first (let risen = not_higher first ends last k.rise in omega (arith, risen, low)) in
      let least = k.least in
      record {
        present = present_behind;
        begun = begun_behind (first ∷ (ends ++ place ∷ [])) kept;
        kept = kept;
        kept_begun = keeps.begun
            ∙ (ap (λ (bs : List (ℤ × Option ℤ)). bs ++ (pos place, images.begun) ∷ []) (k.kept_begun ∙ begins_still log (item ∷ []) first ends last k.rise k.low)
            ∙ one_more_begin behind first ends place images.begun unclosed);
        there = there_behind (first ∷ (ends ++ place ∷ [])) kept;
        rise = rise_more first ends last place k.rise up;
        low = (let long = new_tip in omega (arith, long));
        rest = k.rest ++ (pos place, images.made) ∷ [];
        counted = keeps.calls ∙ ap (λ (ms : List (ℤ × ℕ)). ms ++ (pos place, images.made) ∷ []) k.counted;
        each = weighed_added behind before ends k.rest place images.made (weighed_longer log (item ∷ []) first before ends last k.rest k.rise k.low k.each)
            (let made = k.made in let still = base_longer log (item ∷ []) first before ends last k.rise k.low in omega (arith, made, still, here));
        made = omega (arith, made_few, one, whole, based, here);
        least = omega (arith, low_still, least);
        undoes = undoes;
      }

-- ---- items one after the other

-- besides the places before, the begins of transactions are kept, none above the closed end
pub record Behind (images : Images) (log : Log) (first before : ℕ) (old : List ℕ) (moved : Bool) : Type 0 where
  pub new : List ℕ
  pub last : ℕ
  pub keeps : Keeps images log first before (old ++ new) last
  -- behind an item the last kept place is below the tip
  pub under : moved ≡ true → last < tip log
  pub low : AllByRecursion (λ n. n ≤ closed_end_at log (tip log)) new

rise_to : (low high : ℕ) (ns : List ℕ) → low ≤ high → AllByRecursion (λ n. n ≤ low) ns → AllByRecursion (λ n. n ≤ high) ns
rise_to low high [] le all = tt
rise_to low high (n ∷ ns) le all = let here = all.0 in (omega (arith, here, le), rise_to low high ns le all.1)

all_and : (P : ℕ → Type 0) (ns : List ℕ) (n : ℕ) → AllByRecursion P ns → P n → AllByRecursion P (ns ++ n ∷ [])
all_and P [] n all own = (own, tt)
all_and P (m ∷ ms) n all own = (all.0, all_and P ms n all.1 own)

-- the place isn't kept twice
marked_not : (images : Images) (place : ℤ) → images ≡ marked images place → ⊥
marked_not images place same =
    let long : length images.kept ≡ length (images.kept ++ (place, images.tip) ∷ []) = ap (λ (i : Images). length i.kept) same in
    let more = length-append images.kept ((place, images.tip) ∷ []) in
    omega (arith, long, more)

-- a begin's place is the closed end behind it
begun_low : (item : Item) (images next : Images) (log : Log) (first before : ℕ) (ends : List ℕ) (last : ℕ) → Keeps images log first before ends last → IsMarked images (pos (tip log)) item
    → apply_at (tip_state images) (tip log) item ≡ Ok (tip_state next) → tip log ≤ closed_end_at (log_with log (item ∷ [])) (tip (log_with log (item ∷ [])))
begun_low (items.Record (kinds.BeginTransaction name)) images next log first before ends last k m means =
    let item = items.Record (kinds.BeginTransaction name) in
    let after : Log = log_with log (item ∷ []) in
    let none : open_at log (tip log) ≡ None =
    sym (open_told log (tip log) (tip_state images) (keeps_state images log first before ends last k)) ∙ none_begun (tip_state images) (tip_state next) (tip log) name means in
    let unclosed : open_at after (tip after) ≡ Some (tip log) = open_written log (item ∷ []) ∙ ap (λ o. Some (unwrap_or o (tip log))) none in
    let same : closed_end_at after (tip after) ≡ tip log = ap (λ o. unwrap_or o (tip after)) unclosed in
    omega (arith, same)
begun_low item images next log first before ends last k m means = absurd (marked_not images (pos (tip log)) m.is)

module _ (images next : Images) (log : Log) (first before : ℕ) (old : List ℕ) (moved : Bool) (b : Behind images log first before old moved) (started : log.offset ≤ tip log) (item : Item) (t : TakesItem images next (pos (tip log)) item) where
  abbrev after : Log
  after = log_with log (item ∷ [])

  closed_up : closed_end_at log (tip log) ≤ closed_end_at after (tip after)
  closed_up =
      let long = tip_written log (item ∷ []) in
      let stays = closed_end_stays after (tip log) (tip after) started (omega (arith, long)) (omega arith) in
      let same : closed_end_at after (tip log) ≡ closed_end_at log (tip log) = ap (λ o. unwrap_or o (tip log)) (open_written_below log (item ∷ []) (tip log) (omega arith)) in
      omega (arith, stays, same)

  one_behind_by : Marks images (pos (tip log)) item → Behind next after first before old true
  one_behind_by (inl same) = record {
    new = b.new;
    last = b.last;
    keeps = item_kept images next log first before (old ++ b.new) b.last b.keeps item t same;
    under = λ _. (let low = b.keeps.low in let long = tip_written log (item ∷ []) in omega (arith, low, long));
    low = rise_to (closed_end_at log (tip log)) (closed_end_at after (tip after)) b.new closed_up b.low;
  }
  one_behind_by (inr m) = record {
    new = b.new ++ tip log ∷ [];
    last = tip log;
    keeps = subst (λ ns. Keeps next after first before ns (tip log)) (append_assoc old b.new (tip log ∷ [])) (begin_kept images next log first before (old ++ b.new) b.last b.keeps item t m);
    under = λ _. (let long = tip_written log (item ∷ []) in omega (arith, long));
    low = all_and (λ n. n ≤ closed_end_at after (tip after)) b.new (tip log) (rise_to (closed_end_at log (tip log)) (closed_end_at after (tip after)) b.new closed_up b.low) (begun_low item images next log first before (old ++ b.new) b.last b.keeps m t.applied);
  }

  pub item_behind : Behind next after first before old true
  item_behind = one_behind_by (marks images (pos (tip log)) item)

same_log : (log : Log) → log_with log [] ≡ log
same_log log = ap (λ (xs : List Item). record log { items = xs }) (append-nil log.items)

further : (log : Log) (x : Item) → pos (tip log) +ℤ pos 1 ≡ pos (tip (log_with log (x ∷ [])))
further log x = ap pos (sym (tip_written log (x ∷ [])))

items_further : (xs : List Item) (images next : Images) (log : Log) (first before : ℕ) (old : List ℕ) → Behind images log first before old true → TakesItems images next (pos (tip log)) xs → Behind next (log_with log xs) first before old true
items_further [] images next log first before old b takes =
    subst (λ (l : Log). Behind next l first before old true) (sym (same_log log)) (subst (λ (i : Images). Behind i log first before old true) (sym takes) b)
items_further (x ∷ xs) images next log first before old b (between, t, rest) =
    subst (λ (ys : List Item). Behind next (record log { items = ys }) first before old true) (append_assoc log.items (x ∷ []) xs)
    (items_further xs between next (log_with log (x ∷ [])) first before old (item_behind images between log first before old true b (omega arith) x t)
    (subst (λ z. TakesItems between next z xs) (further log x) rest))

-- some items
pub items_behind : (xs : List Item) (images next : Images) (log : Log) (first before : ℕ) (old : List ℕ) (last : ℕ) → Keeps images log first before old last → 1 ≤ length xs → TakesItems images next (pos (tip log)) xs → Behind next (log_with log xs) first before old true
items_behind [] images next log first before old last k some takes = absurd (omega (arith, some))
items_behind (x ∷ xs) images next log first before old last k some (between, t, rest) =
    let none : Behind images log first before old false = record { new = []; last = last; keeps = subst (λ ns. Keeps images log first before ns last) (sym (append-nil old)) k; under = λ is. absurd cc; low = tt } in
    subst (λ (ys : List Item). Behind next (record log { items = ys }) first before old true) (append_assoc log.items (x ∷ []) xs)
    (items_further xs between next (log_with log (x ∷ [])) first before old (item_behind images between log first before old false none (omega arith) x t)
    (subst (λ z. TakesItems between next z xs) (further log x) rest))

-- ---- the tip is kept

pub tip_kept : (images after : Images) (log : Log) (first before : ℕ) (ends : List ℕ) (last : ℕ) → Keeps images log first before ends last → last < tip log → after ≡ marked images (pos (tip log)) → Keeps after log first before (ends ++ tip log ∷ []) (tip log)
tip_kept images after log first before ends last k up is = subst (λ (i : Images). Keeps i log first before (ends ++ tip log ∷ []) (tip log)) (sym is) (record {
  present = k.present;
  begun = k.begun;
  kept = ap (λ (ks : List (ℤ × Image)). ks ++ (pos (tip log), images.tip) ∷ []) k.kept ∙ one_more_image log first ends (tip log) images.tip (sym (ap (λ (r : Result Image Ill). result_unwrap_or r empty) k.present));
  kept_begun = ap (λ (bs : List (ℤ × Option ℤ)). bs ++ (pos (tip log), images.begun) ∷ []) k.kept_begun ∙ one_more_begin log first ends (tip log) images.begun k.begun;
  there = λ begin unclosed. one_before begin (first ∷ ends) (tip log ∷ []) (k.there begin unclosed);
  rise = rise_more first ends last (tip log) k.rise up;
  low = omega arith;
  rest = k.rest ++ (pos (tip log), images.made) ∷ [];
  counted = ap (λ (ms : List (ℤ × ℕ)). ms ++ (pos (tip log), images.made) ∷ []) k.counted;
  each = weighed_added log before ends k.rest (tip log) images.made k.each k.made;
  made = (let based = base_more log before ends (tip log) in omega (arith, based));
  least = k.least;
  undoes = λ begin unclosed.
      let within = k.undoes begin unclosed in
      let q : ℤ × ℕ → Bool = λ m. int_lt (pos begin) m.0 in
      let more = calls_added q images.kept_made (pos (tip log), images.made) in
      omega (arith, within, more);
})
  where
    one_or_none : (b : Bool) (m : ℤ × ℕ) → calls_of (cond b (m ∷ []) []) ≤ m.1
    one_or_none true m = let one = sum_by-cons (λ (k : ℤ × ℕ). k.1) m [] in omega (arith, one)
    one_or_none false m = omega arith

    calls_added : (q : ℤ × ℕ → Bool) (ms : List (ℤ × ℕ)) (m : ℤ × ℕ) → calls_of (filter q (ms ++ m ∷ [])) ≤ calls_of (filter q ms) + m.1
    calls_added q ms m =
        let both : calls_of (filter q (ms ++ m ∷ [])) ≡ calls_of (filter q ms ++ filter q (m ∷ [])) = ap calls_of (filter-append q ms (m ∷ [])) in
        let sum : calls_of (filter q ms ++ filter q (m ∷ [])) ≡ calls_of (filter q ms) + calls_of (filter q (m ∷ [])) = sum_by-append (λ (k : ℤ × ℕ). k.1) (filter q ms) (filter q (m ∷ [])) in
        let one : calls_of (filter q (m ∷ [])) ≤ m.1 = one_or_none (q m) m in
        omega (arith, both, sum, one)

-- ---- records, where no transaction is open

pub records_kept : (images next : Images) (log : Log) (first before : ℕ) (ends : List ℕ) (last : ℕ) (records : List Record) → Keeps images log first before ends last → open_at log (tip log) ≡ None → apply_records images.tip records ≡ Ok next.tip
    → next.kept ≡ images.kept → next.kept_made ≡ images.kept_made → next.kept_begun ≡ images.kept_begun → next.begun ≡ None → next.made ≤ images.made + weights images.tip records → Keeps next (log_with log (as_items records)) first before ends last
records_kept images next log first before ends last records k none means kept calls begins begun made_few =
    let own : List Item = as_items records in
    let after : Log = log_with log own in
    let seen = keeps_state images log first before ends last k in
    let applies : apply_all images.tip own ≡ Ok next.tip = as_records images.tip records ∙ means in
    let closed_then : open_at after (tip after) ≡ None = open_still log own (tip_state images) next.tip seen applies ∙ none in
    let low = k.low in
    let long = tip_written log own in
    let whole = weight_at_tip log own (tip_state images) seen in
    let same = weights_of_records records (since_at log) (tip_state images) (tip log) next.tip means in
    let made = k.made in
    let still = base_longer log own first before ends last k.rise k.low in
    let low_still = weight_longer log own first (let risen = not_higher first ends last k.rise in omega (arith, risen, low)) in
    let least = k.least in
    record {
      present = written_at_tip log own images.tip next.tip k.present applies;
      begun = begun ∙ ap place_of (sym closed_then);
      kept = kept ∙ (k.kept ∙ images_still log own first ends last k.rise k.low);
      kept_begun = begins ∙ (k.kept_begun ∙ begins_still log own first ends last k.rise k.low);
      there = λ begin unclosed. absurd (let both : None ≡ Some begin = sym closed_then ∙ unclosed in cc);
      rise = k.rise;
      low = omega (arith, low, long);
      rest = k.rest;
      counted = calls ∙ k.counted;
      each = weighed_longer log own first before ends last k.rest k.rise k.low k.each;
      made = omega (arith, made_few, whole, same, made, still);
      least = omega (arith, low_still, least);
      undoes = none_vacuous next after closed_then;
    }

-- ---- an engine that stands for past events

-- what is settled weighs no more than all
settled_low : (log : Log) (state : LogState) (place : ℕ) → state_at log place ≡ Ok state → place ≤ tip log → weight_settled log place ≤ weight_below log (tip log)
settled_low log state place is low =
    elim (open_at log place) as (λ o. open_at log place ≡ o → option_map_or (λ (begin : ℕ). weight_below log (begin + 1)) o (weight_below log place) ≤ weight_below log (tip log)) [
      | None ↦ λ none. weights_rise log place (tip log) low
      | Some begin ↦ λ some. weights_rise log (begin + 1) (tip log) (let below = begun_below log place state begin is some in omega (arith, below, low))
    ] refl

pub settled_high : (log : Log) (place : ℕ) → weight_below log (closed_end_at log place) ≤ weight_settled log place
settled_high log place =
    elim (open_at log place) as (λ o. weight_below log (unwrap_or o place) ≤ option_map_or (λ (begin : ℕ). weight_below log (begin + 1)) o (weight_below log place)) [
      | None ↦ omega arith
      | Some begin ↦ weights_rise log begin (begin + 1) (omega arith)
    ]

module _ (e : Core) (s : State) (writes : List Write) (k : IsEngine e s writes) where
  abbrev log : Log
  log = s.world.log

  abbrev committed : ℕ
  committed = s.world.committed

  abbrev ends : List ℕ
  ends = s.world.covered ++ s.world.batch_ends

  -- a transaction that is open at the tip was open at the committed end, on standby
  pub open_first : (begin : ℕ) → open_at log (tip log) ≡ Some begin → (committed ≡ tip_of s) × (closed_of s.world ≡ begin)
  open_first begin unclosed = by s.world.leading refl
    where
      by : (leading : Option ℤ) → s.world.leading ≡ leading → (committed ≡ tip_of s) × (closed_of s.world ≡ begin)
      by None none =
          let at : committed ≡ tip_of s = tip_only log committed s.world.batch_ends (tip_of s) k.is_state.ends (k.is_state.at_standby none).0 in
          (at, ap (λ n. unwrap_or (open_at log n) n) at ∙ ap (λ o. unwrap_or o (tip_of s)) unclosed)
      by (Some epoch) some =
          let closed_then = k.is_state.decided (subst (λ (l : Option ℤ). IsSome l) (sym some) refl) in
          absurd (let both : None ≡ Some begin = sym closed_then ∙ unclosed in cc)

  a_state : HasState log (tip_of s) e.images.tip
  a_state = state_seen log (tip_of s) e.images.tip k.present

  weighs : ends ≡ [] → weight_settled log committed ≤ weight_below log (tip_of s)
  weighs none =
      let h = state_seen log committed (seen_at log committed) (Rattle.kr_model.proofs.KeptImages.seen_below log committed e.images.tip k.present) in
      settled_low log h.state committed h.there (rises e s writes k)

  undoes_engine : UndoesWithin e.images log
  undoes_engine begin unclosed =
      let at = open_first begin unclosed in
      let first_open : open_at log (tip log) ≡ Some (closed_of s.world) = unclosed ∙ ap (λ n. Some n) (sym at.1) in
      let settled : weight_settled log committed ≡ weight_below log (closed_of s.world + 1) =
      ap (λ n. option_map_or (λ (b : ℕ). weight_below log (b + 1)) (open_at log n) (weight_below log n)) at.0 ∙ ap (λ o. option_map_or (λ (b : ℕ). weight_below log (b + 1)) o (weight_below log (tip_of s))) first_open in
      undoes_from_first e.images log a_state.state (closed_of s.world) (weight_settled log committed) ends a_state.there k.weighed (places_rise e s writes k) first_open settled begin unclosed

  pub engine_keeps : Keeps e.images log (closed_of s.world) (weight_settled log committed) ends (tip_of s)
  engine_keeps = record {
    present = k.present;
    begun = k.begun;
    kept = k.kept;
    kept_begun = k.kept_begun;
    there = λ begin unclosed. subst (λ n. is_one n (closed_of s.world ∷ ends) ≡ true) (open_first begin unclosed).1 (one_first (closed_of s.world) ends);
    rise = places_rise e s writes k;
    low = omega arith;
    rest = k.weighed.rest;
    counted = k.weighed.counted;
    each = k.weighed.each;
    made = (let none = k.weighed.unmade in let based = base_low log (closed_of s.world) (weight_settled log committed) ends (tip_of s) (places_rise e s writes k) weighs in omega (arith, none, based));
    least = settled_high log committed;
    undoes = undoes_engine;
  }

-- nothing is counted since the tip is kept
pub keeps_weighed : (images : Images) (log : Log) (first before : ℕ) (ends : List ℕ) (last : ℕ) (k : Keeps images log first before ends last) → images.made ≡ 0 → IsWeighed images log first before ends
keeps_weighed images log first before ends last k none = record { unmade = none; rest = k.rest; counted = k.counted; each = k.each }
