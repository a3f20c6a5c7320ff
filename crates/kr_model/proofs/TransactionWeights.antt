-- What an abort adds to the weights of a log: those of its transaction's items, behind the begin.
use Rattle.std.proofs.Common.{◌≡◌, ◌∙◌, sym, subst, ℕ, ◌+◌, ◌≤◌, List, [], ◌∷◌, ◌++◌, length, refl, ap, arith}
use Rattle.std.proofs.lemmas.List.{append_assoc, append-nil}
use Rattle.std.proofs.lemmas.List.Sums.{sum_by-cons}
use Rattle.std.specs.Prelude.{ℤ, pos, filter, int_lt, Option, Some, None, Result, Ok, Err, cond, is_some, unwrap_or}
use Rattle.std.specs.Option.{option_map, option_map_or}
use Rattle.kr_defs.specs.declared.ill.Ill.{Ill}
use Rattle.kr_defs.specs.declared.ill.Ill.TheVariants.{BadTransaction}
use Rattle.kr_defs.specs.declared.record.Item.{Item}
use Rattle.kr_defs.specs.declared.record.Item.TheVariants as items
use Rattle.kr_defs.specs.declared.record.Record.TheVariants as kinds
use Rattle.kr_defs.specs.Guard.{and_then}
use Rattle.kr_defs.specs.Log.{Log, open_at, state_at, tip}
use Rattle.kr_defs.specs.LogStates.{LogState, Opened, apply_all_at, apply_at, closed, open_behind}
use Rattle.kr_defs.proofs.StateLogs.{open_stands, open_told, state_at_tip}
use Rattle.kr_store.specs.Images.{Images, above, calls_of}
use Rattle.kr_store.specs.ItemAnswers.{calls_at, calls_to_undo}
use Rattle.kr_model.specs.Engine.{Rise}
use Rattle.kr_model.specs.Weights.{IsWeighed, since_begin, weight_behind, weight_below, weight_of_state}
use Rattle.kr_model.specs.World.{log_with}
use Rattle.kr_model.proofs.Logs.{none_open_at_start, open_written, state_written, tip_written}
use Rattle.kr_model.proofs.Weights.{all_weighed, fewer_calls, since_all, since_at, weight_at_tip, weight_longer, weights_rise}

since_then : (r : Result LogState Ill) (since place : ℕ) (xs ys : List Item) (to : ℕ) → place + length xs ≡ to
    → ((after : LogState) → since_all since after place (xs ++ ys) ≡ weight_of_state (λ (last : LogState). since_all (since_all since after place xs) last (place + length xs) ys) (apply_all_at after place xs))
    → weight_of_state (λ (after : LogState). since_all since after place (xs ++ ys)) r
    ≡ weight_of_state (λ (last : LogState). since_all (weight_of_state (λ (after : LogState). since_all since after place xs) r) last to ys) (and_then r (λ (after : LogState). apply_all_at after place xs))
since_then (Ok after) since place xs ys to at step =
    subst (λ t. since_all since after place (xs ++ ys) ≡ weight_of_state (λ (last : LogState). since_all (since_all since after place xs) last t ys) (apply_all_at after place xs)) at (step after)
since_then (Err cause) since place xs ys to at step = refl

since_append : (xs ys : List Item) (since : ℕ) (state : LogState) (place : ℕ)
    → since_all since state place (xs ++ ys) ≡ weight_of_state (λ (last : LogState). since_all (since_all since state place xs) last (place + length xs) ys) (apply_all_at state place xs)
since_append [] ys since state place = let here : place ≡ place + 0 = omega arith in ap (λ p. since_all since state p ys) here
since_append (x ∷ xs) ys since state place =
    let further : (place + 1) + length xs ≡ place + length (x ∷ xs) = omega arith in
    since_then (apply_at state place x) (since_begin since state.image x) (place + 1) xs ys (place + length (x ∷ xs)) further
    (λ after. since_append xs ys (since_begin since state.image x) after (place + 1))

pub since_at_tip : (log : Log) (items : List Item) (state : LogState) → state_at log (tip log) ≡ Ok state → since_at (log_with log items) ≡ since_all (since_at log) state (tip log) items
since_at_tip log items state is =
    since_append log.items items 0 (closed log.image) log.offset
    ∙ ap (λ r. weight_of_state (λ (last : LogState). since_all (since_at log) last (tip log) items) r) (sym (state_at_tip log) ∙ is)

-- behind the begin of the open transaction the items weigh what an abort adds
abbrev pub WeighsSince : Log → Type 0
WeighsSince log = (begin : ℕ) → open_at log (tip log) ≡ Some begin → since_at log + weight_below log (begin + 1) ≡ weight_below log (tip log)

some_begin : (a b : ℕ) → Some a ≡ Some b → a ≡ b
some_begin a b is = ap (λ (o : Option ℕ). unwrap_or o a) is

-- the transaction that is open at a place began below it
pub begun_below : (log : Log) (place : ℕ) (state : LogState) (begin : ℕ) → state_at log place ≡ Ok state → open_at log place ≡ Some begin → begin + 1 ≤ place
begun_below log place state begin is opens = by state.opened refl (open_told log place state is ∙ opens)
  where
    by : (opened : Option Opened) → state.opened ≡ opened → option_map (λ (o : Opened). o.place) opened ≡ Some begin → begin + 1 ≤ place
    by None none at = absurd cc
    by (Some opened) some at =
        let below = (open_stands log place state opened is some).below in
        let same : opened.place ≡ begin = some_begin opened.place begin at in
        omega (arith, below, same)

module _ (log : Log) (state after : LogState) (item : Item) (is : state_at log (tip log) ≡ Ok state) (means : apply_at state (tip log) item ≡ Ok after) where
  abbrev longer : Log
  longer = log_with log (item ∷ [])

  one_more : tip longer ≡ tip log + 1
  one_more = tip_written log (item ∷ [])

  since_more : since_at longer ≡ since_begin (since_at log) state.image item
  since_more = since_at_tip log (item ∷ []) state is ∙ ap (λ r. weight_of_state (λ (s : LogState). since_begin (since_at log) state.image item) r) means

  weight_more : weight_below longer (tip longer) ≡ weight_below log (tip log) + weight_behind (since_at log) state.image item
  weight_more =
      let whole = weight_at_tip log (item ∷ []) state is in
      let none : weight_of_state (λ (s : LogState). 0) (apply_at state (tip log) item) ≡ 0 = ap (λ r. weight_of_state (λ (s : LogState). 0) r) means in
      omega (arith, whole, none)

  open_more : open_at longer (tip longer) ≡ open_behind (open_at log (tip log)) (tip log) item
  open_more = open_written log (item ∷ [])

  -- a transaction that stays open
  still_since : since_begin (since_at log) state.image item ≡ since_at log + weight_behind (since_at log) state.image item → open_behind (open_at log (tip log)) (tip log) item ≡ open_at log (tip log) → WeighsSince log → WeighsSince longer
  still_since adds same before begin opens =
      let there : open_at log (tip log) ≡ Some begin = sym same ∙ (sym open_more ∙ opens) in
      let below : begin + 1 ≤ tip log = begun_below log (tip log) state begin is there in
      let held = before begin there in
      let unchanged : weight_below longer (begin + 1) ≡ weight_below log (begin + 1) = weight_longer log (item ∷ []) (begin + 1) below in
      omega (arith, held, unchanged, since_more, adds, weight_more)

  -- and one that begins
  since_here : since_begin (since_at log) state.image item ≡ 0 → (begin : ℕ) → begin ≡ tip log → since_at longer + weight_below longer (begin + 1) ≡ weight_below longer (tip longer)
  since_here zero begin at =
      let here : weight_below longer (begin + 1) ≡ weight_below longer (tip longer) = ap (λ n. weight_below longer n) (ap (λ n. n + 1) at ∙ sym one_more) in
      omega (arith, here, since_more, zero)

none_before : (state after : LogState) (place : ℕ) (name : Option (List ℕ)) → apply_at state place (items.Record (kinds.BeginTransaction name)) ≡ Ok after → option_map (λ (o : Opened). o.place) state.opened ≡ None
unfolding apply_at
none_before state after place name means = by state.opened means
  where
    by : (opened : Option Opened) → cond (is_some opened) (Err BadTransaction) (Ok (record state { opened = Some (record { place = place; image = state.image }) })) ≡ Ok after → option_map (λ (o : Opened). o.place) opened ≡ None
    by None means = refl
    by (Some o) means = absurd cc

pub since_step : (log : Log) (state after : LogState) (item : Item) → state_at log (tip log) ≡ Ok state → apply_at state (tip log) item ≡ Ok after → WeighsSince log → WeighsSince (log_with log (item ∷ []))
since_step log state after (items.Record (kinds.BeginTransaction name)) is means before begin opens =
    let item = items.Record (kinds.BeginTransaction name) in
    let none : open_at log (tip log) ≡ None = sym (open_told log (tip log) state is) ∙ none_before state after (tip log) name means in
    since_here log state after item is means refl begin
    (sym (some_begin (tip log) begin (sym (ap (λ (o : Option ℕ). Some (unwrap_or o (tip log))) none) ∙ (sym (open_more log state after item is means) ∙ opens))))
since_step log state after (items.Record kinds.EndTransaction) is means before begin opens = absurd (let none = open_more log state after (items.Record kinds.EndTransaction) is means in cc)
since_step log state after (items.Record (kinds.AbortTransaction reason)) is means before begin opens = absurd (let none = open_more log state after (items.Record (kinds.AbortTransaction reason)) is means in cc)
since_step log state after item is means before begin opens = still_since log state after item is means refl refl before begin opens

-- ---- all items of a log

abbrev upto : Log → List Item → Log
upto log done = record log { items = done }

all_since : (log : Log) (rest done : List Item) (mid state : LogState) → state_at (upto log done) (tip (upto log done)) ≡ Ok mid → WeighsSince (upto log done) → apply_all_at mid (tip (upto log done)) rest ≡ Ok state → WeighsSince (upto log (done ++ rest))
all_since log [] done mid state is before means = subst (λ (xs : List Item). WeighsSince (upto log xs)) (sym (append-nil done)) before
all_since log (item ∷ rest) done mid state is before means =
    elim (apply_at mid (tip (upto log done)) item) as (λ (r : Result LogState Ill). apply_at mid (tip (upto log done)) item ≡ r → and_then r (λ (s : LogState). apply_all_at s (tip (upto log done) + 1) rest) ≡ Ok state → WeighsSince (upto log (done ++ item ∷ rest))) [
      | Ok next ↦ λ one others.
          let further : tip (upto log (done ++ item ∷ [])) ≡ tip (upto log done) + 1 = tip_written (upto log done) (item ∷ []) in
          let there : state_at (upto log (done ++ item ∷ [])) (tip (upto log (done ++ item ∷ []))) ≡ Ok next =
          state_written (upto log done) (item ∷ []) mid is ∙ ap (λ r. and_then r (λ (s : LogState). Ok s)) one in
          subst (λ (xs : List Item). WeighsSince (upto log xs)) (append_assoc done (item ∷ []) rest)
          (all_since log rest (done ++ item ∷ []) next state there (since_step (upto log done) mid next item is one before)
          (ap (λ n. apply_all_at next n rest) further ∙ others))
      | Err cause ↦ λ one others. absurd cc
    ] refl means

pub weighs_since : (log : Log) (state : LogState) → state_at log (tip log) ≡ Ok state → WeighsSince log
weighs_since log state is =
    let start : Log = upto log [] in
    let none : open_at start (tip start) ≡ None = none_open_at_start log.offset log.image (tip start) in
    let here : tip start ≡ log.offset = omega arith in
    all_since log log.items [] (closed log.image) state (state_at_tip start) (λ begin begun. absurd (let both = none in cc))
    (ap (λ n. apply_all_at (closed log.image) n log.items) here ∙ (sym (state_at_tip log) ∙ is))

-- ---- what a store counts

-- to undo the open transaction takes at most the weights of its items
abbrev pub UndoesWithin : Images → Log → Type 0
UndoesWithin images log = (begin : ℕ) → open_at log (tip log) ≡ Some begin → calls_of (above images (pos begin)) + images.made ≤ since_at log

abbrev place_of : Option ℕ → Option ℤ
place_of opened = option_map (λ (n : ℕ). pos n) opened

pub undo_within : (images : Images) (log : Log) → images.begun ≡ place_of (open_at log (tip log)) → UndoesWithin images log → calls_to_undo images ≤ since_at log
undo_within images log begun within = by (open_at log (tip log)) refl begun
  where
    by : (opened : Option ℕ) → open_at log (tip log) ≡ opened → images.begun ≡ place_of opened → calls_to_undo images ≤ since_at log
    by None none is = subst (λ (o : Option ℤ). option_map_or (λ (begin : ℤ). calls_of (above images begin) + images.made) o 0 ≤ since_at log) (sym is) (omega arith)
    by (Some begin) some is =
        subst (λ (o : Option ℤ). option_map_or (λ (begin : ℤ). calls_of (above images begin) + images.made) o 0 ≤ since_at log) (sym is) (within begin some)

-- an item counts at most what it weighs
pub item_counts : (images : Images) (log : Log) (item : Item) → calls_to_undo images ≤ since_at log → calls_at images item ≤ weight_behind (since_at log) images.tip item
item_counts images log (items.Record (kinds.BeginTransaction name)) within = omega arith
item_counts images log (items.Record (kinds.AbortTransaction reason)) within = omega (arith, within)
item_counts images log item within = omega arith

-- where the transaction began at the first kept place
pub undoes_from_first : (images : Images) (log : Log) (state : LogState) (first before : ℕ) (ends : List ℕ) → state_at log (tip log) ≡ Ok state → IsWeighed images log first before ends → Rise first ends (tip log)
    → open_at log (tip log) ≡ Some first → before ≡ weight_below log (first + 1) → UndoesWithin images log
undoes_from_first images log state first before ends is weighed rise opens settled begin there =
    let same : first ≡ begin = some_begin first begin (sym opens ∙ there) in
    let up : first + 1 ≤ tip log = begun_below log (tip log) state first is opens in
    let risen : weight_below log (first + 1) ≤ weight_below log (tip log) = weights_rise log (first + 1) (tip log) up in
    let all = all_weighed log before first ends (tip log) weighed.rest rise (λ _. omega (arith, settled, risen)) weighed.each in
    let sum : calls_of weighed.rest + before ≤ weight_below log (tip log) = all.0 in
    let share = weighs_since log state is first opens in
    let own : calls_of ((pos first, 0) ∷ weighed.rest) ≡ 0 + calls_of weighed.rest = sum_by-cons (λ (k : ℤ × ℕ). k.1) (pos first, 0) weighed.rest in
    let fewer : calls_of (above images (pos begin)) ≤ calls_of images.kept_made = fewer_calls (λ (m : ℤ × ℕ). int_lt (pos begin) m.0) images.kept_made in
    let told : calls_of images.kept_made ≡ calls_of ((pos first, 0) ∷ weighed.rest) = ap calls_of weighed.counted in
    let none : images.made ≡ 0 = weighed.unmade in
    omega (arith, sum, share, own, fewer, told, none, settled)

module _ (images after : Images) (log : Log) (state next : LogState) (item : Item) (is : state_at log (tip log) ≡ Ok state) (means : apply_at state (tip log) item ≡ Ok next) where
  -- an item that isn't a begin: the same epochs are kept
  pub undoes_more : UndoesWithin images log → after.kept_made ≡ images.kept_made → after.made ≤ images.made + weight_behind (since_at log) state.image item
      → since_begin (since_at log) state.image item ≡ since_at log + weight_behind (since_at log) state.image item → open_behind (open_at log (tip log)) (tip log) item ≡ open_at log (tip log)
      → UndoesWithin after (log_with log (item ∷ []))
  undoes_more within kept few adds same begin opens =
      let there : open_at log (tip log) ≡ Some begin = sym same ∙ (sym (open_more log state next item is means) ∙ opens) in
      let held : calls_of (above images (pos begin)) + images.made ≤ since_at log = within begin there in
      let told : calls_of (above after (pos begin)) ≡ calls_of (above images (pos begin)) = ap (λ (ms : List (ℤ × ℕ)). calls_of (filter (λ (m : ℤ × ℕ). int_lt (pos begin) m.0) ms)) kept in
      let grows = since_more log state next item is means in
      omega (arith, held, told, few, adds, grows)

  -- a begin: nothing is counted above its place
  pub undoes_none : after.made ≡ 0 → above after (pos (tip log)) ≡ [] → open_behind (open_at log (tip log)) (tip log) item ≡ Some (tip log) → UndoesWithin after (log_with log (item ∷ []))
  undoes_none none empty begins begin opens =
      let same : tip log ≡ begin = some_begin (tip log) begin (sym begins ∙ (sym (open_more log state next item is means) ∙ opens)) in
      let nothing : calls_of (above after (pos begin)) ≡ 0 = ap (λ n. calls_of (above after (pos n))) (sym same) ∙ ap calls_of empty in
      omega (arith, none, nothing)
