-- The weights of a log that gets longer; and the steps of going back to the committed end.
use Rattle.std.proofs.Common.{◌≡◌, ◌∙◌, sym, ℕ, suc, ℤ, pos, ◌+◌, ◌*◌, ◌-◌, ◌≤◌, ◌<◌, Bool, true, false, cond, List, [], ◌∷◌, ◌++◌, length, filter, refl, ap, subst, arith}
use Rattle.std.specs.Prelude.{◌||◌, Result, Ok, Err, drop, int_lt, not, sum_by, take, unsigned_abs}
use Rattle.std.specs.List.{list_any}
use Rattle.std.specs.Ordering.{int_eq}
use Rattle.std.proofs.lemmas.List.{append-nil, take-append-drop, take-append-le, take-take, take_all}
use Rattle.std.proofs.lemmas.List.Sums.{sum_by-cons}
use Rattle.kr_calls.specs.Deciding.{apply_records, weight_then, weights}
use Rattle.kr_defs.specs.declared.ill.Ill.{Ill}
use Rattle.kr_defs.specs.declared.record.Item.{Item}
use Rattle.kr_defs.specs.declared.record.Item.TheVariants as items
use Rattle.kr_defs.specs.declared.record.Record.{Record}
use Rattle.kr_defs.specs.declared.record.Record.TheVariants as kinds
use Rattle.kr_defs.specs.Apply.{apply, apply_record}
use Rattle.kr_defs.specs.Image.{Image}
use Rattle.kr_defs.specs.ImageLaws.{as_items}
use Rattle.kr_defs.specs.Guard.{and_then}
use Rattle.kr_defs.specs.Log.{Log, state_at, tip}
use Rattle.kr_defs.specs.LogStates.{LogState, apply_all_at, apply_at, closed}
use Rattle.kr_defs.proofs.StateLogs.{plain_at, state_at_tip}
use Rattle.kr_defs.specs.Weight.{weight}
use Rattle.kr_defs.proofs.Maps.{length-filter_le}
use Rattle.kr_defs.proofs.IdLists.{same_id}
use Rattle.kr_store.specs.Images.{Images, above, below, calls_of, forgotten, oldest_from, oldest_unmade}
use Rattle.kr_model.specs.Engine.{Rise}
use Rattle.kr_model.specs.Weights.{AreWeighed, IsWeighed, item_weights, since_begin, steps_for, weight_behind, weight_below, weight_between, weight_of_state}
use Rattle.kr_model.specs.Lost.{cut}
use Rattle.kr_model.specs.World.{log_with}
use Rattle.kr_model.proofs.KeptImages.{not_higher}
use Rattle.kr_model.proofs.Places.{all_above, is_below, isnt_below, moves}

-- ---- items one behind the other

-- the weights since the last begin, behind items
abbrev pub since_all : ℕ → LogState → ℕ → List Item → ℕ
since_all since state place [] = since
since_all since state place (item ∷ items) = weight_of_state (λ (after : LogState). since_all (since_begin since state.image item) after (place + 1) items) (apply_at state place item)

weights_then : (n : ℕ) (r : Result LogState Ill) (since place : ℕ) (xs ys : List Item) (to : ℕ) → place + length xs ≡ to
    → ((after : LogState) → item_weights since after place (xs ++ ys) ≡ item_weights since after place xs + weight_of_state (λ (last : LogState). item_weights (since_all since after place xs) last (place + length xs) ys) (apply_all_at after place xs))
    → n + weight_of_state (λ (after : LogState). item_weights since after place (xs ++ ys)) r
    ≡ n + weight_of_state (λ (after : LogState). item_weights since after place xs) r + weight_of_state (λ (last : LogState). item_weights (weight_of_state (λ (after : LogState). since_all since after place xs) r) last to ys) (and_then r (λ (after : LogState). apply_all_at after place xs))
weights_then n (Ok after) since place xs ys to at step =
    let rest : item_weights since after place (xs ++ ys) ≡ item_weights since after place xs + weight_of_state (λ (last : LogState). item_weights (since_all since after place xs) last to ys) (apply_all_at after place xs) =
    subst (λ t. item_weights since after place (xs ++ ys) ≡ item_weights since after place xs + weight_of_state (λ (last : LogState). item_weights (since_all since after place xs) last t ys) (apply_all_at after place xs)) at (step after) in
    omega (arith, rest)
weights_then n (Err cause) since place xs ys to at step = omega arith

pub weights_append : (xs ys : List Item) (since : ℕ) (state : LogState) (place : ℕ)
    → item_weights since state place (xs ++ ys) ≡ item_weights since state place xs + weight_of_state (λ (last : LogState). item_weights (since_all since state place xs) last (place + length xs) ys) (apply_all_at state place xs)
weights_append [] ys since state place =
    let here : place ≡ place + 0 = omega arith in
    let moved : item_weights since state place ys ≡ item_weights since state (place + 0) ys = ap (λ p. item_weights since state p ys) here in
    omega (arith, moved)
weights_append (x ∷ xs) ys since state place =
    let further : (place + 1) + length xs ≡ place + length (x ∷ xs) = omega arith in
    weights_then (weight_behind since state.image x) (apply_at state place x) (since_begin since state.image x) (place + 1) xs ys (place + length (x ∷ xs)) further
    (λ after. weights_append xs ys (since_begin since state.image x) after (place + 1))

-- ---- the weights of a log that gets longer

pub weight_longer : (log : Log) (items : List Item) (place : ℕ) → place ≤ tip log → weight_below (log_with log items) place ≡ weight_below log place
weight_longer log items place low = ap (λ (xs : List Item). item_weights 0 (closed log.image) log.offset xs) (take-append-le (place - log.offset) log.items items (omega arith))

-- what stands further up weighs no less
pub weights_rise : (log : Log) (low high : ℕ) → low ≤ high → weight_below log low ≤ weight_below log high
weights_rise log low high le =
    let all : List Item = take (high - log.offset) log.items in
    let xs : List Item = take (low - log.offset) log.items in
    let ys : List Item = drop (low - log.offset) all in
    let parted : xs ++ ys ≡ all =
    ap (λ (front : List Item). front ++ ys) (sym (take-take (low - log.offset) (high - log.offset) log.items (omega (arith, le)))) ∙ take-append-drop (low - log.offset) all in
    let sum = weights_append xs ys 0 (closed log.image) log.offset in
    subst (λ (is : List Item). item_weights 0 (closed log.image) log.offset xs ≤ item_weights 0 (closed log.image) log.offset is) parted (omega (arith, sum))

-- and stays so where the log is cut above
pub weight_cut : (log : Log) (end place : ℕ) → place ≤ end → weight_below (cut log end) place ≡ weight_below log place
weight_cut log end place low = ap (λ (xs : List Item). item_weights 0 (closed log.image) log.offset xs) (take-take (place - log.offset) (end - log.offset) log.items (omega (arith, low)))

whole : (log : Log) → weight_below log (tip log) ≡ item_weights 0 (closed log.image) log.offset log.items
whole log = ap (λ (xs : List Item). item_weights 0 (closed log.image) log.offset xs) (take_all (tip log - log.offset) log.items (omega arith))

-- the weights since the last begin of a log
abbrev pub since_at : Log → ℕ
since_at log = since_all 0 (closed log.image) log.offset log.items

pub weight_at_tip : (log : Log) (items : List Item) (state : LogState) → state_at log (tip log) ≡ Ok state
    → weight_below (log_with log items) (tip (log_with log items)) ≡ weight_below log (tip log) + item_weights (since_at log) state (tip log) items
weight_at_tip log items state is =
    whole (log_with log items) ∙ (weights_append log.items items 0 (closed log.image) log.offset
    ∙ (ap (λ r. item_weights 0 (closed log.image) log.offset log.items + weight_of_state (λ (last : LogState). item_weights (since_at log) last (tip log) items) r) (sym (state_at_tip log) ∙ is)
    ∙ ap (λ n. n + item_weights (since_at log) state (tip log) items) (sym (whole log))))

-- a record that an image takes is no abort
plain_weight : (since : ℕ) (image after : Image) (r : Record) → apply image (items.Record r) ≡ Ok after → weight_behind since image (items.Record r) ≡ weight image (items.Record r)
unfolding apply apply_record
plain_weight since image after (kinds.AbortTransaction reason) is = absurd cc
plain_weight since image after other is = refl

record_then : (r : Record) (records : List Record) (since : ℕ) (state : LogState) (place : ℕ) (after : Image) (q : Result Image Ill) → apply_record state.image r ≡ q → and_then q (λ (i : Image). apply_records i records) ≡ Ok after
    → ((mid : Image) → apply_records mid records ≡ Ok after → item_weights (since_begin since state.image (items.Record r)) (record state { image = mid }) (place + 1) (as_items records) ≡ weights mid records)
    → item_weights since state place (as_items (r ∷ records)) ≡ weights state.image (r ∷ records)
unfolding apply
record_then r records since state place after (Err cause) is means step = absurd cc
record_then r records since state place after (Ok mid) is means step =
    let next : ℕ = since_begin since state.image (items.Record r) in
    let own : weight_behind since state.image (items.Record r) ≡ weight state.image (items.Record r) = plain_weight since state.image mid r is in
    let left : weight_of_state (λ (s : LogState). item_weights next s (place + 1) (as_items records)) (apply_at state place (items.Record r)) ≡ item_weights next (record state { image = mid }) (place + 1) (as_items records) =
    ap (λ q. weight_of_state (λ (s : LogState). item_weights next s (place + 1) (as_items records)) q) (plain_at state place (items.Record r) mid is) in
    let right : weight_then (λ (i : Image). weights i records) (apply_record state.image r) ≡ weights mid records = ap (λ q. weight_then (λ (i : Image). weights i records) q) is in
    let rest : item_weights next (record state { image = mid }) (place + 1) (as_items records) ≡ weights mid records = step mid means in
    omega (arith, own, left, right, rest)

pub weights_of_records : (records : List Record) (since : ℕ) (state : LogState) (place : ℕ) (after : Image) → apply_records state.image records ≡ Ok after → item_weights since state place (as_items records) ≡ weights state.image records
weights_of_records [] since state place after means = refl
weights_of_records (r ∷ records) since state place after means =
    record_then r records since state place after (apply_record state.image r) refl means
    (λ mid more. weights_of_records records (since_begin since state.image (items.Record r)) (record state { image = mid }) (place + 1) after more)

-- ---- what is counted under the ends of batches

ends_here : (from : ℕ) (ns : List ℕ) (to : ℕ) → Rise from ns to → ns ≡ [] → from ≡ to
ends_here from [] to rise none = rise
ends_here from (n ∷ ns) to rise none = absurd cc

-- where no batch stands, what stands before weighs no more than all
abbrev pub WeighsUpTo : Log → ℕ → List ℕ → ℕ → Type 0
WeighsUpTo log before ns to = ns ≡ [] → before ≤ weight_below log to

weighs_from : (log : Log) (from : ℕ) (ns : List ℕ) (to : ℕ) → Rise from ns to → WeighsUpTo log (weight_below log from) ns to
weighs_from log from ns to rise none = let same : weight_below log from ≡ weight_below log to = ap (λ n. weight_below log n) (ends_here from ns to rise none) in omega (arith, same)

pub weighed_before : (log : Log) (items : List Item) (before from : ℕ) (ns : List ℕ) (ms : List (ℤ × ℕ)) → Rise from ns (tip log) → AreWeighed log before ns ms → AreWeighed (log_with log items) before ns ms
weighed_before log items before from [] [] rise are = tt
weighed_before log items before from [] (m ∷ ms) rise are = absurd are
weighed_before log items before from (n ∷ ns) [] rise are = absurd are
weighed_before log items before from (n ∷ ns) (m ∷ ms) rise are =
    let same : weight_below (log_with log items) n ≡ weight_below log n = weight_longer log items n (not_higher n ns (tip log) rise.1) in
    let here : m.1 + before ≤ weight_below log n = are.1 in
    (are.0, omega (arith, here, same), subst (λ b. AreWeighed (log_with log items) b ns ms) (sym same) (weighed_before log items (weight_below log n) n ns ms rise.1 are.2))

-- a batch more
pub weighed_more : (log : Log) (items : List Item) (state : LogState) (before from : ℕ) (ns : List ℕ) (ms : List (ℤ × ℕ)) (n made : ℕ) → state_at log (tip log) ≡ Ok state → Rise from ns (tip log) → WeighsUpTo log before ns (tip log) → AreWeighed log before ns ms
    → n ≡ tip (log_with log items) → made ≤ item_weights (since_at log) state (tip log) items → AreWeighed (log_with log items) before (ns ++ n ∷ []) (ms ++ (pos n, made) ∷ [])
weighed_more log items state before from [] [] n made seen rise least are end few =
    let at_end : weight_below (log_with log items) n ≡ weight_below log (tip log) + item_weights (since_at log) state (tip log) items = ap (λ k. weight_below (log_with log items) k) end ∙ weight_at_tip log items state seen in
    let start : before ≤ weight_below log (tip log) = least refl in
    (refl, omega (arith, at_end, start, few), tt)
weighed_more log items state before from [] (m ∷ ms) n made seen rise least are end few = absurd are
weighed_more log items state before from (k ∷ ns) [] n made seen rise least are end few = absurd are
weighed_more log items state before from (k ∷ ns) (m ∷ ms) n made seen rise least are end few =
    let same : weight_below (log_with log items) k ≡ weight_below log k = weight_longer log items k (not_higher k ns (tip log) rise.1) in
    let here : m.1 + before ≤ weight_below log k = are.1 in (
      are.0,
      omega (arith, here, same),
      subst (λ b. AreWeighed (log_with log items) b (ns ++ n ∷ []) (ms ++ (pos n, made) ∷ [])) (sym same)
          (weighed_more log items state (weight_below log k) k ns ms n made seen rise.1 (weighs_from log k ns (tip log) rise.1) are.2 end few),
    )

pub all_weighed : (log : Log) (before from : ℕ) (ns : List ℕ) (to : ℕ) (ms : List (ℤ × ℕ)) → Rise from ns to → WeighsUpTo log before ns to → AreWeighed log before ns ms → (calls_of ms + before ≤ weight_below log to) × (length ms ≡ length ns)
all_weighed log before from [] to [] rise least are = let start : before ≤ weight_below log to = least refl in (omega (arith, start), refl)
all_weighed log before from [] to (m ∷ ms) rise least are = absurd are
all_weighed log before from (n ∷ ns) to [] rise least are = absurd are
all_weighed log before from (n ∷ ns) to (m ∷ ms) rise least are =
    let rest = all_weighed log (weight_below log n) n ns to ms rise.1 (weighs_from log n ns to rise.1) are.2 in
    let sum : calls_of ms + weight_below log n ≤ weight_below log to = rest.0 in
    let here : m.1 + before ≤ weight_below log n = are.1 in
    (omega (arith, sum, here, sum_by-cons (λ (k : ℤ × ℕ). k.1) m ms), ap (λ k. suc k) rest.1)

-- ---- going back

pub fewer_calls : (q : ℤ × ℕ → Bool) (ms : List (ℤ × ℕ)) → calls_of (filter q ms) ≤ calls_of ms
fewer_calls q [] = omega arith
fewer_calls q (m ∷ ms) =
    let rest : calls_of (filter q ms) ≤ calls_of ms = fewer_calls q ms in
    elim (q m) as (λ b. calls_of (cond b (m ∷ filter q ms) (filter q ms)) ≤ calls_of (m ∷ ms)) [
      | true ↦ omega (arith, rest, sum_by-cons (λ (k : ℤ × ℕ). k.1) m (filter q ms), sum_by-cons (λ (k : ℤ × ℕ). k.1) m ms)
      | false ↦ omega (arith, rest, sum_by-cons (λ (k : ℤ × ℕ). k.1) m ms)
    ]

not_itself : (n : ℕ) → int_lt (pos n) (pos n) ≡ false
not_itself n = grind (arith, Rattle.std.proofs.lemmas.Int.ints)

-- the counts under the covered ends, and those above them
record Parted (log : Log) (before : ℕ) (covered : List ℕ) (committed : ℕ) (ends : List ℕ) (ms : List (ℤ × ℕ)) : Type 0 where
  lower : List (ℤ × ℕ)
  upper : List (ℤ × ℕ)
  both : ms ≡ lower ++ upper
  under : AreWeighed log before covered lower
  over : AreWeighed log (weight_below log committed) ends upper

parted : (log : Log) (before first : ℕ) (covered : List ℕ) (committed : ℕ) (ends : List ℕ) (ms : List (ℤ × ℕ)) → Rise first covered committed → (covered ≡ [] → before ≡ weight_below log committed)
    → AreWeighed log before (covered ++ ends) ms → Parted log before covered committed ends ms
parted log before first [] committed ends ms rise same are = record { lower = []; upper = ms; both = refl; under = tt; over = subst (λ b. AreWeighed log b ends ms) (same refl) are }
parted log before first (n ∷ covered) committed ends [] rise same are = absurd are
parted log before first (n ∷ covered) committed ends (m ∷ ms) rise same are =
    let rest = parted log (weight_below log n) n covered committed ends ms rise.1 (λ none. ap (λ k. weight_below log k) (ends_here n covered committed rise.1 none)) are.2 in
    record { lower = m ∷ rest.lower; upper = rest.upper; both = ap (λ xs. m ∷ xs) rest.both; under = (are.0, are.1, rest.under); over = rest.over }

-- of the covered ends none is above the committed one
none_above : (log : Log) (before first : ℕ) (covered : List ℕ) (committed : ℕ) (lower upper : List (ℤ × ℕ)) → Rise first covered committed → AreWeighed log before covered lower
    → filter (λ (m : ℤ × ℕ). int_lt (pos committed) m.0) (lower ++ upper) ≡ filter (λ (m : ℤ × ℕ). int_lt (pos committed) m.0) upper
none_above log before first [] committed [] upper rise are = refl
none_above log before first [] committed (m ∷ lower) upper rise are = absurd are
none_above log before first (n ∷ covered) committed [] upper rise are = absurd are
none_above log before first (n ∷ covered) committed (m ∷ lower) upper rise are =
    let rest : List (ℤ × ℕ) = filter (λ (m : ℤ × ℕ). int_lt (pos committed) m.0) (lower ++ upper) in
    ap (λ b. cond b (m ∷ rest) rest) (ap (λ z. int_lt (pos committed) z) are.0 ∙ isnt_below committed n (not_higher n covered committed rise.1))
    ∙ none_above log (weight_below log n) n covered committed lower upper rise.1 are.2

-- and all of them are left
all_left : (log : Log) (before first : ℕ) (covered : List ℕ) (committed : ℕ) (lower upper : List (ℤ × ℕ)) → Rise first covered committed → AreWeighed log before covered lower
    → filter (λ (m : ℤ × ℕ). not (int_lt (pos committed) m.0)) (lower ++ upper) ≡ lower ++ filter (λ (m : ℤ × ℕ). not (int_lt (pos committed) m.0)) upper
all_left log before first [] committed [] upper rise are = refl
all_left log before first [] committed (m ∷ lower) upper rise are = absurd are
all_left log before first (n ∷ covered) committed [] upper rise are = absurd are
all_left log before first (n ∷ covered) committed (m ∷ lower) upper rise are =
    let rest : List (ℤ × ℕ) = filter (λ (m : ℤ × ℕ). not (int_lt (pos committed) m.0)) (lower ++ upper) in
    ap (λ b. cond (not b) (m ∷ rest) rest) (ap (λ z. int_lt (pos committed) z) are.0 ∙ isnt_below committed n (not_higher n covered committed rise.1))
    ∙ ap (λ (xs : List (ℤ × ℕ)). m ∷ xs) (all_left log (weight_below log n) n covered committed lower upper rise.1 are.2)

none_left : (log : Log) (before least from : ℕ) (ends : List ℕ) (to : ℕ) (ms : List (ℤ × ℕ)) → least ≤ from → Rise from ends to → AreWeighed log before ends ms
    → filter (λ (m : ℤ × ℕ). not (int_lt (pos least) m.0)) ms ≡ []
none_left log before least from [] to [] low rise are = refl
none_left log before least from [] to (m ∷ ms) low rise are = absurd are
none_left log before least from (n ∷ ends) to [] low rise are = absurd are
none_left log before least from (n ∷ ends) to (m ∷ ms) low rise are =
    let up : from < n = rise.0 in
    let rest : List (ℤ × ℕ) = filter (λ (m : ℤ × ℕ). not (int_lt (pos least) m.0)) ms in
    ap (λ b. cond (not b) (m ∷ rest) rest) (ap (λ z. int_lt (pos least) z) are.0 ∙ is_below least n (omega (arith, up, low)))
    ∙ none_left log (weight_below log n) least n ends to ms (omega (arith, up, low)) rise.1 are.2

weighed_cut : (log : Log) (end before from : ℕ) (ns : List ℕ) (ms : List (ℤ × ℕ)) → Rise from ns end → AreWeighed log before ns ms → AreWeighed (cut log end) before ns ms
weighed_cut log end before from [] [] rise are = tt
weighed_cut log end before from [] (m ∷ ms) rise are = absurd are
weighed_cut log end before from (n ∷ ns) [] rise are = absurd are
weighed_cut log end before from (n ∷ ns) (m ∷ ms) rise are =
    let same : weight_below (cut log end) n ≡ weight_below log n = weight_cut log end n (not_higher n ns end rise.1) in
    let here : m.1 + before ≤ weight_below log n = are.1 in
    (are.0, omega (arith, here, same), subst (λ b. AreWeighed (cut log end) b ns ms) (sym same) (weighed_cut log end (weight_below log n) n ns ms rise.1 are.2))

module _ (images : Images) (log : Log) (first before committed : ℕ) (covered ends : List ℕ) (to : ℕ) (is : IsWeighed images log first before (covered ++ ends)) (settled : Rise first covered committed) (rise : Rise committed ends to) (same : covered ≡ [] → before ≡ weight_below log committed) where
  parts : Parted log before covered committed ends is.rest
  parts = parted log before first covered committed ends is.rest settled same is.each

  first_below : int_lt (pos committed) (pos first) ≡ false
  first_below = isnt_below committed first (not_higher first covered committed settled)

  -- what a revert to the committed end drops
  gone_above : above images (pos committed) ≡ filter (λ (m : ℤ × ℕ). int_lt (pos committed) m.0) parts.upper
  gone_above =
      let q : ℤ × ℕ → Bool = λ m. int_lt (pos committed) m.0 in
      ap (λ (ms : List (ℤ × ℕ)). filter q ms) (is.counted ∙ ap (λ (ms : List (ℤ × ℕ)). (pos first, 0) ∷ ms) parts.both)
      ∙ (ap (λ b. cond b ((pos first, 0) ∷ filter q (parts.lower ++ parts.upper)) (filter q (parts.lower ++ parts.upper))) first_below
      ∙ none_above log before first covered committed parts.lower parts.upper settled parts.under)

  -- what it takes
  pub lost_bound : (start steps : ℕ) → steps ≤ start + calls_of (above images (pos committed)) + images.made + 7 * length (above images (pos committed)) + 6
      → steps ≤ start + weight_between log committed to + 8 * (length ends + 1)
  lost_bound start steps bound =
      let q : ℤ × ℕ → Bool = λ m. int_lt (pos committed) m.0 in
      let all = all_weighed log (weight_below log committed) committed ends to parts.upper rise (weighs_from log committed ends to rise) parts.over in
      let sum : calls_of parts.upper + weight_below log committed ≤ weight_below log to = all.0 in
      let many : length parts.upper ≡ length ends = all.1 in
      let calls : calls_of (above images (pos committed)) ≤ calls_of parts.upper = subst (λ (ms : List (ℤ × ℕ)). calls_of ms ≤ calls_of parts.upper) (sym gone_above) (fewer_calls q parts.upper) in
      let long : length (above images (pos committed)) ≤ length parts.upper = subst (λ (ms : List (ℤ × ℕ)). length ms ≤ length parts.upper) (sym gone_above) (length-filter_le q parts.upper) in
      let none : images.made ≡ 0 = is.unmade in
      omega (arith, bound, sum, many, calls, long, none)

  -- what is left, in a log that is cut there
  pub lost_weighed : (after : Images) → after.made ≡ 0 → after.kept_made ≡ filter (λ (m : ℤ × ℕ). not (int_lt (pos committed) m.0)) images.kept_made → IsWeighed after (cut log committed) first before covered
  lost_weighed after unmade kept =
      let q : ℤ × ℕ → Bool = λ m. not (int_lt (pos committed) m.0) in record {
        unmade = unmade;
        rest = parts.lower;
        counted =
            kept
            ∙ (ap (λ (ms : List (ℤ × ℕ)). filter q ms) (is.counted ∙ ap (λ (ms : List (ℤ × ℕ)). (pos first, 0) ∷ ms) parts.both)
            ∙ (ap (λ b. cond (not b) ((pos first, 0) ∷ filter q (parts.lower ++ parts.upper)) (filter q (parts.lower ++ parts.upper))) first_below
            ∙ (ap (λ (ms : List (ℤ × ℕ)). (pos first, 0) ∷ ms) (all_left log before first covered committed parts.lower parts.upper settled parts.under)
            ∙ (ap (λ (ms : List (ℤ × ℕ)). (pos first, 0) ∷ parts.lower ++ ms) (none_left log (weight_below log committed) committed committed ends to parts.upper (omega arith) rise parts.over)
            ∙ ap (λ (ms : List (ℤ × ℕ)). (pos first, 0) ∷ ms) (append-nil parts.lower)))));
        each = weighed_cut log committed before first covered parts.lower settled parts.under;
      }

-- ---- a batch behind the others

pub weighed_behind : (images after : Images) (log : Log) (items : List Item) (state : LogState) (first before : ℕ) (ends : List ℕ) (n made : ℕ) → IsWeighed images log first before ends
    → state_at log (tip log) ≡ Ok state → Rise first ends (tip log) → WeighsUpTo log before ends (tip log) → n ≡ tip (log_with log items) → made ≤ item_weights (since_at log) state (tip log) items
    → after.made ≡ 0 → after.kept_made ≡ images.kept_made ++ (pos n, made) ∷ [] → IsWeighed after (log_with log items) first before (ends ++ n ∷ [])
weighed_behind images after log items state first before ends n made is seen rise least end few unmade kept = record {
  unmade = unmade;
  rest = is.rest ++ (pos n, made) ∷ [];
  counted = kept ∙ ap (λ ms. ms ++ (pos n, made) ∷ []) is.counted;
  each = weighed_more log items state before first ends is.rest n made seen rise least is.each end few;
}

-- ---- going on

-- the counts under a new end and above it, and those that are dropped with it
pub record Forgets (log : Log) (from before : ℕ) (ns : List ℕ) (count : ℕ) (ms : List (ℤ × ℕ)) (end : ℤ) : Type 0 where
  pub last : ℕ
  pub rest : List (ℤ × ℕ)
  -- what stands up to the end weighs so much: all below it, where that holds of the first place too
  pub weight : ℕ
  pub weighs : (end ≡ pos from → before ≡ weight_below log from) → weight ≡ weight_below log (unsigned_abs end)
  pub stays : end ≡ pos from → weight ≡ before
  pub left : filter (λ (m : ℤ × ℕ). not (int_lt m.0 end)) ((pos from, count) ∷ ms) ≡ (end, last) ∷ rest
  pub each : AreWeighed log weight (filter (λ n. int_lt end (pos n)) ns) rest
  pub calls : calls_of (filter (λ (m : ℤ × ℕ). int_lt m.0 end) ((pos from, count) ∷ ms)) + last + before ≤ count + weight
  pub many : length (filter (λ (m : ℤ × ℕ). int_lt m.0 end) ((pos from, count) ∷ ms)) ≡ length (filter (λ n. not (int_lt end (pos n))) ns)

module _ (log : Log) (to : ℕ) where
  abbrev made_from : ℤ → List (ℤ × ℕ) → List (ℤ × ℕ)
  made_from end ms = filter (λ (m : ℤ × ℕ). not (int_lt m.0 end)) ms

  abbrev made_below : ℤ → List (ℤ × ℕ) → List (ℤ × ℕ)
  made_below end ms = filter (λ (m : ℤ × ℕ). int_lt m.0 end) ms

  abbrev covered : ℤ → List ℕ → List ℕ
  covered end ns = filter (λ n. not (int_lt end (pos n))) ns

  abbrev ends_above : ℤ → List ℕ → List ℕ
  ends_above end ns = filter (λ n. int_lt end (pos n)) ns

  all_from : (least from before : ℕ) (ns : List ℕ) (ms : List (ℤ × ℕ)) → least ≤ from → Rise from ns to → AreWeighed log before ns ms → made_from (pos least) ms ≡ ms
  all_from least from before [] [] low rise are = refl
  all_from least from before [] (m ∷ ms) low rise are = absurd are
  all_from least from before (n ∷ ns) [] low rise are = absurd are
  all_from least from before (n ∷ ns) (m ∷ ms) low rise are =
      let up : from < n = rise.0 in
      ap (λ b. cond (not b) (m ∷ made_from (pos least) ms) (made_from (pos least) ms)) (ap (λ z. int_lt z (pos least)) are.0 ∙ isnt_below n least (omega (arith, up, low)))
      ∙ ap (λ rest. m ∷ rest) (all_from least n (weight_below log n) ns ms (omega (arith, up, low)) rise.1 are.2)

  none_below : (least from before : ℕ) (ns : List ℕ) (ms : List (ℤ × ℕ)) → least ≤ from → Rise from ns to → AreWeighed log before ns ms → made_below (pos least) ms ≡ []
  none_below least from before [] [] low rise are = refl
  none_below least from before [] (m ∷ ms) low rise are = absurd are
  none_below least from before (n ∷ ns) [] low rise are = absurd are
  none_below least from before (n ∷ ns) (m ∷ ms) low rise are =
      let up : from < n = rise.0 in
      ap (λ b. cond b (m ∷ made_below (pos least) ms) (made_below (pos least) ms)) (ap (λ z. int_lt z (pos least)) are.0 ∙ isnt_below n least (omega (arith, up, low)))
      ∙ none_below least n (weight_below log n) ns ms (omega (arith, up, low)) rise.1 are.2

  none_covered : (least from : ℕ) (ns : List ℕ) → least ≤ from → Rise from ns to → covered (pos least) ns ≡ []
  none_covered least from [] low rise = refl
  none_covered least from (n ∷ ns) low rise =
      let up : from < n = rise.0 in
      ap (λ b. cond (not b) (n ∷ covered (pos least) ns) (covered (pos least) ns)) (is_below least n (omega (arith, up, low)))
      ∙ none_covered least n ns (omega (arith, up, low)) rise.1

  at_first : (from before : ℕ) (ns : List ℕ) (count : ℕ) (ms : List (ℤ × ℕ)) → Rise from ns to → AreWeighed log before ns ms → Forgets log from before ns count ms (pos from)
  at_first from before ns count ms rise are =
      let dropped : made_below (pos from) ((pos from, count) ∷ ms) ≡ [] =
      ap (λ b. cond b ((pos from, count) ∷ made_below (pos from) ms) (made_below (pos from) ms)) (isnt_below from from (omega arith)) ∙ none_below from from before ns ms (omega arith) rise are in record {
        last = count;
        rest = ms;
        weight = before;
        weighs = λ same. same refl;
        stays = λ _. refl;
        left =
            ap (λ b. cond (not b) ((pos from, count) ∷ made_from (pos from) ms) (made_from (pos from) ms)) (isnt_below from from (omega arith))
            ∙ ap (λ rest. (pos from, count) ∷ rest) (all_from from from before ns ms (omega arith) rise are);
        each = subst (λ above. AreWeighed log before above ms) (sym (all_above log to from from ns (omega arith) rise)) are;
        calls = subst (λ (ms : List (ℤ × ℕ)). calls_of ms + count + before ≤ count + before) (sym dropped) (omega arith);
        many = ap (λ (ms : List (ℤ × ℕ)). length ms) dropped ∙ sym (ap (λ (ns : List ℕ). length ns) (none_covered from from ns (omega arith) rise));
      }

  further : (from before n : ℕ) (ns : List ℕ) (count : ℕ) (m : ℤ × ℕ) (ms : List (ℤ × ℕ)) (end : ℤ) → from < n → n ≤ unsigned_abs end → end ≡ pos (unsigned_abs end) → AreWeighed log before (n ∷ ns) (m ∷ ms)
      → Forgets log n (weight_below log n) ns m.1 ms end → Forgets log from before (n ∷ ns) count (m ∷ ms) end
  further from before n ns count m ms end up high natural are f =
      let same : (pos n, m.1) ∷ ms ≡ m ∷ ms = ap (λ z. (z, m.1) ∷ ms) (sym are.0) in
      let low : int_lt (pos from) end ≡ true = ap (int_lt (pos from)) natural ∙ is_below from (unsigned_abs end) (omega (arith, up, high)) in
      let under : int_lt end (pos n) ≡ false = ap (λ z. int_lt z (pos n)) natural ∙ isnt_below (unsigned_abs end) n high in
      let dropped : made_below end ((pos from, count) ∷ m ∷ ms) ≡ (pos from, count) ∷ made_below end ((pos n, m.1) ∷ ms) =
      ap (λ b. cond b ((pos from, count) ∷ made_below end (m ∷ ms)) (made_below end (m ∷ ms))) low ∙ ap (λ xs. (pos from, count) ∷ made_below end xs) (sym same) in
      let here : m.1 + before ≤ weight_below log n = are.1 in
      let sum : calls_of (made_below end ((pos n, m.1) ∷ ms)) + f.last + weight_below log n ≤ m.1 + f.weight = f.calls in record {
        last = f.last;
        rest = f.rest;
        weight = f.weight;
        weighs = λ _. f.weighs (λ _. refl);
        stays = λ same. let first : unsigned_abs end ≡ from = ap unsigned_abs same in absurd (omega (arith, up, high, first));
        left = ap (λ b. cond (not b) ((pos from, count) ∷ made_from end (m ∷ ms)) (made_from end (m ∷ ms))) low ∙ (ap (made_from end) (sym same) ∙ f.left);
        each = subst (λ above. AreWeighed log f.weight above f.rest) (sym (ap (λ b. cond b (n ∷ ends_above end ns) (ends_above end ns)) under)) f.each;
        calls = subst (λ (xs : List (ℤ × ℕ)). calls_of xs + f.last + before ≤ count + f.weight) (sym dropped)
            (omega (arith, sum, here, sum_by-cons (λ (k : ℤ × ℕ). k.1) (pos from, count) (made_below end ((pos n, m.1) ∷ ms))));
        many =
            ap (λ (xs : List (ℤ × ℕ)). length xs) dropped
            ∙ (ap (λ k. suc k) f.many
            ∙ sym (ap (λ b. length (cond (not b) (n ∷ covered end ns) (covered end ns))) under));
      }

  here : (from before : ℕ) (ns : List ℕ) (count : ℕ) (ms : List (ℤ × ℕ)) (end : ℤ) → Rise from ns to → AreWeighed log before ns ms → int_eq end (pos from) ≡ true → Forgets log from before ns count ms end
  here from before ns count ms end rise are same = subst (Forgets log from before ns count ms) (sym (same_id end (pos from) same)) (at_first from before ns count ms rise are)

  abbrev is_one : ℤ → List ℕ → Bool
  is_one end ns = list_any (λ n. int_eq end (pos n)) ns

  forgets : (from before : ℕ) (ns : List ℕ) (count : ℕ) (ms : List (ℤ × ℕ)) (end : ℤ) → Rise from ns to → AreWeighed log before ns ms → is_one end (from ∷ ns) ≡ true → Forgets log from before ns count ms end
  forgets from before [] count [] end rise are is =
      elim (int_eq end (pos from)) as (λ b. int_eq end (pos from) ≡ b → (b || false) ≡ true → Forgets log from before [] count [] end) [
        | true ↦ λ same _. here from before [] count [] end rise are same
        | false ↦ λ other is. absurd cc
      ] refl is
  forgets from before [] count (m ∷ ms) end rise are is = absurd are
  forgets from before (n ∷ ns) count [] end rise are is = absurd are
  forgets from before (n ∷ ns) count (m ∷ ms) end rise are is =
      elim (int_eq end (pos from)) as (λ b. int_eq end (pos from) ≡ b → (b || is_one end (n ∷ ns)) ≡ true → Forgets log from before (n ∷ ns) count (m ∷ ms) end) [
        | true ↦ λ same _. here from before (n ∷ ns) count (m ∷ ms) end rise are same
        | false ↦ λ other is. let up = moves log to n ns end rise.1 is in further from before n ns count m ms end rise.0 up.above up.natural are (forgets n (weight_below log n) ns m.1 ms end rise.1 are.2 is)
      ] refl is

module _ (images : Images) (log : Log) (first before : ℕ) (ends : List ℕ) (to : ℕ) (end : ℤ) (is : IsWeighed images log first before ends) (rise : Rise first ends to) (one : list_any (λ n. int_eq end (pos n)) (first ∷ ends) ≡ true) where
  pub gone : Forgets log first before ends 0 is.rest end
  gone = forgets log to first before ends 0 is.rest end rise is.each one

  -- what stands up to the end weighs so much
  abbrev pub weight_up_to : ℕ
  weight_up_to = gone.weight

  pub weight_told : (end ≡ pos first → before ≡ weight_below log first) → weight_up_to ≡ weight_below log (unsigned_abs end)
  weight_told same = gone.weighs same

  pub weight_stays : end ≡ pos first → weight_up_to ≡ before
  weight_stays same = gone.stays same

  pub commit_weighed : IsWeighed (forgotten images end) log (unsigned_abs end) weight_up_to (filter (λ n. int_lt end (pos n)) ends)
  commit_weighed = record {
    unmade = is.unmade;
    rest = gone.rest;
    counted =
        ap (λ (ms : List (ℤ × ℕ)). oldest_unmade (filter (λ (m : ℤ × ℕ). not (int_lt m.0 end)) ms)) is.counted
        ∙ (ap oldest_unmade gone.left ∙ ap (λ z. (z, 0) ∷ gone.rest) (moves log to first ends end rise one).natural);
    each = gone.each;
  }

  -- what a commit up to the end takes
  pub commit_bound : (start steps : ℕ) → steps ≤ start + calls_of (below images end) + calls_of (oldest_from images end) + 7 * length (below images end) + 6
      → steps ≤ start + steps_for (weight_up_to - before) (length (filter (λ n. not (int_lt end (pos n))) ends))
  commit_bound start steps bound =
      let counted = is.counted in
      let dropped : below images end ≡ filter (λ (m : ℤ × ℕ). int_lt m.0 end) ((pos first, 0) ∷ is.rest) = ap (λ (ms : List (ℤ × ℕ)). filter (λ (m : ℤ × ℕ). int_lt m.0 end) ms) counted in
      let oldest : oldest_from images end ≡ (end, gone.last) ∷ [] = ap (λ (ms : List (ℤ × ℕ)). take 1 (filter (λ (m : ℤ × ℕ). not (int_lt m.0 end)) ms)) counted ∙ ap (take 1) gone.left in
      let calls : calls_of (below images end) + gone.last + before ≤ 0 + gone.weight =
      subst (λ (ms : List (ℤ × ℕ)). calls_of ms + gone.last + before ≤ 0 + gone.weight) (sym dropped) gone.calls in
      let last : calls_of (oldest_from images end) ≡ gone.last = ap calls_of oldest ∙ sum_by-cons (λ (k : ℤ × ℕ). k.1) (end, gone.last) [] ∙ omega arith in
      let many : length (below images end) ≡ length (filter (λ n. not (int_lt end (pos n))) ends) = ap (λ (ms : List (ℤ × ℕ)). length ms) dropped ∙ gone.many in
      omega (arith, bound, calls, last, many)
