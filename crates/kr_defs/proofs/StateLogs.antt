-- States of a log: both images are valid, the open transaction stands in the log, and what a transaction leaves.
use Rattle.std.proofs.Common.{◌≡◌, ◌∙◌, sym, subst, ℕ, suc, ◌+◌, ◌-◌, ◌≤◌, ◌<◌, ℤ, pos, List, [], ◌∷◌, ◌++◌, length, take, drop, refl, ap, arith, append_assoc}
use Rattle.std.specs.Prelude.{Option, Result, Ok, Err, None, Some, is_some, unwrap_or, IfSome, IsOk, cond}
use Rattle.std.proofs.lemmas.List.{take-append-le, take-append-drop, take_all, take-take, length-append, length-take, append-nil}
use Rattle.std.specs.Option.{option_map, option_map_or}
use Rattle.std.specs.Result.{result_err}
use Rattle.kr_defs.specs.declared.record.Record.TheVariants as kinds
use Rattle.kr_defs.specs.declared.record.Item.{Item}
use Rattle.kr_defs.specs.declared.record.Item.TheVariants as items
use Rattle.kr_defs.specs.declared.ill.Ill.{Ill}
use Rattle.kr_defs.specs.declared.ill.Ill.TheVariants.{BadTransaction}
use Rattle.kr_defs.specs.Guard.{and_then}
use Rattle.kr_defs.specs.Image.{Image, IsValid}
use Rattle.kr_defs.specs.Log.{Log, StandsOpen, tip, more, apply_all, closed_end_at, open_at, state_at}
use Rattle.kr_defs.specs.LogStates.{Opened, LogState, closed, IsValidState, begin_at, end_open, abort_open, image_after, apply_at, apply_all_at, closed_end, ill_at_or, first_ill_at, open_behind, open_behind_all, IsBehindGoodAt}
use Rattle.kr_defs.specs.Apply.{apply, apply_record}
use Rattle.kr_defs.proofs.Validity.{kept}
use Rattle.kr_defs.proofs.Tests.{Gives, gives_done, gives_found, gives_refuse, gives_then, none_is, ok_or_this, some_is}

pub then_done : {X E : Type 0} (r : Result X E) → and_then r (λ x. Ok x) ≡ r
then_done (Ok x) = refl
then_done (Err e) = refl

pub ok_is : {X E : Type 0} (a b : X) → ◌≡◌ {A = Result X E} (Ok a) (Ok b) → a ≡ b
ok_is {X} {E} a b e = ap (λ (r : Result X E). ok_or_this a r) e

pub if_some_then : {X : Type 0} (P Q : X → Type 0) (o : Option X) → ((x : X) → P x → Q x) → IfSome o P → IfSome o Q
if_some_then P Q None step p = tt
if_some_then P Q (Some x) step p = step x p

-- ---- what each row gives

module _ (P : LogState → Type 0) (state : LogState) where
  gives_begin : (place : ℕ) → (state.opened ≡ None → P (record state { opened = Some (record { place = place; image = state.image }) })) → Gives P (begin_at state place)
  gives_begin place step = gives_refuse P BadTransaction (is_some state.opened) _ (λ none. gives_done P _ (step (none_is state.opened none)))

  gives_end : ((opened : Opened) → state.opened ≡ Some opened → P (closed state.image)) → Gives P (end_open state)
  gives_end step = gives_found P BadTransaction state.opened _ (λ opened is. gives_done P _ (step opened is))

  gives_abort : ((opened : Opened) → state.opened ≡ Some opened → P (closed opened.image)) → Gives P (abort_open state)
  gives_abort step = gives_found P BadTransaction state.opened _ (λ opened is. gives_done P _ (step opened is))

  gives_image : (item : Item) → ((after : Image) → apply state.image item ≡ Ok after → P (record state { image = after })) → Gives P (image_after state item)
  gives_image item step = gives_then (λ after. apply state.image item ≡ Ok after) P (apply state.image item) _ (λ after is. is) (λ after is. gives_done P _ (step after is))

  -- a property of the new state, by what the item does to a state
  pub gives_row : (place : ℕ) (item : Item)
      → (state.opened ≡ None → P (record state { opened = Some (record { place = place; image = state.image }) }))
      → ((opened : Opened) → state.opened ≡ Some opened → P (closed state.image))
      → ((opened : Opened) → state.opened ≡ Some opened → P (closed opened.image))
      → ((after : Image) → apply state.image item ≡ Ok after → P (record state { image = after }))
      → Gives P (apply_at state place item)
  unfolding apply_at
  gives_row place (items.Record (kinds.BeginTransaction name)) begins ends aborts others = gives_begin place begins
  gives_row place (items.Record kinds.EndTransaction) begins ends aborts others = gives_end ends
  gives_row place (items.Record (kinds.AbortTransaction reason)) begins ends aborts others = gives_abort aborts
  gives_row place item begins ends aborts others = gives_image item others

-- ---- both images are valid

opened_is : {X : Type 0} {a b : X} → Some a ≡ Some b → a ≡ b
opened_is {X} {a} {b} e = some_is a b e

valid_closed : (image : Image) → IsValid image → IsValidState (closed image)
valid_closed image v = record { image = v; below = λ opened is. absurd cc }

pub kept_at_place : (state : LogState) (place : ℕ) (item : Item) → IsValidState state → Gives IsValidState (apply_at state place item)
kept_at_place state place item v = gives_row IsValidState state place item
    (λ none. record { image = v.image; below = λ opened is. subst (λ (o : Opened). IsValid o.image) (opened_is is) v.image })
    (λ opened is. valid_closed state.image v.image)
    (λ opened is. valid_closed opened.image (v.below opened is))
    (λ after is. record { image = kept state.image v.image item after is; below = v.below })

pub kept_all_at : (items : List Item) (state : LogState) (place : ℕ) → IsValidState state → Gives IsValidState (apply_all_at state place items)
kept_all_at [] state place v = gives_done IsValidState state v
kept_all_at (item ∷ items) state place v = gives_then IsValidState IsValidState (apply_at state place item) (λ after. apply_all_at after (place + 1) items) (kept_at_place state place item v) (λ after w. kept_all_at items after (place + 1) w)

pub valid_state_at : (log : Log) (place : ℕ) → IsValid log.image → Gives IsValidState (state_at log place)
unfolding state_at
valid_state_at log place v = kept_all_at (take (place - log.offset) log.items) (closed log.image) log.offset (valid_closed log.image v)

-- ---- one item more

then_both : (r : Result LogState Ill) (first second both : LogState → Result LogState Ill) → ((after : LogState) → both after ≡ and_then (first after) second) → and_then r both ≡ and_then (and_then r first) second
then_both (Ok after) first second both step = step after
then_both (Err cause) first second both step = refl

pub apply_append : (first second : List Item) (state : LogState) (place : ℕ) → apply_all_at state place (first ++ second) ≡ and_then (apply_all_at state place first) (λ after. apply_all_at after (place + length first) second)
apply_append [] second state place = let here : place + 0 ≡ place = omega arith in ap (λ p. apply_all_at state p second) (sym here)
apply_append (item ∷ first) second state place =
    let further : (place + 1) + length first ≡ place + length (item ∷ first) = omega arith in
    then_both (apply_at state place item) (λ after. apply_all_at after (place + 1) first) (λ after. apply_all_at after (place + length (item ∷ first)) second) (λ after. apply_all_at after (place + 1) (first ++ second))
    (λ after. apply_append first second after (place + 1) ∙ ap (λ p. and_then (apply_all_at after (place + 1) first) (λ s. apply_all_at s p second)) further)

pub state_at_start : (log : Log) → state_at log log.offset ≡ Ok (closed log.image)
unfolding state_at
state_at_start log = let zero : log.offset - log.offset ≡ 0 = omega arith in rw zero refl

pub state_at_tip : (log : Log) → state_at log (tip log) ≡ apply_all_at (closed log.image) log.offset log.items
unfolding state_at
state_at_tip log = ap (λ (items : List Item). apply_all_at (closed log.image) log.offset items) (take_all (tip log - log.offset) log.items (omega arith))

pub state_more_at_tip : (log : Log) (item : Item) (state : LogState) → state_at log (tip log) ≡ Ok state → state_at (more log item) (tip log + 1) ≡ apply_at state (tip log) item
unfolding state_at
state_more_at_tip log item state is =
    let long : length (log.items ++ item ∷ []) ≡ length log.items + 1 = length-append log.items (item ∷ []) in
    let whole = take_all (tip log + 1 - log.offset) (log.items ++ item ∷ []) (omega (arith, long)) in
    ap (λ (items : List Item). apply_all_at (closed log.image) log.offset items) whole
    ∙ apply_append log.items (item ∷ []) (closed log.image) log.offset
    ∙ ap (λ r. and_then r (λ after. apply_all_at after (log.offset + length log.items) (item ∷ []))) (sym (state_at_tip log) ∙ is)
    ∙ then_done (apply_at state (tip log) item)

pub state_more_below : (log : Log) (item : Item) (place : ℕ) → place ≤ tip log → state_at (more log item) place ≡ state_at log place
unfolding state_at
state_more_below log item place below = ap (λ (items : List Item). apply_all_at (closed log.image) log.offset items) (take-append-le (place - log.offset) log.items (item ∷ []) (omega arith))

-- ---- items of no transaction

begin_is_none : (image : Image) (name : Option (List ℕ)) (after : Image) → apply image (items.Record (kinds.BeginTransaction name)) ≡ Ok after → ⊥
unfolding apply apply_record
begin_is_none image name after is = absurd cc

end_is_none : (image after : Image) → apply image (items.Record kinds.EndTransaction) ≡ Ok after → ⊥
unfolding apply apply_record
end_is_none image after is = absurd cc

abort_is_none : (image : Image) (reason : Option (List ℕ)) (after : Image) → apply image (items.Record (kinds.AbortTransaction reason)) ≡ Ok after → ⊥
unfolding apply apply_record
abort_is_none image reason after is = absurd cc

pub plain_at : (state : LogState) (place : ℕ) (item : Item) (after : Image) → apply state.image item ≡ Ok after → apply_at state place item ≡ Ok (record state { image = after })
unfolding apply_at
plain_at state place (items.Record (kinds.BeginTransaction name)) after is = absurd (begin_is_none state.image name after is)
plain_at state place (items.Record kinds.EndTransaction) after is = absurd (end_is_none state.image after is)
plain_at state place (items.Record (kinds.AbortTransaction reason)) after is = absurd (abort_is_none state.image reason after is)
plain_at state place item after is = ap (λ r. and_then r (λ i. Ok (record state { image = i }))) is

plain_then : (state : LogState) (place : ℕ) (item : Item) (items : List Item) (after : Image) (r : Result Image Ill) → apply state.image item ≡ r
    → ((mid : Image) → apply_all mid items ≡ Ok after → apply_all_at (record state { image = mid }) (place + 1) items ≡ Ok (record state { image = after }))
    → and_then r (λ i. apply_all i items) ≡ Ok after → and_then (apply_at state place item) (λ s. apply_all_at s (place + 1) items) ≡ Ok (record state { image = after })
plain_then state place item items after (Ok mid) is step all = ap (λ r. and_then r (λ s. apply_all_at s (place + 1) items)) (plain_at state place item mid is) ∙ step mid all
plain_then state place item items after (Err cause) is step all = absurd cc

-- items that an image takes change the image of a state alone
pub plain_all : (items : List Item) (state : LogState) (place : ℕ) (after : Image) → apply_all state.image items ≡ Ok after → apply_all_at state place items ≡ Ok (record state { image = after })
plain_all [] state place after is = ap (λ r. and_then r (λ i. Ok (record state { image = i }))) is
plain_all (item ∷ items) state place after is = plain_then state place item items after (apply state.image item) refl (λ mid all. plain_all items (record state { image = mid }) (place + 1) after all) is

-- ---- a whole transaction

begins : (state : LogState) (place : ℕ) (name : Option (List ℕ)) → state.opened ≡ None → apply_at state place (items.Record (kinds.BeginTransaction name)) ≡ Ok (record state { opened = Some (record { place = place; image = state.image }) })
unfolding apply_at
begins state place name none = ap (λ (o : Option Opened). cond (is_some o) (Err BadTransaction) (Ok (record state { opened = Some (record { place = place; image = state.image }) }))) none

module _ (state : LogState) (place : ℕ) (name : Option (List ℕ)) (inner : List Item) (after : Image) (none : state.opened ≡ None) (is : apply_all state.image inner ≡ Ok after) where
  run : (last : Item) → apply_all_at state place (items.Record (kinds.BeginTransaction name) ∷ inner ++ last ∷ []) ≡ apply_at (record { image = after; opened = Some (record { place = place; image = state.image }) }) ((place + 1) + length inner) last
  run last =
      let begun : LogState = record state { opened = Some (record { place = place; image = state.image }) } in
      ap (λ r. and_then r (λ s. apply_all_at s (place + 1) (inner ++ last ∷ []))) (begins state place name none)
      ∙ apply_append inner (last ∷ []) begun (place + 1)
      ∙ ap (λ r. and_then r (λ s. apply_all_at s ((place + 1) + length inner) (last ∷ []))) (plain_all inner begun (place + 1) after is)
      ∙ then_done (apply_at (record { image = after; opened = Some (record { place = place; image = state.image }) }) ((place + 1) + length inner) last)

  pub ended : apply_all_at state place (items.Record (kinds.BeginTransaction name) ∷ inner ++ items.Record kinds.EndTransaction ∷ []) ≡ Ok (closed after)
  unfolding apply_at
  ended = run (items.Record kinds.EndTransaction)

  pub aborted : (reason : Option (List ℕ)) → apply_all_at state place (items.Record (kinds.BeginTransaction name) ∷ inner ++ items.Record (kinds.AbortTransaction reason) ∷ []) ≡ Ok (closed state.image)
  unfolding apply_at
  aborted reason = run (items.Record (kinds.AbortTransaction reason))

-- ---- the open transaction stands in the log

module _ (start : LogState) (offset : ℕ) where
  -- after these items the transaction is open that was opened among them
  record IsOpenedIn (done : List Item) (opened : Opened) : Type 0 where
    pub count : ℕ
    pub less : count < length done
    pub at : opened.place ≡ offset + count
    pub there : apply_all_at start offset (take count done) ≡ Ok (closed opened.image)

  abbrev AreOpenedIn : List Item → LogState → Type 0
  AreOpenedIn done state = (opened : Opened) → state.opened ≡ Some opened → IsOpenedIn done opened

  still_opened : (done : List Item) (item : Item) (opened : Opened) → IsOpenedIn done opened → IsOpenedIn (done ++ item ∷ []) opened
  still_opened done item opened i =
      let long : length (done ++ item ∷ []) ≡ length done + 1 = length-append done (item ∷ []) in
      let less = i.less in
      record { count = i.count; less = omega (arith, long, less); at = i.at; there = ap (λ items. apply_all_at start offset items) (take-append-le i.count done (item ∷ []) (omega (arith, less))) ∙ i.there }

  opened_here : (done : List Item) (item : Item) (state : LogState) → apply_all_at start offset done ≡ Ok state → state.opened ≡ None → IsOpenedIn (done ++ item ∷ []) (record { place = offset + length done; image = state.image })
  opened_here done item state is none =
      let long : length (done ++ item ∷ []) ≡ length done + 1 = length-append done (item ∷ []) in
      record { count = length done; less = omega (arith, long); at = refl; there = ap (λ items. apply_all_at start offset items) (take-append-le (length done) done (item ∷ []) (omega arith) ∙ take_all (length done) done (omega arith)) ∙ is ∙ ap (λ (o : Option Opened). Ok (record { image = state.image; opened = o })) none }

  opened_step : (done : List Item) (item : Item) (state : LogState) → apply_all_at start offset done ≡ Ok state → AreOpenedIn done state → Gives (λ after. AreOpenedIn (done ++ item ∷ []) after) (apply_at state (offset + length done) item)
  opened_step done item state is are = gives_row (λ after. AreOpenedIn (done ++ item ∷ []) after) state (offset + length done) item
      (λ none opened some. subst (IsOpenedIn (done ++ item ∷ [])) (opened_is some) (opened_here done item state is none))
      (λ before there opened some. absurd cc)
      (λ before there opened some. absurd cc)
      (λ after applied opened some. still_opened done item opened (are opened some))

  opened_all : (rest done : List Item) (state : LogState) → apply_all_at start offset done ≡ Ok state → AreOpenedIn done state → Gives (λ after. AreOpenedIn (done ++ rest) after) (apply_all_at state (offset + length done) rest)
  opened_all [] done state is are = gives_done (λ after. AreOpenedIn (done ++ []) after) state (subst (λ items. AreOpenedIn items state) (sym (append-nil done)) are)
  opened_all (item ∷ rest) done state is are =
      let p : ℕ = offset + length done in
      let Q : LogState → Type 0 = λ mid. (apply_all_at start offset (done ++ item ∷ []) ≡ Ok mid) × AreOpenedIn (done ++ item ∷ []) mid in
      let P : LogState → Type 0 = λ after. AreOpenedIn (done ++ item ∷ rest) after in
      let next : offset + length (done ++ item ∷ []) ≡ p + 1 = let long = length-append done (item ∷ []) in omega (arith, long) in
      gives_then Q P (apply_at state p item) (λ mid. apply_all_at mid (p + 1) rest)
      (λ mid given. (apply_append done (item ∷ []) start offset ∙ ap (λ r. and_then r (λ s. apply_all_at s p (item ∷ []))) is ∙ then_done (apply_at state p item) ∙ given, opened_step done item state is are mid given))
      (λ mid q. subst (λ n. Gives P (apply_all_at mid n rest)) next (subst (λ items. Gives (λ after. AreOpenedIn items after) (apply_all_at mid (offset + length (done ++ item ∷ [])) rest)) (append_assoc done (item ∷ []) rest) (opened_all rest (done ++ item ∷ []) mid q.0 q.1)))

pub open_stands : (log : Log) (end : ℕ) (state : LogState) (opened : Opened) → state_at log end ≡ Ok state → state.opened ≡ Some opened → StandsOpen log end opened
unfolding state_at
open_stands log end state opened is some =
    let few : List Item = take (end - log.offset) log.items in
    let here : log.offset + 0 ≡ log.offset = omega arith in
    let i : IsOpenedIn (closed log.image) log.offset few opened = opened_all (closed log.image) log.offset few [] (closed log.image) refl (λ opened none. absurd cc) state (ap (λ n. apply_all_at (closed log.image) n few) here ∙ is) opened some in
    let short = length-take (end - log.offset) log.items in
    let less = i.less in
    let at = i.at in
    let counted : opened.place - log.offset ≡ i.count = omega (arith, at) in
    record {
      above = omega (arith, at);
      below = omega (arith, at, less, short);
      there = ap (λ n. apply_all_at (closed log.image) log.offset (take n log.items)) counted
          ∙ sym (ap (λ items. apply_all_at (closed log.image) log.offset items) (take-take i.count (end - log.offset) log.items (omega (arith, less, short)))) ∙ i.there;
    }

-- ---- the closed end rises

abbrev IsOpenBelow : ℕ → LogState → Type 0
IsOpenBelow place state = (opened : Opened) → state.opened ≡ Some opened → opened.place ≤ place

end_further : (o : Option Opened) (place : ℕ) → option_map_or (λ (opened : Opened). opened.place) o place ≤ option_map_or (λ (opened : Opened). opened.place) o (place + 1)
end_further None place = omega arith
end_further (Some opened) place = omega arith

end_at_most : (state : LogState) (place : ℕ) → IsOpenBelow place state → closed_end state place ≤ place
end_at_most state place low = elim state.opened as (λ o. state.opened ≡ o → option_map_or (λ (opened : Opened). opened.place) o place ≤ place) [
  | None ↦ λ is. omega arith
  | Some opened ↦ λ is. low opened is
] refl

abbrev Rises : ℕ → ℕ → LogState → Type 0
Rises least place after = (least ≤ closed_end after place) × IsOpenBelow place after

rises_one : (state : LogState) (place : ℕ) (item : Item) → IsOpenBelow place state → Gives (Rises (closed_end state place) (place + 1)) (apply_at state place item)
rises_one state place item low =
    let low_end : closed_end state place ≤ place = end_at_most state place low in
    gives_row (Rises (closed_end state place) (place + 1)) state place item
    (λ none. (low_end, λ opened some. subst (λ (o : Opened). o.place ≤ place + 1) (opened_is some) (omega arith)))
    (λ opened some. (omega (arith, low_end), λ later none. absurd cc))
    (λ opened some. (omega (arith, low_end), λ later none. absurd cc))
    (λ after is. (end_further state.opened place, λ opened some. let le = low opened some in omega (arith, le)))

rises_all : (items : List Item) (state : LogState) (place least : ℕ) → Rises least place state → Gives (Rises least (place + length items)) (apply_all_at state place items)
rises_all [] state place least r = let here : place ≡ place + 0 = omega arith in gives_done (Rises least (place + 0)) state (subst (λ p. Rises least p state) here r)
rises_all (item ∷ items) state place least r =
    let further : (place + 1) + length items ≡ place + length (item ∷ items) = omega arith in
    let le = r.0 in
    gives_then (Rises (closed_end state place) (place + 1)) (Rises least (place + length (item ∷ items))) (apply_at state place item) (λ mid. apply_all_at mid (place + 1) items) (rises_one state place item r.1)
    (λ mid q. let more = q.0 in subst (λ p. Gives (Rises least p) (apply_all_at mid (place + 1) items)) further (rises_all items mid (place + 1) least (omega (arith, le, more), q.1)))

open_below : (log : Log) (place : ℕ) (state : LogState) → state_at log place ≡ Ok state → IsOpenBelow place state
open_below log place state is opened some = let below = (open_stands log place state opened is some).below in omega (arith, below)

pub closed_end_rises : (log : Log) (low high : ℕ) (before after : LogState) → log.offset ≤ low → low ≤ high → high ≤ tip log → state_at log low ≡ Ok before → state_at log high ≡ Ok after → closed_end before low ≤ closed_end after high
unfolding state_at
closed_end_rises log low high before after start le end is_before is_after =
    let first : List Item = take (low - log.offset) log.items in
    let rest : List Item = drop (low - log.offset) (take (high - log.offset) log.items) in
    let parted : first ++ rest ≡ take (high - log.offset) log.items =
    ap (λ (front : List Item). front ++ rest) (sym (take-take (low - log.offset) (high - log.offset) log.items (omega (arith, le)))) ∙ take-append-drop (low - log.offset) (take (high - log.offset) log.items) in
    let few = length-take (low - log.offset) log.items in
    let many = length-take (high - log.offset) log.items in
    let both = length-append first rest in
    let all : length (first ++ rest) ≡ length (take (high - log.offset) log.items) = ap length parted in
    let at_low : log.offset + length first ≡ low = omega (arith, few, start, le, end) in
    let at_high : low + length rest ≡ high = omega (arith, few, many, both, all, start, le, end) in
    let whole : apply_all_at before low rest ≡ Ok after =
    sym (ap (λ r. and_then r (λ s. apply_all_at s low rest)) is_before)
    ∙ sym (ap (λ n. and_then (apply_all_at (closed log.image) log.offset first) (λ s. apply_all_at s n rest)) at_low)
    ∙ sym (apply_append first rest (closed log.image) log.offset)
    ∙ ap (λ (xs : List Item). apply_all_at (closed log.image) log.offset xs) parted ∙ is_after in
    let same : closed_end before low ≤ closed_end before low = omega arith in
    let risen : Rises (closed_end before low) (low + length rest) after = rises_all rest before low (closed_end before low) (same, open_below log low before is_before) after whole in
    subst (λ p. closed_end before low ≤ closed_end after p) at_high risen.0

-- ---- closed ends, told by the items alone

abbrev place_in : Option Opened → Option ℕ
place_in opened = option_map (λ (o : Opened). o.place) opened

open_one : (state : LogState) (place : ℕ) (item : Item) → Gives (λ after. place_in after.opened ≡ open_behind (place_in state.opened) place item) (apply_at state place item)
unfolding apply_at
open_one state place (items.Record (kinds.BeginTransaction name)) = gives_begin (λ after. place_in after.opened ≡ Some (unwrap_or (place_in state.opened) place)) state place (λ none. ap (λ (o : Option Opened). Some (unwrap_or (place_in o) place)) (sym none))
open_one state place (items.Record kinds.EndTransaction) = gives_end (λ after. place_in after.opened ≡ None) state (λ opened some. refl)
open_one state place (items.Record (kinds.AbortTransaction reason)) = gives_abort (λ after. place_in after.opened ≡ None) state (λ opened some. refl)
open_one state place item = gives_image (λ after. place_in after.opened ≡ place_in state.opened) state item (λ after is. refl)

pub open_all : (items : List Item) (state : LogState) (place : ℕ) → Gives (λ after. place_in after.opened ≡ open_behind_all (place_in state.opened) place items) (apply_all_at state place items)
open_all [] state place = gives_done (λ (after : LogState). place_in after.opened ≡ place_in state.opened) state refl
open_all (item ∷ items) state place =
    gives_then (λ (mid : LogState). place_in mid.opened ≡ open_behind (place_in state.opened) place item) (λ (after : LogState). place_in after.opened ≡ open_behind_all (open_behind (place_in state.opened) place item) (place + 1) items)
    (apply_at state place item) (λ mid. apply_all_at mid (place + 1) items) (open_one state place item)
    (λ mid here after is. open_all items mid (place + 1) after is ∙ ap (λ o. open_behind_all o (place + 1) items) here)

end_in : (o : Option Opened) (place : ℕ) → option_map_or (λ (opened : Opened). opened.place) o place ≡ unwrap_or (place_in o) place
end_in None place = refl
end_in (Some opened) place = refl

pub open_told : (log : Log) (place : ℕ) (state : LogState) → state_at log place ≡ Ok state → option_map (λ (o : Opened). o.place) state.opened ≡ open_at log place
unfolding state_at open_at
open_told log place state is = open_all (take (place - log.offset) log.items) (closed log.image) log.offset state is

pub closed_end_told : (log : Log) (place : ℕ) (state : LogState) → state_at log place ≡ Ok state → closed_end state place ≡ closed_end_at log place
closed_end_told log place state is = end_in state.opened place ∙ ap (λ o. unwrap_or o place) (open_told log place state is)

pub open_append : (first second : List Item) (opened : Option ℕ) (place : ℕ) → open_behind_all opened place (first ++ second) ≡ open_behind_all (open_behind_all opened place first) (place + length first) second
open_append [] second opened place = let here : place + 0 ≡ place = omega arith in ap (λ p. open_behind_all opened p second) (sym here)
open_append (item ∷ first) second opened place =
    let further : (place + 1) + length first ≡ place + length (item ∷ first) = omega arith in
    open_append first second (open_behind opened place item) (place + 1) ∙ ap (λ p. open_behind_all (open_behind_all (open_behind opened place item) (place + 1) first) p second) further

-- an open transaction isn't above its place, and what is closed stays so
record StaysClosed (least : ℕ) (place : ℕ) (opened : Option ℕ) : Type 0 where
  from : least ≤ unwrap_or opened place
  to : unwrap_or opened place ≤ place

stays_one : (opened : Option ℕ) (least place : ℕ) (item : Item) → StaysClosed least place opened → StaysClosed least (place + 1) (open_behind opened place item)
stays_one opened least place (items.Record (kinds.BeginTransaction name)) s = let from = s.from in let to = s.to in record { from = from; to = omega (arith, to) }
stays_one opened least place (items.Record kinds.EndTransaction) s = let from = s.from in let to = s.to in record { from = omega (arith, from, to); to = omega arith }
stays_one opened least place (items.Record (kinds.AbortTransaction reason)) s = let from = s.from in let to = s.to in record { from = omega (arith, from, to); to = omega arith }
stays_one None least place item s = let from = s.from in record { from = omega (arith, from); to = omega arith }
stays_one (Some at) least place item s = let from = s.from in let to = s.to in record { from = from; to = omega (arith, to) }

stays_all : (items : List Item) (opened : Option ℕ) (least place : ℕ) → StaysClosed least place opened → StaysClosed least (place + length items) (open_behind_all opened place items)
stays_all [] opened least place s = let here : place ≡ place + 0 = omega arith in subst (λ p. StaysClosed least p opened) here s
stays_all (item ∷ items) opened least place s =
    let further : (place + 1) + length items ≡ place + length (item ∷ items) = omega arith in
    subst (λ p. StaysClosed least p (open_behind_all (open_behind opened place item) (place + 1) items)) further (stays_all items (open_behind opened place item) least (place + 1) (stays_one opened least place item s))

begins_closed : (log : Log) (place : ℕ) → log.offset ≤ place → place ≤ tip log → StaysClosed log.offset place (open_behind_all None log.offset (take (place - log.offset) log.items))
begins_closed log place start end =
    let few = length-take (place - log.offset) log.items in
    let at : log.offset + length (take (place - log.offset) log.items) ≡ place = omega (arith, few, start, end) in
    subst (λ p. StaysClosed log.offset p (open_behind_all None log.offset (take (place - log.offset) log.items))) at
    (stays_all (take (place - log.offset) log.items) None log.offset log.offset (record { from = omega arith; to = omega arith }))

-- it isn't above the place, nor below the log's start
pub closed_end_between : (log : Log) (place : ℕ) → log.offset ≤ place → place ≤ tip log → (log.offset ≤ closed_end_at log place) × (closed_end_at log place ≤ place)
unfolding open_at
closed_end_between log place start end = let s = begins_closed log place start end in (s.from, s.to)

pub closed_end_stays : (log : Log) (low high : ℕ) → log.offset ≤ low → low ≤ high → high ≤ tip log → closed_end_at log low ≤ closed_end_at log high
unfolding open_at
closed_end_stays log low high start le end =
    let first : List Item = take (low - log.offset) log.items in
    let rest : List Item = drop (low - log.offset) (take (high - log.offset) log.items) in
    let parted : first ++ rest ≡ take (high - log.offset) log.items =
    ap (λ (front : List Item). front ++ rest) (sym (take-take (low - log.offset) (high - log.offset) log.items (omega (arith, le)))) ∙ take-append-drop (low - log.offset) (take (high - log.offset) log.items) in
    let few = length-take (low - log.offset) log.items in
    let many = length-take (high - log.offset) log.items in
    let both = length-append first rest in
    let all : length (first ++ rest) ≡ length (take (high - log.offset) log.items) = ap length parted in
    let at_low : log.offset + length first ≡ low = omega (arith, few, start, le, end) in
    let at_high : low + length rest ≡ high = omega (arith, few, many, both, all, start, le, end) in
    let opened : Option ℕ = open_behind_all None log.offset first in
    let b = begins_closed log low start (omega (arith, le, end)) in
    let to = b.to in
    let begun : StaysClosed (unwrap_or opened low) low opened = record { from = omega arith; to = to } in
    let risen : StaysClosed (unwrap_or opened low) (low + length rest) (open_behind_all opened low rest) = stays_all rest opened (unwrap_or opened low) low begun in
    let whole : open_behind_all opened low rest ≡ open_behind_all None log.offset (take (high - log.offset) log.items) =
    ap (λ p. open_behind_all opened p rest) (sym at_low) ∙ sym (open_append first rest None log.offset) ∙ ap (λ (xs : List Item). open_behind_all None log.offset xs) parted in
    let at_end : StaysClosed (unwrap_or opened low) high (open_behind_all opened low rest) = subst (λ p. StaysClosed (unwrap_or opened low) p (open_behind_all opened low rest)) at_high risen in
    let least = at_end.from in
    subst (λ (o : Option ℕ). unwrap_or opened low ≤ unwrap_or o high) whole least

-- ---- a log of no transaction

pub plain_log : (log : Log) (place : ℕ) (image : Image) → apply_all log.image (take (place - log.offset) log.items) ≡ Ok image → state_at log place ≡ Ok (closed image)
unfolding state_at
plain_log log place image is = plain_all (take (place - log.offset) log.items) (closed log.image) log.offset image is

-- ---- the first ill item

cause_of : (r : Result LogState Ill) (place : ℕ) (items : List Item) → ((after : LogState) → option_map (λ (i : ℤ × Ill). i.1) (first_ill_at after (place + 1) items) ≡ result_err (apply_all_at after (place + 1) items))
    → option_map (λ (i : ℤ × Ill). i.1) (ill_at_or place r (λ after. first_ill_at after (place + 1) items)) ≡ result_err (and_then r (λ after. apply_all_at after (place + 1) items))
cause_of (Ok after) place items step = step after
cause_of (Err cause) place items step = refl

pub cause_named_at : (items : List Item) (state : LogState) (place : ℕ) → option_map (λ (i : ℤ × Ill). i.1) (first_ill_at state place items) ≡ result_err (apply_all_at state place items)
cause_named_at [] state place = refl
cause_named_at (item ∷ items) state place = cause_of (apply_at state place item) place items (λ after. cause_named_at items after (place + 1))

one_further : (state after : LogState) (place : ℕ) (item : Item) (items : List Item) → apply_at state place item ≡ Ok after
    → (ill : ℤ × Ill) → IsBehindGoodAt after (place + 1) items ill → IsBehindGoodAt state place (item ∷ items) ill
one_further state after place item items is ill (n, fewer, at, good) =
    let G : Result LogState Ill → Type 0 = λ r. IsOk (and_then r (λ s. apply_all_at s (place + 1) (take n items))) in
    let few : suc n < length (item ∷ items) = omega (arith, fewer) in
    let next : (place + 1) + n ≡ place + suc n = omega arith in
    (suc n, few, at ∙ ap (λ m. pos m) next, subst G (sym is) good)

place_of : (state : LogState) (place : ℕ) (item : Item) (items : List Item) (r : Result LogState Ill) → apply_at state place item ≡ r
    → ((after : LogState) → IfSome (first_ill_at after (place + 1) items) (IsBehindGoodAt after (place + 1) items))
    → IfSome (ill_at_or place r (λ after. first_ill_at after (place + 1) items)) (IsBehindGoodAt state place (item ∷ items))
place_of state place item items (Ok after) is step =
    if_some_then (IsBehindGoodAt after (place + 1) items) (IsBehindGoodAt state place (item ∷ items)) (first_ill_at after (place + 1) items)
    (one_further state after place item items is) (step after)
place_of state place item items (Err cause) is step =
    let some : 0 < length (item ∷ items) = omega arith in
    let here : place ≡ place + 0 = omega arith in
    (0, some, ap (λ m. pos m) here, refl)

pub place_named_at : (items : List Item) (state : LogState) (place : ℕ) → IfSome (first_ill_at state place items) (IsBehindGoodAt state place items)
place_named_at [] state place = tt
place_named_at (item ∷ items) state place = place_of state place item items (apply_at state place item) refl (λ after. place_named_at items after (place + 1))
