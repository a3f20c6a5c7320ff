-- Where the transaction began that is open at a place of a log, and the closed end there.
use Rattle.std.proofs.Common.{◌≡◌, ◌∙◌, sym, subst, ℕ, ℤ, pos, Bool, true, false, cond, not, ◌+◌, ◌-◌, ◌≤◌, ◌<◌, List, [], ◌∷◌, ◌++◌, map, filter, take, drop, length, refl, ap, arith}
use Rattle.std.proofs.Common.{inl, inr}
use Rattle.std.proofs.lemmas.List.{length-append, length-take, take-append-drop, take-take}
use Rattle.std.proofs.lemmas.List.Elements.{All-from_recursion}
use Rattle.std.specs.Prelude.{◌⊎◌, Option, Some, None, Result, Ok, All, IfSome, IsTrue, IsSome, int_lt, unwrap_or}
use Rattle.std.specs.List.{AllByRecursion}
use Rattle.std.specs.Option.{option_map, option_map_or}
use Rattle.std.specs.Result.{result_unwrap_or}
use Rattle.kr_defs.specs.declared.ill.Ill.{Ill}
use Rattle.kr_defs.specs.declared.record.Item.{Item}
use Rattle.kr_defs.specs.declared.record.Item.TheVariants as items
use Rattle.kr_defs.specs.declared.record.Record.TheVariants as kinds
use Rattle.kr_defs.specs.Image.{Image, empty}
use Rattle.kr_defs.specs.Log.{Log, StandsOpen, closed_end_at, image_at, open_at, state_at, tip}
use Rattle.kr_defs.specs.LogStates.{LogState, Opened, closed, open_behind, open_behind_all}
use Rattle.kr_defs.proofs.StateLogs.{closed_end_between, closed_end_stays, open_append, open_stands, open_told}
use Rattle.kr_defs.proofs.Tests.{some_is}
use Rattle.kr_store.specs.Images.{Images, AreBegunFrom, kept_at, opened_at, opened_under, tip_state}
use Rattle.kr_model.specs.Engine.{Core, IsEngine, Rise, kept_begin, kept_places}
use Rattle.kr_model.specs.World.{State, closed_of, seen_at, tip_of}
use Rattle.kr_model.specs.declared.writes.Write.{Write}
use Rattle.kr_model.proofs.KeptImages.{not_higher, seen_below}
use Rattle.kr_model.proofs.Logs.{HasState, state_seen, image_there}
use Rattle.kr_model.proofs.Places.{is_below, isnt_below}

-- ---- the begin of an open transaction

-- what is open behind items, and began before them, was open before them
before_items : (xs : List Item) (o : Option ℕ) (place begin : ℕ) → open_behind_all o place xs ≡ Some begin → begin < place → o ≡ Some begin
before_items [] o place begin is low = is
before_items (x ∷ xs) o place begin is low = one x (before_items xs (open_behind o place x) (place + 1) begin is (omega (arith, low)))
  where
    -- a begin behind an open transaction has no meaning
    kept_open : (o : Option ℕ) → Some (unwrap_or o place) ≡ Some begin → o ≡ Some begin
    kept_open None is = absurd (let at : place ≡ begin = some_is place begin is in omega (arith, at, low))
    kept_open (Some n) is = is

    one : (x : Item) → open_behind o place x ≡ Some begin → o ≡ Some begin
    one (items.Record (kinds.BeginTransaction name)) is = kept_open o is
    one (items.Record kinds.EndTransaction) is = absurd cc
    one (items.Record (kinds.AbortTransaction reason)) is = absurd cc
    one other is = is

-- the items from one place up to another
record Between (log : Log) (low high : ℕ) : Type 0 where
  items : List Item
  behind : open_at log high ≡ open_behind_all (open_at log low) low items

between : (log : Log) (low high : ℕ) → log.offset ≤ low → low ≤ high → high ≤ tip log → Between log low high
unfolding open_at
between log low high start le end =
    let first : List Item = take (low - log.offset) log.items in
    let rest : List Item = drop (low - log.offset) (take (high - log.offset) log.items) in
    let parted : first ++ rest ≡ take (high - log.offset) log.items =
    ap (λ (front : List Item). front ++ rest) (sym (take-take (low - log.offset) (high - log.offset) log.items (omega (arith, le)))) ∙ take-append-drop (low - log.offset) (take (high - log.offset) log.items) in
    let few = length-take (low - log.offset) log.items in
    let at_low : log.offset + length first ≡ low = omega (arith, few, start, le, end) in
    let opened : Option ℕ = open_behind_all None log.offset first in
    record {
      items = rest;
      behind = sym (ap (λ (xs : List Item). open_behind_all None log.offset xs) parted) ∙ (open_append first rest None log.offset ∙ ap (λ p. open_behind_all opened p rest) at_low);
    }

-- what is open at a place, and began before an earlier one, was open there
pub open_before : (log : Log) (low high begin : ℕ) → log.offset ≤ low → low ≤ high → high ≤ tip log → open_at log high ≡ Some begin → begin < low → open_at log low ≡ Some begin
open_before log low high begin start le end is early =
    let b = between log low high start le end in
    before_items b.items (open_at log low) low begin (sym b.behind ∙ is) early

-- ---- logs that have a state

seen_state : (log : Log) (image : Image) (place : ℕ) → image_at log (tip log) ≡ Ok image → HasState log place (seen_at log place)
seen_state log image place is = state_seen log place (seen_at log place) (seen_below log place image is)

-- a transaction that is open at a place began below it, where none was open
pub record Stands (log : Log) (place begin : ℕ) : Type 0 where
  pub above : log.offset ≤ begin
  pub below : begin < place
  pub none : open_at log begin ≡ None
  -- the state at the place keeps the image there
  pub image : Image
  pub seen : seen_at log begin ≡ image

stands_by : (log : Log) (place begin : ℕ) (h : HasState log place (seen_at log place)) (o : Option Opened) → h.state.opened ≡ o → option_map (λ (o : Opened). o.place) o ≡ Some begin → Stands log place begin
stands_by log place begin h None is at = absurd cc
stands_by log place begin h (Some opened) is at =
    let s : StandsOpen log place opened = open_stands log place h.state opened h.there is in
    let same : opened.place ≡ begin = some_is opened.place begin at in
    let above = s.above in
    let below = s.below in
    record {
      above = omega (arith, above, same);
      below = omega (arith, below, same);
      none = subst (λ n. open_at log n ≡ None) same (sym (open_told log opened.place (closed opened.image) s.there));
      image = opened.image;
      seen = subst (λ n. seen_at log n ≡ opened.image) same (ap (λ r. result_unwrap_or r empty) (image_there log opened.place (closed opened.image) s.there));
    }

pub stands_open : (log : Log) (image : Image) (place begin : ℕ) → image_at log (tip log) ≡ Ok image → open_at log place ≡ Some begin → Stands log place begin
stands_open log image place begin is unclosed =
    let h = seen_state log image place is in
    stands_by log place begin h h.state.opened refl (open_told log place h.state h.there ∙ unclosed)

-- the closed end at a closed end is that end
pub closed_there : (log : Log) (image : Image) (place : ℕ) → image_at log (tip log) ≡ Ok image → open_at log (closed_end_at log place) ≡ None
closed_there log image place is =
    elim (open_at log place) as (λ o. open_at log place ≡ o → open_at log (unwrap_or o place) ≡ None) [
      | None ↦ λ unclosed. unclosed
      | Some begin ↦ λ unclosed. (stands_open log image place begin is unclosed).none
    ] refl

pub itself : (log : Log) (image : Image) (place : ℕ) → image_at log (tip log) ≡ Ok image → closed_end_at log (closed_end_at log place) ≡ closed_end_at log place
itself log image place is = ap (λ o. unwrap_or o (closed_end_at log place)) (closed_there log image place is)

-- ---- no transaction began below a closed end

abbrev pub IsFrom : ℤ → Option ℤ → Type 0
IsFrom end begun = IfSome begun (λ begin. IsTrue (not (int_lt begin end)))

none_lower : (c n : ℕ) (o : Option ℕ) → c ≤ unwrap_or o n → IsFrom (pos c) (option_map (λ (n : ℕ). pos n) o)
none_lower c n None le = tt
none_lower c n (Some begin) le = ap not (isnt_below begin c le)

module _ (log : Log) (c : ℕ) (start : log.offset ≤ c) (is : closed_end_at log c ≡ c) where
  pub from_there : (n : ℕ) → c ≤ n → n ≤ tip log → IsFrom (pos c) (option_map (λ (n : ℕ). pos n) (open_at log n))
  from_there n low high =
      let stays = closed_end_stays log c n start low high in
      none_lower c n (open_at log n) (omega (arith, stays, is))

  abbrev P : ℤ × Option ℤ → Type 0
  P b = IsFrom (pos c) b.1

  all_from_there : (ns : List ℕ) → AllByRecursion (λ n. n ≤ tip log) ns → AllByRecursion P (filter (λ (b : ℤ × Option ℤ). not (int_lt b.0 (pos c))) (map (kept_begin log) ns))
  all_from_there [] low = tt
  all_from_there (n ∷ ns) low =
      elim (int_lt (pos n) (pos c)) as (λ b. int_lt (pos n) (pos c) ≡ b → AllByRecursion P (cond (not b) (kept_begin log n ∷ rest ns) (rest ns))) [
        | true ↦ λ below. all_from_there ns low.1
        | false ↦ λ above. (from_there n (not_under n c above) low.0, all_from_there ns low.1)
      ] refl
    where
      rest : List ℕ → List (ℤ × Option ℤ)
      rest ns = filter (λ (b : ℤ × Option ℤ). not (int_lt b.0 (pos c))) (map (kept_begin log) ns)

      not_under : (n c : ℕ) → int_lt (pos n) (pos c) ≡ false → c ≤ n
      not_under n c is = grind (arith, Rattle.std.proofs.lemmas.Bool.Decides.nat_tests)

all_low : (from : ℕ) (ns : List ℕ) (to : ℕ) → Rise from ns to → AllByRecursion (λ n. n ≤ to) (from ∷ ns)
all_low from [] to rise = (omega (arith, rise), tt)
all_low from (n ∷ ns) to rise = (not_higher from (n ∷ ns) to rise, all_low n ns to rise.1)

-- what is kept of a log below a closed end may be dropped
pub begun_from : (images : Images) (log : Log) (image : Image) (place from : ℕ) (ns : List ℕ) → image_at log (tip log) ≡ Ok image → log.offset ≤ place → place ≤ tip log → Rise from ns (tip log)
    → images.begun ≡ option_map (λ (n : ℕ). pos n) (open_at log (tip log)) → images.kept_begun ≡ map (kept_begin log) (from ∷ ns) → AreBegunFrom images (pos (closed_end_at log place))
begun_from images log image place from ns seen start low rise begun kept =
    let c : ℕ = closed_end_at log place in
    let bounds = closed_end_between log place start low in
    let lowest = bounds.0 in
    let under = bounds.1 in
    let is = itself log image place seen in
    record {
      tip = subst (IsFrom (pos c)) (sym begun) (from_there log c lowest is (tip log) (omega (arith, under, low)) (omega arith));
      kept = subst (λ (bs : List (ℤ × Option ℤ)). All (λ (b : ℤ × Option ℤ). IsFrom (pos c) b.1) (filter (λ (b : ℤ × Option ℤ). not (int_lt b.0 (pos c))) bs)) (sym kept)
          (All-from_recursion (λ (b : ℤ × Option ℤ). IsFrom (pos c) b.1) (filter (λ (b : ℤ × Option ℤ). not (int_lt b.0 (pos c))) (map (kept_begin log) (from ∷ ns)))
          (all_from_there log c lowest is (from ∷ ns) (all_low from ns (tip log) rise)));
    }

-- ---- the state that a store has for a log

-- the present state, where the image is the log's, and the image at the open place is kept
pub state_kept : (images : Images) (log : Log) (place : ℕ) → image_at log place ≡ Ok images.tip → images.begun ≡ option_map (λ (n : ℕ). pos n) (open_at log place)
    → ((begin : ℕ) → open_at log place ≡ Some begin → kept_at images (pos begin) ≡ Some (seen_at log begin)) → state_at log place ≡ Ok (tip_state images)
state_kept images log place seen begun kept =
    let h = state_seen log place images.tip seen in
    h.there ∙ ap (λ (s : LogState). ok s) (same_states h.state h.state.opened refl h)
  where
    ok : LogState → Result LogState Ill
    ok s = Ok s

    state_of : Image → Option Opened → LogState
    state_of image opened = record { image = image; opened = opened }

    opened_so : (h : HasState log place images.tip) (o : Option Opened) → h.state.opened ≡ o → o ≡ opened_at images (option_map (λ (n : ℕ). pos n) (option_map (λ (o : Opened). o.place) o))
    opened_so h None is = refl
    opened_so h (Some opened) is =
        let told : option_map (λ (o : Opened). o.place) h.state.opened ≡ open_at log place = open_told log place h.state h.there in
        let at : open_at log place ≡ Some opened.place = sym told ∙ ap (option_map (λ (o : Opened). o.place)) is in
        let s : StandsOpen log place opened = open_stands log place h.state opened h.there is in
        let image : seen_at log opened.place ≡ opened.image = ap (λ r. result_unwrap_or r empty) (image_there log opened.place (closed opened.image) s.there) in
        sym (ap (option_map (λ (i : Image). at_place opened.place i)) (kept opened.place at) ∙ ap (λ i. Some (at_place opened.place i)) image)
      where
        at_place : ℕ → Image → Opened
        at_place n i = record { place = n; image = i }

    same_states : (state : LogState) (o : Option Opened) → state.opened ≡ o → (h : HasState log place images.tip) → h.state ≡ tip_state images
    same_states state o is h =
        ap (λ i. state_of i h.state.opened) h.same
        ∙ ap (state_of images.tip)
        (opened_so h h.state.opened refl
        ∙ ap (opened_at images) (ap (option_map (λ (n : ℕ). pos n)) (open_told log place h.state h.there) ∙ sym begun))
