-- Items are applied to a store, one after the other.
use Rattle.std.proofs.Common.{◌≡◌, ◌∙◌, ℕ, suc, ℤ, pos, negsuc, Bool, true, false, ◌+◌, ◌<◌, ◌≤◌, List, [], ◌∷◌, ◌++◌, drop, get_or, length, refl, sym, ap, subst, arith, inl}
use Rattle.std.proofs.lemmas.Int.{ints}
use Rattle.std.proofs.lemmas.List.{drop_all, drop_more}
use Rattle.std.proofs.lemmas.List.Elements.{All-append, All-from_recursion, recursion_from_All}
use Rattle.std.specs.Prelude.{◌+ℤ◌, ◌-◌, ◌≤ℤ◌, Option, Some, None, Ok, Err, IsSome, IsTrue, int_lt, is_some, slice_get, if◌then◌else◌}
use Rattle.std.specs.List.{AllByRecursion}
use Rattle.kr_defs.specs.declared.ill.Ill.{Ill}
use Rattle.kr_defs.specs.declared.ill.Ill.TheVariants.{BadTransaction}
use Rattle.kr_defs.specs.declared.record.Item.{Item}
use Rattle.kr_defs.specs.declared.record.Item.TheVariants as items
use Rattle.kr_defs.specs.declared.record.Record.TheVariants as kinds
use Rattle.kr_defs.specs.Guard.{and_then}
use Rattle.kr_defs.specs.Image.{Image}
use Rattle.kr_defs.specs.LogStates.{LogState, Opened, apply_all_at, apply_at}
use Rattle.kr_store.specs.Images.{Images, AreValid, IsAbove, kept_at, log_place, marked, opened_at, opened_under, tip_state}
use Rattle.kr_store.specs.ItemAnswers.{KeepsEpochs, MayStand, with_begin}
use Rattle.kr_fold.specs.inner.NextBatches.{AreApplied, IsBeyond, IsItemApplied, Keeps, Stands}

-- ---- places

next_place : (place : ℤ) → pos 0 ≤ℤ place → log_place (place +ℤ pos 1) ≡ log_place place + 1
next_place (pos n) natural = refl
next_place (negsuc n) natural = absurd (omega (arith, ints, natural))

lt_next : (z place : ℤ) → int_lt z place ≡ true → int_lt z (place +ℤ pos 1) ≡ true
lt_next z place is = grind (arith, ints)

lt_itself : (z : ℤ) → int_lt z (z +ℤ pos 1) ≡ true
lt_itself z = grind (arith, ints)

abbrev Low : ℤ → ℤ × Image → Type 0
Low place k = IsTrue (int_lt k.0 place)

above_next : (kept : List (ℤ × Image)) (place : ℤ) → IsAbove kept place → IsAbove kept (place +ℤ pos 1)
above_next kept place above = All-from_recursion (Low (place +ℤ pos 1)) kept (each kept (recursion_from_All (Low place) kept above))
  where
    each : (kept : List (ℤ × Image)) → AllByRecursion (Low place) kept → AllByRecursion (Low (place +ℤ pos 1)) kept
    each [] all = tt
    each (k ∷ kept) all = (lt_next k.0 place all.0, each kept all.1)

-- ---- lists

all_both : {X : Type 0} (P : X → Type 0) (xs : List X) (y : X) → AllByRecursion P xs → P y → AllByRecursion P (xs ++ y ∷ [])
all_both P [] y all last = (last, tt)
all_both {X} P (x ∷ xs) y all last = (all.0, all_both P xs y all.1 last)

some_last : {X : Type 0} (xs : List X) (y : X) → IsSome (slice_get (xs ++ y ∷ []) (length (xs ++ y ∷ []) - 1))
some_last [] y = refl
some_last {X} (x ∷ []) y = refl
some_last {X} (x ∷ z ∷ xs) y = subst (λ (o : Option X). IsSome o) (sym (later x z (xs ++ y ∷ []))) (some_last (z ∷ xs) y)
  where
    less_one : (n : ℕ) → suc n - 1 ≡ n
    less_one n = omega arith

    later : (x z : X) (ys : List X) → slice_get (x ∷ z ∷ ys) (length (x ∷ z ∷ ys) - 1) ≡ slice_get (z ∷ ys) (length (z ∷ ys) - 1)
    later x z ys = ap (slice_get (x ∷ z ∷ ys)) (less_one (suc (length ys))) ∙ sym (ap (slice_get (z ∷ ys)) (less_one (length ys)))

-- ---- the store behind an item

-- the present image is kept under the place
marked_above : (images : Images) (place : ℤ) → IsAbove images.kept (place +ℤ pos 1) → IsAbove (marked images place).kept (place +ℤ pos 1)
marked_above images place above =
    All-append (Low (place +ℤ pos 1)) images.kept ((place, images.tip) ∷ []) above (All-from_recursion (Low (place +ℤ pos 1)) ((place, images.tip) ∷ []) (lt_itself place, tt))

marked_keeps : (images : Images) (place : ℤ) → pos 0 ≤ℤ place → images.begun ≡ None → Keeps images → Keeps (marked images place)
marked_keeps images place natural none keeps = record {
  low = all_both (λ (k : ℤ × Image). pos 0 ≤ℤ k.0) images.kept (place, images.tip) keeps.low natural;
  some = some_last images.kept (place, images.tip);
  closed = all_both (λ (b : ℤ × Option ℤ). b.1 ≡ None) images.kept_begun (place, images.begun) keeps.closed none;
}

same_keeps : (after before : Images) → KeepsEpochs after before → Keeps before → Keeps after
same_keeps after before same keeps = record {
  low = subst (AllByRecursion (λ (k : ℤ × Image). pos 0 ≤ℤ k.0)) (sym same.images) keeps.low;
  some = subst (λ (ks : List (ℤ × Image)). IsSome (slice_get ks (length ks - 1))) (sym same.images) keeps.some;
  closed = subst (AllByRecursion (λ (b : ℤ × Option ℤ). b.1 ≡ None)) (sym same.begun) keeps.closed;
}

same_above : (after before : Images) (place : ℤ) → KeepsEpochs after before → IsAbove before.kept place → IsAbove after.kept place
same_above after before place same above = subst (λ (ks : List (ℤ × Image)). IsAbove ks place) (sym same.images) above

-- none is open where an item may begin a transaction
none_open : (images : Images) → AreValid images → is_some (opened_at images images.begun) ≡ false → images.begun ≡ None
none_open images valid none = of_begun images.begun refl
  where
    closed_under : (begin : ℤ) → IsSome (kept_at images begin) → is_some (opened_under images begin) ≡ true
    closed_under begin some = elim (kept_at images begin) as (λ o. IsSome o → is_some (Rattle.std.specs.Option.option_map (λ (i : Image). let o : Opened = record { place = log_place begin; image = i } in o) o) ≡ true) [
      | None ↦ λ some. absurd cc
      | Some image ↦ λ _. refl
    ] some

    of_begun : (begun : Option ℤ) → images.begun ≡ begun → images.begun ≡ None
    of_begun None is = is
    of_begun (Some begin) is =
        let some : IsSome (kept_at images begin) = subst (λ o. Rattle.std.specs.Prelude.IfSome o (λ begin. IsSome (kept_at images begin))) is valid.begun.tip in
        let clash : true ≡ false = sym (closed_under begin some) ∙ (ap (λ o. is_some (opened_at images o)) (sym is) ∙ none) in absurd cc

-- what stands there did so where no transaction was open
begun_none : (images : Images) (place : ℕ) (name : Option (List ℕ)) (state : LogState) → apply_at (tip_state images) place (items.Record (kinds.BeginTransaction name)) ≡ Ok state
    → is_some (opened_at images images.begun) ≡ false
unfolding apply_at
begun_none images place name state is = elim (is_some (opened_at images images.begun)) as (λ b. (if b then Err BadTransaction else Ok (let s : LogState = record (tip_state images) { opened = Some (record { place = place; image = images.tip }) } in s)) ≡ Ok state → b ≡ false) [
  | true ↦ λ is. absurd cc
  | false ↦ λ _. refl
] is

-- the store behind a begin, with its place kept
with_place : (images : Images) (place : ℤ) (b : Bool) → pos 0 ≤ℤ place → images.begun ≡ None → IsAbove images.kept (place +ℤ pos 1) → Keeps images
    → IsAbove (if b then images else marked images place).kept (place +ℤ pos 1) × Keeps (if b then images else marked images place)
with_place images place true natural none above keeps = (above, keeps)
with_place images place false natural none above keeps = (marked_above images place above, marked_keeps images place natural none keeps)

behind_item : (images : Images) (place : ℤ) (item : Item) (state : LogState) → AreValid images → Stands images place → apply_at (tip_state images) (log_place place) item ≡ Ok state
    → IsAbove (with_begin images place item).kept (place +ℤ pos 1) × Keeps (with_begin images place item)
behind_item images place (items.Record (kinds.BeginTransaction name)) state valid stands is =
    with_place images place (is_some (kept_at images place)) stands.natural (none_open images valid (begun_none images (log_place place) name state is)) stands.above stands.keeps
behind_item images place item state valid stands is = (stands.above, stands.keeps)

still_natural : (place : ℤ) → pos 0 ≤ℤ place → pos 0 ≤ℤ (place +ℤ pos 1)
still_natural place natural = omega (arith, ints, natural)

stands_on : (before after : Images) (place : ℤ) (item : Item) → AreValid before → Stands before place → IsItemApplied before after place item None
    → IsAbove after.kept (place +ℤ pos 1) × Stands after (place +ℤ pos 1)
stands_on before after place item valid stands applied =
    let behind = behind_item before place item (tip_state after) valid stands applied.0 in
    let above = same_above after (with_begin before place item) (place +ℤ pos 1) applied.1 behind.0 in (
      above,
      record {
        natural = still_natural place stands.natural;
        may = inl above;
        above = above_next after.kept (place +ℤ pos 1) above;
        keeps = same_keeps after (with_begin before place item) applied.1 behind.1;
      },
    )

-- ---- at a turn of the walk over the items

-- these items are left, the first of which stands at the place
pub record Applying (start now : Images) (place at : ℤ) (all left : List Item) (i : ℕ) : Type 0 where
  pub applied : apply_all_at (tip_state now) (log_place at) left ≡ apply_all_at (tip_state start) (log_place place) all
  pub stands : Stands now at
  pub above : 1 ≤ i → IsAbove now.kept at
  pub at_place : at ≡ place +ℤ pos i
  pub within : i ≤ length all

pub none_applied : (start : Images) (place : ℤ) (all : List Item) → Stands start place → Applying start start place place all all 0
none_applied start place all stands = record {
  applied = refl;
  stands = stands;
  above = λ some. absurd (omega (arith, some));
  at_place = sym (Rattle.std.proofs.Math.IntN.+ℤ_idr place);
  within = omega arith;
}

pub may_stand : (images : Images) (place : ℤ) (item : Item) → Stands images place → MayStand images place item
may_stand images place (items.Record (kinds.BeginTransaction name)) stands = stands.may
may_stand images place item stands = tt

place_more : (place at : ℤ) (i : ℕ) → at ≡ place +ℤ pos i → at +ℤ pos 1 ≡ place +ℤ pos (i + 1)
place_more place at i is = omega (arith, ints, is)

pub one_applied : (start now next : Images) (place at : ℤ) (all : List Item) (item : Item) (left : List Item) (i : ℕ) → i < length all → AreValid now
    → Applying start now place at all (item ∷ left) i → IsItemApplied now next at item None → Applying start next place (at +ℤ pos 1) all left (i + 1)
one_applied start now next place at all item left i within valid a applied =
    let on = stands_on now next at item valid a.stands applied in
    record {
      applied =
          ap (λ n. apply_all_at (tip_state next) n left) (next_place at a.stands.natural)
          ∙ (sym (ap (λ r. and_then r (λ (after : LogState). apply_all_at after (log_place at + 1) left)) applied.0)
          ∙ a.applied);
      stands = on.1;
      above = λ _. on.0;
      at_place = place_more place at i a.at_place;
      within = omega (arith, within);
    }

-- an item has no meaning
pub one_refused : (start now next : Images) (place at : ℤ) (all : List Item) (item : Item) (left : List Item) (i : ℕ) (cause : Ill) → Applying start now place at all (item ∷ left) i
    → IsItemApplied now next at item (Some cause) → AreApplied start next place all (Some cause)
one_refused start now next place at all item left i cause a refused =
    sym a.applied ∙ ap (λ r. and_then r (λ (after : LogState). apply_all_at after (log_place at + 1) left)) refused

-- all have one
pub all_applied : (start now : Images) (place at : ℤ) (all : List Item) (i : ℕ) → 1 ≤ i → Applying start now place at all [] i → AreApplied start now place all None × IsBeyond now at
all_applied start now place at all i some a =
    (sym a.applied, record { natural = a.stands.natural; above = a.above some; keeps = a.stands.keeps })

-- ---- the same with the items of a slice, of which so many are gone

item_here : (all : List Item) (i : ℕ) (item : Item) → i < length all → item ≡ get_or all i item → drop i all ≡ item ∷ drop (i + 1) all
item_here all i item within is = drop_more all i item within ∙ ap (λ x. x ∷ drop (i + 1) all) (sym is)

pub applied_here : (start now next : Images) (place at : ℤ) (all : List Item) (i : ℕ) (item : Item) → AreValid now → i < length all → item ≡ get_or all i item
    → Applying start now place at all (drop i all) i → IsItemApplied now next at item None → Applying start next place (at +ℤ pos 1) all (drop (i + 1) all) (i + 1)
applied_here start now next place at all i item valid within is a applied =
    one_applied start now next place at all item (drop (i + 1) all) i within valid (subst (λ (left : List Item). Applying start now place at all left i) (item_here all i item within is) a) applied

pub refused_here : (start now next : Images) (place at : ℤ) (all : List Item) (i : ℕ) (item : Item) (cause : Ill) → i < length all → item ≡ get_or all i item
    → Applying start now place at all (drop i all) i → IsItemApplied now next at item (Some cause) → AreApplied start next place all (Some cause)
refused_here start now next place at all i item cause within is a refused =
    one_refused start now next place at all item (drop (i + 1) all) i cause (subst (λ (left : List Item). Applying start now place at all left i) (item_here all i item within is) a) refused

pub applied_to_end : (start now : Images) (place at : ℤ) (all : List Item) (i : ℕ) → 1 ≤ length all → length all ≤ i → Applying start now place at all (drop i all) i
    → AreApplied start now place all None × IsBeyond now (place +ℤ pos (length all))
applied_to_end start now place at all i some past a =
    let end = all_applied start now place at all i (omega (arith, some, past)) (subst (λ (left : List Item). Applying start now place at all left i) (drop_all i all past) a) in
    let there : at ≡ place +ℤ pos (length all) = omega (arith, ints, a.at_place, a.within, past) in
    (end.0, subst (IsBeyond now) there end.1)
