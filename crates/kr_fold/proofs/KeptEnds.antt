-- What is kept of a log at its end.
use Rattle.std.proofs.Common.{◌≡◌, ◌∙◌, ℕ, suc, ℤ, pos, negsuc, true, false, Bool, cond, not, ◌+◌, List, [], ◌∷◌, ◌++◌, length, filter, refl, sym, ap, subst, arith, inl, inr}
use Rattle.std.proofs.lemmas.Int.{ints}
use Rattle.std.proofs.lemmas.List.Elements.{All-from_recursion, recursion_from_All}
use Rattle.std.specs.Prelude.{◌+ℤ◌, ◌-◌, ◌≤ℤ◌, Option, Some, None, All, IfOk, IfSome, IsSome, IsTrue, Result, Ok, Err, find, int_lt, slice_get}
use Rattle.std.specs.Option.{option_map, option_map_or}
use Rattle.std.specs.List.{AllByRecursion}
use Rattle.std.specs.Ordering.{int_eq}
use Rattle.kr_defs.specs.Image.{Image}
use Rattle.kr_defs.specs.LogStates.{LogState, Opened}
use Rattle.kr_defs.proofs.IdLists.{same_id}
use Rattle.kr_store.specs.Images.{Images, AreBegunFrom, AreValid, forgotten, kept_at, log_place, marked, opened_at, tip_state}
use Rattle.kr_snapshot.specs.ImageText.{image_text}
use Rattle.kr_fold.specs.Logs.{settled_end, settled_image}
use Rattle.kr_fold.specs.inner.NextBatches.{IsBeyond, Stands, log_of}

-- ---- those that stay of a list

all_stay : {X : Type 0} (P : X → Type 0) (p : X → Bool) (xs : List X) → AllByRecursion P xs → AllByRecursion P (filter p xs)
all_stay P p [] all = tt
all_stay {X} P p (x ∷ xs) all =
    elim (p x) as (λ b. AllByRecursion P (cond b (x ∷ filter p xs) (filter p xs))) [
      | true ↦ (all.0, all_stay P p xs all.1)
      | false ↦ all_stay P p xs all.1
    ]

abbrev stays : {X : Type 0} → ℤ → ℤ × X → Bool
stays epoch k = not (int_lt k.0 epoch)

not_itself : (z : ℤ) → int_lt z z ≡ false
not_itself z = grind (arith, ints)

-- what is found under the epoch stays
found_stays : (kept : List (ℤ × Image)) (epoch : ℤ) → find (λ (k : ℤ × Image). int_eq k.0 epoch) (filter (stays epoch) kept) ≡ find (λ (k : ℤ × Image). int_eq k.0 epoch) kept
found_stays [] epoch = refl
found_stays (k ∷ kept) epoch =
    elim (int_eq k.0 epoch) as (λ b. int_eq k.0 epoch ≡ b → find (λ (k : ℤ × Image). int_eq k.0 epoch) (cond (stays epoch k) (k ∷ filter (stays epoch) kept) (filter (stays epoch) kept)) ≡ cond b (Some k) (find (λ (k : ℤ × Image). int_eq k.0 epoch) kept)) [
      | true ↦ λ same.
          ap (λ b. find (λ (k : ℤ × Image). int_eq k.0 epoch) (cond b (k ∷ filter (stays epoch) kept) (filter (stays epoch) kept))) (here k epoch same)
          ∙ ap (λ b. cond b (Some k) (find (λ (k : ℤ × Image). int_eq k.0 epoch) (filter (stays epoch) kept))) same
      | false ↦ λ other. apart (stays epoch k) other (found_stays kept epoch)
    ] refl
  where
    here : (k : ℤ × Image) (epoch : ℤ) → int_eq k.0 epoch ≡ true → stays epoch k ≡ true
    here k epoch same = ap (λ z. not (int_lt z epoch)) (same_id k.0 epoch same) ∙ ap (λ b. not b) (not_itself epoch)

    apart : (b : Bool) → int_eq k.0 epoch ≡ false → find (λ (k : ℤ × Image). int_eq k.0 epoch) (filter (stays epoch) kept) ≡ find (λ (k : ℤ × Image). int_eq k.0 epoch) kept
        → find (λ (k : ℤ × Image). int_eq k.0 epoch) (cond b (k ∷ filter (stays epoch) kept) (filter (stays epoch) kept)) ≡ find (λ (k : ℤ × Image). int_eq k.0 epoch) kept
    apart true other rest = ap (λ b. cond b (Some k) (find (λ (k : ℤ × Image). int_eq k.0 epoch) (filter (stays epoch) kept))) other ∙ rest
    apart false other rest = rest

still_kept : (images : Images) (epoch : ℤ) → kept_at (forgotten images epoch) epoch ≡ kept_at images epoch
still_kept images epoch = ap (option_map (λ (k : ℤ × Image). k.1)) (found_stays images.kept epoch)

some_found : (kept : List (ℤ × Image)) (epoch : ℤ) → IsSome (option_map (λ (k : ℤ × Image). k.1) (find (λ (k : ℤ × Image). int_eq k.0 epoch) kept)) → IsSome (slice_get kept (length kept - 1))
some_found [] epoch some = absurd cc
some_found (k ∷ kept) epoch some = has_last k kept
  where
    less_one : (n : ℕ) → suc n - 1 ≡ n
    less_one n = omega arith

    has_last : (k : ℤ × Image) (kept : List (ℤ × Image)) → IsSome (slice_get (k ∷ kept) (length (k ∷ kept) - 1))
    has_last k [] = refl
    has_last k (x ∷ kept) =
        subst (λ (o : Option (ℤ × Image)). IsSome o) (sym (ap (slice_get (k ∷ x ∷ kept)) (less_one (suc (length kept))) ∙ sym (ap (slice_get (x ∷ kept)) (less_one (length kept))))) (has_last x kept)

-- ---- no transaction was open at a kept epoch

begun_from : (begun : List (ℤ × Option ℤ)) (epoch : ℤ) → AllByRecursion (λ (b : ℤ × Option ℤ). b.1 ≡ None) begun
    → All (λ (b : ℤ × Option ℤ). IfSome b.1 (λ begin. IsTrue (not (int_lt begin epoch)))) (filter (stays epoch) begun)
begun_from begun epoch none =
    All-from_recursion (λ (b : ℤ × Option ℤ). IfSome b.1 (λ begin. IsTrue (not (int_lt begin epoch)))) (filter (stays epoch) begun)
    (each (filter (stays epoch) begun) (all_stay (λ (b : ℤ × Option ℤ). b.1 ≡ None) (stays epoch) begun none))
  where
    each : (begun : List (ℤ × Option ℤ)) → AllByRecursion (λ (b : ℤ × Option ℤ). b.1 ≡ None) begun → AllByRecursion (λ (b : ℤ × Option ℤ). IfSome b.1 (λ begin. IsTrue (not (int_lt begin epoch)))) begun
    each [] all = tt
    each (b ∷ begun) all = (subst (λ o. IfSome o (λ begin. IsTrue (not (int_lt begin epoch)))) (sym all.0) tt, each begun all.1)

pub may_forget : (images : Images) (begin tip : ℤ) → IsBeyond images tip → images.begun ≡ Some begin → AreBegunFrom images begin
may_forget images begin tip beyond is = record {
  tip = subst (λ o. IfSome o (λ b. IsTrue (not (int_lt b begin)))) (sym is) (ap (λ b. not b) (not_itself begin));
  kept = begun_from images.kept_begun begin beyond.keeps.closed;
}

-- ---- behind what is forgotten

above_next : (kept : List (ℤ × Image)) (place : ℤ) → AllByRecursion (λ (k : ℤ × Image). IsTrue (int_lt k.0 place)) kept → AllByRecursion (λ (k : ℤ × Image). IsTrue (int_lt k.0 (place +ℤ pos 1))) kept
above_next [] place all = tt
above_next (k ∷ kept) place all = (lt_next k.0 place all.0, above_next kept place all.1)
  where
    lt_next : (z place : ℤ) → int_lt z place ≡ true → int_lt z (place +ℤ pos 1) ≡ true
    lt_next z place is = grind (arith, ints)

abbrev Low : ℤ → ℤ × Image → Type 0
Low place k = IsTrue (int_lt k.0 place)

begin_kept : (images : Images) (begin : ℤ) → AreValid images → images.begun ≡ Some begin → IsSome (kept_at images begin)
begin_kept images begin valid is = subst (λ o. IfSome o (λ b. IsSome (kept_at images b))) is valid.begun.tip

pub forgotten_stands : (images after : Images) (begin tip : ℤ) → AreValid images → IsBeyond images tip → images.begun ≡ Some begin → after ≡ forgotten images begin → Stands after tip
forgotten_stands images after begin tip valid beyond is same =
    let low : AllByRecursion (Low tip) (filter (stays begin) images.kept) = all_stay (Low tip) (stays begin) images.kept (recursion_from_All (Low tip) images.kept beyond.above) in
    subst (λ (i : Images). Stands i tip) (sym same)
    (record {
      natural = beyond.natural;
      may = inl (All-from_recursion (Low tip) (filter (stays begin) images.kept) low);
      above = All-from_recursion (Low (tip +ℤ pos 1)) (filter (stays begin) images.kept) (above_next (filter (stays begin) images.kept) tip low);
      keeps = record {
        low = all_stay (λ (k : ℤ × Image). pos 0 ≤ℤ k.0) (stays begin) images.kept beyond.keeps.low;
        some = some_found (filter (stays begin) images.kept) begin (subst (λ (o : Option Image). IsSome o) (sym (still_kept images begin)) (begin_kept images begin valid is));
        closed = all_stay (λ (b : ℤ × Option ℤ). b.1 ≡ None) (stays begin) images.kept_begun beyond.keeps.closed;
      };
    })

abbrev state_of : Image → Option Opened → LogState
state_of image opened = record { image = image; opened = opened }

pub forgotten_state : (images after : Images) (begin : ℤ) → images.begun ≡ Some begin → after ≡ forgotten images begin → tip_state after ≡ tip_state images
forgotten_state images after begin is same =
    ap (λ (i : Images). tip_state i) same
    ∙ ap (state_of images.tip)
    (ap (λ o. opened_at (forgotten images begin) o) is
    ∙ (ap (option_map (λ (i : Image). let o : Opened = record { place = log_place begin; image = i } in o)) (still_kept images begin)
    ∙ sym (ap (λ o. opened_at images o) is)))

pub ruleset kept_ends = (may_forget, forgotten_stands, forgotten_state)

-- ---- one image alone

pub may_forget_all : (images : Images) (tip : ℤ) → IsBeyond images tip → images.begun ≡ None → AreBegunFrom (marked images tip) tip
may_forget_all images tip beyond none = record {
  tip = subst (λ o. IfSome o (λ b. IsTrue (not (int_lt b tip)))) (sym none) tt;
  kept = begun_from (marked images tip).kept_begun tip (both images.kept_begun (tip, images.begun) beyond.keeps.closed none);
}
  where
    both : (begun : List (ℤ × Option ℤ)) (b : ℤ × Option ℤ) → AllByRecursion (λ (b : ℤ × Option ℤ). b.1 ≡ None) begun → b.1 ≡ None → AllByRecursion (λ (b : ℤ × Option ℤ). b.1 ≡ None) (begun ++ b ∷ [])
    both [] b all last = (last, tt)
    both (x ∷ begun) b all last = (all.0, both begun b all.1 last)

abbrev one_alone : Images → ℤ → Images
one_alone images place = record { kept = (place, images.tip) ∷ []; tip = images.tip; made = 0; kept_made = (place, 0) ∷ []; begun = images.begun; kept_begun = (place, images.begun) ∷ [] }

pub alone_stands : (images after : Images) (tip : ℤ) → pos 0 ≤ℤ tip → images.begun ≡ None → after ≡ one_alone images tip → Stands after tip
alone_stands images after tip natural none is =
    subst (λ (i : Images). Stands i tip) (sym is)
    (record {
      natural = natural;
      may = inr refl;
      above = All-from_recursion (Low (tip +ℤ pos 1)) ((tip, images.tip) ∷ []) (lt_itself tip, tt);
      keeps = record { low = (natural, tt); some = refl; closed = (none, tt) };
    })
  where
    lt_itself : (z : ℤ) → int_lt z (z +ℤ pos 1) ≡ true
    lt_itself z = grind (arith, ints)

pub alone_state : (images after : Images) (tip : ℤ) → images.begun ≡ None → after ≡ one_alone images tip → tip_state after ≡ tip_state images
alone_state images after tip none is =
    ap (λ (i : Images). tip_state i) is ∙ ap (state_of images.tip) (ap (λ o. opened_at (one_alone images tip) o) none ∙ sym (ap (λ o. opened_at images o) none))

pub ruleset kept_alone = (may_forget_all, alone_stands, alone_state)

-- ---- what is settled

natural_place : (place : ℤ) → pos 0 ≤ℤ place → pos (log_place place) ≡ place
natural_place (pos n) natural = refl
natural_place (negsuc n) natural = absurd (omega (arith, ints, natural))

found_natural : (kept : List (ℤ × Image)) (epoch : ℤ) → AllByRecursion (λ (k : ℤ × Image). pos 0 ≤ℤ k.0) kept → IsSome (option_map (λ (k : ℤ × Image). k.1) (find (λ (k : ℤ × Image). int_eq k.0 epoch) kept)) → pos 0 ≤ℤ epoch
found_natural [] epoch low some = absurd cc
found_natural (k ∷ kept) epoch low some =
    elim (int_eq k.0 epoch) as (λ b. int_eq k.0 epoch ≡ b → IsSome (option_map (λ (k : ℤ × Image). k.1) (cond b (Some k) (find (λ (k : ℤ × Image). int_eq k.0 epoch) kept))) → pos 0 ≤ℤ epoch) [
      | true ↦ λ same _. subst (λ z. pos 0 ≤ℤ z) (same_id k.0 epoch same) low.0
      | false ↦ λ other some. found_natural kept epoch low.1 some
    ] refl some

-- the open transaction's place and the image there
begin_settled : (images : Images) (begin tip : ℤ) (image : Image) → Stands images tip → AreValid images → images.begun ≡ Some begin → kept_at images begin ≡ Some image
    → image_text begin image ≡ image_text (settled_end (log_of tip images)) (settled_image (log_of tip images))
begin_settled images begin tip image stands valid is found =
    let opened : opened_at images images.begun ≡ Some (record { place = log_place begin; image = image }) = ap (λ o. opened_at images o) is ∙ ap (option_map (λ (i : Image). let o : Opened = record { place = log_place begin; image = i } in o)) found in
    let natural = found_natural images.kept begin stands.keeps.low (begin_kept images begin valid is) in
    ap (λ z. image_text z image) (sym (natural_place begin natural))
    ∙ sym (ap (λ (o : Option Opened). image_text (option_map_or (λ (o : Opened). pos o.place) o tip) (option_map_or (λ (o : Opened). o.image) o images.tip)) opened)

pub natural_begin : (images : Images) (begin tip : ℤ) → Stands images tip → AreValid images → images.begun ≡ Some begin → pos 0 ≤ℤ begin
natural_begin images begin tip stands valid is = found_natural images.kept begin stands.keeps.low (begin_kept images begin valid is)

pub tip_settled : (images : Images) (tip : ℤ) → images.begun ≡ None → image_text tip images.tip ≡ image_text (settled_end (log_of tip images)) (settled_image (log_of tip images))
tip_settled images tip none =
    sym (ap (λ (o : Option Opened). image_text (option_map_or (λ (o : Opened). pos o.place) o tip) (option_map_or (λ (o : Opened). o.image) o images.tip)) (ap (λ o. opened_at images o) none))

-- the same of the bytes of the image there
pub begin_written : (images : Images) (begin tip : ℤ) (bytes : List ℕ) → Stands images tip → AreValid images → images.begun ≡ Some begin → IfSome (kept_at images begin) (λ image. bytes ≡ image_text begin image)
    → bytes ≡ image_text (settled_end (log_of tip images)) (settled_image (log_of tip images))
begin_written images begin tip bytes stands valid is wrote = by_found (kept_at images begin) refl wrote (begin_kept images begin valid is)
  where
    by_found : (o : Option Image) → kept_at images begin ≡ o → IfSome o (λ image. bytes ≡ image_text begin image) → IsSome o → bytes ≡ image_text (settled_end (log_of tip images)) (settled_image (log_of tip images))
    by_found None found wrote some = absurd cc
    by_found (Some image) found wrote some = wrote ∙ begin_settled images begin tip image stands valid is found

pub if_ok_then : {T E : Type 0} {P Q : T → Type 0} (r : Result T E) → ((x : T) → P x → Q x) → IfOk r P → IfOk r Q
if_ok_then (Ok x) more is = more x is
if_ok_then (Err e) more is = tt
