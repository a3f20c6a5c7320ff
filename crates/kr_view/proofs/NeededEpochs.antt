-- The oldest epoch that is needed: that of the oldest place, or of the begin of the transaction that was open there.
use Rattle.std.proofs.Common.{◌≡◌, ◌∙◌, ◌⊎◌, inl, inr, ⊎_elim, ℤ, Bool, true, false, cond, not, List, [], ◌∷◌, fold, filter, find, map, refl, sym, ap, subst}
use Rattle.std.specs.Prelude.{int_lt, IsTrue, IfSome, IsSome, is_some, unwrap_or, Option, Some, None, Result, IsErr, IsOkAnd, MatchOption}
use Rattle.std.specs.List.{AllByRecursion}
use Rattle.std.specs.List.Sorted.{IsStrictlySortedBy}
use Rattle.std.specs.Option.{option_map}
use Rattle.std.specs.Ordering.{int_eq}
use Rattle.std.proofs.lemmas.Bool.Decides.{Decides-int_eq}
use Rattle.std.proofs.lemmas.List.Elements.{All-from_recursion, recursion_from_All}
use Rattle.kr_defs.specs.Image.{Image}
use Rattle.kr_defs.proofs.StateLogs.{if_some_then}
use Rattle.kr_defs.proofs.Tests.{not_true, some_is}
use Rattle.kr_calls.specs.declared.pins.Pin.{Pin}
use Rattle.kr_calls.specs.SeatList.{lower}
use Rattle.kr_image.proofs.KeptLists.{all_passing, all_weaker}
use Rattle.kr_image.proofs.Stores.{found_has, found_passes}
use Rattle.kr_store.specs.declared.places.At.{At}
use Rattle.kr_store.specs.declared.places.At.TheVariants as places
use Rattle.kr_store.specs.Images.{AreBegunFrom, AreValid, Images, begun_at, begun_of_place, begun_under, image_of_place, kept_at}
use Rattle.kr_view.specs.Standing.{AreInTurn, OpensFrom, IsStandingAt}
use Rattle.kr_view.proofs.OpenTransactions.{Begun, Follow, Rising, all_front, begun_rising, each_above, floor_through, lt_itself, not_both}
use Rattle.kr_view.proofs.Kept.{at_end, is_there, not_lt_through, oldest_first}

-- ---- a list of epochs that rise, each with what is open there

-- the floor is where the transaction began that is open there, or the epoch itself
abbrev IsFloor : Begun → ℤ → Type 0
IsFloor found f = ((found.1 ≡ Some f) × (int_lt found.0 f ≡ false)) ⊎ ((found.1 ≡ None) × (found.0 ≡ f))

abbrev IsFrom : ℤ → Option ℤ → Type 0
IsFrom f begun = IfSome begun (λ begin. int_lt begin f ≡ false)

abbrev IsFromIf : ℤ → Begun → Type 0
IsFromIf f x = int_lt x.0 f ≡ false → IsFrom f x.1

is_some_from : (f : ℤ) (begun : Option ℤ) → begun ≡ Some f → IsFrom f begun
is_some_from f begun is = subst (IsFrom f) (sym is) (lt_itself f)

none_from : (f : ℤ) (begun : Option ℤ) → begun ≡ None → IsFrom f begun
none_from f begun is = subst (IsFrom f) (sym is) tt

itself_from : (x : Begun) (f : ℤ) → IsFloor x f → IsFrom f x.1
itself_from x f floor = ⊎_elim (λ (some : (x.1 ≡ Some f) × (int_lt x.0 f ≡ false)). is_some_from f x.1 some.0) (λ (none : (x.1 ≡ None) × (x.0 ≡ f)). none_from f x.1 none.0) floor

not_below : (x : Begun) (f : ℤ) → IsFloor x f → int_lt x.0 f ≡ false
not_below x f floor = ⊎_elim (λ (some : (x.1 ≡ Some f) × (int_lt x.0 f ≡ false)). some.1) (λ (none : (x.1 ≡ None) × (x.0 ≡ f)). subst (λ z. int_lt z f ≡ false) (sym none.1) (lt_itself f)) floor

-- behind the epoch
began_from : (x : Begun) (f begin : ℤ) → IsFloor x f → OpensFrom x begin → int_lt begin f ≡ false
began_from x f begin floor goes = ⊎_elim
    (λ (same : x.1 ≡ Some begin). ⊎_elim
    (λ (some : (x.1 ≡ Some f) × (int_lt x.0 f ≡ false)). subst (λ z. int_lt z f ≡ false) (some_is f begin (sym some.0 ∙ same)) (lt_itself f))
    (λ (none : (x.1 ≡ None) × (x.0 ≡ f)). absurd (let no : Some begin ≡ None = sym same ∙ none.0 in cc)) floor)
    (λ (other : IsTrue (int_lt x.0 begin) ⊎ ((x.1 ≡ None) × (x.0 ≡ begin))). ⊎_elim
    (λ (up : IsTrue (int_lt x.0 begin)). floor_through x.0 begin f (not_below x f floor) up)
    (λ (here : (x.1 ≡ None) × (x.0 ≡ begin)). subst (λ z. int_lt z f ≡ false) here.1 (not_below x f floor)) other)
    goes

follows_from : (x : Begun) (f : ℤ) (later : Option ℤ) → IsFloor x f → Follow x later → IsFrom f later
follows_from x f None floor follow = tt
follows_from x f (Some begin) floor follow = began_from x f begin floor follow

-- before it
earlier_from : (x found : Begun) (f : ℤ) → IsFloor found f → int_lt x.0 found.0 ≡ true → Follow x found.1 → IsFromIf f x
earlier_from x found f floor below follow up = ⊎_elim
    (λ (some : (found.1 ≡ Some f) × (int_lt found.0 f ≡ false)). ⊎_elim
    (λ (same : x.1 ≡ Some f). is_some_from f x.1 same)
    (λ (other : IsTrue (int_lt x.0 f) ⊎ ((x.1 ≡ None) × (x.0 ≡ f))). ⊎_elim
    (λ (low : IsTrue (int_lt x.0 f)). absurd (not_both x.0 f low up))
    (λ (here : (x.1 ≡ None) × (x.0 ≡ f)). none_from f x.1 here.0) other)
    (subst (Follow x) some.0 follow))
    (λ (none : (found.1 ≡ None) × (found.0 ≡ f)). absurd (not_both x.0 f (subst (λ z. int_lt x.0 z ≡ true) none.1 below) up))
    floor

all_from : (e : ℤ) (found : Begun) (f : ℤ) → IsFloor found f → (xs : List Begun) → Rising xs → AreInTurn xs → find (λ (b : Begun). int_eq b.0 e) xs ≡ Some found → AllByRecursion (IsFromIf f) xs
unfolding IsStrictlySortedBy
all_from e found f floor [] rising turn is = tt
all_from e found f floor (x ∷ xs) rising turn is =
    elim (int_eq x.0 e) as (λ b. cond b (Some x) (find (λ (b : Begun). int_eq b.0 e) xs) ≡ Some found → AllByRecursion (IsFromIf f) (x ∷ xs)) [
      | true ↦ λ is.
          let own : IsFloor x f = subst (λ (b : Begun). IsFloor b f) (sym (some_is x found is)) floor in
          (λ _. itself_from x f own, all_weaker (λ (l : Begun). Follow x l.1) (IsFromIf f) (λ l follow _. follows_from x f l.1 own follow) xs turn.0)
      | false ↦ λ is.
          let p : Begun → Bool = λ b. int_eq b.0 e in
          let below = found_has (λ (l : Begun). int_lt x.0 l.0 ≡ true) p xs found (each_above x.0 xs rising.0) is in
          let follow = found_has (λ (l : Begun). Follow x l.1) p xs found turn.0 is in
          (earlier_from x found f floor below follow, all_from e found f floor xs rising.1 turn.1 is)
    ] is

-- ---- the oldest place is kept

lowest_has : (P : ℤ → Type 0) (z : ℤ) (pins : List Pin) → P z → AllByRecursion (λ (pin : Pin). P pin.place) pins → P (fold lower z pins)
lowest_has P z [] p a = p
lowest_has P z (pin ∷ pins) p a = lowest_has P (lower z pin) pins (elim (int_lt pin.place z) as (λ b. P (cond b pin.place z)) [ true ↦ a.0 | false ↦ p ]) a.1

record Found (bs : List Begun) (at : ℤ) : Type 0 where
  pub begun : Begun
  pub is : find (λ (b : Begun). int_eq b.0 at) bs ≡ Some begun

found_beside : (at : ℤ) (ks : List (ℤ × Image)) (bs : List Begun) → map (λ (b : Begun). b.0) bs ≡ map (λ (k : ℤ × Image). k.0) ks
    → IsSome (option_map (λ (k : ℤ × Image). k.1) (find (λ (k : ℤ × Image). int_eq k.0 at) ks)) → Found bs at
found_beside at [] bs same h = absurd cc
found_beside at (k ∷ ks) [] same h = absurd cc
found_beside at (k ∷ ks) (b ∷ bs) same h =
    let heads : b.0 ≡ k.0 = cc in
    let tails : map (λ (b : Begun). b.0) bs ≡ map (λ (k : ℤ × Image). k.0) ks = cc in
    elim (int_eq k.0 at) as (λ t. int_eq k.0 at ≡ t → IsSome (option_map (λ (k : ℤ × Image). k.1) (cond t (Some k) (find (λ (k : ℤ × Image). int_eq k.0 at) ks))) → Found (b ∷ bs) at) [
      | true ↦ λ is h. record { begun = b; is = ap (λ t. cond t (Some b) (find (λ (b : Begun). int_eq b.0 at) bs)) (ap (λ z. int_eq z at) heads ∙ is) }
      | false ↦ λ is h.
          let rest = found_beside at ks bs tails h in
          record { begun = rest.begun; is = ap (λ t. cond t (Some b) (find (λ (b : Begun). int_eq b.0 at) bs)) (ap (λ z. int_eq z at) heads ∙ is) ∙ rest.is }
    ] refl h

-- ---- what a store needs

begins_low : (found : Begun) (begun : Option ℤ) → found.1 ≡ begun → IfSome begun (λ begin. IsTrue (not (int_lt found.0 begin))) → IsFloor found (unwrap_or begun found.0)
begins_low found None is h = inr (is, refl)
begins_low found (Some begin) is h = inl (is, not_true (int_lt found.0 begin) h)

module _ (store : Images) (end : ℤ) (pins : List Pin) (s : IsStandingAt store end pins) (valid : AreValid store) where
  abbrev oldest : ℤ
  oldest = fold lower end pins

  there : IsSome (kept_at store oldest)
  there = lowest_has (λ z. IsSome (kept_at store z)) end pins (ap is_some (at_end store end pins s)) s.pinned

  -- what is answered of the transaction that was open there
  pub begun_there : {E : Type 0} (at : At) (r : Result (Option ℤ) E) → at ≡ places.Epoch oldest → MatchOption (image_of_place store at) (IsErr r) (λ image. IsOkAnd r (λ begun. begun ≡ begun_of_place store at)) → IsOkAnd r (λ begun. begun ≡ begun_at store oldest)
  begun_there at r is told =
      subst (λ (o : Option Image). MatchOption o (IsErr r) (λ image. IsOkAnd r (λ begun. begun ≡ begun_at store oldest))) (is_there (kept_at store oldest) there).1
      (subst (λ (p : At). MatchOption (image_of_place store p) (IsErr r) (λ image. IsOkAnd r (λ begun. begun ≡ begun_of_place store p))) is told)

  found : Found store.kept_begun oldest
  found = found_beside oldest store.kept store.kept_begun valid.begun.beside there

  abbrev floor : ℤ
  floor = unwrap_or (begun_at store oldest) oldest

  here : found.begun.0 ≡ oldest
  here = (Decides-int_eq found.begun.0 oldest).0 (found_passes (λ (b : Begun). int_eq b.0 oldest) store.kept_begun found.begun found.is)

  open_there : begun_at store oldest ≡ found.begun.1
  open_there = ap begun_under found.is

  is_floor : IsFloor found.begun floor
  is_floor =
      let low : IfSome found.begun.1 (λ begin. IsSome (kept_at store begin) × IsTrue (not (int_lt found.begun.0 begin))) =
      found_has (λ (b : Begun). IfSome b.1 (λ begin. IsSome (kept_at store begin) × IsTrue (not (int_lt b.0 begin)))) (λ (b : Begun). int_eq b.0 oldest) store.kept_begun found.begun
      (recursion_from_All (λ (b : Begun). IfSome b.1 (λ begin. IsSome (kept_at store begin) × IsTrue (not (int_lt b.0 begin)))) store.kept_begun valid.begun.kept) found.is in
      subst (λ (x : Option ℤ × ℤ). IsFloor found.begun (unwrap_or x.0 x.1)) (λ i. (sym open_there i, here i))
      (begins_low found.begun found.begun.1 refl (if_some_then (λ begin. IsSome (kept_at store begin) × IsTrue (not (int_lt found.begun.0 begin))) (λ begin. IsTrue (not (int_lt found.begun.0 begin))) found.begun.1 (λ begin h. h.1) low))

  each_from : AllByRecursion (IsFromIf floor) store.kept_begun
  each_from = all_from oldest found.begun floor is_floor store.kept_begun (begun_rising store valid) s.in_turn found.is

  pub floor_low : int_lt oldest floor ≡ false
  floor_low = subst (λ z. int_lt z floor ≡ false) here (not_below found.begun floor is_floor)

  abbrev IsFromFloor : Option ℤ → Type 0
  IsFromFloor begun = IfSome begun (λ begin. IsTrue (not (int_lt begin floor)))

  from_floor : (begun : Option ℤ) → IsFrom floor begun → IsFromFloor begun
  from_floor begun h = if_some_then (λ begin. int_lt begin floor ≡ false) (λ begin. IsTrue (not (int_lt begin floor))) begun (λ begin is. ap not is) h

  end_from : int_lt end floor ≡ false
  end_from = not_lt_through floor oldest end floor_low (oldest_first end pins)

  pub floor_begun : AreBegunFrom store floor
  floor_begun =
      let q : Begun → Bool = λ b. not (int_lt b.0 floor) in
      let last = (all_front (IsFromIf floor) s.earlier_begun (end, store.begun) (subst (AllByRecursion (IsFromIf floor)) s.begun each_from)).1 in
      record {
        tip = from_floor store.begun (last end_from);
        kept = All-from_recursion (λ (b : Begun). IsFromFloor b.1) (filter q store.kept_begun)
            (all_weaker (λ (b : Begun). IsFromIf floor b × (q b ≡ true)) (λ (b : Begun). IsFromFloor b.1) (λ b h. from_floor b.1 (h.0 (not_true (int_lt b.0 floor) h.1))) (filter q store.kept_begun)
            (all_passing (IsFromIf floor) q store.kept_begun each_from));
      }
