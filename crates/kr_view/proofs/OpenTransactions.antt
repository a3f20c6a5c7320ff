-- What a store keeps of open transactions, while a run is applied, and the oldest epoch that is needed for them.
use Rattle.std.proofs.Common.{◌≡◌, ◌≢◌, ◌∙◌, ◌⊎◌, inl, inr, ⊎_elim, ℕ, ℤ, pos, negsuc, Bool, true, false, true≢false, cond, ◌&&◌, List, [], ◌∷◌, ◌++◌, length, filter, find, map, refl, sym, ap, subst, append_assoc, append-nil, arith}
use Rattle.std.specs.Prelude.{◌+ℤ◌, int_lt, unsigned_abs, IsTrue, IfSome, IsSome, is_some, slice_get, ◌-◌, Option, Some, None, Result, Ok, Err}
use Rattle.std.specs.List.{AllByRecursion}
use Rattle.std.specs.List.Sorted.{IsStrictlySortedBy}
use Rattle.std.specs.Option.{option_map}
use Rattle.std.specs.Ordering.{int_cmp, int_eq}
use Rattle.std.specs.declared.cmp.Ordering.TheVariants.{Less}
use Rattle.std.proofs.lemmas.Int.{ints}
use Rattle.std.proofs.lemmas.Bool.{and_parts}
use Rattle.std.proofs.lemmas.Bool.Decides.{Decides-int_eq}
use Rattle.std.proofs.lemmas.List.Elements.{All-from_recursion, recursion_from_All}
use Rattle.kr_defs.specs.declared.ill.Ill.{Ill}
use Rattle.kr_defs.specs.declared.ill.Ill.TheVariants.{BadTransaction}
use Rattle.kr_defs.specs.declared.limits.TheConstants.{PLACES_END}
use Rattle.kr_defs.specs.declared.record.Item.{Item}
use Rattle.kr_defs.specs.declared.record.Item.TheVariants as items
use Rattle.kr_defs.specs.declared.record.Record.TheVariants as kinds
use Rattle.kr_defs.specs.Apply.{apply}
use Rattle.kr_defs.specs.Image.{Image}
use Rattle.kr_defs.specs.LogStates.{LogState, Opened, abort_open, apply_at, begin_at, end_open, image_after}
use Rattle.kr_defs.proofs.Tests.{Gives, gives_done, gives_found, gives_refuse, gives_then, none_is}
use Rattle.kr_calls.specs.SeatList.{with_item, with_outcome}
use Rattle.kr_view.specs.Pinned.{reached_in}
use Rattle.kr_image.proofs.EpochEnds.{last_later, less_lt, split}
use Rattle.kr_image.proofs.KeptLists.{all_push, all_weaker}
use Rattle.kr_image.proofs.StoreStates.{kept_already, kept_more}
use Rattle.kr_store.specs.Images.{AreValid, Images, IsAbove, kept_at, log_place, marked, opened_at, opened_under, tip_state}
use Rattle.kr_store.specs.ItemAnswers.{FallsBack, KeepsEpochs, MayOpen, MayStand, with_begin, with_epoch}
use Rattle.kr_view.specs.Standing.{AreInTurn, AreNatural, ComesTo, OpensFrom, IsLastKept, IsRunningAt, KeepsMore}

-- ---- numbers

pub lt_itself : (x : ℤ) → int_lt x x ≡ false
lt_itself x = grind (arith, ints)

lt_next : (x : ℤ) → int_lt x (x +ℤ pos 1) ≡ true
lt_next x = grind (arith, ints)

lt_through : (x y z : ℤ) → int_lt x y ≡ true → int_lt y z ≡ true → int_lt x z ≡ true
lt_through x y z a b = grind (arith, ints)

-- what is behind something not below a floor isn't below it
pub floor_through : (x y f : ℤ) → int_lt x f ≡ false → int_lt x y ≡ true → int_lt y f ≡ false
floor_through x y f a b = grind (arith, ints)

pub not_both : (x y : ℤ) → int_lt x y ≡ true → int_lt x y ≡ false → ⊥
not_both x y a b = true≢false (sym a ∙ b)

natural_place : (z : ℤ) → int_lt (negsuc 0) z ≡ true → pos (log_place z) ≡ z
natural_place (pos n) h = refl
natural_place (negsuc n) h = absurd (let no : int_lt (negsuc 0) (negsuc n) ≡ false = grind (arith, ints) in true≢false (sym h ∙ no))

pub log_place_is : (z : ℤ) → int_lt (negsuc 0) z ≡ true → log_place z ≡ unsigned_abs z
log_place_is (pos n) h = refl
log_place_is (negsuc n) h = absurd (let no : int_lt (negsuc 0) (negsuc n) ≡ false = grind (arith, ints) in true≢false (sym h ∙ no))

-- ---- lists

module _ {X : Type 0} (P : X → Type 0) where
  pub all_front : (xs : List X) (e : X) → AllByRecursion P (xs ++ e ∷ []) → AllByRecursion P xs × P e
  all_front [] e a = (tt, a.0)
  all_front (x ∷ xs) e a = let rest = all_front xs e a.1 in ((a.0, rest.0), rest.1)

  pub all_middle : (front : List X) (e : X) (rest : List X) → AllByRecursion P (front ++ e ∷ rest) → P e
  all_middle [] e rest a = a.0
  all_middle (x ∷ front) e rest a = all_middle front e rest a.1

  pub all_filter : (q : X → Bool) (xs : List X) → AllByRecursion P xs → AllByRecursion P (filter q xs)
  all_filter q [] a = tt
  all_filter q (x ∷ xs) a = elim (q x) as (λ b. AllByRecursion P (cond b (x ∷ filter q xs) (filter q xs))) [ true ↦ (a.0, all_filter q xs a.1) | false ↦ all_filter q xs a.1 ]

-- ---- epochs that rise

module _ {V : Type 0} where
  abbrev pub Rising : List (ℤ × V) → Type 0
  Rising es = IsStrictlySortedBy int_cmp (map (λ (e : ℤ × V). e.0) es)

  pub each_above : (x : ℤ) (es : List (ℤ × V)) → AllByRecursion (λ z. int_cmp x z ≡ Less) (map (λ (e : ℤ × V). e.0) es) → AllByRecursion (λ (e : ℤ × V). int_lt x e.0 ≡ true) es
  each_above x [] a = tt
  each_above x (e ∷ es) a = (less_lt x e.0 a.0, each_above x es a.1)

  -- those before one of them, and those behind it
  pub around : (front : List (ℤ × V)) (e : ℤ × V) (rest : List (ℤ × V)) → Rising (front ++ e ∷ rest) → AllByRecursion (λ (x : ℤ × V). int_lt x.0 e.0 ≡ true) front × AllByRecursion (λ (x : ℤ × V). int_lt e.0 x.0 ≡ true) rest
  unfolding IsStrictlySortedBy
  around [] e rest s = (tt, each_above e.0 rest s.0)
  around (x ∷ front) e rest s =
      let later = around front e rest s.1 in
      ((all_middle (λ (y : ℤ × V). int_lt x.0 y.0 ≡ true) front e rest (each_above x.0 (front ++ e ∷ rest) s.0), later.0), later.1)

-- ---- transactions one behind the other

abbrev pub Begun : Type 0
Begun = ℤ × Option ℤ

abbrev pub Follow : Begun → Option ℤ → Type 0
Follow kept later = IfSome later (OpensFrom kept)

-- it goes on from each of them
abbrev AllFollow : List Begun → Option ℤ → Type 0
AllFollow list later = AllByRecursion (λ (k : Begun). Follow k later) list

pub turn_push : (list : List Begun) (e : Begun) → AreInTurn list → AllFollow list e.1 → AreInTurn (list ++ e ∷ [])
turn_push [] e a f = (tt, tt)
turn_push (x ∷ xs) e a f = (all_push (λ (l : Begun). Follow x l.1) xs e a.0 f.0, turn_push xs e a.1 f.1)

pub turn_front : (xs : List Begun) (e : Begun) → AreInTurn (xs ++ e ∷ []) → AreInTurn xs × AllFollow xs e.1
turn_front [] e a = (tt, tt)
turn_front (x ∷ xs) e a =
    let rest = turn_front xs e a.1 in
    let both = all_front (λ (l : Begun). Follow x l.1) xs e a.0 in
    ((both.0, rest.0), (both.1, rest.1))

pub turn_filter : (q : Begun → Bool) (xs : List Begun) → AreInTurn xs → AreInTurn (filter q xs)
turn_filter q [] a = tt
turn_filter q (x ∷ xs) a = elim (q x) as (λ b. AreInTurn (cond b (x ∷ filter q xs) (filter q xs))) [ true ↦ (all_filter (λ (l : Begun). Follow x l.1) q xs a.0, turn_filter q xs a.1) | false ↦ turn_filter q xs a.1 ]

-- what is open goes on from its own epoch
follow_itself : (e : ℤ) (begun : Option ℤ) → Follow (e, begun) begun
follow_itself e None = tt
follow_itself e (Some begin) = inl refl

pub all_follow_last : (xs : List Begun) (e : ℤ) (begun : Option ℤ) → AreInTurn (xs ++ (e, begun) ∷ []) → AllFollow (xs ++ (e, begun) ∷ []) begun
all_follow_last xs e begun a = all_push (λ (k : Begun). Follow k begun) xs (e, begun) (turn_front xs (e, begun) a).1 (follow_itself e begun)

none_follows : (xs : List Begun) → AllFollow xs None
none_follows [] = tt
none_follows (x ∷ xs) = (tt, none_follows xs)

-- what begins behind all of them
begins_behind : (xs : List Begun) (begin : ℤ) → AllByRecursion (λ (x : Begun). int_lt x.0 begin ≡ true) xs → AllFollow xs (Some begin)
begins_behind xs begin above = all_weaker (λ (x : Begun). int_lt x.0 begin ≡ true) (λ (x : Begun). OpensFrom x begin) (λ x h. inr (inl h)) xs above

-- ---- kept epochs

module _ (store : Images) (valid : AreValid store) where
  pub begun_rising : Rising store.kept_begun
  begun_rising = subst (λ (zs : List ℤ). IsStrictlySortedBy int_cmp zs) (sym valid.begun.beside) valid.rising

  -- a property of the kept epochs is one of those with what is open there
  pub of_begun : (P : ℤ → Type 0) (ks : List (ℤ × Image)) (bs : List Begun) → map (λ (b : Begun). b.0) bs ≡ map (λ (k : ℤ × Image). k.0) ks → AllByRecursion (λ (k : ℤ × Image). P k.0) ks → AllByRecursion (λ (b : Begun). P b.0) bs
  of_begun P ks [] same a = tt
  of_begun P [] (b ∷ bs) same a = absurd cc
  of_begun P (k ∷ ks) (b ∷ bs) same a =
      let heads : b.0 ≡ k.0 = cc in
      let tails : map (λ (b : Begun). b.0) bs ≡ map (λ (k : ℤ × Image). k.0) ks = cc in
      (subst P (sym heads) a.0, of_begun P ks bs tails a.1)

kept_has : (P : ℤ → Type 0) (ks : List (ℤ × Image)) (at : ℤ) → AllByRecursion (λ (k : ℤ × Image). P k.0) ks → IsSome (option_map (λ (k : ℤ × Image). k.1) (find (λ (k : ℤ × Image). int_eq k.0 at) ks)) → P at
kept_has P [] at a h = absurd cc
kept_has P (k ∷ ks) at a h =
    elim (int_eq k.0 at) as (λ b. int_eq k.0 at ≡ b → IsSome (option_map (λ (k : ℤ × Image). k.1) (cond b (Some k) (find (λ (k : ℤ × Image). int_eq k.0 at) ks))) → P at) [
      | true ↦ λ is h. subst P ((Decides-int_eq k.0 at).0 is) a.0
      | false ↦ λ is h. kept_has P ks at a.1 h
    ] refl h

abbrev pub opened_with : ℤ → Image → Opened
opened_with begin image = record { place = log_place begin; image = image }

-- the place of the open transaction, as the state tells it
module _ (store : Images) (natural : AreNatural store.kept) where
  told_of : (begin : ℤ) (o : Option Image) → kept_at store begin ≡ o → IsSome o → option_map (λ (op : Opened). pos op.place) (opened_under store begin) ≡ Some begin
  told_of begin None is some = absurd cc
  told_of begin (Some image) is some =
      let here : IsSome (kept_at store begin) = subst (λ (o : Option Image). IsSome o) (sym is) refl in
      ap (λ (o : Option Image). option_map (λ (op : Opened). pos op.place) (option_map (opened_with begin) o)) is
      ∙ ap (λ z. Some z) (natural_place begin (kept_has (λ z. int_lt (negsuc 0) z ≡ true) store.kept begin natural here))

  pub begun_told : (begun : Option ℤ) → IfSome begun (λ begin. IsSome (kept_at store begin)) → option_map (λ (op : Opened). pos op.place) (opened_at store begun) ≡ begun
  begun_told None h = refl
  begun_told (Some begin) h = told_of begin (kept_at store begin) refl h

-- ---- an item of a run

nothing_more : (before after : Images) → after.kept ≡ before.kept → after.kept_begun ≡ before.kept_begun → KeepsMore before after
nothing_more before after kept begun = record { more = []; kept = kept ∙ sym (append-nil before.kept); more_begun = []; begun = begun ∙ sym (append-nil before.kept_begun) }

some_pushed : (xs : List (ℤ × Image)) (x : ℤ × Image) → IsSome (slice_get (xs ++ x ∷ []) (length (xs ++ x ∷ []) - 1))
some_pushed xs x = ap is_some (last_pushed xs x)
  where
    last_pushed : (xs : List (ℤ × Image)) (x : ℤ × Image) → slice_get (xs ++ x ∷ []) (length (xs ++ x ∷ []) - 1) ≡ Some x
    last_pushed [] x = refl
    last_pushed (y ∷ []) x = last_later y x []
    last_pushed (y ∷ z ∷ xs) x = last_later y z (xs ++ x ∷ []) ∙ last_pushed (z ∷ xs) x

module _ (before : Images) (at : ℤ) (run : IsRunningAt before at) (valid : AreValid before) where
  abbrev next : ℤ
  next = at +ℤ pos 1

  -- all that is kept is below the next place
  kept_below : AllByRecursion (λ (k : ℤ × Image). int_lt k.0 next ≡ true) before.kept
  kept_below = ⊎_elim
      (λ (above : IsAbove before.kept at). all_weaker (λ (k : ℤ × Image). int_lt k.0 at ≡ true) (λ (k : ℤ × Image). int_lt k.0 next ≡ true) (λ k h. lt_through k.0 at next h (lt_next at)) before.kept (recursion_from_All (λ (k : ℤ × Image). IsTrue (int_lt k.0 at)) before.kept above))
      (λ (last : IsLastKept before at).
      let s = split before.kept (at, before.tip) last.last in
      let low = (around s.front (at, before.tip) [] (subst (λ (ks : List (ℤ × Image)). Rising ks) s.is valid.rising)).0 in
      subst (AllByRecursion (λ (k : ℤ × Image). int_lt k.0 next ≡ true)) (sym s.is)
      (all_push (λ (k : ℤ × Image). int_lt k.0 next ≡ true) s.front (at, before.tip) (all_weaker (λ (k : ℤ × Image). int_lt k.0 at ≡ true) (λ (k : ℤ × Image). int_lt k.0 next ≡ true) (λ k h. lt_through k.0 at next h (lt_next at)) s.front low) (lt_next at)))
      run.place

  goes_up : int_lt (negsuc 0) next ≡ true
  goes_up = lt_through (negsuc 0) at next run.from (lt_next at)

  in_turn_before : AreInTurn before.kept_begun
  in_turn_before = (turn_front before.kept_begun (at, before.begun) run.in_turn).0

  follows_before : AllFollow before.kept_begun before.begun
  follows_before = (turn_front before.kept_begun (at, before.begun) run.in_turn).1

  module _ (after : Images) where
    -- no epoch more is kept
    stays : after.kept ≡ before.kept → after.kept_begun ≡ before.kept_begun → AllFollow before.kept_begun after.begun → ComesTo before after at next × KeepsMore before after
    stays kept begun follows =
        let above : IsAbove after.kept next = subst (λ (ks : List (ℤ × Image)). IsAbove ks next) (sym kept) (All-from_recursion (λ (k : ℤ × Image). IsTrue (int_lt k.0 next)) before.kept kept_below) in (
          record {
            running = record {
              some = subst (λ (ks : List (ℤ × Image)). IsSome (slice_get ks (length ks - 1))) (sym kept) run.some;
              place = inl above;
              from = goes_up;
              natural = subst AreNatural (sym kept) run.natural;
              in_turn = subst (λ (bs : List Begun). AreInTurn (bs ++ (next, after.begun) ∷ [])) (sym begun) (turn_push before.kept_begun (next, after.begun) in_turn_before follows);
            };
            moved = inr above;
          },
          nothing_more before after kept begun,
        )

    -- one opens at the place, of which the epoch is kept besides
    opens_above : IsAbove before.kept at → before.begun ≡ None → after.begun ≡ Some at → KeepsEpochs after (marked before at) → ComesTo before after at next × KeepsMore before after
    opens_above above none some epochs =
        let below : AllByRecursion (λ (k : ℤ × Image). int_lt k.0 at ≡ true) before.kept = recursion_from_All (λ (k : ℤ × Image). IsTrue (int_lt k.0 at)) before.kept above in
        let up : IsAbove after.kept next = subst (λ (ks : List (ℤ × Image)). IsAbove ks next) (sym epochs.images) (All-from_recursion (λ (k : ℤ × Image). IsTrue (int_lt k.0 next)) (before.kept ++ (at, before.tip) ∷ []) (all_push (λ (k : ℤ × Image). int_lt k.0 next ≡ true) before.kept (at, before.tip) kept_below (lt_next at))) in
        let here : OpensFrom (at, before.begun) at = inr (inr (none, refl)) in
        let follows : AllFollow (before.kept_begun ++ (at, before.begun) ∷ []) (Some at) =
        all_push (λ (k : Begun). Follow k (Some at)) before.kept_begun (at, before.begun) (begins_behind before.kept_begun at (of_begun before valid (λ z. int_lt z at ≡ true) before.kept before.kept_begun valid.begun.beside below)) here in (
          record {
            running = record {
              some = subst (λ (ks : List (ℤ × Image)). IsSome (slice_get ks (length ks - 1))) (sym epochs.images) (some_pushed before.kept (at, before.tip));
              place = inl up;
              from = goes_up;
              natural = subst AreNatural (sym epochs.images) (all_push (λ (k : ℤ × Image). int_lt (negsuc 0) k.0 ≡ true) before.kept (at, before.tip) run.natural run.from);
              in_turn = subst (λ (x : List Begun × Option ℤ). AreInTurn (x.0 ++ (next, x.1) ∷ [])) (λ i. (sym epochs.begun i, sym some i)) (turn_push (before.kept_begun ++ (at, before.begun) ∷ []) (next, Some at) run.in_turn follows);
            };
            moved = inr up;
          },
          record { more = (at, before.tip) ∷ []; kept = epochs.images; more_begun = (at, before.begun) ∷ []; begun = epochs.begun },
        )

    -- or is the last one already
    opens_last : IsLastKept before at → before.begun ≡ None → after.begun ≡ Some at → KeepsEpochs after before → ComesTo before after at next × KeepsMore before after
    opens_last last none some epochs =
        let low = (around last.earlier_begun (at, before.begun) [] (subst (λ (bs : List Begun). Rising bs) last.begun (begun_rising before valid))).0 in
        let here : OpensFrom (at, before.begun) at = inr (inr (none, refl)) in
        let follows : AllFollow before.kept_begun (Some at) =
        subst (λ (bs : List Begun). AllFollow bs (Some at)) (sym last.begun) (all_push (λ (k : Begun). Follow k (Some at)) last.earlier_begun (at, before.begun) (begins_behind last.earlier_begun at low) here) in
        stays epochs.images epochs.begun (subst (λ (o : Option ℤ). AllFollow before.kept_begun o) (sym some) follows)

    opens : before.begun ≡ None → after.begun ≡ Some at → KeepsEpochs after (with_epoch before at) → ComesTo before after at next × KeepsMore before after
    opens none some epochs = ⊎_elim
        (λ (above : IsAbove before.kept at). opens_above above none some (subst (λ (x : Images). KeepsEpochs after x) (kept_more before at above) epochs))
        (λ (last : IsLastKept before at). opens_last last none some (subst (λ (x : Images). KeepsEpochs after x) (kept_already before at valid last.last) epochs))
        run.place

-- what a begin, an end, an abort or any other item makes of what is open
abbrev opened_place : LogState → Option ℤ
opened_place state = option_map (λ (op : Opened). pos op.place) state.opened

abbrev Opens : LogState → ℕ → LogState → Type 0
Opens state place after = (state.opened ≡ None) × (opened_place after ≡ Some (pos place))

begin_opens : (state : LogState) (place : ℕ) → Gives (Opens state place) (begin_at state place)
begin_opens state place = gives_refuse (Opens state place) BadTransaction (is_some state.opened) _ (λ none. gives_done (Opens state place) _ (none_is state.opened none, refl))

pub end_closes : (state : LogState) → Gives (λ (after : LogState). after.opened ≡ None) (end_open state)
end_closes state = gives_found (λ (after : LogState). after.opened ≡ None) BadTransaction state.opened _ (λ opened is. gives_done (λ (after : LogState). after.opened ≡ None) _ refl)

pub abort_closes : (state : LogState) → Gives (λ (after : LogState). after.opened ≡ None) (abort_open state)
abort_closes state = gives_found (λ (after : LogState). after.opened ≡ None) BadTransaction state.opened _ (λ opened is. gives_done (λ (after : LogState). after.opened ≡ None) _ refl)

pub other_leaves : (state : LogState) (item : Item) → Gives (λ (after : LogState). after.opened ≡ state.opened) (image_after state item)
other_leaves state item = gives_then (λ (image : Image). Unit {0}) (λ (after : LogState). after.opened ≡ state.opened) (apply state.image item) _ (λ _ _. tt) (λ image _. gives_done (λ (after : LogState). after.opened ≡ state.opened) _ refl)

module _ (before after : Images) (at : ℤ) (run : IsRunningAt before at) (valid : AreValid before) (valid' : AreValid after) where
  -- what is open in a state is what the store says
  begun_before : before.begun ≡ opened_place (tip_state before)
  begun_before = sym (begun_told before run.natural before.begun valid.begun.tip)

  natural_after : (epochs : Images) → epochs.kept ≡ before.kept → after.kept ≡ epochs.kept → AreNatural after.kept
  natural_after epochs kept same = subst AreNatural (sym (same ∙ kept)) run.natural

  begun_after : AreNatural after.kept → after.begun ≡ opened_place (tip_state after)
  begun_after natural = sym (begun_told after natural after.begun valid'.begun.tip)

  closes : KeepsEpochs after before → (tip_state after).opened ≡ None → ComesTo before after at (at +ℤ pos 1) × KeepsMore before after
  closes epochs none =
      let begun : after.begun ≡ None = begun_after (natural_after before refl epochs.images) ∙ ap (option_map (λ (op : Opened). pos op.place)) none in
      stays before at run valid after epochs.images epochs.begun (subst (λ (o : Option ℤ). AllFollow before.kept_begun o) (sym begun) (none_follows before.kept_begun))

  leaves : KeepsEpochs after before → (tip_state after).opened ≡ (tip_state before).opened → ComesTo before after at (at +ℤ pos 1) × KeepsMore before after
  leaves epochs same =
      let begun : after.begun ≡ before.begun = begun_after (natural_after before refl epochs.images) ∙ ap (option_map (λ (op : Opened). pos op.place)) same ∙ sym begun_before in
      stays before at run valid after epochs.images epochs.begun (subst (λ (o : Option ℤ). AllFollow before.kept_begun o) (sym begun) (follows_before before at run valid))

  natural_epoch : KeepsEpochs after (with_epoch before at) → AreNatural after.kept
  natural_epoch epochs = ⊎_elim
      (λ (above : IsAbove before.kept at).
      subst AreNatural (sym (epochs.images ∙ ap (λ (x : Images). x.kept) (kept_more before at above))) (all_push (λ (k : ℤ × Image). int_lt (negsuc 0) k.0 ≡ true) before.kept (at, before.tip) run.natural run.from))
      (λ (last : IsLastKept before at). subst AreNatural (sym (epochs.images ∙ ap (λ (x : Images). x.kept) (kept_already before at valid last.last))) run.natural)
      run.place

  begins : KeepsEpochs after (with_epoch before at) → Opens (tip_state before) (log_place at) (tip_state after) → ComesTo before after at (at +ℤ pos 1) × KeepsMore before after
  begins epochs o =
      let none : before.begun ≡ None = begun_before ∙ ap (option_map (λ (op : Opened). pos op.place)) o.0 in
      let some : after.begun ≡ Some at = begun_after (natural_epoch epochs) ∙ o.1 ∙ ap (λ z. Some z) (natural_place at run.from) in
      opens before at run valid after none some epochs

  pub comes : (item : Item) → apply_at (tip_state before) (log_place at) item ≡ Ok (tip_state after) → KeepsEpochs after (with_begin before at item) → ComesTo before after at (at +ℤ pos 1) × KeepsMore before after
  unfolding apply_at
  comes (items.Record (kinds.BeginTransaction name)) is epochs = begins epochs (begin_opens (tip_state before) (log_place at) (tip_state after) is)
  comes (items.Record kinds.EndTransaction) is epochs = closes epochs (end_closes (tip_state before) (tip_state after) is)
  comes (items.Record (kinds.AbortTransaction reason)) is epochs = closes epochs (abort_closes (tip_state before) (tip_state after) is)
  comes item is epochs = leaves epochs (other_leaves (tip_state before) item (tip_state after) is)

-- ---- what an item of a run comes to

-- nothing has changed
pub stays_there : (before after : Images) (at : ℤ) → after ≡ before → IsRunningAt before at → ComesTo before after at at
stays_there before after at same run = record { running = subst (λ (x : Images). IsRunningAt x at) (sym same) run; moved = inl (refl, same) }

pub keeps_same : (before after : Images) → after ≡ before → KeepsMore before after
keeps_same before after same = nothing_more before after (ap (λ (x : Images). x.kept) same) (ap (λ (x : Images). x.kept_begun) same)

pub keeps_fallen : (before after : Images) → FallsBack before after → KeepsMore before after
keeps_fallen before after back = nothing_more before after back.epochs.images back.epochs.begun

abbrev counted : ℤ → ℤ → Bool
counted place end = int_eq place end && int_lt place PLACES_END

counted_at : (place end : ℤ) → counted place end ≡ true → place ≡ end
counted_at place end is = (Decides-int_eq place end).0 (and_parts (int_eq place end) (int_lt place PLACES_END) is).0

may_open : (store : Images) (at : ℤ) → IsRunningAt store at → MayOpen store at
may_open store at run = ⊎_elim (λ (above : IsAbove store.kept at). inl above) (λ (last : IsLastKept store at). inr last.last) run.place

stands_at : (store : Images) (at : ℤ) (item : Item) → IsRunningAt store at → MayStand store at item
stands_at store at (items.Record (kinds.BeginTransaction name)) run = may_open store at run
stands_at store at item run = tt

pub may_stand : (store : Images) (end place : ℤ) (item : Item) → IsRunningAt store end → counted place end ≡ true → MayStand store place item
may_stand store end place item run is = subst (λ z. MayStand store z item) (sym (counted_at place end is)) (stands_at store end item run)

-- it doesn't count
pub passed_state : (store : Images) (end place : ℤ) (item : Item) → counted place end ≡ false → reached_in store end ≡ with_item (reached_in store end) place item
passed_state store end place item off = ap (λ b. cond b (with_outcome (reached_in store end) (place +ℤ pos 1) (apply_at (tip_state store) (unsigned_abs place) item)) (reached_in store end)) (sym off)

module _ (before after : Images) (end place : ℤ) (item : Item) (run : IsRunningAt before end) (is : counted place end ≡ true) where
  natural_there : log_place place ≡ unsigned_abs place
  natural_there = log_place_is place (subst (λ z. int_lt (negsuc 0) z ≡ true) (sym (counted_at place end is)) run.from)

  made : (r : Result LogState Ill) → apply_at (tip_state before) (log_place place) item ≡ r → with_item (reached_in before end) place item ≡ with_outcome (reached_in before end) (place +ℤ pos 1) r
  made r by =
      ap (λ b. cond b (with_outcome (reached_in before end) (place +ℤ pos 1) (apply_at (tip_state before) (unsigned_abs place) item)) (reached_in before end)) is
      ∙ ap (with_outcome (reached_in before end) (place +ℤ pos 1)) (ap (λ n. apply_at (tip_state before) n item) (sym natural_there) ∙ by)

  -- it has a meaning, or none
  pub done_state : apply_at (tip_state before) (log_place place) item ≡ Ok (tip_state after) → reached_in after (place +ℤ pos 1) ≡ with_item (reached_in before end) place item
  done_state by = sym (made (Ok (tip_state after)) by)

  pub ill_state : (cause : Ill) → apply_at (tip_state before) (log_place place) item ≡ Err cause → after ≡ before → reached_in after end ≡ with_item (reached_in before end) place item
  ill_state cause by same = ap (λ (x : Images). reached_in x end) same ∙ sym (made (Err cause) by)

  both_come : AreValid before → AreValid after → apply_at (tip_state before) (log_place place) item ≡ Ok (tip_state after) → KeepsEpochs after (with_begin before place item) → ComesTo before after end (place +ℤ pos 1) × KeepsMore before after
  both_come valid valid' =
      subst (λ z. apply_at (tip_state before) (log_place z) item ≡ Ok (tip_state after) → KeepsEpochs after (with_begin before z item) → ComesTo before after end (z +ℤ pos 1) × KeepsMore before after) (sym (counted_at place end is))
      (λ by epochs. comes before after end run valid valid' item by epochs)

  pub done_comes : AreValid before × AreValid after → (apply_at (tip_state before) (log_place place) item ≡ Ok (tip_state after)) × KeepsEpochs after (with_begin before place item) → ComesTo before after end (place +ℤ pos 1)
  done_comes valid done = (both_come valid.0 valid.1 done.0 done.1).0

  pub done_keeps : AreValid before × AreValid after → (apply_at (tip_state before) (log_place place) item ≡ Ok (tip_state after)) × KeepsEpochs after (with_begin before place item) → KeepsMore before after
  done_keeps valid done = (both_come valid.0 valid.1 done.0 done.1).1

pub ruleset item_steps = (stays_there, keeps_same, keeps_fallen, may_stand, passed_state, done_state, ill_state, done_comes, done_keeps)

-- ---- a run of them

pub comes_then : (a b c : Images) (x y z : ℤ) → ComesTo a b x y → ComesTo b c y z → ComesTo a c x z
comes_then a b c x y z first second = record {
  running = second.running;
  moved = ⊎_elim
      (λ (stood : (z ≡ y) × (c ≡ b)). ⊎_elim
      (λ (still : (y ≡ x) × (b ≡ a)). inl (stood.0 ∙ still.0, stood.1 ∙ still.1))
      (λ (above : IsAbove b.kept y). inr (subst (λ (w : Images × ℤ). IsAbove w.0.kept w.1) (λ i. (sym stood.1 i, sym stood.0 i)) above)) first.moved)
      (λ (above : IsAbove c.kept z). inr above) second.moved;
}

pub keeps_then : (a b c : Images) → KeepsMore a b → KeepsMore b c → KeepsMore a c
keeps_then a b c first second = record {
  more = first.more ++ second.more;
  kept = second.kept ∙ ap (λ (ks : List (ℤ × Image)). ks ++ second.more) first.kept ∙ append_assoc a.kept first.more second.more;
  more_begun = first.more_begun ++ second.more_begun;
  begun = second.begun ∙ ap (λ (bs : List Begun). bs ++ second.more_begun) first.begun ∙ append_assoc a.kept_begun first.more_begun second.more_begun;
}

pub ruleset run_steps = (stays_there, keeps_same, comes_then, keeps_then)
