-- What a store keeps under the end and under the pinned places, after each of its calls.
use Rattle.std.proofs.Common.{◌≡◌, ◌≢◌, ◌⊎◌, inr, ⊎_elim, ℕ, ℤ, pos, Bool, true, false, cond, not, List, [], ◌∷◌, ◌++◌, length, fold, refl, sym, ap, ◌∙◌, subst, map, filter, find, append-nil, append_assoc, arith}
use Rattle.std.specs.Prelude.{Option, Some, None, negsuc, int_lt, IfSome, IsSome, IsTrue, is_some, slice_get, unwrap_or, ◌-◌}
use Rattle.std.specs.Option.{option_map, option_or}
use Rattle.std.specs.Ordering.{int_eq}
use Rattle.std.specs.List.{AllByRecursion}
use Rattle.std.proofs.lemmas.Int.{ints}
use Rattle.std.proofs.lemmas.Bool.Decides.{Decides-int_eq}
use Rattle.std.proofs.lemmas.List.Elements.{recursion_from_All, filter-append}
use Rattle.std.proofs.lemmas.List.Folds.{find-append}
use Rattle.kr_defs.specs.Image.{Image, empty}
use Rattle.kr_defs.specs.LogStates.{LogState, Opened}
use Rattle.kr_defs.proofs.StateLogs.{if_some_then}
use Rattle.kr_defs.proofs.Tests.{not_true, some_is}
use Rattle.kr_calls.specs.declared.pins.Pin.{Pin}
use Rattle.kr_calls.specs.declared.events.Entry.{Entry}
use Rattle.kr_calls.specs.SeatList.{PinnedLog, Reached, lower, nothing_pinned}
use Rattle.kr_image.proofs.EpochEnds.{filter_all, last_later}
use Rattle.kr_image.proofs.KeptLists.{all_push, all_weaker, apart_before, find_filter, find_last, map_same}
use Rattle.kr_store.specs.Images.{AreBegunFrom, AreValid, Images, IsAbove, begun_at, begun_under, forgotten, kept_at, kept_once, last_kept, marked, no_images, opened_at, reverted, tip_state}
use Rattle.kr_view.specs.Pinned.{log_in, pin_image, reached_in}
use Rattle.kr_view.specs.Standing.{AreInTurn, AreNatural, ComesTo, OpensFrom, IsRunningAt, IsStandingAt, KeepsMore, run_with, with_run}
use Rattle.kr_view.proofs.OpenTransactions.{Begun, Rising, opened_with, all_filter, all_follow_last, all_middle, around, begun_rising, lt_itself, not_both, turn_filter, turn_push}
use Rattle.kr_view.proofs.Runs.{still_there}

-- ---- numbers

lt_through : (x y z : ℤ) → int_lt x y ≡ true → int_lt y z ≡ true → int_lt x z ≡ true
lt_through x y z a b = grind (arith, ints)

pub not_lt_through : (x y z : ℤ) → int_lt y x ≡ false → int_lt z y ≡ false → int_lt z x ≡ false
not_lt_through x y z a b = grind (arith, ints)

lt_not_back : (x y : ℤ) → int_lt x y ≡ true → int_lt y x ≡ false
lt_not_back x y a = grind (arith, ints)

-- ---- the oldest place

-- the lower one is not above either
lower_first : (z : ℤ) (pin : Pin) → int_lt z (lower z pin) ≡ false
lower_first z pin = elim (int_lt pin.place z) as (λ b. int_lt pin.place z ≡ b → int_lt z (cond b pin.place z) ≡ false) [
  | true ↦ λ is. lt_not_back pin.place z is
  | false ↦ λ is. lt_itself z
] refl

lower_second : (z : ℤ) (pin : Pin) → int_lt pin.place (lower z pin) ≡ false
lower_second z pin = elim (int_lt pin.place z) as (λ b. int_lt pin.place z ≡ b → int_lt pin.place (cond b pin.place z) ≡ false) [
  | true ↦ λ is. lt_itself pin.place
  | false ↦ λ is. is
] refl

pub oldest_first : (z : ℤ) (pins : List Pin) → int_lt z (fold lower z pins) ≡ false
oldest_first z [] = lt_itself z
oldest_first z (pin ∷ pins) = not_lt_through (fold lower (lower z pin) pins) (lower z pin) z (oldest_first (lower z pin) pins) (lower_first z pin)

pub oldest_each : (z : ℤ) (pins : List Pin) → AllByRecursion (λ pin. int_lt pin.place (fold lower z pins) ≡ false) pins
oldest_each z [] = tt
oldest_each z (pin ∷ pins) = (not_lt_through (fold lower (lower z pin) pins) (lower z pin) pin.place (oldest_first (lower z pin) pins) (lower_second z pin), oldest_each (lower z pin) pins)

-- ---- the last kept epoch

abbrev Kept : Type 0
Kept = ℤ × Image

last_snoc : (xs : List Kept) (x : Kept) → slice_get (xs ++ x ∷ []) (length (xs ++ x ∷ []) - 1) ≡ Some x
last_snoc [] x = refl
last_snoc (y ∷ []) x = last_later y x []
last_snoc (y ∷ z ∷ xs) x = last_later y z (xs ++ x ∷ []) ∙ last_snoc (z ∷ xs) x

pub is_there : (o : Option Image) → IsSome o → (image : Image) × (o ≡ Some image)
is_there None is = absurd cc
is_there (Some image) is = (image, refl)

found_more : (p : Kept → Bool) (xs ys : List Kept) → IsSome (option_map (λ (k : Kept). k.1) (find p xs)) → find p (xs ++ ys) ≡ find p xs
found_more p xs ys there = find-append p xs ys ∙ elim (find p xs) as (λ o. IsSome (option_map (λ (k : Kept). k.1) o) → option_or o (find p ys) ≡ o) [
  | Some k ↦ λ is. refl
  | None ↦ λ is. absurd cc
] there

-- with more epochs, what was kept is found as before
kept_more_at : (before after : Images) (more : List Kept) (at : ℤ) → after.kept ≡ before.kept ++ more → IsSome (kept_at before at) → kept_at after at ≡ kept_at before at
kept_more_at before after more at same is =
    ap (λ (ks : List Kept). option_map (λ (k : Kept). k.1) (find (λ (k : Kept). int_eq k.0 at) ks)) same
    ∙ ap (option_map (λ (k : Kept). k.1)) (found_more (λ (k : Kept). int_eq k.0 at) before.kept more is)

-- what is open is the same where its epoch is kept with the same image
opened_alike : (a b : Images) (begun : Option ℤ) → IfSome begun (λ begin. kept_at a begin ≡ kept_at b begin) → opened_at a begun ≡ opened_at b begun
opened_alike a b None same = refl
opened_alike a b (Some begin) same = ap (option_map (opened_with begin)) same

abbrev state_by : Image → Option Opened → LogState
state_by image opened = record { image = image; opened = opened }

-- ---- where a store stands

module _ (store : Images) (end : ℤ) (pins : List Pin) (s : IsStandingAt store end pins) where
  last_is : last_kept store ≡ Some (end, store.tip)
  last_is = ap (λ (ks : List Kept). slice_get ks (length ks - 1)) s.kept ∙ last_snoc s.earlier (end, store.tip)

  pub some_kept : IsSome (last_kept store)
  some_kept = ap is_some last_is

  pub at_end : kept_at store end ≡ Some store.tip
  at_end =
      ap (λ (ks : List Kept). option_map (λ (k : Kept). k.1) (find (λ (k : Kept). int_eq k.0 end) ks)) s.kept
      ∙ ap (option_map (λ (k : Kept). k.1)) (find_last (λ (k : Kept). int_eq k.0 end) s.earlier (end, store.tip)
      (all_weaker (λ (k : Kept). int_lt k.0 end ≡ true) (λ (k : Kept). int_eq k.0 end ≡ false) (λ k below. apart_before k.0 end below) s.earlier s.above)
      ((Decides-int_eq end end).1 refl))

  all_natural : AreNatural store.kept
  all_natural = subst AreNatural (sym s.kept) (all_push (λ (k : Kept). int_lt (negsuc 0) k.0 ≡ true) s.earlier (end, store.tip) s.natural s.from)

  -- a run may begin there
  pub runs_from : IsRunningAt store end
  runs_from = record {
    some = some_kept;
    place = inr (record { last = last_is; earlier_begun = s.earlier_begun; begun = s.begun });
    from = s.from;
    natural = all_natural;
    in_turn = turn_push store.kept_begun (end, store.begun) s.in_turn
        (subst (λ (bs : List Begun). AllByRecursion (λ (k : Begun). IfSome store.begun (OpensFrom k)) bs) (sym s.begun)
        (all_follow_last s.earlier_begun end store.begun (subst AreInTurn s.begun s.in_turn)));
  }

  -- ---- going back

  -- with the same epochs, and the same state
  alike : (new : Images) → new.kept ≡ store.kept → new.kept_begun ≡ store.kept_begun → new.tip ≡ store.tip → new.begun ≡ store.begun → (log_in new end pins ≡ log_in store end pins) × IsStandingAt new end pins
  alike new same same_begun tip begun =
      let place : (at : ℤ) → kept_at new at ≡ kept_at store at = λ at. ap (λ (ks : List Kept). option_map (λ (k : Kept). k.1) (find (λ (k : Kept). int_eq k.0 at) ks)) same in
      let open_same : opened_at new new.begun ≡ opened_at store store.begun = opened_by new.begun place ∙ ap (opened_at store) begun in (
        (λ i. record { at = record { state = state_by (tip i) (open_same i); end = end }; pinned = map (λ (pin : Pin). (pin, unwrap_or (place pin.place i) empty)) pins }),
        record {
          earlier = s.earlier;
          kept = same ∙ s.kept ∙ ap (λ (image : Image). s.earlier ++ (end, image) ∷ []) (sym tip);
          above = s.above;
          from = s.from;
          natural = s.natural;
          pinned = all_weaker (λ (pin : Pin). IsSome (kept_at store pin.place)) (λ (pin : Pin). IsSome (kept_at new pin.place)) (λ pin is. subst IsSome (sym (place pin.place)) is) pins s.pinned;
          earlier_begun = s.earlier_begun;
          begun = same_begun ∙ s.begun ∙ ap (λ (o : Option ℤ). s.earlier_begun ++ (end, o) ∷ []) (sym begun);
          in_turn = subst AreInTurn (sym same_begun) s.in_turn;
        },
      )
    where
      opened_by : (o : Option ℤ) → ((at : ℤ) → kept_at new at ≡ kept_at store at) → opened_at new o ≡ opened_at store o
      opened_by None place = refl
      opened_by (Some begin) place = opened_alike new store (Some begin) (place begin)

  -- the epochs of the end and below it
  up_to_end : {V : Type 0} (front : List (ℤ × V)) (v : V) (more : List (ℤ × V)) → Rising ((front ++ (end, v) ∷ []) ++ more) → filter (λ (k : ℤ × V). not (int_lt end k.0)) ((front ++ (end, v) ∷ []) ++ more) ≡ front ++ (end, v) ∷ []
  up_to_end {V} front v more rising =
      let q : ℤ × V → Bool = λ k. not (int_lt end k.0) in
      let near = around front (end, v) more (subst (λ (es : List (ℤ × V)). Rising es) (append_assoc front ((end, v) ∷ []) more) rising) in
      let low = all_push (λ (k : ℤ × V). q k ≡ true) front (end, v) (all_weaker (λ (k : ℤ × V). int_lt k.0 end ≡ true) (λ (k : ℤ × V). q k ≡ true) (λ k below. ap not (lt_not_back k.0 end below)) front near.0) (ap not (lt_itself end)) in
      filter-append q (front ++ (end, v) ∷ []) more
      ∙ ap (λ (es : List (ℤ × V)). es ++ filter q more) (filter_all q (front ++ (end, v) ∷ []) low)
      ∙ ap (λ (es : List (ℤ × V)). (front ++ (end, v) ∷ []) ++ es) (none_left q more (all_weaker (λ (k : ℤ × V). int_lt end k.0 ≡ true) (λ (k : ℤ × V). q k ≡ false) (λ k above. ap not above) more near.1))
      ∙ append-nil (front ++ (end, v) ∷ [])
    where
      none_left : (q : ℤ × V → Bool) (es : List (ℤ × V)) → AllByRecursion (λ (k : ℤ × V). q k ≡ false) es → filter q es ≡ []
      none_left q [] a = refl
      none_left q (e ∷ es) a = ap (λ b. cond b (e ∷ filter q es) (filter q es)) a.0 ∙ none_left q es a.1

  module _ (mid : Images) (keeps : KeepsMore store mid) where
    mid_at : (at : ℤ) → IsSome (kept_at store at) → kept_at mid at ≡ kept_at store at
    mid_at at is = kept_more_at store mid keeps.more at keeps.kept is

    pub mid_end : kept_at mid end ≡ Some store.tip
    mid_end = mid_at end (ap is_some at_end) ∙ at_end

    pub may_go_back : IsSome (kept_at mid end)
    may_go_back = ap is_some mid_end

  module _ (mid : Images) (keeps : KeepsMore store mid) (valid : AreValid mid) where
    mid_kept : mid.kept ≡ (s.earlier ++ (end, store.tip) ∷ []) ++ keeps.more
    mid_kept = keeps.kept ∙ ap (λ (ks : List Kept). ks ++ keeps.more) s.kept

    mid_begun : mid.kept_begun ≡ (s.earlier_begun ++ (end, store.begun) ∷ []) ++ keeps.more_begun
    mid_begun = keeps.begun ∙ ap (λ (bs : List Begun). bs ++ keeps.more_begun) s.begun

    rising_begun : Rising ((s.earlier_begun ++ (end, store.begun) ∷ []) ++ keeps.more_begun)
    rising_begun = subst (λ (bs : List Begun). Rising bs) mid_begun (begun_rising mid valid)

    open_at_end : begun_at mid end ≡ store.begun
    open_at_end =
        let p : Begun → Bool = λ b. int_eq b.0 end in
        let near = around s.earlier_begun (end, store.begun) keeps.more_begun (subst (λ (bs : List Begun). Rising bs) (append_assoc s.earlier_begun ((end, store.begun) ∷ []) keeps.more_begun) rising_begun) in
        let found : find p (s.earlier_begun ++ (end, store.begun) ∷ []) ≡ Some (end, store.begun) = find_last p s.earlier_begun (end, store.begun) (all_weaker (λ (b : Begun). int_lt b.0 end ≡ true) (λ (b : Begun). p b ≡ false) (λ b below. apart_before b.0 end below) s.earlier_begun near.0) ((Decides-int_eq end end).1 refl) in
        ap begun_under (ap (find p) mid_begun ∙ find-append p (s.earlier_begun ++ (end, store.begun) ∷ []) keeps.more_begun ∙ ap (λ (o : Option Begun). option_or o (find p keeps.more_begun)) found)

    abbrev back_to : Image → Images
    back_to tip = record {
      kept = filter (λ (k : Kept). not (int_lt end k.0)) mid.kept;
      tip = tip;
      made = 0;
      kept_made = filter (λ (m : ℤ × ℕ). not (int_lt end m.0)) mid.kept_made;
      begun = begun_at mid end;
      kept_begun = filter (λ (b : Begun). not (int_lt end b.0)) mid.kept_begun;
    }

    back_is : reverted mid end ≡ Some (back_to store.tip)
    back_is = ap (option_map back_to) (mid_end mid keeps)

    -- what was applied is taken back
    pub goes_back : (new : Images) → reverted mid end ≡ Some new → (log_in new end pins ≡ log_in store end pins) × IsStandingAt new end pins
    goes_back new is =
        let own : back_to store.tip ≡ new = some_is (back_to store.tip) new (sym back_is ∙ is) in
        alike new
        (ap (λ (x : Images). x.kept) (sym own) ∙ ap (filter (λ (k : Kept). not (int_lt end k.0))) mid_kept ∙ up_to_end s.earlier store.tip keeps.more (subst (λ (ks : List Kept). Rising ks) mid_kept valid.rising) ∙ sym s.kept)
        (ap (λ (x : Images). x.kept_begun) (sym own) ∙ ap (filter (λ (b : Begun). not (int_lt end b.0))) mid_begun ∙ up_to_end s.earlier_begun store.begun keeps.more_begun rising_begun ∙ sym s.begun)
        (ap (λ (x : Images). x.tip) (sym own))
        (ap (λ (x : Images). x.begun) (sym own) ∙ open_at_end)

    -- ---- one epoch more

    module _ (next : ℤ) (run : IsRunningAt mid next) (above : IsAbove mid.kept next) where
      below_next : AllByRecursion (λ (k : Kept). int_lt k.0 next ≡ true) mid.kept
      below_next = recursion_from_All (λ (k : Kept). IsTrue (int_lt k.0 next)) mid.kept above

      marked_at : (at : ℤ) → IsSome (kept_at mid at) → kept_at (marked mid next) at ≡ kept_at mid at
      marked_at at is = kept_more_at mid (marked mid next) ((next, mid.tip) ∷ []) at refl is

      pinned_at : (at : ℤ) → IsSome (kept_at store at) → kept_at (marked mid next) at ≡ kept_at store at
      pinned_at at is = marked_at at (subst IsSome (sym (mid_at mid keeps at is)) is) ∙ mid_at mid keeps at is

      marked_state : tip_state (marked mid next) ≡ tip_state mid
      marked_state = ap (state_by mid.tip) (opened_alike (marked mid next) mid mid.begun (if_some_then (λ begin. IsSome (kept_at mid begin)) (λ begin. kept_at (marked mid next) begin ≡ kept_at mid begin) mid.begun (λ begin is. marked_at begin is) valid.begun.tip))

      pub marks : (log_in (marked mid next) next pins ≡ record { at = record { state = tip_state mid; end = next }; pinned = map (pin_image store) pins }) × IsStandingAt (marked mid next) next pins
      marks = (
        (λ i. record {
          at = record { state = marked_state i; end = next };
          pinned = map_same (pin_image (marked mid next)) (pin_image store) pins
              (all_weaker (λ (pin : Pin). IsSome (kept_at store pin.place)) (λ (pin : Pin). pin_image (marked mid next) pin ≡ pin_image store pin) (λ pin is. ap (λ (o : Option Image). (pin, unwrap_or o empty)) (pinned_at pin.place is)) pins s.pinned) i;
        }),
        record {
          earlier = mid.kept;
          kept = refl;
          above = below_next;
          from = run.from;
          natural = run.natural;
          pinned = all_weaker (λ (pin : Pin). IsSome (kept_at store pin.place)) (λ (pin : Pin). IsSome (kept_at (marked mid next) pin.place)) (λ pin is. subst IsSome (sym (pinned_at pin.place is)) is) pins s.pinned;
          earlier_begun = mid.kept_begun;
          begun = refl;
          in_turn = run.in_turn;
        },
      )

  -- ---- fewer epochs

  module _ (floor : ℤ) (low : int_lt (fold lower end pins) floor ≡ false) (from : AreBegunFrom store floor) where
    left_alone : (at : ℤ) → int_lt at floor ≡ false → kept_at (forgotten store floor) at ≡ kept_at store at
    left_alone at up = ap (option_map (λ (k : Kept). k.1)) (find_filter (λ (k : Kept). int_eq k.0 at) (λ (k : Kept). not (int_lt k.0 floor))
        (λ k is. ap (λ z. not (int_lt z floor)) ((Decides-int_eq k.0 at).0 is) ∙ ap not up) store.kept)

    both_weaker : (rest : List Pin) → AllByRecursion (λ pin. int_lt pin.place (fold lower end pins) ≡ false) rest → AllByRecursion (λ pin. IsSome (kept_at store pin.place)) rest
        → AllByRecursion (λ pin. pin_image (forgotten store floor) pin ≡ pin_image store pin) rest × AllByRecursion (λ pin. IsSome (kept_at (forgotten store floor) pin.place)) rest
    both_weaker [] up there = (tt, tt)
    both_weaker (pin ∷ rest) up there =
        let same = left_alone pin.place (not_lt_through floor (fold lower end pins) pin.place low up.0) in
        let others = both_weaker rest up.1 there.1 in
        ((ap (λ (o : Option Image). (pin, unwrap_or o empty)) same, others.0), (subst IsSome (sym same) there.0, others.1))

    end_stays : int_lt end floor ≡ false
    end_stays = not_lt_through floor (fold lower end pins) end low (oldest_first end pins)

    state_left : tip_state (forgotten store floor) ≡ tip_state store
    state_left = ap (state_by store.tip) (opened_alike (forgotten store floor) store store.begun (if_some_then (λ begin. IsTrue (not (int_lt begin floor))) (λ begin. kept_at (forgotten store floor) begin ≡ kept_at store begin) store.begun (λ begin is. left_alone begin (not_true (int_lt begin floor) is)) from.tip))

    pub forgets : (log_in (forgotten store floor) end pins ≡ log_in store end pins) × IsStandingAt (forgotten store floor) end pins
    forgets =
        let all = both_weaker pins (oldest_each end pins) s.pinned in
        let q : Kept → Bool = λ k. not (int_lt k.0 floor) in
        let r : Begun → Bool = λ b. not (int_lt b.0 floor) in
        let front : List Kept = filter q s.earlier in
        let front_begun : List Begun = filter r s.earlier_begun in (
          (λ i. record { at = record { state = state_left i; end = end }; pinned = map_same (pin_image (forgotten store floor)) (pin_image store) pins all.0 i }),
          record {
            earlier = front;
            kept = ap (filter q) s.kept ∙ filter-append q s.earlier ((end, store.tip) ∷ []) ∙ ap (λ b. front ++ cond (not b) ((end, store.tip) ∷ []) []) end_stays;
            above = all_filter (λ (k : Kept). int_lt k.0 end ≡ true) q s.earlier s.above;
            from = s.from;
            natural = all_filter (λ (k : Kept). int_lt (negsuc 0) k.0 ≡ true) q s.earlier s.natural;
            pinned = all.1;
            earlier_begun = front_begun;
            begun = ap (filter r) s.begun ∙ filter-append r s.earlier_begun ((end, store.begun) ∷ []) ∙ ap (λ b. front_begun ++ cond (not b) ((end, store.begun) ∷ []) []) end_stays;
            in_turn = turn_filter r store.kept_begun s.in_turn;
          },
        )

  -- ---- other pins

  with_pins : (others : List Pin) → AllByRecursion (λ (pin : Pin). IsSome (kept_at store pin.place)) others → IsStandingAt store end others
  with_pins others there = record {
    earlier = s.earlier;
    kept = s.kept;
    above = s.above;
    from = s.from;
    natural = s.natural;
    pinned = there;
    earlier_begun = s.earlier_begun;
    begun = s.begun;
    in_turn = s.in_turn;
  }

  pub fewer_stand : (q : Pin → Bool) → IsStandingAt store end (filter q pins)
  fewer_stand q = with_pins (filter q pins) (all_filter (λ (pin : Pin). IsSome (kept_at store pin.place)) q pins s.pinned)

  pub one_more_stands : (pin : Pin) → pin.place ≡ end → IsStandingAt store end (pins ++ pin ∷ [])
  one_more_stands pin is = with_pins (pins ++ pin ∷ []) (all_push (λ (pin : Pin). IsSome (kept_at store pin.place)) pins pin s.pinned (subst (λ z. IsSome (kept_at store z)) (sym is) (ap is_some at_end)))

  pub none_stand : IsStandingAt store end []
  none_stand = with_pins [] tt

-- the empty image, at place 0
pub begins : (before store : Images) → before ≡ no_images → store ≡ marked before (pos 0) → (log_in store (pos 0) [] ≡ nothing_pinned) × IsStandingAt store (pos 0) []
begins before store none is =
    let at : store ≡ marked no_images (pos 0) = is ∙ ap (λ (s : Images). marked s (pos 0)) none in (
      ap (λ (s : Images). log_in s (pos 0) []) at,
      subst (λ (s : Images). IsStandingAt s (pos 0) []) (sym at) (record { earlier = []; kept = refl; above = tt; from = refl; natural = tt; pinned = tt; earlier_begun = []; begun = refl; in_turn = (tt, tt) }),
    )

pub once_stands : (end : ℤ) (image : Image) → int_lt (negsuc 0) end ≡ true → IsStandingAt (kept_once end image) end []
once_stands end image from = record { earlier = []; kept = refl; above = tt; from = from; natural = tt; pinned = tt; earlier_begun = []; begun = refl; in_turn = (tt, tt) }

-- ---- a run

module _ (old mid : Images) (end next : ℤ) (pins : List Pin) (s : IsStandingAt old end pins) (entries : List Entry) (run : reached_in mid next ≡ fold run_with (reached_in old end) entries) (comes : ComesTo old mid end next) (keeps : KeepsMore old mid) where
  next_is : next ≡ (fold run_with (reached_in old end) entries).end
  next_is = ap (λ (r : Reached). r.end) run

  abbrev with_pinned : Reached → PinnedLog
  with_pinned r = record { at = r; pinned = map (pin_image old) pins }

  -- the end is among what is kept
  end_not_above : IsAbove mid.kept end → ⊥
  end_not_above above =
      let low : AllByRecursion (λ (k : Kept). int_lt k.0 end ≡ true) mid.kept = recursion_from_All (λ (k : Kept). IsTrue (int_lt k.0 end)) mid.kept above in
      let own : mid.kept ≡ s.earlier ++ (end, old.tip) ∷ keeps.more = keeps.kept ∙ ap (λ (ks : List Kept). ks ++ keeps.more) s.kept ∙ append_assoc s.earlier ((end, old.tip) ∷ []) keeps.more in
      let here : int_lt end end ≡ true = all_middle (λ (k : Kept). int_lt k.0 end ≡ true) s.earlier (end, old.tip) keeps.more (subst (AllByRecursion (λ (k : Kept). int_lt k.0 end ≡ true)) own low) in
      not_both end end here (lt_itself end)

  -- nothing counted
  put : next ≡ end → mid ≡ old
  put same = ⊎_elim (λ (stood : (next ≡ end) × (mid ≡ old)). stood.1) (λ (above : IsAbove mid.kept next). absurd (end_not_above (subst (λ z. IsAbove mid.kept z) same above))) comes.moved

  pub stays_log : next ≡ end → log_in mid next pins ≡ with_run (log_in old end pins) entries
  stays_log same =
      ap (λ (x : Images × ℤ). log_in x.0 x.1 pins) (λ i. (put same i, same i))
      ∙ ap with_pinned (sym (still_there (reached_in old end) entries (sym next_is ∙ same)))

  pub stays_at : next ≡ end → IsStandingAt mid next pins
  stays_at same = subst (λ (x : Images × ℤ). IsStandingAt x.0 x.1 pins) (λ i. (sym (put same) i, sym same i)) s

  pub is_above : next ≢ end → IsAbove mid.kept next
  is_above other = ⊎_elim (λ (stood : (next ≡ end) × (mid ≡ old)). absurd (other stood.0)) (λ (above : IsAbove mid.kept next). above) comes.moved

  pub goes_on_log : AreValid mid → next ≢ end → log_in (marked mid next) next pins ≡ with_run (log_in old end pins) entries
  goes_on_log valid other = (marks old end pins s mid keeps valid next comes.running (is_above other)).0 ∙ ap with_pinned run

  pub goes_on_at : AreValid mid → next ≢ end → IsStandingAt (marked mid next) next pins
  goes_on_at valid other = (marks old end pins s mid keeps valid next comes.running (is_above other)).1

pub begins_log : (before store : Images) → before ≡ no_images → store ≡ marked before (pos 0) → log_in store (pos 0) [] ≡ nothing_pinned
begins_log before store none is = (begins before store none is).0

pub begins_at : (before store : Images) → before ≡ no_images → store ≡ marked before (pos 0) → IsStandingAt store (pos 0) []
begins_at before store none is = (begins before store none is).1

pub ruleset beginnings = (begins_log, begins_at)
