-- The ends of batches that are covered: those above the closed end, up to the committed one.
use Rattle.std.proofs.Common.{◌≡◌, ◌∙◌, sym, subst, ℕ, ℤ, pos, Bool, true, false, cond, ◌+◌, ◌≤◌, ◌<◌, List, [], ◌∷◌, ◌++◌, length, refl, ap, arith}
use Rattle.std.proofs.lemmas.Bool.Decides.{nat_tests}
use Rattle.std.proofs.lemmas.List.{append_assoc}
use Rattle.std.proofs.lemmas.List.Elements.{filter-append}
use Rattle.std.specs.Prelude.{◌||◌, filter, int_lt, nat_lt, not, unsigned_abs, unwrap_or}
use Rattle.std.specs.List.{AllByRecursion, list_any}
use Rattle.std.specs.Ordering.{int_eq}
use Rattle.kr_defs.specs.declared.record.Item.{Item}
use Rattle.kr_defs.specs.Log.{Log, closed_end_at, tip}
use Rattle.kr_defs.proofs.IdLists.{same_id}
use Rattle.kr_defs.proofs.StateLogs.{closed_end_between, closed_end_stays}
use Rattle.kr_model.specs.Commit.{after_commit, ends_up_to, is_end}
use Rattle.kr_model.specs.Engine.{Rise}
use Rattle.kr_model.specs.World.{State, World, closed_of, log_with, tip_of, with_end}
use Rattle.kr_model.proofs.KeptImages.{not_higher, rise_both}
use Rattle.kr_model.proofs.Logs.{open_written_below, tip_written}
use Rattle.kr_model.proofs.LongerLogs.{rise_more}
use Rattle.kr_model.proofs.Places.{is_below, isnt_below, moves}

less_by : (m n : ℕ) → nat_lt m n ≡ true → m < n
less_by m n h = grind (arith, nat_tests)

least_by : (m n : ℕ) → nat_lt m n ≡ false → n ≤ m
least_by m n h = grind (arith, nat_tests)

by_less : (m n : ℕ) → m < n → nat_lt m n ≡ true
by_less m n h = grind (arith, nat_tests)

less_int : (m n : ℕ) → int_lt (pos m) (pos n) ≡ true → m < n
less_int m n h = grind (arith, nat_tests)

up_to_by : (end n : ℕ) → not (int_lt (pos end) (pos n)) ≡ true → n ≤ end
up_to_by end n h = grind (arith, nat_tests)

-- ---- above the closed end, up to the committed one

abbrev pub AreCovered : ℕ → ℕ → List ℕ → Type 0
AreCovered from to ns = AllByRecursion (λ (n : ℕ). (from < n) × (n ≤ to)) ns

abbrev AreUpTo : ℕ → List ℕ → Type 0
AreUpTo to ns = AllByRecursion (λ (n : ℕ). n ≤ to) ns

pub covered_above : (from to : ℕ) (ns : List ℕ) → AreUpTo to ns → AreCovered from to (filter (λ n. nat_lt from n) ns)
covered_above from to [] up = tt
covered_above from to (n ∷ ns) up =
    let rest : List ℕ = filter (λ n. nat_lt from n) ns in
    elim (nat_lt from n) as (λ b. nat_lt from n ≡ b → AreCovered from to (cond b (n ∷ rest) rest)) [
      | true ↦ λ less. ((less_by from n less, up.0), covered_above from to ns up.1)
      | false ↦ λ least. covered_above from to ns up.1
    ] refl

pub up_to_later : (from to later : ℕ) (ns : List ℕ) → to ≤ later → AreCovered from to ns → AreUpTo later ns
up_to_later from to later [] low are = tt
up_to_later from to later (n ∷ ns) low are = (let here = are.0.1 in omega (arith, here, low), up_to_later from to later ns low are.1)

pub up_to_both : (to : ℕ) (xs ys : List ℕ) → AreUpTo to xs → AreUpTo to ys → AreUpTo to (xs ++ ys)
up_to_both to [] ys first second = second
up_to_both to (x ∷ xs) ys first second = (first.0, up_to_both to xs ys first.1 second)

pub passed_up_to : (end : ℤ) (ns : List ℕ) → end ≡ pos (unsigned_abs end) → AreUpTo (unsigned_abs end) (ends_up_to end ns)
passed_up_to end [] natural = tt
passed_up_to end (n ∷ ns) natural =
    let rest : List ℕ = ends_up_to end ns in
    elim (not (int_lt end (pos n))) as (λ b. not (int_lt end (pos n)) ≡ b → AreUpTo (unsigned_abs end) (cond b (n ∷ rest) rest)) [
      | true ↦ λ low. (up_to_by (unsigned_abs end) n (sym (ap (λ z. not (int_lt z (pos n))) natural) ∙ low), passed_up_to end ns natural)
      | false ↦ λ high. passed_up_to end ns natural
    ] refl

-- ---- and they rise

stay : (from low : ℕ) (ns : List ℕ) (to : ℕ) → from ≤ low → Rise low ns to → filter (λ n. nat_lt from n) ns ≡ ns
stay from low [] to least rise = refl
stay from low (n ∷ ns) to least rise =
    let up = rise.0 in
    ap (λ b. cond b (n ∷ filter (λ n. nat_lt from n) ns) (filter (λ n. nat_lt from n) ns)) (by_less from n (omega (arith, least, up)))
    ∙ ap (λ rest. n ∷ rest) (stay from n ns to (omega (arith, least, up)) rise.1)

pub rise_above : (from low : ℕ) (ns : List ℕ) (to : ℕ) → low ≤ from → from ≤ to → Rise low ns to → Rise from (filter (λ n. nat_lt from n) ns) to
rise_above from low [] to least high rise = omega (arith, least, high, rise)
rise_above from low (n ∷ ns) to least high rise =
    let rest : List ℕ = filter (λ n. nat_lt from n) ns in
    elim (nat_lt from n) as (λ b. nat_lt from n ≡ b → Rise from (cond b (n ∷ rest) rest) to) [
      | true ↦ λ less.
          let up : from < n = less_by from n less in
          (up, subst (λ (xs : List ℕ). Rise n xs to) (sym (stay from n ns to (omega (arith, up)) rise.1)) rise.1)
      | false ↦ λ kept. rise_above from n ns to (least_by from n kept) high rise.1
    ] refl

-- what a commit passes rises up to its end
module _ (log : Log) (to : ℕ) where
  none_passed : (from low : ℕ) (ns : List ℕ) → from ≤ low → Rise low ns to → ends_up_to (pos from) ns ≡ []
  none_passed from low [] least rise = refl
  none_passed from low (n ∷ ns) least rise =
      let up = rise.0 in
      ap (λ b. cond (not b) (n ∷ ends_up_to (pos from) ns) (ends_up_to (pos from) ns)) (is_below from n (omega (arith, least, up)))
      ∙ none_passed from n ns (omega (arith, least, up)) rise.1

  at_first : (from : ℕ) (ns : List ℕ) (end : ℤ) → Rise from ns to → int_eq end (pos from) ≡ true → Rise from (ends_up_to end ns) (unsigned_abs end)
  at_first from ns end rise same =
      let at : end ≡ pos from = same_id end (pos from) same in
      subst (λ z. Rise from (ends_up_to z ns) (unsigned_abs z)) (sym at) (subst (λ (xs : List ℕ). Rise from xs from) (sym (none_passed from from ns (omega arith) rise)) refl)

  further : (from n : ℕ) (ns : List ℕ) (end : ℤ) → from < n → end ≡ pos (unsigned_abs end) → n ≤ unsigned_abs end → Rise n (ends_up_to end ns) (unsigned_abs end) → Rise from (ends_up_to end (n ∷ ns)) (unsigned_abs end)
  further from n ns end up natural within rise =
      let low : int_lt end (pos n) ≡ false = ap (λ z. int_lt z (pos n)) natural ∙ isnt_below (unsigned_abs end) n within in
      subst (λ (xs : List ℕ). Rise from xs (unsigned_abs end)) (sym (ap (λ b. cond (not b) (n ∷ ends_up_to end ns) (ends_up_to end ns)) low)) (up, rise)

  pub rise_passed : (from : ℕ) (ns : List ℕ) (end : ℤ) → Rise from ns to → list_any (λ n. int_eq end (pos n)) (from ∷ ns) ≡ true → Rise from (ends_up_to end ns) (unsigned_abs end)
  rise_passed from [] end rise is =
      elim (int_eq end (pos from)) as (λ b. int_eq end (pos from) ≡ b → (b || false) ≡ true → Rise from (ends_up_to end []) (unsigned_abs end)) [
        | true ↦ λ same _. at_first from [] end rise same
        | false ↦ λ other is. absurd cc
      ] refl is
  rise_passed from (n ∷ ns) end rise is =
      elim (int_eq end (pos from)) as (λ b. int_eq end (pos from) ≡ b → (b || list_any (λ m. int_eq end (pos m)) (n ∷ ns)) ≡ true → Rise from (ends_up_to end (n ∷ ns)) (unsigned_abs end)) [
        | true ↦ λ same _. at_first from (n ∷ ns) end rise same
        | false ↦ λ other later. let m = moves log to n ns end rise.1 later in further from n ns end rise.0 m.natural m.above (rise_passed n ns end rise.1 later)
      ] refl is

-- ---- a list of ends, parted where a commit ends

abbrev above_end : ℤ → List ℕ → List ℕ
above_end end ns = filter (λ n. int_lt end (pos n)) ns

abbrev higher_than : ℕ → List ℕ → List ℕ
higher_than low ns = filter (λ n. nat_lt low n) ns

module _ (to : ℕ) (end : ℤ) (natural : end ≡ pos (unsigned_abs end)) where
  is_above : (n : ℕ) → unsigned_abs end < n → int_lt end (pos n) ≡ true
  is_above n up = ap (λ z. int_lt z (pos n)) natural ∙ is_below (unsigned_abs end) n up

  -- none of those that are above is passed
  none_more : (low : ℕ) (ns : List ℕ) → unsigned_abs end ≤ low → Rise low ns to → ends_up_to end ns ≡ []
  none_more low [] least rise = refl
  none_more low (n ∷ ns) least rise =
      let up = rise.0 in
      ap (λ b. cond (not b) (n ∷ ends_up_to end ns) (ends_up_to end ns)) (is_above n (omega (arith, least, up)))
      ∙ none_more n ns (omega (arith, least, up)) rise.1

  all_more : (low : ℕ) (ns : List ℕ) → unsigned_abs end ≤ low → Rise low ns to → above_end end ns ≡ ns
  all_more low [] least rise = refl
  all_more low (n ∷ ns) least rise =
      let up = rise.0 in
      ap (λ b. cond b (n ∷ above_end end ns) (above_end end ns)) (is_above n (omega (arith, least, up)))
      ∙ ap (λ rest. n ∷ rest) (all_more n ns (omega (arith, least, up)) rise.1)

  keep_or_drop : (b : Bool) (n : ℕ) (xs ys : List ℕ) → cond b (n ∷ (xs ++ ys)) (xs ++ ys) ≡ cond b (n ∷ xs) xs ++ ys
  keep_or_drop true n xs ys = refl
  keep_or_drop false n xs ys = refl

  -- above a place that isn't above the end: those that are passed, and those that aren't
  pub parted_at : (low from : ℕ) (ns : List ℕ) → low ≤ unsigned_abs end → Rise from ns to → higher_than low ns ≡ higher_than low (ends_up_to end ns) ++ above_end end ns
  parted_at low from [] least rise = refl
  parted_at low from (n ∷ ns) least rise =
      elim (int_lt end (pos n)) as (λ b. int_lt end (pos n) ≡ b → higher_than low (n ∷ ns) ≡ higher_than low (cond (not b) (n ∷ ends_up_to end ns) (ends_up_to end ns)) ++ cond b (n ∷ above_end end ns) (above_end end ns)) [
        | true ↦ λ above.
            let up : unsigned_abs end < n = less_int (unsigned_abs end) n (sym (ap (λ z. int_lt z (pos n)) natural) ∙ above) in
            stay low low (n ∷ ns) to (omega arith) (omega (arith, least, up), rise.1)
            ∙ sym (ap (λ (xs : List ℕ). higher_than low xs ++ (n ∷ above_end end ns)) (none_more n ns (omega (arith, up)) rise.1)
            ∙ ap (λ (xs : List ℕ). n ∷ xs) (all_more n ns (omega (arith, up)) rise.1))
        | false ↦ λ within.
            ap (λ (xs : List ℕ). cond (nat_lt low n) (n ∷ xs) xs) (parted_at low n ns least rise.1)
            ∙ keep_or_drop (nat_lt low n) n (higher_than low (ends_up_to end ns)) (above_end end ns)
      ] refl

-- ---- behind a Commit

module _ (s : State) (end : ℤ) (started : s.world.log.offset ≤ s.world.committed) (settled : Rise (closed_of s.world) s.world.covered s.world.committed) (ends : Rise s.world.committed s.world.batch_ends (tip_of s)) (is : is_end s.world end ≡ true) where
  abbrev w : World
  w = s.world

  abbrev after : World
  after = (after_commit s end).world

  end_is_natural : end ≡ pos (unsigned_abs end)
  end_is_natural = (moves w.log (tip_of s) w.committed w.batch_ends end ends is).natural

  up : w.committed ≤ unsigned_abs end
  up = (moves w.log (tip_of s) w.committed w.batch_ends end ends is).above

  low : unsigned_abs end ≤ tip_of s
  low = not_higher (unsigned_abs end) (above_end end w.batch_ends) (tip_of s) (moves w.log (tip_of s) w.committed w.batch_ends end ends is).rise

  pub closed_goes : closed_of w ≤ closed_of after
  closed_goes = closed_end_stays w.log w.committed (unsigned_abs end) started up low

  pub closed_within : closed_of after ≤ unsigned_abs end
  closed_within = (closed_end_between w.log (unsigned_abs end) (omega (arith, started, up)) low).1

  passed_rise : Rise (closed_of w) (w.covered ++ ends_up_to end w.batch_ends) (unsigned_abs end)
  passed_rise = rise_both (closed_of w) w.covered w.committed (ends_up_to end w.batch_ends) (unsigned_abs end) settled (rise_passed w.log (tip_of s) w.committed w.batch_ends end ends is)

  pub settled_by_commit : Rise (closed_of after) after.covered after.committed
  settled_by_commit = rise_above (closed_of after) (closed_of w) (w.covered ++ ends_up_to end w.batch_ends) (unsigned_abs end) closed_goes closed_within passed_rise

  -- what stays kept above the new closed end
  pub places_by_commit : filter (λ n. nat_lt (closed_of after) n) (w.covered ++ w.batch_ends) ≡ after.covered ++ after.batch_ends
  places_by_commit =
      let c = closed_of after in
      let passed : List ℕ = ends_up_to end w.batch_ends in
      let above : List ℕ = above_end end w.batch_ends in
      filter-append (λ n. nat_lt c n) w.covered w.batch_ends
      ∙ (ap (λ (xs : List ℕ). higher_than c w.covered ++ xs) (parted_at (tip_of s) end end_is_natural c w.committed w.batch_ends closed_within ends)
      ∙ (sym (append_assoc (higher_than c w.covered) (higher_than c passed) above)
      ∙ ap (λ (xs : List ℕ). xs ++ above) (sym (filter-append (λ n. nat_lt c n) w.covered passed))))

-- ---- behind a batch of another leader, on standby

pub settled_by_batch : (w : World) (items : List Item) → w.log.offset ≤ w.committed → Rise (closed_of w) w.covered w.committed → w.committed ≡ tip w.log → 1 ≤ length items
    → let after : World = with_end (record w { log = log_with w.log items }) (tip w.log + length items) ((tip w.log + length items) ∷ []) in
    Rise (closed_of after) after.covered after.committed
settled_by_batch w items started settled whole some =
    let longer : Log = log_with w.log items in
    let end : ℕ = tip w.log + length items in
    let long = tip_written w.log items in
    let same : closed_end_at longer w.committed ≡ closed_of w = ap (λ o. unwrap_or o w.committed) (open_written_below w.log items w.committed (omega (arith, whole))) in
    let stays : closed_end_at longer w.committed ≤ closed_end_at longer end = closed_end_stays longer w.committed end started (omega (arith, whole)) (omega (arith, long)) in
    let least : closed_of w ≤ closed_end_at longer end = omega (arith, same, stays) in
    let high : closed_end_at longer end ≤ end = (closed_end_between longer end (omega (arith, started, whole)) (omega (arith, long))).1 in
    rise_above (closed_end_at longer end) (closed_of w) (w.covered ++ end ∷ []) end least high
    (rise_more (closed_of w) w.covered w.committed end settled (omega (arith, whole, some)))
