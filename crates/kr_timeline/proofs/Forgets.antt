-- What is left where the oldest entries are dropped.
use Rattle.std.proofs.Common.{◌≡◌, ◌≤◌, ◌<◌, List, [], ◌∷◌, ◌++◌, Option, Bool, true, false, cond, not, ℕ, ℤ, ◌+◌, length, take, refl, sym, ap, ◌∙◌, arith, nat_le, nat_eq, ◌||◌, ◌&&◌, map, filter, append_assoc, length-append, subst}
use Rattle.std.specs.Prelude.{int_lt, sum_by}
use Rattle.std.specs.Ordering.{int_cmp}
use Rattle.std.specs.Cmp.{IsTotalOrder}
use Rattle.std.specs.List.{AllByRecursion}
use Rattle.std.specs.List.Sorted.{IsStrictlySortedBy}
use Rattle.std.specs.declared.cmp.Ordering.{Ordering}
use Rattle.std.proofs.lemmas.Bool.{or_left, or_right}
use Rattle.std.proofs.lemmas.List.Sums.{sum_by-cons, sum_by-append}
use Rattle.kr_defs.specs.Map.{IsMap}
use Rattle.kr_defs.specs.KeptMaps.{Kept, KeptMaps, forgotten, oldest_unmade}
use Rattle.kr_defs.proofs.EpochCuts.{from-first}
use Rattle.kr_timeline.specs.Chains.{map_of, Versions, AreFalling, AreTidy, is_listed}
use Rattle.kr_timeline.specs.Intervals.{kept_of, maps_of, IsTimeline, Rise, AreCounted, is_in, is_changed, is_old, IsUnmade, settled_at, settled_front, Forgets, SettlesFirst, is_first_below, touches}
use Rattle.kr_timeline.specs.declared.intervals.Interval.{Interval}
use Rattle.kr_timeline.proofs.Bools.{or_either, and_first, or_assoc, or_false}
use Rattle.kr_timeline.proofs.Trims.{versions_map, tidies_map, Settles, settle_keys}
use Rattle.kr_timeline.proofs.Histories.{kept_alike, rising-kept}
use Rattle.kr_timeline.proofs.Drops.{weight, touches_first, touches-append, touches_least, touches_most, sum_kept, length-kept, sum_parts, length_parts}

-- ---- the chains

false_and : (b : Bool) → b && false ≡ false
false_and true = refl
false_and false = refl

-- what only the maps of the dropped entries had has gone
record Forgot {K V : Type 0} (order : K → K → Ordering) (dropped : List (Interval K)) (before after : List (K × List (ℕ × Option V))) : Type 0 where
  same : (m : ℕ) → AllByRecursion (λ (i : Interval K). i.number ≤ m) dropped → map_of m after ≡ map_of m before
  within : (passes : K → ℕ → Bool) → Versions passes before → Versions passes after
  falls : AreFalling before → AreFalling after
  tidy : (left : List (Interval K)) (now : ℕ) (keys : List K) → AreTidy (is_changed order (dropped ++ left) now keys) before → AreTidy (is_changed order left now keys) after
  ordered : IsMap order before → IsMap order after

module _ {K V : Type 0} {order : K → K → Ordering} (o : IsTotalOrder order) where
  -- an entry's list is not needed any more
  tidy_settled : (i : Interval K) (left : List (Interval K)) (now : ℕ) (keys : List K) (before after : List (K × List (ℕ × Option V))) → Settles (is_listed order i.keys.items) i.number before after → AreTidy (is_changed order (i ∷ left) now keys) before → AreTidy (is_changed order left now keys) after
  tidy_settled i left now keys before after z t =
      tidies_map (λ k n. (nat_eq n i.number && false) || is_changed order left now keys k n) (is_changed order left now keys) after (λ k n h. ap (λ b. b || is_changed order left now keys k n) (sym (false_and (nat_eq n i.number))) ∙ h)
      (z.tidy (λ k. false) (is_changed order left now keys)
      (tidies_map (is_changed order (i ∷ left) now keys) (λ k n. (nat_eq n i.number && (is_listed order i.keys.items k || false)) || is_changed order left now keys k n) before
      (λ k n h. ap (λ b. (nat_eq n i.number && b) || is_changed order left now keys k n) (or_false (is_listed order i.keys.items k)) ∙ sym (or_assoc (nat_eq n i.number && is_listed order i.keys.items k) (is_in order left k n) (nat_eq n now && is_listed order keys k)) ∙ h) t))

  forgot : (dropped : List (Interval K)) (es : List (K × List (ℕ × Option V))) → IsMap order es → Forgot order dropped es (settled_front order dropped es)
  forgot [] es s = record { same = λ m l. refl; within = λ passes a. a; falls = λ a. a; tidy = λ left now keys t. t; ordered = λ q. q }
  forgot (i ∷ dropped) es s =
      let first : Settles (is_listed order i.keys.items) i.number es (settled_at order i es) = settle_keys o i.number i.keys.items es s in
      let rest : Forgot order dropped (settled_at order i es) (settled_front order dropped (settled_at order i es)) = forgot dropped (settled_at order i es) (first.ordered order s) in
      record {
        same = λ m l. rest.same m l.1 ∙ first.same m l.0;
        within = λ passes a. rest.within passes (first.within passes a);
        falls = λ a. rest.falls (first.falls a);
        tidy = λ left now keys t. rest.tidy left now keys (tidy_settled i (dropped ++ left) now keys es (settled_at order i es) first t);
        ordered = λ q. rest.ordered (first.ordered order q);
      }

-- ---- where versions stand

module _ {K : Type 0} (order : K → K → Ordering) where
  old_next : (i : Interval K) (intervals : List (Interval K)) (now v : ℕ) → Rise (i ∷ intervals) now → nat_le v i.number ≡ true → is_old intervals now v ≡ true
  old_next i [] now v r h = let lt : i.number < now = r.1.0 in grind arith
  old_next i (j ∷ intervals) now v r h = let lt : i.number < j.number = r.0.0 in grind arith

  placed_next : (i : Interval K) (intervals : List (Interval K)) (now : ℕ) (keys : List K) (k : K) (v : ℕ) → Rise (i ∷ intervals) now → is_old (i ∷ intervals) now v || is_changed order (i ∷ intervals) now keys k v ≡ true → is_old intervals now v || is_changed order intervals now keys k v ≡ true
  placed_next i intervals now keys k v r h = or_either (nat_le v i.number) (is_changed order (i ∷ intervals) now keys k v) h
      (λ l. or_left (is_old intervals now v) (is_changed order intervals now keys k v) (old_next i intervals now v r l))
      (λ c. or_either (nat_eq v i.number && is_listed order i.keys.items k) (is_changed order intervals now keys k v) (sym (or_assoc (nat_eq v i.number && is_listed order i.keys.items k) (is_in order intervals k v) (nat_eq v now && is_listed order keys k)) ∙ c)
      (λ x. let same : nat_eq v i.number ≡ true = and_first (nat_eq v i.number) (is_listed order i.keys.items k) x in let le : nat_le v i.number ≡ true = grind arith in or_left (is_old intervals now v) (is_changed order intervals now keys k v) (old_next i intervals now v r le))
      (λ y. or_right (is_old intervals now v) (is_changed order intervals now keys k v) y))

  placed_left : (dropped left : List (Interval K)) (now : ℕ) (keys : List K) (k : K) (v : ℕ) → Rise (dropped ++ left) now → is_old (dropped ++ left) now v || is_changed order (dropped ++ left) now keys k v ≡ true → is_old left now v || is_changed order left now keys k v ≡ true
  placed_left [] left now keys k v r h = h
  placed_left (i ∷ dropped) left now keys k v r h = placed_left dropped left now keys k v r.1.1 (placed_next i (dropped ++ left) now keys k v r h)

  changed_next : (j : Interval K) (intervals : List (Interval K)) (now : ℕ) (keys : List K) (k : K) (v : ℕ) → is_changed order intervals now keys k v ≡ true → is_changed order (j ∷ intervals) now keys k v ≡ true
  changed_next j intervals now keys k v y = or_assoc (nat_eq v j.number && is_listed order j.keys.items k) (is_in order intervals k v) (nat_eq v now && is_listed order keys k) ∙ or_right (nat_eq v j.number && is_listed order j.keys.items k) (is_changed order intervals now keys k v) y

  -- an entry without its list
  placed_settled : (i j : Interval K) (intervals : List (Interval K)) (now : ℕ) (keys : List K) (k : K) (v : ℕ) → j.number ≡ i.number → is_old (i ∷ intervals) now v || is_changed order (i ∷ intervals) now keys k v ≡ true → is_old (j ∷ intervals) now v || is_changed order (j ∷ intervals) now keys k v ≡ true
  placed_settled i j intervals now keys k v is h =
      let same : is_old (j ∷ intervals) now v ≡ is_old (i ∷ intervals) now v = ap (nat_le v) is in
      or_either (nat_le v i.number) (is_changed order (i ∷ intervals) now keys k v) h
      (λ l. or_left (nat_le v j.number) (is_changed order (j ∷ intervals) now keys k v) (same ∙ l))
      (λ c. or_either (nat_eq v i.number && is_listed order i.keys.items k) (is_changed order intervals now keys k v) (sym (or_assoc (nat_eq v i.number && is_listed order i.keys.items k) (is_in order intervals k v) (nat_eq v now && is_listed order keys k)) ∙ c)
      (λ x. let at : nat_eq v i.number ≡ true = and_first (nat_eq v i.number) (is_listed order i.keys.items k) x in let le : nat_le v i.number ≡ true = grind arith in or_left (nat_le v j.number) (is_changed order (j ∷ intervals) now keys k v) (same ∙ le))
      (λ y. or_right (nat_le v j.number) (is_changed order (j ∷ intervals) now keys k v) (changed_next j intervals now keys k v y)))

-- ---- the entries

module _ {K : Type 0} where
  rise-left : (dropped left : List (Interval K)) (now : ℕ) → Rise (dropped ++ left) now → Rise left now
  rise-left [] left now r = r
  rise-left (i ∷ dropped) left now r = rise-left dropped left now r.1.1

  -- the dropped ones are below a later number
  dropped_below : (dropped left : List (Interval K)) (now : ℕ) → Rise (dropped ++ left) now → AllByRecursion (λ (i : Interval K). i.number ≤ now) dropped
  dropped_below [] left now r = tt
  dropped_below (i ∷ dropped) left now r = let lt : i.number < now = r.1.0 in (omega arith, dropped_below dropped left now r.1.1)

  here_above : (dropped : List (Interval K)) (j : Interval K) (left : List (Interval K)) (low : ℕ) → AllByRecursion (λ (i : Interval K). low < i.number) (dropped ++ j ∷ left) → low < j.number
  here_above [] j left low a = a.0
  here_above (i ∷ dropped) j left low a = here_above dropped j left low a.1

  dropped_up_to : (dropped : List (Interval K)) (j : Interval K) (left : List (Interval K)) (now : ℕ) → Rise (dropped ++ j ∷ left) now → AllByRecursion (λ (i : Interval K). i.number ≤ j.number) dropped
  dropped_up_to [] j left now r = tt
  dropped_up_to (i ∷ dropped) j left now r = let lt : i.number < j.number = here_above dropped j left i.number r.0 in (omega arith, dropped_up_to dropped j left now r.1.1)

  epochs_left : (dropped left : List (Interval K)) → IsStrictlySortedBy int_cmp (map (λ (i : Interval K). i.epoch) (dropped ++ left)) → IsStrictlySortedBy int_cmp (map (λ (i : Interval K). i.epoch) left)
  unfolding IsStrictlySortedBy
  epochs_left [] left s = s
  epochs_left (i ∷ dropped) left s = epochs_left dropped left s.1

  counted_left : (dropped left : List (Interval K)) → AreCounted (dropped ++ left) → AreCounted left
  counted_left [] left a = a
  counted_left (i ∷ dropped) left a = counted_left dropped left a.1

  counted_dropped : (dropped left : List (Interval K)) → AreCounted (dropped ++ left) → AreCounted dropped
  counted_dropped [] left a = tt
  counted_dropped (i ∷ dropped) left a = (a.0, counted_dropped dropped left a.1)

  all_front : (P : Interval K → Type 0) (xs : List (Interval K)) (i : Interval K) → AllByRecursion P (xs ++ i ∷ []) → AllByRecursion P xs
  all_front P [] i a = tt
  all_front P (x ∷ xs) i a = (a.0, all_front P xs i a.1)

module _ {K V : Type 0} where
  -- every later map stays
  later_same : (before after : List (K × List (ℕ × Option V))) (dropped left : List (Interval K)) (now : ℕ) → Rise (dropped ++ left) now → ((m : ℕ) → AllByRecursion (λ (i : Interval K). i.number ≤ m) dropped → map_of m after ≡ map_of m before) → AllByRecursion (λ (i : Interval K). map_of i.number after ≡ map_of i.number before) left
  later_same before after dropped [] now r same = tt
  later_same before after dropped (j ∷ left) now r same = (
    same j.number (dropped_up_to dropped j left now r),
    later_same before after (dropped ++ j ∷ []) left now (subst (λ (is : List (Interval K)). Rise is now) (sym (append_assoc dropped (j ∷ []) left)) r) (λ m a. same m (all_front (λ (i : Interval K). i.number ≤ m) dropped j a)),
  )

  filter_dropped : (chains : List (K × List (ℕ × Option V))) (epoch : ℤ) (dropped left : List (Interval K)) → AllByRecursion (λ (i : Interval K). int_lt i.epoch epoch ≡ true) dropped
      → filter (λ (k : Kept K V). not (int_lt k.epoch epoch)) (kept_of chains (dropped ++ left)) ≡ filter (λ (k : Kept K V). not (int_lt k.epoch epoch)) (kept_of chains left)
  filter_dropped chains epoch [] left a = refl
  filter_dropped chains epoch (i ∷ dropped) left a =
      ap (λ b. cond (not b) (record { epoch = i.epoch; map = map_of i.number chains; made = i.made } ∷ filter (λ (k : Kept K V). not (int_lt k.epoch epoch)) (kept_of chains (dropped ++ left))) (filter (λ (k : Kept K V). not (int_lt k.epoch epoch)) (kept_of chains (dropped ++ left)))) a.0
      ∙ filter_dropped chains epoch dropped left a.1

  filter_left : (chains : List (K × List (ℕ × Option V))) (epoch : ℤ) (left : List (Interval K)) → IsStrictlySortedBy int_cmp (map (λ (i : Interval K). i.epoch) left) → is_first_below epoch left ≡ false → filter (λ (k : Kept K V). not (int_lt k.epoch epoch)) (kept_of chains left) ≡ kept_of chains left
  filter_left chains epoch [] s h = refl
  filter_left chains epoch (i ∷ left) s h = from-first epoch (record { epoch = i.epoch; map = map_of i.number chains; made = i.made }) (kept_of chains left) (rising-kept chains (i ∷ left) s) h

-- ---- first the entries below the epoch

module _ {K V : Type 0} {order : K → K → Ordering} (o : IsTotalOrder order) (before mid : List (K × List (ℕ × Option V))) (epoch : ℤ) (intervals left : List (Interval K)) (now : ℕ) (keys : List K) (made : ℕ)
    (s : IsMap order before) (f : Forgets order epoch intervals left before mid) (low : is_first_below epoch left ≡ false) (a : IsTimeline order before intervals now keys made) where
  gone : Forgot order f.dropped before mid
  gone = rw f.chains (forgot o f.dropped before s)

  rise : Rise (f.dropped ++ left) now
  rise = subst (λ (is : List (Interval K)). Rise is now) f.is a.numbers

  timeline_dropped : IsTimeline order mid left now keys made
  timeline_dropped = record {
    falls = gone.falls a.falls;
    below = gone.within (λ _ v. nat_le v now) a.below;
    placed = versions_map (λ k v. is_old intervals now v || is_changed order intervals now keys k v) (λ k v. is_old left now v || is_changed order left now keys k v) mid
        (λ k v h. placed_left order f.dropped left now keys k v rise (subst (λ (is : List (Interval K)). is_old is now v || is_changed order is now keys k v ≡ true) f.is h))
        (gone.within (λ k v. is_old intervals now v || is_changed order intervals now keys k v) a.placed);
    tidy = gone.tidy left now keys (subst (λ (is : List (Interval K)). AreTidy (is_changed order is now keys) before) f.is a.tidy);
    epochs = epochs_left f.dropped left (subst (λ (is : List (Interval K)). IsStrictlySortedBy int_cmp (map (λ (i : Interval K). i.epoch) is)) f.is a.epochs);
    numbers = rise-left f.dropped left now rise;
    counted = counted_left f.dropped left (subst AreCounted f.is a.counted);
    counted_now = a.counted_now;
  }

  from_epoch : filter (λ (k : Kept K V). not (int_lt k.epoch epoch)) (kept_of before intervals) ≡ kept_of before left
  from_epoch =
      ap (λ (is : List (Interval K)). filter (λ (k : Kept K V). not (int_lt k.epoch epoch)) (kept_of before is)) f.is ∙ filter_dropped before epoch f.dropped left f.low
      ∙ filter_left before epoch left timeline_dropped.epochs low

  kept_dropped : kept_of mid left ≡ kept_of before left
  kept_dropped = kept_alike before mid left (later_same before mid f.dropped left now rise gone.same)

  present_dropped : map_of now mid ≡ map_of now before
  present_dropped = gone.same now (dropped_below f.dropped left now rise)

-- ---- then the oldest that is left

module _ {K V : Type 0} {order : K → K → Ordering} (o : IsTotalOrder order) (mid after : List (K × List (ℕ × Option V))) (now : ℕ) (keys : List K) (made : ℕ) (s : IsMap order mid) where
  settled_oldest : (i : Interval K) → Settles (is_listed order i.keys.items) i.number mid (settled_at order i mid)
  settled_oldest i = settle_keys o i.number i.keys.items mid s

  timeline_settled : (left left' : List (Interval K)) → SettlesFirst order left left' mid after → IsTimeline order mid left now keys made → IsTimeline order after left' now keys made
  unfolding IsStrictlySortedBy
  timeline_settled [] left' z a = rw (z.0, z.1) a
  timeline_settled (i ∷ intervals) left' z a =
      let j : Interval K = z.0 in
      let is : IsUnmade i j = z.2 in
      let gone : Settles (is_listed order i.keys.items) i.number mid (settled_at order i mid) = settled_oldest i in
      rw (z.1, z.3) (record {
        falls = gone.falls a.falls;
        below = gone.within (λ _ v. nat_le v now) a.below;
        placed = versions_map (λ k v. is_old (i ∷ intervals) now v || is_changed order (i ∷ intervals) now keys k v) (λ k v. is_old (j ∷ intervals) now v || is_changed order (j ∷ intervals) now keys k v) (settled_at order i mid)
            (λ k v h. placed_settled order i j intervals now keys k v is.number h) (gone.within (λ k v. is_old (i ∷ intervals) now v || is_changed order (i ∷ intervals) now keys k v) a.placed);
        tidy = tidies_map (is_changed order intervals now keys) (is_changed order (j ∷ intervals) now keys) (settled_at order i mid)
            (λ k v h. or_assoc (nat_eq v j.number && is_listed order j.keys.items k) (is_in order intervals k v) (nat_eq v now && is_listed order keys k) ∙ or_right (nat_eq v j.number && is_listed order j.keys.items k) (is_changed order intervals now keys k v) h)
            (tidy_settled o i intervals now keys mid (settled_at order i mid) gone a.tidy);
        epochs = subst (λ e. IsStrictlySortedBy int_cmp (e ∷ map (λ (u : Interval K). u.epoch) intervals)) (sym is.epoch) a.epochs;
        numbers = subst (λ n. AllByRecursion (λ (u : Interval K). n < u.number) intervals × ((n < now) × Rise intervals now)) (sym is.number) a.numbers;
        counted = (rw (is.keys, is.made) (omega arith), a.counted.1);
        counted_now = a.counted_now;
      })

  unmade_settled : (left left' : List (Interval K)) → Rise left now → SettlesFirst order left left' mid after → oldest_unmade (kept_of mid left) ≡ kept_of after left'
  unmade_settled [] left' r z = sym (ap (kept_of after) z.0)
  unmade_settled (i ∷ intervals) left' r z =
      let j : Interval K = z.0 in
      let is : IsUnmade i j = z.2 in
      let gone : Settles (is_listed order i.keys.items) i.number mid after = rw z.3 (settled_oldest i) in
      let rest : kept_of after intervals ≡ kept_of mid intervals = kept_alike mid after intervals (later_same mid after (i ∷ []) intervals now r (λ m l. gone.same m l.0)) in
      let here : map_of i.number after ≡ map_of i.number mid = gone.same i.number (omega arith) in
      sym (ap (kept_of after) z.1
      ∙ ap (λ e. record { epoch = e; map = map_of j.number after; made = j.made } ∷ kept_of after intervals) is.epoch
      ∙ ap (λ n. record { epoch = i.epoch; map = map_of n after; made = j.made } ∷ kept_of after intervals) is.number
      ∙ ap (λ n. record { epoch = i.epoch; map = map_of i.number after; made = n } ∷ kept_of after intervals) is.made
      ∙ ap (λ (p : List (K × V)). record { epoch = i.epoch; map = p; made = 0 } ∷ kept_of after intervals) here
      ∙ ap (λ (ks : List (Kept K V)). record { epoch = i.epoch; map = map_of i.number mid; made = 0 } ∷ ks) rest)

  present_settled : (left left' : List (Interval K)) → Rise left now → SettlesFirst order left left' mid after → map_of now after ≡ map_of now mid
  present_settled [] left' r z = ap (map_of now) z.1
  present_settled (i ∷ intervals) left' r z =
      let lt : i.number < now = r.1.0 in
      let gone : Settles (is_listed order i.keys.items) i.number mid after = rw z.3 (settled_oldest i) in
      gone.same now (omega arith)

  touches_settled : (left left' : List (Interval K)) → AreCounted left → SettlesFirst order left left' mid after → touches left ≤ touches left' + sum_by (λ (k : Kept K V). k.made) (take 1 (kept_of mid left))
  touches_settled [] left' c z = omega arith
  touches_settled (i ∷ intervals) left' c z =
      let j : Interval K = z.0 in
      let is : IsUnmade i j = z.2 in
      let k : Kept K V = record { epoch = i.epoch; map = map_of i.number mid; made = i.made } in
      let one : sum_by (λ (x : Kept K V). x.made) (k ∷ []) ≡ i.made + 0 = sum_by-cons (λ (x : Kept K V). x.made) k [] in
      let was : touches (i ∷ intervals) ≡ length i.keys.items + 1 + touches intervals = touches_first i intervals in
      let now_is : touches left' ≡ length j.keys.items + 1 + touches intervals = ap touches z.1 ∙ touches_first j intervals in
      let few : length i.keys.items ≤ i.made = c.0 in
      omega (arith, one, was, now_is, few)

  touches_still : (left left' : List (Interval K)) → SettlesFirst order left left' mid after → touches left' ≤ touches left
  touches_still [] left' z = rw z.0 (omega arith)
  touches_still (i ∷ intervals) left' z =
      let j : Interval K = z.0 in
      let is : IsUnmade i j = z.2 in
      let was : touches (i ∷ intervals) ≡ length i.keys.items + 1 + touches intervals = touches_first i intervals in
      let now_is : touches left' ≡ length j.keys.items + 1 + touches intervals = ap touches z.1 ∙ touches_first j intervals in
      let none : length j.keys.items ≡ 0 = ap length is.keys in
      omega (arith, was, now_is, none)

-- ---- in the words of the contract

module _ {K V : Type 0} {order : K → K → Ordering} (o : IsTotalOrder order) (before mid after : List (K × List (ℕ × Option V))) (epoch : ℤ) (intervals left left' : List (Interval K)) (now : ℕ) (keys : List K) (made : ℕ)
    (s : IsMap order before) (f : Forgets order epoch intervals left before mid) (low : is_first_below epoch left ≡ false) (z : SettlesFirst order left left' mid after) (a : IsTimeline order before intervals now keys made) where
  mid_is : IsTimeline order mid left now keys made
  mid_is = timeline_dropped o before mid epoch intervals left now keys made s f low a

  mid_ordered : IsMap order mid
  mid_ordered = let all : Forgot order f.dropped before mid = gone o before mid epoch intervals left now keys made s f low a in all.ordered s

  pub timeline_forgotten : IsTimeline order after left' now keys made
  timeline_forgotten = timeline_settled o mid after now keys made mid_ordered left left' z mid_is

  module _ (maps : KeptMaps K V) (is : maps_of before intervals now made ≡ maps) where
    pub maps_forgotten : maps_of after left' now made ≡ forgotten maps epoch
    unfolding forgotten
    maps_forgotten =
        let kept : oldest_unmade (filter (λ (k : Kept K V). not (int_lt k.epoch epoch)) (kept_of before intervals)) ≡ kept_of after left' =
        ap oldest_unmade (from_epoch o before mid epoch intervals left now keys made s f low a ∙ sym (kept_dropped o before mid epoch intervals left now keys made s f low a)) ∙ unmade_settled o mid after now keys made mid_ordered left left' mid_is.numbers z in
        let present : map_of now after ≡ map_of now before = present_settled o mid after now keys made mid_ordered left left' mid_is.numbers z ∙ present_dropped o before mid epoch intervals left now keys made s f low a in
        ap (λ (ks : List (Kept K V)). record { kept = ks; present = map_of now after; made = made }) (sym kept)
        ∙ ap (λ (p : List (K × V)). record { kept = oldest_unmade (filter (λ (k : Kept K V). not (int_lt k.epoch epoch)) (kept_of before intervals)); present = p; made = made }) present
        ∙ ap (λ (m : KeptMaps K V). record { kept = oldest_unmade (filter (λ (k : Kept K V). not (int_lt k.epoch epoch)) m.kept); present = m.present; made = m.made }) is

    module _ (s0 s1 s2 s3 : ℕ) (call : s1 ≡ s0 + 1) (first : s2 + touches left ≡ s1 + touches intervals) (then : s3 + touches left' ≡ s2 + touches left) where
      touches_all : touches intervals ≡ touches f.dropped + touches left
      touches_all = ap touches f.is ∙ touches-append f.dropped left

      pub least_forgotten : s0 + length (filter (λ (k : Kept K V). int_lt k.epoch epoch) maps.kept) + 1 ≤ s3
      least_forgotten = rw (← is) (
          let parts = length_parts (λ (k : Kept K V). int_lt k.epoch epoch) (kept_of before intervals) in
          let from : length (filter (λ (k : Kept K V). not (int_lt k.epoch epoch)) (kept_of before intervals)) ≡ length left = ap length (from_epoch o before mid epoch intervals left now keys made s f low a) ∙ length-kept before left in
          let all : length (kept_of before intervals) ≡ length f.dropped + length left = length-kept before intervals ∙ ap length f.is ∙ length-append f.dropped left in
          let few : length f.dropped ≤ touches f.dropped = touches_least f.dropped in
          let still : touches left' ≤ touches left = touches_still o mid after now keys made mid_ordered left left' z in
          omega (arith, parts, from, all, few, still, touches_all, call, first, then))

      pub bound_forgotten : s3 ≤ s0 + sum_by (λ (k : Kept K V). k.made + 1) (filter (λ (k : Kept K V). int_lt k.epoch epoch) maps.kept) + sum_by (λ (k : Kept K V). k.made) (take 1 (filter (λ (k : Kept K V). not (int_lt k.epoch epoch)) maps.kept)) + 1
      bound_forgotten = rw (← is) (
          let from : filter (λ (k : Kept K V). not (int_lt k.epoch epoch)) (kept_of before intervals) ≡ kept_of before left = from_epoch o before mid epoch intervals left now keys made s f low a in
          let parts = sum_parts (λ (k : Kept K V). k.made + 1) (λ (k : Kept K V). int_lt k.epoch epoch) (kept_of before intervals) in
          let ups : sum_by (λ (k : Kept K V). k.made + 1) (filter (λ (k : Kept K V). not (int_lt k.epoch epoch)) (kept_of before intervals)) ≡ weight left = ap (sum_by (λ (k : Kept K V). k.made + 1)) from ∙ sum_kept before left in
          let all : sum_by (λ (k : Kept K V). k.made + 1) (kept_of before intervals) ≡ weight f.dropped + weight left = sum_kept before intervals ∙ ap weight f.is ∙ sum_by-append (λ (i : Interval K). i.made + 1) f.dropped left in
          let many : touches f.dropped ≤ weight f.dropped = touches_most f.dropped (counted_dropped f.dropped left (subst AreCounted f.is a.counted)) in
          let one : sum_by (λ (k : Kept K V). k.made) (take 1 (filter (λ (k : Kept K V). not (int_lt k.epoch epoch)) (kept_of before intervals))) ≡ sum_by (λ (k : Kept K V). k.made) (take 1 (kept_of mid left)) =
          ap (λ (ks : List (Kept K V)). sum_by (λ (k : Kept K V). k.made) (take 1 ks)) (from ∙ sym (kept_dropped o before mid epoch intervals left now keys made s f low a)) in
          let last : touches left ≤ touches left' + sum_by (λ (k : Kept K V). k.made) (take 1 (kept_of mid left)) = touches_settled o mid after now keys made mid_ordered left left' mid_is.counted z in
          omega (arith, parts, ups, all, many, one, last, touches_all, call, first, then))
