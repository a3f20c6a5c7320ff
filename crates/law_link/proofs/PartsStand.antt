-- Parts are those of their whole, and stand as long as nothing stands for them.
use Rattle.std.proofs.Common.{◌≡◌, ◌∙◌, sym, ℕ, suc, ◌+◌, ◌-◌, ◌<◌, ◌≤◌, Bool, true, false, cond, List, [], ◌∷◌, ◌++◌, refl, ap, subst, arith, inl, inr, ◌⊎◌}
use Rattle.std.proofs.lemmas.Bool.{eqb-true}
use Rattle.std.proofs.lemmas.Bool.Decides.{nat_tests}
use Rattle.std.proofs.lemmas.List.{length-append, length-drop, nil_from_length, take-append-drop}
use Rattle.std.specs.Prelude.{Option, None, Some, ◌&&◌, nat_eq, nat_lt, length, take, drop, fold}
use Rattle.std.specs.List.{AllByRecursion}
use Rattle.std.specs.Option.{unwrap_or}
use Rattle.law_quorum.specs.Batches.{offset_of_image}
use Rattle.law_quorum.specs.Changes.{Append, Campaign, Change, Drop, Expire, Other, compares}
use Rattle.law_quorum.specs.History.{Point, point_after}
use Rattle.law_quorum.proofs.KeptLog.{both, taken}
use Rattle.law_quorum.proofs.LeadershipOrder.{over_stays}
use Rattle.law_quorum.proofs.Places.{all_after}
use Rattle.law_quorum.proofs.WholeHistories.{fold_append}
use Rattle.law_link.specs.Parts.{GuardWasRead, DropsLater, IsPartOf, Log, OfBatch, OfImage, PartChange, PartStore, PartsMakeTheWhole, PartsStand, Put, Whole, behind_parts, guards, is_same_whole, no_store, part, parts_after, place_of_whole, put_part, read_parts, store, store_after}
use Rattle.law_link.proofs.LinkSteps.{all_before}

same_whole : (one other : Whole) → is_same_whole one other ≡ true → one ≡ other
same_whole (OfBatch place epoch) (OfBatch other number) e =
    let t = both (nat_eq place other) (nat_eq epoch number) e in
    ap (λ (x : ℕ). OfBatch x epoch) (eqb-true place other t.0) ∙ ap (λ (x : ℕ). OfBatch other x) (eqb-true epoch number t.1)
same_whole (OfImage offset) (OfImage other) e = ap (λ (x : ℕ). OfImage x) (eqb-true offset other e)
same_whole (OfBatch place epoch) (OfImage other) e = absurd cc
same_whole (OfImage offset) (OfBatch other number) e = absurd cc

itself : (x : ℕ) → nat_eq x x ≡ true
itself x = grind (arith, nat_tests)

is_itself : (whole : Whole) → is_same_whole whole whole ≡ true
is_itself (OfBatch place epoch) = ap (λ (t : Bool). t && nat_eq epoch epoch) (itself place) ∙ itself epoch
is_itself (OfImage offset) = itself offset

module _ (size : ℕ) (bytes_of : Whole → List ℕ) (whole : Whole) (at : ℕ) where
  abbrev mine : List ℕ
  mine = part size at (bytes_of whole)

  -- a part that is put is the one, or another one
  put_is : (other : Whole) (number : ℕ) (bytes : List ℕ) → bytes ≡ part size number (bytes_of other) → is_same_whole other whole && nat_eq number at ≡ true → Some bytes ≡ Some mine
  put_is other number bytes is e =
      let t = both (is_same_whole other whole) (nat_eq number at) e in
      ap (λ (x : List ℕ). Some x)
      (is ∙ (ap (λ (w : Whole). part size number (bytes_of w)) (same_whole other whole t.0) ∙ ap (λ (x : ℕ). part size x (bytes_of whole)) (eqb-true number at t.1)))

  -- ---- a part that stands is its whole's

  abbrev IsRight : PartStore → Type 0
  IsRight s = (s.parts whole at ≡ None) ⊎ (s.parts whole at ≡ Some mine)

  right_log : (s : PartStore) (change : Change) (t : Bool) → IsRight s
      → (cond t (parts_after change s.parts) s.parts whole at ≡ None) ⊎ (cond t (parts_after change s.parts) s.parts whole at ≡ Some mine)
  right_log s change false r = r
  right_log s (Drop before image) true r = elim (nat_lt (place_of_whole whole) image.offset) as (λ t. (cond t None (s.parts whole at) ≡ None) ⊎ (cond t None (s.parts whole at) ≡ Some mine)) [
    | true ↦ inl refl
    | false ↦ r
  ]
  right_log s (Campaign node token epoch) true r = r
  right_log s (Append made batches) true r = r
  right_log s Expire true r = r
  right_log s Other true r = r

  right_put : (s : PartStore) (guard : ℕ) (other : Whole) (number : ℕ) (bytes : List ℕ) (t : Bool) → bytes ≡ part size number (bytes_of other) → IsRight s
      → IsRight (cond t (record { point = point_after s.point Other; parts = put_part other number bytes s.parts }) s)
  right_put s guard other number bytes false is r = r
  right_put s guard other number bytes true is r = by (is_same_whole other whole && nat_eq number at) refl
    where
      by : (t : Bool) → is_same_whole other whole && nat_eq number at ≡ t → (cond t (Some bytes) (s.parts whole at) ≡ None) ⊎ (cond t (Some bytes) (s.parts whole at) ≡ Some mine)
      by true e = inr (put_is other number bytes is e)
      by false e = r

  right_from : (s : PartStore) (history : List PartChange) → IsRight s → AllByRecursion (IsPartOf size bytes_of) history → IsRight (fold store_after s history)
  right_from s [] r a = r
  right_from s (Log change ∷ history) r (here, a) = right_from (store_after s (Log change)) history (right_log s change (compares s.point.keys change) r) a
  right_from s (Put guard other number bytes ∷ history) r (here, a) =
      right_from (store_after s (Put guard other number bytes)) history (right_put s guard other number bytes (guards s.point.keys guard other) here r) a

  -- ---- a part that was put stands until an image takes its place

  abbrev Stands : PartStore → Type 0
  Stands s = (s.parts whole at ≡ Some mine) ⊎ (place_of_whole whole < offset_of_image s.point.keys.image)

  stands_log : (s : PartStore) (change : Change) (t : Bool) → compares s.point.keys change ≡ t → DropsLater (Log change) → Stands s
      → Stands (record { point = taken s.point change t; parts = cond t (parts_after change s.parts) s.parts })
  stands_log s change false is later h = h
  stands_log s (Drop before image) true is later h = by (nat_lt (place_of_whole whole) image.offset) refl
    where
      by : (t : Bool) → nat_lt (place_of_whole whole) image.offset ≡ t → (cond t None (s.parts whole at) ≡ Some mine) ⊎ (place_of_whole whole < image.offset)
      by true e = inr (grind (arith, nat_tests))
      by false e = elim h [
        | inl stands ↦ inl stands
        | inr low ↦ inr (let same : offset_of_image s.point.keys.image ≡ before = eqb-true (offset_of_image s.point.keys.image) before is in
            let below : place_of_whole whole < offset_of_image s.point.keys.image = low in omega arith)
      ]
  stands_log s (Campaign node token epoch) true is later h = h
  stands_log s (Append made batches) true is later h = h
  stands_log s Expire true is later h = h
  stands_log s Other true is later h = h

  stands_put : (s : PartStore) (other : Whole) (number : ℕ) (bytes : List ℕ) (t : Bool) → bytes ≡ part size number (bytes_of other) → Stands s
      → Stands (cond t (record { point = point_after s.point Other; parts = put_part other number bytes s.parts }) s)
  stands_put s other number bytes false is h = h
  stands_put s other number bytes true is h = by (is_same_whole other whole && nat_eq number at) refl
    where
      by : (t : Bool) → is_same_whole other whole && nat_eq number at ≡ t → (cond t (Some bytes) (s.parts whole at) ≡ Some mine) ⊎ (place_of_whole whole < offset_of_image s.point.keys.image)
      by true e = inl (put_is other number bytes is e)
      by false e = h

  stands_from : (s : PartStore) (history : List PartChange) → Stands s → AllByRecursion (IsPartOf size bytes_of) history → AllByRecursion DropsLater history
      → Stands (fold store_after s history)
  stands_from s [] h a l = h
  stands_from s (Log change ∷ history) h (here, a) (later, l) =
      stands_from (store_after s (Log change)) history (stands_log s change (compares s.point.keys change) refl later h) a l
  stands_from s (Put guard other number bytes ∷ history) h (here, a) (later, l) =
      stands_from (store_after s (Put guard other number bytes)) history (stands_put s other number bytes (guards s.point.keys guard other) here h) a l

-- ---- what a transaction compares doesn't hold again

module _ (guard : ℕ) where
  pub record Never (k : Whole) (p : Point) : Type 0 where
    pub known : GuardWasRead p.keys guard k
    pub fails : guards p.keys guard k ≡ false

  never_image : (offset : ℕ) (p : Point) (change : Change) (t : Bool) → compares p.keys change ≡ t → DropsLater (Log change) → Never (OfImage offset) p → Never (OfImage offset) (taken p change t)
  never_image offset p change false is later n = record { known = n.known; fails = n.fails }
  never_image offset p (Drop before image) true is later n =
      let known : guard ≤ offset_of_image p.keys.image = n.known in
      let same : offset_of_image p.keys.image ≡ before = eqb-true (offset_of_image p.keys.image) before is in
      let high : before < image.offset = later in
      record { known = omega arith; fails = grind (arith, nat_tests) }
  never_image offset p (Campaign node token epoch) true is later n = record { known = n.known; fails = n.fails }
  never_image offset p (Append made batches) true is later n = record { known = n.known; fails = n.fails }
  never_image offset p Expire true is later n = record { known = n.known; fails = n.fails }
  never_image offset p Other true is later n = record { known = n.known; fails = n.fails }

  never_again : (whole : Whole) (p : Point) (change : Change) → DropsLater (Log change) → Never whole p → Never whole (point_after p change)
  never_again (OfBatch place epoch) p change later n =
      let o = over_stays guard p change (record { past = n.known; over = n.fails }) in record { known = o.past; fails = o.over }
  never_again (OfImage offset) p change later n = never_image offset p change (compares p.keys change) refl later n

  never_put : (whole other : Whole) (s : PartStore) (number : ℕ) (bytes : List ℕ) (t : Bool) → Never whole s.point
      → Never whole (cond t (record { point = point_after s.point Other; parts = put_part other number bytes s.parts }) s).point
  never_put whole other s number bytes false n = n
  never_put whole other s number bytes true n = never_again whole s.point Other tt n

  never_from : (whole : Whole) (s : PartStore) (history : List PartChange) → Never whole s.point → AllByRecursion DropsLater history → Never whole (fold store_after s history).point
  never_from whole s [] n l = n
  never_from whole s (Log change ∷ history) n (later, l) = never_from whole (store_after s (Log change)) history (never_again whole s.point change later n) l
  never_from whole s (Put other_guard other number bytes ∷ history) n (later, l) =
      never_from whole (store_after s (Put other_guard other number bytes)) history (never_put whole other s number bytes (guards s.point.keys other_guard other) n) l

-- a part that is put, or is refused
module _ (size : ℕ) (bytes_of : Whole → List ℕ) (guard : ℕ) (whole : Whole) (at : ℕ) (bytes : List ℕ) (is : bytes ≡ part size at (bytes_of whole)) where
  abbrev after_put : PartStore → Bool → PartStore
  after_put s t = cond t (record { point = point_after s.point Other; parts = put_part whole at bytes s.parts }) s

  put_stands : (s : PartStore) (between later : List PartChange) (t : Bool) → guards s.point.keys guard whole ≡ t → AllByRecursion (IsPartOf size bytes_of) (between ++ later)
      → AllByRecursion DropsLater (between ++ later) → GuardWasRead s.point.keys guard whole → guards (fold store_after (after_put s t) between).point.keys guard whole ≡ true
      → Stands size bytes_of whole at (fold store_after (after_put s t) (between ++ later))
  put_stands s between later true holds a l known then =
      let here : put_part whole at bytes s.parts whole at ≡ Some bytes =
      ap (λ (t : Bool). cond (t && nat_eq at at) (Some bytes) (s.parts whole at)) (is_itself whole) ∙ ap (λ (t : Bool). cond t (Some bytes) (s.parts whole at)) (itself at) in
      stands_from size bytes_of whole at (after_put s true) (between ++ later) (inl (here ∙ ap (λ (x : List ℕ). Some x) is)) a l
  put_stands s between later false fails a l known then =
      let n = never_from guard whole s between (record { known = known; fails = fails }) (all_before DropsLater between later l) in
      let x : true ≡ false = sym then ∙ n.fails in
      absurd cc

pub parts_stand : PartsStand
parts_stand size bytes_of before between later guard whole at bytes a l known holds =
    let put : PartChange = Put guard whole at bytes in
    let first : PartStore = store before in
    let parts = all_after (IsPartOf size bytes_of) before (put ∷ (between ++ later)) a in
    let drops = all_after DropsLater before (put ∷ (between ++ later)) l in
    let then : guards (fold store_after (store_after first put) between).point.keys guard whole ≡ true =
    ap (λ (s : PartStore). guards s.point.keys guard whole) (sym (fold_append store_after no_store before (put ∷ between))) ∙ holds in
    subst (λ (s : PartStore). (s.parts whole at ≡ Some (part size at (bytes_of whole))) ⊎ (place_of_whole whole < offset_of_image s.point.keys.image))
    (sym (fold_append store_after no_store before (put ∷ (between ++ later))))
    (put_stands size bytes_of guard whole at bytes parts.0 first between later (guards first.point.keys guard whole) refl parts.1 drops.1 known then)

-- ---- reads

module _ (size : ℕ) (some : 0 < size) (bytes_of : Whole → List ℕ) (whole : Whole) where
  -- of what is behind the first parts
  abbrev rest : ℕ → List ℕ
  rest at = behind_parts size at (bytes_of whole)

  first_part : (at : ℕ) (o : Option (List ℕ)) (more : List ℕ) → (o ≡ None) ⊎ (o ≡ Some (take size (rest at)))
      → (length more ≤ length (rest (suc at))) × (length more ≡ length (rest (suc at)) → more ≡ rest (suc at))
      → (length (unwrap_or o [] ++ more) ≤ length (rest at)) × (length (unwrap_or o [] ++ more) ≡ length (rest at) → unwrap_or o [] ++ more ≡ rest at)
  first_part at None more r (low, whole_more) =
      let dropped : length (drop size (rest at)) ≡ length (rest at) - size = length-drop size (rest at) in
      let high : length more ≤ length (drop size (rest at)) = low in (
        omega arith,
        (λ e.
            let equal : length more ≡ length (rest at) = e in
            let none : length (rest at) ≡ 0 = omega arith in
            nil_from_length more (equal ∙ none) ∙ sym (nil_from_length (rest at) none)),
      )
  first_part at (Some b) more r (low, whole_more) =
      let is : b ≡ take size (rest at) = taken_part r in
      let joined : length (take size (rest at)) + length (drop size (rest at)) ≡ length (rest at) =
      sym (length-append (take size (rest at)) (drop size (rest at))) ∙ ap (λ (x : List ℕ). length x) (take-append-drop size (rest at)) in
      let sum : length (b ++ more) ≡ length b + length more = length-append b more in
      let size_is : length b ≡ length (take size (rest at)) = ap (λ (x : List ℕ). length x) is in
      let high : length more ≤ length (drop size (rest at)) = low in (
        omega arith,
        (λ e.
            let equal : length (b ++ more) ≡ length (rest at) = e in
            let same : length more ≡ length (drop size (rest at)) = omega arith in
            ap (λ (x : List ℕ). x ++ more) is ∙ (ap (λ (x : List ℕ). take size (rest at) ++ x) (whole_more same) ∙ take-append-drop size (rest at))),
      )
    where
      taken_part : (Some b ≡ None) ⊎ (Some b ≡ Some (take size (rest at))) → b ≡ take size (rest at)
      taken_part h = elim h [
        | inl e ↦ absurd cc
        | inr e ↦ ap (λ (o : Option (List ℕ)). unwrap_or o b) e
      ]

  reads : (at : ℕ) (histories : List (List PartChange)) → AllByRecursion (AllByRecursion (IsPartOf size bytes_of)) histories
      → (length (read_parts whole at histories) ≤ length (rest at)) × (length (read_parts whole at histories) ≡ length (rest at) → read_parts whole at histories ≡ rest at)
  reads at [] a = (omega arith, (λ e. sym (nil_from_length (rest at) (sym e))))
  reads at (history ∷ histories) (here, a) =
      first_part at ((store history).parts whole at) (read_parts whole (suc at) histories)
      (right_from size bytes_of whole at no_store history (inl refl) here) (reads (suc at) histories a)

pub parts_make_the_whole : PartsMakeTheWhole
parts_make_the_whole size bytes_of whole histories some a e = (reads size some bytes_of whole 0 histories a).1 e
