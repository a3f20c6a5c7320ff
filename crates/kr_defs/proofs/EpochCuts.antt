-- Kept epochs that rise: what a cut at an epoch leaves, and what stands at it.
use Rattle.std.proofs.Common.{◌≡◌, List, [], ◌∷◌, ◌++◌, Some, None, true, false, cond, not, ℤ, refl, ◌∙◌, ap, arith, map, filter, find, IsTrue}
use Rattle.std.specs.Prelude.{int_lt}
use Rattle.std.specs.declared.cmp.Ordering.TheVariants.{Less, Equal, Greater}
use Rattle.std.specs.Ordering.{int_cmp, int_eq, is_eq}
use Rattle.std.specs.List.{AllByRecursion}
use Rattle.std.specs.List.Sorted.{IsStrictlySortedBy}
use Rattle.std.proofs.lemmas.Int.{ints}
use Rattle.std.proofs.lemmas.List.Elements.{All-head, All-tail}
use Rattle.kr_defs.specs.KeptMaps.{Kept, KeptMaps, AreRising, IsAbove, marked, reverted}

lt_from_Less : (x y : ℤ) → int_cmp x y ≡ Less → int_lt x y ≡ true
lt_from_Less x y =
    elim (int_lt x y) as (λ b. cond b Less (cond (int_lt y x) Greater Equal) ≡ Less → b ≡ true) [
      | true ↦ λ h. refl
      | false ↦ λ h. elim (int_lt y x) as (λ b. cond b Greater Equal ≡ Less → false ≡ true) [ true ↦ λ e. cc | false ↦ λ e. cc ] h
    ]

Less_from_lt : (x y : ℤ) → int_lt x y ≡ true → int_cmp x y ≡ Less
Less_from_lt x y h = ap (λ b. cond b Less (cond (int_lt y x) Greater Equal)) h

not_lt_back : (x y : ℤ) → int_lt x y ≡ true → int_lt y x ≡ false
not_lt_back x y h = grind (arith, ints)

not_lt_self : (x : ℤ) → int_lt x x ≡ false
not_lt_self x = grind (arith, ints)

eq_self : (x : ℤ) → int_eq x x ≡ true
eq_self x = ap (λ b. is_eq (cond b Less (cond b Greater Equal))) (not_lt_self x)

module _ {K V : Type 0} where
  abbrev epochs : List (Kept K V) → List ℤ
  epochs kept = map (λ (k : Kept K V). k.epoch) kept

  below_later : (x : ℤ) (front : List (Kept K V)) (k : Kept K V) (back : List (Kept K V)) → AllByRecursion (λ z. int_cmp x z ≡ Less) (epochs (front ++ k ∷ back)) → int_cmp x k.epoch ≡ Less
  below_later x [] k back a = a.0
  below_later x (y ∷ front) k back a = below_later x front k back a.1

  -- an entry above all the others
  below_push : (x : ℤ) (kept : List (Kept K V)) (k : Kept K V) → AllByRecursion (λ z. int_cmp x z ≡ Less) (epochs kept) → int_cmp x k.epoch ≡ Less → AllByRecursion (λ z. int_cmp x z ≡ Less) (epochs (kept ++ k ∷ []))
  below_push x [] k a h = (h, tt)
  below_push x (y ∷ kept) k a h = (a.0, below_push x kept k a.1 h)

  pub AreRising-nil : (kept : List (Kept K V)) → kept ≡ [] → AreRising kept
  unfolding IsStrictlySortedBy
  AreRising-nil kept none = rw none tt

  pub AreRising-push : (kept : List (Kept K V)) (k : Kept K V) → AreRising kept → IsAbove kept k.epoch → AreRising (kept ++ k ∷ [])
  unfolding IsStrictlySortedBy
  AreRising-push [] k s above = (tt, tt)
  AreRising-push (x ∷ kept) k s above = (
    below_push x.epoch kept k s.0 (Less_from_lt x.epoch k.epoch (All-head (λ (y : Kept K V). IsTrue (int_lt y.epoch k.epoch)) x kept above)),
    AreRising-push kept k s.1 (All-tail (λ (y : Kept K V). IsTrue (int_lt y.epoch k.epoch)) x kept above),
  )

  below_front : (x : ℤ) (front back : List (Kept K V)) → AllByRecursion (λ z. int_cmp x z ≡ Less) (epochs (front ++ back)) → AllByRecursion (λ z. int_cmp x z ≡ Less) (epochs front)
  below_front x [] back a = tt
  below_front x (y ∷ front) back a = (a.0, below_front x front back a.1)

  pub AreRising-front : (front back : List (Kept K V)) → AreRising (front ++ back) → AreRising front
  unfolding IsStrictlySortedBy
  AreRising-front [] back s = tt
  AreRising-front (x ∷ front) back s = (below_front x.epoch front back s.0, AreRising-front front back s.1)

  pub AreRising-tail : (k : Kept K V) (kept : List (Kept K V)) → AreRising (k ∷ kept) → AreRising kept
  unfolding IsStrictlySortedBy
  AreRising-tail k kept s = s.1

  abbrev up_to : ℤ → List (Kept K V) → List (Kept K V)
  up_to epoch kept = filter (λ (k : Kept K V). not (int_lt epoch k.epoch)) kept

  abbrev from : ℤ → List (Kept K V) → List (Kept K V)
  from epoch kept = filter (λ (k : Kept K V). not (int_lt k.epoch epoch)) kept

  none_up_to : (epoch : ℤ) (kept : List (Kept K V)) → AllByRecursion (λ z. int_cmp epoch z ≡ Less) (epochs kept) → up_to epoch kept ≡ []
  none_up_to epoch [] a = refl
  none_up_to epoch (k ∷ kept) a = ap (λ b. cond (not b) (k ∷ up_to epoch kept) (up_to epoch kept)) (lt_from_Less epoch k.epoch a.0) ∙ none_up_to epoch kept a.1

  -- what is not above an entry is what stands up to it
  pub up_to-entry : (front : List (Kept K V)) (k : Kept K V) (back : List (Kept K V)) → AreRising (front ++ k ∷ back) → up_to k.epoch (front ++ k ∷ back) ≡ front ++ k ∷ []
  unfolding IsStrictlySortedBy
  up_to-entry [] k back s =
      ap (λ b. cond (not b) (k ∷ up_to k.epoch back) (up_to k.epoch back)) (not_lt_self k.epoch) ∙ ap (λ (ks : List (Kept K V)). k ∷ ks) (none_up_to k.epoch back s.0)
  up_to-entry (x ∷ front) k back s =
      let below : int_lt x.epoch k.epoch ≡ true = lt_from_Less x.epoch k.epoch (below_later x.epoch front k back s.0) in
      ap (λ b. cond (not b) (x ∷ up_to k.epoch (front ++ k ∷ back)) (up_to k.epoch (front ++ k ∷ back))) (not_lt_back x.epoch k.epoch below)
      ∙ ap (λ (ks : List (Kept K V)). x ∷ ks) (up_to-entry front k back s.1)

  pub find-entry : (front : List (Kept K V)) (k : Kept K V) (back : List (Kept K V)) → AreRising (front ++ k ∷ back) → find (λ (x : Kept K V). int_eq x.epoch k.epoch) (front ++ k ∷ back) ≡ Some k
  unfolding IsStrictlySortedBy
  find-entry [] k back s = ap (λ b. cond b (Some k) (find (λ (x : Kept K V). int_eq x.epoch k.epoch) back)) (eq_self k.epoch)
  find-entry (x ∷ front) k back s =
      ap (λ b. cond b (Some x) (find (λ (y : Kept K V). int_eq y.epoch k.epoch) (front ++ k ∷ back))) (ap is_eq (below_later x.epoch front k back s.0))
      ∙ find-entry front k back s.1

  all_from : (epoch : ℤ) (x : ℤ) (kept : List (Kept K V)) → int_lt x epoch ≡ false → AllByRecursion (λ z. int_cmp x z ≡ Less) (epochs kept) → from epoch kept ≡ kept
  all_from epoch x [] h a = refl
  all_from epoch x (k ∷ kept) h a =
      let above : int_lt x k.epoch ≡ true = lt_from_Less x k.epoch a.0 in
      let not_below : int_lt k.epoch epoch ≡ false = grind (arith, ints) in
      ap (λ b. cond (not b) (k ∷ from epoch kept) (from epoch kept)) not_below ∙ ap (λ (ks : List (Kept K V)). k ∷ ks) (all_from epoch x kept h a.1)

  -- nothing is below an epoch that the first entry is not below
  pub from-first : (epoch : ℤ) (k : Kept K V) (kept : List (Kept K V)) → AreRising (k ∷ kept) → int_lt k.epoch epoch ≡ false → from epoch (k ∷ kept) ≡ k ∷ kept
  unfolding IsStrictlySortedBy
  from-first epoch k kept s h =
      ap (λ b. cond (not b) (k ∷ from epoch kept) (from epoch kept)) h ∙ ap (λ (ks : List (Kept K V)). k ∷ ks) (all_from epoch k.epoch kept h s.0)

  all_up_to : (epoch : ℤ) (kept : List (Kept K V)) (k : Kept K V) → IsAbove kept epoch → k.epoch ≡ epoch → up_to epoch (kept ++ k ∷ []) ≡ kept ++ k ∷ []
  all_up_to epoch [] k above is = ap (λ e. cond (not (int_lt epoch e)) (k ∷ []) []) is ∙ ap (λ b. cond (not b) (k ∷ []) []) (not_lt_self epoch)
  all_up_to epoch (x ∷ kept) k above is =
      ap (λ b. cond (not b) (x ∷ up_to epoch (kept ++ k ∷ [])) (up_to epoch (kept ++ k ∷ []))) (not_lt_back x.epoch epoch (All-head (λ (y : Kept K V). IsTrue (int_lt y.epoch epoch)) x kept above))
      ∙ ap (λ (ks : List (Kept K V)). x ∷ ks) (all_up_to epoch kept k (All-tail (λ (y : Kept K V). IsTrue (int_lt y.epoch epoch)) x kept above) is)

  found_last : (epoch : ℤ) (kept : List (Kept K V)) (k : Kept K V) → IsAbove kept epoch → k.epoch ≡ epoch → find (λ (x : Kept K V). int_eq x.epoch epoch) (kept ++ k ∷ []) ≡ Some k
  found_last epoch [] k above is = ap (λ e. cond (int_eq e epoch) (Some k) None) is ∙ ap (λ b. cond b (Some k) None) (eq_self epoch)
  found_last epoch (x ∷ kept) k above is =
      ap (λ b. cond b (Some x) (find (λ (y : Kept K V). int_eq y.epoch epoch) (kept ++ k ∷ []))) (ap is_eq (Less_from_lt x.epoch epoch (All-head (λ (y : Kept K V). IsTrue (int_lt y.epoch epoch)) x kept above)))
      ∙ found_last epoch kept k (All-tail (λ (y : Kept K V). IsTrue (int_lt y.epoch epoch)) x kept above) is

  pub reverted-marked : (maps : KeptMaps K V) (epoch : ℤ) → IsAbove maps.kept epoch → reverted (marked maps epoch) epoch ≡ Some (marked maps epoch)
  unfolding marked reverted
  reverted-marked maps epoch above =
      let k : Kept K V = record { epoch = epoch; map = maps.present; made = maps.made } in
      rw (all_up_to epoch maps.kept k above refl, found_last epoch maps.kept k above refl) refl

pub ruleset laws = (reverted-marked)
