-- The count of a topic's partitions, by the greatest index.
use Rattle.std.proofs.Common.{◌≡◌, ◌∙◌, ℕ, ℤ, ◌≤◌, ◌<◌, ◌+◌, Bool, true, false, cond, List, [], ◌∷◌, refl, sym, ap, subst, arith, pos, negsuc}
use Rattle.std.specs.Prelude.{Some, All, IsTrue, max, fold, unsigned_abs, ◌==◌, ◌&&◌, not, int_lt, nat_lt}
use Rattle.std.specs.declared.cmp.Ordering.{Ordering}
use Rattle.std.specs.declared.cmp.Ordering.TheVariants.{Less, Equal, Greater}
use Rattle.std.specs.Ordering.{is_lt, nat_cmp, int_cmp, ordering_then}
use Rattle.std.specs.Cmp.{nat_cmp_is}
use Rattle.std.specs.List.{AllByRecursion}
use Rattle.std.proofs.Math.Nat.{le-max_left, le-max_right, max-le}
use Rattle.std.proofs.lemmas.Bool.Decides.{nat_tests}
use Rattle.std.proofs.lemmas.List.Elements.{recursion_from_All}
use Rattle.kr_defs.specs.declared.limits.TheConstants.{LAST_INDEX}
use Rattle.kr_defs.specs.declared.partition.Partition.{Partition}
use Rattle.kr_defs.specs.Image.{is_index}
use Rattle.kr_defs.specs.Map.{above, partition_order}
use Rattle.kr_defs.specs.Walk.{of_topic}
use Rattle.kr_defs.proofs.Tests.{both, not_true}
use Rattle.kr_defs.proofs.TopicWalks.{group_begin, same_topic}

abbrev Entry : Type 0
Entry = (ℕ × ℤ) × Partition

abbrev counted : ℕ → List Entry → ℕ
counted count es = fold (λ (count : ℕ) (e : Entry). max count (unsigned_abs e.0.1 + 1)) count es

grows : (count : ℕ) (es : List Entry) → count ≤ counted count es
grows count [] = omega arith
grows count (e ∷ es) =
    let rest = grows (max count (unsigned_abs e.0.1 + 1)) es in
    let own = le-max_left count (unsigned_abs e.0.1 + 1) in
    omega (arith, rest, own)

more : (a b : ℕ) (es : List Entry) → a ≤ b → counted a es ≤ counted b es
more a b [] le = le
more a b (e ∷ es) le =
    let k = unsigned_abs e.0.1 + 1 in
    let left = le-max_left b k in
    more (max a k) (max b k) es (max-le (omega (arith, le, left)) (le-max_right b k))

-- ---- what stands above a key

module _ (id : ℕ) (key : ℕ × ℤ) where
  abbrev later : List Entry → List Entry
  later ps = of_topic id (above partition_order ps (Some key))

  -- it counts no more than all
  passed : (count : ℕ) (ps : List Entry) → counted count (later ps) ≤ counted count (of_topic id ps)
  passed count [] = omega arith
  passed count (p ∷ ps) =
      let k = unsigned_abs p.0.1 + 1 in
      let rest = above partition_order ps (Some key) in
      elim (is_lt (partition_order key p.0)) as (λ b. counted count (of_topic id (cond (b && true) (p ∷ rest) rest)) ≤ counted count (of_topic id (p ∷ ps))) [
        | true ↦ elim (p.0.0 == id) as (λ c. counted count (cond c (p ∷ of_topic id rest) (of_topic id rest)) ≤ counted count (cond c (p ∷ of_topic id ps) (of_topic id ps))) [
          | true ↦ passed (max count k) ps
          | false ↦ passed count ps
        ]
        | false ↦ elim (p.0.0 == id) as (λ c. counted count (of_topic id rest) ≤ counted count (cond c (p ∷ of_topic id ps) (of_topic id ps))) [
          | true ↦
              let here = passed count ps in
              let there = more count (max count k) (of_topic id ps) (le-max_left count k) in
              omega (arith, here, there)
          | false ↦ passed count ps
        ]
      ]

  -- the next one counts
  pub reached : (ps : List Entry) (e : Entry) (es : List Entry) → later ps ≡ e ∷ es → unsigned_abs e.0.1 < counted 0 (of_topic id ps)
  reached ps e es is =
      let k = unsigned_abs e.0.1 + 1 in
      let all : counted 0 (e ∷ es) ≤ counted 0 (of_topic id ps) = subst (λ (xs : List Entry). counted 0 xs ≤ counted 0 (of_topic id ps)) is (passed 0 ps) in
      let own = grows (max 0 k) es in
      let least = le-max_right 0 k in
      omega (arith, all, own, least)

  first_of : Entry → List Entry → Entry
  first_of d [] = d
  first_of d (e ∷ es) = e

  same_head : (d e : Entry) (ds es : List Entry) → d ∷ ds ≡ e ∷ es → d ≡ e
  unfolding first_of
  same_head d e ds es is = ap (first_of d) is

  -- and stands above the key, in the topic
  next_is : (ps : List Entry) (e : Entry) (es : List Entry) → later ps ≡ e ∷ es → (is_lt (partition_order key e.0) ≡ true) × ((e.0.0 == id) ≡ true)
  next_is [] e es is = absurd cc
  next_is (p ∷ ps) e es is =
      let rest = above partition_order ps (Some key) in
      elim (is_lt (partition_order key p.0)) as (λ b. is_lt (partition_order key p.0) ≡ b → of_topic id (cond (b && true) (p ∷ rest) rest) ≡ e ∷ es → (is_lt (partition_order key e.0) ≡ true) × ((e.0.0 == id) ≡ true)) [
        | true ↦ λ less. elim (p.0.0 == id) as (λ c. (p.0.0 == id) ≡ c → cond c (p ∷ of_topic id rest) (of_topic id rest) ≡ e ∷ es → (is_lt (partition_order key e.0) ≡ true) × ((e.0.0 == id) ≡ true)) [
          | true ↦ λ own is. subst (λ (d : Entry). (is_lt (partition_order key d.0) ≡ true) × ((d.0.0 == id) ≡ true)) (same_head p e (of_topic id rest) es is) (less, own)
          | false ↦ λ other is. next_is ps e es is
        ] refl
        | false ↦ λ less is. next_is ps e es is
      ] refl is

-- ---- indexes

below : (m k : ℕ) → nat_lt m k ≡ true → m < k
below m k is = grind (arith, nat_tests)

not_below : (m k : ℕ) → nat_lt m k ≡ false → k ≤ m
not_below m k is = grind (arith, nat_tests)

less_test : (a b : Bool) → is_lt (cond a Less (cond b Greater Equal)) ≡ a
less_test true b = refl
less_test false true = refl
less_test false false = refl

less_index : (m : ℕ) (index : ℤ) → is_lt (int_cmp (pos m) index) ≡ true → m < unsigned_abs index
less_index m (pos k) is = below m k (sym (less_test (nat_lt m k) (nat_lt k m)) ∙ is)
less_index m (negsuc k) is = absurd cc

up_to_index : (m : ℕ) (index : ℤ) → is_index index ≡ true → is_lt (int_cmp (pos m) index) ≡ false → unsigned_abs index ≤ m
up_to_index m (pos k) stands is = not_below m k (sym (less_test (nat_lt m k) (nat_lt k m)) ∙ is)
up_to_index m (negsuc k) stands is = absurd cc

last_index : (index : ℤ) → is_index index ≡ true → unsigned_abs index ≤ unsigned_abs LAST_INDEX
last_index (pos k) stands =
    not_below (unsigned_abs LAST_INDEX) k (not_true (int_lt LAST_INDEX (pos k)) (both (not (int_lt (pos k) (pos 0))) (not (int_lt LAST_INDEX (pos k))) stands).1)
last_index (negsuc k) stands = absurd cc

in_topic : (id m x : ℕ) (index : ℤ) → (x == id) ≡ true → is_lt (partition_order (id, pos m) (x, index)) ≡ is_lt (int_cmp (pos m) index)
in_topic id m x index own =
    ap (λ (y : ℕ). is_lt (ordering_then (nat_cmp id y) (int_cmp (pos m) index))) (same_topic x id own)
    ∙ ap (λ (o : Ordering). is_lt (ordering_then o (int_cmp (pos m) index))) (sym (nat_cmp_is id id Equal refl))

-- the next one's index is greater
pub greater_index : (id m : ℕ) (ps : List Entry) (e : Entry) (es : List Entry) → of_topic id (above partition_order ps (Some (id, pos m))) ≡ e ∷ es → m < unsigned_abs e.0.1
greater_index id m ps e es is =
    let next = next_is id (id, pos m) ps e es is in
    less_index m e.0.1 (sym (in_topic id m e.0.0 e.0.1 next.1) ∙ next.0)

-- where none stands above an index, it is the greatest
none_later : (id m count : ℕ) (ps : List Entry) → AllByRecursion (λ e. IsTrue (is_index e.0.1)) ps → of_topic id (above partition_order ps (Some (id, pos m))) ≡ [] → count ≤ m + 1 → counted count (of_topic id ps) ≤ m + 1
none_later id m count [] stands is le = le
none_later id m count (p ∷ ps) stands is le =
    let k = unsigned_abs p.0.1 + 1 in
    let rest = above partition_order ps (Some (id, pos m)) in
    elim (p.0.0 == id) as (λ c. (p.0.0 == id) ≡ c → counted count (cond c (p ∷ of_topic id ps) (of_topic id ps)) ≤ m + 1) [
      | true ↦ λ own.
          elim (is_lt (partition_order (id, pos m) p.0)) as (λ b. is_lt (partition_order (id, pos m) p.0) ≡ b → of_topic id (cond (b && true) (p ∷ rest) rest) ≡ [] → counted (max count k) (of_topic id ps) ≤ m + 1) [
            | true ↦ λ less is. let here : p ∷ of_topic id rest ≡ [] = ap (λ c. cond c (p ∷ of_topic id rest) (of_topic id rest)) (sym own) ∙ is in absurd cc
            | false ↦ λ less is.
                let low = up_to_index m p.0.1 stands.0 (sym (in_topic id m p.0.0 p.0.1 own) ∙ less) in
                none_later id m (max count k) ps stands.1 is (max-le le (omega (arith, low)))
          ] refl is
      | false ↦ λ other.
          elim (is_lt (partition_order (id, pos m) p.0)) as (λ b. of_topic id (cond (b && true) (p ∷ rest) rest) ≡ [] → counted count (of_topic id ps) ≤ m + 1) [
            | true ↦ λ is. none_later id m count ps stands.1 (ap (λ c. cond c (p ∷ of_topic id rest) (of_topic id rest)) (sym other) ∙ is) le
            | false ↦ λ is. none_later id m count ps stands.1 is le
          ] is
    ] refl

all_within : (id count : ℕ) (ps : List Entry) → AllByRecursion (λ e. IsTrue (is_index e.0.1)) ps → count ≤ unsigned_abs LAST_INDEX + 1 → counted count (of_topic id ps) ≤ unsigned_abs LAST_INDEX + 1
all_within id count [] stands le = le
all_within id count (p ∷ ps) stands le =
    let k = unsigned_abs p.0.1 + 1 in
    elim (p.0.0 == id) as (λ c. counted count (cond c (p ∷ of_topic id ps) (of_topic id ps)) ≤ unsigned_abs LAST_INDEX + 1) [
      | true ↦
          let low = last_index p.0.1 stands.0 in
          all_within id (max count k) ps stands.1 (max-le le (omega (arith, low)))
      | false ↦ all_within id count ps stands.1 le
    ]

module _ (id : ℕ) (ps : List Entry) (stand : All (λ (e : Entry). IsTrue (is_index e.0.1)) ps) where
  pub none_above : (m : ℕ) → of_topic id (above partition_order ps (Some (id, pos m))) ≡ [] → counted 0 (of_topic id ps) ≤ m + 1
  none_above m none = none_later id m 0 ps (recursion_from_All (λ (e : Entry). IsTrue (is_index e.0.1)) ps stand) none (omega arith)

  pub none_at_all : of_topic id (above partition_order ps (Some (id, negsuc 0))) ≡ [] → counted 0 (of_topic id ps) ≡ 0
  none_at_all none =
      ap (counted 0) (sym (group_begin id ps (recursion_from_All (λ (e : Entry). IsTrue (is_index e.0.1)) ps stand)) ∙ none)

  pub up_to_last : counted 0 (of_topic id ps) ≤ unsigned_abs LAST_INDEX + 1
  up_to_last = all_within id 0 ps (recursion_from_All (λ (e : Entry). IsTrue (is_index e.0.1)) ps stand) (omega arith)
