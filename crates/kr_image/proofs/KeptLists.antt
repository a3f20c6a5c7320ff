-- What is kept under an epoch, after one more is kept, and after some are dropped.
use Rattle.std.proofs.Common.{◌≡◌, ℤ, Bool, true, false, cond, List, [], ◌∷◌, ◌++◌, refl, ap, ◌∙◌, arith, map, filter, find}
use Rattle.std.specs.Prelude.{Option, Some, None, int_lt, unwrap_or}
use Rattle.std.specs.Option.{option_map}
use Rattle.std.specs.declared.cmp.Ordering.TheVariants.{Less, Equal, Greater}
use Rattle.std.specs.Ordering.{int_cmp, int_eq}
use Rattle.std.specs.List.{AllByRecursion}
use Rattle.std.specs.List.Sorted.{IsStrictlySortedBy}
use Rattle.std.specs.Map.{keys_of}
use Rattle.std.proofs.lemmas.Int.{ints}
use Rattle.std.proofs.lemmas.Bool.Decides.{Decides-int_eq}
use Rattle.kr_defs.specs.KeptMaps.{Kept, oldest_unmade}
use Rattle.kr_defs.specs.Map as entries
use Rattle.kr_image.specs.Timelines.{map_in}

pub same_epoch : (x : ℤ) → int_eq x x ≡ true
same_epoch x = (Decides-int_eq x x).1 refl

-- no epoch is another that is above it
apart : (x y : ℤ) → int_lt x y ≡ true → int_eq y x ≡ false
apart x y h = elim (int_eq y x) as (λ b. int_eq y x ≡ b → b ≡ false) [
  | true ↦ λ is. let same : y ≡ x = (Decides-int_eq y x).0 is in grind (arith, ints)
  | false ↦ λ is. refl
] refl

pub apart_before : (x y : ℤ) → int_lt x y ≡ true → int_eq x y ≡ false
apart_before x y h = elim (int_eq x y) as (λ b. int_eq x y ≡ b → b ≡ false) [
  | true ↦ λ is. let same : x ≡ y = (Decides-int_eq x y).0 is in grind (arith, ints)
  | false ↦ λ is. refl
] refl

-- ---- lists

pub find_filter : {X : Type 0} (p q : X → Bool) → ((x : X) → p x ≡ true → q x ≡ true) → (xs : List X) → find p (filter q xs) ≡ find p xs
find_filter p q kept [] = refl
find_filter {X} p q kept (x ∷ xs) =
    let rest = find_filter p q kept xs in
    elim (p x) as (λ b. p x ≡ b → find p (cond (q x) (x ∷ filter q xs) (filter q xs)) ≡ cond b (Some x) (find p xs)) [
      | true ↦ λ is. ap (λ b. find p (cond b (x ∷ filter q xs) (filter q xs))) (kept x is) ∙ ap (λ b. cond b (Some x) (find p (filter q xs))) is
      | false ↦ λ is. elim (q x) as (λ b. find p (cond b (x ∷ filter q xs) (filter q xs)) ≡ find p xs) [
        | true ↦ ap (λ b. cond b (Some x) (find p (filter q xs))) is ∙ rest
        | false ↦ rest
      ]
    ] refl

pub find_push : {X : Type 0} (p : X → Bool) (xs : List X) (x : X) → p x ≡ false → find p (xs ++ x ∷ []) ≡ find p xs
find_push p [] x off = ap (λ b. cond b (Some x) None) off
find_push {X} p (y ∷ xs) x off = ap (λ (o : Option X). cond (p y) (Some y) o) (find_push p xs x off)

pub find_last : {X : Type 0} (p : X → Bool) (xs : List X) (x : X) → AllByRecursion (λ y. p y ≡ false) xs → p x ≡ true → find p (xs ++ x ∷ []) ≡ Some x
find_last p [] x a on = ap (λ b. cond b (Some x) None) on
find_last {X} p (y ∷ xs) x a on = ap (λ b. cond b (Some y) (find p (xs ++ x ∷ []))) a.0 ∙ find_last p xs x a.1 on

pub find_map : {X Y : Type 0} (f : X → Y) (p : Y → Bool) (xs : List X) → find p (map f xs) ≡ option_map f (find (λ x. p (f x)) xs)
find_map f p [] = refl
find_map {X} {Y} f p (x ∷ xs) =
    let rest = find_map f p xs in
    elim (p (f x)) as (λ b. cond b (Some (f x)) (find p (map f xs)) ≡ option_map f (cond b (Some x) (find (λ x. p (f x)) xs))) [ true ↦ refl | false ↦ rest ]

pub filter_map_is : {X Y : Type 0} (f : X → Y) (q : Y → Bool) (xs : List X) → filter q (map f xs) ≡ map f (filter (λ x. q (f x)) xs)
filter_map_is f q [] = refl
filter_map_is {X} {Y} f q (x ∷ xs) =
    let rest = filter_map_is f q xs in
    elim (q (f x)) as (λ b. cond b (f x ∷ filter q (map f xs)) (filter q (map f xs)) ≡ map f (cond b (x ∷ filter (λ x. q (f x)) xs) (filter (λ x. q (f x)) xs))) [
      | true ↦ ap (λ (ys : List Y). f x ∷ ys) rest
      | false ↦ rest
    ]

pub map_push : {X Y : Type 0} (f : X → Y) (xs : List X) (x : X) → map f (xs ++ x ∷ []) ≡ map f xs ++ f x ∷ []
map_push f [] x = refl
map_push {X} {Y} f (y ∷ xs) x = ap (λ (ys : List Y). f y ∷ ys) (map_push f xs x)

pub map_again : {X Y Z : Type 0} (f : X → Y) (g : Y → Z) (xs : List X) → map g (map f xs) ≡ map (λ x. g (f x)) xs
map_again f g [] = refl
map_again {X} {Y} {Z} f g (x ∷ xs) = ap (λ (zs : List Z). g (f x) ∷ zs) (map_again f g xs)

pub map_same : {X Y : Type 0} (f g : X → Y) (xs : List X) → AllByRecursion (λ x. f x ≡ g x) xs → map f xs ≡ map g xs
map_same f g [] a = refl
map_same {X} {Y} f g (x ∷ xs) a = ap (λ y. y ∷ map f xs) a.0 ∙ ap (λ (ys : List Y). g x ∷ ys) (map_same f g xs a.1)

pub all_weaker : {X : Type 0} (P Q : X → Type 0) → ((x : X) → P x → Q x) → (xs : List X) → AllByRecursion P xs → AllByRecursion Q xs
all_weaker P Q step [] a = tt
all_weaker P Q step (x ∷ xs) a = (step x a.0, all_weaker P Q step xs a.1)

pub all_push : {X : Type 0} (P : X → Type 0) (xs : List X) (x : X) → AllByRecursion P xs → P x → AllByRecursion P (xs ++ x ∷ [])
all_push P [] x a h = (h, tt)
all_push P (y ∷ xs) x a h = (a.0, all_push P xs x a.1 h)

pub all_map : {X Y : Type 0} (f : X → Y) (P : Y → Type 0) (xs : List X) → AllByRecursion P (map f xs) → AllByRecursion (λ x. P (f x)) xs
all_map f P [] a = tt
all_map f P (x ∷ xs) a = (a.0, all_map f P xs a.1)

pub all_mapped : {X Y : Type 0} (f : X → Y) (P : Y → Type 0) (xs : List X) → AllByRecursion (λ x. P (f x)) xs → AllByRecursion P (map f xs)
all_mapped f P [] a = tt
all_mapped f P (x ∷ xs) a = (a.0, all_mapped f P xs a.1)

-- what passes the test has it, beside what held before
pub all_passing : {X : Type 0} (P : X → Type 0) (q : X → Bool) (xs : List X) → AllByRecursion P xs → AllByRecursion (λ x. P x × (q x ≡ true)) (filter q xs)
all_passing P q [] a = tt
all_passing {X} P q (x ∷ xs) a =
    elim (q x) as (λ b. q x ≡ b → AllByRecursion (λ x. P x × (q x ≡ true)) (cond b (x ∷ filter q xs) (filter q xs))) [
      | true ↦ λ is. ((a.0, is), all_passing P q xs a.1)
      | false ↦ λ is. all_passing P q xs a.1
    ] refl

-- ---- one timeline's kept maps

module _ {K V : Type 0} where
  pub in_more : (kept : List (Kept K V)) (k : Kept K V) (x : ℤ) → int_lt x k.epoch ≡ true → map_in (kept ++ k ∷ []) x ≡ map_in kept x
  in_more kept k x below = ap (λ (o : Option (Kept K V)). unwrap_or (option_map (λ k. k.map) o) []) (find_push (λ (k : Kept K V). int_eq k.epoch x) kept k (apart x k.epoch below))

  pub in_last : (kept : List (Kept K V)) (k : Kept K V) → AllByRecursion (λ x. int_lt x k.epoch ≡ true) (map (λ (k : Kept K V). k.epoch) kept) → map_in (kept ++ k ∷ []) k.epoch ≡ k.map
  in_last kept k above =
      let off : AllByRecursion (λ (x : Kept K V). int_eq x.epoch k.epoch ≡ false) kept = all_weaker (λ (x : Kept K V). int_lt x.epoch k.epoch ≡ true) (λ (x : Kept K V). int_eq x.epoch k.epoch ≡ false) (λ x below. apart_before x.epoch k.epoch below) kept (all_map (λ (k : Kept K V). k.epoch) (λ x. int_lt x k.epoch ≡ true) kept above) in
      ap (λ (o : Option (Kept K V)). unwrap_or (option_map (λ k. k.map) o) []) (find_last (λ (x : Kept K V). int_eq x.epoch k.epoch) kept k off (same_epoch k.epoch))

  pub in_left : (q : ℤ → Bool) (kept : List (Kept K V)) (x : ℤ) → q x ≡ true → map_in (filter (λ (k : Kept K V). q k.epoch) kept) x ≡ map_in kept x
  in_left q kept x left = ap (λ (o : Option (Kept K V)). unwrap_or (option_map (λ k. k.map) o) [])
      (find_filter (λ (k : Kept K V). int_eq k.epoch x) (λ k. q k.epoch) (λ k is. ap q ((Decides-int_eq k.epoch x).0 is) ∙ left) kept)

  pub in_unmade : (kept : List (Kept K V)) (x : ℤ) → map_in (oldest_unmade kept) x ≡ map_in kept x
  in_unmade [] x = refl
  in_unmade (k ∷ kept) x = elim (int_eq k.epoch x) as (λ b. unwrap_or (option_map (λ (k : Kept K V). k.map) (cond b (Some (record k { made = 0 })) (find (λ (k : Kept K V). int_eq k.epoch x) kept))) [] ≡ unwrap_or (option_map (λ (k : Kept K V). k.map) (cond b (Some k) (find (λ (k : Kept K V). int_eq k.epoch x) kept))) []) [ true ↦ refl | false ↦ refl ]

  pub epochs_unmade : (kept : List (Kept K V)) → map (λ (k : Kept K V). k.epoch) (oldest_unmade kept) ≡ map (λ (k : Kept K V). k.epoch) kept
  epochs_unmade [] = refl
  epochs_unmade (k ∷ kept) = refl

-- ---- epochs that rise

below_push : {V : Type 0} (x : ℤ) (es : List (ℤ × V)) (e : ℤ × V) → AllByRecursion (λ z. int_cmp x z ≡ Less) (keys_of es) → int_cmp x e.0 ≡ Less → AllByRecursion (λ z. int_cmp x z ≡ Less) (keys_of (es ++ e ∷ []))
below_push x [] e a h = (h, tt)
below_push x (y ∷ es) e a h = (a.0, below_push x es e a.1 h)

pub rising_push : {V : Type 0} (es : List (ℤ × V)) (e : ℤ × V) → entries.IsMap int_cmp es → AllByRecursion (λ (x : ℤ × V). int_lt x.0 e.0 ≡ true) es → entries.IsMap int_cmp (es ++ e ∷ [])
unfolding IsStrictlySortedBy
rising_push [] e s above = (tt, tt)
rising_push (x ∷ es) e s above = (below_push x.0 es e s.0 (ap (λ b. cond b Less (cond (int_lt e.0 x.0) Greater Equal)) above.0), rising_push es e s.1 above.1)
