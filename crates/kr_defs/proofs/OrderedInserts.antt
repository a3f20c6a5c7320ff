-- Entries that are inserted in the order of their keys.
use Rattle.std.proofs.Common.{◌≡◌, ◌∙◌, ℕ, ◌+◌, ◌≤◌, false, List, [], ◌∷◌, ◌++◌, length, refl, sym, ap, arith}
use Rattle.std.specs.Prelude.{None, not, ◌&&◌, nat_le}
use Rattle.std.specs.declared.cmp.Ordering.{Ordering}
use Rattle.std.specs.declared.cmp.Ordering.TheVariants.{Less}
use Rattle.std.specs.Ordering.{ordering_reverse}
use Rattle.std.specs.Cmp.{IsTotalOrder}
use Rattle.std.specs.List.{AllByRecursion}
use Rattle.std.specs.Map.{keys_of}
use Rattle.std.proofs.Math.Bool.{and-false}
use Rattle.std.proofs.lemmas.Bool.Decides.{nat_tests}
use Rattle.std.proofs.lemmas.List.{append-nil}
use Rattle.kr_defs.specs.Map.{get, contains, insert, is_full}
use Rattle.kr_defs.proofs.Maps.{none_below}

-- there is room for one more
pub has_room : (most n : ℕ) → n + 1 ≤ most → nat_le most n ≡ false
has_room most n room = grind (arith, nat_tests)

module _ {K V : Type 0} (R : K → K → Ordering) where
  -- the keys of the front are below the key
  abbrev pub IsBelow : List (K × V) → K → Type 0
  IsBelow front key = AllByRecursion (λ z. R z key ≡ Less) (keys_of front)

  -- those of the front are below those of the back
  abbrev pub IsBefore : List (K × V) → List (K × V) → Type 0
  IsBefore front back = AllByRecursion (λ (e : K × V). IsBelow front e.0) back

  below_push : (front : List (K × V)) (e : K × V) (key : K) → IsBelow front key → R e.0 key ≡ Less → IsBelow (front ++ e ∷ []) key
  below_push [] e key below lt = (lt, tt)
  below_push (x ∷ front) e key below lt = (below.0, below_push front e key below.1 lt)

  pub before_push : (front : List (K × V)) (e : K × V) (back : List (K × V)) → IsBefore front back → AllByRecursion (λ z. R e.0 z ≡ Less) (keys_of back) → IsBefore (front ++ e ∷ []) back
  before_push front e [] before lt = tt
  before_push front e (y ∷ back) before lt = (below_push front e y.0 before.0 lt.0, before_push front e back before.1 lt.1)

  pub before_none : (back : List (K × V)) → IsBefore [] back
  before_none [] = tt
  before_none (y ∷ back) = (tt, before_none back)

  -- there is room for one entry more
  pub not_full : (most : ℕ) (es : List (K × V)) (key : K) → length es + 1 ≤ most → is_full R most es key ≡ false
  not_full most es key room = ap (λ b. not (contains R es key) && b) (has_room most (length es) room) ∙ and-false (not (contains R es key))

module _ {K V : Type 0} {R : K → K → Ordering} (o : IsTotalOrder R) where
  -- between a front and a back
  pub insert-between : (front back : List (K × V)) (key : K) (value : V) → IsBelow R front key → AllByRecursion (λ z. R key z ≡ Less) (keys_of back) → insert R (front ++ back) key value ≡ front ++ (key, value) ∷ back
  insert-between [] [] key value below lt = refl
  insert-between [] (y ∷ back) key value below lt = rw lt.0 refl
  insert-between (x ∷ front) back key value below lt = rw (o.antisymm key x.0 ∙ ap ordering_reverse below.0) (ap (λ es. x ∷ es) (insert-between front back key value below.1 lt))

  pub get-between : (front back : List (K × V)) (key : K) → IsBelow R front key → AllByRecursion (λ z. R key z ≡ Less) (keys_of back) → get R (front ++ back) key ≡ None
  get-between [] back key below lt = none_below o back key lt
  get-between (x ∷ front) back key below lt = rw (o.antisymm key x.0 ∙ ap ordering_reverse below.0) (get-between front back key below.1 lt)

  -- at the end
  pub insert-last : (front : List (K × V)) (key : K) (value : V) → IsBelow R front key → insert R front key value ≡ front ++ (key, value) ∷ []
  insert-last front key value below = ap (λ es. insert R es key value) (sym (append-nil front)) ∙ insert-between front [] key value below tt

  pub get-last : (front : List (K × V)) (key : K) → IsBelow R front key → get R front key ≡ None
  get-last front key below = ap (λ es. get R es key) (sym (append-nil front)) ∙ get-between front [] key below tt
