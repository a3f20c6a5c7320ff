-- Rows are added up to a number of them.
use Rattle.std.proofs.Common.{◌≡◌, ◌∙◌, ◌≤◌, ◌+◌, ℕ, zero, suc, true, false, List, [], ◌∷◌, ◌++◌, length, take, refl, sym, ap, subst, append_assoc, length-append, arith, map}
use Rattle.std.specs.Prelude.{Option, Some, None, nat_le}
use Rattle.std.specs.declared.cmp.Ordering.{Ordering}
use Rattle.std.specs.Cmp.{IsTotalOrder}
use Rattle.std.proofs.lemmas.Bool.Decides.{nat_tests}
use Rattle.std.proofs.lemmas.List.{append-nil, length-take}
use Rattle.kr_defs.specs.Map.{IsMap, above, next}
use Rattle.kr_defs.proofs.Walks.{walk_end, walk_next}

fits : (n most : ℕ) → nat_le most n ≡ false → n + 1 ≤ most
fits n most h = grind (arith, nat_tests)

fills : (n most : ℕ) → n ≤ most → nat_le most n ≡ true → most ≡ n
fills n most le h = grind (arith, nat_tests)

module _ {Y : Type 0} where
  pub take_more : (n : ℕ) (xs ys : List Y) → take n (take n xs ++ ys) ≡ take n (xs ++ ys)
  take_more zero xs ys = refl
  take_more (suc n) [] ys = refl
  take_more (suc n) (x ∷ xs) ys = ap (λ zs. x ∷ zs) (take_more n xs ys)

  take_those : (n : ℕ) (xs ys : List Y) → n ≡ length xs → take n (xs ++ ys) ≡ xs
  take_those n [] ys is = ap (λ m. take m ys) is
  take_those zero (x ∷ xs) ys is = absurd (omega (arith, is))
  take_those (suc n) (x ∷ xs) ys is = ap (λ zs. x ∷ zs) (take_those n xs ys (omega (arith, is)))

  take_whole : (n : ℕ) (xs : List Y) → length xs ≤ n → take n xs ≡ xs
  take_whole zero [] le = refl
  take_whole (suc n) [] le = refl
  take_whole zero (x ∷ xs) le = absurd (omega (arith, le))
  take_whole (suc n) (x ∷ xs) le = ap (λ zs. x ∷ zs) (take_whole n xs (omega (arith, le)))

  -- what comes behind others
  pub behind_others : (most : ℕ) (old mid new xs ys : List Y) → mid ≡ take most (old ++ xs) → new ≡ take most (mid ++ ys) → new ≡ take most (old ++ (xs ++ ys))
  behind_others most old mid new xs ys first second =
      second ∙ ap (λ (zs : List Y). take most (zs ++ ys)) first ∙ take_more most (old ++ xs) ys ∙ ap (take most) (append_assoc old xs ys)

  take_few : (n : ℕ) (xs : List Y) → length (take n xs) ≤ n
  take_few n xs = let m = length-take n xs in omega (arith, m)

  -- so many of what there was and of all are those that there are and of what is left
  pub record IsFilling (most : ℕ) (old all rows left : List Y) : Type 0 where
    pub few : length rows ≤ most
    pub same : take most (rows ++ left) ≡ take most (old ++ all)

  pub filling : (most : ℕ) (old all : List Y) → length old ≤ most → IsFilling most old all old all
  filling most old all few = record { few = few; same = refl }

  module _ (most : ℕ) (old all rows left : List Y) (f : IsFilling most old all rows left) where
    pub one_more : (new rest : List Y) (x : Y) → new ≡ rows ++ x ∷ [] → left ≡ x ∷ rest → nat_le most (length rows) ≡ false → IsFilling most old all new rest
    one_more new rest x is begins free =
        let long : length new ≡ length rows + 1 = ap (λ (ys : List Y). length ys) is ∙ length-append rows (x ∷ []) in
        let room = fits (length rows) most free in
        record {
          few = omega (arith, long, room);
          same = ap (λ (ys : List Y). take most (ys ++ rest)) is ∙ ap (take most) (append_assoc rows (x ∷ []) rest ∙ ap (λ (ys : List Y). rows ++ ys) (sym begins)) ∙ f.same;
        }

    pub some_more : (new rest xs : List Y) → new ≡ take most (rows ++ xs) → left ≡ xs ++ rest → IsFilling most old all new rest
    some_more new rest xs is begins = record {
      few = subst (λ (ys : List Y). length ys ≤ most) (sym is) (take_few most (rows ++ xs));
      same =
          ap (λ (ys : List Y). take most (ys ++ rest)) is
          ∙ take_more most (rows ++ xs) rest
          ∙ ap (take most) (append_assoc rows xs rest ∙ ap (λ (ys : List Y). rows ++ ys) (sym begins))
          ∙ f.same;
    }

    pub none_left : left ≡ [] → rows ≡ take most (old ++ all)
    none_left none = sym (take_whole most rows f.few) ∙ ap (take most) (sym (append-nil rows) ∙ ap (λ (ys : List Y). rows ++ ys) (sym none)) ∙ f.same

    pub no_room : nat_le most (length rows) ≡ true → rows ≡ take most (old ++ all)
    no_room full = sym (take_those most rows left (fills (length rows) most f.few full)) ∙ f.same

    -- and of others behind all
    pub no_room_behind : (more : List Y) → nat_le most (length rows) ≡ true → rows ≡ take most (old ++ (all ++ more))
    no_room_behind more full = behind_others most old rows rows all more (no_room full) (sym (take_those most rows more (fills (length rows) most f.few full)))

    pub all_and_more : (new more : List Y) → left ≡ [] → new ≡ take most (rows ++ more) → new ≡ take most (old ++ (all ++ more))
    all_and_more new more none is = behind_others most old rows new all more (none_left none) is

  -- ---- at most one row more

  pub no_room_for : (most : ℕ) (old xs : List Y) → length old ≤ most → nat_le most (length old) ≡ true → old ≡ take most (old ++ xs)
  no_room_for most old xs few full = sym (take_those most old xs (fills (length old) most few full))

  pub none_added : (most : ℕ) (old xs : List Y) → length old ≤ most → xs ≡ [] → old ≡ take most (old ++ xs)
  none_added most old xs few none = sym (take_whole most old few) ∙ ap (take most) (sym (append-nil old) ∙ ap (λ (ys : List Y). old ++ ys) (sym none))

  pub one_added : (most : ℕ) (old new xs : List Y) (x : Y) → nat_le most (length old) ≡ false → xs ≡ x ∷ [] → new ≡ old ++ x ∷ [] → new ≡ take most (old ++ xs)
  one_added most old new xs x free one is =
      let long = length-append old (x ∷ []) in
      let room = fits (length old) most free in
      is ∙ sym (take_whole most (old ++ x ∷ []) (omega (arith, long, room))) ∙ ap (λ (ys : List Y). take most (old ++ ys)) (sym one)

  pub few_taken : (most : ℕ) (xs new : List Y) → new ≡ take most xs → length new ≤ most
  few_taken most xs new is = subst (λ (ys : List Y). length ys ≤ most) (sym is) (take_few most xs)

-- ---- entries of a map, one after the other

module _ {K V Y : Type 0} {R : K → K → Ordering} (o : IsTotalOrder R) (f : K × V → Y) (es : List (K × V)) (after : Option K) where
  pub entry_left : (e : K × V) → IsMap R es → Some e ≡ next R es after → map f (above R es after) ≡ f e ∷ map f (above R es (Some e.0))
  entry_left e ordered found = ap (map f) (walk_next o es after e ordered (sym found))

  pub entries_over : None ≡ next R es after → map f (above R es after) ≡ []
  entries_over none = ap (map f) (walk_end (above R es after) (sym none))

pub ruleset fillings = (filling, few_taken)
