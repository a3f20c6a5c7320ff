-- The steps of going back and of forgetting, and what is left.
use Rattle.std.proofs.Common.{◌≡◌, ◌≤◌, ◌+◌, ℕ, ℤ, pos, List, [], ◌∷◌, ◌++◌, refl, sym, ap, subst, ◌∙◌, arith, filter}
use Rattle.std.specs.Prelude.{◌↔◌, IsErr, IsOk, IsTrue, IsSome, Result, Ok, Err, Option, Some, None, int_lt, not, sum_by, take}
use Rattle.std.specs.Option.{option_map}
use Rattle.std.specs.Ordering.{nat_cmp}
use Rattle.std.proofs.lemmas.List.Elements.{All-from_recursion}
use Rattle.std.proofs.lemmas.List.Sums.{sum_by-cons}
use Rattle.kr_defs.specs.KeptMaps.{Kept, KeptMaps, IsAbove, forgotten, inserted, map_at, marked, no_maps, reverted}
use Rattle.kr_defs.proofs.Tests.{some_is}
use Rattle.test_calls.specs.FilledMaps.{HoldsThousand}

pub is_ok : {E X : Type 0} (r : Result (Unit {0}) E) (o : Option X) → (IsErr r ↔ (o ≡ None)) → IsSome o → IsOk r
is_ok (Ok done) o no_epoch some = refl
is_ok {E} {X} (Err fault) o no_epoch some = let none_of : Option X = None in let bad : IsSome none_of = subst (λ (p : Option X). IsSome p) (no_epoch.0 refl) some in absurd cc

pub above_one : (begun filled : KeptMaps ℕ ℤ) → begun ≡ marked no_maps (pos 0) → filled.kept ≡ begun.kept → IsAbove filled.kept (pos 1)
unfolding marked
above_one begun filled is same =
    subst (λ (kept : List (Kept ℕ ℤ)). IsAbove kept (pos 1)) (sym (same ∙ ap (λ (m : KeptMaps ℕ ℤ). m.kept) is))
    (All-from_recursion (λ (k : Kept ℕ ℤ). IsTrue (int_lt k.epoch (pos 1))) (record { epoch = pos 0; map = []; made = 0 } ∷ []) (refl, tt))

pub is_filled : (begun filled after : KeptMaps ℕ ℤ) → begun ≡ marked no_maps (pos 0) → filled.kept ≡ begun.kept → filled.made ≤ begun.made + 1000 → after ≡ marked filled (pos 1) → HoldsThousand after
unfolding marked
is_filled begun filled after is same few then = record {
  empty = record { epoch = pos 0; map = []; made = 0 };
  full = record { epoch = pos 1; map = filled.present; made = filled.made };
  kept = ap (λ (m : KeptMaps ℕ ℤ). m.kept) then ∙ ap (λ (kept : List (Kept ℕ ℤ)). kept ++ record { epoch = pos 1; map = filled.present; made = filled.made } ∷ []) (same ∙ ap (λ (m : KeptMaps ℕ ℤ). m.kept) is);
  first = refl;
  second = refl;
  unmade = refl;
  made = (let none : begun.made ≡ 0 = ap (λ (m : KeptMaps ℕ ℤ). m.made) is in omega (arith, none, few));
  still = ap (λ (m : KeptMaps ℕ ℤ). m.made) then;
}

is_back : (left : List (Kept ℕ ℤ)) (o : Option (List (ℕ × ℤ))) (after : KeptMaps ℕ ℤ) → option_map (λ (present : List (ℕ × ℤ)). record { kept = left; present = present; made = 0 }) o ≡ Some after → (after.kept ≡ left) × (after.made ≡ 0)
is_back left None after is = absurd cc
is_back left (Some present) after is =
    let same : record { kept = left; present = present; made = 0 } ≡ after = some_is _ after is in
    (ap (λ (m : KeptMaps ℕ ℤ). m.kept) (sym same), ap (λ (m : KeptMaps ℕ ℤ). m.made) (sym same))

module _ (maps changed : KeptMaps ℕ ℤ) (key : ℕ) (value : ℤ) (f : HoldsThousand maps) (is : changed ≡ inserted nat_cmp maps key value) where
  same_kept : changed.kept ≡ f.empty ∷ f.full ∷ []
  unfolding inserted
  same_kept = ap (λ (m : KeptMaps ℕ ℤ). m.kept) is ∙ f.kept

  one_made : changed.made ≡ 1
  unfolding inserted
  one_made = ap (λ (m : KeptMaps ℕ ℤ). m.made) is ∙ ap (λ (n : ℕ). Rattle.kr_defs.specs.KeptMaps.one_call_more n) f.still

  pub found_one : IsSome (map_at changed (pos 1))
  found_one = rw (same_kept, f.first, f.second) refl

  none_higher : filter (λ (k : Kept ℕ ℤ). int_lt (pos 1) k.epoch) changed.kept ≡ []
  none_higher = rw (same_kept, f.first, f.second) refl

  all_lower : filter (λ (k : Kept ℕ ℤ). not (int_lt (pos 1) k.epoch)) changed.kept ≡ f.empty ∷ f.full ∷ []
  all_lower = rw (same_kept, f.first, f.second) refl

  pub filled_again : (after : KeptMaps ℕ ℤ) → reverted changed (pos 1) ≡ Some after → HoldsThousand after
  unfolding reverted
  filled_again after back =
      let left = is_back (filter (λ (k : Kept ℕ ℤ). not (int_lt (pos 1) k.epoch)) changed.kept) (map_at changed (pos 1)) after back in
      record {
        empty = f.empty;
        full = f.full;
        kept = left.0 ∙ all_lower;
        first = f.first;
        second = f.second;
        unmade = f.unmade;
        made = f.made;
        still = left.1;
      }

  pub two_steps : (before steps : ℕ) → steps ≤ before + sum_by (λ (k : Kept ℕ ℤ). k.made + 1) (filter (λ (k : Kept ℕ ℤ). int_lt (pos 1) k.epoch) changed.kept) + changed.made + 1 → steps ≤ before + 2
  two_steps before steps bound =
      let none : sum_by (λ (k : Kept ℕ ℤ). k.made + 1) (filter (λ (k : Kept ℕ ℤ). int_lt (pos 1) k.epoch) changed.kept) ≡ 0 = ap (λ (ks : List (Kept ℕ ℤ)). sum_by (λ (k : Kept ℕ ℤ). k.made + 1) ks) none_higher in
      omega (arith, bound, none, one_made)

  pub above_two : IsAbove changed.kept (pos 2)
  above_two =
      subst (λ (kept : List (Kept ℕ ℤ)). IsAbove kept (pos 2)) (sym same_kept)
      (All-from_recursion (λ (k : Kept ℕ ℤ). IsTrue (int_lt k.epoch (pos 2))) (f.empty ∷ f.full ∷ []) (rw f.first refl, (rw f.second refl, tt)))

  pub thousand_steps : (after : KeptMaps ℕ ℤ) (before steps : ℕ) → after ≡ marked changed (pos 2)
      → steps ≤ before + sum_by (λ (k : Kept ℕ ℤ). k.made + 1) (filter (λ (k : Kept ℕ ℤ). int_lt k.epoch (pos 2)) after.kept) + sum_by (λ (k : Kept ℕ ℤ). k.made) (take 1 (filter (λ (k : Kept ℕ ℤ). not (int_lt k.epoch (pos 2))) after.kept)) + 1
      → steps ≤ before + 1004
  unfolding marked
  thousand_steps after before steps is bound =
      let last : Kept ℕ ℤ = record { epoch = pos 2; map = changed.present; made = changed.made } in
      let kept : after.kept ≡ f.empty ∷ f.full ∷ last ∷ [] = ap (λ (m : KeptMaps ℕ ℤ). m.kept) is ∙ ap (λ (ks : List (Kept ℕ ℤ)). ks ++ last ∷ []) same_kept in
      let low : filter (λ (k : Kept ℕ ℤ). int_lt k.epoch (pos 2)) after.kept ≡ f.empty ∷ f.full ∷ [] = rw (kept, f.first, f.second) refl in
      let high : filter (λ (k : Kept ℕ ℤ). not (int_lt k.epoch (pos 2))) after.kept ≡ last ∷ [] = rw (kept, f.first, f.second) refl in
      let dropped : sum_by (λ (k : Kept ℕ ℤ). k.made + 1) (filter (λ (k : Kept ℕ ℤ). int_lt k.epoch (pos 2)) after.kept) ≡ sum_by (λ (k : Kept ℕ ℤ). k.made + 1) (f.empty ∷ f.full ∷ []) = ap (λ (ks : List (Kept ℕ ℤ)). sum_by (λ (k : Kept ℕ ℤ). k.made + 1) ks) low in
      let left : sum_by (λ (k : Kept ℕ ℤ). k.made) (take 1 (filter (λ (k : Kept ℕ ℤ). not (int_lt k.epoch (pos 2))) after.kept)) ≡ sum_by (λ (k : Kept ℕ ℤ). k.made) (last ∷ []) = ap (λ (ks : List (Kept ℕ ℤ)). sum_by (λ (k : Kept ℕ ℤ). k.made) (take 1 ks)) high in
      let none : f.empty.made ≡ 0 = f.unmade in
      let most : f.full.made ≤ 1000 = f.made in
      omega (arith, bound, dropped, left, none, most, one_made, sum_by-cons (λ (k : Kept ℕ ℤ). k.made + 1) f.empty (f.full ∷ []), sum_by-cons (λ (k : Kept ℕ ℤ). k.made + 1) f.full [], sum_by-cons (λ (k : Kept ℕ ℤ). k.made) last [])
