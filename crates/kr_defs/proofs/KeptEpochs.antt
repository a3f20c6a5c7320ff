-- What is kept under an epoch, after what is done above it.
use Rattle.std.proofs.Common.{◌≡◌, ◌∙◌, Bool, true, false, cond, not, List, [], ◌∷◌, ℤ, refl, ap, subst, sym, inl, inr, Option, Some, None, filter, find}
use Rattle.std.proofs.lemmas.Bool.{and_parts, cases_Bool}
use Rattle.std.proofs.lemmas.List.Folds.{find-append}
use Rattle.std.specs.List.{list_all}
use Rattle.std.specs.Option.{option_map, option_or}
use Rattle.std.specs.Prelude.{int_lt, unwrap_or, IfSome}
use Rattle.std.specs.Ordering.{int_eq}
use Rattle.std.specs.declared.cmp.Ordering.{Ordering}
use Rattle.kr_defs.specs.KeptMaps.{Kept, KeptMaps, map_at, marked, reverted, oldest_unmade, forgotten, inserted, removed}
use Rattle.kr_defs.specs.KeptLaws.{Action, Insert, Remove, Mark, Revert, Forget, keeps, after_action, after_actions, RevertsRestore, KeepsThose, ForgetsBelow, RevertsAbove}
use Rattle.kr_defs.proofs.IdLists.{same_id}
use Rattle.kr_defs.proofs.Tests.{not_true}

-- a filter that keeps all that is looked for, and one that keeps none of it
pub find-kept : {X : Type 0} (p test : X → Bool) (xs : List X) → ((x : X) → p x ≡ true → test x ≡ true) → find p (filter test xs) ≡ find p xs
find-kept p test [] keeps = refl
find-kept p test (x ∷ xs) keeps =
    elim (cases_Bool (test x)) [
      | inl holds ↦ rw holds (ap (λ o. cond (p x) (Some x) o) (find-kept p test xs keeps))
      | inr fails ↦ elim (cases_Bool (p x)) [
        | inl found ↦ let holds = keeps x found in absurd cc
        | inr passed ↦ rw (fails, passed) (find-kept p test xs keeps)
      ]
    ]

pub find-dropped : {X : Type 0} (p test : X → Bool) (xs : List X) → ((x : X) → p x ≡ true → test x ≡ false) → find p (filter test xs) ≡ None
find-dropped p test [] drops = refl
find-dropped p test (x ∷ xs) drops =
    elim (cases_Bool (test x)) [
      | inl holds ↦ elim (cases_Bool (p x)) [
        | inl found ↦ let fails = drops x found in absurd cc
        | inr passed ↦ rw (holds, passed) (find-dropped p test xs drops)
      ]
      | inr fails ↦ rw fails (find-dropped p test xs drops)
    ]

module _ {K V : Type 0} where
  abbrev at : ℤ → List (Kept K V) → Option (List (K × V))
  at epoch kept = option_map (λ (k : Kept K V). k.map) (find (λ (k : Kept K V). int_eq k.epoch epoch) kept)

  module _ (passes : ℤ → Bool) (kept : List (Kept K V)) (epoch : ℤ) where
    abbrev passing : List (Kept K V)
    passing = filter (λ (k : Kept K V). passes k.epoch) kept

    stays : passes epoch ≡ true → at epoch passing ≡ at epoch kept
    stays h =
        let P : ℤ → Type 0 = λ e. passes e ≡ true in
        ap (option_map (λ (k : Kept K V). k.map)) (find-kept (λ (k : Kept K V). int_eq k.epoch epoch) (λ (k : Kept K V). passes k.epoch) kept (λ k found. subst P (sym (same_id k.epoch epoch found)) h))

    goes : not (passes epoch) ≡ true → at epoch passing ≡ None
    goes h =
        let P : ℤ → Type 0 = λ e. passes e ≡ false in
        ap (option_map (λ (k : Kept K V). k.map)) (find-dropped (λ (k : Kept K V). int_eq k.epoch epoch) (λ (k : Kept K V). passes k.epoch) kept (λ k found. subst P (sym (same_id k.epoch epoch found)) (not_true (passes epoch) h)))

  unmade : (epoch : ℤ) (kept : List (Kept K V)) → at epoch (oldest_unmade kept) ≡ at epoch kept
  unmade epoch [] = refl
  unmade epoch (k ∷ kept) =
      elim (int_eq k.epoch epoch) as (λ b. option_map (λ (k : Kept K V). k.map) (cond b (Some (record k { made = 0 })) (find (λ (k : Kept K V). int_eq k.epoch epoch) kept)) ≡ option_map (λ (k : Kept K V). k.map) (cond b (Some k) (find (λ (k : Kept K V). int_eq k.epoch epoch) kept))) [ true ↦ refl | false ↦ refl ]

  pub forgets_below : (maps : KeptMaps K V) (epoch : ℤ) → ForgetsBelow maps epoch
  unfolding forgotten
  forgets_below maps epoch =
      let passes = λ (other : ℤ). not (int_lt other epoch) in
      record {
        kept = record {
          stay = λ other h. unmade other (passing passes maps.kept other) ∙ stays passes maps.kept other h;
          gone = λ other h. unmade other (passing passes maps.kept other) ∙ goes passes maps.kept other h;
        };
        present = refl;
      }

  pub reverts_above : (maps : KeptMaps K V) (epoch : ℤ) → RevertsAbove maps epoch
  unfolding reverted
  reverts_above maps epoch =
      let passes = λ (other : ℤ). not (int_lt epoch other) in
      elim (map_at maps epoch) as (λ o. IfSome (option_map (λ (present : List (K × V)). record { kept = filter (λ (k : Kept K V). not (int_lt epoch k.epoch)) maps.kept; present = present; made = 0 }) o) (KeepsThose passes maps)) [
        | None ↦ tt
        | Some present ↦ record { stay = λ other h. stays passes maps.kept other h; gone = λ other h. goes passes maps.kept other h }
      ]

  module _ (order : K → K → Ordering) (epoch : ℤ) (map : List (K × V)) where
    marks : (maps : KeptMaps K V) (other : ℤ) → map_at maps epoch ≡ Some map → map_at (marked maps other) epoch ≡ Some map
    unfolding marked
    marks maps other found =
        let here = λ (k : Kept K V). int_eq k.epoch epoch in
        let last : Kept K V = record { epoch = other; map = maps.present; made = maps.made } in
        ap (option_map (λ (k : Kept K V). k.map)) (find-append here maps.kept (last ∷ []))
        ∙ (elim (find here maps.kept) as (λ o. option_map (λ (k : Kept K V). k.map) o ≡ Some map → option_map (λ (k : Kept K V). k.map) (option_or o (find here (last ∷ []))) ≡ Some map) [
          | None ↦ λ none. absurd cc
          | Some k ↦ λ is. is
        ] found)

    reverts : (maps : KeptMaps K V) (other : ℤ) → not (int_lt other epoch) ≡ true → map_at maps epoch ≡ Some map → map_at (unwrap_or (reverted maps other) maps) epoch ≡ Some map
    reverts maps other h found =
        elim (reverted maps other) as (λ o. IfSome o (KeepsThose (λ e. not (int_lt other e)) maps) → map_at (unwrap_or o maps) epoch ≡ Some map) [
          | None ↦ λ _. found
          | Some after ↦ λ told. told.stay epoch h ∙ found
        ] (reverts_above maps other)

    keeps_map : (maps : KeptMaps K V) (action : Action K V) → keeps epoch action ≡ true → map_at maps epoch ≡ Some map → map_at (after_action order maps action) epoch ≡ Some map
    unfolding inserted removed
    keeps_map maps (Insert key value) h found = found
    keeps_map maps (Remove key) h found = found
    keeps_map maps (Mark other) h found = marks maps other found
    keeps_map maps (Revert other) h found = reverts maps other h found
    keeps_map maps (Forget other) h found = (forgets_below maps other).kept.stay epoch h ∙ found

    keep_map : (actions : List (Action K V)) (maps : KeptMaps K V) → list_all (keeps epoch) actions ≡ true → map_at maps epoch ≡ Some map → map_at (after_actions order maps actions) epoch ≡ Some map
    keep_map [] maps h found = found
    keep_map (action ∷ actions) maps h found =
        let parts = and_parts (keeps epoch action) (list_all (keeps epoch) actions) h in
        keep_map actions (after_action order maps action) parts.1 (keeps_map maps action parts.0 found)

  back : (maps : KeptMaps K V) (epoch : ℤ) → option_map (λ (back : KeptMaps K V). back.present) (reverted maps epoch) ≡ map_at maps epoch
  unfolding reverted
  back maps epoch =
      elim (map_at maps epoch) as (λ o. option_map (λ (back : KeptMaps K V). back.present) (option_map (λ (present : List (K × V)). record { kept = filter (λ (k : Kept K V). not (int_lt epoch k.epoch)) maps.kept; present = present; made = 0 }) o) ≡ o) [ None ↦ refl | Some present ↦ refl ]

  pub reverts_restore : (order : K → K → Ordering) (maps : KeptMaps K V) → RevertsRestore order maps
  reverts_restore order maps epoch map actions found h = back (after_actions order maps actions) epoch ∙ keep_map order epoch map actions maps h found
