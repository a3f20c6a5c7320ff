-- The images that an engine keeps are valid, and stand under rising places.
use Rattle.std.proofs.Common.{◌≡◌, sym, subst, ℕ, ℤ, pos, ◌<◌, List, [], ◌∷◌, ◌++◌, map, arith}
use Rattle.std.proofs.lemmas.Int.{ints}
use Rattle.std.proofs.lemmas.List.Elements.{All-from_recursion}
use Rattle.std.specs.Prelude.{All, Ok}
use Rattle.std.specs.declared.cmp.Ordering.TheVariants.{Less}
use Rattle.std.specs.Cmp.{int_cmp_is}
use Rattle.std.specs.List.{AllByRecursion}
use Rattle.std.specs.List.Sorted.{IsStrictlySortedBy}
use Rattle.std.specs.Ordering.{int_cmp}
use Rattle.kr_defs.specs.Image.{Image, IsValid}
use Rattle.kr_defs.specs.Log.{Log, image_at, tip}
use Rattle.kr_defs.proofs.Logs.{valid_at}
use Rattle.kr_model.specs.Engine.{Rise, kept_image, kept_places}
use Rattle.kr_model.specs.World.{closed_of, seen_at, tip_of}
use Rattle.kr_model.proofs.KeptImages.{seen_below}
use Rattle.kr_model.proofs.StandingEngines.{places_rise}
use Rattle.law_invariants.specs.WorldLaws.{KeptAreValid}

-- ---- places

abbrev places : List (ℤ × Image) → List ℤ
places kept = map (λ (k : ℤ × Image). k.0) kept

is_less : (m n : ℕ) → m < n → int_cmp (pos m) (pos n) ≡ Less
is_less m n less = sym (int_cmp_is (pos m) (pos n) Less (omega (arith, ints, less)))

module _ (log : Log) (to : ℕ) where
  all_higher : (least from : ℕ) (ns : List ℕ) → least < from → Rise from ns to → AllByRecursion (λ place. int_cmp (pos least) place ≡ Less) (places (map (kept_image log) (from ∷ ns)))
  all_higher least from [] low rise = (is_less least from low, tt)
  all_higher least from (n ∷ ns) low rise = (is_less least from low, all_higher least n ns (let up = rise.0 in omega (arith, low, up)) rise.1)

  rising : (from : ℕ) (ns : List ℕ) → Rise from ns to → IsStrictlySortedBy int_cmp (places (map (kept_image log) (from ∷ ns)))
  unfolding IsStrictlySortedBy
  rising from [] rise = (tt, tt)
  rising from (n ∷ ns) rise = (all_higher from n ns rise.0 rise.1, rising n ns rise.1)

-- ---- images

module _ (log : Log) (image : Image) (valid : IsValid log.image) (shows : image_at log (tip log) ≡ Ok image) where
  all_valid : (ns : List ℕ) → AllByRecursion (λ (k : ℤ × Image). IsValid k.1) (map (kept_image log) ns)
  all_valid [] = tt
  all_valid (n ∷ ns) = (valid_at log n valid (seen_at log n) (seen_below log n image shows), all_valid ns)

pub kept_are_valid : KeptAreValid
kept_are_valid e s writes k =
    let log = s.world.log in
    let valid = k.is_state.valid in
    let ns = kept_places s.world in
    let kept : List (ℤ × Image) = map (kept_image log) ns in (
      subst (All (λ (k : ℤ × Image). IsValid k.1)) (sym k.kept) (All-from_recursion (λ (k : ℤ × Image). IsValid k.1) kept (all_valid log e.images.tip valid k.present ns)),
      valid_at log (tip_of s) valid e.images.tip k.present,
      subst (λ (those : List (ℤ × Image)). IsStrictlySortedBy int_cmp (places those)) (sym k.kept) (rising log (tip_of s) (closed_of s.world) (s.world.covered ++ s.world.batch_ends) (places_rise e s writes k)),
    )
