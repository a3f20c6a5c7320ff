-- Images that are looked at are there, and are valid.
use Rattle.std.proofs.Common.{◌≡◌, ℤ, Bool, true, false, cond, List, [], ◌∷◌}
use Rattle.std.specs.Prelude.{Option, Some, None, IsSome, MatchOption, find, unwrap_or}
use Rattle.std.specs.List.{AllByRecursion}
use Rattle.std.specs.Option.{option_map}
use Rattle.std.specs.Ordering.{int_eq}
use Rattle.std.proofs.lemmas.List.Elements.{recursion_from_All}
use Rattle.kr_defs.specs.Image.{Image, IsValid, empty}
use Rattle.kr_store.specs.declared.places.At.{At}
use Rattle.kr_store.specs.declared.places.At.TheVariants as places
use Rattle.kr_store.specs.Images.{Images, AreValid}
use Rattle.kr_store.specs.Reads.{seen_at}

found_valid : (test : ℤ × Image → Bool) (kept : List (ℤ × Image)) → IsValid empty → AllByRecursion (λ (k : ℤ × Image). IsValid k.1) kept → IsValid (unwrap_or (option_map (λ (k : ℤ × Image). k.1) (find test kept)) empty)
found_valid test [] none all = none
found_valid test (k ∷ kept) none all =
    elim (test k) as (λ b. IsValid (unwrap_or (option_map (λ (k : ℤ × Image). k.1) (cond b (Some k) (find test kept))) empty)) [
      | true ↦ all.0
      | false ↦ found_valid test kept none all.1
    ]

pub seen_valid : (images : Images) (place : At) → IsValid empty → AreValid images → IsValid (seen_at images place)
seen_valid images places.Tip none valid = valid.tip
seen_valid images (places.Epoch epoch) none valid = found_valid (λ (k : ℤ × Image). int_eq k.0 epoch) images.kept none (recursion_from_All (λ (k : ℤ × Image). IsValid k.1) images.kept valid.kept)

-- a look-up that answers at a place looked at an image
pub is_there : (place : Option Image) (Answer : Image → Type 0) → MatchOption place (false ≡ true) Answer → IsSome place
is_there None Answer answered = absurd cc
is_there (Some image) Answer answered = search
