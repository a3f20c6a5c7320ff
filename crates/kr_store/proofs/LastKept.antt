-- The last kept epoch is found under its number.
use Rattle.std.proofs.Common.{◌≡◌, ◌∙◌, ℕ, suc, ℤ, cond, List, [], ◌∷◌, length, refl, sym, ap, subst, arith}
use Rattle.std.specs.Prelude.{Option, Some, None, ◌-◌, find, option_map, slice_get}
use Rattle.std.specs.declared.cmp.Ordering.TheVariants.{Less}
use Rattle.std.specs.Ordering.{is_eq, int_cmp, int_eq}
use Rattle.std.specs.List.{AllByRecursion}
use Rattle.std.specs.List.Sorted.{IsStrictlySortedBy}
use Rattle.std.specs.Map.{keys_of}
use Rattle.kr_defs.specs.Image.{Image}
use Rattle.kr_defs.specs.Map.{IsMap}
use Rattle.kr_defs.proofs.IdLists.{id_itself}
use Rattle.kr_defs.proofs.Tests.{some_is}
use Rattle.kr_store.specs.declared.places.At.TheVariants as places
use Rattle.kr_store.specs.Images.{Images, AreValid, image_of_place, last_image, last_kept}

less_one : (n : ℕ) → suc n - 1 ≡ n
less_one n = omega arith

last_later : {X : Type 0} (x y : X) (xs : List X) → slice_get (x ∷ y ∷ xs) (length (x ∷ y ∷ xs) - 1) ≡ slice_get (y ∷ xs) (length (y ∷ xs) - 1)
last_later {X} x y xs = ap (slice_get (x ∷ y ∷ xs)) (less_one (suc (length xs))) ∙ sym (ap (slice_get (y ∷ xs)) (less_one (length xs)))

module _ {V : Type 0} where
  key_at_last : (P : ℤ → Type 0) (es : List (ℤ × V)) (k : ℤ × V) → AllByRecursion P (keys_of es) → slice_get es (length es - 1) ≡ Some k → P k.0
  key_at_last P [] k a last = absurd cc
  key_at_last P (x ∷ []) k a last = subst (λ (e : ℤ × V). P e.0) (some_is x k last) a.0
  key_at_last P (x ∷ y ∷ es) k a last = key_at_last P (y ∷ es) k a.1 (sym (last_later x y es) ∙ last)

  pub last_found : (es : List (ℤ × V)) (k : ℤ × V) → IsMap int_cmp es → slice_get es (length es - 1) ≡ Some k → find (λ (e : ℤ × V). int_eq e.0 k.0) es ≡ Some k
  unfolding IsStrictlySortedBy
  last_found [] k s last = absurd cc
  last_found (x ∷ []) k s last =
      let same = some_is x k last in
      ap (λ b. cond b (Some x) (find (λ (e : ℤ × V). int_eq e.0 k.0) [])) (ap (λ (e : ℤ × V). int_eq e.0 k.0) same ∙ id_itself k.0) ∙ last
  last_found (x ∷ y ∷ es) k s last =
      let later = sym (last_later x y es) ∙ last in
      let less = key_at_last (λ z. int_cmp x.0 z ≡ Less) (y ∷ es) k s.0 later in
      ap (λ b. cond b (Some x) (find (λ (e : ℤ × V). int_eq e.0 k.0) (y ∷ es))) (ap is_eq less) ∙ last_found (y ∷ es) k s.1 later

-- the image of the last kept epoch, where this is that epoch
pub record Last (images : Images) (epoch : ℤ) : Type 0 where
  pub image : Image
  pub found : image_of_place images (places.Epoch epoch) ≡ Some image
  pub last : last_image images ≡ Some image

last_of : (images : Images) (epoch : ℤ) (last : Option (ℤ × Image)) → AreValid images → last_kept images ≡ last → option_map (λ (k : ℤ × Image). k.0) last ≡ Some epoch → Last images epoch
last_of images epoch None valid is own = absurd cc
last_of images epoch (Some k) valid is own =
    record {
      image = k.1;
      found = subst (λ x. option_map (λ (k : ℤ × Image). k.1) (find (λ (e : ℤ × Image). int_eq e.0 x) images.kept) ≡ Some k.1) (some_is k.0 epoch own) (ap (option_map (λ (k : ℤ × Image). k.1)) (last_found images.kept k valid.rising is));
      last = ap (option_map (λ (k : ℤ × Image). k.1)) is;
    }

pub last_seen : (images : Images) (epoch : ℤ) → AreValid images → option_map (λ (k : ℤ × Image). k.0) (last_kept images) ≡ Some epoch → Last images epoch
last_seen images epoch valid own = last_of images epoch (last_kept images) valid refl own
