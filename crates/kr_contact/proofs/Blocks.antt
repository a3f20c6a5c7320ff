-- What the walks of this crate share: where the values of a block lie, and one of them as a `&` to the block sees it.
use mathlib.Core.Path.{◌≡◌, sym, ap, subst, ◌∙◌}
use Prim.Native.Nat.{ℕ, zero, suc, ◌+◌, ◌-◌, ◌*◌, ◌<◌}
use native.Mathlib.Omega.{arith}
use Rattle.std.specs.Prelude.{◌/◌}
use native.Mathlib.Nat.{not-suc-le-zero, le_of_suc-le-suc}
use mathlib.Core.List.{List, [], ◌∷◌}
use lib.ListN.{length, get_or}
use seplogic.Ra.Ura.{Ura}
use base.Logic.{ent, via, fst∗, snd∗}
use base.Fml.{Lft}
use types.Logic.{Logic, sem}
use denote.RattleType.{RattleType}
use denote.Memory.{mem, shared_of}
use denote.Slice.{elements_shared}
use denote.Index.{place}
use denote.RawPtr.{Ptr, block_ptr}
use Rattle.std.specs.Mem.{type_size}
use Rattle.std.proofs.Math.Nat.{mul-div_cancel}
use Rattle.kr_contact.specs.Places.{IsPlaceOf}

module _ (R : RattleType) {M : Type 1} {𝓤 : Ura M} (𝓛 : Logic 𝓤) (κ : Lft) (b : ℕ) (d : R.Denot) where
  -- a `&` to all values is one to the i-th
  pub seen : (xs : List R.Denot) (i o : ℕ) → i < length xs → ent 𝓤 (sem 𝓛 (elements_shared R xs b o κ)) (sem 𝓛 (shared_of R (get_or xs i d) b (place (mem R).size o i) κ))
  seen [] i o lt = absurd (not-suc-le-zero lt)
  seen (x ∷ xs) zero o lt = fst∗ 𝓤 (sem 𝓛 (shared_of R x b o κ)) (sem 𝓛 (elements_shared R xs b (o + (mem R).size) κ))
  seen (x ∷ xs) (suc i) o lt =
      via 𝓤 (sem 𝓛 (elements_shared R xs b (o + (mem R).size) κ)) (snd∗ 𝓤 (sem 𝓛 (shared_of R x b o κ)) (sem 𝓛 (elements_shared R xs b (o + (mem R).size) κ)))
      (seen xs i (o + (mem R).size) (le_of_suc-le-suc lt))

-- so many values on from the first lies the one of that index
pub nth_place : (R : RattleType) (first : Ptr) (b o i n : ℕ) → first ≡ block_ptr b o → i < n → 0 < type_size R → IsPlaceOf R first n (block_ptr b (i * type_size R + o)) i
nth_place R first b o i n lies within sized =
    let s : ℕ = type_size R in
    let past : (i * s + o) - o ≡ i * s = omega arith in
    let back : ((i * s + o) - o) / s ≡ i = ap (λ k. k / s) past ∙ mul-div_cancel i sized in
    subst (λ (p : Ptr). IsPlaceOf R p n (block_ptr b (i * s + o)) i) (sym lies) ((ap (λ k. block_ptr b (k * s + o)) (sym back), subst (λ k. k < n) (sym back) within), back)
