-- An image is kept, and no other is.
use Rattle.std.proofs.Common.{◌≡◌, ℕ, ℤ, true, false, cond, not, List, [], ◌∷◌, ◌++◌, sym, ap, subst, ◌∙◌, map, filter, arith}
use Rattle.std.specs.Prelude.{Option, int_lt, IsTrue}
use Rattle.std.specs.List.{AllByRecursion}
use Rattle.std.proofs.lemmas.Int.{ints}
use Rattle.std.proofs.lemmas.List.Elements.{recursion_from_All}
use Rattle.kr_defs.specs.Image.{Image}
use Rattle.kr_store.specs.Images.{Images, AreValid, IsAbove, forgotten, marked, oldest_unmade}

not_itself : (z : ℤ) → int_lt z z ≡ false
not_itself z = grind (arith, ints)

-- what stands under an epoch above all others is left alone by dropping those below it
none_below : {X : Type 0} (kept : List (ℤ × X)) (place : ℤ) (x : X) → AllByRecursion (λ z. int_lt z place ≡ true) (map (λ (k : ℤ × X). k.0) kept)
    → filter (λ (k : ℤ × X). not (int_lt k.0 place)) (kept ++ (place, x) ∷ []) ≡ (place, x) ∷ []
none_below [] place x all = ap (λ b. cond (not b) ((place, x) ∷ []) []) (not_itself place)
none_below {X} (k ∷ kept) place x all =
    ap (λ b. cond (not b) (k ∷ filter (λ (k : ℤ × X). not (int_lt k.0 place)) (kept ++ (place, x) ∷ [])) (filter (λ (k : ℤ × X). not (int_lt k.0 place)) (kept ++ (place, x) ∷ []))) all.0
    ∙ none_below kept place x all.1

keys : {X : Type 0} (P : ℤ → Type 0) (kept : List (ℤ × X)) → AllByRecursion (λ (k : ℤ × X). P k.0) kept → AllByRecursion P (map (λ (k : ℤ × X). k.0) kept)
keys P [] all = tt
keys P (k ∷ kept) all = (all.0, keys P kept all.1)

abbrev kept_with : Images → List (ℤ × Image) → List (ℤ × ℕ) → List (ℤ × Option ℤ) → Images
kept_with images kept kept_made kept_begun = record { kept = kept; tip = images.tip; made = 0; kept_made = oldest_unmade kept_made; begun = images.begun; kept_begun = kept_begun }

pub alone : (images : Images) (place : ℤ) → AreValid images → IsAbove images.kept place
    → forgotten (marked images place) place ≡ record { kept = (place, images.tip) ∷ []; tip = images.tip; made = 0; kept_made = (place, 0) ∷ []; begun = images.begun; kept_begun = (place, images.begun) ∷ [] }
alone images place valid above =
    let low : AllByRecursion (λ z. int_lt z place ≡ true) (map (λ (k : ℤ × Image). k.0) images.kept) = keys (λ z. int_lt z place ≡ true) images.kept (recursion_from_All (λ (k : ℤ × Image). IsTrue (int_lt k.0 place)) images.kept above) in
    let beside : AllByRecursion (λ z. int_lt z place ≡ true) (map (λ (m : ℤ × ℕ). m.0) images.kept_made) = subst (AllByRecursion (λ z. int_lt z place ≡ true)) (sym valid.beside) low in
    let begun : AllByRecursion (λ z. int_lt z place ≡ true) (map (λ (b : ℤ × Option ℤ). b.0) images.kept_begun) = subst (AllByRecursion (λ z. int_lt z place ≡ true)) (sym valid.begun.beside) low in
    let mades : List (ℤ × ℕ) = filter (λ (m : ℤ × ℕ). not (int_lt m.0 place)) (images.kept_made ++ (place, images.made) ∷ []) in
    let begins : List (ℤ × Option ℤ) = filter (λ (b : ℤ × Option ℤ). not (int_lt b.0 place)) (images.kept_begun ++ (place, images.begun) ∷ []) in
    ap (λ (ks : List (ℤ × Image)). kept_with images ks mades begins) (none_below images.kept place images.tip low)
    ∙ ap (λ (ms : List (ℤ × ℕ)). kept_with images ((place, images.tip) ∷ []) ms begins) (none_below images.kept_made place images.made beside)
    ∙ ap (λ (bs : List (ℤ × Option ℤ)). kept_with images ((place, images.tip) ∷ []) ((place, images.made) ∷ []) bs) (none_below images.kept_begun place images.begun begun)
