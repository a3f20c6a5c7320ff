-- What is kept under the place of the next record, and behind more records.
use Rattle.std.proofs.Common.{◌≡◌, ℤ, ℕ, ◌-◌, true, false, ◌&&◌, ◌||◌, cond, List, [], ◌∷◌, ◌++◌, refl, sym, ap, subst, ◌∙◌, map, filter, length, arith}
use Rattle.std.specs.Prelude.{Some, None, IsSome, IsTrue, int_lt, not, pos, get_or, slice_get, unwrap_or}
use Rattle.std.specs.Option.{option_map}
use Rattle.std.specs.Ordering.{int_eq}
use Rattle.std.proofs.lemmas.Int.{ints}
use Rattle.std.proofs.lemmas.Bool.{and_parts}
use Rattle.std.proofs.lemmas.Bool.Decides.{Decides-int_eq}
use Rattle.kr_defs.specs.declared.basis.Stopping.{Stopping}
use Rattle.kr_defs.specs.Heartbeats.{Heartbeats, stopping_brokers}
use Rattle.kr_defs.specs.Ids.{has}
use Rattle.kr_defs.specs.Image.{Image, empty}
use Rattle.kr_defs.proofs.Tests.{some_is}
use Rattle.kr_calls.specs.NextBasis.{broker_is_stopping}
use Rattle.kr_store.specs.Images.{Images, IsAbove, no_images, marked, forgotten, last_kept, last_image}
use Rattle.testlib_rule_answers.specs.Histories.{AreEpochs}
use Rattle.testlib_rule_answers.proofs.EpochRows.{is_above, some_kept}
use Rattle.kr_rules.specs.Progress.{base_of}
use Rattle.test_requests.specs.StoppingBrokers.{are_stopping}

not_below : (x : ℤ) → int_lt x x ≡ false
not_below x = elim (int_lt x x) as (λ b. int_lt x x ≡ b → b ≡ false) [ true ↦ λ is. grind (arith, ints) | false ↦ λ is. refl ] refl

-- the empty image at the first place
pub epochs_begun : (images : Images) → images ≡ marked no_images (pos 0) → AreEpochs images.kept (pos 0 ∷ [])
epochs_begun images is = ap (λ (i : Images). map (λ (k : ℤ × Image). k.0) i.kept) is

pub epochs_same : (images after : Images) (epochs : List ℤ) → AreEpochs images.kept epochs → after.kept ≡ images.kept → AreEpochs after.kept epochs
epochs_same images after epochs are same = ap (λ (ks : List (ℤ × Image)). map (λ (k : ℤ × Image). k.0) ks) same ∙ are

pub one_is_kept : (images : Images) (place : ℤ) → AreEpochs images.kept (place ∷ []) → IsSome (last_kept images)
one_is_kept images place are = some_kept images (place ∷ []) are refl

pub is_above_place : (images : Images) (place next : ℤ) → AreEpochs images.kept (place ∷ []) → IsTrue (int_lt place next) → IsAbove images.kept next
is_above_place images place next are less = is_above images.kept (place ∷ []) are next (ap (λ b. b && true) less)

first_is : (k : ℤ × Image) (place : ℤ) → AreEpochs (k ∷ []) (place ∷ []) → k.0 ≡ place
first_is k place are = ap (λ (es : List ℤ). get_or es 0 (pos 0)) are

-- of the kept image and one at a later place the later is left
later : (kept : List (ℤ × Image)) (tip : Image) (place next : ℤ) → AreEpochs kept (place ∷ []) → int_lt place next ≡ true
    → filter (λ (k : ℤ × Image). not (int_lt k.0 next)) (kept ++ (next, tip) ∷ []) ≡ (next, tip) ∷ []
later [] tip place next are less = absurd cc
later (k ∷ j ∷ ks) tip place next are less = absurd cc
later (k ∷ []) tip place next are less =
    let first : int_lt k.0 next ≡ true = ap (λ e. int_lt e next) (first_is k place are) ∙ less in
    let rest : List (ℤ × Image) = cond (not (int_lt next next)) ((next, tip) ∷ []) [] in
    ap (λ b. cond (not b) (k ∷ rest) rest) first ∙ ap (λ b. cond (not b) ((next, tip) ∷ []) []) (not_below next)

pub epochs_on : (images after : Images) (place next : ℤ) → AreEpochs images.kept (place ∷ []) → IsTrue (int_lt place next)
    → after ≡ forgotten (marked images next) next → AreEpochs after.kept (next ∷ [])
epochs_on images after place next are less is =
    ap (λ (i : Images). map (λ (k : ℤ × Image). k.0) i.kept) is
    ∙ ap (λ (ks : List (ℤ × Image)). map (λ (k : ℤ × Image). k.0) ks) (later images.kept images.tip place next are less)

last_one : (kept : List (ℤ × Image)) (place : ℤ) (tip : Image) → AreEpochs kept (place ∷ [])
    → option_map (λ (k : ℤ × Image). k.1) (slice_get kept (length kept - 1)) ≡ Some tip → slice_get kept (length kept - 1) ≡ Some (place, tip)
last_one [] place tip are is = absurd cc
last_one (k ∷ j ∷ ks) place tip are is = absurd cc
last_one (k ∷ []) place tip are is = ap (λ p. Some (p, k.1)) (first_is k place are) ∙ ap (λ (t : Image). Some (place, t)) (some_is _ _ is)

-- gone back to the one kept image
pub last_after : (images after : Images) (place : ℤ) → AreEpochs images.kept (place ∷ []) → last_image images ≡ Some after.tip → after.kept ≡ images.kept
    → last_kept after ≡ Some (place, after.tip)
last_after images after place are is same = ap (λ (ks : List (ℤ × Image)). slice_get ks (length ks - 1)) same ∙ last_one images.kept place after.tip are is

last_of_one : (kept : List (ℤ × Image)) (images : Images) (place : ℤ) → AreEpochs kept (place ∷ [])
    → last_kept (record images { kept = kept }) ≡ Some (place, base_of (record images { kept = kept }))
last_of_one [] images place are = absurd cc
last_of_one (k ∷ j ∷ ks) images place are = absurd cc
last_of_one (k ∷ []) images place are = ap (λ p. Some (p, k.1)) (first_is k place are)

-- the image that is kept under the place is where a request begins
last_of : (images : Images) (place : ℤ) → AreEpochs images.kept (place ∷ []) → last_kept images ≡ Some (place, base_of images)
last_of images place are = last_of_one images.kept images place are

pub last_place : (images : Images) (place : ℤ) → AreEpochs images.kept (place ∷ []) → option_map (λ (e : ℤ × Image). e.0) (last_kept images) ≡ Some place
last_place images place are = ap (option_map (λ (e : ℤ × Image). e.0)) (last_of images place are)

pub base_seen : (images : Images) (seen : Image) → last_image images ≡ Some seen → seen ≡ base_of images
base_seen images seen is = sym (ap (λ o. unwrap_or o empty) is)

stopping_among : (image : Image) (stops : List Stopping) → are_stopping image stops ≡ true
    → (id : ℤ) → has (map (λ s. s.broker) stops) id ≡ true → broker_is_stopping image id ≡ true
stopping_among image [] all id is = absurd cc
stopping_among image (s ∷ ss) all id is =
    let parts = and_parts (broker_is_stopping image s.broker) (are_stopping image ss) all in
    elim (int_eq s.broker id) as (λ b. int_eq s.broker id ≡ b → broker_is_stopping image id ≡ true) [
      | true ↦ λ same. subst (λ x. broker_is_stopping image x ≡ true) ((Decides-int_eq s.broker id).0 same) parts.0
      | false ↦ λ other. stopping_among image ss parts.1 id (sym (ap (λ b. b || has (map (λ t. t.broker) ss) id) other) ∙ is)
    ] refl

pub all_stopping : (image : Image) (h : Heartbeats) → are_stopping image h.stopping ≡ true
    → (id : ℤ) → IsTrue (has (stopping_brokers h) id) → IsTrue (broker_is_stopping image id)
all_stopping image h all id is = stopping_among image h.stopping all id is

pub ruleset leading = (epochs_same, one_is_kept, last_after)

pub ruleset advancing = (is_above_place, epochs_on)

pub ruleset hearing = (last_place, base_seen, all_stopping)
