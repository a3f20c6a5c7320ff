-- No form of a value begins a form of another: parts one after the other, lists, and all layouts.
use Rattle.std.proofs.Common.{◌≡◌, ℕ, ◌+◌, List, [], ◌∷◌, ◌++◌, length, append_assoc, None, Some, refl, sym, ap, ◌∙◌, arith}
use Rattle.std.specs.Int.{w8, w16, w32, w64}
use Rattle.kr_wire.specs.Grammar.{◌⌢◌, IsUvarint, Each, IsList, IsListOrNull}
use Rattle.kr_wire.specs.Laws.{Apart, IsWritten}
use Rattle.kr_wire.specs.Schema.{Schema, Int8, Int16, Int32, Int64, Uint16, Boolean, Uuid, Text, TextOrNull, End, Array, ArrayOrNull, ◌▸◌, Dropped, Constant, Structure, Is, written, Fits}
use Rattle.kr_wire.proofs.ReadingLaws.{one_form}
use Rattle.kr_wire.proofs.Numbers.{number_law, signed_law, bool_law, id_law, text_law, text_or_null_law, uvarint_law}
use Rattle.kr_wire.proofs.Tags.{no_tags_law}
use Rattle.kr_wire.proofs.Schemas.{stands}

-- ---- one after the other

regrouped : (a b l m r u s t : List ℕ) → a ≡ l ++ r → b ≡ m ++ u → a ++ s ≡ b ++ t → l ++ (r ++ s) ≡ m ++ (u ++ t)
regrouped a b l m r u s t first second same =
    sym (append_assoc l r s) ∙ (ap (λ (x : List ℕ). x ++ s) (sym first) ∙ (same ∙ (ap (λ (x : List ℕ). x ++ t) second ∙ append_assoc m u t)))

-- the values of the first parts are the same, and so is what is behind them
pub first_apart : {X : Type 0} {One : X → List ℕ → Type 0} → Apart One → (x y : X) (A B : List ℕ → Type 0) (a b s t : List ℕ) (j : (One x ⌢ A) a) (k : (One y ⌢ B) b) → a ++ s ≡ b ++ t
    → (x ≡ y) × (j.right ++ s ≡ k.right ++ t)
first_apart one x y A B a b s t j k same =
    one x y j.left k.left (j.right ++ s) (k.right ++ t) j.first k.first (regrouped a b j.left k.left j.right k.right s t j.is k.is same)

pub joined_apart : {X Y : Type 0} {A : X → List ℕ → Type 0} {B : Y → List ℕ → Type 0} → Apart A → Apart B → Apart (λ (v : X × Y). A v.0 ⌢ B v.1)
joined_apart {X} {Y} {A} {B} one other v w a b s t j k same =
    let f = first_apart one v.0 w.0 (B v.1) (B w.1) a b s t j k same in
    let g = other v.1 w.1 j.right k.right s t j.second k.second f.1 in
    let both : (v.0, v.1) ≡ (w.0, w.1) = rw (f.0, g.0) refl in
    (both, g.1)

-- ---- lists

module _ {X : Type 0} {One : X → List ℕ → Type 0} (one : Apart One) where
  each_apart : (xs ys : List X) (a b s t : List ℕ) → length xs ≡ length ys → Each One xs a → Each One ys b → a ++ s ≡ b ++ t → (xs ≡ ys) × (s ≡ t)
  each_apart [] [] a b s t long first second same = (refl, sym (ap (λ (l : List ℕ). l ++ s) first) ∙ (same ∙ ap (λ (l : List ℕ). l ++ t) second))
  each_apart [] (y ∷ ys) a b s t long first second same = absurd (omega (arith, long))
  each_apart (x ∷ xs) [] a b s t long first second same = absurd (omega (arith, long))
  each_apart (x ∷ xs) (y ∷ ys) a b s t long j k same =
      let f = first_apart one x y (Each One xs) (Each One ys) a b s t j k same in
      let shorter : length xs ≡ length ys = omega (arith, long) in
      let g = each_apart xs ys j.right k.right s t shorter j.second k.second f.1 in
      let both : x ∷ xs ≡ y ∷ ys = rw (f.0, g.0) refl in
      (both, g.1)

  pub list_apart : Apart (IsList One)
  list_apart xs ys a b s t j k same =
      let f = first_apart (one_form uvarint_law) (length xs + 1) (length ys + 1) (Each One xs) (Each One ys) a b s t j k same in
      let long : length xs ≡ length ys = let e = f.0 in omega (arith, e) in
      each_apart xs ys j.right k.right s t long j.second k.second f.1

  -- a null isn't the count of a list
  never_null : (n : ℕ) (A : List ℕ → Type 0) (a b s t : List ℕ) → IsUvarint 0 a → (IsUvarint (n + 1) ⌢ A) b → a ++ s ≡ b ++ t → ⊥
  never_null n A a b s t null j same =
      let e = (one_form uvarint_law 0 (n + 1) a j.left s (j.right ++ t) null j.first (same ∙ (ap (λ (l : List ℕ). l ++ t) j.is ∙ append_assoc j.left j.right t))).0 in
      omega (arith, e)

  pub list_or_null_apart : Apart (IsListOrNull One)
  list_or_null_apart None None a b s t null other same = (refl, (one_form uvarint_law 0 0 a b s t null other same).1)
  list_or_null_apart None (Some ys) a b s t null k same = absurd (never_null (length ys) (Each One ys) a b s t null k same)
  list_or_null_apart (Some xs) None a b s t j null same = absurd (never_null (length xs) (Each One xs) b a t s null j (sym same))
  list_or_null_apart (Some xs) (Some ys) a b s t j k same = let f = list_apart xs ys a b s t j k same in (ap (λ (l : List X). Some l) f.0, f.1)

-- ---- all layouts

pub apart : {X : Type 0} (s : Schema X) → Apart (Is s)
apart Int8 = one_form (signed_law w8)
apart Int16 = one_form (signed_law w16)
apart Int32 = one_form (signed_law w32)
apart Int64 = one_form (signed_law w64)
apart Uint16 = one_form (number_law w16)
apart Boolean = one_form bool_law
apart Uuid = one_form id_law
apart Text = one_form text_law
apart TextOrNull = one_form text_or_null_law
apart End = one_form no_tags_law
apart (Array s) = list_apart (apart s)
apart (ArrayOrNull s) = list_or_null_apart (apart s)
apart (a ▸ b) = joined_apart (apart a) (apart b)
apart (Dropped s) = λ x y a b t u is other same. (refl, (apart s is.value other.value a b t u is.spelled other.spelled same).1)
apart (Constant c s) = λ x y a b t u is other same. (refl, (apart s c c a b t u is other same).1)
apart (Structure s of fields there back) = λ x y a b t u is other same.
    let f = apart s (fields x) (fields y) a b t u is other same in
    (sym (back x) ∙ (ap of f.0 ∙ back y), f.1)

-- what is written tells the value
pub written_once : {X : Type 0} {Is : X → List ℕ → Type 0} {write : X → List ℕ} {Fits : X → Type 0} → ((x : X) → Fits x → Is x (write x)) → Apart Is → IsWritten Is write Fits
written_once {X} {Is} {write} {Fits} stands apart = record {
  stands = stands;
  apart = apart;
  once = λ x y s t fits other same. apart x y (write x) (write y) s t (stands x fits) (stands y other) same;
}

pub is_written : {X : Type 0} (s : Schema X) → IsWritten (Is s) (written s) (Fits s)
is_written s = written_once (stands s) (apart s)
