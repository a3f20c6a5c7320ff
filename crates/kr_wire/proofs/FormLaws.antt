-- What follows of bytes that stand for something: how many bytes are written for it, that it is short where they are few,
-- and that its numbers and texts are those of their types where each is below 256.
use Rattle.std.proofs.Common.{ℕ, ◌+◌, ◌*◌, ◌^◌, ◌<◌, ◌≤◌, Bool, List, length, sym, subst, ap, arith, lit≤}
use Rattle.std.specs.Prelude.{ℤ, FitsSigned}
use Rattle.std.specs.Int.{Width, w8, w16, w32, w64, w128, byte_len}
use Rattle.std.proofs.Math.Facts.{sfits_to_z}
use mir.Val.{bits, Fits}
use Rattle.kr_wire.specs.Laws.{IsBytes}
use Rattle.kr_wire.specs.Grammar.{◌⌢◌, Exactly, IsUvarint, IsNumber, IsSigned, IsBool, IsId, NoTags}
use Rattle.kr_wire.proofs.ReadingLaws.{IsBytes-before, IsBytes-behind}
use Rattle.kr_wire.proofs.Lengths.{some_uvarint, both_lengths}

-- At most n bytes for eight: a structure has at most eight tagged fields that are written, and each of them is no longer than
-- all that were read.
pub record Follows (Is : List ℕ → Type 0) (n : ℕ) (Short Held : Type 0) : Type 0 where
  pub cost : (bytes : List ℕ) → Is bytes → n ≤ 8 * length bytes
  pub short : (bytes : List ℕ) → Is bytes → length bytes < 2 ^ 31 → Short
  pub held : (bytes : List ℕ) → Is bytes → IsBytes bytes → Held

pub free : {Is : List ℕ → Type 0} → Follows Is 0 (Unit {0}) (Unit {0})
free = record { cost = λ bytes is. omega arith; short = λ bytes is few. tt; held = λ bytes is fit. tt }

-- one part after the other
infixr 6 ◌beside◌
pub ◌beside◌ : {First Second : List ℕ → Type 0} {m n : ℕ} {P Q R S : Type 0} → Follows First m P Q → Follows Second n R S → Follows (First ⌢ Second) (m + n) (P × R) (Q × S)
first beside second = record {
  cost = λ bytes is. omega (arith, first.cost is.left is.first, second.cost is.right is.second, both_lengths bytes is);
  short = λ bytes is few.
      let left : length is.left < 2 ^ 31 = omega (arith, both_lengths bytes is) in
      let right : length is.right < 2 ^ 31 = omega (arith, both_lengths bytes is) in
      (first.short is.left is.first left, second.short is.right is.second right);
  held = λ bytes is fit. (first.held is.left is.first (IsBytes-before is.left is.right bytes is.is fit), second.held is.right is.second (IsBytes-behind is.left is.right bytes is.is fit));
}

pub then : {Is : List ℕ → Type 0} {m n : ℕ} {P Q R S : Type 0} → Follows Is m P Q → n ≤ m → (P → R) → (Q → S) → Follows Is n R S
then follows le short held = record {
  cost = λ bytes is. omega (arith, follows.cost bytes is);
  short = λ bytes is few. short (follows.short bytes is few);
  held = λ bytes is fit. held (follows.held bytes is fit);
}

-- ---- numbers

number_below : (w : Width) (n : ℕ) (bytes : List ℕ) → bits w ≤ 64 → IsNumber w n bytes → IsBytes bytes → n < 2 ^ bits w
number_below w8 n bytes few is fit = omega (arith, is.spelled, fit 0)
number_below w16 n bytes few is fit = omega (arith, is.spelled, fit 0, fit 1)
number_below w32 n bytes few is fit = omega (arith, is.spelled, fit 0, fit 1, fit 2, fit 3)
number_below w64 n bytes few is fit = omega (arith, is.spelled, fit 0, fit 1, fit 2, fit 3, fit 4, fit 5, fit 6, fit 7)
number_below w128 n bytes few is fit = absurd (omega arith)

pub number : (w : Width) (n : ℕ) → bits w ≤ 64 → Follows (IsNumber w n) (8 * byte_len w) (Unit {0}) (n < 2 ^ bits w)
number w n few = record {
  cost = λ bytes is. omega (arith, is.long);
  short = λ bytes is few. tt;
  held = λ bytes is fit. number_below w n bytes few is fit;
}

pub signed : (w : Width) (n : ℤ) → bits w ≤ 64 → Follows (IsSigned w n) (8 * byte_len w) (Unit {0}) (FitsSigned w n)
signed w n few = record {
  cost = λ bytes is. omega (arith, is.spelled.long);
  short = λ bytes is few. tt;
  held = λ bytes is fit.
      let below : Fits w is.bits = record { fits = number_below w is.bits bytes few is.spelled fit } in
      subst (FitsSigned w) (sym is.signed) (sfits_to_z below);
}

pub id : (n : ℕ) → Follows (IsId n) 128 (Unit {0}) (n < 2 ^ 128)
id n = record {
  cost = λ bytes is. (number w64 is.high (lit≤ tt) beside number w64 is.low (lit≤ tt)).cost bytes is.spelled;
  short = λ bytes is few. tt;
  held = λ bytes is fit.
      let p = (number w64 is.high (lit≤ tt) beside number w64 is.low (lit≤ tt)).held bytes is.spelled fit in
      omega (arith, is.whole, p.0, p.1);
}

pub bool : (b : Bool) → Follows (IsBool b) 8 (Unit {0}) (Unit {0})
bool b = record { cost = λ bytes is. omega (arith, is.spelled.long); short = λ bytes is few. tt; held = λ bytes is fit. tt }

pub uvarint : (n : ℕ) → Follows (IsUvarint n) 8 (Unit {0}) (Unit {0})
uvarint n = record { cost = λ bytes is. omega (arith, some_uvarint n bytes is); short = λ bytes is few. tt; held = λ bytes is fit. tt }

pub no_tags : Follows NoTags 8 (Unit {0}) (Unit {0})
no_tags = record { cost = λ bytes is. (uvarint (length is.fields) beside free).cost bytes is.spelled; short = λ bytes is few. tt; held = λ bytes is fit. tt }

pub exactly : (piece : List ℕ) → Follows (Exactly piece) (8 * length piece) (length piece < 2 ^ 31) (IsBytes piece)
exactly piece = record {
  cost = λ bytes is. omega (arith, ap (λ (l : List ℕ). length l) is);
  short = λ bytes is few. subst (λ (l : List ℕ). length l < 2 ^ 31) is few;
  held = λ bytes is fit. subst IsBytes is fit;
}
