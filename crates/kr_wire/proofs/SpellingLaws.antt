-- What is written of something: how many bytes it has where texts and lists are short, and that it stands for it and is bytes
-- where the numbers and the texts are those of their types. And what follows of bytes that stand for it.
use Rattle.std.proofs.Common.{◌≡◌, ℕ, ◌+◌, ◌*◌, ◌^◌, ◌<◌, ◌≤◌, List, [], ◌∷◌, ◌++◌, length, sym, subst, ◌∙◌, refl, ap, arith, lit≤, lit<}
use Rattle.std.specs.Prelude.{ℤ, Bool, All, FitsSigned, IsUtf8}
use Rattle.std.specs.List.{flat_map, sum_by}
use Rattle.std.specs.Int.{Width, w32, byte_len}
use mir.Val.{bits}
use Rattle.std.proofs.lemmas.List.{length-append}
use Rattle.std.proofs.lemmas.List.Elements.{All-nil, All-cons, All-head, All-tail}
use Rattle.std.proofs.lemmas.List.Sums.{sum_by-cons}
use Rattle.kr_wire.specs.Grammar.{◌⌢◌, Exactly, IsUvarint, IsNumber, IsSigned, IsBool, IsId, IsText, Each, IsList, NoTags}
use Rattle.kr_wire.specs.Spelling as written
use Rattle.kr_wire.specs.Laws.{IsBytes}
use Rattle.kr_wire.proofs.FormLaws as follows
use Rattle.kr_wire.proofs.FormLaws.{Follows, ◌beside◌, free, then}
use Rattle.kr_wire.proofs.ReadingLaws.{joined}
use Rattle.kr_wire.proofs.Lengths.{uvarint_bytes, length_uvarint, length_number, length_signed, length_id, length_bool, uvarint_one, uvarint_least, both_lengths, each_long}
use Rattle.kr_wire.proofs.WrittenForms.{uvarint_spelled, number_spelled, signed_spelled, bool_spelled, id_spelled, text_spelled, no_tags_spelled}
use Rattle.kr_wire.proofs.WrittenBytes.{OfBytes, ◌and◌, none_fits, number_fits, signed_fits, bool_fits, id_fits, uvarint_fits, utf8_fits, tags_fits}

-- what is written of it, in n bytes, and what follows of bytes that stood for it, at least m for eight
pub record Form (Is Was : List ℕ → Type 0) (bytes : List ℕ) (n m : ℕ) (Short Held : Type 0) : Type 0 where
  pub size : Short → length bytes ≡ n
  pub stands : Short → Held → Is bytes
  pub fits : Short → Held → OfBytes bytes
  pub follows : Follows Was m Short Held

-- of what is the same in each version
abbrev pub Plain : (List ℕ → Type 0) → List ℕ → ℕ → Type 0 → Type 0 → Type 0
Plain Is bytes n Short Held = Form Is Is bytes n (8 * n) Short Held

-- one part after the other
infixr 6 ◌plus◌
pub ◌plus◌ : {First Second Third Fourth : List ℕ → Type 0} {a b : List ℕ} {k l m n : ℕ} {P Q R S : Type 0} → Form First Third a k l P Q → Form Second Fourth b m n R S
    → Form (First ⌢ Second) (Third ⌢ Fourth) (a ++ b) (k + m) (l + n) (P × R) (Q × S)
◌plus◌ {First} {Second} {Third} {Fourth} {a} {b} first second = record {
  size = λ p. omega (arith, length-append a b, first.size p.0, second.size p.1);
  stands = λ p q. joined a b (first.stands p.0 q.0) (second.stands p.1 q.1);
  fits = λ p q. first.fits p.0 q.0 and second.fits p.1 q.1;
  follows = first.follows beside second.follows;
}

-- the same in other words
pub form : {Is Was : List ℕ → Type 0} {a b : List ℕ} {k l m n : ℕ} {P Q R S : Type 0} → Form Is Was a k l P Q → a ≡ b → k ≡ m → n ≤ l → (P → R) → (R → P) → (Q → S) → (S → Q) → Form Is Was b m n R S
form {Is} part same long most into outof inside outside = record {
  size = λ r. ap (λ (l : List ℕ). length l) (sym same) ∙ part.size (outof r) ∙ long;
  stands = λ r s. subst Is same (part.stands (outof r) (outside s));
  fits = λ r s. subst OfBytes same (part.fits (outof r) (outside s));
  follows = then part.follows most into inside;
}

-- ---- numbers

pub number : (w : Width) (n : ℕ) → bits w ≤ 64 → Plain (IsNumber w n) (written.number w n) (byte_len w) (Unit {0}) (n < 2 ^ bits w)
number w n few = record { size = λ p. length_number w n; stands = λ p q. number_spelled w n few q; fits = λ p q. number_fits w n; follows = follows.number w n few }

pub signed : (w : Width) (n : ℤ) → bits w ≤ 64 → Plain (IsSigned w n) (written.signed w n) (byte_len w) (Unit {0}) (FitsSigned w n)
signed w n few = record { size = λ p. length_signed w n; stands = λ p q. signed_spelled w n few q; fits = λ p q. signed_fits w n; follows = follows.signed w n few }

pub id : (n : ℕ) → Plain (IsId n) (written.id n) 16 (Unit {0}) (n < 2 ^ 128)
id n = record { size = λ p. length_id n; stands = λ p q. id_spelled n q; fits = λ p q. id_fits n; follows = follows.id n }

pub bool : (b : Bool) → Plain (IsBool b) (written.bool b) 1 (Unit {0}) (Unit {0})
bool b = record { size = λ p. length_bool b; stands = λ p q. bool_spelled b; fits = λ p q. bool_fits b; follows = follows.bool b }

-- a number of one byte, and a number that was read
pub small : (n was : ℕ) → n < 128 → Form (IsUvarint n) (IsUvarint was) (written.uvarint n) 1 8 (Unit {0}) (Unit {0})
small n was low = record { size = λ p. uvarint_one n low; stands = λ p q. uvarint_spelled n (omega arith); fits = λ p q. uvarint_fits n (omega arith); follows = follows.uvarint was }

pub no_tags : Plain NoTags (written.tags []) 1 (Unit {0}) (Unit {0})
unfolding written.uvarint
no_tags = record { size = λ p. refl; stands = λ p q. no_tags_spelled; fits = λ p q. tags_fits [] (lit< tt) tt; follows = follows.no_tags }

-- ---- texts and lists

-- a count, and what is counted
counted : {Is : List ℕ → Type 0} {bytes : List ℕ} {n : ℕ} {P Q : Type 0} (m : ℕ) → ((b : List ℕ) → Is b → m ≤ length b) → Plain Is bytes n P Q
    → Plain (IsUvarint (m + 1) ⌢ Is) (written.count m ++ bytes) (uvarint_bytes (m + 1) + n) ((m < 2 ^ 31) × P) Q
counted {Is} {bytes} m some part = record {
  size = λ p. let few = p.0 in omega (arith, length-append (written.count m) bytes, length_uvarint (m + 1) (omega arith), part.size p.1);
  stands = λ p q. let few = p.0 in joined _ _ (uvarint_spelled (m + 1) (omega arith)) (part.stands p.1 q);
  fits = λ p q. let few = p.0 in uvarint_fits (m + 1) (omega arith) and part.fits p.1 q;
  follows = record {
    cost = λ b is. let same : m + 1 ≤ m + 1 = omega arith in omega (arith, uvarint_least (m + 1) (m + 1) is.left same is.first, part.follows.cost is.right is.second, both_lengths b is);
    short = λ b is few. (omega (arith, some is.right is.second, both_lengths b is), ((free beside part.follows).short b is few).1);
    held = λ b is fit. ((free beside part.follows).held b is fit).1;
  };
}

pub text : (t : List ℕ) → Plain (IsText t) (written.text t) (uvarint_bytes (length t + 1) + length t) (length t < 2 ^ 31) (IsUtf8 t)
text t =
    let exactly : Plain (Exactly t) t (length t) (Unit {0}) (IsBytes t) = record { size = λ p. refl; stands = λ p q. refl; fits = λ p q. record { each = q }; follows = then (follows.exactly t) (omega arith) (λ p. tt) (λ q. q) } in
    let part = counted (length t) (λ b is. omega (arith, ap (λ (l : List ℕ). length l) is)) exactly in
    record {
      size = λ p. part.size (p, tt);
      stands = λ p q. text_spelled t q p;
      fits = λ p q. part.fits (p, tt) (utf8_fits t q).each;
      follows = record { cost = λ b is. part.follows.cost b is.spelled; short = λ b is few. (part.follows.short b is.spelled few).0; held = λ b is fit. is.utf8 };
    }

module _ {X : Type 0} {One : X → List ℕ → Type 0} {one : X → List ℕ} {size : X → ℕ} {P Q : X → Type 0} (each : (x : X) → Plain (One x) (one x) (size x) (P x) (Q x)) where
  elements : (xs : List X) → Plain (Each One xs) (flat_map one xs) (sum_by size xs) (All P xs) (All Q xs)
  elements [] = record { size = λ p. refl; stands = λ p q. refl; fits = λ p q. none_fits; follows = then free (omega arith) (λ p. All-nil P) (λ q. All-nil Q) }
  elements (x ∷ xs) =
      form (each x plus elements xs) refl (omega (arith, sum_by-cons size x xs)) (omega (arith, sum_by-cons size x xs))
      (λ p. All-cons P x xs p.0 p.1) (λ p. (All-head P x xs p, All-tail P x xs p)) (λ q. All-cons Q x xs q.0 q.1) (λ q. (All-head Q x xs q, All-tail Q x xs q))

  -- of which each takes a byte or more
  pub list : ((x : X) (b : List ℕ) → One x b → 1 ≤ length b) → (xs : List X) → Plain (IsList One xs) (written.list one xs) (uvarint_bytes (length xs + 1) + sum_by size xs) ((length xs < 2 ^ 31) × All P xs) (All Q xs)
  list long xs = counted (length xs) (λ b is. omega (arith, each_long 1 long xs b is)) (elements xs)

-- of one size
module _ {X : Type 0} {One : X → List ℕ → Type 0} {one : X → List ℕ} (k : ℕ) {Q : X → Type 0} (each : (x : X) → Plain (One x) (one x) k (Unit {0}) (Q x)) where
  fixed : (xs : List X) → Plain (Each One xs) (flat_map one xs) (k * length xs) (Unit {0}) (All Q xs)
  fixed [] = record { size = λ p. omega arith; stands = λ p q. refl; fits = λ p q. none_fits; follows = then free (omega arith) (λ p. tt) (λ q. All-nil Q) }
  fixed (x ∷ xs) =
      form (each x plus fixed xs) refl (omega arith) (omega arith) (λ p. tt) (λ p. (tt, tt)) (λ q. All-cons Q x xs q.0 q.1) (λ q. (All-head Q x xs q, All-tail Q x xs q))

  pub list_of : ((x : X) (b : List ℕ) → One x b → 1 ≤ length b) → (xs : List X) → Plain (IsList One xs) (written.list one xs) (uvarint_bytes (length xs + 1) + k * length xs) (length xs < 2 ^ 31) (All Q xs)
  list_of long xs = form (counted (length xs) (λ b is. omega (arith, each_long 1 long xs b is)) (fixed xs)) refl refl (omega arith) (λ p. p.0) (λ p. (p, tt)) (λ q. q) (λ q. q)

pub int32s : (xs : List ℤ) → Plain (IsList (IsSigned w32) xs) (written.list (written.signed w32) xs) (uvarint_bytes (length xs + 1) + 4 * length xs) (length xs < 2 ^ 31) (All (FitsSigned w32) xs)
int32s xs = list_of 4 (λ n. signed w32 n (lit≤ tt)) (λ n b is. omega (arith, is.spelled.long)) xs
