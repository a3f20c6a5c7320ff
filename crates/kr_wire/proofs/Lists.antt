-- The law of lists, from that of the element.
use Rattle.std.proofs.Common.{◌≡◌, ℕ, zero, suc, ◌+◌, ◌-◌, ◌<◌, Bool, true, false, cond, eqb, ltb, List, [], ◌∷◌, ◌++◌, length, Option, Some, None, Ok, Err, refl, sym, ap, subst, arith}
use Rattle.std.proofs.lemmas.Bool.{le-ltb}
use Rattle.std.proofs.lemmas.Bool.Decides.{nat_tests}
use Rattle.std.proofs.lemmas.List.{length-append, append-nil}
use Rattle.kr_wire.specs.declared.WireFault.TheVariants.{Short, BadNull}
use Rattle.kr_wire.specs.declared.WireFault.{WireFault}
use Rattle.kr_wire.specs.Reading.{◌>>=◌, Read, uvarint_at, room_at, count_at, count_or_null_at, elements_at, elements_or_null_at, list_at, list_or_null_at}
use Rattle.kr_wire.specs.Grammar.{IsUvarint, Each, IsList, IsListOrNull}
use Rattle.kr_wire.proofs.ReadingLaws.{Law, law_as, sound_then, sound_last, sound_guard, sound_if, sound_as, sound_done, complete_then, complete_last, complete_guard, complete_if_not}
use Rattle.kr_wire.proofs.Lengths.{each_long}
use Rattle.kr_wire.proofs.Numbers.{not_zero, some, uvarint_law}

-- what comes after a count, under the tests of the count

behind : {X : Type 0} (b c : Bool) (d e : WireFault) (x : ℕ × List ℕ) (next : ℕ × List ℕ → Read X)
    → (cond b (Err d) (cond c (Err e) (Ok x)) >>= next) ≡ cond b (Err d) (cond c (Err e) (next x))
behind true c d e x next = refl
behind false true d e x next = refl
behind false false d e x next = refl

behind_or_null : {X : Type 0} (b c : Bool) (e : WireFault) (x : ℕ × List ℕ) (next : Option ℕ × List ℕ → Read X)
    → (cond b (Ok (None, x.1)) (cond c (Err e) (Ok x) >>= λ count. Ok (Some count.0, count.1)) >>= next)
    ≡ cond b (next (None, x.1)) (cond c (Err e) (next (Some x.0, x.1)))
behind_or_null true c e x next = refl
behind_or_null false true e x next = refl
behind_or_null false false e x next = refl

-- the test of a size
abbrev room_of : ℕ × List ℕ → Read ℕ
room_of size = cond (eqb size.0 0) (Err BadNull) (room_at (size.0 - 1) size.1)

abbrev room_or_null : ℕ × List ℕ → Read (Option ℕ)
room_or_null size = cond (eqb size.0 0) (Ok (None, size.1)) (room_at (size.0 - 1) size.1 >>= λ count. Ok (Some count.0, count.1))

module _ {X : Type 0} (one : List ℕ → Read X) where
  abbrev counted : ℕ × List ℕ → Read (List X)
  counted count = elements_at one count.0 count.1

  abbrev counted_or_null : Option ℕ × List ℕ → Read (Option (List X))
  counted_or_null count = elements_or_null_at one count.0 count.1

  -- a list, with its tests one after the other
  abbrev tested : ℕ × List ℕ → Read (List X)
  tested size = cond (eqb size.0 0) (Err BadNull) (cond (ltb (length size.1) (size.0 - 1)) (Err Short) (elements_at one (size.0 - 1) size.1))

  abbrev tested_or_null : ℕ × List ℕ → Read (Option (List X))
  tested_or_null size = cond (eqb size.0 0) (Ok (None, size.1))
      (cond (ltb (length size.1) (size.0 - 1)) (Err Short) (elements_at one (size.0 - 1) size.1 >>= λ elements. Ok (Some elements.0, elements.1)))

  is_tested : (bytes : List ℕ) → list_at one bytes ≡ (uvarint_at bytes >>= tested)
  unfolding list_at count_at
  is_tested bytes = elim (uvarint_at bytes) as (λ r. ((r >>= room_of) >>= counted) ≡ (r >>= tested)) [
    | Ok size ↦ behind (eqb size.0 0) (ltb (length size.1) (size.0 - 1)) BadNull Short (size.0 - 1, size.1) counted
    | Err d ↦ refl
  ]

  is_tested_or_null : (bytes : List ℕ) → list_or_null_at one bytes ≡ (uvarint_at bytes >>= tested_or_null)
  unfolding list_or_null_at count_or_null_at
  is_tested_or_null bytes = elim (uvarint_at bytes) as (λ r. ((r >>= room_or_null) >>= counted_or_null) ≡ (r >>= tested_or_null)) [
    | Ok size ↦ behind_or_null (eqb size.0 0) (ltb (length size.1) (size.0 - 1)) Short (size.0 - 1, size.1) counted_or_null
    | Err d ↦ refl
  ]

module _ {X : Type 0} {One : X → List ℕ → Type 0} {one : List ℕ → Read X} (law : Law One one) where
  -- so many elements
  abbrev pub AreCounted : ℕ → List X → List ℕ → Type 0
  AreCounted count xs bytes = (length xs ≡ count) × Each One xs bytes

  none : (xs : List X) (front rest : List ℕ) → AreCounted 0 xs front → elements_at one 0 (front ++ rest) ≡ Ok (xs, rest)
  unfolding elements_at
  none [] front rest is = rw is.1 refl
  none (x ∷ xs) front rest is = absurd (omega (arith, is.0))

  one_more : (count : ℕ) → Law (AreCounted count) (elements_at one count) → (xs : List X) (front rest : List ℕ) → AreCounted (suc count) xs front
      → elements_at one (suc count) (front ++ rest) ≡ Ok (xs, rest)
  unfolding elements_at
  one_more count others [] front rest is = absurd (omega (arith, is.0))
  one_more count others (x ∷ xs) front rest is = complete_then law x (Each One xs) _ _ rest (λ tail second.
      complete_last others xs (λ others. x ∷ others) rest tail (omega (arith, is.0), second)) front is.1

  pub elements_law : (count : ℕ) → Law (AreCounted count) (elements_at one count)
  unfolding elements_at
  elements_law zero = record {
    sound = λ bytes fits. sound_done (AreCounted 0) bytes [] (refl, refl);
    complete = none;
  }
  elements_law (suc count) = record {
    sound = λ bytes fits. sound_then law (AreCounted (suc count)) _ bytes fits (λ x a rest first more.
        sound_last (elements_law count) _ (λ others. x ∷ others) rest more (λ xs b is.
        (ap suc is.0, record { left = a; right = b; is = refl; first = first; second = is.1 })));
    complete = one_more count (elements_law count);
  }

  list_of : (xs : List X) (a : List ℕ) (size : ℕ) (b : List ℕ) → IsUvarint size a → eqb size 0 ≡ false → AreCounted (size - 1) xs b → IsList One xs (a ++ b)
  list_of xs a size b first positive is =
      let e : size ≡ length xs + 1 = let h = some size positive in omega (arith, is.0) in
      record { left = a; right = b; is = refl; first = subst (λ (n : ℕ). IsUvarint n a) e first; second = is.1 }

  -- an element takes at least a byte
  module _ (long : (x : X) (bytes : List ℕ) → One x bytes → 0 < length bytes) where
    enough : (count : ℕ) (xs : List X) (tail rest : List ℕ) → count ≡ length xs → Each One xs tail → ltb (length (tail ++ rest)) count ≡ false
    enough count xs tail rest same is = le-ltb _ _ (omega (arith, length-append tail rest, each_long 1 long xs tail is))

    tested_law : Law (IsList One) (λ bytes. uvarint_at bytes >>= tested one)
    tested_law = record {
      sound = λ bytes fits. sound_then uvarint_law (IsList One) _ bytes fits (λ size a rest first more.
          sound_guard _ rest (eqb size 0) BadNull _ (λ positive.
          sound_guard _ rest (ltb (length rest) (size - 1)) Short _ (λ room.
          sound_as (AreCounted (size - 1)) _ rest _ ((elements_law (size - 1)).sound rest more) (λ xs b is. list_of xs a size b first positive is))));
      complete = λ xs bytes rest is.
          let positive = not_zero (length xs + 1) (omega arith) in
          let one_less : length xs ≡ length xs + 1 - 1 = omega arith in
          complete_then uvarint_law (length xs + 1) (Each One xs) _ xs rest (λ tail second.
          complete_guard _ _ _ _ positive (complete_guard _ _ _ _ (enough (length xs + 1 - 1) xs tail rest (sym one_less) second)
          ((elements_law (length xs + 1 - 1)).complete xs tail rest (one_less, second)))) bytes is;
    }

    pub list_law : Law (IsList One) (list_at one)
    list_law = law_as (is_tested one) tested_law

    complete_or_null : (o : Option (List X)) (bytes rest : List ℕ) → IsListOrNull One o bytes → (uvarint_at (bytes ++ rest) >>= tested_or_null one) ≡ Ok (o, rest)
    complete_or_null None bytes rest is = rw (uvarint_law.complete 0 bytes rest is) refl
    complete_or_null (Some xs) bytes rest is =
        let positive = not_zero (length xs + 1) (omega arith) in
        let one_less : length xs ≡ length xs + 1 - 1 = omega arith in
        complete_then uvarint_law (length xs + 1) (Each One xs) _ (Some xs) rest (λ tail second.
        complete_if_not _ _ _ _ positive (complete_guard _ _ _ _ (enough (length xs + 1 - 1) xs tail rest (sym one_less) second)
        (complete_last (elements_law (length xs + 1 - 1)) xs (λ ys. Some ys) rest tail (one_less, second)))) bytes is

    tested_or_null_law : Law (IsListOrNull One) (λ bytes. uvarint_at bytes >>= tested_or_null one)
    tested_or_null_law = record {
      sound = λ bytes fits. sound_then uvarint_law (IsListOrNull One) _ bytes fits (λ size a rest first more.
          sound_if _ rest (eqb size 0) _ _
          (λ null. sound_done _ rest None (rw append-nil (subst (λ (n : ℕ). IsUvarint n a) (grind (arith, nat_tests)) first)))
          (λ positive.
          sound_guard _ rest (ltb (length rest) (size - 1)) Short _ (λ room.
          sound_last (elements_law (size - 1)) _ (λ ys. Some ys) rest more (λ xs b is. list_of xs a size b first positive is))));
      complete = complete_or_null;
    }

    pub list_or_null_law : Law (IsListOrNull One) (list_or_null_at one)
    list_or_null_law = law_as (is_tested_or_null one) tested_or_null_law
