-- A text spells a number in decimal just where it is what the number is written as.
use Rattle.std.proofs.Common.{◌≡◌, ◌<◌, ◌≤◌, ℕ, zero, suc, ◌^◌, Bool, true, false, cond, List, [], ◌∷◌, length, get_or, refl, sym, ap, subst, ◌∙◌, arith, rules}
use Rattle.std.proofs.lemmas.Bool.Decides.{nat_tests}
use Rattle.std.proofs.lemmas.Fmt.{decimal_digit, decimal-digits_value, digits_decimal, digits_value-decimal, first_decimal}
use Rattle.std.proofs.lemmas.Str.Parse.{IsNumeralModel, numerals_by_fold}
use Rattle.std.specs.Fmt.{decimal}
use Rattle.std.specs.Prelude.{◌&&◌, ◌↔◌, nat_le, unwrap_or, Option, Some, None}
use Rattle.kr_defs.specs.Texts.{are_digits, decimal_up_to, is_led, number_behind}

own : IsNumeralModel (λ ds. are_digits ds ≡ true) (number_behind 0)
own = numerals_by_fold _ (search (rules, nat_tests)) number_behind (search rules)

-- the texts that are read
record Spells (led digits low : Bool) (n number : ℕ) : Type 0 where
  is_led : led ≡ true
  are_digits : digits ≡ true
  is_low : low ≡ true
  value : n ≡ number

spelled : (led digits low : Bool) (n number : ℕ) → cond ((led && digits) && low) (Some n) None ≡ Some number → Spells led digits low n number
spelled true true true n number is = record { is_led = refl; are_digits = refl; is_low = refl; value = ap (λ (o : Option ℕ). unwrap_or o n) is }
spelled true true false n number is = absurd cc
spelled true false low n number is = absurd cc
spelled false digits low n number is = absurd cc

led_first : (text : List ℕ) → is_led text ≡ true → (0 < length text) × (get_or text 0 0 ≡ 48 → length text ≡ 1)
led_first [] is = absurd cc
led_first (digit ∷ []) is = (omega arith, λ zero. refl)
led_first (digit ∷ second ∷ digits) is = (omega arith, λ zero. absurd (search (rules, nat_tests)))

led_other : (text : List ℕ) → 48 < get_or text 0 0 → is_led text ≡ true
led_other [] more = absurd (omega arith)
led_other (digit ∷ digits) more = search (rules, nat_tests)

is_led_decimal : (n : ℕ) → n < 2 ^ 64 → is_led (decimal n) ≡ true
is_led_decimal zero low = ap is_led (decimal_digit 0 (omega arith))
is_led_decimal (suc n) low = led_other (decimal (suc n)) (first_decimal (suc n) (omega arith) low)

low_so : (n greatest : ℕ) → nat_le n greatest ≡ true → n ≤ greatest
low_so n greatest is = grind (arith, nat_tests)

so_low : (n greatest : ℕ) → n ≤ greatest → nat_le n greatest ≡ true
so_low n greatest is = grind (arith, nat_tests)

pub spells : (text : List ℕ) (greatest number : ℕ) → greatest < 2 ^ 32 → (decimal_up_to greatest text ≡ Some number) ↔ ((number ≤ greatest) × (text ≡ decimal number))
spells text greatest number small = (
  λ is.
      let found = spelled (is_led text) (are_digits text) _ (number_behind 0 text) number is in
      let first = led_first text found.is_led in
      let low = low_so (number_behind 0 text) greatest found.is_low in
      (subst (λ (n : ℕ). n ≤ greatest) found.value low, sym (decimal-digits_value own text found.are_digits first.0 first.1 (omega (arith, low, small))) ∙ ap decimal found.value),
  λ (low, is).
      let wide : number < 2 ^ 64 = omega (arith, low, small) in
      let led = ap is_led is ∙ is_led_decimal number wide in
      let digits = ap are_digits is ∙ digits_decimal own number wide in
      let value = ap (number_behind 0) is ∙ digits_value-decimal own number wide in
      rw (led, digits, value, so_low number greatest low) refl,
)
