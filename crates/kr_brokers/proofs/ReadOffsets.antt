-- All have read where nobody lags.
use Rattle.std.proofs.Common.{◌≡◌, ◌∙◌, ℤ, Bool, true, false, not, ◌&&◌, ◌||◌, cond, List, [], ◌∷◌, refl, sym, ap, arith}
use Rattle.std.specs.Prelude.{Option, Some, None, filter, int_le, int_lt, map}
use Rattle.std.specs.Int.{int_min}
use Rattle.std.specs.List.{cons_option, filter_map, list_any, reduce}
use Rattle.std.specs.Option.{option_map_or}
use Rattle.std.proofs.lemmas.Int.{ints}
use Rattle.kr_defs.specs.declared.broker.Broker.{Broker}
use Rattle.kr_defs.specs.Brokers.{active_of, is_active}
use Rattle.kr_defs.specs.Heartbeats.{Heartbeats, offset_of}
use Rattle.kr_brokers.specs.Stopping.{lags}

-- ---- numbers

at_most_further : (s a b : ℤ) → int_le s a ≡ true → int_lt b a ≡ false → int_le s b ≡ true
at_most_further s a b low up = grind (arith, ints)

at_most_above : (s a b : ℤ) → int_le s a ≡ true → int_lt a b ≡ true → int_le s b ≡ true
at_most_above s a b low up = grind (arith, ints)

not_above : (s a : ℤ) → int_le s a ≡ not (int_lt a s)
not_above s a = elim (int_lt a s) as (λ b. int_lt a s ≡ b → int_le s a ≡ not b) [
  | true ↦ λ is. grind (arith, ints)
  | false ↦ λ is. grind (arith, ints)
] refl

and_true : (a : Bool) → a ≡ (a && true)
and_true true = refl
and_true false = refl

and_false : (a : Bool) → false ≡ (a && false)
and_false true = refl
and_false false = refl

and_three : (a b c : Bool) → ((a && b) && c) ≡ (a && (b && c))
and_three true b c = refl
and_three false b c = refl

not_or : (a b : Bool) → not (a || b) ≡ (not a && not b)
not_or true b = refl
not_or false b = refl

at_most_least : (s x y : ℤ) → int_le s (int_min x y) ≡ (int_le s x && int_le s y)
at_most_least s x y =
    elim (int_lt y x) as (λ b. int_lt y x ≡ b → int_le s (cond b y x) ≡ (int_le s x && int_le s y)) [
      | true ↦ λ less. elim (int_le s y) as (λ c. int_le s y ≡ c → c ≡ (int_le s x && c)) [
        | true ↦ λ low. sym (at_most_above s y x low less) ∙ and_true (int_le s x)
        | false ↦ λ low. and_false (int_le s x)
      ] refl
      | false ↦ λ less. elim (int_le s x) as (λ c. int_le s x ≡ c → c ≡ (c && int_le s y)) [
        | true ↦ λ low. sym (at_most_further s x y low less)
        | false ↦ λ low. refl
      ] refl
    ] refl

-- ---- lists

module _ (s : ℤ) where
  abbrev reached : List ℤ → Bool
  reached xs = option_map_or (λ x. int_le s x) (reduce int_min xs) true

  reached_more : (xs : List ℤ) (x : ℤ) → reached (x ∷ xs) ≡ (int_le s x && reached xs)
  reached_more [] x = and_true (int_le s x)
  reached_more (y ∷ ys) x =
      reached_more ys (int_min x y)
      ∙ (ap (λ b. b && reached ys) (at_most_least s x y)
      ∙ (and_three (int_le s x) (int_le s y) (reached ys) ∙ ap (λ b. int_le s x && b) (sym (reached_more ys y))))

  module _ (h : Heartbeats) where
    one_read : (o : Option ℤ) (xs : List ℤ) (late : Bool) → reached xs ≡ not late → reached (cons_option o xs) ≡ not (option_map_or (λ x. int_lt x s) o false || late)
    one_read None xs late rest = rest
    one_read (Some x) xs late rest =
        reached_more xs x ∙ (ap (λ b. b && reached xs) (not_above s x) ∙ (ap (λ b. not (int_lt x s) && b) rest ∙ sym (not_or (int_lt x s) late)))

    pub none_lags : (es : List (ℤ × Broker)) → reached (filter_map (offset_of h) (active_of es)) ≡ not (list_any (lags h s) es)
    none_lags [] = refl
    none_lags (e ∷ es) =
        elim (is_active e.1) as (λ b. reached (filter_map (offset_of h) (map (λ (x : ℤ × Broker). x.0) (cond b (e ∷ filter (λ (x : ℤ × Broker). is_active x.1) es) (filter (λ (x : ℤ × Broker). is_active x.1) es)))) ≡ not ((b && option_map_or (λ x. int_lt x s) (offset_of h e.0) false) || list_any (lags h s) es)) [
          | true ↦ one_read (offset_of h e.0) (filter_map (offset_of h) (active_of es)) (list_any (lags h s) es) (none_lags es)
          | false ↦ none_lags es
        ]
