-- One write more behind those that wait.
use Rattle.std.proofs.Common.{◌≡◌, ◌∙◌, sym, ℕ, ℤ, pos, negsuc, Bool, true, false, cond, ◌≤◌, List, [], ◌∷◌, ◌++◌, refl, ap, arith, All}
use Rattle.std.proofs.lemmas.Bool.{and_from}
use Rattle.std.proofs.lemmas.Bool.Decides.{nat_tests}
use Rattle.std.proofs.lemmas.List.Elements.{All-from_recursion, All-filter, recursion_from_All}
use Rattle.std.proofs.lemmas.List.Folds.{list_all-append}
use Rattle.std.specs.Prelude.{◌&&◌, Option, Some, None, filter, int_le, int_lt}
use Rattle.std.specs.List.{AllByRecursion, list_all}
use Rattle.std.specs.Ordering.{int_eq}
use Rattle.kr_defs.proofs.IdLists.{id_itself, same_id}
use Rattle.kr_defs.proofs.Tests.{both}
use Rattle.kr_model.specs.declared.writes.Write.{Write}
use Rattle.kr_model.specs.Engine.{writes_in_order}
use Rattle.kr_model.specs.World.{leads_in}
use Rattle.kr_model.specs.Outputs.{is_open}
use Rattle.kr_model.specs.Reasons.{led_epoch}

abbrev pub is_behind : Write → Write → Bool
is_behind write later = int_eq write.epoch later.epoch && int_le write.need later.need

pub order_more : (writes : List Write) (last : Write) → writes_in_order writes ≡ true → list_all (λ (write : Write). is_behind write last) writes ≡ true → writes_in_order (writes ++ last ∷ []) ≡ true
order_more [] last ordered behind = refl
order_more (write ∷ writes) last ordered behind =
    let parts = both (list_all (is_behind write) writes) (writes_in_order writes) ordered in
    let tests = both (is_behind write last) (list_all (λ (write : Write). is_behind write last) writes) behind in
    and_from (list_all (is_behind write) (writes ++ last ∷ [])) (writes_in_order (writes ++ last ∷ []))
    (list_all-append (is_behind write) writes (last ∷ []) ∙ and_from (list_all (is_behind write) writes) (is_behind write last && true) parts.0 (and_from (is_behind write last) true tests.0 refl))
    (order_more writes last parts.1 tests.1)

-- what waits passes the test of those that wait
pub all_open : (p : Write → Bool) (writes : List Write) → list_all p (filter p writes) ≡ true
all_open p [] = refl
all_open p (write ∷ writes) =
    elim (p write) as (λ b. p write ≡ b → list_all p (cond b (write ∷ filter p writes) (filter p writes)) ≡ true) [
      | true ↦ λ is. and_from (p write) (list_all p (filter p writes)) is (all_open p writes)
      | false ↦ λ _. all_open p writes
    ] refl

-- ---- the new write is of the led epoch, and needs the new tip

led_in : (leading : Option ℤ) (epoch : ℤ) → leads_in leading epoch ≡ true → epoch ≡ led_epoch leading
led_in None epoch is = absurd cc
led_in (Some led) epoch is = sym (same_id led epoch is)

pub need_more : (m n : ℕ) (need : ℤ) → m ≤ n → int_le need (pos m) ≡ true → int_le need (pos n) ≡ true
need_more m n (pos a) low h = grind (arith, nat_tests)
need_more m n (negsuc a) low h = refl

pub all_behind : (leading : Option ℤ) (end : ℤ) (m n : ℕ) (last : Write) → m ≤ n → last.epoch ≡ led_epoch leading → last.need ≡ pos n
    → (writes : List Write) → list_all (is_open leading end) writes ≡ true → AllByRecursion (λ (write : Write). int_le write.need (pos m) ≡ true) writes → list_all (λ (write : Write). is_behind write last) writes ≡ true
all_behind leading end m n last low epoch need [] opens reached = refl
all_behind leading end m n last low epoch need (write ∷ writes) opens reached =
    let tests = both (is_open leading end write) (list_all (is_open leading end) writes) opens in
    let parts = both (leads_in leading write.epoch) (int_lt end write.need) tests.0 in
    let same : int_eq write.epoch last.epoch ≡ true =
    ap (int_eq write.epoch) (epoch ∙ sym (led_in leading write.epoch parts.0)) ∙ id_itself write.epoch in
    let later : int_le write.need last.need ≡ true = ap (int_le write.need) need ∙ need_more m n write.need low reached.0 in
    and_from (is_behind write last) (list_all (λ (write : Write). is_behind write last) writes)
    (and_from (int_eq write.epoch last.epoch) (int_le write.need last.need) same later)
    (all_behind leading end m n last low epoch need writes tests.1 reached.1)

-- ---- all needs are reached

one_more : (P : Write → Type 0) (writes : List Write) (last : Write) → AllByRecursion P writes → P last → AllByRecursion P (writes ++ last ∷ [])
one_more P [] last all also = (also, tt)
one_more P (write ∷ writes) last all also = (all.0, one_more P writes last all.1 also)

pub all_reached : (p : Write → Bool) (P : Write → Type 0) (writes : List Write) (last : Write) → All P writes → P last → All P (filter p (writes ++ last ∷ []))
all_reached p P writes last all also =
    All-filter p P (writes ++ last ∷ []) (All-from_recursion P (writes ++ last ∷ []) (one_more P writes last (recursion_from_All P writes all) also))

pub reached_later : (m n : ℕ) (writes : List Write) → m ≤ n → All (λ write. int_le write.need (pos m) ≡ true) writes → All (λ write. int_le write.need (pos n) ≡ true) writes
reached_later m n writes le all = All-from_recursion (λ write. int_le write.need (pos n) ≡ true) writes (each writes (recursion_from_All (λ write. int_le write.need (pos m) ≡ true) writes all))
  where
    each : (writes : List Write) → AllByRecursion (λ (write : Write). int_le write.need (pos m) ≡ true) writes → AllByRecursion (λ (write : Write). int_le write.need (pos n) ≡ true) writes
    each [] all = tt
    each (write ∷ writes) all = (need_more m n write.need le all.0, each writes all.1)
