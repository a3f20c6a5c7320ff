-- Writes in order: those that wait stand behind those whose replies are due.
use Rattle.std.proofs.Common.{◌≡◌, ◌∙◌, sym, ℤ, pos, negsuc, Bool, true, false, cond, List, [], ◌∷◌, ◌++◌, map, refl, ap, arith}
use Rattle.std.proofs.lemmas.Bool.{and_from}
use Rattle.std.proofs.lemmas.Bool.Decides.{nat_tests}
use Rattle.std.specs.Prelude.{not, ◌&&◌, int_lt, int_le, filter, Option, Some, None, option_to_list}
use Rattle.std.specs.List.{list_all}
use Rattle.std.specs.Ordering.{int_eq}
use Rattle.kr_defs.proofs.IdLists.{same_id}
use Rattle.kr_defs.proofs.Tests.{both, not_false, not_true}
use Rattle.kr_model.specs.declared.writes.Write.{Write}
use Rattle.kr_model.specs.Engine.{Core, writes_in_order, outputs_left}
use Rattle.kr_model.specs.World.{leads_in}
use Rattle.kr_model.specs.Outputs.{answers, due_reply, is_open, told_answers, told_reply}

pub never : false ≡ true → ⊥
never both = cc

-- ---- lists that are empty

pub nil_left : {X : Type 0} (xs ys : List X) → xs ++ ys ≡ [] → xs ≡ []
nil_left [] ys e = refl
nil_left (x ∷ xs) ys e = absurd cc

pub nil_right : {X : Type 0} (xs ys : List X) → xs ++ ys ≡ [] → ys ≡ []
nil_right [] ys e = e
nil_right (x ∷ xs) ys e = absurd cc

pub no_option : {X : Type 0} (o : Option X) → option_to_list o ≡ [] → o ≡ None
no_option None e = refl
no_option (Some x) e = absurd cc

module _ {X Y : Type 0} (f : X → Y) (p : X → Bool) where
  passed : (b : Bool) (x : X) (xs ys : List X) → map f (cond (not b) (x ∷ ys) ys) ≡ [] → (map f ys ≡ [] → filter p xs ≡ xs) → cond b (x ∷ filter p xs) (filter p xs) ≡ x ∷ xs
  passed true x xs ys none step = ap (λ rest. x ∷ rest) (step none)
  passed false x xs ys none step = absurd cc

  -- nothing fails the test, so all pass
  pub all_pass : (xs : List X) → map f (filter (λ x. not (p x)) xs) ≡ [] → filter p xs ≡ xs
  all_pass [] none = refl
  all_pass (x ∷ xs) none = passed (p x) x xs (filter (λ x. not (p x)) xs) none (all_pass xs)

  one_passes : (b : Bool) (x : X) (xs : List X) → b ≡ true → map f xs ≡ [] → map f (cond (not b) (x ∷ xs) xs) ≡ []
  one_passes true x xs is none = none
  one_passes false x xs is none = absurd cc

  -- all pass the test, so none fails
  pub none_fails : (xs : List X) → list_all p xs ≡ true → map f (filter (λ x. not (p x)) xs) ≡ []
  none_fails [] all = refl
  none_fails (x ∷ xs) all =
      let tests = both (p x) (list_all p xs) all in one_passes (p x) x (filter (λ x. not (p x)) xs) tests.0 (none_fails xs tests.1)

-- ---- what is left of an engine from which all is handed out

pub record IsDrained (e : Core) : Type 0 where
  pub none_given : e.given ≡ []
  pub none_refused : e.refusal ≡ None
  pub none_due : answers e.leading e.closed e.held ≡ []
  pub all_wait : filter (is_open e.leading e.closed) e.held ≡ e.held

pub drained : (e : Core) → outputs_left e ≡ [] → IsDrained e
drained e none =
    let due = answers e.leading e.closed e.held in
    let before = nil_left (e.given ++ option_to_list e.refusal) due none in
    let none_due = nil_right (e.given ++ option_to_list e.refusal) due none in record {
      none_given = nil_left e.given (option_to_list e.refusal) before;
      none_refused = no_option e.refusal (nil_right e.given (option_to_list e.refusal) before);
      none_due = none_due;
      all_wait = all_pass (due_reply e.closed) (is_open e.leading e.closed) e.held none_due;
    }

-- ---- order

lt_through : (a b c : ℤ) → int_lt a b ≡ true → int_le b c ≡ true → int_lt a c ≡ true
lt_through (pos a) (pos b) (pos c) h k = grind (arith, nat_tests)
lt_through (pos a) (pos b) (negsuc c) h k = absurd cc
lt_through (pos a) (negsuc b) c h k = absurd cc
lt_through (negsuc a) (pos b) (pos c) h k = refl
lt_through (negsuc a) (pos b) (negsuc c) h k = absurd cc
lt_through (negsuc a) (negsuc b) (pos c) h k = refl
lt_through (negsuc a) (negsuc b) (negsuc c) h k = grind (arith, nat_tests)

abbrev is_behind : Write → Write → Bool
is_behind write later = int_eq write.epoch later.epoch && int_le write.need later.need

module _ (leading : Option ℤ) (end : ℤ) where
  -- one that waits is followed by such as wait
  waits_behind : (write later : Write) → is_open leading end write ≡ true → is_behind write later ≡ true → is_open leading end later ≡ true
  waits_behind write later waits behind =
      let waiting = both (leads_in leading write.epoch) (int_lt end write.need) waits in
      let order = both (int_eq write.epoch later.epoch) (int_le write.need later.need) behind in
      and_from (leads_in leading later.epoch) (int_lt end later.need)
      (ap (leads_in leading) (sym (same_id write.epoch later.epoch order.0)) ∙ waiting.0)
      (lt_through end write.need later.need waiting.1 order.1)

  all_wait_behind : (write : Write) (writes : List Write) → is_open leading end write ≡ true → list_all (is_behind write) writes ≡ true → list_all (is_open leading end) writes ≡ true
  all_wait_behind write [] waits all = refl
  all_wait_behind write (later ∷ writes) waits all =
      let tests = both (is_behind write later) (list_all (is_behind write) writes) all in
      and_from (is_open leading end later) (list_all (is_open leading end) writes)
      (waits_behind write later waits tests.0) (all_wait_behind write writes waits tests.1)

  -- where the first waits, no reply is due
  pub none_is_due : (write : Write) (writes : List Write) → is_open leading end write ≡ true → writes_in_order (write ∷ writes) ≡ true → told_answers leading end (write ∷ writes) ≡ []
  none_is_due write writes waits ordered =
      let tests = both (list_all (is_behind write) writes) (writes_in_order writes) ordered in
      none_fails (told_reply end) (is_open leading end) (write ∷ writes)
      (and_from (is_open leading end write) (list_all (is_open leading end) writes) waits (all_wait_behind write writes waits tests.0))

  due_first : (b : Bool) (write : Write) (rest : List Write) → b ≡ false → map (told_reply end) (cond (not b) (write ∷ rest) rest) ≡ told_reply end write ∷ map (told_reply end) rest
  due_first true write rest is = absurd cc
  due_first false write rest is = refl

  -- where the first waits no more, its reply is the first that is due
  pub first_is_due : (write : Write) (writes : List Write) → is_open leading end write ≡ false → told_answers leading end (write ∷ writes) ≡ told_reply end write ∷ told_answers leading end writes
  first_is_due write writes is = due_first (is_open leading end write) write (filter (λ later. not (is_open leading end later)) writes) is

  not_first : (b : Bool) (write : Write) (rest : List Write) → b ≡ false → cond b (write ∷ rest) rest ≡ rest
  not_first true write rest is = absurd cc
  not_first false write rest is = refl

  pub first_waits_not : (write : Write) (writes : List Write) → is_open leading end write ≡ false → filter (is_open leading end) (write ∷ writes) ≡ filter (is_open leading end) writes
  first_waits_not write writes is = not_first (is_open leading end write) write (filter (is_open leading end) writes) is

pub order_behind : (write : Write) (writes : List Write) → writes_in_order (write ∷ writes) ≡ true → writes_in_order writes ≡ true
order_behind write writes ordered = (both (list_all (is_behind write) writes) (writes_in_order writes) ordered).1

-- ---- the first of a queue

module _ (leading : Option ℤ) (end : ℤ) where
  pub not_due : (items : List Write) → writes_in_order items ≡ true → ((write : Write) (rest : List Write) → items ≡ write ∷ rest → false ≡ not (is_open leading end write)) → told_answers leading end items ≡ []
  not_due [] ordered waits = refl
  not_due (write ∷ rest) ordered waits = none_is_due leading end write rest (not_false (is_open leading end write) (sym (waits write rest refl))) ordered

  pub due : (items : List Write) (write : Write) (rest : List Write) → items ≡ write ∷ rest → true ≡ not (is_open leading end write) → told_answers leading end items ≡ told_reply end write ∷ told_answers leading end rest
  due items write rest is closed = ap (told_answers leading end) is ∙ first_is_due leading end write rest (not_true (is_open leading end write) (sym closed))

  pub still_waits : (items : List Write) (write : Write) (rest : List Write) → items ≡ write ∷ rest → true ≡ not (is_open leading end write) → filter (is_open leading end) rest ≡ filter (is_open leading end) items
  still_waits items write rest is closed = sym (ap (filter (is_open leading end)) is ∙ first_waits_not leading end write rest (not_true (is_open leading end write) (sym closed)))

pub still_ordered : (items : List Write) (write : Write) (rest : List Write) → items ≡ write ∷ rest → writes_in_order items ≡ true → writes_in_order rest ≡ true
still_ordered items write rest is ordered = order_behind write rest (sym (ap writes_in_order is) ∙ ordered)
