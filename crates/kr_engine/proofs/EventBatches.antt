-- Records of one event fit one batch.
use Rattle.std.proofs.Common.{◌≡◌, sym, subst, ℕ, ℤ, pos, true, false, ◌≤◌, List, length, arith}
use Rattle.std.proofs.lemmas.Int.{ints}
use Rattle.std.proofs.lemmas.List.{length-map}
use Rattle.std.specs.Prelude.{◌+ℤ◌, ◌==◌, int_lt, IsTrue}
use Rattle.kr_defs.specs.declared.limits.TheConstants.{MOST_RECORDS}
use Rattle.kr_defs.specs.declared.record.Item.TheVariants as items
use Rattle.kr_defs.specs.declared.record.Record.{Record}
use Rattle.kr_defs.specs.ImageLaws.{as_items}
use Rattle.law_batch_limits.specs.Fitting.{FitsBatch}

same_length : (records : List Record) → length (as_items records) ≡ length records
same_length records = length-map records (λ (r : Record). items.Record r)

pub items_some : (records : List Record) → 1 ≤ length records → 1 ≤ length (as_items records)
items_some records some = subst (λ n. 1 ≤ n) (sym (same_length records)) some

pub items_few : (records : List Record) → FitsBatch records → length (as_items records) ≤ MOST_RECORDS
items_few records fits = subst (λ n. n ≤ MOST_RECORDS) (sym (same_length records)) fits.few

pub ruleset fits = (items_some, items_few)

higher_by : (z : ℤ) (n : ℕ) → 1 ≤ n → int_lt z (z +ℤ pos n) ≡ true
higher_by z n some = grind (arith, ints)

pub at_least_one : (n : ℕ) → false ≡ (n == 0) → 1 ≤ n
at_least_one n is = grind arith

pub is_above : (z : ℤ) (records : List Record) → 1 ≤ length records → IsTrue (int_lt z (z +ℤ pos (length records)))
is_above z records some = higher_by z (length records) some

pub ruleset some_records = (at_least_one, is_above)
