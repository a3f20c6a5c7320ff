-- Reading records one after the other.
use Rattle.std.proofs.Common.{◌≡◌, ℕ, suc, ◌+◌, ◌-◌, ◌<◌, ◌≤◌, eqb, List, [], ◌∷◌, ◌++◌, append_assoc, Result, Ok, Err, refl, sym, ap, ◌∙◌, arith}
use Rattle.std.proofs.lemmas.Bool.Decides.{nat_tests}
use Rattle.std.proofs.lemmas.List.{append-nil}
use Rattle.kr_defs.specs.declared.record.Record.{Record}
use Rattle.kr_defs.specs.declared.record.Item.{Item}
use Rattle.kr_defs.specs.declared.record.Item.TheVariants as items
use Rattle.kr_wire.specs.Reading.{◌>>=◌}
use Rattle.kr_batch.specs.declared.fault.BatchFault.{BatchFault}
use Rattle.kr_batch.specs.Answers.{IsFault}
use Rattle.kr_batch.specs.Reading.{entry_at, records_from}
use Rattle.kr_batch.proofs.Faults.{through}

-- the items that were read, and then those that are still to be read
abbrev pub with_front : List Item → Result (List Item) BatchFault → Result (List Item) BatchFault
with_front xs (Ok ys) = Ok (xs ++ ys)
with_front xs (Err e) = Err e

last_of : (count number : ℕ) → number < count → eqb (number + 1) count ≡ eqb (count - (number + 1)) 0
last_of count number lt = grind (arith, nat_tests)

-- the first of the records that are still to be read
first_of_rest : (count number : ℕ) (bytes : List ℕ) → number < count
    → records_from number (count - number) bytes
    ≡ (entry_at number (eqb (number + 1) count) bytes >>= λ entry. (records_from (number + 1) (count - (number + 1)) entry.1 >>= λ others. Ok (items.Record entry.0 ∷ others)))
unfolding records_from
first_of_rest count number bytes lt =
    let e : count - number ≡ suc (count - (number + 1)) = omega arith in
    rw (e, last_of count number lt) refl

with_more : (xs : List Item) (x : Item) (rest : Result (List Item) BatchFault)
    → with_front (xs ++ x ∷ []) rest ≡ with_front xs (rest >>= λ others. Ok (x ∷ others))
with_more xs x (Ok ys) = ap (λ l. let r : Result (List Item) BatchFault = Ok l in r) (append_assoc xs (x ∷ []) ys)
with_more xs x (Err e) = refl

pub goes_on : (xs : List Item) (count number : ℕ) (bytes : List ℕ) (r : Record) (rest : List ℕ) (whole : Result (List Item) BatchFault) → number < count
    → entry_at number (eqb (number + 1) count) bytes ≡ Ok (r, rest)
    → with_front xs (records_from number (count - number) bytes) ≡ whole
    → with_front (xs ++ items.Record r ∷ []) (records_from (number + 1) (count - (number + 1)) rest) ≡ whole
goes_on xs count number bytes r rest whole lt read so_far =
    with_more xs (items.Record r) (records_from (number + 1) (count - (number + 1)) rest)
    ∙ sym (ap (with_front xs) (first_of_rest count number bytes lt ∙ ap (λ f. f >>= λ entry. (records_from (number + 1) (count - (number + 1)) entry.1 >>= λ others. Ok (items.Record entry.0 ∷ others))) read))
    ∙ so_far

stops : (xs : List Item) (count number : ℕ) (bytes : List ℕ) (whole : Result (List Item) BatchFault) (e : BatchFault) → number < count
    → with_front xs (records_from number (count - number) bytes) ≡ whole
    → entry_at number (eqb (number + 1) count) bytes ≡ Err e → whole ≡ Err e
stops xs count number bytes whole e lt so_far read =
    sym so_far ∙ ap (with_front xs) (first_of_rest count number bytes lt ∙ ap (λ f. f >>= λ entry. (records_from (number + 1) (count - (number + 1)) entry.1 >>= λ others. Ok (items.Record entry.0 ∷ others))) read)

pub ends : (xs : List Item) (count number : ℕ) (bytes : List ℕ) (whole : Result (List Item) BatchFault) (e : BatchFault) → number < count
    → IsFault e (entry_at number (eqb (number + 1) count) bytes)
    → with_front xs (records_from number (count - number) bytes) ≡ whole → IsFault e whole
ends xs count number bytes whole e lt is so_far = through e _ whole (λ f read. stops xs count number bytes whole f lt so_far read) is

pub is_done : (xs : List Item) (count number : ℕ) (bytes : List ℕ) (whole : Result (List Item) BatchFault) → count ≤ number
    → with_front xs (records_from number (count - number) bytes) ≡ whole → whole ≡ Ok xs
unfolding records_from
is_done xs count number bytes whole le so_far =
    let none : count - number ≡ 0 = omega arith in
    sym so_far ∙ ap (λ n. with_front xs (records_from number n bytes)) none ∙ ap (λ l. let r : Result (List Item) BatchFault = Ok l in r) (append-nil xs)
