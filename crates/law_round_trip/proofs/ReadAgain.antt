-- A batch that stands in fewer than 2^27 bytes, and has records, can be written again.
use Rattle.std.proofs.Common.{◌≡◌, ℕ, zero, suc, ℤ, pos, ◌+◌, ◌*◌, ◌^◌, ◌<◌, ◌≤◌, Bool, true, false, List, [], ◌∷◌, length, sym, subst, arith, lit≤}
use Rattle.std.specs.Prelude.{FitsSigned}
use Rattle.std.specs.List.{All, sum_by}
use Rattle.std.specs.Int.{w32, w64}
use Rattle.std.proofs.Math.ListN.{replicate}
use Rattle.std.proofs.lemmas.List.Elements.{All-nil, All-cons, All-head, All-tail}
use Rattle.std.proofs.lemmas.List.Sums.{sum_by-cons}
use Rattle.kr_defs.specs.declared.limits.TheConstants.{MOST_RECORDS}
use Rattle.kr_defs.specs.declared.record.Record.{Record}
use Rattle.kr_defs.specs.declared.record.Item.{Item}
use Rattle.kr_defs.specs.declared.record.Item.TheVariants as items
use Rattle.kr_defs.specs.Sizes as sizes
use Rattle.kr_wire.specs.Laws.{IsBytes}
use Rattle.kr_wire.specs.Grammar.{◌⌢◌, Exactly}
use Rattle.kr_wire.proofs.FormLaws.{Follows, free, ◌beside◌, then, signed, exactly}
use Rattle.kr_record.specs.Encodable.{IsEncodable, IsHeld}
use Rattle.kr_record.proofs.RecordForms.{short, held, cost, size}
use Rattle.kr_batch.specs.declared.Batch.{Batch}
use Rattle.kr_batch.specs.Grammar.{IsSized, IsBody, IsEntry, AreEntries, IsCount, IsFixed, AreItems, IsBatch}
use Rattle.kr_batch.specs.BatchBytes.{IsWritable, IsHeldItem, IsRegular, item_value, values_size}
use Rattle.law_round_trip.specs.Items.{HasRecords}

-- ---- a record's value

sized : (piece : List ℕ) → Follows (IsSized piece) (8 * length piece) (length piece < 2 ^ 31) (IsBytes piece)
sized piece = then (free beside exactly piece) (omega arith) (λ p. p.1) (λ q. q.1)

body : (delta : ℤ) (value : List ℕ) → Follows (IsBody (delta, value)) (8 * length value) (length value < 2 ^ 31) (IsBytes value)
body delta value = then (free beside free beside free beside free beside sized value beside free) (omega arith) (λ p. p.1.1.1.1.0) (λ q. q.1.1.1.1.0)

entry : (at : ℕ) (r : Record) → Follows (IsEntry at r) (sizes.value_bytes r) (IsEncodable r) (IsHeld r)
entry at r = record {
  cost = λ bytes is.
      let frame = is.spelled in
      omega (arith, cost r is.value is.is, (body (pos at) is.value).cost frame.body frame.whole, (sized frame.body).cost bytes frame.spelled);
  short = λ bytes is few. let frame = is.spelled in short r is.value is.is ((body (pos at) is.value).short frame.body frame.whole ((sized frame.body).short bytes frame.spelled few));
  held = λ bytes is fit. let frame = is.spelled in held r is.value is.is ((body (pos at) is.value).held frame.body frame.whole ((sized frame.body).held bytes frame.spelled fit));
}

-- ---- records

abbrev item_bytes : Item → ℕ
item_bytes (items.Record r) = sizes.value_bytes r
item_bytes items.Control = 0

entries : (all : List Item) (at : ℕ) → Follows (AreEntries at all) (sum_by item_bytes all) (All IsWritable all) (All IsHeldItem all)
entries [] at = then free (omega arith) (λ p. All-nil IsWritable) (λ q. All-nil IsHeldItem)
entries (items.Record r ∷ others) at =
    then (entry at r beside entries others (at + 1)) (omega (arith, sum_by-cons item_bytes (items.Record r) others))
    (λ p. All-cons IsWritable (items.Record r) others p.0 p.1)
    (λ q. All-cons IsHeldItem (items.Record r) others q.0 q.1)
entries (items.Control ∷ others) at = record { cost = λ bytes is. absurd is; short = λ bytes is few. absurd is; held = λ bytes is fit. absurd is }

-- the values, as long as they are written
values_long : (all : List Item) → All IsWritable all → values_size all ≤ sum_by item_bytes all
values_long [] fit = omega arith
values_long (items.Record r ∷ others) fit =
    let writable = All-tail IsWritable (items.Record r) others fit in
    omega (arith, size r (All-head IsWritable (items.Record r) others fit), values_long others writable, sum_by-cons (λ x. length (item_value x)) (items.Record r) others, sum_by-cons item_bytes (items.Record r) others)
values_long (items.Control ∷ others) fit = absurd (All-head IsWritable items.Control others fit)

-- the items of a batch that has records
items_stand : (control : Bool) (all : List Item) (bytes : List ℕ) → 1 ≤ length all → HasRecords all → AreItems control all bytes → AreEntries 0 all bytes
items_stand true [] bytes some has is = absurd (omega arith)
items_stand true (items.Record r ∷ others) bytes some has is = absurd (let same : items.Record r ∷ others ≡ items.Control ∷ _ = is in cc)
items_stand true (items.Control ∷ others) bytes some has is = absurd cc
items_stand false all bytes some has is = is

-- ---- the items of any batch, records or not

controls_held : (n : ℕ) → All IsHeldItem (replicate n items.Control)
controls_held zero = All-nil IsHeldItem
controls_held (suc n) = All-cons IsHeldItem items.Control (replicate n items.Control) tt (controls_held n)

items_held : (control : Bool) (all : List Item) (bytes : List ℕ) → AreItems control all bytes → IsBytes bytes → All IsHeldItem all
items_held true all bytes is known = subst (All IsHeldItem) (sym is) (controls_held (length all))
items_held false all bytes is known = (entries all 0).held bytes is known

-- ---- the fields before the records

begun : {One More : List ℕ → Type 0} {m : ℕ} {Held : Type 0} (behind : List ℕ) → Follows One m (Unit {0}) Held → Follows ((One ⌢ More) ⌢ Exactly behind) (8 * length behind) (Unit {0}) (Held × IsBytes behind)
begun behind one = then ((one beside free) beside exactly behind) (omega arith) (λ p. tt) (λ q. (q.0.0, q.1))

fixed : (control : Bool) (time : ℤ) (n : ℕ) (records : List ℕ)
    → Follows (IsFixed (control, time, n) ⌢ Exactly records) (8 * length records) (Unit {0}) ((FitsSigned w64 time × ((1 ≤ n) × (n ≤ MOST_RECORDS))) × IsBytes records)
fixed control time n records =
    let count : Follows (IsCount n) 0 (Unit {0}) ((1 ≤ n) × (n ≤ MOST_RECORDS)) = record { cost = λ bytes is. omega arith; short = λ bytes is few. tt; held = λ bytes is fit. (is.some, is.few) } in
    then ((free beside free beside signed w64 time (lit≤ tt) beside free beside count) beside exactly records) (omega arith) (λ p. tt) (λ q. ((q.0.1.1.0, q.0.1.1.1.1), q.1))

-- ---- a batch

pub read_regular : (batch : Batch) (bytes : List ℕ) → IsBatch batch bytes → IsBytes bytes → length bytes < 2 ^ 27 → HasRecords batch.items → IsRegular batch
read_regular batch bytes is known few some =
    let starts = begun is.behind (signed w64 batch.base (lit≤ tt)) in
    let sums = begun is.checked (signed w32 batch.epoch (lit≤ tt)) in
    let fixes = fixed is.control batch.time (length batch.items) is.records in
    let all = entries batch.items 0 in
    let started = starts.held bytes is.start known in
    let summed = sums.held is.behind is.sum started.1 in
    let found = fixes.held is.checked is.fixed summed.1 in
    let stand = items_stand is.control batch.items is.records found.0.1.0 some is.items in
    let small : length is.records < 2 ^ 27 = omega (arith, starts.cost bytes is.start, sums.cost is.behind is.sum, fixes.cost is.checked is.fixed) in
    let writable = all.short is.records stand (omega arith) in
    record {
      based = is.based;
      base = started.0;
      epoch = summed.0;
      time = found.0.0;
      some = found.0.1.0;
      few = found.0.1.1;
      each = writable;
      held = all.held is.records stand found.1;
      small = omega (arith, all.cost is.records stand, values_long batch.items writable);
    }

pub read_held : (batch : Batch) (bytes : List ℕ) → IsBatch batch bytes → IsBytes bytes → All IsHeldItem batch.items
read_held batch bytes is known =
    let started = (begun is.behind (signed w64 batch.base (lit≤ tt))).held bytes is.start known in
    let summed = (begun is.checked (signed w32 batch.epoch (lit≤ tt))).held is.behind is.sum started.1 in
    let found = (fixed is.control batch.time (length batch.items) is.records).held is.checked is.fixed summed.1 in
    items_held is.control batch.items is.records is.items found.1
