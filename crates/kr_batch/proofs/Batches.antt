-- The laws of records and of a batch.
use Rattle.std.proofs.Common.{Fits, w8, ◌≡◌, ℕ, ℤ, zero, suc, pos, negsuc, ◌+◌, ◌≤◌, Bool, true, false, eqb, ltb, get_or, List, [], ◌∷◌, ◌++◌, length, Some, None, Result, Ok, Err, cond, refl, sym, ap, subst, ◌∙◌, arith}
use Rattle.std.specs.Prelude.{int_lt, not, ◌&&◌, ◌≤ℤ◌, IfOk}
use Rattle.std.specs.Ordering.{int_eq}
use Rattle.std.specs.Result.{result_ok}
use Rattle.std.proofs.Math.ListN.{replicate}
use Rattle.std.proofs.lemmas.Bool.{le-ltb}
use Rattle.std.proofs.lemmas.Int.{ints}
use Rattle.std.proofs.lemmas.List.{length-replicate}
use Rattle.kr_defs.proofs.IdLists.{id_itself, same_id}
use Rattle.kr_defs.specs.declared.record.Record.{Record}
use Rattle.kr_defs.specs.declared.record.Item.{Item}
use Rattle.kr_defs.specs.declared.record.Item.TheVariants as items
use Rattle.kr_wire.specs.declared.WireFault.{WireFault}
use Rattle.kr_wire.specs.Reading.{◌>>=◌, refuse◌when◌else◌}
use Rattle.kr_wire.proofs.ReadingLaws.{IsBytes, IsBytes-before, IsBytes-behind, bind_ok, guard_ok, is_ok, ok_value, ok_rest, read_ok, nothing, complete_guard, complete_bind}
use Rattle.kr_wire.proofs.Numbers.{not_zero}
use Rattle.kr_record.specs.declared.fault.RecordFault.{RecordFault}
use Rattle.kr_record.specs.Reading.{record_of}
use Rattle.kr_record.specs.Grammar.{IsRecord}
use Rattle.kr_record.proofs.RecordLaws.{of_sound as record_sound, of_complete as record_complete}
use Rattle.kr_batch.specs.Crc.{crc32c}
use Rattle.kr_batch.specs.declared.Batch.{Batch}
use Rattle.kr_batch.specs.declared.fault.BatchFault.{BatchFault}
use Rattle.kr_batch.specs.declared.fault.BatchFault.TheVariants as faults
use Rattle.kr_batch.specs.declared.heading.Heading.{Heading}
use Rattle.kr_batch.specs.Answers.{Gives}
use Rattle.kr_batch.specs.Reading.{framing_fault, caused, frame_at, entry_at, records_from, fixed_at, items_of, base_and_rest, sum_of, batch_of, head_in, head_of, is_base}
use Rattle.kr_batch.specs.Grammar.{IsFrame, IsEntry, AreEntries, IsFixed, AreItems, IsBatch}
use Rattle.kr_batch.proofs.Frames.{is_true, frame_law, value_fits}
use Rattle.kr_batch.proofs.Heads.{fixed_law, long, place_sound, place_complete, sum_sound, sum_complete}

-- ---- one record

framed_ok : {X : Type 0} (at : ℕ) (r : Result X WireFault) (x : X) → framing_fault at r ≡ Ok x → r ≡ Ok x
framed_ok {X} at (Ok y) x e = let same : y ≡ x = cc in ap (λ z. let r : Result X WireFault = Ok z in r) same
framed_ok at (Err d) x e = absurd cc

caused_ok : {X : Type 0} (at : ℕ) (r : Result X RecordFault) (x : X) → caused at r ≡ Ok x → r ≡ Ok x
caused_ok {X} at (Ok y) x e = let same : y ≡ x = cc in ap (λ z. let r : Result X RecordFault = Ok z in r) same
caused_ok at (Err d) x e = absurd cc

-- what is read of a record, and that nothing is behind the last one
record ReadsEntry (at : ℕ) (last : Bool) (bytes : List ℕ) (r : Record) (rest : List ℕ) : Type 0 where
  front : List ℕ
  parts : bytes ≡ front ++ rest
  holds : IsEntry at r front
  ended : (last && ltb 0 (length rest)) ≡ false

entry_sound : (at : ℕ) (last : Bool) (bytes : List ℕ) (r : Record) (rest : List ℕ) → IsBytes bytes → entry_at at last bytes ≡ Ok (r, rest) → ReadsEntry at last bytes r rest
unfolding entry_at
entry_sound at last bytes r rest fits e =
    let b = bind_ok (framing_fault at (frame_at bytes)) _ (r, rest) e in
    let g = guard_ok (last && ltb 0 (length b.0.1)) _ _ (r, rest) b.2 in
    let h = guard_ok (not (int_eq b.0.0.0 (pos at))) _ _ (r, rest) g.1 in
    let d = bind_ok (caused at (record_of b.0.0.1)) (λ value. read_ok value b.0.1) (r, rest) h.1 in
    let f = frame_law.sound bytes fits b.0.0 b.0.1 (framed_ok at (frame_at bytes) b.0 b.1) in
    let numbered : b.0.0.0 ≡ pos at = same_id b.0.0.0 (pos at) (is_true (int_eq b.0.0.0 (pos at)) h.0) in
    let of_front : IsBytes f.front = IsBytes-before f.front b.0.1 bytes f.parts fits in
    let of_value : IsBytes b.0.0.1 = value_fits b.0.0.0 b.0.0.1 f.front f.holds of_front in
    let same : d.0 ≡ r = ok_value _ _ _ _ d.2 in
    let behind : b.0.1 ≡ rest = ok_rest _ _ _ _ d.2 in
    let is : IsRecord d.0 b.0.0.1 = record_sound b.0.0.1 d.0 of_value (caused_ok at (record_of b.0.0.1) d.0 d.1) in
    record {
      front = f.front;
      parts = f.parts ∙ ap (λ (t : List ℕ). f.front ++ t) behind;
      holds = record {
        value = b.0.0.1;
        is = subst (λ (z : Record). IsRecord z b.0.0.1) same is;
        spelled = subst (λ (z : ℤ). IsFrame (z, b.0.0.1) f.front) numbered f.holds;
      };
      ended = subst (λ (t : List ℕ). (last && ltb 0 (length t)) ≡ false) behind g.0;
    }

entry_complete : (at : ℕ) (last : Bool) (r : Record) (front rest : List ℕ) → IsEntry at r front → (last && ltb 0 (length rest)) ≡ false → entry_at at last (front ++ rest) ≡ Ok (r, rest)
unfolding entry_at
entry_complete at last r front rest is ended =
    complete_bind (framing_fault at (frame_at (front ++ rest))) _ ((pos at, is.value), rest) _ (ap (framing_fault at) (frame_law.complete (pos at, is.value) front rest is.spelled))
    (complete_guard _ _ _ _ ended (complete_guard _ _ _ _ (ap not (id_itself (pos at)))
    (complete_bind (caused at (record_of is.value)) _ r _ (ap (caused at) (record_complete is.value r is.is)) refl)))

-- ---- records

behind_last : (n : ℕ) (rest : List ℕ) → (eqb n 0 && ltb 0 (length rest)) ≡ false → n ≡ 0 → rest ≡ []
behind_last n rest test none =
    let t : (eqb 0 0 && ltb 0 (length rest)) ≡ false = subst (λ (m : ℕ). (eqb m 0 && ltb 0 (length rest)) ≡ false) none test in
    nothing rest t

entries_sound : (count at : ℕ) (bytes : List ℕ) (all : List Item) → IsBytes bytes → (count ≡ 0 → bytes ≡ []) → records_from at count bytes ≡ Ok all
    → AreEntries at all bytes × (length all ≡ count)
unfolding records_from
entries_sound zero at bytes all fits ended e =
    let same : [] ≡ all = is_ok _ _ e in
    subst (λ (l : List Item). AreEntries at l bytes × (length l ≡ 0)) same (ended refl, refl)
entries_sound (suc n) at bytes all fits ended e =
    let b = bind_ok (entry_at at (eqb n 0) bytes) (λ entry. (records_from (at + 1) n entry.1 >>= λ others. Ok (items.Record entry.0 ∷ others))) all e in
    let d = bind_ok (records_from (at + 1) n b.0.1) (λ others. Ok (items.Record b.0.0 ∷ others)) all b.2 in
    let s = entry_sound at (eqb n 0) bytes b.0.0 b.0.1 fits b.1 in
    let more = entries_sound n (at + 1) b.0.1 d.0 (IsBytes-behind s.front b.0.1 bytes s.parts fits) (behind_last n b.0.1 s.ended) d.1 in
    let same : (items.Record b.0.0 ∷ d.0) ≡ all = is_ok _ _ d.2 in
    subst (λ (l : List Item). AreEntries at l bytes × (length l ≡ suc n)) same
    (record { left = s.front; right = b.0.1; is = s.parts; first = s.holds; second = more.0 }, ap suc more.1)

none_behind : (at : ℕ) (others : List Item) (right : List ℕ) → AreEntries at others right → (eqb (length others) 0 && ltb 0 (length right)) ≡ false
none_behind at [] right is = rw is refl
none_behind at (x ∷ others) right is = rw (not_zero (suc (length others)) (omega arith)) refl

entries_complete : (all : List Item) (at : ℕ) (bytes : List ℕ) → AreEntries at all bytes → records_from at (length all) bytes ≡ Ok all
unfolding records_from
entries_complete [] at bytes is = refl
entries_complete (items.Record r ∷ others) at bytes is =
    ap (λ b. records_from at (suc (length others)) b) is.is
    ∙ complete_bind (entry_at at (eqb (length others) 0) (is.left ++ is.right)) _ (r, is.right) _
    (entry_complete at (eqb (length others) 0) r is.left is.right is.first (none_behind (at + 1) others is.right is.second))
    (complete_bind (records_from (at + 1) (length others) is.right) _ others _ (entries_complete others (at + 1) is.right is.second) refl)
entries_complete (items.Control ∷ others) at bytes is = absurd is

items_sound : (control : Bool) (count : ℕ) (bytes : List ℕ) (all : List Item) → IsBytes bytes → 1 ≤ count → items_of control count bytes ≡ Ok all
    → AreItems control all bytes × (length all ≡ count)
unfolding items_of
items_sound true count bytes all fits some e =
    let same : replicate count items.Control ≡ all = is_ok _ _ e in
    let len : length all ≡ count = ap (λ (l : List Item). length l) (sym same) ∙ length-replicate count items.Control in
    (sym same ∙ ap (λ n. replicate n items.Control) (sym len), len)
items_sound false count bytes all fits some e = entries_sound count 0 bytes all fits (λ none. absurd (omega arith)) e

items_complete : (control : Bool) (all : List Item) (bytes : List ℕ) → AreItems control all bytes → items_of control (length all) bytes ≡ Ok all
unfolding items_of
items_complete true all bytes is = ap (λ l. let r : Result (List Item) BatchFault = Ok l in r) (sym is)
items_complete false all bytes is = entries_complete all 0 bytes is

-- ---- a batch

from_zero : (z : ℤ) → int_lt z (pos 0) ≡ false → pos 0 ≤ℤ z
from_zero (pos n) test = omega (arith, ints)
from_zero (negsuc n) test = absurd cc

not_below : (z : ℤ) → pos 0 ≤ℤ z → int_lt z (pos 0) ≡ false
not_below (pos n) le = le-ltb n 0 (omega arith)
not_below (negsuc n) le = absurd (omega (arith, ints))

-- what is left to read behind the items, the fields before them, the CRC and the size
abbrev with_items : ℤ → ℤ → ℤ → List Item → Result Batch BatchFault
with_items base epoch time all = Ok (record { base = base; epoch = epoch; time = time; items = all })

abbrev with_fixed : ℤ → ℤ → (Bool × ℤ × ℕ) × List ℕ → Result Batch BatchFault
with_fixed base epoch f = refuse (faults.BadOffset 0) when int_lt base (pos 0) else (items_of f.0.0 f.0.2 f.1 >>= with_items base epoch f.0.1)

abbrev with_sum : ℤ → ℤ × List ℕ → Result Batch BatchFault
with_sum base sum = fixed_at sum.1 >>= with_fixed base sum.0

abbrev with_place : ℤ × List ℕ → Result Batch BatchFault
with_place place = sum_of place.1 >>= with_sum place.0

-- what is read in these steps stands for the batch
batch_there : (bytes : List ℕ) (place sum : ℤ × List ℕ) (fixed : (Bool × ℤ × ℕ) × List ℕ) (all : List Item) (batch : Batch) → IsBytes bytes
    → base_and_rest bytes ≡ Ok place → sum_of place.1 ≡ Ok sum → fixed_at sum.1 ≡ Ok fixed → int_lt place.0 (pos 0) ≡ false → items_of fixed.0.0 fixed.0.2 fixed.1 ≡ Ok all
    → with_items place.0 sum.0 fixed.0.1 all ≡ Ok batch → IsBatch batch bytes
batch_there bytes place sum fixed all batch fits of_place of_sum of_fixed based of_items is =
    let p = place_sound bytes place fits of_place in
    let s = sum_sound place.1 sum p.small of_sum in
    let f = fixed_law.sound sum.1 s.small fixed.0 fixed.1 of_fixed in
    let of_records : IsBytes fixed.1 = IsBytes-behind f.front fixed.1 sum.1 f.parts s.small in
    let counted = items_sound fixed.0.0 fixed.0.2 fixed.1 all of_records f.holds.second.second.second.second.some of_items in
    let it : Batch = record { base = place.0; epoch = sum.0; time = fixed.0.1; items = all } in
    let there : IsBatch it bytes = record {
      behind = place.1;
      checked = sum.1;
      records = fixed.1;
      control = fixed.0.0;
      based = from_zero place.0 based;
      fits = p.fits;
      start = p.start;
      sum = s.sum;
      fixed = record { left = f.front; right = fixed.1; is = f.parts; first = subst (λ (n : ℕ). IsFixed (fixed.0.0, fixed.0.1, n) f.front) (sym counted.1) f.holds; second = refl };
      items = counted.0;
    } in
    subst (λ (b : Batch). IsBatch b bytes) (is_ok it batch is) there

pub of_sound : (bytes : List ℕ) (batch : Batch) → IsBytes bytes → batch_of bytes ≡ Ok batch → IsBatch batch bytes
unfolding batch_of
of_sound bytes batch fits e =
    let p = bind_ok (base_and_rest bytes) with_place batch e in
    let s = bind_ok (sum_of p.0.1) (with_sum p.0.0) batch p.2 in
    let f = bind_ok (fixed_at s.0.1) (with_fixed p.0.0 s.0.0) batch s.2 in
    let g = guard_ok (int_lt p.0.0 (pos 0)) (faults.BadOffset 0) (items_of f.0.0.0 f.0.0.2 f.0.1 >>= with_items p.0.0 s.0.0 f.0.0.1) batch f.2 in
    let i = bind_ok (items_of f.0.0.0 f.0.0.2 f.0.1) (with_items p.0.0 s.0.0 f.0.0.1) batch g.1 in
    batch_there bytes p.0 s.0 f.0 i.0 batch fits p.1 s.1 f.1 g.0 i.1 i.2

bound : {A B E : Type 0} (r : Result A E) (next : A → Result B E) (x : A) (answer : Result B E) → r ≡ Ok x → next x ≡ answer → (r >>= next) ≡ answer
bound r next x answer e step = rw e step

-- the fields before the records are read, and then what comes of them
heads_complete : {Y : Type 0} (bytes : List ℕ) (batch : Batch) (is : IsBatch batch bytes) (next : ℤ → ℤ → (Bool × ℤ × ℕ) × List ℕ → Result Y BatchFault) (answer : Result Y BatchFault)
    → next batch.base batch.epoch ((is.control, batch.time, length batch.items), is.records) ≡ answer
    → (base_and_rest bytes >>= λ place. sum_of place.1 >>= λ sum. fixed_at sum.1 >>= next place.0 sum.0) ≡ answer
heads_complete bytes batch is next answer of_next =
    let some = long (batch.epoch, crc32c is.checked) (is.control, batch.time, length batch.items) is.checked is.records is.behind is.sum is.fixed in
    let e : is.checked ≡ is.fixed.left ++ is.records = is.fixed.is ∙ ap (λ (l : List ℕ). is.fixed.left ++ l) is.fixed.second in
    bound (base_and_rest bytes) _ (batch.base, is.behind) answer (place_complete batch.base is.behind bytes some is.fits is.start)
    (bound (sum_of is.behind) _ (batch.epoch, is.checked) answer (sum_complete batch.epoch is.checked is.behind is.sum)
    (bound (fixed_at is.checked) _ ((is.control, batch.time, length batch.items), is.records) answer
    (ap fixed_at e ∙ fixed_law.complete (is.control, batch.time, length batch.items) is.fixed.left is.records is.fixed.first)
    of_next))

pub of_complete : (bytes : List ℕ) (batch : Batch) → IsBatch batch bytes → batch_of bytes ≡ Ok batch
unfolding batch_of
of_complete bytes batch is =
    heads_complete bytes batch is (λ base epoch. with_fixed base epoch) (Ok batch)
    (complete_guard _ _ _ _ (not_below batch.base is.based)
    (complete_bind (items_of is.control (length batch.items) is.records) _ batch.items _ (items_complete is.control batch.items is.records is.items) refl))

-- what a decoder's answer says
pub found : (bytes : List ℕ) (answer : Result Batch BatchFault) → ((i : ℕ) → Fits w8 (get_or bytes i 0)) → Gives answer (batch_of bytes) → IfOk answer (λ b. IsBatch b bytes)
found bytes (Ok b) fits given = of_sound bytes b (λ i. omega (arith, fits i)) given
found bytes (Err e) fits given = tt

pub only : (bytes : List ℕ) (answer : Result Batch BatchFault) → Gives answer (batch_of bytes) → (b : Batch) → IsBatch b bytes → Gives answer (Ok b)
only bytes answer given b is = subst (λ (f : Result Batch BatchFault). Gives answer f) (of_complete bytes b is) given

pub one_value : (bytes : List ℕ) (a b : Batch) → IsBatch a bytes → IsBatch b bytes → a ≡ b
one_value bytes a b is other = is_ok _ _ (sym (of_complete bytes a is) ∙ of_complete bytes b other)

pub ruleset decoded = (found, only, one_value)

-- ---- the head alone

abbrev heading_with : ℤ → ℤ → (Bool × ℤ × ℕ) × List ℕ → Result Heading BatchFault
heading_with base epoch fixed = refuse (faults.BadOffset 0) when not (is_base base) else Ok (record { base = base; epoch = epoch; count = pos fixed.0.2 })

told : (b : Bool) (h : Heading) → result_ok (refuse (faults.BadOffset 0) when not b else Ok h) ≡ cond b (Some h) None
told true h = refl
told false h = refl

pub head_there : (bytes : List ℕ) (batch : Batch) → IsBatch batch bytes → result_ok (head_of bytes) ≡ head_in batch
unfolding head_of
head_there bytes batch is =
    ap result_ok (heads_complete bytes batch is heading_with (heading_with batch.base batch.epoch ((is.control, batch.time, length batch.items), is.records)) refl)
    ∙ told (is_base batch.base) (record { base = batch.base; epoch = batch.epoch; count = pos (length batch.items) })
