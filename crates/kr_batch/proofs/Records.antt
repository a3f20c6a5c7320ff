-- Writing records one after the other.
use Rattle.std.proofs.Common.{◌≡◌, ℕ, pos, suc, ◌+◌, ◌<◌, ◌≤◌, List, [], ◌∷◌, ◌++◌, length, get_or, drop, append_assoc, sym, ap, ◌∙◌, add-one, drop-cons, arith}
use Rattle.std.proofs.lemmas.List.{append-nil}
use Rattle.std.proofs.Math.ListN.{drop_of_length-le}
use Rattle.kr_defs.specs.declared.record.Item.{Item}
use Rattle.kr_wire.specs.Spelling.{varint32}
use Rattle.kr_batch.specs.BatchBytes.{front_bytes, record_body, record_bytes, records_bytes, item_value}

pub goes_on : (old new whole : List ℕ) (items : List Item) (i : ℕ) (item : Item) → i < length items → item ≡ get_or items i item
    → new ≡ old ++ record_bytes i (item_value item) → old ++ records_bytes i (drop i items) ≡ whole
    → new ++ records_bytes (i + 1) (drop (i + 1) items) ≡ whole
unfolding records_bytes
goes_on old new whole items i item lt is added so_far =
    let rest : drop i items ≡ item ∷ drop (i + 1) items = rw add-one (drop-cons items i item lt ∙ ap (λ x. x ∷ drop (suc i) items) (sym is)) in
    let one : records_bytes i (drop i items) ≡ record_bytes i (item_value item) ++ records_bytes (i + 1) (drop (i + 1) items) = ap (records_bytes i) rest in
    ap (λ o. o ++ records_bytes (i + 1) (drop (i + 1) items)) added ∙ append_assoc old (record_bytes i (item_value item)) (records_bytes (i + 1) (drop (i + 1) items)) ∙ ap (λ t. old ++ t) (sym one) ∙ so_far

pub ends : (old whole : List ℕ) (items : List Item) (i : ℕ) → length items ≤ i → old ++ records_bytes i (drop i items) ≡ whole → old ≡ whole
unfolding records_bytes
ends old whole items i le so_far = sym (append-nil old) ∙ ap (λ l. old ++ records_bytes i l) (sym (drop_of_length-le items le)) ∙ so_far

-- one more behind them
more_from : (delta : ℕ) (items : List Item) (item : Item) → records_bytes delta (items ++ item ∷ []) ≡ records_bytes delta items ++ record_bytes (delta + length items) (item_value item)
unfolding records_bytes
more_from delta [] item =
    let same : delta ≡ delta + 0 = omega arith in
    append-nil (record_bytes delta (item_value item)) ∙ ap (λ n. record_bytes n (item_value item)) same
more_from delta (first ∷ items) item =
    let next : delta + 1 + length items ≡ delta + length (first ∷ items) = omega arith in
    ap (λ l. record_bytes delta (item_value first) ++ l) (more_from (delta + 1) items item ∙ ap (λ n. records_bytes (delta + 1) items ++ record_bytes n (item_value item)) next)
    ∙ sym (append_assoc (record_bytes delta (item_value first)) (records_bytes (delta + 1) items) (record_bytes (delta + length (first ∷ items)) (item_value item)))

pub records_more : (items : List Item) (item : Item) → records_bytes 0 (items ++ item ∷ []) ≡ records_bytes 0 items ++ record_bytes (length items) (item_value item)
records_more items item =
    let same : 0 + length items ≡ length items = omega arith in
    more_from 0 items item ∙ ap (λ n. records_bytes 0 items ++ record_bytes n (item_value item)) same

-- a record is what stands before its value, the value, and no headers
pub whole_record : (out : List ℕ) (delta : ℕ) (value : List ℕ) → out ++ front_bytes delta value ++ value ++ varint32 (pos 0) ≡ out ++ record_bytes delta value
unfolding record_body
whole_record out delta value = simp append_assoc
