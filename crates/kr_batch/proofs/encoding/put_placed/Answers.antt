use Rattle.std.proofs.Common.{◌≡◌, ℕ, pos, ◌+◌, ◌-◌, List, [], ◌∷◌, ◌++◌, length, take, drop, length-append, sym, ap, ◌∙◌, arith}
use Rattle.kr_wire.specs.Spelling.{varint32}
use Rattle.kr_record.specs.Spelling.{record_value}
use Rattle.kr_batch.specs.BatchBytes.{record_body}
use Rattle.kr_batch.proofs.Fronts.{behind, number, set_lengths}
use Rattle.kr_batch.proofs.encoding.put_placed.Goals as goal

pub returns-then-varint_len-width-2-clause-ok : goal.returns-then-varint_len-width-2-clause-ok
returns-then-varint_len-width-2-clause-ok c =
    let width = c.args.width in
    let value = record_value c.args.record.now in
    let numbered = c.in_ok-put_uvarint.ensures.ok ∙ ap (λ (l : List ℕ). c.put_bytes.new.out.items ++ l) (number c.args.delta) in
    let front = c.in_ok-put_bytes-2.ensures.ok ∙ ap (λ (l : List ℕ). l ++ take (width + 1) (1 ∷ 0 ∷ 0 ∷ [])) (numbered ∙ ap (λ (l : List ℕ). l ++ varint32 (pos c.args.delta)) c.in_ok-put_bytes.ensures.ok) in
    let whole = c.in_ok-put_varint.ensures.ok ∙ ap (λ (l : List ℕ). l ++ varint32 (pos 0)) (c.in_ok-append.ensures.ok ∙ ap (λ (l : List ℕ). l ++ value) front) in
    let begins = ap (λ (l : List ℕ). length l) c.as_slice-start.ensures.value in
    let stands = ap (λ (l : List ℕ). length l) (c.as_slice-at.ensures.value ∙ front) in
    let long : length c.as_slice.result.now - length c.as_slice-at.result.now ≡ length value =
    omega (arith, ap (λ (l : List ℕ). length l) (c.as_slice.ensures.value ∙ c.in_ok-append.ensures.ok), ap (λ (l : List ℕ). length l) c.as_slice-at.ensures.value, length-append c.put_bytes-2.new.out.items value) in
    let here : take (length c.deref.result.now - length c.as_slice-at.result.now) (drop (length c.as_slice-at.result.now) c.deref.result.now) ≡ value =
    rw c.as_slice-at.ensures.value (behind c.deref.result.now c.put_bytes-2.new.out.items value (c.deref.ensures.value ∙ c.in_ok-append.ensures.ok)) in
    set_lengths c.args.out.now.items c.args.delta width value c.put_varint.new.out.items c.set_length.new.out.items _ (length c.as_slice-start.result.now) (length c.as_slice-at.result.now) c.body_len-size.result (length c.as_slice.result.now - length c.as_slice-at.result.now)
    c.requires.some c.requires.few whole begins stands (c.body_len-size.ensures.size ∙ ap (λ (l : List ℕ). length (record_body c.args.delta l)) here) long (sym c.varint_len-then-varint_len-width.ensures.len ∙ c.if-varint_len-width-2.true) (sym c.varint_len.ensures.len ∙ c.if-varint_len-width.true) c.set_length.ensures c.set_length-then-varint_len-width-2.ensures
