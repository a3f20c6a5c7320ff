use Rattle.std.proofs.Common.{rules, ◌≡◌, ◌∙◌, ◌-◌, List, ℕ, ◌+◌, length, take, drop, ap, refl, arith}
use Rattle.std.proofs.lemmas.List.{take_all, length-drop}
use Rattle.kr_batch.specs.BatchBytes.{head_bytes, whole_bytes}
use Rattle.kr_batch.specs.Crc.{crc32c}
use Rattle.kr_batch.proofs.Fronts.{set_all}
use Rattle.kr_batch.proofs.Sizes.{head_length}
use Rattle.kr_batch.proofs.encoding.set_head.Goals as goal

pub returns : goal.returns
returns c =
    let items = c.args.whole.now.items in
    let read : List ℕ = c.deref.result.now in
    let behind : take (length read - 21) (drop 21 read) ≡ drop 21 items = take_all (length read - 21) (drop 21 read) (omega (arith, length-drop 21 read)) ∙ ap (λ (l : List ℕ). drop 21 l) c.deref.ensures.value in
    let told : c.deref-2.result.now ≡ head_bytes c.args.base (length (take (length read - 21) (drop 21 read)) + 9) c.args.epoch (crc32c (take (length read - 21) (drop 21 read))) = search rules in
    let head : c.deref-2.result.now ≡ head_bytes c.args.base (length (drop 21 items) + 9) c.args.epoch (crc32c (drop 21 items)) = told ∙ ap (λ (l : List ℕ). head_bytes c.args.base (length l + 9) c.args.epoch (crc32c l)) behind in
    let long : length c.deref-2.result.now ≡ 21 = ap (λ (l : List ℕ). length l) head ∙ head_length _ _ _ _ in
    let new : c.set_front.new.bytes ≡ whole_bytes c.args.base c.args.epoch (drop 21 items) = c.set_front.ensures.bytes ∙ rw (long, head, c.deref_mut.ensures.value) refl in
    set_all c.args.whole.now.len c.set_front.new.bytes items _ (omega (arith, c.deref_mut.ensures.len, ap (λ (l : List ℕ). length l) c.deref_mut.ensures.value)) (omega (arith, c.set_front.ensures.len, ap (λ (l : List ℕ). length l) c.deref_mut.ensures.value)) new
