-- Bytes that stand for an image are read as it, and what is read stands for it.
use Rattle.std.proofs.Common.{◌≡◌, ◌∙◌, ℕ, ℤ, pos, negsuc, zero, suc, ◌+◌, ◌≤◌, false, List, [], ◌∷◌, ◌++◌, length, length-append, Result, Ok, Err, refl, sym, ap, subst, arith}
use Rattle.std.specs.Prelude.{not, ◌||◌, ◌≤ℤ◌, int_lt, unsigned_abs, nat_lt}
use Rattle.std.specs.Int.{w64}
use Rattle.std.specs.List.{list_any}
use Rattle.std.specs.Ordering.{int_eq}
use Rattle.std.proofs.lemmas.Bool.{le-ltb, ltb-false}
use Rattle.std.proofs.lemmas.Int.{ints}
use Rattle.std.proofs.lemmas.List.{length-map, map-append}
use Rattle.kr_defs.specs.declared.record.Record.{Record}
use Rattle.kr_defs.specs.declared.record.Item.{Item}
use Rattle.kr_defs.specs.declared.record.Item.TheVariants as items
use Rattle.kr_defs.specs.declared.ill.Ill.{Ill}
use Rattle.kr_defs.specs.Image.{Image}
use Rattle.kr_defs.specs.ImageLaws.{as_items}
use Rattle.kr_defs.proofs.IdLists.{id_itself, same_id}
use Rattle.kr_defs.proofs.Tests.{neither}
use Rattle.kr_wire.specs.declared.WireFault.{WireFault}
use Rattle.kr_wire.specs.Reading.{◌>>=◌, signed_at}
use Rattle.kr_wire.specs.Grammar.{◌⌢◌, Exactly, IsSigned}
use Rattle.kr_wire.proofs.ReadingLaws.{IsBytes, IsBytes-before, IsBytes-behind, bind_ok, guard_ok, is_ok, complete_bind, complete_guard}
use Rattle.kr_wire.proofs.Numbers.{signed_law}
use Rattle.kr_batch.specs.declared.Batch.{Batch}
use Rattle.kr_batch.specs.declared.fault.BatchFault.{BatchFault}
use Rattle.kr_batch.specs.Reading.{batch_of}
use Rattle.kr_batch.specs.Grammar.{IsBatch}
use Rattle.kr_batch.proofs.Batches.{of_sound, of_complete}
use Rattle.kr_batch.proofs.Frames.{is_true}
use Rattle.kr_snapshot.specs.declared.fault.ImageFault.{ImageFault}
use Rattle.kr_snapshot.specs.Grammar.{AreParts, all_of, IsImage}
use Rattle.kr_snapshot.specs.Reading.{Progress, nothing_found, headed, numbers_at, items_read, is_control, batch_read, batch_refused, whole_read, image_at_end, image_of}
use Rattle.kr_snapshot.proofs.BatchPieces.{front_at, batches_read, whole_image, pieces_whole}
use Rattle.kr_snapshot.proofs.RecordsRead.{records_sound, records_complete, items_append, none_control, only_records}
use Rattle.kr_snapshot.proofs.Fronts.{front_complete, front_sound, part_some}

-- that it is this image
abbrev done : Image → Result Image ImageFault
done image = Ok image

abbrev pair_of : ℤ → Image → ℤ × Image
pair_of offset image = (offset, image)

abbrev meant : Image → Result Image Ill
meant image = Ok image

refused_ok : {X : Type 0} (found : ℕ) (r : Result X BatchFault) (x : X) → batch_refused found r ≡ Ok x → r ≡ Ok x
refused_ok {X} found (Ok y) x e = let same : y ≡ x = is_ok _ _ e in ap (λ z. let r : Result X BatchFault = Ok z in r) same
refused_ok found (Err d) x e = absurd cc

headed_ok : {X : Type 0} (r : Result X WireFault) (x : X) → headed r ≡ Ok x → r ≡ Ok x
headed_ok {X} (Ok y) x e = let same : y ≡ x = is_ok _ _ e in ap (λ z. let r : Result X WireFault = Ok z in r) same
headed_ok (Err d) x e = absurd cc

items_long : (rs : List Record) → length (as_items rs) ≡ length rs
items_long rs = length-map rs (λ r. items.Record r)

-- ---- a batch

pub batch_done : (p q : Progress) (rs : List Record) (batch : Batch) → batch.base ≡ pos p.found → batch.items ≡ as_items rs → p.found + length rs ≤ p.expected
    → items_read p (as_items rs) ≡ Ok q → batch_read p batch ≡ Ok q
unfolding batch_read
batch_done p q rs batch base items few read =
    let long = items_long rs in
    rw (base, items)
    (complete_guard _ _ _ _ (ap not (id_itself (pos p.found)))
    (complete_guard _ _ _ _ (none_control rs)
    (complete_guard _ _ _ _ (le-ltb p.expected (p.found + length (as_items rs)) (omega (arith, long, few))) read)))

pub record BatchIs (p q : Progress) (batch : Batch) : Type 0 where
  pub records : List Record
  pub base : batch.base ≡ pos p.found
  pub all : batch.items ≡ as_items records
  pub few : p.found + length records ≤ p.expected
  pub read : items_read p (as_items records) ≡ Ok q

batch_sound : (p q : Progress) (batch : Batch) → batch_read p batch ≡ Ok q → BatchIs p q batch
unfolding batch_read
batch_sound p q batch e =
    let a = guard_ok (not (int_eq batch.base (pos p.found))) _ _ q e in
    let b = guard_ok (list_any is_control batch.items) _ _ q a.1 in
    let c = guard_ok (nat_lt p.expected (p.found + length batch.items)) _ _ q b.1 in
    let o = only_records batch.items b.0 in
    let few = ltb-false p.expected (p.found + length batch.items) c.0 in
    let long = items_long o.0 in
    let same = ap (λ (is : List Item). length is) o.1 in
    record {
      records = o.0;
      base = same_id batch.base (pos p.found) (is_true (int_eq batch.base (pos p.found)) a.0);
      all = o.1;
      few = omega (arith, few, long, same);
      read = subst (λ (is : List Item). items_read p is ≡ Ok q) o.1 c.1;
    }

-- ---- all batches

whole_done : (p q : Progress) (batch : Batch) (front : List ℕ) → IsBatch batch front → batch_read p batch ≡ Ok q → whole_read p front ≡ Ok q
unfolding whole_read
whole_done p q batch front is read = complete_bind (batch_refused p.found (batch_of front)) (batch_read p) batch q (ap (batch_refused p.found) (of_complete front batch is)) read

ended_is : (most : ℕ) (p : Progress) → batches_read most p [] ≡ image_at_end p
ended_is zero p = refl
ended_is (suc most) p = refl

first_batch : (most : ℕ) (p next : Progress) (image : Image) (bytes left right : List ℕ) → bytes ≡ left ++ right → 1 ≤ length bytes
    → front_at (left ++ right) ≡ Ok (left, right) → whole_read p left ≡ Ok next → batches_read most next right ≡ Ok image → batches_read (suc most) p bytes ≡ Ok image
first_batch most p next image [] left right is some front own behind = absurd (omega (arith, some))
first_batch most p next image (b ∷ bytes) left right is some front own behind =
    complete_bind (batch_refused p.found (front_at (b ∷ bytes))) _ (left, right) image (ap (λ (l : List ℕ). batch_refused p.found (front_at l)) is ∙ ap (batch_refused p.found) front)
    (complete_bind (whole_read p left) _ next image own behind)

pub batches_complete : (parts : List (List Record)) (most : ℕ) (p q : Progress) (bytes : List ℕ) → length bytes ≤ most → AreParts p.found parts bytes
    → p.found + length (all_of parts) ≡ p.expected → items_read p (as_items (all_of parts)) ≡ Ok q → batches_read most p bytes ≡ Ok q.image
batches_complete [] most p q bytes few spelled whole read =
    ap (batches_read most p) spelled ∙ (ended_is most p
    ∙ complete_guard (nat_lt p.found p.expected) _ _ q.image (le-ltb p.found p.expected (omega (arith, whole))) (ap (λ (x : Progress). done x.image) (is_ok _ _ read)))
batches_complete (rs ∷ parts) zero p q bytes few spelled whole read =
    let some = part_some spelled.first.batch spelled.left spelled.first.spelled in
    let more = length-append spelled.left spelled.right in
    let all = ap (λ (l : List ℕ). length l) spelled.is in
    absurd (omega (arith, some, more, all, few))
batches_complete (rs ∷ parts) (suc most) p q bytes few spelled whole read =
    let part = spelled.first in
    let split : items_read p (as_items rs ++ as_items (all_of parts)) ≡ Ok q = ap (items_read p) (sym (map-append (λ r. items.Record r) rs (all_of parts))) ∙ read in
    let a = bind_ok (items_read p (as_items rs)) (λ next. items_read next (as_items (all_of parts))) q (sym (items_append p (as_items rs) (as_items (all_of parts))) ∙ split) in
    let next : Progress = a.0 in
    let s = records_sound rs p next a.1 in
    let long = length-append rs (all_of parts) in
    let some = part_some part.batch spelled.left part.spelled in
    let more = length-append spelled.left spelled.right in
    let all = ap (λ (l : List ℕ). length l) spelled.is in
    let found = s.found in
    let expected = s.expected in
    first_batch most p next q.image bytes spelled.left spelled.right spelled.is (omega (arith, some, more, all))
    (front_complete part.batch spelled.left spelled.right part.spelled)
    (whole_done p next part.batch spelled.left part.spelled (batch_done p next rs part.batch part.base part.items (omega (arith, whole, long)) a.1))
    (batches_complete parts most next q spelled.right (omega (arith, some, more, all, few)) (subst (λ (n : ℕ). AreParts n parts spelled.right) (sym found) spelled.second) (omega (arith, whole, long, found, expected)) a.2)

-- what bytes are that were read to their end
pub record AllRead (p : Progress) (bytes : List ℕ) (image : Image) : Type 0 where
  pub parts : List (List Record)
  pub after : Progress
  pub spelled : AreParts p.found parts bytes
  pub read : items_read p (as_items (all_of parts)) ≡ Ok after
  pub whole : p.found + length (all_of parts) ≡ p.expected
  pub is : after.image ≡ image

record WholeIs (p q : Progress) (front : List ℕ) : Type 0 where
  batch : Batch
  spelled : IsBatch batch front
  inner : BatchIs p q batch

whole_sound : (p q : Progress) (front : List ℕ) → IsBytes front → whole_read p front ≡ Ok q → WholeIs p q front
unfolding whole_read
whole_sound p q front fits e =
    let a = bind_ok (batch_refused p.found (batch_of front)) (batch_read p) q e in
    record { batch = a.0; spelled = of_sound front a.0 fits (refused_ok p.found (batch_of front) a.0 a.1); inner = batch_sound p q a.0 a.2 }

pub batches_sound : (most : ℕ) (p : Progress) (bytes : List ℕ) (image : Image) → IsBytes bytes → length bytes ≤ most → p.found ≤ p.expected
    → batches_read most p bytes ≡ Ok image → AllRead p bytes image
batches_sound most p [] image fits few within e =
    let g = guard_ok (nat_lt p.found p.expected) _ (done p.image) image (sym (ended_is most p) ∙ e) in
    let enough = ltb-false p.found p.expected g.0 in
    record { parts = []; after = p; spelled = refl; read = refl; whole = omega (arith, enough, within); is = is_ok _ _ g.1 }
batches_sound zero p (b ∷ bytes) image fits few within e = absurd (omega (arith, few))
batches_sound (suc most) p (b ∷ bytes) image fits few within e =
    let whole_bytes : List ℕ = b ∷ bytes in
    let a = bind_ok (batch_refused p.found (front_at whole_bytes)) (λ front. whole_read p front.0 >>= λ next. batches_read most next front.1) image e in
    let split = front_sound whole_bytes a.0 fits (refused_ok p.found (front_at whole_bytes) a.0 a.1) in
    let w = bind_ok (whole_read p a.0.0) (λ next. batches_read most next a.0.1) image a.2 in
    let t = whole_sound p w.0 a.0.0 (IsBytes-before a.0.0 a.0.1 whole_bytes split.parts fits) w.1 in
    let rs : List Record = t.inner.records in
    let s = records_sound rs p w.0 t.inner.read in
    let all = ap (λ (l : List ℕ). length l) split.parts in
    let more = length-append a.0.0 a.0.1 in
    let some = split.some in
    let found = s.found in
    let expected = s.expected in
    let most_records = t.inner.few in
    let i = batches_sound most w.0 a.0.1 image (IsBytes-behind a.0.0 a.0.1 whole_bytes split.parts fits) (omega (arith, all, more, some, few)) (omega (arith, found, expected, most_records)) w.2 in
    let long = length-append rs (all_of i.parts) in
    let whole = i.whole in
    record {
      parts = rs ∷ i.parts;
      after = i.after;
      spelled = record {
        left = a.0.0;
        right = a.0.1;
        is = split.parts;
        first = record { batch = t.batch; base = t.inner.base; items = t.inner.all; spelled = t.spelled };
        second = subst (λ (n : ℕ). AreParts n i.parts a.0.1) found i.spelled;
      };
      read = ap (items_read p) (map-append (λ r. items.Record r) rs (all_of i.parts))
          ∙ (items_append p (as_items rs) (as_items (all_of i.parts)) ∙ complete_bind (items_read p (as_items rs)) _ w.0 i.after t.inner.read i.read);
      whole = omega (arith, whole, long, found, expected);
      is = i.is;
    }

-- ---- the head

not_negative : (z : ℤ) → int_lt z (pos 0) ≡ false → (pos 0 ≤ℤ z) × (pos (unsigned_abs z) ≡ z)
not_negative (pos n) test = (omega (arith, ints), refl)
not_negative (negsuc n) test = absurd cc

not_below : (z : ℤ) → pos 0 ≤ℤ z → int_lt z (pos 0) ≡ false
not_below (pos n) le = le-ltb n 0 (omega arith)
not_below (negsuc n) le = absurd (omega (arith, ints))

pub record IsHead (x : (ℤ × ℕ) × List ℕ) (bytes : List ℕ) : Type 0 where
  pub natural : pos 0 ≤ℤ x.0.0
  pub spelled : (IsSigned w64 x.0.0 ⌢ IsSigned w64 (pos x.0.1) ⌢ Exactly x.1) bytes
  pub small : IsBytes x.1

head_sound : (bytes : List ℕ) (x : (ℤ × ℕ) × List ℕ) → IsBytes bytes → numbers_at bytes ≡ Ok x → IsHead x bytes
unfolding numbers_at
head_sound bytes x fits e =
    let a = bind_ok (signed_at w64 bytes) _ x e in
    let b = bind_ok (signed_at w64 a.0.1) _ x a.2 in
    let g = guard_ok (int_lt a.0.0 (pos 0) || int_lt b.0.0 (pos 0)) _ _ x b.2 in
    let n = neither (int_lt a.0.0 (pos 0)) (int_lt b.0.0 (pos 0)) g.0 in
    let f = (signed_law w64).sound bytes fits a.0.0 a.0.1 a.1 in
    let behind = IsBytes-behind f.front a.0.1 bytes f.parts fits in
    let h = (signed_law w64).sound a.0.1 behind b.0.0 b.0.1 b.1 in
    let count = not_negative b.0.0 n.1 in
    let there : IsHead ((a.0.0, unsigned_abs b.0.0), b.0.1) bytes = record {
      natural = (not_negative a.0.0 n.0).0;
      spelled = record {
        left = f.front;
        right = a.0.1;
        is = f.parts;
        first = f.holds;
        second = record { left = h.front; right = b.0.1; is = h.parts; first = subst (λ (z : ℤ). IsSigned w64 z h.front) (sym count.1) h.holds; second = refl };
      };
      small = IsBytes-behind h.front b.0.1 a.0.1 h.parts behind;
    } in
    subst (λ (y : (ℤ × ℕ) × List ℕ). IsHead y bytes) (is_ok _ _ g.1) there

head_complete : (offset : ℤ) (count : ℕ) (bytes rest : List ℕ) → pos 0 ≤ℤ offset → (IsSigned w64 offset ⌢ IsSigned w64 (pos count) ⌢ Exactly rest) bytes → numbers_at bytes ≡ Ok ((offset, count), rest)
unfolding numbers_at
head_complete offset count bytes rest least is =
    complete_bind (signed_at w64 bytes) _ (offset, is.right) _ (ap (signed_at w64) is.is ∙ (signed_law w64).complete offset is.left is.right is.first)
    (complete_bind (signed_at w64 is.right) _ (pos count, rest) _ (ap (signed_at w64) (is.second.is ∙ ap (λ (l : List ℕ). is.second.left ++ l) is.second.second) ∙ (signed_law w64).complete (pos count) is.second.left rest is.second.first)
    (complete_guard (int_lt offset (pos 0) || int_lt (pos count) (pos 0)) _ _ _ (rw (not_below offset least) (le-ltb count 0 (omega arith))) refl))

-- ---- the laws

pub image_complete : (offset : ℤ) (image : Image) (bytes : List ℕ) → IsImage offset image bytes → image_of bytes ≡ Ok (offset, image)
unfolding whole_image
image_complete offset image bytes is =
    pieces_whole bytes ∙ (
    let rs : List Record = all_of is.parts in
    let behind : List ℕ = is.spelled.second.right in
    let r = records_complete rs (nothing_found (length rs)) image is.makes.ordered is.makes.applied in
    let head = head_complete offset (length rs) bytes behind is.natural (record {
      left = is.spelled.left;
      right = is.spelled.right;
      is = is.spelled.is;
      first = is.spelled.first;
      second = record { left = is.spelled.second.left; right = behind; is = is.spelled.second.is; first = is.spelled.second.first; second = refl };
    }) in
    let image_is : done r.0.image ≡ Ok image = ap (λ (i : Image). done i) (sym r.2) in
    complete_bind (headed (numbers_at bytes)) _ ((offset, length rs), behind) _ (ap headed head)
    (complete_bind (batches_read (length behind) (nothing_found (length rs)) behind) _ image _
    (batches_complete is.parts (length behind) (nothing_found (length rs)) r.0 behind (omega arith) is.spelled.second.second (omega arith) r.1 ∙ image_is) refl))

pub image_sound : (bytes : List ℕ) (offset : ℤ) (image : Image) → IsBytes bytes → image_of bytes ≡ Ok (offset, image) → IsImage offset image bytes
unfolding whole_image
image_sound bytes offset image fits e =
    let a = bind_ok (headed (numbers_at bytes)) _ (offset, image) (sym (pieces_whole bytes) ∙ e) in
    let h = head_sound bytes a.0 fits (headed_ok (numbers_at bytes) a.0 a.1) in
    let b = bind_ok (batches_read (length a.0.1) (nothing_found a.0.0.1) a.0.1) _ (offset, image) a.2 in
    let all = batches_sound (length a.0.1) (nothing_found a.0.0.1) a.0.1 b.0 h.small (omega arith) (omega arith) b.1 in
    let s = records_sound (all_of all.parts) (nothing_found a.0.0.1) all.after all.read in
    let whole : length (all_of all.parts) ≡ a.0.0.1 = (let w = all.whole in omega (arith, w)) in
    let there : IsImage a.0.0.0 b.0 bytes = record {
      parts = all.parts;
      natural = h.natural;
      makes = record { ordered = s.ordered; applied = s.applied ∙ ap (λ (i : Image). meant i) all.is };
      spelled = record {
        left = h.spelled.left;
        right = h.spelled.right;
        is = h.spelled.is;
        first = h.spelled.first;
        second = record {
          left = h.spelled.second.left;
          right = a.0.1;
          is = h.spelled.second.is ∙ ap (λ (l : List ℕ). h.spelled.second.left ++ l) h.spelled.second.second;
          first = subst (λ (n : ℕ). IsSigned w64 (pos n) h.spelled.second.left) (sym whole) h.spelled.second.first;
          second = all.spelled;
        };
      };
    } in
    let same : pair_of a.0.0.0 b.0 ≡ pair_of offset image = is_ok _ _ b.2 in
    subst (λ (x : ℤ × Image). IsImage x.0 x.1 bytes) same there

pub image_one : (bytes : List ℕ) (a b : ℤ) (i j : Image) → IsImage a i bytes → IsImage b j bytes → (a ≡ b) × (i ≡ j)
image_one bytes a b i j first second =
    let same : pair_of a i ≡ pair_of b j = is_ok _ _ (sym (image_complete a i bytes first) ∙ image_complete b j bytes second) in
    (ap (λ (x : ℤ × Image). x.0) same, ap (λ (x : ℤ × Image). x.1) same)

pub ruleset images = (image_sound)
