-- The laws of the fields before the records.
use Rattle.std.proofs.Common.{◌≡◌, ℕ, ℤ, pos, ◌-◌, ◌^◌, ◌<◌, ◌≤◌, Bool, true, false, eqb, ltb, leb, List, [], ◌++◌, length, length-append, Result, Ok, Err, refl, sym, ap, subst, ◌∙◌, arith}
use Rattle.std.specs.Prelude.{not, ◌&&◌, ◌||◌}
use Rattle.std.specs.Ordering.{int_eq}
use Rattle.std.specs.Int.{w8, w16, w32, w64}
use Rattle.std.proofs.lemmas.Bool.{ltb-false, le-ltb}
use Rattle.std.proofs.lemmas.Bool.Decides.{nat_tests}
use Rattle.std.proofs.lemmas.List.{append-nil}
use Rattle.kr_defs.proofs.IdLists.{same_id}
use Rattle.kr_wire.specs.declared.WireFault.{WireFault}
use Rattle.kr_wire.specs.Reading.{Read, number_at}
use Rattle.kr_wire.specs.Grammar.{◌⌢◌, Exactly, IsNumber, IsSigned}
use Rattle.kr_wire.proofs.ReadingLaws.{IsBytes, Law, IsBytes-behind, bind_ok, guard_ok, is_ok, joined, sound_then, sound_last, sound_guard, sound_done, complete_then, complete_last, complete_guard, complete_bind}
use Rattle.kr_wire.proofs.Numbers.{piece_law, number_law, signed_law}
use Rattle.kr_batch.specs.declared.fault.BatchFault.{BatchFault}
use Rattle.kr_batch.specs.Crc.{crc32c}
use Rattle.kr_batch.specs.Reading.{short, start_at, sum_at, fixed_at, is_count, is_short, base_and_rest, sum_of}
use Rattle.kr_batch.specs.Grammar.{compression, is_control, IsPiece, IsSome, IsStart, IsSum, IsCount, IsFixed}
use Rattle.kr_batch.proofs.Frames.{complete_some, is_true}

short_ok : {X : Type 0} (r : Result X WireFault) (x : X) → short r ≡ Ok x → r ≡ Ok x
short_ok {X} (Ok y) x e = let same : y ≡ x = cc in ap (λ z. let r : Result X WireFault = Ok z in r) same
short_ok (Err d) x e = absurd cc

short_law : {X : Type 0} {Is : X → List ℕ → Type 0} {read : List ℕ → Read X} → Law Is read → Law Is (λ bytes. short (read bytes))
short_law {X} {Is} {read} law = record {
  sound = λ bytes fits y rest e. law.sound bytes fits y rest (short_ok (read bytes) (y, rest) e);
  complete = λ x front rest is. ap short (law.complete x front rest is);
}

pub start_law : Law IsStart start_at
unfolding start_at
start_law = record {
  sound = λ bytes fits. sound_then (short_law (signed_law w64)) IsStart _ bytes fits (λ base a rest first more.
      sound_last (short_law (number_law w32)) _ (λ size. (base, size)) rest more (λ size b second. joined a b first second));
  complete = λ x bytes rest is.
      complete_then (short_law (signed_law w64)) x.0 (IsNumber w32 x.1) _ _ rest
      (complete_last (short_law (number_law w32)) x.1 (λ size. (x.0, size)) rest) bytes is;
}

pub sum_law : Law IsSum sum_at
unfolding sum_at
sum_law = record {
  sound = λ bytes fits. sound_then (short_law (signed_law w32)) IsSum _ bytes fits (λ epoch a rest first more.
      sound_then (short_law (signed_law w8)) _ _ rest more (λ magic b rest second more.
      sound_guard _ rest (not (int_eq magic (pos 2))) _ _ (λ test.
      sound_last (short_law (number_law w32)) _ (λ crc. (epoch, crc)) rest more (λ crc c third.
      let two : magic ≡ pos 2 = same_id magic (pos 2) (is_true (int_eq magic (pos 2)) test) in
      joined a (b ++ c) first (joined b c (subst (λ (z : ℤ). IsSigned w8 z b) two second) third)))));
  complete = λ x bytes rest is.
      complete_then (short_law (signed_law w32)) x.0 (IsSigned w8 (pos 2) ⌢ IsNumber w32 x.1) _ _ rest
      (complete_then (short_law (signed_law w8)) (pos 2) (IsNumber w32 x.1) _ _ rest
      (complete_last (short_law (number_law w32)) x.1 (λ crc. (x.0, crc)) rest)) bytes is;
}

both : (a b : Bool) → (a && b) ≡ true → (a ≡ true) × (b ≡ true)
both true b e = (refl, e)
both false b e = absurd cc

none : (a b : Bool) → (a || b) ≡ false → (a ≡ false) × (b ≡ false)
none true b e = absurd cc
none false b e = (refl, e)

counted : (count delta : ℕ) → is_count count delta ≡ true → (1 ≤ count) × (count ≤ 10000) × (delta ≡ count - 1)
counted count delta e =
    let a = both (leb 1 count && leb count 10000) (eqb delta (count - 1)) e in
    let b = both (leb 1 count) (leb count 10000) a.0 in
    let some : leb 1 count ≡ true = b.0 in
    let few : leb count 10000 ≡ true = b.1 in
    let same : eqb delta (count - 1) ≡ true = a.1 in
    (grind (arith, nat_tests), grind (arith, nat_tests), grind (arith, nat_tests))

counts : (count : ℕ) → 1 ≤ count → count ≤ 10000 → is_count count (count - 1) ≡ true
counts count some few = grind (arith, nat_tests)

plainly : (n : ℕ) → ltb 0 n ≡ false → n ≡ 0
plainly n e = let h = ltb-false 0 n e in omega (arith, h)

pub fixed_law : Law IsFixed fixed_at
unfolding fixed_at
fixed_law = record {
  sound = λ bytes fits. sound_then (short_law (number_law w16)) IsFixed _ bytes fits (λ attributes a r first more.
      sound_guard _ r (ltb 0 (compression attributes)) _ _ (λ plain.
      sound_then (short_law (number_law w32)) _ _ r more (λ delta b r second more.
      sound_then (short_law (signed_law w64)) _ _ r more (λ time c r third more.
      sound_then (short_law (piece_law 22)) _ _ r more (λ p d r fourth more.
      sound_then (short_law (number_law w32)) _ _ r more (λ count e r fifth more.
      sound_guard _ r (not (is_count count delta)) _ _ (λ test.
      sound_done _ r (is_control attributes, time, count)
      (let k = counted count delta (is_true (is_count count delta) test) in
      let last : List ℕ → Type 0 = IsCount count in
      let is_count_of : IsCount count e = record { some = k.0; few = k.1; spelled = fifth } in
      let at_end : IsCount count (e ++ []) = rw append-nil is_count_of in
      joined a (b ++ (c ++ (d ++ (e ++ [])))) (record { attributes = attributes; plain = plainly (compression attributes) plain; is = refl; spelled = first })
      (joined b (c ++ (d ++ (e ++ []))) (subst (λ (n : ℕ). IsNumber w32 n b) k.2 second)
      (joined c (d ++ (e ++ [])) third
      (joined d (e ++ []) (record { value = p; spelled = fourth }) at_end)))))))))));
  complete = λ x bytes rest is.
      complete_then (short_law (number_law w16)) is.first.attributes (IsNumber w32 (x.2 - 1) ⌢ IsSigned w64 x.1 ⌢ IsSome (IsPiece 22) ⌢ IsCount x.2) _ (is_control is.first.attributes, x.1, x.2) rest (λ tail t.
      complete_guard _ _ _ _ (rw is.first.plain refl)
      (complete_then (short_law (number_law w32)) (x.2 - 1) (IsSigned w64 x.1 ⌢ IsSome (IsPiece 22) ⌢ IsCount x.2) _ _ rest (λ tail t.
      complete_then (short_law (signed_law w64)) x.1 (IsSome (IsPiece 22) ⌢ IsCount x.2) _ _ rest (λ tail t.
      complete_some (short_law (piece_law 22)) (IsCount x.2) _ _ rest (λ p tail t.
      complete_bind (short (number_at w32 (tail ++ rest))) _ (x.2, rest) _ ((short_law (number_law w32)).complete x.2 tail rest t.spelled)
      (complete_guard _ _ _ _ (ap not (counts x.2 t.some t.few)) refl)) tail t) tail t) tail t))
      bytes (record { left = is.left; right = is.right; is = is.is; first = is.first.spelled; second = is.second })
      ∙ ap (λ (control : Bool). let r : Result ((Bool × ℤ × ℕ) × List ℕ) BatchFault = Ok ((control, x.1, x.2), rest) in r) (sym is.first.is);
}

-- ---- sizes

sum_length : (x : ℤ × ℕ) (bytes : List ℕ) → IsSum x bytes → length bytes ≡ 9
sum_length x bytes is =
    let a = ap (λ (l : List ℕ). length l) is.is in
    let b = ap (λ (l : List ℕ). length l) is.second.is in
    let d = length-append is.left is.right in
    let e = length-append is.second.left is.second.right in
    let f : length is.left ≡ 4 = is.first.spelled.long in
    let g : length is.second.left ≡ 1 = is.second.first.spelled.long in
    let h : length is.second.right ≡ 4 = is.second.second.long in
    omega (arith, a, b, d, e, f, g, h)

fixed_length : (x : Bool × ℤ × ℕ) (bytes : List ℕ) → IsFixed x bytes → length bytes ≡ 40
fixed_length x bytes is =
    let j = is.second in
    let k = j.second in
    let m = k.second in
    let a = ap (λ (l : List ℕ). length l) is.is ∙ length-append is.left is.right in
    let b = ap (λ (l : List ℕ). length l) j.is ∙ length-append j.left j.right in
    let d = ap (λ (l : List ℕ). length l) k.is ∙ length-append k.left k.right in
    let e = ap (λ (l : List ℕ). length l) m.is ∙ length-append m.left m.right in
    let f : length is.left ≡ 2 = is.first.spelled.long in
    let g : length j.left ≡ 4 = j.first.long in
    let h : length k.left ≡ 8 = k.first.spelled.long in
    let i : length m.left ≡ 22 = m.first.spelled.0 in
    let n : length m.right ≡ 4 = m.second.spelled.long in
    omega (arith, a, b, d, e, f, g, h, i, n)

pub long : (x : ℤ × ℕ) (y : Bool × ℤ × ℕ) (checked records bytes : List ℕ) → (IsSum x ⌢ Exactly checked) bytes → (IsFixed y ⌢ Exactly records) checked → 49 ≤ length bytes
long x y checked records bytes sum fixed =
    let a = ap (λ (l : List ℕ). length l) sum.is ∙ length-append sum.left sum.right in
    let b = ap (λ (l : List ℕ). length l) fixed.is ∙ length-append fixed.left fixed.right in
    let d = ap (λ (l : List ℕ). length l) sum.second in
    let e = sum_length x sum.left sum.first in
    let f = fixed_length y fixed.left fixed.first in
    omega (arith, a, b, d, e, f)

sizes : (size n : ℕ) → is_short size n ≡ false → ltb size n ≡ false → (size ≡ n) × (n < 2 ^ 31)
sizes size n short_test long_test =
    let a = none (ltb size 49 || leb (2 ^ 31) size) (ltb n size) short_test in
    let b = none (ltb size 49) (leb (2 ^ 31) size) a.0 in
    let d : leb (2 ^ 31) size ≡ false = b.1 in
    let e = ltb-false n size a.1 in
    let f = ltb-false size n long_test in
    let g : size < 2 ^ 31 = grind (arith, nat_tests) in
    (omega (arith, e, f), omega (arith, e, f, g))

fits_well : (n : ℕ) → 49 ≤ n → n < 2 ^ 31 → is_short n n ≡ false
fits_well n some few = grind (arith, nat_tests)

-- ---- base, and what stands behind the size

pub record IsPlace (x : ℤ × List ℕ) (bytes : List ℕ) : Type 0 where
  pub fits : length x.1 < 2 ^ 31
  pub start : (IsStart (x.0, length x.1) ⌢ Exactly x.1) bytes
  pub small : IsBytes x.1

pub place_sound : (bytes : List ℕ) (x : ℤ × List ℕ) → IsBytes bytes → base_and_rest bytes ≡ Ok x → IsPlace x bytes
unfolding base_and_rest
place_sound bytes x fits e =
    let a = bind_ok (start_at bytes) _ x e in
    let g = guard_ok (is_short a.0.0.1 (length a.0.1)) _ _ x a.2 in
    let h = guard_ok (ltb a.0.0.1 (length a.0.1)) _ _ x g.1 in
    let s = start_law.sound bytes fits a.0.0 a.0.1 a.1 in
    let z = sizes a.0.0.1 (length a.0.1) g.0 h.0 in
    let same : (a.0.0.0, a.0.1) ≡ x = is_ok _ _ h.1 in
    let there : IsPlace (a.0.0.0, a.0.1) bytes = record {
      fits = z.1;
      start = record { left = s.front; right = a.0.1; is = s.parts; first = subst (λ (n : ℕ). IsStart (a.0.0.0, n) s.front) z.0 s.holds; second = refl };
      small = IsBytes-behind s.front a.0.1 bytes s.parts fits;
    } in
    subst (λ (y : ℤ × List ℕ). IsPlace y bytes) same there

pub place_complete : (base : ℤ) (behind bytes : List ℕ) → 49 ≤ length behind → length behind < 2 ^ 31 → (IsStart (base, length behind) ⌢ Exactly behind) bytes → base_and_rest bytes ≡ Ok (base, behind)
unfolding base_and_rest
place_complete base behind bytes some few is =
    let e : bytes ≡ is.left ++ behind = is.is ∙ ap (λ (l : List ℕ). is.left ++ l) is.second in
    complete_bind (start_at bytes) _ ((base, length behind), behind) _ (ap start_at e ∙ start_law.complete (base, length behind) is.left behind is.first)
    (complete_guard _ _ _ _ (fits_well (length behind) some few) (complete_guard _ _ _ _ (le-ltb (length behind) (length behind) (omega arith)) refl))

-- ---- epoch, and what the CRC is over

pub record IsChecked (x : ℤ × List ℕ) (bytes : List ℕ) : Type 0 where
  pub sum : (IsSum (x.0, crc32c x.1) ⌢ Exactly x.1) bytes
  pub small : IsBytes x.1

equal : (a b : ℕ) → eqb a b ≡ true → a ≡ b
equal a b e = grind (arith, nat_tests)

itself : (a : ℕ) → eqb a a ≡ true
itself a = grind (arith, nat_tests)

pub sum_sound : (bytes : List ℕ) (x : ℤ × List ℕ) → IsBytes bytes → sum_of bytes ≡ Ok x → IsChecked x bytes
unfolding sum_of
sum_sound bytes x fits e =
    let a = bind_ok (sum_at bytes) _ x e in
    let g = guard_ok (not (eqb a.0.0.1 (crc32c a.0.1))) _ _ x a.2 in
    let s = sum_law.sound bytes fits a.0.0 a.0.1 a.1 in
    let crc : a.0.0.1 ≡ crc32c a.0.1 = equal _ _ (is_true (eqb a.0.0.1 (crc32c a.0.1)) g.0) in
    let same : (a.0.0.0, a.0.1) ≡ x = is_ok _ _ g.1 in
    let there : IsChecked (a.0.0.0, a.0.1) bytes = record {
      sum = record { left = s.front; right = a.0.1; is = s.parts; first = subst (λ (n : ℕ). IsSum (a.0.0.0, n) s.front) crc s.holds; second = refl };
      small = IsBytes-behind s.front a.0.1 bytes s.parts fits;
    } in
    subst (λ (y : ℤ × List ℕ). IsChecked y bytes) same there

pub sum_complete : (epoch : ℤ) (checked bytes : List ℕ) → (IsSum (epoch, crc32c checked) ⌢ Exactly checked) bytes → sum_of bytes ≡ Ok (epoch, checked)
unfolding sum_of
sum_complete epoch checked bytes is =
    let e : bytes ≡ is.left ++ checked = is.is ∙ ap (λ (l : List ℕ). is.left ++ l) is.second in
    complete_bind (sum_at bytes) _ ((epoch, crc32c checked), checked) _ (ap sum_at e ∙ sum_law.complete (epoch, crc32c checked) is.left checked is.first)
    (complete_guard _ _ _ _ (ap not (itself (crc32c checked))) refl)
