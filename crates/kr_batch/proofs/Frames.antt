-- The laws of a record's frame.
use Rattle.std.proofs.Common.{◌≡◌, ℕ, ℤ, pos, negsuc, Bool, true, false, List, [], ◌++◌, length, Result, Ok, refl, sym, ap, subst, ◌∙◌, arith}
use Rattle.std.specs.Prelude.{int_lt, not}
use Rattle.std.specs.Ordering.{int_eq}
use Rattle.std.proofs.lemmas.Bool.{le-ltb}
use Rattle.std.proofs.lemmas.List.{append-nil}
use Rattle.kr_defs.proofs.IdLists.{same_id}
use Rattle.kr_wire.specs.declared.WireFault.{WireFault}
use Rattle.kr_wire.specs.declared.WireFault.TheVariants.{Short}
use Rattle.kr_wire.specs.Reading.{◌>>=◌, varint32_at}
use Rattle.kr_wire.specs.Grammar.{◌⌢◌, Exactly, IsVarint32, IsVarint64}
use Rattle.kr_wire.proofs.ReadingLaws.{IsBytes, Law, IsBytes-before, IsBytes-behind, bind_ok, ok_value, ok_rest, read_ok, joined, sound_then, sound_guard, sound_as, sound_done, complete_then, complete_guard, complete_bind, all_sound, all_complete}
use Rattle.kr_wire.proofs.Numbers.{piece_law, varint32_law, varint64_law}
use Rattle.kr_batch.specs.Reading.{sized_at, key_at, body_at, batch_body, frame_at}
use Rattle.kr_batch.specs.Grammar.{natural, IsPiece, IsSome, IsSized, IsKey, IsBody, IsFrame}

-- a part whose value is skipped
pub complete_some : {X Y E : Type 0} {IsFirst : X → List ℕ → Type 0} {first : List ℕ → Result (X × List ℕ) E} (law : Law IsFirst first) (Tail : List ℕ → Type 0)
    (next : X × List ℕ → Result (Y × List ℕ) E) (y : Y) (rest : List ℕ) → ((x : X) (tail : List ℕ) → Tail tail → next (x, tail ++ rest) ≡ Ok (y, rest))
    → (bytes : List ℕ) → (IsSome IsFirst ⌢ Tail) bytes → (first (bytes ++ rest) >>= next) ≡ Ok (y, rest)
complete_some law Tail next y rest step bytes j =
    complete_then law j.first.value Tail next y rest (λ tail t. step j.first.value tail t) bytes
    (record { left = j.left; right = j.right; is = j.is; first = j.first.spelled; second = j.second })

not_negative : (n : ℕ) → int_lt (pos n) (pos 0) ≡ false
not_negative n = le-ltb n 0 (omega arith)

sized_spelled : (size : ℤ) (a b piece : List ℕ) → int_lt size (pos 0) ≡ false → IsVarint32 size a → IsPiece (natural size) piece b → IsSized piece (a ++ b)
sized_spelled (pos n) a b piece test first is =
    let e : n ≡ length piece = sym is.0 ∙ ap (λ (l : List ℕ). length l) is.1 in
    joined a b (let P : ℕ → Type 0 = λ m. IsVarint32 (pos m) a in subst P e first) is.1
sized_spelled (negsuc n) a b piece test first is = absurd cc

pub sized_law : Law IsSized sized_at
unfolding sized_at
sized_law = record {
  sound = λ bytes fits. sound_then varint32_law IsSized _ bytes fits (λ size a rest first more.
      sound_guard _ rest (int_lt size (pos 0)) _ _ (λ test.
      sound_as (IsPiece (natural size)) _ rest _ ((piece_law (natural size)).sound rest more) (λ p b is. sized_spelled size a b p test first is)));
  complete = λ p bytes rest is.
      complete_then varint32_law (pos (length p)) (Exactly p) _ _ rest
      (λ tail same. complete_guard _ _ _ _ (not_negative (length p)) ((piece_law (length p)).complete p tail rest (ap (λ (l : List ℕ). length l) same, same))) bytes is;
}

pub key_law : Law IsKey key_at
unfolding key_at
key_law = record {
  sound = λ bytes fits. sound_then varint32_law IsKey _ bytes fits (λ size a rest first more.
      sound_as (IsPiece (natural size)) _ rest _ ((piece_law (natural size)).sound rest more) (λ p b is. record { size = size; spelled = joined a b first is }));
  complete = λ p bytes rest is.
      complete_then varint32_law is.size (IsPiece (natural is.size) p) _ _ rest
      (λ tail piece. (piece_law (natural is.size)).complete p tail rest piece) bytes is.spelled;
}

pub is_true : (b : Bool) → not b ≡ false → b ≡ true
is_true true t = refl
is_true false t = absurd cc

no_headers : (h : ℤ) (f : List ℕ) → not (int_eq h (pos 0)) ≡ false → IsVarint32 h f → IsVarint32 (pos 0) (f ++ [])
no_headers h f test is =
    let e : h ≡ pos 0 = same_id h (pos 0) (is_true (int_eq h (pos 0)) test) in
    rw append-nil (let P : ℤ → Type 0 = λ z. IsVarint32 z f in subst P e is)

pub body_law : Law IsBody body_at
unfolding body_at
body_law = record {
  sound = λ bytes fits. sound_then (piece_law 1) IsBody _ bytes fits (λ p a r first more.
      sound_then varint64_law _ _ r more (λ z b r second more.
      sound_then varint32_law _ _ r more (λ delta c r third more.
      sound_then key_law _ _ r more (λ k d r fourth more.
      sound_then sized_law _ _ r more (λ value e r fifth more.
      sound_then varint32_law _ _ r more (λ h f r sixth more.
      sound_guard _ r (not (int_eq h (pos 0))) _ _ (λ test.
      sound_done _ r (delta, value)
      (joined a (b ++ (c ++ (d ++ (e ++ (f ++ []))))) (record { value = p; spelled = first })
      (joined b (c ++ (d ++ (e ++ (f ++ [])))) (record { value = z; spelled = second })
      (joined c (d ++ (e ++ (f ++ []))) third
      (joined d (e ++ (f ++ [])) (record { value = k; spelled = fourth })
      (joined e (f ++ []) fifth (no_headers h f test sixth)))))))))))));
  complete = λ x bytes rest is.
      complete_some (piece_law 1) (IsSome IsVarint64 ⌢ IsVarint32 x.0 ⌢ IsSome IsKey ⌢ IsSized x.1 ⌢ IsVarint32 (pos 0)) _ _ rest (λ p tail t.
      complete_some varint64_law (IsVarint32 x.0 ⌢ IsSome IsKey ⌢ IsSized x.1 ⌢ IsVarint32 (pos 0)) _ _ rest (λ z tail t.
      complete_then varint32_law x.0 (IsSome IsKey ⌢ IsSized x.1 ⌢ IsVarint32 (pos 0)) _ _ rest (λ tail t.
      complete_some key_law (IsSized x.1 ⌢ IsVarint32 (pos 0)) _ _ rest (λ k tail t.
      complete_then sized_law x.1 (IsVarint32 (pos 0)) _ _ rest (λ tail t.
      complete_bind (varint32_at (tail ++ rest)) _ (pos 0, rest) _ (varint32_law.complete (pos 0) tail rest t) refl)
      tail t) tail t) tail t) tail t) bytes is;
}

pub body_of_sound : (bytes : List ℕ) (x : ℤ × List ℕ) → IsBytes bytes → batch_body bytes ≡ Ok x → IsBody x bytes
unfolding batch_body
body_of_sound bytes x fits e = all_sound body_law Short bytes x fits e

pub body_of_complete : (bytes : List ℕ) (x : ℤ × List ℕ) → IsBody x bytes → batch_body bytes ≡ Ok x
unfolding batch_body
body_of_complete bytes x is = all_complete body_law Short bytes x is

pub frame_law : Law IsFrame frame_at
unfolding frame_at
frame_law = record {
  sound = λ bytes fits y rest e.
      let b = bind_ok (sized_at bytes) (λ body. (batch_body body.0 >>= λ frame. Ok (frame, body.1))) (y, rest) e in
      let f = sized_law.sound bytes fits b.0.0 b.0.1 b.1 in
      let d = bind_ok (batch_body b.0.0) (λ frame. read_ok frame b.0.1) (y, rest) b.2 in
      let of_front : IsBytes f.front = IsBytes-before f.front b.0.1 bytes f.parts fits in
      let of_right : IsBytes f.holds.right = IsBytes-behind f.holds.left f.holds.right f.front f.holds.is of_front in
      let of_body : IsBytes b.0.0 = subst IsBytes f.holds.second of_right in
      let same : d.0 ≡ y = ok_value _ _ _ _ d.2 in
      record {
        front = f.front;
        parts = f.parts ∙ ap (λ (t : List ℕ). f.front ++ t) (ok_rest _ _ _ _ d.2);
        holds = record { body = b.0.0; whole = body_of_sound b.0.0 y of_body (d.1 ∙ ap (λ (z : ℤ × List ℕ). let r : Result (ℤ × List ℕ) WireFault = Ok z in r) same); spelled = f.holds };
      };
  complete = λ x bytes rest is.
      complete_bind (sized_at (bytes ++ rest)) _ (is.body, rest) _ (sized_law.complete is.body bytes rest is.spelled)
      (ap (λ r. r >>= λ frame. read_ok frame rest) (body_of_complete is.body x is.whole));
}

-- the value's bytes are bytes
pub value_fits : (delta : ℤ) (value front : List ℕ) → IsFrame (delta, value) front → IsBytes front → IsBytes value
value_fits delta value front is fits =
    let s = is.spelled in
    let of_body : IsBytes is.body = subst IsBytes s.second (IsBytes-behind s.left s.right front s.is fits) in
    let j = is.whole in
    let a : IsBytes j.right = IsBytes-behind j.left j.right is.body j.is of_body in
    let b : IsBytes j.second.right = IsBytes-behind j.second.left j.second.right j.right j.second.is a in
    let d : IsBytes j.second.second.right = IsBytes-behind j.second.second.left j.second.second.right j.second.right j.second.second.is b in
    let k = j.second.second.second in
    let e : IsBytes k.right = IsBytes-behind k.left k.right j.second.second.right k.is d in
    let v = k.second in
    let f : IsBytes v.left = IsBytes-before v.left v.right k.right v.is e in
    subst IsBytes v.first.second (IsBytes-behind v.first.left v.first.right v.left v.first.is f)
