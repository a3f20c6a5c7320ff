-- A frame that is taken in parts.
use Rattle.std.proofs.Common.{◌≡◌, ℕ, ◌+◌, Bool, true, List, [], ◌∷◌, ◌++◌, length, Option, Some, None, append_assoc, length-append, refl, sym, ap, subst, ◌∙◌, arith}
use Rattle.std.specs.Int.{w32}
use Rattle.std.specs.Io.KnownBytes.{Consumes}
use Rattle.kr_base.proofs.Pieces.{consumes_more}
use Rattle.kr_wire.specs.Grammar.{◌⌢◌, Exactly, IsNumber}
use Rattle.kr_wire.specs.Laws.{IsBytes}
use Rattle.kr_wire.proofs.ReadingLaws.{joined}
use Rattle.kr_wire.proofs.WrittenBytes.{OfBytes, ◌and◌}
use Rattle.kr_stream.specs.declared.frame.Frame.{Frame}
use Rattle.kr_stream.specs.declared.kind.FrameKind.{FrameKind}
use Rattle.kr_stream.specs.Kinds.{number_of, may_stand}
use Rattle.kr_stream.specs.Frames.{IsFrame, IsBody, frame_kind}
use Rattle.kr_stream.specs.Reader.{Took, IsHead, Stands}
use Rattle.kr_stream.specs.inner.Bodies.{IsBodyOf}
use Rattle.kr_stream.proofs.Sizes.{kind_once}
use Rattle.kr_stream.proofs.FrameForms.{frame_form}

-- nothing is taken
pub consumes_none : (a : Option (List ℕ)) → Consumes a a []
consumes_none None = tt
consumes_none (Some x) = refl

pub both_bytes : (left right : List ℕ) → IsBytes left → IsBytes right → IsBytes (left ++ right)
both_bytes left right before behind =
    let a : OfBytes left = record { each = before } in
    let b : OfBytes right = record { each = behind } in
    let both : OfBytes (left ++ right) = a and b in
    both.each

module _ (a b c : Option (List ℕ)) where
  -- one part behind the other
  pub took_both : {First Second : List ℕ → Type 0} (at mid next : ℕ) → Took First a b at mid → Took Second b c mid next → Took (First ⌢ Second) a c at next
  took_both at mid next t s = record {
    taken = t.taken ++ s.taken;
    is = joined t.taken s.taken t.is s.is;
    bytes = both_bytes t.taken s.taken t.bytes s.bytes;
    took = consumes_more a b c t.taken s.taken t.took s.took;
    place = let e : length (t.taken ++ s.taken) ≡ length t.taken + length s.taken = length-append t.taken s.taken in omega (arith, e, t.place, s.place);
    within = s.within;
  }

-- bytes of which that holds are such bytes
pub took_as : {Is As : List ℕ → Type 0} (a b : Option (List ℕ)) (at next : ℕ) → Took Is a b at next → ((bytes : List ℕ) → Is bytes → As bytes) → Took As a b at next
took_as a b at next t as_ = record { taken = t.taken; is = as_ t.taken t.is; bytes = t.bytes; took = t.took; place = t.place; within = t.within }

-- the head of a frame, and its body
pub frame_of : (number len : ℕ) (body bytes : List ℕ) → length body ≡ len → (IsHead (len + 1) number ⌢ Exactly body) bytes → IsFrame number (Exactly body) bytes
frame_of number len body bytes same is = record {
  body = body;
  holds = refl;
  spelled = record {
    left = is.first.left;
    right = number ∷ body;
    is = is.is ∙ (ap (λ (l : List ℕ). l ++ is.right) is.first.is ∙ (append_assoc is.first.left is.first.right is.right ∙ ap (λ (l : List ℕ). is.first.left ++ l) (ap (λ (l : List ℕ). l ++ is.right) is.first.second ∙ ap (λ (l : List ℕ). number ∷ l) is.second)));
    first = let P : ℕ → Type 0 = λ n. IsNumber w32 (n + 1) is.first.left in subst P (sym same) is.first.first;
    second = refl;
  };
}

-- the head, by its size and the number of its kind
pub head_took : (a b c : Option (List ℕ)) (at size number len : ℕ) (kind : FrameKind) → Took (IsNumber w32 size) a b at (at + 4) → Took (Exactly (number ∷ [])) b c (at + 4) (at + 5)
    → size ≡ len + 1 → number ≡ number_of kind → Took (IsHead (len + 1) (number_of kind)) a c at (at + 5)
head_took a b c at size number len kind first second same named =
    let both = took_both a b c at (at + 4) (at + 5) first second in
    took_as a c at (at + 5) both (λ bytes is.
    let Q : ℕ → Type 0 = λ s. IsHead s number bytes in
    let R : ℕ → Type 0 = λ n. IsHead (len + 1) n bytes in
    subst R named (subst Q same is))

-- the whole frame
pub whole_took : (a b c : Option (List ℕ)) (at len n : ℕ) (kind : FrameKind) (body : List ℕ) → Took (IsHead (len + 1) (number_of kind)) a b at (at + 5) → Took (Exactly body) b c (at + 5) (at + 5 + n)
    → n ≡ len → length body ≡ n → Took (IsFrame (number_of kind) (Exactly body)) a c at (at + 5 + len)
whole_took a b c at len n kind body first second same long =
    let P : ℕ → Type 0 = λ m. Took (Exactly body) b c (at + 5) (at + 5 + m) in
    took_as a c at (at + 5 + len) (took_both a b c at (at + 5) (at + 5 + len) first (subst P same second)) (λ bytes is. frame_of (number_of kind) len body bytes (long ∙ same) is)

-- with a body that is read it stands for its frame
pub stands_as : (opened : Bool) (kind : FrameKind) (body bytes : List ℕ) (frame : Frame) → may_stand opened kind ≡ true → IsFrame (number_of kind) (Exactly body) bytes → IsBodyOf kind frame body → Stands opened frame bytes
stands_as opened kind body bytes frame place f of = record {
  place = ap (λ (k : FrameKind). may_stand opened k) of.named ∙ place;
  is = record {
    body = body;
    holds = of.is;
    spelled = record {
      left = f.spelled.left;
      right = f.spelled.right;
      is = f.spelled.is;
      first = let P : ℕ → Type 0 = λ n. IsNumber w32 (n + 1) f.spelled.left in subst P (ap length f.holds) f.spelled.first;
      second = f.spelled.second ∙ (ap (λ (l : List ℕ). number_of kind ∷ l) f.holds ∙ ap (λ (k : FrameKind). number_of k ∷ body) (sym of.named));
    };
  };
}

-- where it doesn't stand for one, none stands there
pub fits_none : (opened : Bool) (kind : FrameKind) (body bytes : List ℕ) → IsFrame (number_of kind) (Exactly body) bytes → ((frame : Frame) → IsBodyOf kind frame body → ⊥)
    → (frame : Frame) → Stands opened frame bytes → ⊥
fits_none opened kind body bytes f none frame stands =
    let g = stands.is in
    let r = frame_form (number_of kind) (number_of (frame_kind frame)) (Exactly body) (IsBody frame) bytes bytes [] [] f g refl in
    let same : g.body ≡ body = sym r.1 ∙ f.holds in
    none frame (record { named = kind_once (frame_kind frame) kind (sym r.0); is = subst (IsBody frame) same g.holds })
