-- Frames one after the other: where none begins, and that bytes begin one frame at most.
use Rattle.std.proofs.Common.{◌≡◌, ◌∙◌, ℕ, ◌+◌, ◌<◌, ◌≤◌, inl, inr, List, [], ◌∷◌, ◌++◌, length, append_assoc, length-append, take, drop, sym, ap, arith}
use Rattle.std.proofs.Math.Seq.{drop-append_seam, take-append_seam}
use Rattle.std.specs.Int.{w32, from_be_bytes}
use Rattle.kr_wire.specs.Grammar.{Each}
use Rattle.kr_door_loop.specs.Endings.{IsAsked, IsFrameFront, SaysNoSize, in_content, in_size}
use Rattle.kr_door_loop.specs.Frames.{AreTurns, ContentFits, IsContentFrame, Question, Turn, asked_bytes, content_of}

module _ (a b x y : List ℕ) (long : length a ≡ length b) (same : a ++ x ≡ b ++ y) where
  front_same : a ≡ b
  front_same = sym (take-append_seam a x) ∙ (ap (λ (l : List ℕ). take (length a) l) same ∙ (ap (λ (n : ℕ). take n (b ++ y)) long ∙ take-append_seam b y))

  rest_same : x ≡ y
  rest_same = sym (drop-append_seam a x) ∙ (ap (λ (l : List ℕ). drop (length a) l) same ∙ (ap (λ (n : ℕ). drop n (b ++ y)) long ∙ drop-append_seam b y))

-- a size of four bytes stands before the content
pub frame_long : (content frame : List ℕ) → IsContentFrame content frame → length frame ≡ 4 + length content
frame_long content frame is =
    let joined : length frame ≡ length is.left + length is.right = ap (λ (l : List ℕ). length l) is.is ∙ length-append is.left is.right in
    let head : length is.left ≡ 4 = is.first.long in
    let tail : length is.right ≡ length content = ap (λ (l : List ℕ). length l) is.second in
    omega (arith, joined, head, tail)

-- what stands behind the size, and behind the frame
behind_size : (content frame rest : List ℕ) (is : IsContentFrame content frame) → frame ++ rest ≡ is.left ++ (is.right ++ rest)
behind_size content frame rest is = ap (λ (l : List ℕ). l ++ rest) is.is ∙ append_assoc is.left is.right rest

-- ---- where none begins

abbrev pub NoneAt : List ℕ → Type 0
NoneAt bytes = (content frame rest : List ℕ) → bytes ≡ frame ++ rest → IsContentFrame content frame → ContentFits content → ⊥

pub no_size_none : (bytes more : List ℕ) → SaysNoSize bytes → NoneAt (bytes ++ more)
no_size_none bytes more s content frame rest same is fits =
    let long : length bytes ≡ length is.left = s.said.long ∙ sym is.first.long in
    let heads : bytes ≡ is.left = front_same bytes is.left more (is.right ++ rest) long (same ∙ behind_size content frame rest is) in
    let sizes : s.size ≡ length content = s.said.spelled ∙ (ap (λ (l : List ℕ). from_be_bytes w32 l) heads ∙ sym is.first.spelled) in
    elim s.none [
      | inl none ↦ (let some = fits.0 in absurd (omega (arith, sizes, none, some)))
      | inr large ↦ (let few = fits.1 in absurd (omega (arith, sizes, large, few)))
    ]

pub front_none : (bytes : List ℕ) → IsFrameFront bytes → NoneAt bytes
front_none bytes (in_size few) content frame rest same is fits =
    let joined : length bytes ≡ length frame + length rest = ap (λ (l : List ℕ). length l) same ∙ length-append frame rest in
    let long = frame_long content frame is in
    absurd (omega (arith, joined, long, few))
front_none bytes (in_content size head part parts said some few short) content frame rest same is fits =
    let regrouped : head ++ part ≡ is.left ++ (is.right ++ rest) = sym parts ∙ (same ∙ behind_size content frame rest is) in
    let long : length head ≡ length is.left = said.long ∙ sym is.first.long in
    let heads : head ≡ is.left = front_same head is.left part (is.right ++ rest) long regrouped in
    let behind : part ≡ is.right ++ rest = rest_same head is.left part (is.right ++ rest) long regrouped in
    let sizes : size ≡ length content = said.spelled ∙ (ap (λ (l : List ℕ). from_be_bytes w32 l) heads ∙ sym is.first.spelled) in
    let tail : length is.right ≡ length content = ap (λ (l : List ℕ). length l) is.second in
    let joined : length part ≡ length is.right + length rest = ap (λ (l : List ℕ). length l) behind ∙ length-append is.right rest in
    absurd (omega (arith, joined, tail, sizes, short))

pub empty_none : NoneAt []
empty_none = front_none [] (in_size (omega arith))

-- ---- one frame at most

same_long : (c d f g x y : List ℕ) → IsContentFrame c f → IsContentFrame d g → f ++ x ≡ g ++ y → length f ≡ length g
same_long c d f g x y i j same =
    let regrouped : i.left ++ (i.right ++ x) ≡ j.left ++ (j.right ++ y) = sym (behind_size c f x i) ∙ (same ∙ behind_size d g y j) in
    let long : length i.left ≡ length j.left = i.first.long ∙ sym j.first.long in
    let heads : i.left ≡ j.left = front_same i.left j.left (i.right ++ x) (j.right ++ y) long regrouped in
    let sizes : length c ≡ length d = i.first.spelled ∙ (ap (λ (l : List ℕ). from_be_bytes w32 l) heads ∙ sym j.first.spelled) in
    let first = frame_long c f i in
    let second = frame_long d g j in
    omega (arith, sizes, first, second)

-- the frames before a place at which none begins end there
pub agree : (ts : List Turn) (qs : List Question) (a x y : List ℕ) → AreTurns ts → Each IsAsked qs a → asked_bytes ts ++ x ≡ a ++ y → NoneAt x → NoneAt y → length (asked_bytes ts) ≡ length a
agree [] [] a x y are each same nx ny = sym (ap (λ (l : List ℕ). length l) each)
agree [] (q ∷ qs) a x y are each same nx ny =
    absurd (nx (content_of q) each.left (each.right ++ y) (same ∙ (ap (λ (l : List ℕ). l ++ y) each.is ∙ append_assoc each.left each.right y)) each.first.0 each.first.1)
agree (t ∷ ts) [] a x y are each same nx ny =
    absurd (ny (content_of t.question) t.frame (asked_bytes ts ++ x) (sym (same ∙ ap (λ (l : List ℕ). l ++ y) each) ∙ append_assoc t.frame (asked_bytes ts) x) are.0.asked are.0.fits)
agree (t ∷ ts) (q ∷ qs) a x y are each same nx ny =
    let regrouped : t.frame ++ (asked_bytes ts ++ x) ≡ each.left ++ (each.right ++ y) =
    sym (append_assoc t.frame (asked_bytes ts) x) ∙ (same ∙ (ap (λ (l : List ℕ). l ++ y) each.is ∙ append_assoc each.left each.right y)) in
    let long = same_long (content_of t.question) (content_of q) t.frame each.left (asked_bytes ts ++ x) (each.right ++ y) are.0.asked each.first.0 regrouped in
    let rest = rest_same t.frame each.left (asked_bytes ts ++ x) (each.right ++ y) long regrouped in
    let more = agree ts qs each.right x y are.1 each.second rest nx ny in
    let joined : length a ≡ length each.left + length each.right = ap (λ (l : List ℕ). length l) each.is ∙ length-append each.left each.right in
    let both : length (t.frame ++ asked_bytes ts) ≡ length t.frame + length (asked_bytes ts) = length-append t.frame (asked_bytes ts) in
    omega (arith, long, more, joined, both)
