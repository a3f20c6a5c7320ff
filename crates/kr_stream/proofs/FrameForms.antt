-- No frame begins another: its size says where it ends.
use Rattle.std.proofs.Common.{◌≡◌, ℕ, ◌+◌, List, [], ◌∷◌, ◌++◌, length, length-append, append_assoc, refl, sym, ap, ◌∙◌, arith}
use Rattle.std.specs.Int.{w32}
use Rattle.kr_wire.specs.Grammar.{IsNumber}
use Rattle.kr_wire.proofs.ReadingLaws.{one_form}
use Rattle.kr_wire.proofs.Numbers.{number_law}
use Rattle.kr_stream.specs.Frames.{IsFrame}
use Rattle.kr_stream.specs.Reader.{IsHead}

-- fronts of one length
pub same_front : (a b x y : List ℕ) → length a ≡ length b → a ++ x ≡ b ++ y → (a ≡ b) × (x ≡ y)
same_front [] [] x y long same = (refl, same)
same_front [] (m ∷ b) x y long same = absurd (omega (arith, long))
same_front (n ∷ a) [] x y long same = absurd (omega (arith, long))
same_front (n ∷ a) (m ∷ b) x y long same =
    let head : n ≡ m = cc in
    let tail : a ++ x ≡ b ++ y = cc in
    let shorter : length a ≡ length b = omega (arith, long) in
    let r = same_front a b x y shorter tail in
    (rw (head, r.0) refl, r.1)

pub frame_length : (kind : ℕ) (Body : List ℕ → Type 0) (bytes : List ℕ) (f : IsFrame kind Body bytes) → length bytes ≡ 5 + length f.body
frame_length kind Body bytes f =
    let e = ap length f.spelled.is ∙ length-append f.spelled.left f.spelled.right in
    let k = ap length f.spelled.second in
    let long : length f.spelled.left ≡ 4 = f.spelled.first.long in
    omega (arith, e, k, long)

-- the size at the front is the frame's own
pub same_size : (size kind : ℕ) (Body : List ℕ → Type 0) (four rest front behind : List ℕ) (f : IsFrame kind Body front) → IsNumber w32 size four
    → four ++ rest ≡ front ++ behind → (size ≡ length f.body + 1) × (rest ≡ (kind ∷ f.body) ++ behind)
same_size size kind Body four rest front behind f number same =
    let s = f.spelled in
    let stream : four ++ rest ≡ s.left ++ (s.right ++ behind) = same ∙ (ap (λ (l : List ℕ). l ++ behind) s.is ∙ append_assoc s.left s.right behind) in
    let r = one_form (number_law w32) size (length f.body + 1) four s.left rest (s.right ++ behind) number s.first stream in
    (r.0, r.1 ∙ ap (λ (l : List ℕ). l ++ behind) s.second)

-- and so are the size and the number of the kind
pub same_head : (size number kind : ℕ) (Body : List ℕ → Type 0) (head rest front behind : List ℕ) (f : IsFrame kind Body front) → IsHead size number head
    → head ++ rest ≡ front ++ behind → (size ≡ length f.body + 1) × (number ≡ kind) × (rest ≡ f.body ++ behind)
same_head size number kind Body head rest front behind f is same =
    let parts : is.left ++ (number ∷ rest) ≡ front ++ behind =
    sym (append_assoc is.left (number ∷ []) rest) ∙ (ap (λ (l : List ℕ). (is.left ++ l) ++ rest) (sym is.second) ∙ (ap (λ (l : List ℕ). l ++ rest) (sym is.is) ∙ same)) in
    let r = same_size size kind Body is.left (number ∷ rest) front behind f is.first parts in
    let e : number ∷ rest ≡ kind ∷ (f.body ++ behind) = r.1 in
    let first : number ≡ kind = cc in
    let second : rest ≡ f.body ++ behind = cc in
    (r.0, first, second)

-- two frames at the front of one stream
pub frame_form : (k j : ℕ) (Body Other : List ℕ → Type 0) (a b x y : List ℕ) (f : IsFrame k Body a) (g : IsFrame j Other b) → a ++ x ≡ b ++ y
    → (k ≡ j) × (f.body ≡ g.body) × (a ≡ b) × (x ≡ y)
frame_form k j Body Other a b x y f g same =
    let s = f.spelled in
    let stream : s.left ++ (s.right ++ x) ≡ b ++ y = sym (append_assoc s.left s.right x) ∙ (ap (λ (l : List ℕ). l ++ x) (sym s.is) ∙ same) in
    let r = same_size (length f.body + 1) j Other s.left (s.right ++ x) b y g s.first stream in
    let behind : (k ∷ f.body) ++ x ≡ (j ∷ g.body) ++ y = ap (λ (l : List ℕ). l ++ x) (sym s.second) ∙ r.1 in
    let kinds : k ≡ j = cc in
    let bodies : f.body ++ x ≡ g.body ++ y = cc in
    let long : length f.body ≡ length g.body = omega (arith, r.0) in
    let p = same_front f.body g.body x y long bodies in
    let la = frame_length k Body a f in
    let lb = frame_length j Other b g in
    let whole = same_front a b x y (omega (arith, la, lb, long)) same in
    (kinds, p.0, whole.0, p.1)
