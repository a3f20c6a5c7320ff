-- What is read stands for the value, and what stands for a value is read, whatever follows.
use Rattle.std.proofs.Common.{◌≡◌, ℕ, ◌+◌, ◌<◌, Bool, true, false, cond, ltb, List, [], ◌∷◌, ◌++◌, length, get_or, append_assoc, Result, Ok, Err, refl, sym, ap, subst, ◌∙◌, arith, inl, inr, lit<}
use Rattle.std.proofs.lemmas.List.{get_or-append-add, get_or_append_left, get_or_past, append-nil}
use Rattle.std.proofs.lemmas.Bool.{cases_lt, ltb-false}
pub use Rattle.kr_wire.specs.Laws.{IsBytes, Front, Yields, Law}
use Rattle.kr_wire.specs.Laws.{IsPrimitive}
use Rattle.kr_wire.specs.Reading.{◌>>=◌, ◌followed_by◌, structure_at, Read}
use Rattle.kr_wire.specs.Grammar.{◌⌢◌}

pub IsBytes-behind : (front rest bytes : List ℕ) → bytes ≡ front ++ rest → IsBytes bytes → IsBytes rest
IsBytes-behind front rest bytes parts fits i =
    let h : get_or (front ++ rest) (length front + i) 0 < 256 = rw (← parts) (fits (length front + i)) in
    rw get_or-append-add at h

pub IsBytes-before : (front rest bytes : List ℕ) → bytes ≡ front ++ rest → IsBytes bytes → IsBytes front
IsBytes-before front rest bytes parts fits i = elim (cases_lt i (length front)) [
  | inl lt ↦
      let h : get_or (front ++ rest) i 0 < 256 = rw (← parts) (fits i) in
      rw get_or_append_left at h
  | inr le ↦ rw (get_or_past front i 0 le) (lit< tt)
]

-- ---- Ok and its parts

pub bind_ok : {A B E : Type 0} (r : Result A E) (f : A → Result B E) (y : B) → (r >>= f) ≡ Ok y → (x : A) × (r ≡ Ok x) × (f x ≡ Ok y)
bind_ok (Ok x) f y e = (x, refl, e)
bind_ok (Err d) f y e = absurd cc

pub guard_ok : {A E : Type 0} (b : Bool) (d : E) (r : Result A E) (y : A) → cond b (Err d) r ≡ Ok y → (b ≡ false) × (r ≡ Ok y)
guard_ok true d r y e = absurd cc
guard_ok false d r y e = (refl, e)

abbrev value_or : {A E : Type 0} → A → Result (A × List ℕ) E → A
value_or x (Ok p) = p.0
value_or x (Err d) = x

abbrev rest_or : {A E : Type 0} → List ℕ → Result (A × List ℕ) E → List ℕ
rest_or a (Ok p) = p.1
rest_or a (Err d) = a

abbrev pub read_ok : {A E : Type 0} → A → List ℕ → Result (A × List ℕ) E
read_ok x rest = Ok (x, rest)

pub ok_value : {A E : Type 0} (x y : A) (a b : List ℕ) → read_ok {A = A} {E = E} x a ≡ Ok (y, b) → x ≡ y
ok_value {A} {E} x y a b e = ap (λ (r : Result (A × List ℕ) E). value_or x r) e

pub ok_rest : {A E : Type 0} (x y : A) (a b : List ℕ) → read_ok {A = A} {E = E} x a ≡ Ok (y, b) → a ≡ b
ok_rest {A} {E} x y a b e = ap (λ (r : Result (A × List ℕ) E). rest_or a r) e

-- the value of a last step
abbrev pub valued : {A B E : Type 0} → (A → B) → A × List ℕ → Result (B × List ℕ) E
valued value x = Ok (value x.0, x.1)

-- ---- sequence

module _ {X E : Type 0} {IsFirst : X → List ℕ → Type 0} {first : List ℕ → Result (X × List ℕ) E} (law : Law IsFirst first) where
  -- what is read in two steps
  pub sound_then : {Y : Type 0} (Is : Y → List ℕ → Type 0) (next : X × List ℕ → Result (Y × List ℕ) E) (bytes : List ℕ) → IsBytes bytes
      → ((x : X) (front rest : List ℕ) → IsFirst x front → IsBytes rest → Yields (λ y tail. Is y (front ++ tail)) rest (next (x, rest)))
      → Yields Is bytes (first bytes >>= next)
  sound_then Is next bytes fits step y rest e =
      let b = bind_ok (first bytes) next (y, rest) e in
      let f = law.sound bytes fits b.0.0 b.0.1 b.1 in
      let g = step b.0.0 f.front b.0.1 f.holds (IsBytes-behind f.front b.0.1 bytes f.parts fits) y rest b.2 in
      record {
        front = f.front ++ g.front;
        parts = f.parts ∙ ap (λ (t : List ℕ). f.front ++ t) g.parts ∙ sym (append_assoc f.front g.front rest);
        holds = g.holds;
      }

  -- the last step
  pub sound_last : {Y : Type 0} (Is : Y → List ℕ → Type 0) (value : X → Y) (bytes : List ℕ) → IsBytes bytes
      → ((x : X) (front : List ℕ) → IsFirst x front → Is (value x) front)
      → Yields Is bytes (first bytes >>= valued value)
  sound_last {Y} Is value bytes fits step y rest e =
      let b = bind_ok (first bytes) (valued value) (y, rest) e in
      let f = law.sound bytes fits b.0.0 b.0.1 b.1 in
      let v : value b.0.0 ≡ y = ok_value _ _ _ _ b.2 in
      let r : b.0.1 ≡ rest = ok_rest _ _ _ _ b.2 in
      record {
        front = f.front;
        parts = f.parts ∙ ap (λ (t : List ℕ). f.front ++ t) r;
        holds = subst (λ (z : Y). Is z f.front) v (step b.0.0 f.front f.holds);
      }

  -- what stands there in two parts is read
  pub complete_then : {Y : Type 0} (x : X) (Tail : List ℕ → Type 0) (next : X × List ℕ → Result (Y × List ℕ) E) (y : Y) (rest : List ℕ)
      → ((tail : List ℕ) → Tail tail → next (x, tail ++ rest) ≡ Ok (y, rest))
      → (bytes : List ℕ) → (IsFirst x ⌢ Tail) bytes → (first (bytes ++ rest) >>= next) ≡ Ok (y, rest)
  complete_then x Tail next y rest step bytes j =
      let regrouped : bytes ++ rest ≡ j.left ++ (j.right ++ rest) = ap (λ (t : List ℕ). t ++ rest) j.is ∙ append_assoc j.left j.right rest in
      ap (λ (t : List ℕ). first t >>= next) regrouped ∙ rw (law.complete x j.left (j.right ++ rest) j.first) (step j.right j.second)

  pub complete_last : {Y : Type 0} (x : X) (value : X → Y) (rest : List ℕ)
      → (bytes : List ℕ) → IsFirst x bytes → (first (bytes ++ rest) >>= valued value) ≡ Ok (value x, rest)
  complete_last x value rest bytes is = rw (law.complete x bytes rest is) refl

-- ---- tests, and what is there already

pub sound_guard : {Y E : Type 0} (Is : Y → List ℕ → Type 0) (bytes : List ℕ) (b : Bool) (d : E) (r : Result (Y × List ℕ) E)
    → (b ≡ false → Yields Is bytes r) → Yields Is bytes (cond b (Err d) r)
sound_guard Is bytes b d r step y rest e = let g = guard_ok b d r (y, rest) e in step g.0 y rest g.1

pub sound_done : {Y E : Type 0} (Is : Y → List ℕ → Type 0) (bytes : List ℕ) (x : Y) → Is x [] → Yields {Y = Y} {E = E} Is bytes (Ok (x, bytes))
sound_done {Y} {E} Is bytes x is y rest e =
    record { front = []; parts = ok_rest _ _ _ _ e; holds = let P : Y → Type 0 = λ z. Is z [] in subst P (ok_value _ _ _ _ e) is }

pub sound_if : {Y E : Type 0} (Is : Y → List ℕ → Type 0) (bytes : List ℕ) (b : Bool) (r s : Result (Y × List ℕ) E)
    → (b ≡ true → Yields Is bytes r) → (b ≡ false → Yields Is bytes s) → Yields Is bytes (cond b r s)
sound_if Is bytes true r s if_so if_not = if_so refl
sound_if Is bytes false r s if_so if_not = if_not refl

pub sound_as : {Y E : Type 0} (Is As : Y → List ℕ → Type 0) (bytes : List ℕ) (r : Result (Y × List ℕ) E)
    → Yields Is bytes r → ((y : Y) (front : List ℕ) → Is y front → As y front) → Yields As bytes r
sound_as Is As bytes r law step y rest e = let f = law y rest e in record { front = f.front; parts = f.parts; holds = step y f.front f.holds }

pub complete_guard : {A E : Type 0} (b : Bool) (d : E) (r : Result A E) (y : A) → b ≡ false → r ≡ Ok y → cond b (Err d) r ≡ Ok y
complete_guard true d r y test e = absurd cc
complete_guard false d r y test e = e

pub complete_bind : {A B E : Type 0} (r : Result A E) (next : A → Result B E) (x : A) (y : B) → r ≡ Ok x → next x ≡ Ok y → (r >>= next) ≡ Ok y
complete_bind r next x y e step = rw e step

pub complete_if_not : {A E : Type 0} (b : Bool) (r s : Result A E) (y : A) → b ≡ false → s ≡ Ok y → cond b r s ≡ Ok y
complete_if_not true r s y test e = absurd cc
complete_if_not false r s y test e = e

pub joined : {First Second : List ℕ → Type 0} (a b : List ℕ) → First a → Second b → (First ⌢ Second) (a ++ b)
joined a b first second = record { left = a; right = b; is = refl; first = first; second = second }

-- a law of one function is that of another with the same answers
pub law_as : {X E : Type 0} {Is : X → List ℕ → Type 0} {read other : List ℕ → Result (X × List ℕ) E} → ((bytes : List ℕ) → read bytes ≡ other bytes) → Law Is other → Law Is read
law_as {X} {E} {Is} {read} {other} same law = record {
  sound = λ bytes fits x rest e. law.sound bytes fits x rest (sym (same bytes) ∙ e);
  complete = λ x front rest is. same (front ++ rest) ∙ law.complete x front rest is;
}

-- ---- a structure, from its fields one after the other

pub then_law : {X Y E : Type 0} {A : X → List ℕ → Type 0} {B : Y → List ℕ → Type 0} {first : List ℕ → Result (X × List ℕ) E} {second : List ℕ → Result (Y × List ℕ) E}
    → Law A first → Law B second → Law (λ (v : X × Y). A v.0 ⌢ B v.1) (first followed_by second)
then_law {X} {Y} {E} {A} {B} one other = record {
  sound = λ bytes fits. sound_then one (λ (v : X × Y). A v.0 ⌢ B v.1) _ bytes fits (λ x front rest first more.
      sound_last other _ (λ y. (x, y)) rest more (λ y tail second. joined front tail first second));
  complete = λ v bytes rest is. complete_then one v.0 (B v.1) _ v rest (complete_last other v.1 (λ y. (v.0, y)) rest) bytes is;
}

infixr 6 ◌before◌
pub ◌before◌ : {X Y E : Type 0} {A : X → List ℕ → Type 0} {B : Y → List ℕ → Type 0} {first : List ℕ → Result (X × List ℕ) E} {second : List ℕ → Result (Y × List ℕ) E}
    → Law A first → Law B second → Law (λ (v : X × Y). A v.0 ⌢ B v.1) (first followed_by second)
one before other = then_law one other

pub structure_law : {X Y E : Type 0} {Is : X → List ℕ → Type 0} {read : List ℕ → Result (X × List ℕ) E} → (of : X → Y) → (fields : Y → X) → ((x : X) → fields (of x) ≡ x) → ((y : Y) → of (fields y) ≡ y)
    → Law Is read → Law (λ (y : Y). Is (fields y)) (structure_at of read)
structure_law {X} {Y} {E} {Is} {read} of fields there back law = record {
  sound = λ bytes fits. sound_last law (λ (y : Y). Is (fields y)) of bytes fits (λ x front is. subst (λ (z : X). Is z front) (sym (there x)) is);
  complete = λ y front rest is. complete_last law (fields y) of rest front is ∙ ap (λ (z : Y). read_ok z rest) (back y);
}

-- ---- what follows

pub nothing : (l : List ℕ) → ltb 0 (length l) ≡ false → l ≡ []
nothing [] e = refl
nothing (b ∷ l) e = absurd (omega (arith, ltb-false 0 (length (b ∷ l)) e))

abbrev pub an_ok : {A E : Type 0} → A → Result A E
an_ok x = Ok x

pub is_ok : {A E : Type 0} (x y : A) → an_ok {A = A} {E = E} x ≡ Ok y → x ≡ y
is_ok x y e = cc

module _ {X E : Type 0} {Is : X → List ℕ → Type 0} {read : List ℕ → Result (X × List ℕ) E} (law : Law Is read) where
  -- all of the bytes
  pub whole_sound : (bytes : List ℕ) (x : X) → IsBytes bytes → read bytes ≡ Ok (x, []) → Is x bytes
  whole_sound bytes x fits e =
      let f = law.sound bytes fits x [] e in
      rw (f.parts, append-nil) f.holds

  pub whole_complete : (bytes : List ℕ) (x : X) → Is x bytes → read bytes ≡ Ok (x, [])
  whole_complete bytes x is = ap read (sym (append-nil bytes)) ∙ law.complete x bytes [] is

  pub all_sound : (fault : E) (bytes : List ℕ) (x : X) → IsBytes bytes → (read bytes >>= λ v. cond (ltb 0 (length v.1)) (Err fault) (Ok v.0)) ≡ Ok x → Is x bytes
  all_sound fault bytes x fits e =
      let k = bind_ok (read bytes) (λ v. cond (ltb 0 (length v.1)) (Err fault) (Ok v.0)) x e in
      let g = guard_ok (ltb 0 (length k.0.1)) fault (Ok k.0.0) x k.2 in
      let same : k.0.0 ≡ x = is_ok _ _ g.1 in
      let end : k.0.1 ≡ [] = nothing k.0.1 g.0 in
      subst (λ (y : X). Is y bytes) same (whole_sound bytes k.0.0 fits (k.1 ∙ ap (λ (l : List ℕ). read_ok k.0.0 l) end))

  pub all_complete : (fault : E) (bytes : List ℕ) (x : X) → Is x bytes → (read bytes >>= λ v. cond (ltb 0 (length v.1)) (Err fault) (Ok v.0)) ≡ Ok x
  all_complete fault bytes x is = complete_bind (read bytes) (λ v. cond (ltb 0 (length v.1)) (Err fault) (Ok v.0)) (x, []) x (whole_complete bytes x is) refl

  -- bytes stand for one value at most, and no form begins another
  pub one_form : (x y : X) (a b s t : List ℕ) → Is x a → Is y b → a ++ s ≡ b ++ t → (x ≡ y) × (s ≡ t)
  one_form x y a b s t is other same =
      let e = sym (law.complete x a s is) ∙ ap read same ∙ law.complete y b t other in
      (ok_value _ _ _ _ e, ok_rest _ _ _ _ e)

  pub one_value : (x y : X) (bytes : List ℕ) → Is x bytes → Is y bytes → x ≡ y
  one_value x y bytes is other = (one_form x y bytes bytes [] [] is other refl).0

-- what is refused has no front that stands for a value
pub refused : {X E : Type 0} {Is : X → List ℕ → Type 0} {read : List ℕ → Result (X × List ℕ) E} → Law Is read
    → (bytes : List ℕ) (fault : E) → read bytes ≡ Err fault → (x : X) (rest : List ℕ) → Front (Is x) bytes rest → ⊥
refused {X} {E} {Is} {read} law bytes fault e x rest f =
    let found : read bytes ≡ Ok (x, rest) = ap read f.parts ∙ law.complete x f.front rest f.holds in
    cc

-- a primitive, from its law and its written form
pub primitive : {X : Type 0} {Is : X → List ℕ → Type 0} {read : List ℕ → Read X} (law : Law Is read) (write : X → List ℕ) (Fits : X → Type 0)
    → ((x : X) → Fits x → Is x (write x)) → IsPrimitive Is read write Fits
primitive law write Fits stands = record {
  law = law;
  one = one_value law;
  apart = one_form law;
  refused = refused law;
  stands = stands;
  again = λ x rest fits. law.complete x (write x) rest (stands x fits);
}
