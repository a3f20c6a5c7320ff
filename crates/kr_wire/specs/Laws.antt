-- What joins a relation on whole byte strings, a reading function and a written form: this project's own.
use Rattle.std.specs.Prelude.{◌≡◌, ℕ, ◌^◌, ◌<◌, List, ◌++◌, length, All, slice_index, Option, MatchOption, Result, Ok, Err, IsUtf8}
use Rattle.kr_wire.specs.declared.WireFault.{WireFault}
use Rattle.kr_wire.specs.Reading.{Read}

abbrev pub IsBytes : List ℕ → Type 0
IsBytes bytes = (i : ℕ) → slice_index bytes i < 256

-- some front, and the rest behind it
pub record Front (Is : List ℕ → Type 0) (bytes rest : List ℕ) : Type 0 where
  pub front : List ℕ
  pub parts : bytes ≡ front ++ rest
  pub holds : Is front

-- the values that are read have a front that stands for them
abbrev pub Yields : {Y E : Type 0} → (Y → List ℕ → Type 0) → List ℕ → Result (Y × List ℕ) E → Type 0
Yields {Y} Is bytes read = (y : Y) (rest : List ℕ) → read ≡ Ok (y, rest) → Front (Is y) bytes rest

-- What is read stands for the value, and what stands for a value is read as it, whatever follows.
pub record Law {X E : Type 0} (Is : X → List ℕ → Type 0) (read : List ℕ → Result (X × List ℕ) E) : Type 0 where
  pub sound : (bytes : List ℕ) → IsBytes bytes → Yields Is bytes (read bytes)
  pub complete : (x : X) (front rest : List ℕ) → Is x front → read (front ++ rest) ≡ Ok (x, rest)

-- No form of a value begins one of another, so that bytes stand for one value at most.
abbrev pub Apart : {X : Type 0} → (X → List ℕ → Type 0) → Type 0
Apart {X} Is = (x y : X) (a b s t : List ℕ) → Is x a → Is y b → a ++ s ≡ b ++ t → (x ≡ y) × (s ≡ t)

-- What is written for a value that fits stands for it, and is what is written for no other that fits, whatever follows.
pub record IsWritten {X : Type 0} (Is : X → List ℕ → Type 0) (write : X → List ℕ) (Fits : X → Type 0) : Type 0 where
  pub stands : (x : X) → Fits x → Is x (write x)
  pub apart : Apart Is
  pub once : (x y : X) (s t : List ℕ) → Fits x → Fits y → write x ++ s ≡ write y ++ t → (x ≡ y) × (s ≡ t)

-- A law; no form begins another, so that bytes stand for one value at most; what is refused has no front that
-- stands for a value; and what is written for a value that fits stands for it and is read as it.
pub record IsPrimitive {X : Type 0} (Is : X → List ℕ → Type 0) (read : List ℕ → Read X) (write : X → List ℕ) (Fits : X → Type 0) : Type 0 where
  pub law : Law Is read
  pub one : (x y : X) (bytes : List ℕ) → Is x bytes → Is y bytes → x ≡ y
  pub apart : Apart Is
  pub refused : (bytes : List ℕ) (fault : WireFault) → read bytes ≡ Err fault → (x : X) (rest : List ℕ) → Front (Is x) bytes rest → ⊥
  pub stands : (x : X) → Fits x → Is x (write x)
  pub again : (x : X) (rest : List ℕ) → Fits x → read (write x ++ rest) ≡ Ok (x, rest)

-- ---- what is written of every value that fits

abbrev pub IsShortText : List ℕ → Type 0
IsShortText text = IsUtf8 text × (length text < 2 ^ 31)

abbrev pub IsShortTextOrNull : Option (List ℕ) → Type 0
IsShortTextOrNull o = MatchOption o (Unit {0}) IsShortText

-- fewer than 2^31, of which each fits
pub record IsShortList {X : Type 0} (Fits : X → Type 0) (xs : List X) : Type 0 where
  pub short : length xs < 2 ^ 31
  pub each : All Fits xs

abbrev pub IsShortListOrNull : {X : Type 0} → (X → Type 0) → Option (List X) → Type 0
IsShortListOrNull Fits o = MatchOption o (Unit {0}) (IsShortList Fits)
