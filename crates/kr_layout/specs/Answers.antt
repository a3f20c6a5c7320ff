-- How a reader's answer follows from reading, and what a writer appends. Want of memory is free.
use Rattle.std.specs.Prelude.{◌≡◌, ℕ, List, ◌++◌, length, take, drop, Option, Result, Ok, Err, IfOk, nat_lt}
use Rattle.kr_wire.specs.Reading.{◌>>=◌, Read, tag_at, refuse◌when◌else◌}
use Rattle.kr_wire.specs.Schema.{Schema, value_at, written, Fits}
use Rattle.kr_layout.specs.declared.fault.ReadFault.{ReadFault}
use Rattle.kr_layout.specs.declared.fault.ReadFault.TheVariants as reads
use Rattle.kr_layout.specs.declared.fault.BodyFault.{BodyFault}
use Rattle.kr_layout.specs.declared.fault.BodyFault.TheVariants as bodies

-- the fault that reading meets
abbrev pub IsFaultOf : {X : Type 0} → ReadFault → Read X → Type 0
IsFaultOf (reads.Wire fault) read = read ≡ Err fault
IsFaultOf reads.NoMemory read = Unit {0}

-- the value at the front of what there was to read, and what is left behind it
abbrev pub Takes : {X : Type 0} → Result X ReadFault → List ℕ → Read X → Type 0
Takes (Ok x) left read = read ≡ Ok (x, left)
Takes (Err e) left read = IsFaultOf e read

-- the same of a value that is seen by a view
abbrev pub TakesBy : {X Y : Type 0} → (X → Y) → Result X ReadFault → List ℕ → Read Y → Type 0
TakesBy view (Ok x) left read = read ≡ Ok (view x, left)
TakesBy view (Err e) left read = IsFaultOf e read

-- a tag, and the data behind it
abbrev pub field_at : Option ℕ → List ℕ → Read (ℕ × List ℕ)
field_at last bytes = tag_at last bytes >>= λ t. Ok ((t.0.0, take t.0.1 t.1), drop t.0.1 t.1)

-- a fault of the wire as one of a body
abbrev pub wired : {X : Type 0} → Read X → Result (X × List ℕ) BodyFault
wired (Ok x) = Ok x
wired (Err fault) = Err (bodies.Wire fault)

-- the value that all of the bytes give, or the first fault
unfoldable pub whole : {X : Type 0} → Schema X → List ℕ → Result X BodyFault
whole s bytes = do
  x ← wired (value_at s bytes)
  refuse bodies.Trailing when nat_lt 0 (length x.1) else Ok x.0

-- the answer of reading, or want of memory
abbrev pub IsAnswer : {X : Type 0} → Result X BodyFault → Result X BodyFault → Type 0
IsAnswer (Err bodies.NoMemory) read = Unit {0}
IsAnswer answer read = read ≡ answer

-- An answer to some bytes: a value is the one that they stand for, what stands for a value is answered by it,
-- and a fault is the first that reading meets.
pub record Answers {X : Type 0} (Is : X → List ℕ → Type 0) (s : Schema X) (bytes : List ℕ) (answer : Result X BodyFault) : Type 0 where
  pub stands : IfOk answer (λ x. Is x bytes)
  pub found : (x : X) → Is x bytes → IsAnswer answer (Ok x)
  pub fault : IsAnswer answer (whole s bytes)

-- what is written of a value that fits is appended
pub record Puts {X : Type 0} (s : Schema X) (x : X) (before after : List ℕ) : Type 0 where
  pub bytes : after ≡ before ++ written s x
  pub fits : Fits s x

-- what there was, and perhaps more behind it
pub record Begins (before after : List ℕ) : Type 0 where
  pub more : List ℕ
  pub is : after ≡ before ++ more
