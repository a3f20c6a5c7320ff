-- What is put one after the other is put as one.
use Rattle.std.proofs.Common.{◌≡◌, ℕ, List, [], ◌++◌, None, Result, Ok, Err, sym, ap, ◌∙◌, append_assoc, append-nil}
use Rattle.std.specs.Prelude.{OnOk, OnErr}
use Rattle.kr_wire.specs.Schema.{Schema, ◌▸◌, Constant, Structure, TextOrNull, written}
use Rattle.kr_wire.specs.Spelling.{uvarint}
use Rattle.kr_layout.specs.Answers.{Begins, Puts}

pub puts_then : {X Y : Type 0} {a : Schema X} {b : Schema Y} {x : X} {y : Y} {before between after : List ℕ}
    → Puts a x before between → Puts b y between after → Puts (a ▸ b) (x, y) before after
puts_then {X} {Y} {a} {b} {x} {y} {before} {between} {after} first second = record {
  bytes = second.bytes ∙ ap (λ (l : List ℕ). l ++ written b y) first.bytes ∙ append_assoc before (written a x) (written b y);
  fits = (first.fits, second.fits);
}

-- a null, which always stands there
pub puts_null : {before after : List ℕ} → after ≡ before ++ uvarint 0 → Puts (Constant None TextOrNull) tt before after
puts_null bytes = record { bytes = bytes; fits = tt }

-- the fields of a structure, where the last step was Ok
pub puts_structure : {X Y T E : Type 0} (s : Schema X) (of : X → Y) (fields : Y → X) (there : (x : X) → fields (of x) ≡ x) (back : (y : Y) → of (fields y) ≡ y)
    (y : Y) (before after : List ℕ) (Last : Type 0) (last : Result T E) → OnOk last Last → (Last → Puts s (fields y) before after)
    → OnOk last (Puts (Structure s of fields there back) y before after)
puts_structure s of fields there back y before after Last (Ok done) ended put = let p = put ended in record { bytes = p.bytes; fits = p.fits }
puts_structure s of fields there back y before after Last (Err refused) ended put = tt

-- ---- what stands behind what there was

pub begins_same : {before after : List ℕ} → after ≡ before → Begins before after
begins_same {before} is = record { more = []; is = is ∙ sym (append-nil before) }

pub begins_two : (before first second after : List ℕ) → after ≡ (before ++ first) ++ second → Begins before after
begins_two before first second after is = record { more = first ++ second; is = is ∙ append_assoc before first second }

pub begins_put : {X : Type 0} {s : Schema X} {x : X} {before between after : List ℕ} → Puts s x before between → Begins between after → Begins before after
begins_put {X} {s} {x} {before} {between} {after} put begins =
    begins_two before (written s x) begins.more after (begins.is ∙ ap (λ (l : List ℕ). l ++ begins.more) put.bytes)

-- what holds of each result
pub on_err : {T E P : Type 0} (result : Result T E) → P → OnErr result P
on_err (Ok done) p = tt
on_err (Err refused) p = p
