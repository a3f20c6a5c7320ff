-- What all of some bytes stand for, and what is appended.
use Rattle.std.proofs.Common.{◌≡◌, List, ℕ, ◌*◌, ◌/◌, ◌≤◌, min, true, Result, Ok, Err, sym, ap, subst, arith}
use Rattle.std.specs.Prelude.{IfOk, drop, take}
use Rattle.std.proofs.lemmas.List.{take-append-drop}
use Rattle.std.proofs.Math.Nat.{mul-le-mul_right, min-le_right, div-mul-le_self}
use Rattle.kr_wire.specs.Reading.{Read}
use Rattle.kr_wire.proofs.ReadingLaws.{Law, IsBytes, IsBytes-behind, all_sound, all_complete}
use Rattle.kr_layout.specs.declared.fault.BodyFault.{BodyFault}
use Rattle.kr_layout.specs.declared.fault.BodyFault.TheVariants as bodies
use Rattle.kr_wire.specs.Schema.{Schema, Is, is_readable}
use Rattle.kr_layout.specs.Answers.{wired, whole, IsAnswer, Answers}
use Rattle.kr_wire.proofs.Schemas.{law}

wired_ok : {X : Type 0} (r : Read X) (x : X) (rest : List ℕ) → wired r ≡ Ok (x, rest) → r ≡ Ok (x, rest)
wired_ok (Ok y) x rest e = cc
wired_ok (Err f) x rest e = absurd cc

wired_law : {X : Type 0} {Is : X → List ℕ → Type 0} {read : List ℕ → Read X} → Law Is read → Law Is (λ bytes. wired (read bytes))
wired_law {X} {Is} {read} law = record {
  sound = λ bytes fits x rest e. law.sound bytes fits x rest (wired_ok (read bytes) x rest e);
  complete = λ x front rest is. ap wired (law.complete x front rest is);
}

module _ {X : Type 0} (s : Schema X) (whole_schema : is_readable s ≡ true) (bytes : List ℕ) where
  answer_stands : IsBytes bytes → (answer : Result X BodyFault) → IsAnswer answer (whole s bytes) → IfOk answer (λ x. Is s x bytes)
  unfolding whole
  answer_stands fits (Ok x) e = all_sound (wired_law (law s whole_schema)) bodies.Trailing bytes x fits e
  answer_stands fits (Err f) e = tt

  answer_found : (answer : Result X BodyFault) (x : X) → Is s x bytes → IsAnswer answer (whole s bytes) → IsAnswer answer (Ok x)
  unfolding whole
  answer_found answer x is e = subst (λ (r : Result X BodyFault). IsAnswer answer r) (all_complete (wired_law (law s whole_schema)) bodies.Trailing bytes x is) e

  pub answers : IsBytes bytes → (answer : Result X BodyFault) → IsAnswer answer (whole s bytes) → Answers (Is s) s bytes answer
  answers fits answer e = record { stands = answer_stands fits answer e; found = λ x is. answer_found answer x is e; fault = e }

pub bytes_behind : (at : ℕ) (bytes : List ℕ) → IsBytes bytes → IsBytes (drop at bytes)
bytes_behind at bytes fits = IsBytes-behind (take at bytes) (drop at bytes) bytes (sym (take-append-drop at bytes)) fits

-- so many elements of the least size take no more than the bytes
pub holds : (count left size least long : ℕ) → size ≡ least → left ≡ long → min count (left / size) * least ≤ long
holds count left size least long is are =
    let few = mul-le-mul_right size (min-le_right count (left / size)) in
    let most = div-mul-le_self left size in
    rw (← is, ← are) (omega (arith, few, most))
