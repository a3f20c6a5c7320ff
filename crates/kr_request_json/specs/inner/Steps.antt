-- What one part appends.
use Rattle.std.specs.Prelude.{◌≡◌, ℕ, List, ◌++◌, Option, Some, None, Result, Ok, Err}
use Rattle.std.specs.List.{flat_map}
use Rattle.serde_json.specs.Data.{Data, Items}
use Rattle.kr_request_json.specs.declared.fault.PartFault.{PartFault}
use Rattle.kr_request_json.specs.declared.fault.PartFault.TheVariants as parts
use Rattle.kr_request_json.specs.declared.fault.RequestFault.{RequestFault}
use Rattle.kr_request_json.specs.Inputs.{JsonInput, each}
use Rattle.kr_request_json.specs.Messages.{IsAnswerTo}

-- there is a value, and its bytes were appended
pub record PutValue {X : Type 0} (found : Option X) (bytes : X → List ℕ) (before after : List ℕ) : Type 0 where
  pub value : X
  pub is : found ≡ Some value
  pub wrote : after ≡ before ++ bytes value

-- there is none, or memory ran out
abbrev pub Lacks : {X : Type 0} → PartFault → Option X → Type 0
Lacks parts.BadField found = found ≡ None
Lacks parts.NoMemory found = Unit {0}

abbrev pub PutsFound : {X : Type 0} → Option X → (X → List ℕ) → Result (Unit {0}) PartFault → List ℕ → List ℕ → Type 0
PutsFound found bytes (Ok done) before after = PutValue found bytes before after
PutsFound found bytes (Err fault) before after = Lacks fault found

abbrev pub PutsInput : JsonInput → Data → Result (Unit {0}) PartFault → List ℕ → List ℕ → Type 0
PutsInput f d = PutsFound (f.of_json d) f.bytes

-- each of these items, one behind the other
abbrev pub PutsItems : JsonInput → Items → Result (Unit {0}) PartFault → List ℕ → List ℕ → Type 0
PutsItems f ds = PutsFound (each f.of_json ds) (flat_map f.bytes)

-- the value as it is seen, or that there is none
abbrev pub Found : {X Y : Type 0} → (X → Y) → Result X PartFault → Option Y → Type 0
Found seen (Ok x) found = found ≡ Some (seen x)
Found seen (Err fault) found = Lacks fault found

-- the answer as it is seen; or memory ran out
abbrev pub AnswersSeen : {X Y : Type 0} → (X → Y) → Result X RequestFault → Result Y RequestFault → Type 0
AnswersSeen seen (Ok x) meaning = meaning ≡ Ok (seen x)
AnswersSeen seen (Err fault) meaning = IsAnswerTo (Err fault) meaning
