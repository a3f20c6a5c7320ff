-- Values that are taken off the front of bytes, and shown.
use Rattle.std.specs.Prelude.{◌≡◌, ℕ, ◌&&◌, Bool, true, refl, false, List, [], ◌∷◌, ◌++◌, Option, Some, None, Result, Ok, Err, codes, if◌then◌else◌}
use Rattle.kr_layout.specs.declared.fault.ReadFault.{ReadFault}
use Rattle.kr_layout.specs.Answers.{IsFaultOf}
use Rattle.kr_wire.specs.Reading.{Read}
use Rattle.kr_messages.specs.declared.fault.MessageFault.{MessageFault}
use Rattle.kr_messages.specs.declared.fault.MessageFault.TheVariants as faults
use Rattle.kr_messages.specs.Forms.{FieldForms, Form}
use Rattle.kr_messages.specs.Layouts.{decoded_at}
use Rattle.kr_messages.specs.Shown.{ShowsText, StandForNone}

-- the value at the front was taken, and its text appended
pub record TookText {X : Type 0} (read : List ℕ → Read X) (json : X → List ℕ) (left left' before after : List ℕ) : Type 0 where
  pub value : X
  pub took : read left ≡ Ok (value, left')
  pub wrote : after ≡ before ++ json value

abbrev pub Transcribes : {X : Type 0} → (List ℕ → Read X) → (X → List ℕ) → Result (Unit {0}) ReadFault → List ℕ → List ℕ → List ℕ → List ℕ → Type 0
Transcribes read json (Ok done) left left' before after = TookText read json left left' before after
Transcribes read json (Err fault) left left' before after = IsFaultOf fault (read left)

abbrev pub ShowsForm : Form → Result (Unit {0}) ReadFault → List ℕ → List ℕ → List ℕ → List ℕ → Type 0
ShowsForm f = Transcribes (decoded_at f.layout) f.json

abbrev pub ShowsFields : FieldForms → Bool → Result (Unit {0}) ReadFault → List ℕ → List ℕ → List ℕ → List ℕ → Type 0
ShowsFields f is_first = Transcribes (decoded_at f.layout) (f.json is_first)

-- ---- all of some bytes

-- the value, where nothing is left behind it
abbrev pub whole_of : {X : Type 0} → Read X → Option X
whole_of (Ok (x, [])) = Some x
whole_of (Ok (x, b ∷ bytes)) = None
whole_of (Err fault) = None

-- the text of the value that all of the bytes give
pub record ReadsText (f : Form) (bytes out : List ℕ) : Type 0 where
  pub value : f.Value
  pub is : whole_of (decoded_at f.layout bytes) ≡ Some value
  pub text : out ≡ f.json value

abbrev pub ReadsWhole : Form → List ℕ → Result (List ℕ) MessageFault → Type 0
ReadsWhole f bytes (Ok out) = ReadsText f bytes out
ReadsWhole f bytes (Err faults.BadMessage) = whole_of (decoded_at f.layout bytes) ≡ None
ReadsWhole f bytes (Err faults.NoMemory) = Unit {0}

abbrev pub ShowsMessage : Form → List ℕ → Result (List ℕ) MessageFault → Type 0
ShowsMessage f bytes (Ok text) = ShowsText f bytes text
ShowsMessage f bytes (Err faults.BadMessage) = StandForNone f bytes
ShowsMessage f bytes (Err faults.NoMemory) = Unit {0}

-- ---- steps

abbrev pub comma : Bool → List ℕ
comma is_further = if is_further then codes "," else []

abbrev pub is_some : {X : Type 0} → List X → Bool
is_some [] = false
is_some (x ∷ xs) = true

pub both : {a b : Bool} → a ≡ true → b ≡ true → (a && b) ≡ true
both {a} {b} first second = rw (first, second) refl
