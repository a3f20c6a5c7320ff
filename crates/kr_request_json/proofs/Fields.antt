-- Members of an object, put one behind the other.
use Rattle.std.proofs.Common.{◌≡◌, ◌∙◌, ℕ, List, [], ◌++◌, append_assoc, Some, None, Result, Ok, Err, refl, ap}
use Rattle.serde_json.specs.Data.{Data}
use Rattle.serde_json.specs.Find.{get}
use Rattle.kr_request_json.specs.declared.fault.PartFault.{PartFault}
use Rattle.kr_request_json.specs.declared.fault.PartFault.TheVariants as parts
use Rattle.kr_request_json.specs.declared.fault.RequestFault.TheVariants as faults
use Rattle.kr_request_json.specs.Inputs.{InputMember, JsonInput, ◌⋄◌}
use Rattle.kr_request_json.specs.Messages.{IsAnswerTo, bytes_for}
use Rattle.kr_request_json.specs.inner.Steps.{Lacks, PutsInput}

pub joined : (before mid after a b : List ℕ) → mid ≡ before ++ a → after ≡ mid ++ b → after ≡ before ++ (a ++ b)
joined before mid after a b first second = second ∙ (ap (λ (l : List ℕ). l ++ b) first ∙ append_assoc before a b)

module _ (f : InputMember) (others : JsonInput) (d : Data) where
  pub field_put : (x : Data) (result : Result (Unit {0}) PartFault) (before mid after : List ℕ) → get f.name d ≡ Some x → PutsInput f.input x (Ok tt) before mid
      → PutsInput others d result mid after → PutsInput (f ⋄ others) d result before after
  field_put x (Ok done) before mid after found first rest = record {
    value = (first.value, rest.value);
    is = rw (found, first.is, rest.is) refl;
    wrote = joined before mid after (f.input.bytes first.value) (others.bytes rest.value) first.wrote rest.wrote;
  }
  field_put x (Err parts.BadField) before mid after found first rest = rw (found, first.is, rest) refl
  field_put x (Err parts.NoMemory) before mid after found first rest = tt

  pub field_refused : (x : Data) (fault : PartFault) → get f.name d ≡ Some x → Lacks fault (f.input.of_json x) → Lacks fault ((f ⋄ others).of_json d)
  field_refused x parts.BadField found refused = rw (found, refused) refl
  field_refused x parts.NoMemory found refused = tt

  pub field_missing : (fault : PartFault) → Lacks fault (get f.name d) → Lacks fault ((f ⋄ others).of_json d)
  field_missing parts.BadField none = rw none refl
  field_missing parts.NoMemory none = tt

-- ---- all of a message

module _ (f : JsonInput) (d : Data) where
  pub message_put : (before out : List ℕ) → before ≡ [] → PutsInput f d (Ok tt) before out → IsAnswerTo (Ok out) (bytes_for f d)
  message_put before out none put =
      let same : out ≡ f.bytes put.value = put.wrote ∙ ap (λ (l : List ℕ). l ++ f.bytes put.value) none in
      rw (put.is, same) refl

  pub message_refused : f.of_json d ≡ None → IsAnswerTo (Err faults.BadField) (bytes_for f d)
  message_refused none = rw none refl
