-- Which request a text asks for.
use Rattle.std.proofs.Common.{◌≡◌, ℕ, List, Result, Ok, Err, refl}
use Rattle.serde_json.specs.Data.{Data}
use Rattle.kr_messages.specs.declared.message_type.ApiMessageType.{ApiMessageType}
use Rattle.kr_request_json.specs.declared.fault.RequestFault.{RequestFault}
use Rattle.kr_request_json.specs.declared.fault.RequestFault.TheVariants as faults
use Rattle.kr_request_json.specs.Messages.{IsAnswerTo, json_of, message_for, message_of_text, or_fault, request_for, type_for}

module _ (d : Data) where
  pub known : (request : ApiMessageType) (answer : Result (List ℕ) RequestFault) → type_for d ≡ Ok request → IsAnswerTo answer (message_for d request) → IsAnswerTo answer (request_for d)
  known request answer named is = rw named is

  pub unknown : (fault : RequestFault) → type_for d ≡ Err fault → IsAnswerTo (Err fault) (request_for d)
  unknown faults.NotJson refused = rw refused refl
  unknown faults.UnknownRequest refused = rw refused refl
  unknown faults.BadField refused = rw refused refl
  unknown faults.NoMemory refused = tt

module _ (text : List ℕ) where
  pub asked : (d : Data) (answer : Result (List ℕ) RequestFault) → or_fault faults.NotJson (json_of text) ≡ Ok d → IsAnswerTo answer (request_for d) → IsAnswerTo answer (message_of_text text)
  unfolding message_of_text
  asked d answer found is = rw found is

  pub unread : (fault : RequestFault) → IsAnswerTo (Err fault) (or_fault faults.NotJson (json_of text)) → IsAnswerTo (Err fault) (message_of_text text)
  unfolding message_of_text
  unread faults.NotJson none = rw none refl
  unread faults.UnknownRequest none = rw none refl
  unread faults.BadField none = rw none refl
  unread faults.NoMemory none = tt
