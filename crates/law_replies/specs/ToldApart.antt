-- That a decided reply is told from a refusal by NOT_CONTROLLER (this project's own).
use Rattle.std.specs.Prelude.{◌≡◌, ℕ, pos, false, []}
use Rattle.kr_defs.specs.declared.basis.Basis.{Basis}
use Rattle.kr_defs.specs.declared.options.Options.{Options}
use Rattle.kr_defs.specs.Image.{Image, IsValid}
use Rattle.kr_calls.specs.declared.calls.Request.{Request}
use Rattle.kr_calls.specs.declared.calls.Request.TheVariants as requests
use Rattle.kr_calls.specs.declared.errors.TheConstants.{NOT_CONTROLLER}
use Rattle.kr_calls.specs.Decide.{decide, is_read}
use Rattle.kr_calls.specs.Refuse.{refuse}

-- the request has no entry to which an error could be answered
abbrev pub AsksNothing : Request → Type 0
AsksNothing (requests.CreateTopics q) = q.topics ≡ []
AsksNothing (requests.DeleteTopics q) = q.topics ≡ []
AsksNothing (requests.CreatePartitions q) = q.topics ≡ []
AsksNothing (requests.IncrementalAlterConfigs q) = q.resources ≡ []
AsksNothing other = ⊥

-- The reply to a write that is decided on a valid image is its refusal by NOT_CONTROLLER only where it asks for nothing.
abbrev pub RefusalsAreToldApart : Type 0
RefusalsAreToldApart =
    (options : Options) (basis : Basis) (image : Image) (place : ℕ) (request : Request) → IsValid image → is_read request ≡ false →
    (decide options image basis (pos place) request).reply ≡ refuse request NOT_CONTROLLER → AsksNothing request
