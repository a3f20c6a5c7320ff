-- What a client's message makes of an engine.
use Rattle.std.specs.Prelude.{◌≡◌, ◌≤◌, ◌+◌, ◌&&◌, ℕ, ℤ, Bool, true, false, not, [], ◌∷◌, ◌++◌, length, Option, Some, None, is_some, unwrap_or, if◌then◌else◌}
use Rattle.kr_calls.specs.declared.errors.TheConstants.{NOT_CONTROLLER}
use Rattle.kr_calls.specs.declared.calls.Ask.{Ask}
use Rattle.kr_calls.specs.declared.calls.Call.{Call}
use Rattle.kr_calls.specs.declared.calls.Request.{Request}
use Rattle.kr_calls.specs.declared.deciding.Effect.{Effect}
use Rattle.kr_calls.specs.declared.calls.Reply.{Reply}
use Rattle.kr_calls.specs.declared.events.Output.{Output}
use Rattle.kr_calls.specs.declared.events.Reason.{Reason}
use Rattle.kr_calls.specs.declared.calls.Ask.TheVariants as asks
use Rattle.kr_calls.specs.declared.calls.Reply.TheVariants as replies
use Rattle.kr_calls.specs.declared.events.Output.TheVariants as given
use Rattle.kr_calls.specs.Decide.{Decision, decide, is_read, query}
use Rattle.kr_calls.specs.Deciding.{weights}
use Rattle.kr_calls.specs.NextBasis.{heartbeats_after}
use Rattle.kr_calls.specs.Refuse.{refuse}
use Rattle.kr_defs.specs.Image.{Image, empty}
use Rattle.kr_store.specs.Images.{Images, IsSettled, kept_at}
use Rattle.kr_model.specs.declared.writes.Decided.{Decided}
use Rattle.kr_model.specs.declared.writes.Write.{Write}
use Rattle.kr_model.specs.Engine.{Core, basis_of}
use Rattle.kr_engine.specs.inner.Changes.{refused_core}
use Rattle.kr_model.specs.Outputs.{error_of}
use Rattle.kr_model.specs.Reasons.{exhausted, led_epoch}
use Rattle.kr_model.specs.World.{is_far}
use Rattle.kr_engine.specs.inner.Append.{Writes}

-- ---- a leading controller's write

-- what the rule of the request gives at the tip
abbrev pub decided_by : Core → Request → Decision
decided_by e request = decide e.options e.images.tip (basis_of e) e.tip request

-- the request is decided, and nothing is written yet
pub record Decides (before after : Core) (request : Request) (out : Effect) : Type 0 where
  pub records : out.records ≡ (decided_by before request).records
  pub reply : out.reply ≡ (decided_by before request).reply
  pub same : after ≡ record before { images = after.images }
  pub image : after.images.tip ≡ (decided_by before request).image
  pub kept : after.images.kept ≡ before.images.kept
  pub made : after.images.made ≤ before.images.made + weights before.images.tip out.records
  pub calls : after.images.kept_made ≡ before.images.kept_made
  pub begins : after.images.kept_begun ≡ before.images.kept_begun
  pub settled : IsSettled before.images → IsSettled after.images

-- where it is decided, and on what besides the image
abbrev pub decided_at : Core → Request → Decided
decided_at e request = record { place = e.tip; count = length (decided_by e request).records; basis = basis_of e }

-- a write with its replies, which waits for the place
abbrev pub write_with : ℕ → Call → Option ℤ → ℤ → Reply → Reply → Decided → Write
write_with client call leading need reply refusal decided = record {
  client = client;
  correlation = call.correlation;
  epoch = led_epoch leading;
  need = need;
  reply = reply;
  refusal = refusal;
  decided = decided;
}

-- a write that was decided, and whose records are below the place
abbrev pub waiting_write : Core → ℕ → Call → ℤ → Write
waiting_write e client call need =
    write_with client call e.leading need (decided_by e call.request).reply (refuse call.request NOT_CONTROLLER) (decided_at e call.request)

-- the image kept under the place
abbrev pub image_kept : Images → ℤ → Image
image_kept images place = unwrap_or (kept_at images place) empty

-- a write that was decided waits, and whom is heard of is noted
abbrev pub core_holding : Core → ℕ → Call → Reply → Reply → Decided → Core
core_holding e client call reply refusal decided = record e {
  held = e.held ++ write_with client call e.leading e.tip reply refusal decided ∷ [];
  heard = heartbeats_after e.heard (image_kept e.images decided.place) e.images.tip e.time decided.place call.request reply;
}

pub record TakesWrite (before after : Core) (client : ℕ) (call : Call) : Type 0 where
  pub writes : Writes before after (decided_by before call.request).records
  pub heard : after.heard ≡ (decided_by before call.request).heartbeats
  pub held : after.held ≡ before.held ++ waiting_write before client call after.tip ∷ []

-- ---- what is answered at once

abbrev pub core_with_output : Core → Output → Core
core_with_output e output = record e { given = e.given ++ output ∷ [] }

abbrev pub closed_image : Core → Image
closed_image e = image_kept e.images e.closed

-- a read is answered on the image at the closed end; a write on standby is refused
abbrev pub reply_at_once : Core → Request → Reply
reply_at_once e request = unwrap_or (query e.options (closed_image e) request) (refuse request NOT_CONTROLLER)

-- ---- what is asked

abbrev pub is_led_write : Option ℤ → Request → Bool
is_led_write leading request = is_some leading && not (is_read request)

abbrev pub TakesCall : Bool → Core → Core → ℕ → Call → Type 0
TakesCall true before after client call = TakesWrite before after client call
TakesCall false before after client call =
    after ≡ core_with_output before (given.Reply client call.correlation (reply_at_once before call.request))

abbrev pub TakesAsk : Core → Core → ℕ → Ask → Type 0
TakesAsk before after client (asks.Call call) = TakesCall (is_led_write before.leading call.request) before after client call
TakesAsk before after client (asks.Bare correlation fault) =
    after ≡ core_with_output before (given.Reply client correlation (replies.Bare (error_of fault)))

-- a leading controller's log may be full
abbrev pub request_reason : Core → Ask → Option Reason
request_reason e (asks.Call call) = if is_led_write e.leading call.request && is_far e.tip then Some (exhausted e.tip) else None
request_reason e (asks.Bare correlation fault) = None

-- the ask is refused, or taken
abbrev pub SettlesRequest : Core → Core → ℕ → Ask → Option Reason → Type 0
SettlesRequest before after client ask None = TakesAsk before after client ask
SettlesRequest before after client ask (Some reason) = after ≡ refused_core before reason
