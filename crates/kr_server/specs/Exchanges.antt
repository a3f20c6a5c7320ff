-- What is asked and replied on a client's connection.
use Rattle.std.specs.Prelude.{◌≡◌, ℕ, ℤ, ◌^◌, ◌<◌, List, ◌++◌, length}
use Rattle.std.specs.List.{flat_map}
use Rattle.std.specs.Int.{w32}
use Rattle.kr_wire.specs.Spelling.{number}
use Rattle.kr_calls.specs.declared.calls.Ask.TheVariants as asks
use Rattle.kr_calls.specs.declared.calls.AskFault.{AskFault}
use Rattle.kr_calls.specs.declared.calls.Reply.TheVariants as replies
use Rattle.kr_calls.specs.declared.errors.TheConstants.{INVALID_REQUEST}
use Rattle.kr_pages.specs.declared.describe.DescribeAsk.TheVariants as describes
use Rattle.kr_pages.specs.Messages.{IsDescribeAsk, IsDescribeKey}
use Rattle.kr_pages.specs.Written.{DescribedFits, described_bytes}
use Rattle.kr_req.specs.Messages.{IsAsk}
use Rattle.kr_req.specs.WrittenReplies.{ReplyFits, reply_bytes}
use Rattle.kr_model.specs.Outputs.{error_of}
use Rattle.kr_server.specs.declared.exchange.Exchange.{Exchange}
use Rattle.kr_server.specs.declared.exchange.Exchange.TheVariants as exchanges
use Rattle.kr_server.specs.Messages.{IsMessageThat}

-- The message stands for no call and for no page, and is answered by this error alone.
pub data IsBareAsk (correlation error : ℤ) (message : List ℕ) : Type 0 where
  no_call : (IsDescribeKey message → ⊥) → (fault : AskFault) → error ≡ error_of fault → IsAsk (asks.Bare correlation fault) message → IsBareAsk correlation error message
  no_page : error ≡ INVALID_REQUEST → IsDescribeAsk (describes.Bare correlation) message → IsBareAsk correlation error message

-- the message asks what the exchange answers
abbrev pub IsAskedFor : Exchange → List ℕ → Type 0
IsAskedFor (exchanges.Write a) message = IsAsk (asks.Call a.call) message
IsAskedFor (exchanges.Read call reply) message = IsAsk (asks.Call call) message
IsAskedFor (exchanges.Page correlation place describe described) message = IsDescribeAsk (describes.Ask correlation describe) message
IsAskedFor (exchanges.Bare correlation error) message = IsBareAsk correlation error message

-- the exchange's message, behind its size
abbrev pub IsMessageOf : Exchange → List ℕ → Type 0
IsMessageOf x = IsMessageThat (IsAskedFor x)

-- ---- replies

abbrev pub reply_message : Exchange → List ℕ
reply_message (exchanges.Write a) = reply_bytes a.call.correlation a.reply
reply_message (exchanges.Read call reply) = reply_bytes call.correlation reply
reply_message (exchanges.Page correlation place describe described) = described_bytes correlation described
reply_message (exchanges.Bare correlation error) = reply_bytes correlation (replies.Bare error)

-- its values fit their fields
abbrev pub ReplyValuesFit : Exchange → Type 0
ReplyValuesFit (exchanges.Write a) = ReplyFits a.call.correlation a.reply
ReplyValuesFit (exchanges.Read call reply) = ReplyFits call.correlation reply
ReplyValuesFit (exchanges.Page correlation place describe described) = DescribedFits correlation described
ReplyValuesFit (exchanges.Bare correlation error) = ReplyFits correlation (replies.Bare error)

-- behind its size
abbrev pub sized_reply : Exchange → List ℕ
sized_reply x = number w32 (length (reply_message x)) ++ reply_message x

-- one behind the other
abbrev pub sized_replies : List Exchange → List ℕ
sized_replies xs = flat_map sized_reply xs

-- its values fit their fields, and its length is a size that isn't negative
pub record SizedReplyFits (x : Exchange) : Type 0 where
  pub values : ReplyValuesFit x
  pub size : length (reply_message x) < 2 ^ 31
