-- The definitions computed on small messages.
use Rattle.std.proofs.Common.{◌≡◌, ℕ, pos, None, Some, true, false, List, [], ◌∷◌, ◌++◌, refl}
use Rattle.std.specs.Prelude.{codes}
use Rattle.kr_wire.specs.Reading.{uvarint_at, tags_at, fields_at}
use Rattle.kr_wire.specs.Spelling.{number, signed, uvarint}
use Rattle.kr_layout.specs.Answers.{whole}
use Rattle.kr_calls.specs.declared.errors.TheConstants.{NOT_CONTROLLER}
use Rattle.kr_calls.specs.declared.calls.Ask.TheVariants as asks
use Rattle.kr_calls.specs.declared.calls.AskFault.TheVariants as faults
use Rattle.kr_calls.specs.declared.calls.Request.TheVariants as requests
use Rattle.kr_calls.specs.declared.calls.Reply.TheVariants as replies
use Rattle.kr_calls.specs.Refuse.{refuse}
use Rattle.kr_req.specs.WrittenReplies.{reply_bytes}
use Rattle.kr_req.specs.Reading.{served_by, head_at, client_id_at, client_at, body_of, request_of, ask_of}

-- a heartbeat of broker 1 with epoch 0 at offset 4, under the correlation id 2, without client id
abbrev heartbeat : List ℕ
heartbeat =
    0 ∷ 0x3F ∷ 0 ∷ 0 ∷ 0 ∷ 0 ∷ 0 ∷ 2 ∷ 0xFF ∷ 0xFF ∷ 0
    ∷ 0 ∷ 0 ∷ 0 ∷ 1 ∷ 0 ∷ 0 ∷ 0 ∷ 0 ∷ 0 ∷ 0 ∷ 0 ∷ 0 ∷ 0 ∷ 0 ∷ 0 ∷ 0 ∷ 0 ∷ 0 ∷ 0 ∷ 4 ∷ 0 ∷ 0 ∷ 0 ∷ []

pub heartbeat_asked :
    ask_of heartbeat
    ≡ asks.Call (record {
      correlation = pos 2;
      request = requests.BrokerHeartbeat (record { broker = pos 1; epoch = pos 0; offset = pos 4; want_fence = false; want_shutdown = false });
    })
unfolding ask_of head_at served_by request_of client_at client_id_at body_of whole tags_at fields_at uvarint_at
heartbeat_asked = refl

-- one byte is left behind it
pub heartbeat_and_more : ask_of (heartbeat ++ 0 ∷ []) ≡ asks.Bare (pos 2) faults.Trailing
unfolding ask_of head_at served_by request_of client_at client_id_at body_of whole tags_at fields_at uvarint_at
heartbeat_and_more = refl

-- seven bytes, of a key that isn't served
pub too_short : ask_of (0 ∷ 18 ∷ 0 ∷ 3 ∷ 0 ∷ 0 ∷ 0 ∷ []) ≡ asks.Bare (pos 0) faults.Wire
unfolding ask_of head_at
too_short = refl

-- ApiVersions isn't served, whatever follows
pub api_versions : ask_of (0 ∷ 18 ∷ 0 ∷ 3 ∷ 0 ∷ 0 ∷ 0 ∷ 1 ∷ 0xFF ∷ 0xFF ∷ 0 ∷ []) ≡ asks.Bare (pos 1) (faults.Unsupported (pos 18) (pos 3))
unfolding ask_of head_at served_by
api_versions = refl

-- the reply to the heartbeat, which unfences
pub heartbeat_answered :
    reply_bytes (pos 2) (replies.BrokerHeartbeat (record { error = pos 0; caught_up = true; fenced = false; should_shut_down = false }))
    ≡ 0 ∷ 0 ∷ 0 ∷ 2 ∷ 0 ∷ 0 ∷ 0 ∷ 0 ∷ 0 ∷ 0 ∷ 0 ∷ 1 ∷ 0 ∷ 0 ∷ 0 ∷ []
unfolding signed number uvarint
heartbeat_answered = refl

-- the entries are refused in their order
pub refused_in_order :
    refuse (requests.DeleteTopics (record { topics = record { name = None; topic = 7 } ∷ record { name = Some (codes "t"); topic = 0 } ∷ [] })) NOT_CONTROLLER
    ≡ replies.DeleteTopics (record { responses = record { name = None; topic = 7; error = NOT_CONTROLLER } ∷ record { name = Some (codes "t"); topic = 0; error = NOT_CONTROLLER } ∷ [] })
unfolding refuse
refused_in_order = refl
