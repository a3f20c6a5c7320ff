-- Kafka's DeleteTopics, version 6 (KIP-516).
use Rattle.std.specs.Prelude.{ℕ, ℤ, pos, not, List, [], ◌∷◌, Option, Some, None, Result, Ok}
use Rattle.kr_defs.specs.Map as entries
use Rattle.kr_defs.specs.declared.record.Record.TheVariants as kinds
use Rattle.kr_defs.specs.Guard.{found, refuse◌when◌else◌}
use Rattle.kr_defs.specs.Image.{Image, topic_name}
use Rattle.kr_defs.specs.Map.{text_order}
use Rattle.kr_defs.specs.Topics.{is_named_once}
use Rattle.kr_calls.specs.declared.errors.TheConstants.{INVALID_REQUEST, UNKNOWN_TOPIC_ID, UNKNOWN_TOPIC_OR_PARTITION}
use Rattle.kr_calls.specs.declared.calls.Reply.{Reply}
use Rattle.kr_calls.specs.declared.deciding.Draft.{Draft}
use Rattle.kr_calls.specs.declared.delete_topics.DeletableTopicResult.{DeletableTopicResult}
use Rattle.kr_calls.specs.declared.delete_topics.DeleteTopicState.{DeleteTopicState}
use Rattle.kr_calls.specs.declared.delete_topics.DeleteTopics.{DeleteTopics}
use Rattle.kr_calls.specs.declared.calls.Reply.TheVariants as replies
use Rattle.kr_calls.specs.Deciding.{Work, after_all, answers, nothing_decided}
use Rattle.kr_calls.specs.Refuse.{refused_delete_topics}

abbrev pub deleted : List ℕ → ℕ → Draft DeletableTopicResult
deleted name id = record { records = kinds.RemoveTopic id ∷ []; answer = record { name = Some name; topic = id; error = pos 0 } }

abbrev pub by_name_or_id : Image → Option (List ℕ) → ℕ → Result (Draft DeletableTopicResult) ℤ
by_name_or_id image (Some name) id = found UNKNOWN_TOPIC_OR_PARTITION (entries.get text_order image.topics name) (λ id. Ok (deleted name id))
by_name_or_id image None id = found UNKNOWN_TOPIC_ID (topic_name image.topics id) (λ name. Ok (deleted name id))

abbrev pub rule : Image → ℤ → DeleteTopicState → Result (Draft DeletableTopicResult) ℤ
rule image place entry =
    refuse INVALID_REQUEST when not (is_named_once entry.name entry.topic) else
    by_name_or_id image entry.name entry.topic

abbrev pub reply_of : List DeletableTopicResult → Reply
reply_of responses = replies.DeleteTopics (record { responses = responses })

unfoldable pub decided : Image → ℤ → DeleteTopics → Work × Reply
decided image place request =
    let start = nothing_decided place image in
    (after_all refused_delete_topics rule start request.topics, reply_of (answers refused_delete_topics rule start request.topics))
