-- What is kept and told of the outputs that a node hands out.
use Rattle.std.specs.Prelude.{◌≡◌, ℕ, ℤ, negsuc, unsigned_abs, List, [], ◌∷◌, ◌++◌, fold, Option, Some, None}
use Rattle.std.specs.Option.{option_map_or}
use Rattle.std.specs.Result.{result_ok}
use Rattle.kr_batch.specs.declared.heading.Heading.{Heading}
use Rattle.kr_batch.specs.Reading.{head_of}
use Rattle.kr_calls.specs.declared.answers.AnswerKind.{AnswerKind}
use Rattle.kr_calls.specs.declared.answers.AnswerKind.TheVariants as kinds
use Rattle.kr_calls.specs.declared.calls.Reply.{Reply}
use Rattle.kr_calls.specs.declared.events.Event.TheVariants as events
use Rattle.kr_calls.specs.declared.events.Output.{Output}
use Rattle.kr_calls.specs.declared.events.Output.TheVariants as given
use Rattle.kr_defs.specs.declared.record.Item.{Item}
use Rattle.kr_model.specs.declared.writes.Ended.{Ended}
use Rattle.kr_model.specs.declared.writes.Told.{Told as Output_}
use Rattle.kr_model.specs.declared.writes.Write.{Write}
use Rattle.kr_model.specs.Engine.{Core, IsEngine, outputs_left, told_left}
use Rattle.kr_model.specs.World.{State}
use Rattle.kr_nodes.specs.declared.handing.Pending.{Pending}
use Rattle.kr_nodes.specs.declared.shared.ListBatch.{ListBatch}
use Rattle.kr_nodes.specs.declared.told.ToldReply.{ToldReply}

pub record Handed : Type 0 where
  pub unsettled : List ListBatch
  pub waiting : List (List Item)
  pub told : List ToldReply

abbrev pub handed_over : Pending → List ToldReply → Handed
handed_over pending told = record { unsettled = pending.unsettled.items; waiting = pending.waiting.items; told = told }

-- ---- batches

abbrev pub count_in : List ℕ → ℕ
count_in bytes = option_map_or (λ (h : Heading). unsigned_abs h.count) (result_ok (head_of bytes)) 0

abbrev pub list_batch_in : List ℕ → ListBatch
list_batch_in bytes = record { event = events.Batch bytes; count = count_in bytes }

-- ---- replies

abbrev pub told_at : ℕ → ℕ → ℤ → ℤ → List Item → Reply → ToldReply
told_at node client correlation place items reply =
    record { node = node; client = client; correlation = correlation; place = place; items = items; reply = reply }

abbrev pub told_unplaced : ℕ → ℕ → ℤ → Reply → ToldReply
told_unplaced node client correlation reply = told_at node client correlation (negsuc 0) [] reply

abbrev pub first_items : List (List Item) → List Item
first_items [] = []
first_items (items ∷ others) = items

abbrev pub other_items : List (List Item) → List (List Item)
other_items [] = []
other_items (items ∷ others) = others

abbrev pub told_kind : ℕ → ℕ → ℤ → Reply → ℤ → List Item → AnswerKind → ToldReply
told_kind node client correlation reply place items kinds.Stands = told_at node client correlation place items reply
told_kind node client correlation reply place items other = told_unplaced node client correlation reply

abbrev pub told_end : ℕ → ℕ → ℤ → Reply → Ended → List Item → ToldReply
told_end node client correlation reply ended items = told_kind node client correlation reply ended.decided.place items ended.kind

-- the reply of a write that waited, or one that waited for nothing
abbrev pub told_with : ℕ → ℕ → ℤ → Reply → List Item → Option Ended → ToldReply
told_with node client correlation reply items None = told_unplaced node client correlation reply
told_with node client correlation reply items (Some ended) = told_end node client correlation reply ended items

abbrev pub waiting_by : Option Ended → List (List Item) → List (List Item)
waiting_by None waiting = waiting
waiting_by (Some ended) waiting = other_items waiting

-- ---- outputs

abbrev pub after_reply : ℕ → ℕ → ℤ → Reply → Option Ended → Handed → Handed
after_reply node client correlation reply ended h = record h {
  waiting = waiting_by ended h.waiting;
  told = h.told ++ told_with node client correlation reply (first_items h.waiting) ended ∷ [];
}

abbrev pub after_given : ℕ → Handed → Option Ended → Output → Handed
after_given node h ended (given.Append bytes) = record h { unsettled = h.unsettled ++ list_batch_in bytes ∷ [] }
after_given node h ended (given.Reply client correlation reply) = after_reply node client correlation reply ended h
after_given node h ended (given.Refused event reason) = h
after_given node h ended (given.Image bytes) = h

abbrev pub after_output : ℕ → Handed → Output_ → Handed
after_output node h output = after_given node h output.ended output.output

abbrev pub after_outputs : ℕ → Handed → List Output_ → Handed
after_outputs node h outputs = fold (after_output node) h outputs

-- all is handed out
pub record HandsOut (node : ℕ) (before after : Core) (h h' : Handed) : Type 0 where
  pub options : after.options ≡ before.options
  pub stands : (s : State) (writes : List Write) → IsEngine before s writes → IsEngine after s writes
  pub drained : outputs_left after ≡ []
  pub all : h' ≡ after_outputs node h (told_left before)

-- some of it is handed out
pub record HandsPart (node : ℕ) (before now : Core) (h h' : Handed) : Type 0 where
  pub options : now.options ≡ before.options
  pub stands : (s : State) (writes : List Write) → IsEngine before s writes → IsEngine now s writes
  pub so_far : after_outputs node h' (told_left now) ≡ after_outputs node h (told_left before)
