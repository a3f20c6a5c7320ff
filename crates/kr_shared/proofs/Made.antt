-- What the worker makes of what is told: the answers to writes that waited, and behind them that to the one that comes.
use Rattle.std.proofs.Common.{◌≡◌, ◌∙◌, sym, ap, refl, Bool, List, [], ◌∷◌, ◌++◌}
use Rattle.std.specs.Prelude.{Option, Some, None, fold}
use Rattle.std.proofs.lemmas.List.{append_assoc, append-nil}
use Rattle.kr_calls.specs.declared.events.Entry.{Entry}
use Rattle.kr_calls.specs.declared.events.Entry.TheVariants as entries
use Rattle.kr_calls.specs.declared.events.Event.{Event}
use Rattle.kr_calls.specs.declared.events.Output.{Output}
use Rattle.kr_calls.specs.declared.events.Output.TheVariants as given
use Rattle.kr_calls.specs.declared.calls.Reply.{Reply}
use Rattle.kr_model.specs.declared.writes.Ended.{Ended}
use Rattle.kr_model.specs.declared.writes.Told.{Told}
use Rattle.kr_view.specs.Shelves.{Shelf, with_staged}
use Rattle.law_published_log.specs.Following.{AreNotes}
use Rattle.kr_shared.specs.declared.answers.Asking.{Asking}
use Rattle.kr_shared.specs.declared.asked.Asked.{Asked}
use Rattle.kr_shared.specs.Answers.{Answering, answer_all, answer_entry, answering, aside_noted, decided_answer, first_reply, refusal_in, with_ended, with_reply, with_told, with_told_end}
use Rattle.kr_shared.specs.Desks.{aside_by, entered_by}

abbrev pub with_more : Answering → List Entry → Answering
with_more r notes = answering r.waiting (r.notes ++ notes)

abbrev pub made : Bool → Option Asking → Event → List Asked → List Told → Answering
made takes asking event waiting told =
    with_more (answer_all (answering (waiting ++ entered_by takes asking event) []) told) (aside_noted (aside_by takes asking event) (refusal_in told) (first_reply told))

-- ---- behind what is noted already

abbrev pub behind : List Entry → Answering → Answering
behind notes r = answering r.waiting (notes ++ r.notes)

one_behind : (notes : List Entry) (waiting : List Asked) (more : List Entry) (ended : Ended) (reply : Reply) → with_reply waiting (notes ++ more) ended reply ≡ behind notes (with_reply waiting more ended reply)
one_behind notes [] more ended reply = refl
one_behind notes (a ∷ waiting) more ended reply =
    ap (λ (es : List Entry). answering waiting es) (append_assoc notes more (answer_entry (decided_answer a ended.kind ended.decided.place ended.decided.count reply) ∷ []))

output_behind : (notes : List Entry) (s : Answering) (output : Output) (ended : Ended) → with_ended (behind notes s) output ended ≡ behind notes (with_ended s output ended)
output_behind notes s (given.Append bytes) ended = refl
output_behind notes s (given.Reply client correlation reply) ended = one_behind notes s.waiting s.notes ended reply
output_behind notes s (given.Refused event reason) ended = refl
output_behind notes s (given.Image bytes) ended = refl

told_behind : (notes : List Entry) (s : Answering) (output : Output) (ended : Option Ended) → with_told_end (behind notes s) output ended ≡ behind notes (with_told_end s output ended)
told_behind notes s output None = refl
told_behind notes s output (Some ended) = output_behind notes s output ended

pub all_behind : (notes : List Entry) (s : Answering) (told : List Told) → fold with_told (behind notes s) told ≡ behind notes (fold with_told s told)
all_behind notes s [] = refl
all_behind notes s (t ∷ told) = ap (λ (r : Answering). fold with_told r told) (told_behind notes s t.output t.ended) ∙ all_behind notes (with_told s t) told

-- ---- answers, pins and stops are staged as they come

pub all_noted : (s : Shelf) (es : List Entry) → AreNotes es → fold with_staged s es ≡ record s { notes = s.notes ++ es }
all_noted s [] h = ap (λ (l : List Entry). record s { notes = l }) (sym (append-nil s.notes))
all_noted s (entries.Item place item ∷ es) h = absurd h
all_noted s (entries.Load offset records ∷ es) h = absurd h
all_noted s (entries.Pin pin ∷ es) h =
    all_noted (record s { notes = s.notes ++ entries.Pin pin ∷ [] }) es h ∙ ap (λ (l : List Entry). record s { notes = l }) (append_assoc s.notes (entries.Pin pin ∷ []) es)
all_noted s (entries.Unpin pin ∷ es) h =
    all_noted (record s { notes = s.notes ++ entries.Unpin pin ∷ [] }) es h ∙ ap (λ (l : List Entry). record s { notes = l }) (append_assoc s.notes (entries.Unpin pin ∷ []) es)
all_noted s (entries.Answer answer ∷ es) h =
    all_noted (record s { notes = s.notes ++ entries.Answer answer ∷ [] }) es h ∙ ap (λ (l : List Entry). record s { notes = l }) (append_assoc s.notes (entries.Answer answer ∷ []) es)
all_noted s (entries.Stop number ∷ es) h =
    all_noted (record s { notes = s.notes ++ entries.Stop number ∷ [] }) es h ∙ ap (λ (l : List Entry). record s { notes = l }) (append_assoc s.notes (entries.Stop number ∷ []) es)

pub both_notes : (xs ys : List Entry) → AreNotes xs → AreNotes ys → AreNotes (xs ++ ys)
both_notes [] ys h k = k
both_notes (entries.Item place item ∷ xs) ys h k = absurd h
both_notes (entries.Load offset records ∷ xs) ys h k = absurd h
both_notes (entries.Pin pin ∷ xs) ys h k = both_notes xs ys h k
both_notes (entries.Unpin pin ∷ xs) ys h k = both_notes xs ys h k
both_notes (entries.Answer answer ∷ xs) ys h k = both_notes xs ys h k
both_notes (entries.Stop number ∷ xs) ys h k = both_notes xs ys h k
