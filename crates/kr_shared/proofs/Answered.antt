-- The answers to the writes whose replies are told are right, and the other writes wait on.
use Rattle.std.proofs.Common.{◌≡◌, ◌∙◌, sym, subst, ℕ, ℤ, pos, negsuc, Bool, true, false, cond, ◌+◌, ◌≤◌, List, [], ◌∷◌, ◌++◌, map, refl, ap, arith}
use Rattle.std.specs.Prelude.{◌+ℤ◌, Option, Some, None, filter, fold, int_lt, not}
use Rattle.std.proofs.lemmas.Bool.Decides.{nat_tests}
use Rattle.std.proofs.lemmas.Int.{ints}
use Rattle.std.proofs.lemmas.List.{append_assoc, append-nil}
use Rattle.kr_calls.specs.declared.answers.Answer.{Answer}
use Rattle.kr_calls.specs.declared.answers.AnswerKind.TheVariants as kinds
use Rattle.kr_calls.specs.declared.events.Entry.{Entry}
use Rattle.kr_calls.specs.declared.events.Output.{Output}
use Rattle.kr_calls.specs.declared.events.Entry.TheVariants as entries
use Rattle.kr_calls.specs.RightAnswers.{AreRightAfter, IsRight}
use Rattle.kr_defs.specs.declared.options.Options.{Options}
use Rattle.kr_defs.specs.Log.{Log}
use Rattle.kr_model.specs.declared.writes.Told.{Told}
use Rattle.kr_model.specs.declared.writes.Write.{Write}
use Rattle.kr_model.specs.Engine.{writes_in_order}
use Rattle.kr_model.specs.Outputs.{due_writes, end_of_write, is_open, told_alone, told_answers, told_reply}
use Rattle.kr_model.proofs.Queues.{first_is_due, first_waits_not, none_is_due, order_behind}
use Rattle.law_published_log.specs.Following.{AreNotes, Shows}
use Rattle.law_published_log.proofs.Decided.{decided_answers_are_right}
use Rattle.law_published_log.proofs.Shown.{shown_logs_go_on}
use Rattle.kr_shared.specs.declared.asked.Asked.{Asked}
use Rattle.kr_shared.specs.Answers.{Answering, decided_answer, answered_of, answering, with_told}
use Rattle.kr_shared.specs.Standing.{AreWaiting, IsWaitingWrite}

pub pos_sum : (m n : ℕ) → pos (m + n) ≡ pos m +ℤ pos n
pos_sum m n = grind (arith, ints)

-- ---- outputs that no write waited for

pub alone_told : (s : Answering) (outputs : List Output) (rest : List Told) → fold with_told s (map told_alone outputs ++ rest) ≡ fold with_told s rest
alone_told s [] rest = refl
alone_told s (output ∷ outputs) rest = alone_told s outputs rest

-- ---- one answer

not_later : (end : ℕ) (need : ℤ) (n : ℕ) → need ≡ pos n → int_lt (pos end) need ≡ false → n ≤ end
not_later end need n is h = let k : int_lt (pos end) (pos n) ≡ false = subst (λ z. int_lt (pos end) z ≡ false) is h in grind (arith, nat_tests)

all_pass : {X : Type 0} (f : Write → X) (p : Write → Bool) (writes : List Write) → map f (filter (λ w. not (p w)) writes) ≡ [] → filter p writes ≡ writes
all_pass f p [] none = refl
all_pass f p (w ∷ ws) none =
    elim (p w) as (λ b. map f (cond (not b) (w ∷ filter (λ w. not (p w)) ws) (filter (λ w. not (p w)) ws)) ≡ [] → cond b (w ∷ filter p ws) (filter p ws) ≡ w ∷ ws) [
      | true ↦ λ none. ap (λ (l : List Write). w ∷ l) (all_pass f p ws none)
      | false ↦ λ none. absurd cc
    ] none

module _ (options : Options) (log : Log) (end : ℕ) where
  abbrev answer_by : Bool → Asked → Write → Answer
  answer_by b a w = decided_answer a (cond b kinds.Lost kinds.Stands) w.decided.place w.decided.count (cond b w.refusal w.reply)

  right_by : (b : Bool) (a : Asked) (w : Write) (base : List Entry) → int_lt (pos end) w.need ≡ b → IsWaitingWrite options log a w → Shows log end base → IsRight options base (answer_by b a w)
  right_by true a w base is i shows = (record { seat = refl; ticket = refl; place = refl; floor = i.floor }, i.refusal)
  right_by false a w base is i shows = (
    record { seat = refl; ticket = refl; place = refl; floor = i.floor },
    decided_answers_are_right options log end base (answered_of a w.decided.place w.decided.count w.reply) i.decided (not_later end w.need (i.decided.at + w.decided.count) (i.need ∙ (ap (λ z. z +ℤ pos w.decided.count) i.decided.place ∙ sym (pos_sum i.decided.at w.decided.count))) is) shows,
  )

  -- ---- all of them

  -- what is added to the notes is right in each list that shows the log
  pub record AreAnswers (notes : List Entry) (r : Answering) : Type 0 where
    pub more : List Entry
    pub added : r.notes ≡ notes ++ more
    pub bare : AreNotes more
    pub right : (base : List Entry) → Shows log end base → AreRightAfter options base more

  none_added : (notes : List Entry) (waiting : List Asked) → AreAnswers notes (answering waiting notes)
  none_added notes waiting = record { more = []; added = sym (append-nil notes); bare = tt; right = λ base shows. tt }

  one_added : (notes : List Entry) (answer : Answer) (r : Answering) → ((base : List Entry) → Shows log end base → IsRight options base answer)
      → AreAnswers (notes ++ entries.Answer answer ∷ []) r → AreAnswers notes r
  one_added notes answer r right rest = record {
    more = entries.Answer answer ∷ rest.more;
    added = rest.added ∙ append_assoc notes (entries.Answer answer ∷ []) rest.more;
    bare = rest.bare;
    right = λ base shows. (right base shows, rest.right (base ++ entries.Answer answer ∷ []) (shown_logs_go_on.notes log end base (entries.Answer answer ∷ []) shows tt));
  }

  module _ (leading : Option ℤ) where
    pub record Ends (writes : List Write) (notes : List Entry) (r : Answering) : Type 0 where
      pub waits : AreWaiting options log r.waiting (filter (is_open leading (pos end)) writes)
      pub answers : AreAnswers notes r

    still : (ones : List Asked) (w : Write) (ws : List Write) (notes : List Entry) → AreWaiting options log ones (w ∷ ws) → told_answers leading (pos end) (w ∷ ws) ≡ [] → Ends (w ∷ ws) notes (fold with_told (answering ones notes) (told_answers leading (pos end) (w ∷ ws)))
    still ones w ws notes waits none =
        subst (λ (told : List Told). Ends (w ∷ ws) notes (fold with_told (answering ones notes) told)) (sym none) (record {
          waits = subst (AreWaiting options log ones) (sym (all_pass (told_reply (pos end)) (is_open leading (pos end)) (w ∷ ws) none)) waits;
          answers = none_added notes ones;
        })

    pub ends_all : (ones : List Asked) (ws : List Write) (notes : List Entry) → AreWaiting options log ones ws → writes_in_order ws ≡ true → Ends ws notes (fold with_told (answering ones notes) (told_answers leading (pos end) ws))
    ends_all [] [] notes waits ordered = record { waits = tt; answers = none_added notes [] }
    ends_all (a ∷ ones) [] notes waits ordered = absurd waits
    ends_all [] (w ∷ ws) notes waits ordered = absurd waits
    ends_all (a ∷ ones) (w ∷ ws) notes waits ordered =
        elim (is_open leading (pos end) w) as (λ b. is_open leading (pos end) w ≡ b → Ends (w ∷ ws) notes (fold with_told (answering (a ∷ ones) notes) (told_answers leading (pos end) (w ∷ ws)))) [
          | true ↦ λ is. still (a ∷ ones) w ws notes waits (none_is_due leading (pos end) w ws is ordered)
          | false ↦ λ is.
              let answer = answer_by (int_lt (pos end) w.need) a w in
              let rest = ends_all ones ws (notes ++ entries.Answer answer ∷ []) waits.1 (order_behind w ws ordered) in
              subst (λ (told : List Told). Ends (w ∷ ws) notes (fold with_told (answering (a ∷ ones) notes) told)) (sym (first_is_due leading (pos end) w ws is)) (record {
                waits = subst (AreWaiting options log (fold with_told (answering ones (notes ++ entries.Answer answer ∷ [])) (told_answers leading (pos end) ws)).waiting) (sym (first_waits_not leading (pos end) w ws is)) rest.waits;
                answers = one_added notes answer (fold with_told (answering ones (notes ++ entries.Answer answer ∷ [])) (told_answers leading (pos end) ws)) (λ base shows. right_by (int_lt (pos end) w.need) a w base refl waits.0 shows) rest.answers;
              })
        ] refl
