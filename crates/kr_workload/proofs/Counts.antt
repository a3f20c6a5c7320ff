-- What is counted of outputs and of events.
use Rattle.std.proofs.Common.{◌≡◌, ℕ, ◌+◌, Bool, true, false, cond, List, [], ◌∷◌, ◌++◌, length, append-nil, length-append, add_assoc, sym, ap, ◌∙◌, arith}
use Rattle.std.specs.Prelude.{filter, fold, min, not}
use Rattle.std.specs.List.{flat_map}
use Rattle.std.proofs.lemmas.List.Elements.{filter-append}
use Rattle.std.proofs.lemmas.Grind.{flat_map-append, fold-append}
use Rattle.kr_calls.specs.declared.calls.Reply.{Reply}
use Rattle.kr_calls.specs.declared.events.Entry.{Entry}
use Rattle.kr_calls.specs.declared.events.Event.{Event}
use Rattle.kr_calls.specs.declared.events.Output.{Output}
use Rattle.kr_calls.specs.declared.events.Output.TheVariants as given
use Rattle.kr_defs.specs.declared.options.Options.{Options}
use Rattle.kr_model.specs.Entries.{log_entries}
use Rattle.kr_model.specs.Events.{happens}
use Rattle.kr_model.specs.World.{State}
use Rattle.kr_workload.specs.declared.tally.Tally.{Tally}
use Rattle.kr_workload.specs.Replies.{is_ok}
use Rattle.kr_workload.specs.Summary.{is_record, event_records, replies_of}
use Rattle.kr_workload.specs.inner.Counting.{capped_sum, with_appended, with_output, with_outputs}

-- ---- counts that stay at the greatest

capped_more : (n m top : ℕ) → min (min (n + 0) top + m) top ≡ min (n + m + 0) top
capped_more n m top = omega arith

more_of : (count n m : ℕ) → count ≡ capped_sum n 0 → capped_sum count m ≡ capped_sum (n + m) 0
more_of count n m is = ap (λ (k : ℕ). capped_sum k m) is ∙ capped_more n m _

none_more : (count n : ℕ) → count ≡ capped_sum n 0 → count ≡ capped_sum (n + 0) 0
none_more count n is = is ∙ ap (λ (k : ℕ). capped_sum k 0) (omega arith)

-- ---- a tally that has counted so many

pub record Has (tally : Tally) (events records ok refused : ℕ) : Type 0 where
  pub events_so : tally.events ≡ capped_sum events 0
  pub records_so : tally.records ≡ capped_sum records 0
  pub ok_so : tally.ok ≡ capped_sum ok 0
  pub refused_so : tally.refused ≡ capped_sum refused 0

unfoldable pub oks : List Reply → ℕ
oks replies = length (filter is_ok replies)

unfoldable pub others : List Reply → ℕ
others replies = length (filter (λ reply. not (is_ok reply)) replies)

one : Bool → ℕ
one b = cond b 1 0

module _ (events records : ℕ) where
  has_same : (t : Tally) (ok ok' refused refused' : ℕ) → ok ≡ ok' → refused ≡ refused' → Has t events records ok refused → Has t events records ok' refused'
  has_same t ok ok' refused refused' a b has =
      record { events_so = has.events_so; records_so = has.records_so; ok_so = has.ok_so ∙ ap (λ (n : ℕ). capped_sum n 0) a; refused_so = has.refused_so ∙ ap (λ (n : ℕ). capped_sum n 0) b }

  has_reply : (t : Tally) (ok refused : ℕ) (b : Bool) → Has t events records ok refused
      → Has (cond b (record t { ok = capped_sum t.ok 1 }) (record t { refused = capped_sum t.refused 1 })) events records (ok + one b) (refused + one (not b))
  unfolding one
  has_reply t ok refused true has =
      record { events_so = has.events_so; records_so = has.records_so; ok_so = more_of t.ok ok 1 has.ok_so; refused_so = none_more t.refused refused has.refused_so }
  has_reply t ok refused false has =
      record { events_so = has.events_so; records_so = has.records_so; ok_so = none_more t.ok ok has.ok_so; refused_so = more_of t.refused refused 1 has.refused_so }

  length_cond : {X : Type 0} (b : Bool) (x : X) (xs : List X) → length (cond b (x ∷ xs) xs) ≡ one b + length xs
  unfolding one
  length_cond true x xs = omega arith
  length_cond false x xs = omega arith

  oks_first : (reply : Reply) (rest : List Reply) (n : ℕ) → n + one (is_ok reply) + oks rest ≡ n + oks (reply ∷ rest)
  unfolding oks
  oks_first reply rest n =
      let e : length (filter is_ok (reply ∷ rest)) ≡ one (is_ok reply) + length (filter is_ok rest) = length_cond (is_ok reply) reply (filter is_ok rest) in
      let told : n + one (is_ok reply) + length (filter is_ok rest) ≡ n + length (filter is_ok (reply ∷ rest)) = omega (arith, e) in
      told

  others_first : (reply : Reply) (rest : List Reply) (n : ℕ) → n + one (not (is_ok reply)) + others rest ≡ n + others (reply ∷ rest)
  unfolding others
  others_first reply rest n =
      let p : Reply → Bool = λ reply. not (is_ok reply) in
      let e : length (filter p (reply ∷ rest)) ≡ one (not (is_ok reply)) + length (filter p rest) = length_cond (not (is_ok reply)) reply (filter p rest) in
      let told : n + one (not (is_ok reply)) + length (filter p rest) ≡ n + length (filter p (reply ∷ rest)) = omega (arith, e) in
      told

  none_ok : (n : ℕ) → n ≡ n + oks []
  unfolding oks
  none_ok n = let told : n ≡ n + 0 = omega arith in told

  none_other : (n : ℕ) → n ≡ n + others []
  unfolding others
  none_other n = let told : n ≡ n + 0 = omega arith in told

  -- outputs are counted
  pub has_outputs : (outputs : List Output) (t : Tally) (ok refused : ℕ) → Has t events records ok refused
      → Has (with_outputs t outputs) events records (ok + oks (replies_of outputs)) (refused + others (replies_of outputs))
  has_outputs [] t ok refused has = has_same t ok _ refused _ (none_ok ok) (none_other refused) has
  has_outputs (given.Reply client correlation reply ∷ outputs) t ok refused has =
      has_same _ _ _ _ _ (oks_first reply (replies_of outputs) ok) (others_first reply (replies_of outputs) refused)
      (has_outputs outputs _ _ _ (has_reply t ok refused (is_ok reply) has))
  has_outputs (given.Append bytes ∷ outputs) t ok refused has = has_outputs outputs t ok refused has
  has_outputs (given.Refused event reason ∷ outputs) t ok refused has = has_outputs outputs t ok refused has
  has_outputs (given.Image bytes ∷ outputs) t ok refused has = has_outputs outputs t ok refused has

pub has_so : (t : Tally) (events events' records records' ok ok' refused refused' : ℕ) → events ≡ events' → records ≡ records' → ok ≡ ok' → refused ≡ refused' → Has t events records ok refused → Has t events' records' ok' refused'
has_so t events events' records records' ok ok' refused refused' a b c d has = record {
  events_so = has.events_so ∙ ap (λ (n : ℕ). capped_sum n 0) a;
  records_so = has.records_so ∙ ap (λ (n : ℕ). capped_sum n 0) b;
  ok_so = has.ok_so ∙ ap (λ (n : ℕ). capped_sum n 0) c;
  refused_so = has.refused_so ∙ ap (λ (n : ℕ). capped_sum n 0) d;
}

-- one output more
pub outputs_more : (t : Tally) (given : List Output) (output : Output) → with_outputs t (given ++ output ∷ []) ≡ with_output (with_outputs t given) output
outputs_more t given output = fold-append with_output t given (output ∷ [])

-- an event is counted
pub has_event : (t : Tally) (entries : List Entry) (events records ok refused : ℕ) → Has t events records ok refused
    → Has (with_appended t entries) (events + 1) (records + length (filter is_record entries)) ok refused
has_event t entries events records ok refused has = record {
  events_so = more_of t.events events 1 has.events_so;
  records_so = more_of t.records records (length (filter is_record entries)) has.records_so;
  ok_so = has.ok_so;
  refused_so = has.refused_so;
}

-- ---- one more event

abbrev pub joined : List (List Output) → List Output
joined given = flat_map (λ (outputs : List Output). outputs) given

pub replies_behind : (given : List (List Output)) (outputs : List Output) → replies_of (joined (given ++ outputs ∷ [])) ≡ replies_of (joined given) ++ replies_of outputs
replies_behind given outputs =
    ap replies_of (flat_map-append (λ (outputs : List Output). outputs) given (outputs ∷ []) ∙ ap (λ (l : List Output). joined given ++ l) (append-nil outputs))
    ∙ flat_map-append _ (joined given) outputs

pub oks_behind : (given : List (List Output)) (outputs : List Output) → oks (replies_of (joined given)) + oks (replies_of outputs) ≡ oks (replies_of (joined (given ++ outputs ∷ [])))
unfolding oks
oks_behind given outputs =
    let e = length-append (filter is_ok (replies_of (joined given))) (filter is_ok (replies_of outputs)) in
    sym (ap (λ (l : List Reply). length (filter is_ok l)) (replies_behind given outputs) ∙ (ap length (filter-append is_ok (replies_of (joined given)) (replies_of outputs)) ∙ e))

pub others_behind : (given : List (List Output)) (outputs : List Output) → others (replies_of (joined given)) + others (replies_of outputs) ≡ others (replies_of (joined (given ++ outputs ∷ [])))
unfolding others
others_behind given outputs =
    let p : Reply → Bool = λ reply. not (is_ok reply) in
    let e = length-append (filter p (replies_of (joined given))) (filter p (replies_of outputs)) in
    sym (ap (λ (l : List Reply). length (filter p l)) (replies_behind given outputs) ∙ (ap length (filter-append p (replies_of (joined given)) (replies_of outputs)) ∙ e))

module _ (options : Options) where
  pub records_more : (past : List Event) (s : State) (event : Event)
      → event_records options s past + length (filter is_record (log_entries options (fold (happens options) s past) event)) ≡ event_records options s (past ++ event ∷ [])
  records_more [] s event = omega arith
  records_more (first ∷ past) s event =
      let e = records_more past (happens options s first) event in
      add_assoc (length (filter is_record (log_entries options s first))) _ _ ∙ ap (λ (n : ℕ). length (filter is_record (log_entries options s first)) + n) e
