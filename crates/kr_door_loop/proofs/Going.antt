-- One question after the other.
use Rattle.std.proofs.Common.{◌≡◌, ◌∙◌, ℕ, ◌+◌, ◌<◌, ◌≤◌, inl, inr, List, [], ◌∷◌, ◌++◌, length, append-nil, append_assoc, length-append, take, Option, Some, None, Result, Ok, Err, refl, sym, ap, subst, arith}
use Rattle.std.proofs.lemmas.Grind.{flat_map-append}
use Rattle.std.proofs.Math.Seq.{take-append-add}
use Rattle.std.specs.Io.KnownBytes.{Appends, Consumes, IsAtEnd, Keeps}
use Rattle.kr_base.proofs.Pieces.{appends_kept, appends_more, consumes_more}
use Rattle.kr_base.specs.FailedPuts.{AppendsFront}
use Rattle.kr_process.specs.declared.status.Status.{Status}
use Rattle.kr_process.specs.declared.status.Status.TheVariants as statuses
use Rattle.kr_door_loop.specs.Endings.{Answered, DoorEnds, IsBroken, IsPartial, EndsHere, IsFrameOrLess, IsTooLong, NothingBehind, longest_stream}
use Rattle.kr_door_loop.specs.Frames.{AreTurns, Turn, ContentFits, IsTurn, IsContentFrame, answer_bytes, answered_bytes, asked_bytes}
use Rattle.kr_door_loop.proofs.FrameLaws.{frame_long}
use Rattle.kr_door_loop.specs.inner.Steps.{AnswersContent, TookTurn, LostAnswer, PutsAnswer, UpTo, StepEnds, Steps, StopsAt, StopsBy, TookFrame}

-- ---- one step

module _ (at : ℕ) (left left' written written' : Option (List ℕ)) where
  pub not_read : (status : Status) → StopsAt at left left' status → Keeps written written' → StepEnds at left left' written written' status
  not_read statuses.Done stops kept = (stops, kept)
  not_read (statuses.Malformed place) stops kept = (stops, kept)
  not_read statuses.ReadFault stops kept = (stops, kept)
  not_read statuses.TooLong stops kept = (stops, kept)
  not_read statuses.NoMemory stops kept = (record { taken = stops.taken; took = stops.took; within = stops.within; frame = inl stops.why }, kept)
  not_read statuses.WriteFault stops kept = absurd stops.why
  not_read statuses.Usage stops kept = absurd stops.why

  module _ (content : List ℕ) (t : TookFrame at left left' content) where
    step_to : (Wrote : List ℕ → Type 0) → AnswersContent Wrote content → TookTurn Wrote at left left' (at + (4 + length content))
    step_to Wrote answers =
        let within = t.within in
        let long = frame_long content t.taken t.is in
        let e : Turn = record { question = record { kind = answers.kind; body = answers.body }; frame = t.taken; answer = answers.answer } in
        record {
          turn = e;
          is = record { asked = subst (λ (c : List ℕ). IsContentFrame c t.taken) answers.parts t.is; fits = subst ContentFits answers.parts t.fits; answered = answers.is; said = answers.said };
          took = t.took;
          place = omega (arith, long);
          within = within;
          wrote = answers.wrote;
        }

    pub turn_taken : (next : ℕ) → next ≡ (at + 4) + length content → PutsAnswer content written written' (Ok tt) → Steps at left left' written written' (Ok next)
    turn_taken next place answers =
        let same : next ≡ at + (4 + length content) = omega (arith, place) in
        subst (TookTurn (Appends written written') at left left') (sym same) (step_to (Appends written written') answers)

    -- nothing, or a front of the answer, is written
    pub failed : (status : Status) → PutsAnswer content written written' (Err status) → StepEnds at left left' written written' status
    failed statuses.WriteFault answers = (at + (4 + length content), step_to (AppendsFront written written') answers)
    failed statuses.NoMemory kept =
        let within = t.within in
        let long = frame_long content t.taken t.is in
        (record { taken = t.taken; took = t.took; within = omega (arith, within, long); frame = inr (record { content = content; is = t.is; fits = t.fits }) }, kept)
    failed statuses.Done kept = absurd kept
    failed (statuses.Malformed place) kept = absurd kept
    failed statuses.ReadFault kept = absurd kept
    failed statuses.TooLong kept = absurd kept
    failed statuses.Usage kept = absurd kept

-- ---- all steps

are_more : (xs : List Turn) (e : Turn) → AreTurns xs → IsTurn e → AreTurns (xs ++ e ∷ [])
are_more [] e are is = (is, tt)
are_more (x ∷ xs) e are is = (are.0, are_more xs e are.1 is)

asked_more : (xs : List Turn) (e : Turn) → asked_bytes (xs ++ e ∷ []) ≡ asked_bytes xs ++ e.frame
asked_more xs e = flat_map-append (λ (x : Turn). x.frame) xs (e ∷ []) ∙ ap (λ (l : List ℕ). asked_bytes xs ++ l) (append-nil e.frame)

answered_more : (xs : List Turn) (e : Turn) → answered_bytes (xs ++ e ∷ []) ≡ answered_bytes xs ++ answer_bytes e.answer
answered_more xs e = flat_map-append (λ (x : Turn). answer_bytes x.answer) xs (e ∷ []) ∙ ap (λ (l : List ℕ). answered_bytes xs ++ l) (append-nil (answer_bytes e.answer))

nothing_appended : (a : Option (List ℕ)) → Appends a a []
nothing_appended None = tt
nothing_appended (Some x) = sym (append-nil x)

nothing_consumed : (a : Option (List ℕ)) → Consumes a a []
nothing_consumed None = tt
nothing_consumed (Some x) = refl

pub nothing_yet : (left written : Option (List ℕ)) → UpTo left left written written 0
nothing_yet left written = record {
  answered = record { turns = []; rest = []; are = tt; took = nothing_consumed left; within = omega arith; behind = refl; wrote = nothing_appended written };
  place = refl;
}

-- a front of what is written behind all that was written before
front_more : (a b c : Option (List ℕ)) (xs ys : List ℕ) → Appends a b xs → AppendsFront b c ys → AppendsFront a c (xs ++ ys)
front_more a b c xs ys before front =
    let both : Appends a c (xs ++ take front.0 ys) = appends_more a b c xs (take front.0 ys) before front.1 in
    (length xs + front.0, subst (Appends a c) (sym (take-append-add xs ys front.0)) both)

module _ (left mid left' written wmid written' : Option (List ℕ)) (at : ℕ) (so : UpTo left mid written wmid at) where
  asked : Consumes left mid (asked_bytes so.answered.turns)
  asked = subst (Consumes left mid) (ap (λ (l : List ℕ). asked_bytes so.answered.turns ++ l) so.answered.behind ∙ append-nil (asked_bytes so.answered.turns)) so.answered.took

  module _ (Wrote Wrote' : List ℕ → Type 0) (next : ℕ) (e : TookTurn Wrote at mid left' next) (more : (ys : List ℕ) → Wrote ys → Wrote' (answered_bytes so.answered.turns ++ ys)) where
    further : Answered NothingBehind Wrote' left left'
    further =
        let x = e.turn in
        let bytes : asked_bytes (so.answered.turns ++ x ∷ []) ≡ asked_bytes so.answered.turns ++ x.frame = asked_more so.answered.turns x in
        let long : length (asked_bytes (so.answered.turns ++ x ∷ [])) ≡ length (asked_bytes so.answered.turns) + length x.frame = ap (λ (l : List ℕ). length l) bytes ∙ length-append (asked_bytes so.answered.turns) x.frame in
        let place = e.place in
        let before = so.place in
        let within = e.within in
        record {
          turns = so.answered.turns ++ x ∷ [];
          rest = [];
          are = are_more so.answered.turns x so.answered.are e.is;
          took = subst (Consumes left left') (sym (append-nil (asked_bytes (so.answered.turns ++ x ∷ [])) ∙ bytes)) (consumes_more left mid left' (asked_bytes so.answered.turns) x.frame asked e.took);
          within = omega (arith, long, place, before, within);
          behind = refl;
          wrote = subst Wrote' (sym (answered_more so.answered.turns x)) (more (answer_bytes x.answer) e.wrote);
        }

  pub goes_on : (next : ℕ) → Steps at mid left' wmid written' (Ok next) → UpTo left left' written written' next
  unfolding further
  goes_on next e =
      let x = e.turn in
      let long : length (asked_bytes (so.answered.turns ++ x ∷ [])) ≡ length (asked_bytes so.answered.turns) + length x.frame = ap (λ (l : List ℕ). length l) (asked_more so.answered.turns x) ∙ length-append (asked_bytes so.answered.turns) x.frame in
      let place = e.place in
      let before = so.place in
      let behind : next ≡ length (asked_bytes (so.answered.turns ++ x ∷ [])) = omega (arith, long, place, before) in
      record {
        answered = further (Appends wmid written') (Appends written written') next e (λ ys wrote. appends_more written wmid written' (answered_bytes so.answered.turns) ys so.answered.wrote wrote);
        place = behind;
      }

  module _ (Behind : ℕ → List ℕ → Type 0) (taken : List ℕ) (took : Consumes mid left' taken) (within : at + length taken ≤ longest_stream) (why : Behind at taken) (kept : Keeps wmid written') where
    stopped : Answered Behind (Appends written written') left left'
    stopped =
        let before = so.place in
        record {
          turns = so.answered.turns;
          rest = taken;
          are = so.answered.are;
          took = consumes_more left mid left' (asked_bytes so.answered.turns) taken asked took;
          within = omega (arith, before, within);
          behind = subst (λ (n : ℕ). Behind n taken) so.place why;
          wrote = appends_kept written wmid written' (answered_bytes so.answered.turns) so.answered.wrote kept;
        }

  pub ends_by : (status : Status) → StepEnds at mid left' wmid written' status → DoorEnds left left' written written' status
  ends_by statuses.Done e = stopped (EndsHere left') e.0.taken e.0.took e.0.within e.0.why e.1
  ends_by (statuses.Malformed place) e = stopped (IsBroken left' place) e.0.taken e.0.took e.0.within e.0.why e.1
  ends_by statuses.ReadFault e = stopped IsPartial e.0.taken e.0.took e.0.within e.0.why e.1
  ends_by statuses.TooLong e = stopped IsTooLong e.0.taken e.0.took e.0.within e.0.why e.1
  ends_by statuses.NoMemory e = stopped IsFrameOrLess e.0.taken e.0.took e.0.within e.0.frame e.1
  ends_by statuses.WriteFault e = further (AppendsFront wmid written') (AppendsFront written written') e.0 e.1 (λ ys wrote. front_more written wmid written' (answered_bytes so.answered.turns) ys so.answered.wrote wrote)
  ends_by statuses.Usage e = absurd e.0.why

-- Usage is never told
pub no_usage : (at : ℕ) (left left' written written' : Option (List ℕ)) (status : Status) → StepEnds at left left' written written' status → status ≡ statuses.Usage → ⊥
no_usage at left left' written written' status e is = (subst (StepEnds at left left' written written') is e).0.why
