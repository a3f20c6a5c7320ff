-- A log is read batch after batch.
use Rattle.std.proofs.Common.{◌≡◌, ◌∙◌, ℕ, ◌+◌, ◌<◌, ◌≤◌, ◌⊎◌, ◌-◌, inl, inr, List, [], ◌∷◌, ◌++◌, length, length-append, append_assoc, ℤ, Option, Some, None, refl, sym, ap, subst, arith}
use Rattle.std.specs.Prelude.{IfSome, IsTrue, int_lt, pos, ◌+ℤ◌}
use Rattle.std.proofs.lemmas.Int.{ints}
use Rattle.kr_defs.specs.declared.limits.TheConstants.{MOST_RECORDS}
use Rattle.std.specs.Io.KnownBytes.{Consumes, IsAtEnd}
use Rattle.std.proofs.lemmas.List.{append-nil}
use Rattle.std.proofs.lemmas.List.Elements.{All-from_recursion}
use Rattle.kr_base.proofs.Pieces.{consumes_more}
use Rattle.kr_batch.specs.declared.Batch.{Batch}
use Rattle.kr_batch.specs.Grammar.{IsBatch}
use Rattle.kr_snapshot.specs.ReaderState.{IsUnfinished}
use Rattle.kr_fold.specs.declared.fault.ToolFault.{ToolFault}
use Rattle.kr_fold.specs.declared.fault.ToolFault.TheVariants as faults
use Rattle.kr_fold.specs.SourceBytes.{longest, HasNoSize, IsBatchAtMost, IsCut, IsCutOff, IsLongest, IsSized}
use Rattle.kr_fold.specs.inner.SourceReads.{HasNone, Took}
use Rattle.kr_fold.specs.Logs.{Folded, folded_with, IsLog, NoneFollows, nothing}
use Rattle.kr_fold.specs.Endings.{ReadsLog, EndsLog, BreaksLog, IsBreak, IsLogFault, TookLog}
use Rattle.kr_defs.specs.Image.{Image, empty}
use Rattle.kr_defs.specs.LogStates.{closed}
use Rattle.kr_store.specs.Images.{Images, marked, no_images, tip_state}
use Rattle.kr_batch.proofs.Batches.{one_value}
use Rattle.kr_fold.specs.declared.log.Place.{Place}
use Rattle.kr_fold.specs.inner.NextBatches.{IsFollowed, IsWithin, Stands, log_at, log_of}
use Rattle.kr_fold.proofs.Sizes.{batch_sized, sized_front, no_size_none, cut_none}
use Rattle.kr_fold.proofs.Batches.{log_more, log_of_none}
use Rattle.kr_fold.proofs.Pieces.{consumes_none}
use Rattle.kr_fold.proofs.Fronts.{without_front}

-- what stands behind a front of known bytes, of which more was taken
behind_front : (l : List ℕ) (front rest stream behind : List ℕ) → stream ≡ (front ++ rest) ++ l → stream ≡ front ++ behind → behind ≡ rest ++ l
behind_front l front rest stream behind took parts =
    without_front front behind (rest ++ l) (sym parts ∙ (took ∙ append_assoc front rest l))

-- what holds of all that stands behind the front
pub behind_all : (a b : Option (List ℕ)) (front rest : List ℕ) (P : List ℕ → Type 0) → Consumes a b (front ++ rest) → ((l : List ℕ) → b ≡ Some l → P (rest ++ l))
    → IfSome a (λ stream. (behind : List ℕ) → stream ≡ front ++ behind → P behind)
behind_all None b front rest P took step = tt
behind_all (Some stream) None front rest P took step = absurd took
behind_all (Some stream) (Some l) front rest P took step = λ behind parts. subst P (sym (behind_front l front rest stream behind took parts)) (step l refl)

-- ---- no batch may follow

no_size_follows : (log : Folded) (bytes l : List ℕ) → HasNoSize bytes → NoneFollows log (bytes ++ l)
no_size_follows log bytes l h =
    let twelve = h.start in
    let there : 12 ≤ length bytes = omega (arith, twelve) in
    record {
      some = let e = length-append bytes l in omega (arith, e, there);
      none = λ front behind batch next parts spelled follows. no_size_none bytes l front behind h.fault there h.told (batch_sized batch front spelled) parts;
    }

cut_off_none : (log : Folded) (bytes l : List ℕ) (b : Option (List ℕ)) → b ≡ Some l → IsCutOff b bytes → NoneFollows log (bytes ++ l)
cut_off_none log bytes l b is c =
    let at_end : IsAtEnd (Some l) = subst IsAtEnd is c.end in
    let none : bytes ++ l ≡ bytes = ap (λ (x : List ℕ). bytes ++ x) at_end ∙ append-nil bytes in
    record {
      some = let e = length-append bytes l in let some = c.some in omega (arith, e, some);
      none = λ front behind batch next parts spelled follows. cut_none bytes front behind c.cut (batch_sized batch front spelled) (sym none ∙ parts);
    }

refused_none : (log : Folded) (bytes l : List ℕ) → IsSized bytes → ((batch : Batch) (next : Folded) → IsBatch batch bytes → folded_with log batch ≡ Some next → ⊥) → NoneFollows log (bytes ++ l)
refused_none log bytes l sized refused = record {
  some = let e = length-append bytes l in let w = sized.whole in omega (arith, e, w);
  none = λ front behind batch next parts spelled follows.
      let s = sized_front bytes front l behind sized (batch_sized batch front spelled) parts in
      refused batch next (subst (IsBatch batch) (sym s.0) spelled) follows;
}

-- ---- one more step

module _ (left mid left' : Option (List ℕ)) (log : Folded) (at : ℕ) (reads : ReadsLog left mid log at) where
  pub reads_end : Consumes mid left' [] → IsAtEnd left' → at < longest → EndsLog left left' log
  reads_end took end short = record {
    taken = reads.taken;
    is = reads.is;
    took = subst (λ (l : List ℕ). Consumes left left' l) (append-nil reads.taken) (consumes_more left mid left' reads.taken [] reads.took took);
    end = end;
    short = let p = reads.place in omega (arith, p, short);
  }

  pub reads_more : (next : Folded) (bytes : List ℕ) (batch : Batch) → Consumes mid left' bytes → IsBatch batch bytes → folded_with log batch ≡ Some next → ReadsLog left left' next (at + length bytes)
  reads_more next bytes batch took spelled follows = record {
    taken = reads.taken ++ bytes;
    is = log_more log next reads.taken bytes batch reads.is spelled follows;
    took = consumes_more left mid left' reads.taken bytes reads.took took;
    place = let p = reads.place in let e = length-append reads.taken bytes in omega (arith, p, e);
  }

  -- some bytes behind the log
  pub behind : (Behind : Folded → List ℕ → List ℕ → Type 0) (bytes : List ℕ) → Consumes mid left' bytes → at + length bytes ≤ longest → Behind log reads.taken bytes → TookLog Behind left left'
  behind Behind bytes took within is = record {
    log = log;
    front = reads.taken;
    rest = bytes;
    is = reads.is;
    took = consumes_more left mid left' reads.taken bytes reads.took took;
    within = let p = reads.place in let e = length-append reads.taken bytes in omega (arith, p, e, within);
    behind = is;
  }

  breaks : (bytes : List ℕ) → Consumes mid left' bytes → at + length bytes ≤ longest → IsBreak left' bytes → ((l : List ℕ) → left' ≡ Some l → NoneFollows log (bytes ++ l)) → TookLog (BreaksLog left left' at) left left'
  breaks bytes took within told none =
      let all = consumes_more left mid left' reads.taken bytes reads.took took in
      behind (BreaksLog left left' at) bytes took within (record { place = reads.place; told = told; none = behind_all left left' reads.taken bytes (NoneFollows log) all none })

  pub reads_refused : (bytes : List ℕ) → Consumes mid left' bytes → at + length bytes ≤ longest → IsSized bytes → ((batch : Batch) (next : Folded) → IsBatch batch bytes → folded_with log batch ≡ Some next → ⊥)
      → TookLog (BreaksLog left left' at) left left'
  reads_refused bytes took within sized refused = breaks bytes took within (inr (inl sized)) (λ l is. refused_none log bytes l sized refused)

  -- memory ran out for a batch
  pub reads_forgotten : (bytes : List ℕ) → Consumes mid left' bytes → at + length bytes ≤ longest → IsSized bytes → IsLogFault left left' faults.NoMemory
  reads_forgotten bytes took within sized = behind (λ log front rest. IsBatchAtMost rest) bytes took within (inr (inl sized))

  broken : (t : Took (λ bytes. HasNoSize bytes ⊎ IsCutOff left' bytes) mid left' at) → HasNoSize t.taken ⊎ IsCutOff left' t.taken → TookLog (BreaksLog left left' at) left left'
  broken t (inl h) = breaks t.taken t.took t.within (inl h) (λ l is. no_size_follows log t.taken l h)
  broken t (inr c) = breaks t.taken t.took t.within (inr (inr c)) (λ l is. cut_off_none log t.taken l left' is c)

  pub reads_none : (count count' : ℕ) (fault : ToolFault) → HasNone mid left' count count' at fault → IsLogFault left left' fault
  reads_none count count' (faults.Malformed place) has =
      subst (λ (n : ℕ). TookLog (BreaksLog left left' n) left left') (sym has.0) (broken has.1 has.1.is)
  reads_none count count' faults.ReadFault has =
      let t = has.1 in
      behind (λ log front rest. IsCut (length front) rest) t.taken t.took t.within (subst (λ (n : ℕ). IsCut n t.taken) reads.place t.is)
  reads_none count count' faults.NoMemory has = behind (λ log front rest. IsBatchAtMost rest) has.taken has.took has.within has.is
  reads_none count count' faults.WriteFault has = has
  reads_none count count' faults.TooLong has =
      behind (λ log front rest. IsLongest (length front) rest) has.taken has.took has.within (subst (λ (n : ℕ). IsLongest n has.taken) reads.place has.is)

-- ---- behind a batch that was read

-- the one batch that the bytes are doesn't follow
pub one_refused : (log : Folded) (read : Batch) (bytes : List ℕ) → IsBatch read bytes → folded_with log read ≡ None → (batch : Batch) (next : Folded) → IsBatch batch bytes → folded_with log batch ≡ Some next → ⊥
one_refused log read bytes is none batch next other follows =
    let clash = sym none ∙ (ap (λ (b : Batch). folded_with log b) (one_value bytes read batch is other) ∙ follows) in cc

pub reads_beyond : (left mid left' : Option (List ℕ)) (place next : Place) (before after : Images) (bytes : List ℕ) (batch : Batch) (tip : ℤ) (len : ℕ)
    → ReadsLog left mid (log_at place before) place.at → Consumes mid left' bytes → IsBatch batch bytes → IsFollowed place.tip before after batch (Some tip)
    → next.tip ≡ tip → next.at ≡ place.at + len → len ≡ length bytes → ReadsLog left left' (log_at next after) next.at
reads_beyond left mid left' place next before after bytes batch tip len reads took spelled follows at_tip at whole =
    let r = reads_more left mid left' (log_at place before) place.at reads (log_of tip after) bytes batch took spelled follows.0 in
    record {
      taken = r.taken;
      is = subst (λ (t : ℤ). IsLog (log_of t after) r.taken) (sym at_tip) r.is;
      took = r.took;
      place = let p = r.place in omega (arith, p, at, whole);
    }

-- each byte brings few items
pub within_beyond : (place next : Place) (bytes : List ℕ) (count : ℕ) (tip : ℤ) (len : ℕ) → IsWithin place → tip ≡ place.tip +ℤ pos count → count ≤ MOST_RECORDS → IsSized bytes
    → place.at + length bytes ≤ longest → next.tip ≡ tip → next.at ≡ place.at + len → len ≡ length bytes → IsWithin next × (place.at < next.at)
within_beyond place next bytes count tip len within tip_is few sized end at_tip at whole =
    let natural = within.natural in
    let items = within.few in
    let size = sized.whole in (
      record {
        natural = omega (arith, ints, natural, tip_is, at_tip);
        few = omega (arith, ints, items, tip_is, at_tip, few, size, at, whole);
        bytes = omega (arith, end, at, whole);
      },
      omega (arith, size, at, whole),
    )

-- ---- at the start

-- a new store with an epoch kept is empty, and keeps that one
pub marked_new : (new store : Images) → new ≡ no_images → store ≡ marked new (pos 0) → Stands store (pos 0) × (tip_state store ≡ closed empty)
marked_new new store is kept =
    let whole : store ≡ marked no_images (pos 0) = kept ∙ ap (λ (i : Images). marked i (pos 0)) is in
    (subst (λ (i : Images). Stands i (pos 0)) (sym whole) new_stands, ap (λ (i : Images). tip_state i) whole)
  where
    new_stands : Stands (marked no_images (pos 0)) (pos 0)
    new_stands = record {
      natural = omega (arith, ints);
      may = inr refl;
      above = All-from_recursion (λ (k : ℤ × Image). IsTrue (int_lt k.0 (pos 1))) ((pos 0, empty) ∷ []) (refl, tt);
      keeps = record { low = (omega (arith, ints), tt); some = refl; closed = (refl, tt) };
    }

pub reads_nothing : (left : Option (List ℕ)) (place : Place) (images : Images) → place.tip ≡ pos 0 → place.at ≡ 0 → tip_state images ≡ closed empty → ReadsLog left left (log_at place images) place.at
reads_nothing left place images tip at is = record {
  taken = [];
  is = subst (λ (log : Folded). IsLog log []) (sym (ap (λ (t : ℤ). log_of t images) tip ∙ ap (λ s. let log : Folded = record { tip = pos 0; state = s } in log) is)) log_of_none;
  took = consumes_none left;
  place = at;
}

-- ---- memory runs out

none_unfinished : IsUnfinished []
none_unfinished = λ there. absurd (omega (arith, there))

-- before anything is taken
pub nothing_forgotten : (left : Option (List ℕ)) → IsLogFault left left faults.NoMemory
nothing_forgotten left = record {
  log = nothing;
  front = [];
  rest = [];
  is = log_of_none;
  took = consumes_none left;
  within = omega arith;
  behind = inl none_unfinished;
}

-- for a break that is told
at_most_of : (left' : Option (List ℕ)) (rest : List ℕ) → IsBreak left' rest → IsBatchAtMost rest
at_most_of left' rest (inl no_size) = inr (inr no_size)
at_most_of left' rest (inr (inl sized)) = inr (inl sized)
at_most_of left' rest (inr (inr cut)) = inl cut.cut

pub break_forgotten : (left left' : Option (List ℕ)) (at : ℕ) → IsLogFault left left' (faults.Malformed at) → IsLogFault left left' faults.NoMemory
break_forgotten left left' at b = record { log = b.log; front = b.front; rest = b.rest; is = b.is; took = b.took; within = b.within; behind = at_most_of left' b.rest b.behind.told }

-- behind a batch that was read
pub read_forgotten : (left left' : Option (List ℕ)) (log : Folded) (at : ℕ) → ReadsLog left left' log at → at ≤ longest → IsLogFault left left' faults.NoMemory
read_forgotten left left' log at reads within = record {
  log = log;
  front = reads.taken;
  rest = [];
  is = reads.is;
  took = subst (λ (l : List ℕ). Consumes left left' l) (sym (append-nil reads.taken)) reads.took;
  within = let e = length-append reads.taken [] in let p = reads.place in omega (arith, e, p, within);
  behind = inl none_unfinished;
}
