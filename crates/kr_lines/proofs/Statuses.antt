-- The status is told by the input, where no read and no write failed and memory didn't run out.
use Rattle.std.proofs.Common.{◌≡◌, ◌∙◌, ℕ, ℤ, ◌<◌, ◌≤◌, ◌⊎◌, inl, inr, List, [], ◌++◌, length, length-append, append_assoc, append-nil, Option, Some, None, Result, Ok, Err, refl, sym, ap, subst, arith}
use Rattle.std.specs.Io.KnownBytes.{Consumes, IsAtEnd}
use Rattle.std.proofs.lemmas.List.{append_cancel_left, append_cancel_right}
use Rattle.kr_wire.proofs.ReadingLaws.{is_ok}
use Rattle.kr_batch.specs.declared.fault.BatchFault.{BatchFault}
use Rattle.kr_process.specs.declared.status.Status.{Status}
use Rattle.kr_process.specs.declared.status.Status.TheVariants as statuses
use Rattle.kr_batch.specs.Reading.{start_at}
use Rattle.kr_snapshot.specs.Reading.{size_at}
use Rattle.kr_lines.specs.declared.fault.ShowFault.{ShowFault}
use Rattle.kr_lines.specs.declared.fault.ShowFault.TheVariants as faults
use Rattle.kr_lines.specs.declared.input.Word.{Word}
use Rattle.kr_lines.specs.declared.input.Word.TheVariants as which
use Rattle.kr_lines.specs.BatchLines.{AreShown, Shown, shown_bytes}
use Rattle.kr_lines.specs.Endings.{Breaks, Ran, ShowEnds, TakesAll, TakesSome, cut, longest_input, refused}
use Rattle.kr_lines.specs.WhichStatus.{EndsBy, EndsRightly}
use Rattle.kr_lines.specs.inner.Runs.{IsHeadOf}
use Rattle.kr_lines.proofs.FrontBatches.{IsStop, one_rest}
use Rattle.kr_lines.proofs.Told.{Same}
use Rattle.kr_lines.specs.Notes.{status_for}

abbrev Answer : Type 0
Answer = Result (Unit {0}) ShowFault

-- ---- the input

all_taken : (stream taken : List ℕ) (l : Option (List ℕ)) → Consumes (Some stream) l taken → IsAtEnd l → taken ≡ stream
all_taken stream taken None took end = absurd took
all_taken stream taken (Some rest) took end = sym (took ∙ (ap (λ (l : List ℕ). taken ++ l) end ∙ append-nil taken))

as_long : (stream taken : List ℕ) (l : Option (List ℕ)) → Consumes (Some stream) l taken → length taken ≤ length stream
as_long stream taken None took = absurd took
as_long stream taken (Some rest) took = let a = ap (λ (l : List ℕ). length l) took ∙ length-append taken rest in omega (arith, a)

-- an input has one head
one_head : (word : Word) (a b bytes : List ℕ) → IsHeadOf word a bytes → IsHeadOf word b bytes → a ≡ b
one_head which.Log a b bytes is other = is ∙ sym other
one_head which.Image a b bytes is other =
    let behind : is.behind ≡ other.behind = ap (λ (x : (ℤ × ℕ) × List ℕ). x.1) (is_ok _ _ (sym is.read ∙ other.read)) in
    append_cancel_right a b is.behind (sym is.parts ∙ (other.parts ∙ ap (λ (l : List ℕ). b ++ l) (sym behind)))

no_size : (size : ℕ) → size_at [] ≡ Ok size → ⊥
unfolding size_at start_at
no_size size told = cc

-- nothing breaks no batch
nothing_whole : (cause : BatchFault) → Breaks [] cause → ⊥
nothing_whole cause (cut some short) = absurd (omega (arith, some))
nothing_whole cause (refused size fault told none) = absurd (no_size size told)

-- ---- the answer, of which this holds

module _ (IsHead : List ℕ → List ℕ → Type 0) (one : (a b bytes : List ℕ) → IsHead a bytes → IsHead b bytes → a ≡ b) (stream : List ℕ) (left' written written' : Option (List ℕ)) where
  abbrev Ends : Answer → Type 0
  Ends answer = ShowEnds IsHead (Some stream) left' written written' answer

  -- all of it was taken
  taken_is : (taken : List ℕ) → TakesAll (Some stream) left' taken → taken ≡ stream
  taken_is taken all = all_taken stream taken left' all.took all.end

  longest_not : (taken : List ℕ) → TakesAll (Some stream) left' taken → longest_input ≤ length stream → ⊥
  longest_not taken all long = let same = ap (λ (l : List ℕ). length l) (taken_is taken all) in let short = all.short in omega (arith, same, short, long)

  too_long : TakesSome (λ long. long ≡ longest_input) (Some stream) left' → length stream < longest_input → ⊥
  too_long some short = let few = as_long stream some.taken left' some.took in let long = some.long in omega (arith, few, long, short)

  -- what is shown ends where the batches of the input do
  module _ (Why : ℕ → List ℕ → Type 0) (Wrote : List ℕ → Type 0) (ran : Ran IsHead Wrote Why (Some stream) left') (stops : IsStop ran.shows.rest) (head rest : List ℕ) (shown : List Shown) (is : IsHead head stream) (are : AreShown shown) (parts : stream ≡ (head ++ shown_bytes shown) ++ rest) (stop : IsStop rest) where
    same_head : ran.head ≡ head
    same_head = one ran.head head stream (subst (IsHead ran.head) (taken_is ran.taken ran.all) ran.is) is

    same_parts : shown_bytes ran.shows.shown ++ ran.shows.rest ≡ shown_bytes shown ++ rest
    same_parts =
        append_cancel_left ran.head (shown_bytes ran.shows.shown ++ ran.shows.rest) (shown_bytes shown ++ rest)
        (sym (append_assoc ran.head (shown_bytes ran.shows.shown) ran.shows.rest) ∙ (sym ran.shows.parts ∙ (taken_is ran.taken ran.all ∙ (parts ∙ (append_assoc head (shown_bytes shown) rest ∙ ap (λ (l : List ℕ). l ++ (shown_bytes shown ++ rest)) (sym same_head))))))

    both : (shown_bytes ran.shows.shown ≡ shown_bytes shown) × (ran.shows.rest ≡ rest)
    both = one_rest ran.shows.shown shown ran.shows.rest rest ran.shows.are are stops stop same_parts

    same_place : length (ran.head ++ shown_bytes ran.shows.shown) ≡ length (head ++ shown_bytes shown)
    same_place = ap (λ (l : List ℕ). length l) (ap (λ (l : List ℕ). l ++ shown_bytes ran.shows.shown) same_head ∙ ap (λ (l : List ℕ). head ++ l) both.0)

  -- a status, by the answer
  abbrev Wanted : Status → Answer → Type 0
  Wanted wanted answer = (status_for answer ≡ wanted) ⊎ (answer ≡ Err faults.NoMemory)

  module _ (answer : Answer) (ends : Ends answer) (read : answer ≡ Err faults.ReadFault → ⊥) (write : answer ≡ Err faults.WriteFault → ⊥) where
    whole_at : (a : Answer) → a ≡ answer → (head : List ℕ) (shown : List Shown) → length stream < longest_input → IsHead head stream → AreShown shown → stream ≡ head ++ shown_bytes shown → Wanted statuses.Done a
    whole_at (Ok done) e head shown short is are parts = inl refl
    whole_at (Err faults.ReadFault) e head shown short is are parts = absurd (read (sym e))
    whole_at (Err faults.WriteFault) e head shown short is are parts = absurd (write (sym e))
    whole_at (Err faults.NoMemory) e head shown short is are parts = inr refl
    whole_at (Err faults.TooLong) e head shown short is are parts = absurd (too_long (subst Ends (sym e) ends).0 short)
    whole_at (Err faults.BadHead) e head shown short is are parts =
        let no = (subst Ends (sym e) ends).0 in
        absurd (no.none head (subst (IsHead head) (sym (taken_is no.taken no.all)) is))
    whole_at (Err (faults.Malformed at cause)) e head shown short is are parts =
        let ran = subst Ends (sym e) ends in
        let all : stream ≡ (head ++ shown_bytes shown) ++ [] = parts ∙ sym (append-nil (head ++ shown_bytes shown)) in
        let b = both _ _ ran (inr (cause, ran.shows.why.1)) head [] shown is are all (inl refl) in
        absurd (nothing_whole cause (subst (λ (l : List ℕ). Breaks l cause) b.1 ran.shows.why.1))

    broken_at : (a : Answer) → a ≡ answer → (head rest : List ℕ) (shown : List Shown) (cause : BatchFault) → length stream < longest_input → IsHead head stream → AreShown shown → stream ≡ (head ++ shown_bytes shown) ++ rest → Breaks rest cause → Wanted (statuses.Malformed (length (head ++ shown_bytes shown))) a
    broken_at (Ok done) e head rest shown cause short is are parts breaks =
        let ran = subst Ends (sym e) ends in
        let b = both _ _ ran (inl ran.shows.why) head rest shown is are parts (inr (cause, breaks)) in
        absurd (nothing_whole cause (subst (λ (l : List ℕ). Breaks l cause) (sym b.1 ∙ ran.shows.why) breaks))
    broken_at (Err faults.ReadFault) e head rest shown cause short is are parts breaks = absurd (read (sym e))
    broken_at (Err faults.WriteFault) e head rest shown cause short is are parts breaks = absurd (write (sym e))
    broken_at (Err faults.NoMemory) e head rest shown cause short is are parts breaks = inr refl
    broken_at (Err faults.TooLong) e head rest shown cause short is are parts breaks = absurd (too_long (subst Ends (sym e) ends).0 short)
    broken_at (Err faults.BadHead) e head rest shown cause short is are parts breaks =
        let no = (subst Ends (sym e) ends).0 in
        absurd (no.none head (subst (IsHead head) (sym (taken_is no.taken no.all)) is))
    broken_at (Err (faults.Malformed at found)) e head rest shown cause short is are parts breaks =
        let ran = subst Ends (sym e) ends in
        let place = same_place _ _ ran (inr (found, ran.shows.why.1)) head rest shown is are parts (inr (cause, breaks)) in
        inl (ap (λ n. statuses.Malformed n) (ran.shows.why.0 ∙ place))

    no_head_at : (a : Answer) → a ≡ answer → length stream < longest_input → ((head : List ℕ) → IsHead head stream → ⊥) → Wanted (statuses.Malformed 0) a
    no_head_at (Ok done) e short none = let ran = subst Ends (sym e) ends in absurd (none ran.head (subst (IsHead ran.head) (taken_is ran.taken ran.all) ran.is))
    no_head_at (Err faults.ReadFault) e short none = absurd (read (sym e))
    no_head_at (Err faults.WriteFault) e short none = absurd (write (sym e))
    no_head_at (Err faults.NoMemory) e short none = inr refl
    no_head_at (Err faults.TooLong) e short none = absurd (too_long (subst Ends (sym e) ends).0 short)
    no_head_at (Err faults.BadHead) e short none = inl refl
    no_head_at (Err (faults.Malformed at cause)) e short none = let ran = subst Ends (sym e) ends in absurd (none ran.head (subst (IsHead ran.head) (taken_is ran.taken ran.all) ran.is))

    longer_at : (a : Answer) → a ≡ answer → longest_input ≤ length stream → Wanted statuses.TooLong a
    longer_at (Ok done) e long = let ran = subst Ends (sym e) ends in absurd (longest_not ran.taken ran.all long)
    longer_at (Err faults.ReadFault) e long = absurd (read (sym e))
    longer_at (Err faults.WriteFault) e long = absurd (write (sym e))
    longer_at (Err faults.NoMemory) e long = inr refl
    longer_at (Err faults.TooLong) e long = inl refl
    longer_at (Err faults.BadHead) e long = let no = (subst Ends (sym e) ends).0 in absurd (longest_not no.taken no.all long)
    longer_at (Err (faults.Malformed at cause)) e long = let ran = subst Ends (sym e) ends in absurd (longest_not ran.taken ran.all long)

    -- the status is that of what is told of the answer
    told_by : (told : Answer) (ended wanted : Status) → Same told answer → ended ≡ status_for told → Wanted wanted answer → EndsBy ended wanted
    told_by told ended wanted (inl same) is (inl by) = inl (is ∙ (ap status_for same ∙ by))
    told_by told ended wanted (inl same) is (inr none) = inr (is ∙ ap status_for (same ∙ none))
    told_by told ended wanted (inr none) is by = inr (is ∙ ap status_for none.1)

    known : (told : Answer) (ended : Status) → Same told answer → ended ≡ status_for told → EndsRightly IsHead (Some stream) ended
    known told ended same is = record {
      whole = λ head shown short head_is are parts. told_by told ended statuses.Done same is (whole_at answer refl head shown short head_is are parts);
      broken = λ head rest shown cause short head_is are parts breaks. told_by told ended (statuses.Malformed (length (head ++ shown_bytes shown))) same is (broken_at answer refl head rest shown cause short head_is are parts breaks);
      headless = λ short none. told_by told ended (statuses.Malformed 0) same is (no_head_at answer refl short none);
      longer = λ long. told_by told ended statuses.TooLong same is (longer_at answer refl long);
    }

pub rightly : (word : Word) (left left' written written' : Option (List ℕ)) (answer told : Answer) (ended : Status) → ShowEnds (IsHeadOf word) left left' written written' answer → (answer ≡ Err faults.ReadFault → ⊥) → (answer ≡ Err faults.WriteFault → ⊥) → Same told answer → ended ≡ status_for told → EndsRightly (IsHeadOf word) left ended
rightly word None left' written written' answer told ended ends read write same is = record { whole = tt; broken = tt; headless = tt; longer = tt }
rightly word (Some stream) left' written written' answer told ended ends read write same is =
    known (IsHeadOf word) (one_head word) stream left' written written' answer ends read write told ended same is
