-- An input is taken to its end, and what is shown of it is written.
use Rattle.std.proofs.Common.{◌≡◌, ◌∙◌, ℕ, ◌+◌, ◌<◌, ◌≤◌, inl, inr, List, [], ◌++◌, length, length-append, take, drop, Option, Some, None, Result, Ok, Err, refl, sym, ap, subst, arith}
use Rattle.std.proofs.lemmas.List.{length-take, take-append-drop}
use Rattle.std.specs.Io.KnownBytes.{Consumes, Appends, Keeps}
use Rattle.kr_base.proofs.Pieces.{consumes_more}
use Rattle.kr_base.specs.FailedPuts.{AppendsFront}
use Rattle.kr_lines.specs.declared.fault.ShowFault.{ShowFault}
use Rattle.kr_lines.specs.declared.fault.ShowFault.TheVariants as faults
use Rattle.kr_lines.specs.declared.input.Word.{Word}
use Rattle.kr_lines.specs.declared.input.Word.TheVariants as which
use Rattle.kr_lines.specs.Endings.{IsImageHead, IsNotShown, IsWhy, NoWhy, Ran, ShowEnds, ShowsBehind, IsShown, TakesAll, TakesSome, longest_input}
use Rattle.kr_lines.specs.inner.Runs.{FitsBehind, TookBehind, IsHeadOf, IsPieceFault, IsNotTaken, IsStartOf}

pub consumes_none : (a : Option (List ℕ)) → Consumes a a []
consumes_none None = tt
consumes_none (Some x) = refl

pub keeps_all : (a : Option (List ℕ)) → Keeps a a
keeps_all None = tt
keeps_all (Some x) = refl

consumes_kept : (a b c : Option (List ℕ)) (xs : List ℕ) → Consumes a b xs → Keeps b c → Consumes a c xs
consumes_kept None b c xs took keeps = tt
consumes_kept (Some x) None c xs took keeps = absurd took
consumes_kept (Some x) (Some y) None xs took keeps = absurd keeps
consumes_kept (Some x) (Some y) (Some z) xs took keeps = took ∙ ap (λ (l : List ℕ). xs ++ l) (sym keeps)

-- one read
pub grew_by : (a b : Option (List ℕ)) (bytes bytes' piece come : List ℕ) (count : ℕ) → Consumes a b (take count piece) → come ≡ take count piece → bytes' ≡ bytes ++ come → TookBehind a b bytes bytes'
grew_by a b bytes bytes' piece come count took is grown = record { taken = come; took = subst (λ (l : List ℕ). Consumes a b l) (sym is) took; grown = grown }

pub took_piece : (a b : Option (List ℕ)) (piece : List ℕ) (count before room : ℕ) → Consumes a b (take count piece) → count ≤ room → before + room ≤ longest_input → TakesSome (FitsBehind before) a b
took_piece a b piece count before room took few fits =
    let long : length (take count piece) ≤ count = simp length-take (omega arith) in
    record { taken = take count piece; took = took; long = omega (arith, long, few, fits) }

pub grew_behind : (a b c : Option (List ℕ)) (xs ys : List ℕ) → Consumes a b xs → TookBehind b c xs ys → Consumes a c ys
grew_behind a b c xs ys took grew = subst (λ (l : List ℕ). Consumes a c l) (sym grew.grown) (consumes_more a b c xs grew.taken took grew.took)

pub fault_behind : (a b c : Option (List ℕ)) (xs : List ℕ) → Consumes a b xs → length xs < longest_input → (fault : ShowFault) → IsPieceFault b c (length xs) fault → IsNotTaken a c fault
fault_behind a b c xs took short faults.ReadFault is = record { taken = xs; took = consumes_kept a b c xs took is; long = short }
fault_behind a b c xs took short faults.NoMemory is =
    let both = length-append xs is.taken in
    let long = is.long in
    record { taken = xs ++ is.taken; took = consumes_more a b c xs is.taken took is.took; long = omega (arith, both, long) }
fault_behind a b c xs took short faults.TooLong is = absurd is
fault_behind a b c xs took short faults.WriteFault is = absurd is
fault_behind a b c xs took short faults.BadHead is = absurd is
fault_behind a b c xs took short (faults.Malformed at cause) is = absurd is

pub not_read : (IsHead : List ℕ → List ℕ → Type 0) (left left' written : Option (List ℕ)) (fault : ShowFault) → IsNotTaken left left' fault → ShowEnds IsHead left left' written written (Err fault)
not_read IsHead left left' written faults.ReadFault is = (is, keeps_all written)
not_read IsHead left left' written faults.NoMemory is = inl (is, keeps_all written)
not_read IsHead left left' written faults.TooLong is = (is, keeps_all written)
not_read IsHead left left' written faults.WriteFault is = absurd is
not_read IsHead left left' written faults.BadHead is = absurd is
not_read IsHead left left' written (faults.Malformed at cause) is = absurd is

-- the head of what is asked, up to where the batches begin
pub head_of_start : (word : Word) (bytes : List ℕ) (start : ℕ) → IsStartOf word bytes (Some start) → IsHeadOf word (take start bytes) bytes
head_of_start which.Log bytes start is = ap (λ (n : ℕ). take n bytes) is
head_of_start which.Image bytes start is = record { numbers = is.0; behind = drop start bytes; read = is.1; parts = sym (take-append-drop start bytes) }

pub headless : (word : Word) (bytes : List ℕ) → IsStartOf word bytes None → (head : List ℕ) → IsHeadOf word head bytes → ⊥
headless which.Log bytes is head h = is
headless which.Image bytes is head h = let clash = sym is.1 ∙ h.read in cc

pub no_head : (word : Word) (left left' written : Option (List ℕ)) (bytes : List ℕ) → TakesAll left left' bytes → IsStartOf word bytes None → ShowEnds (IsHeadOf word) left left' written written (Err faults.BadHead)
no_head which.Log left left' written bytes all is = absurd is
no_head which.Image left left' written bytes all is =
    (record { taken = bytes; all = all; fault = is.0; numbers = is.1; none = headless which.Image bytes is }, keeps_all written)

-- ---- bytes alone

module _ (word : Word) (bytes text : List ℕ) (start : ℕ) (is : IsStartOf word bytes (Some start)) where
  pub shows_behind : (Why : ℕ → List ℕ → Type 0) → IsShown Why (take start bytes) bytes text → ShowsBehind (IsHeadOf word) Why bytes text
  shows_behind Why shows = record { head = take start bytes; is = head_of_start word bytes start is; shows = shows }

  pub not_shown : (fault : ShowFault) → IsShown (IsWhy (Err fault)) (take start bytes) bytes text → IsNotShown (IsHeadOf word) bytes fault
  not_shown (faults.Malformed at cause) shows = (text, shows_behind (IsWhy (Err (faults.Malformed at cause))) shows)
  not_shown faults.NoMemory shows = tt
  not_shown faults.ReadFault shows = absurd shows.why
  not_shown faults.WriteFault shows = absurd shows.why
  not_shown faults.BadHead shows = absurd shows.why
  not_shown faults.TooLong shows = absurd shows.why

module _ (IsHead : List ℕ → List ℕ → Type 0) (left left' written written' : Option (List ℕ)) (head bytes text : List ℕ) (is : IsHead head bytes) (all : TakesAll left left' bytes) where
  ran : (Why : ℕ → List ℕ → Type 0) (Wrote : List ℕ → Type 0) → IsShown Why head bytes text → Wrote text → Ran IsHead Wrote Why left left'
  ran Why Wrote shows wrote = record { head = head; taken = bytes; text = text; all = all; is = is; shows = shows; wrote = wrote }

  without_why : (Why : ℕ → List ℕ → Type 0) → IsShown Why head bytes text → IsShown NoWhy head bytes text
  without_why Why shows = record { shown = shows.shown; rest = shows.rest; are = shows.are; parts = shows.parts; lines = shows.lines; why = tt }

  pub written_all : (answer : Result (Unit {0}) ShowFault) → IsShown (IsWhy answer) head bytes text → Appends written written' text → ShowEnds IsHead left left' written written' answer
  written_all (Ok done) shows wrote = ran (IsWhy (Ok done)) (Appends written written') shows wrote
  written_all (Err (faults.Malformed at cause)) shows wrote = ran (IsWhy (Err (faults.Malformed at cause))) (Appends written written') shows wrote
  written_all (Err faults.NoMemory) shows wrote = inr (ran NoWhy (Appends written written') (without_why (IsWhy (Err faults.NoMemory)) shows) wrote)
  written_all (Err faults.ReadFault) shows wrote = absurd shows.why
  written_all (Err faults.WriteFault) shows wrote = absurd shows.why
  written_all (Err faults.BadHead) shows wrote = absurd shows.why
  written_all (Err faults.TooLong) shows wrote = absurd shows.why

  pub written_front : (answer : Result (Unit {0}) ShowFault) → IsShown (IsWhy answer) head bytes text → AppendsFront written written' text → ShowEnds IsHead left left' written written' (Err faults.WriteFault)
  written_front answer shows wrote = ran NoWhy (AppendsFront written written') (without_why (IsWhy answer) shows) wrote

-- what is shown tells no fault of input or output
module _ (answer : Result (Unit {0}) ShowFault) (head bytes text : List ℕ) (shows : IsShown (IsWhy answer) head bytes text) where
  pub no_read : answer ≡ Err faults.ReadFault → ⊥
  no_read is = (subst (λ (a : Result (Unit {0}) ShowFault). IsShown (IsWhy a) head bytes text) is shows).why

  pub no_write : answer ≡ Err faults.WriteFault → ⊥
  no_write is = (subst (λ (a : Result (Unit {0}) ShowFault). IsShown (IsWhy a) head bytes text) is shows).why
