-- One batch after the other is shown.
use Rattle.std.proofs.Common.{◌≡◌, ◌∙◌, ℕ, ◌≤◌, List, [], ◌∷◌, ◌++◌, length, append_assoc, take, drop, Result, Ok, Err, refl, sym, ap}
use Rattle.std.proofs.lemmas.List.{append-nil, drop_all, take-append-drop, length-take-le}
use Rattle.std.proofs.lemmas.Grind.{flat_map-append}
use Rattle.kr_batch.specs.Grammar.{IsBatch}
use Rattle.kr_lines.specs.declared.fault.ShowFault.{ShowFault}
use Rattle.kr_lines.specs.declared.fault.ShowFault.TheVariants as faults
use Rattle.kr_lines.specs.BatchLines.{Shown, AreShown, shown_bytes, lines_of, batch_lines}
use Rattle.kr_lines.specs.Endings.{IsWhy, IsShown}
use Rattle.kr_lines.specs.inner.Steps.{IsShownTo, IsStopped, SoFar}

are_more : (xs : List Shown) (s : Shown) → AreShown xs → IsBatch s.batch s.bytes → AreShown (xs ++ s ∷ [])
are_more [] s are is = (is, tt)
are_more (x ∷ xs) s are is = (are.0, are_more xs s are.1 is)

bytes_more : (xs : List Shown) (s : Shown) → shown_bytes (xs ++ s ∷ []) ≡ shown_bytes xs ++ s.bytes
bytes_more xs s = flat_map-append (λ (x : Shown). x.bytes) xs (s ∷ []) ∙ ap (λ (l : List ℕ). shown_bytes xs ++ l) (append-nil s.bytes)

lines_more : (xs : List Shown) (s : Shown) → lines_of (xs ++ s ∷ []) ≡ lines_of xs ++ batch_lines s.batch s.bytes
lines_more xs s = flat_map-append (λ (x : Shown). batch_lines x.batch x.bytes) xs (s ∷ []) ∙ ap (λ (l : List ℕ). lines_of xs ++ l) (append-nil (batch_lines s.batch s.bytes))

pub begins : (bytes text : List ℕ) (start : ℕ) → start ≤ length bytes → text ≡ [] → SoFar (take start bytes) bytes start text
begins bytes text start within empty = record { shown = []; are = tt; parts = sym (append-nil (take start bytes)); lines = empty; within = within }

module _ (head bytes text : List ℕ) (at : ℕ) (so : SoFar head bytes at text) where
  pub goes_on : (text' : List ℕ) (next : ℕ) → IsShownTo bytes at text text' next → SoFar head bytes next text'
  goes_on text' next to =
      let s : Shown = record { batch = to.batch; bytes = to.front } in
      record {
        shown = so.shown ++ s ∷ [];
        are = are_more so.shown s so.are to.is;
        parts = to.parts ∙ (ap (λ (l : List ℕ). l ++ to.front) so.parts ∙ (append_assoc head (shown_bytes so.shown) to.front ∙ ap (λ (l : List ℕ). head ++ l) (sym (bytes_more so.shown s))));
        lines = to.lines ∙ (ap (λ (l : List ℕ). l ++ batch_lines to.batch to.front) so.lines ∙ sym (lines_more so.shown s));
        within = to.within;
      }

  place : at ≡ length (head ++ shown_bytes so.shown)
  place = sym (length-take-le at bytes so.within) ∙ ap (λ (l : List ℕ). length l) so.parts

  parts : bytes ≡ (head ++ shown_bytes so.shown) ++ drop at bytes
  parts = sym (take-append-drop at bytes) ∙ ap (λ (l : List ℕ). l ++ drop at bytes) so.parts

  stops : (text' : List ℕ) (answer : Result (Unit {0}) ShowFault) → text' ≡ text → IsWhy answer (length (head ++ shown_bytes so.shown)) (drop at bytes) → IsShown (IsWhy answer) head bytes text'
  stops text' answer same why = record { shown = so.shown; rest = drop at bytes; are = so.are; parts = parts; lines = same ∙ so.lines; why = why }

  pub at_end : length bytes ≤ at → IsShown (IsWhy (Ok tt)) head bytes text
  at_end long =
      let all : drop at bytes ≡ [] = drop_all at bytes long in
      stops text (Ok tt) refl all

  pub broken : (text' : List ℕ) (fault : ShowFault) → IsStopped bytes at text text' fault → IsShown (IsWhy (Err fault)) head bytes text'
  broken text' (faults.Malformed found cause) is = stops text' (Err (faults.Malformed found cause)) is.2 (is.0 ∙ place, is.1)
  broken text' faults.NoMemory is = stops text' (Err faults.NoMemory) is tt
  broken text' faults.ReadFault is = absurd is
  broken text' faults.WriteFault is = absurd is
  broken text' faults.BadHead is = absurd is
  broken text' faults.TooLong is = absurd is
