-- A batch is read from a source: its base and size, and then as many bytes as the size says.
use Rattle.std.proofs.Common.{◌≡◌, ◌∙◌, ℕ, ◌+◌, ◌<◌, ◌≤◌, ◌⊎◌, inl, inr, List, [], ◌++◌, length, length-append, Option, Result, Ok, Err, refl, sym, ap, subst, arith}
use Rattle.std.proofs.lemmas.Bool.{cases_lt}
use Rattle.kr_base.proofs.Pieces.{consumes_more}
use Rattle.std.specs.Io.KnownBytes.{Consumes, IsAtEnd}
use Rattle.kr_batch.specs.declared.fault.BatchFault.{BatchFault}
use Rattle.kr_snapshot.specs.Reading.{extent, size_at}
use Rattle.kr_snapshot.specs.ReaderState.{IsUnfinished}
use Rattle.kr_fold.specs.declared.fault.ToolFault.{ToolFault}
use Rattle.kr_fold.specs.declared.fault.ToolFault.TheVariants as faults
use Rattle.kr_fold.specs.SourceBytes.{longest, HasNoSize, IsBatchAtMost, IsCut, IsCutOff, IsLongest, IsSized}
use Rattle.kr_fold.specs.inner.SourceReads.{Grew, HasNone, IsEnd, IsShortage, Took}
use Rattle.kr_fold.proofs.Pieces.{grew_more}
use Rattle.kr_fold.proofs.Sizes.{size_same, size_some}

module _ (a b : Option (List ℕ)) (bytes : List ℕ) (grew : Grew a b [] bytes) where
  pub took_all : Consumes a b bytes
  took_all = subst (λ (l : List ℕ). Consumes a b l) (sym grew.grown) grew.took

  pub took_of : (Is : List ℕ → Type 0) (at : ℕ) → at + length bytes ≤ longest → Is bytes → Took Is a b at
  took_of Is at within is = record { taken = bytes; took = took_all; within = within; is = is }

  pub ends_here : (at : ℕ) → bytes ≡ [] → IsAtEnd b → at + length bytes < longest → IsEnd a b at
  ends_here at none end short =
      let e = ap (λ (l : List ℕ). length l) none in
      record { took = subst (λ (l : List ℕ). Consumes a b l) none took_all; end = end; short = omega (arith, e, short) }

  pub none_cut : (count count' at : ℕ) → at + length bytes ≤ longest → 0 < length bytes → IsUnfinished bytes → IsAtEnd b → HasNone a b count count' at (faults.Malformed at)
  none_cut count count' at within some cut end = (refl, took_of (λ l. HasNoSize l ⊎ IsCutOff b l) at within (inr (record { some = some; cut = cut; end = end })))

  pub none_sized : (count count' at : ℕ) (fault : BatchFault) → at + length bytes ≤ longest → length bytes ≡ 12 → size_at bytes ≡ Err fault → HasNone a b count count' at (faults.Malformed at)
  none_sized count count' at fault within start told = (refl, took_of (λ l. HasNoSize l ⊎ IsCutOff b l) at within (inl (record { start = start; fault = fault; told = told })))

pub few_unfinished : (bytes : List ℕ) → length bytes < 12 → IsUnfinished bytes
few_unfinished bytes few = λ there. absurd (omega (arith, few, there))

-- ---- behind base and size

module _ (a b : Option (List ℕ)) (head bytes : List ℕ) (size : ℕ) (grew : Grew a b head bytes) (twelve : length head ≡ 12) (told : size_at head ≡ Ok size) where
  pub told_on : size_at bytes ≡ Ok size
  told_on = ap size_at grew.grown ∙ (size_same head grew.taken (omega (arith, twelve)) ∙ told)

  pub sized_on : length bytes ≡ 12 + size → IsSized bytes
  sized_on whole = record { size = size; told = told_on; whole = omega (arith, whole) }

  pub unfinished_on : length bytes < 12 + size → IsUnfinished bytes
  unfinished_on short = λ there. (size, told_on, omega (arith, short))

-- ---- too few bytes

-- bytes that grew are not none
pub grown_some : (a b : Option (List ℕ)) (head bytes : List ℕ) → Grew a b head bytes → 0 < length head → 0 < length bytes
grown_some a b head bytes grew some =
    let e = ap (λ (l : List ℕ). length l) grew.grown ∙ length-append head grew.taken in
    omega (arith, e, some)

-- base and size, or fewer bytes
start_at_most : (bytes : List ℕ) (told : Result ℕ BatchFault) → size_at bytes ≡ told → length bytes ≡ 12 → IsBatchAtMost bytes
start_at_most bytes (Ok size) is start = inl (λ there. (size, is, let some = size_some bytes size is in omega (arith, start, some)))
start_at_most bytes (Err fault) is start = inr (inr (record { start = start; fault = fault; told = is }))

few_at_most : (bytes : List ℕ) → length bytes ≤ 12 → IsBatchAtMost bytes
few_at_most bytes few = elim (cases_lt (length bytes) 12) [
  | inl lt ↦ inl (few_unfinished bytes lt)
  | inr le ↦ start_at_most bytes (size_at bytes) refl (omega (arith, few, le))
]

-- base and size, and no more bytes behind them than the size says
sized_at_most : (head more : List ℕ) (size : ℕ) → length head ≡ 12 → size_at head ≡ Ok size → length head + length more ≤ 12 + size → IsBatchAtMost (head ++ more)
sized_at_most head more size twelve told few =
    let long = length-append head more in
    let same : size_at (head ++ more) ≡ Ok size = size_same head more (omega (arith, twelve)) ∙ told in
    elim (cases_lt (length (head ++ more)) (extent size)) [
      | inl lt ↦ inl (λ there. (size, same, lt))
      | inr le ↦ inr (inl (record { size = size; told = same; whole = omega (arith, long, few, le) }))
    ]

-- of the first ones
module _ (a b : Option (List ℕ)) (count count' at : ℕ) (start bytes : List ℕ) (none : start ≡ []) where
  grew_all : Grew a b start bytes → Grew a b [] bytes
  grew_all grew = subst (λ (l : List ℕ). Grew a b l bytes) none grew

  pub none_short : (fault : ToolFault) → IsShortage a b count count' start bytes at 12 fault → HasNone a b count count' at fault
  none_short faults.ReadFault (rose, s) =
      let short = s.short in
      let place = s.place in
      (rose, took_of a b bytes (grew_all s.grew) (IsCut at) at (omega (arith, place)) (few_unfinished bytes short, place))
  none_short faults.NoMemory t =
      let few = t.few in
      let within = t.within in
      let empty = ap (λ (l : List ℕ). length l) none in
      record { taken = t.taken; took = t.took; within = omega (arith, within, empty); is = few_at_most t.taken (omega (arith, few, empty)) }
  none_short faults.TooLong s =
      let short = s.short in
      let place = s.place in
      took_of a b bytes (grew_all s.grew) (IsLongest at) at (omega (arith, place)) (few_unfinished bytes short, place)
  none_short faults.WriteFault is = absurd is
  none_short (faults.Malformed place) is = absurd is

-- of those behind a base and a size, which were taken before
module _ (a mid b : Option (List ℕ)) (count between count' at size : ℕ) (head bytes : List ℕ) (first : Grew a mid [] head) (twelve : length head ≡ 12) (told : size_at head ≡ Ok size) where
  both : Grew mid b head bytes → Grew a b [] bytes
  both grew = grew_more a mid b [] head bytes first grew

  pub none_shorter : (fault : ToolFault) → count ≤ between → IsShortage mid b between count' head bytes at (12 + size) fault → HasNone a b count count' at fault
  none_shorter faults.ReadFault le (rose, s) =
      let place = s.place in
      (omega (arith, le, rose), took_of a b bytes (both s.grew) (IsCut at) at (omega (arith, place)) (unfinished_on mid b head bytes size s.grew twelve told s.short, place))
  none_shorter faults.NoMemory le t =
      let within = t.within in
      let long = length-append head t.taken in
      record {
        taken = head ++ t.taken;
        took = consumes_more a mid b head t.taken (took_all a mid head first) t.took;
        within = omega (arith, within, long);
        is = sized_at_most head t.taken size twelve told t.few;
      }
  none_shorter faults.TooLong le s =
      let place = s.place in
      took_of a b bytes (both s.grew) (IsLongest at) at (omega (arith, place)) (unfinished_on mid b head bytes size s.grew twelve told s.short, place)
  none_shorter faults.WriteFault le is = absurd is
  none_shorter (faults.Malformed place) le is = absurd is
