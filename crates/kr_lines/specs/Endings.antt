-- What is shown of bytes, and what was taken and what was written at each answer.
use Rattle.std.specs.Prelude.{◌≡◌, ℕ, ℤ, ◌<◌, ◌≤◌, ◌⊎◌, List, [], ◌++◌, length, take, Option, Result, Ok, Err}
use Rattle.std.specs.Io.KnownBytes.{Consumes, Appends, IsAtEnd, Keeps}
use Rattle.kr_base.specs.FailedPuts.{AppendsFront}
use Rattle.kr_defs.specs.declared.limits.TheConstants.{MOST_SESSION_BYTES}
use Rattle.kr_wire.specs.declared.WireFault.{WireFault}
use Rattle.kr_batch.specs.declared.fault.BatchFault.{BatchFault}
use Rattle.kr_batch.specs.declared.fault.BatchFault.TheVariants as batches
use Rattle.kr_batch.specs.Reading.{batch_of}
use Rattle.kr_snapshot.specs.Reading.{extent, numbers_at, size_at}
use Rattle.kr_lines.specs.declared.fault.ShowFault.{ShowFault}
use Rattle.kr_lines.specs.declared.fault.ShowFault.TheVariants as faults
use Rattle.kr_lines.specs.BatchLines.{Shown, AreShown, shown_bytes, lines_of}

-- ---- bytes

-- the bytes tell no size, or are fewer than the size says
abbrev pub IsTooShort : List ℕ → Type 0
IsTooShort bytes = ((fault : BatchFault) × (size_at bytes ≡ Err fault)) ⊎ ((size : ℕ) × (size_at bytes ≡ Ok size) × (length bytes < extent size))

-- why no batch begins the bytes: those of its size have that fault, or they end too early
pub data Breaks (bytes : List ℕ) : BatchFault → Type 0 where
  refused : (size : ℕ) (fault : BatchFault) → size_at bytes ≡ Ok size → batch_of (take (extent size) bytes) ≡ Err fault → Breaks bytes fault
  cut : 0 < length bytes → IsTooShort bytes → Breaks bytes batches.Short

-- the bytes are a head, batches, and a rest; the text is the batches' lines
pub record IsShown (Why : ℕ → List ℕ → Type 0) (head bytes text : List ℕ) : Type 0 where
  pub shown : List Shown
  pub rest : List ℕ
  pub are : AreShown shown
  pub parts : bytes ≡ (head ++ shown_bytes shown) ++ rest
  pub lines : text ≡ lines_of shown
  -- what holds of the place behind the batches, and of the rest
  pub why : Why (length (head ++ shown_bytes shown)) rest

-- ---- answers

-- all batches are shown, or none begins the rest, or memory ran out
abbrev pub IsWhy : Result (Unit {0}) ShowFault → ℕ → List ℕ → Type 0
IsWhy (Ok done) place rest = rest ≡ []
IsWhy (Err (faults.Malformed at cause)) place rest = (at ≡ place) × Breaks rest cause
IsWhy (Err faults.NoMemory) place rest = Unit {0}
IsWhy (Err other) place rest = ⊥

-- ---- a run

-- the most bytes that are taken of an input
abbrev pub longest_input : ℕ
longest_input = MOST_SESSION_BYTES

abbrev pub IsBelow : ℕ → Type 0
IsBelow long = long < longest_input

abbrev pub HasLongest : ℕ → Type 0
HasLongest long = long ≡ longest_input

abbrev pub IsAtMost : ℕ → Type 0
IsAtMost long = long ≤ longest_input

-- so many bytes of the input were taken
pub record TakesSome (IsLength : ℕ → Type 0) (left left' : Option (List ℕ)) : Type 0 where
  pub taken : List ℕ
  pub took : Consumes left left' taken
  pub long : IsLength (length taken)

-- all of the input was taken, which is below the longest_input
pub record TakesAll (left left' : Option (List ℕ)) (taken : List ℕ) : Type 0 where
  pub took : Consumes left left' taken
  pub end : IsAtEnd left'
  pub short : length taken < longest_input

-- the input had a head like this, and this was written of the lines of the batches behind it
pub record Ran (IsHead : List ℕ → List ℕ → Type 0) (Wrote : List ℕ → Type 0) (Why : ℕ → List ℕ → Type 0) (left left' : Option (List ℕ)) : Type 0 where
  pub head : List ℕ
  pub taken : List ℕ
  pub text : List ℕ
  pub all : TakesAll left left' taken
  pub is : IsHead head taken
  pub shows : IsShown Why head taken text
  pub wrote : Wrote text

abbrev pub NoWhy : ℕ → List ℕ → Type 0
NoWhy place rest = Unit {0}

-- the input has no head like this: it doesn't begin with two numbers
pub record HasNoHead (IsHead : List ℕ → List ℕ → Type 0) (left left' : Option (List ℕ)) : Type 0 where
  pub taken : List ℕ
  pub all : TakesAll left left' taken
  pub fault : WireFault
  pub numbers : numbers_at taken ≡ Err fault
  pub none : (head : List ℕ) → IsHead head taken → ⊥

-- Done once all of the input is shown; else why not, and the lines of all batches before are written, and nothing else; where a
-- write failed, some front of them. Where a read failed, or memory or the room for an input ran out before its end, nothing is
-- written.
abbrev pub ShowEnds : (List ℕ → List ℕ → Type 0) → Option (List ℕ) → Option (List ℕ) → Option (List ℕ) → Option (List ℕ) → Result (Unit {0}) ShowFault → Type 0
ShowEnds IsHead left left' written written' (Err faults.ReadFault) = TakesSome IsBelow left left' × Keeps written written'
ShowEnds IsHead left left' written written' (Err faults.TooLong) = TakesSome HasLongest left left' × Keeps written written'
ShowEnds IsHead left left' written written' (Err faults.WriteFault) = Ran IsHead (AppendsFront written written') NoWhy left left'
ShowEnds IsHead left left' written written' (Err faults.NoMemory) = (TakesSome IsAtMost left left' × Keeps written written') ⊎ Ran IsHead (Appends written written') NoWhy left left'
ShowEnds IsHead left left' written written' (Err faults.BadHead) = HasNoHead IsHead left left' × Keeps written written'
ShowEnds IsHead left left' written written' answer = Ran IsHead (Appends written written') (IsWhy answer) left left'

-- a log has no head
abbrev pub IsLogHead : List ℕ → List ℕ → Type 0
IsLogHead head taken = head ≡ []

-- an image has two numbers
pub record IsImageHead (head taken : List ℕ) : Type 0 where
  pub numbers : ℤ × ℕ
  pub behind : List ℕ
  pub read : numbers_at taken ≡ Ok (numbers, behind)
  pub parts : taken ≡ head ++ behind

-- ---- bytes alone

-- a head stands at the front of the bytes, and behind it batches are shown up to a rest of which this holds
pub record ShowsBehind (IsHead : List ℕ → List ℕ → Type 0) (Why : ℕ → List ℕ → Type 0) (bytes text : List ℕ) : Type 0 where
  pub head : List ℕ
  pub is : IsHead head bytes
  pub shows : IsShown Why head bytes text

-- all of the bytes are a head and batches, of which this is the text
abbrev pub ShowsAll : (List ℕ → List ℕ → Type 0) → List ℕ → List ℕ → Type 0
ShowsAll IsHead bytes text = ShowsBehind IsHead (IsWhy (Ok tt)) bytes text

-- why they aren't
abbrev pub IsNotShown : (List ℕ → List ℕ → Type 0) → List ℕ → ShowFault → Type 0
IsNotShown IsHead bytes (faults.Malformed at cause) = (text : List ℕ) × ShowsBehind IsHead (IsWhy (Err (faults.Malformed at cause))) bytes text
IsNotShown IsHead bytes faults.BadHead = (head : List ℕ) → IsHead head bytes → ⊥
IsNotShown IsHead bytes faults.NoMemory = Unit {0}
IsNotShown IsHead bytes other = ⊥
