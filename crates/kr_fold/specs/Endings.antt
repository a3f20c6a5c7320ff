-- How a fold and a dump end: what was taken and what was written at each answer.
use Rattle.std.specs.Prelude.{◌≡◌, ℕ, ℤ, ◌+◌, ◌<◌, ◌≤◌, ◌⊎◌, List, ◌++◌, length, Option, IfSome, Result, Ok, Err}
use Rattle.std.specs.Io.KnownBytes.{Consumes, Appends, IsAtEnd, Keeps}
use Rattle.kr_base.specs.FailedPuts.{AppendsFront}
use Rattle.kr_defs.specs.declared.limits.TheConstants.{MOST_LOAD_BYTES}
use Rattle.kr_defs.specs.Image.{Image}
use Rattle.kr_dump.specs.DumpText.{dump_text}
use Rattle.kr_snapshot.specs.Grammar.{IsImage}
use Rattle.kr_snapshot.specs.ImageText.{image_text}
use Rattle.kr_fold.specs.declared.fault.ToolFault.{ToolFault}
use Rattle.kr_fold.specs.declared.fault.ToolFault.TheVariants as faults
use Rattle.kr_fold.specs.SourceBytes.{longest, HasNoSize, IsBatchAtMost, IsCut, IsCutOff, IsLongest, IsSized, TookUpTo}
use Rattle.kr_fold.specs.Logs.{Folded, IsLog, NoneFollows, settled_end, settled_image}
use Rattle.kr_fold.specs.Images.{BreaksAt}

-- ---- a log

-- the bytes of a log were taken, so many
pub record ReadsLog (left left' : Option (List ℕ)) (log : Folded) (at : ℕ) : Type 0 where
  pub taken : List ℕ
  pub is : IsLog log taken
  pub took : Consumes left left' taken
  pub place : at ≡ length taken

-- all of the input was taken, and is a log
pub record EndsLog (left left' : Option (List ℕ)) (log : Folded) : Type 0 where
  pub taken : List ℕ
  pub is : IsLog log taken
  pub took : Consumes left left' taken
  pub end : IsAtEnd left'
  pub short : length taken < longest

-- The bytes of a log were taken, and behind them some of which that holds; no more than may be taken.
pub record TookLog (Behind : Folded → List ℕ → List ℕ → Type 0) (left left' : Option (List ℕ)) : Type 0 where
  pub log : Folded
  pub front : List ℕ
  pub rest : List ℕ
  pub is : IsLog log front
  pub took : Consumes left left' (front ++ rest)
  pub within : length (front ++ rest) ≤ longest
  pub behind : Behind log front rest

-- What tells that no batch follows, and no more: base and size, and no batch has that size; a batch's bytes by their size; or, where
-- the input ends, fewer.
abbrev pub IsBreak : Option (List ℕ) → List ℕ → Type 0
IsBreak left' rest = HasNoSize rest ⊎ IsSized rest ⊎ IsCutOff left' rest

-- that was taken behind this place, and what stands there goes on with no batch that may follow
pub record BreaksLog (left left' : Option (List ℕ)) (at : ℕ) (log : Folded) (front rest : List ℕ) : Type 0 where
  pub place : at ≡ length front
  pub told : IsBreak left' rest
  pub none : IfSome left (λ stream. (behind : List ℕ) → stream ≡ front ++ behind → NoneFollows log behind)

-- why a log isn't read to its end
abbrev pub IsLogFault : Option (List ℕ) → Option (List ℕ) → ToolFault → Type 0
IsLogFault left left' (faults.Malformed at) = TookLog (BreaksLog left left' at) left left'
IsLogFault left left' faults.TooLong = TookLog (λ log front rest. IsLongest (length front) rest) left left'
IsLogFault left left' faults.ReadFault = TookLog (λ log front rest. IsCut (length front) rest) left left'
IsLogFault left left' faults.NoMemory = TookLog (λ log front rest. IsBatchAtMost rest) left left'
IsLogFault left left' faults.WriteFault = ⊥

-- ---- a fold

-- the input was taken, and this is what may be written of its image
pub record Folds (Writes : List ℕ → Type 0) (left left' : Option (List ℕ)) : Type 0 where
  pub log : Folded
  pub ends : EndsLog left left' log
  pub wrote : Writes (image_text (settled_end log) (settled_image log))

-- what each answer tells: the bytes of the image are written once all of the input is a log, and nothing before
abbrev pub FoldEnds : Option (List ℕ) → Option (List ℕ) → Option (List ℕ) → Option (List ℕ) → Result (Unit {0}) ToolFault → Type 0
FoldEnds left left' written written' (Ok done) = Folds (Appends written written') left left'
FoldEnds left left' written written' (Err faults.WriteFault) = Folds (AppendsFront written written') left left'
FoldEnds left left' written written' (Err fault) = IsLogFault left left' fault × Keeps written written'

-- where nothing failed, an input that is a log, and is shorter than the longest, is folded
abbrev pub FoldsWhole : Option (List ℕ) → Result (Unit {0}) ToolFault → Type 0
FoldsWhole left result = IfSome left (λ stream. (log : Folded) → IsLog log stream → length stream < longest →
    (result ≡ Ok tt) ⊎ (result ≡ Err faults.NoMemory))

-- and one in which, behind a log, no batch follows is refused at that place, if the longest input doesn't end before
abbrev pub FoldsNoMore : Option (List ℕ) → Result (Unit {0}) ToolFault → Type 0
FoldsNoMore left result = IfSome left (λ stream. (log : Folded) (front behind : List ℕ) →
    stream ≡ front ++ behind → IsLog log front → NoneFollows log behind →
    (result ≡ Err (faults.Malformed (length front))) ⊎ (result ≡ Err faults.TooLong) ⊎ (result ≡ Err faults.NoMemory))

-- ---- a dump

-- the most bytes of an image
abbrev pub largest : ℕ
largest = MOST_LOAD_BYTES

-- all of the input was taken, and has no more bytes than an image may have
pub record TookAll (Is : List ℕ → Type 0) (left left' : Option (List ℕ)) : Type 0 where
  pub taken : List ℕ
  pub took : Consumes left left' taken
  pub end : IsAtEnd left'
  pub short : length taken ≤ largest
  pub is : Is taken

-- one byte more was taken than an image may have
pub record TookMore (left left' : Option (List ℕ)) : Type 0 where
  pub taken : List ℕ
  pub took : Consumes left left' taken
  pub long : length taken ≡ largest + 1

-- the input is an image, and this is what may be written of its text
pub record Dumps (Writes : List ℕ → Type 0) (left left' : Option (List ℕ)) : Type 0 where
  pub offset : ℤ
  pub image : Image
  pub ends : TookAll (IsImage offset image) left left'
  pub wrote : Writes (dump_text offset image)

-- why an input is no image
abbrev pub IsInputFault : Option (List ℕ) → Option (List ℕ) → ToolFault → Type 0
IsInputFault left left' (faults.Malformed at) = ((at ≡ largest) × TookMore left left') ⊎ TookAll (λ bytes. BreaksAt bytes at) left left'
IsInputFault left left' faults.TooLong = ⊥
IsInputFault left left' faults.ReadFault = TookUpTo largest left left'
IsInputFault left left' faults.NoMemory = TookUpTo (largest + 1) left left'
IsInputFault left left' faults.WriteFault = ⊥

-- what each answer tells: the text is written once all of the input is an image, and nothing before
abbrev pub DumpEnds : Option (List ℕ) → Option (List ℕ) → Option (List ℕ) → Option (List ℕ) → Result (Unit {0}) ToolFault → Type 0
DumpEnds left left' written written' (Ok done) = Dumps (Appends written written') left left'
DumpEnds left left' written written' (Err faults.WriteFault) = Dumps (AppendsFront written written') left left'
DumpEnds left left' written written' (Err fault) = IsInputFault left left' fault × Keeps written written'

-- where nothing failed, an input that is an image is dumped
abbrev pub DumpsWhole : Option (List ℕ) → Result (Unit {0}) ToolFault → Type 0
DumpsWhole left result = IfSome left (λ stream. (offset : ℤ) (image : Image) → IsImage offset image stream → length stream ≤ largest →
    (result ≡ Ok tt) ⊎ (result ≡ Err faults.NoMemory))

-- one that breaks is refused at that place
abbrev pub RefusesBroken : Option (List ℕ) → Result (Unit {0}) ToolFault → Type 0
RefusesBroken left result = IfSome left (λ stream. (at : ℕ) → BreaksAt stream at → length stream ≤ largest →
    (result ≡ Err (faults.Malformed at)) ⊎ (result ≡ Err faults.NoMemory))

-- and a longer one at its limit
abbrev pub RefusesLonger : Option (List ℕ) → Result (Unit {0}) ToolFault → Type 0
RefusesLonger left result = IfSome left (λ stream. largest < length stream →
    (result ≡ Err (faults.Malformed largest)) ⊎ (result ≡ Err faults.NoMemory))
