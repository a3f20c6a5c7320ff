-- How a session ends: its status, and what was taken and written at each.
use Rattle.std.specs.Prelude.{◌≡◌, ℕ, ◌+◌, ◌<◌, ◌≤◌, ◌⊎◌, Bool, List, [], ◌++◌, length, All, Option, IfSome}
use Rattle.std.specs.Io.KnownBytes.{Appends, Consumes, IsAtEnd}
use Rattle.kr_base.specs.FailedPuts.{AppendsFront}
use Rattle.kr_wire.specs.Laws.{IsBytes}
use Rattle.kr_calls.specs.declared.events.Event.{Event}
use Rattle.kr_calls.specs.declared.events.Output.{Output}
use Rattle.kr_defs.specs.declared.limits.TheConstants.{MOST_SESSION_BYTES}
use Rattle.kr_defs.specs.declared.options.Options.{Options}
use Rattle.kr_stream.specs.Laws.{NoneBegins}
use Rattle.kr_stream.specs.Outputs.{FrameFits, frames_bytes}
use Rattle.kr_stream.specs.Reader.{IsRefused, IsUnfinished, IsWhole}
use Rattle.kr_process.specs.declared.status.Status.{Status}
use Rattle.kr_process.specs.declared.status.Status.TheVariants as statuses
use Rattle.kr_session_loop.specs.Session.{Progress, HasRead, IsSession, all_outputs, is_opened, outputs_so_far}

-- the longest input
abbrev pub longest : ℕ
longest = MOST_SESSION_BYTES

-- ---- what was written

-- the frames of these outputs, in order, to the byte
pub record WroteAll (written written' : Option (List ℕ)) (outputs : List Output) : Type 0 where
  pub fit : All FrameFits outputs
  pub bytes : Appends written written' (frames_bytes outputs)

-- the frames of some first of them, and of the last of these perhaps a front alone
pub record WroteSome (written written' : Option (List ℕ)) (outputs : List Output) : Type 0 where
  pub first : List Output
  pub others : List Output
  pub parts : outputs ≡ first ++ others
  pub fit : All FrameFits first
  pub bytes : AppendsFront written written' (frames_bytes first)

-- ---- what was taken

-- one whole session and nothing behind it, and the frames of its outputs were written
pub record TookWhole (left left' written written' : Option (List ℕ)) : Type 0 where
  pub options : Options
  pub events : List Event
  pub taken : List ℕ
  pub session : IsSession options events taken
  pub bytes : IsBytes taken
  pub within : length taken ≤ longest
  pub took : Consumes left left' taken
  pub wrote : WroteAll written written' (all_outputs options events)

-- Whole frames, and behind them bytes of which that holds. Of the outputs of the events among the frames that was written.
pub record TookPart (Behind : Bool → ℕ → List ℕ → Type 0) (WroteOf : List Output → Type 0) (left left' : Option (List ℕ)) : Type 0 where
  pub progress : Progress
  pub front : List ℕ
  pub rest : List ℕ
  pub read : HasRead progress front
  pub bytes : IsBytes front
  pub within : length front + length rest ≤ longest
  pub took : Consumes left left' (front ++ rest)
  pub behind : Behind (is_opened progress) (length front) rest
  pub wrote : WroteOf (outputs_so_far progress)

-- nothing
abbrev pub Nothing : Bool → ℕ → List ℕ → Type 0
Nothing opened at rest = rest ≡ []

-- no whole frame, nor what tells that none stands here, and a session may have more bytes
abbrev pub IsCut : Bool → ℕ → List ℕ → Type 0
IsCut opened at rest = IsUnfinished opened rest × (at + length rest < longest)

-- the same, with the last byte that a session may have
abbrev pub IsLongest : Bool → ℕ → List ℕ → Type 0
IsLongest opened at rest = IsUnfinished opened rest × (at + length rest ≡ longest)

-- so many bytes tell, and fewer don't, that no frame stands at this place; or the input ends in a frame
abbrev pub IsBreak : Option (List ℕ) → ℕ → Bool → ℕ → List ℕ → Type 0
IsBreak left' place opened at rest = (place ≡ at) × (IsRefused opened rest ⊎ (IsCut opened at rest × IsAtEnd left'))

-- no more than one frame, or than tells that none stands here
abbrev pub IsFrameAtMost : Bool → ℕ → List ℕ → Type 0
IsFrameAtMost opened at rest = IsUnfinished opened rest ⊎ IsWhole opened rest ⊎ IsRefused opened rest

-- ---- the statuses

-- What each status tells of the bytes that were taken, and of those that were written.
abbrev pub EndsWith : Option (List ℕ) → Option (List ℕ) → Option (List ℕ) → Option (List ℕ) → Status → Type 0
EndsWith left left' written written' statuses.Done = TookWhole left left' written written'
EndsWith left left' written written' statuses.Usage = Consumes left left' [] × Appends written written' []
EndsWith left left' written written' (statuses.Malformed at) = TookPart (IsBreak left' at) (WroteAll written written') left left'
EndsWith left left' written written' statuses.ReadFault = TookPart IsCut (WroteAll written written') left left'
EndsWith left left' written written' statuses.WriteFault = TookPart Nothing (WroteSome written written') left left'
EndsWith left left' written written' statuses.NoMemory = TookPart IsFrameAtMost (WroteSome written written') left left'
EndsWith left left' written written' statuses.TooLong = TookPart IsLongest (WroteAll written written') left left'

-- ---- where nothing failed

-- a stream that begins with a whole session, no longer than the longest input, is served to its end
abbrev pub ServesWhole : Option (List ℕ) → Status → Type 0
ServesWhole left status = IfSome left (λ stream. (options : Options) (events : List Event) (session more : List ℕ) →
    stream ≡ session ++ more → IsSession options events session → length session ≤ longest →
    (status ≡ statuses.Done) ⊎ (status ≡ statuses.NoMemory))

-- a stream in which, behind whole frames, no frame stands is refused at that place, if the longest input doesn't end before
abbrev pub RefusesBroken : Option (List ℕ) → Status → Type 0
RefusesBroken left status = IfSome left (λ stream. (progress : Progress) (front behind : List ℕ) →
    stream ≡ front ++ behind → HasRead progress front → NoneBegins (is_opened progress) behind →
    (status ≡ statuses.Malformed (length front)) ⊎ (status ≡ statuses.TooLong) ⊎ (status ≡ statuses.NoMemory))

-- no frame stands where a stream is refused, however it goes on
abbrev pub BreaksRightly : Option (List ℕ) → Status → Type 0
BreaksRightly left status = IfSome left (λ stream. (at : ℕ) → status ≡ statuses.Malformed at →
    (progress : Progress) × (front : List ℕ) × (behind : List ℕ) × (stream ≡ front ++ behind) × HasRead progress front × (at ≡ length front) × NoneBegins (is_opened progress) behind)
