-- What the reading of one frame answers, and which bytes it takes.
use Rattle.std.specs.Prelude.{◌≡◌, ℕ, ◌+◌, ◌-◌, ◌<◌, ◌≤◌, ◌⊎◌, Bool, true, false, List, [], ◌∷◌, ◌++◌, length, Option}
use Rattle.std.specs.Int.{w32}
use Rattle.std.specs.Io.KnownBytes.{Consumes, IsAtEnd, Keeps}
use Rattle.kr_base.specs.Causes.{Rose}
use Rattle.kr_wire.specs.Laws.{IsBytes}
use Rattle.kr_wire.specs.Grammar.{◌⌢◌, Exactly, IsNumber}
use Rattle.kr_defs.specs.declared.limits.TheConstants.{MOST_SESSION_BYTES}
use Rattle.kr_stream.specs.declared.fault.StreamFault.{StreamFault}
use Rattle.kr_stream.specs.declared.fault.StreamFault.TheVariants as faults
use Rattle.kr_stream.specs.declared.frame.Frame.{Frame}
use Rattle.kr_stream.specs.declared.frame.Frame.TheVariants as frames
use Rattle.kr_stream.specs.declared.stage.Stage.{Stage}
use Rattle.kr_stream.specs.declared.stage.Stage.TheVariants as stages
use Rattle.kr_stream.specs.declared.kind.FrameKind.{FrameKind}
use Rattle.kr_stream.specs.Kinds.{number_of, longest_body, may_stand}
use Rattle.kr_stream.specs.Frames.{IsFrame, IsFrameOf, frame_kind}

-- where a reader stands: the bytes that it took, and what may follow
pub record Position : Type 0 where
  pub at : ℕ
  pub stage : Stage

-- ---- a frame

-- the frame stands at the beginning of a session, or behind its Open frame
pub record Stands (opened : Bool) (frame : Frame) (bytes : List ℕ) : Type 0 where
  pub place : may_stand opened (frame_kind frame) ≡ true
  pub is : IsFrameOf frame bytes

-- The next frame of a stream. Behind End nothing is taken, and End is answered again.
abbrev pub IsNext : Stage → Frame → List ℕ → Type 0
IsNext stages.Unopened frame = Stands false frame
IsNext stages.Opened frame = Stands true frame
IsNext stages.Ended frame = λ bytes. (frame ≡ frames.End) × (bytes ≡ [])
IsNext (stages.Failed fault) frame = λ bytes. ⊥

-- what was read with this frame
abbrev pub stage_after : Frame → Stage
stage_after frames.End = stages.Ended
stage_after other = stages.Opened

-- bytes of which that holds were taken
pub record Took (Is : List ℕ → Type 0) (left left' : Option (List ℕ)) (at at' : ℕ) : Type 0 where
  pub taken : List ℕ
  pub is : Is taken
  pub bytes : IsBytes taken
  pub took : Consumes left left' taken
  pub place : at' ≡ at + length taken
  pub within : at' ≤ MOST_SESSION_BYTES

-- ---- no frame

-- a frame of the kind with this number may stand here, with a body of this length
pub record IsAllowed (opened : Bool) (number len : ℕ) : Type 0 where
  pub kind : FrameKind
  pub named : number ≡ number_of kind
  pub place : may_stand opened kind ≡ true
  pub short : len ≤ longest_body kind

-- a size, and the number of a kind
abbrev pub IsHead : ℕ → ℕ → List ℕ → Type 0
IsHead size number = IsNumber w32 size ⌢ Exactly (number ∷ [])

-- The bytes begin a frame that may stand here, as far as its size and kind tell, and are fewer than they say.
pub data IsUnfinished (opened : Bool) (bytes : List ℕ) : Type 0 where
  in_size : length bytes < 4 → IsUnfinished opened bytes
  at_kind : (size : ℕ) → 0 < size → IsNumber w32 size bytes → IsUnfinished opened bytes
  in_body : (number len : ℕ) (head body : List ℕ) → bytes ≡ head ++ body → IsHead (len + 1) number head → IsAllowed opened number len
      → length body < len → IsUnfinished opened bytes

-- a whole frame of a kind and size that may stand here, whatever its body
pub record IsWhole (opened : Bool) (bytes : List ℕ) : Type 0 where
  pub number : ℕ
  pub body : List ℕ
  pub is : IsFrame number (Exactly body) bytes
  pub allowed : IsAllowed opened number (length body)

-- The bytes tell that no frame stands here, and fewer of them didn't: a size of 0, a kind and a size that may not stand here, or
-- a body that doesn't fit.
pub data IsRefused (opened : Bool) (bytes : List ℕ) : Type 0 where
  no_size : IsNumber w32 0 bytes → IsRefused opened bytes
  no_place : (size number : ℕ) → 0 < size → IsHead size number bytes → (IsAllowed opened number (size - 1) → ⊥) → IsRefused opened bytes
  no_fit : IsWhole opened bytes → ((frame : Frame) → Stands opened frame bytes → ⊥) → IsRefused opened bytes

-- Why no frame is answered, by the bytes that were taken from the place `at` on:
-- at Malformed, those that tell that none stands there, or all that there are, and they are too few;
-- at ReadFault, too few, and a read failed;
-- at TooLong, too few, and no more bytes of one stream are taken, which is so at no other fault;
-- at NoMemory, no more than one frame.
abbrev pub Cause : Bool → ℕ → List ℕ → Option (List ℕ) → ℕ → ℕ → StreamFault → Type 0
Cause opened at taken left' count count' (faults.Malformed place) = (place ≡ at) × (IsRefused opened taken ⊎ (IsUnfinished opened taken × IsAtEnd left' × (at + length taken < MOST_SESSION_BYTES)))
Cause opened at taken left' count count' faults.ReadFault = IsUnfinished opened taken × Rose count count' × (at + length taken < MOST_SESSION_BYTES)
Cause opened at taken left' count count' faults.TooLong = IsUnfinished opened taken × (at + length taken ≡ MOST_SESSION_BYTES)
Cause opened at taken left' count count' faults.NoMemory = IsUnfinished opened taken ⊎ IsWhole opened taken

pub record Stopped (opened : Bool) (at : ℕ) (left left' : Option (List ℕ)) (count count' : ℕ) (fault : StreamFault) : Type 0 where
  pub taken : List ℕ
  pub took : Consumes left left' taken
  pub within : at + length taken ≤ MOST_SESSION_BYTES
  pub cause : Cause opened at taken left' count count' fault

-- what a fault tells at each stage: behind End there is none, and a fault is answered again, with nothing taken
abbrev pub Stops : Stage → ℕ → Option (List ℕ) → Option (List ℕ) → ℕ → ℕ → StreamFault → Type 0
Stops stages.Unopened at left left' count count' fault = Stopped false at left left' count count' fault
Stops stages.Opened at left left' count count' fault = Stopped true at left left' count count' fault
Stops stages.Ended at left left' count count' fault = ⊥
Stops (stages.Failed before) at left left' count count' fault = (fault ≡ before) × Keeps left left'
