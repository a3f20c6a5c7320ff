-- What is answered to a question of each kind. Want of memory is free. This project's own.
use Rattle.std.specs.Prelude.{◌≡◌, ℕ, ℤ, ◌≤◌, ◌<◌, ◌⊎◌, List, [], ◌∷◌, ◌++◌, drop, length, Result, Ok, Err, refl}
use Rattle.kr_balance.specs.Plan.{plan}
use Rattle.kr_defs.specs.Image.{Image}
use Rattle.kr_fold.specs.Endings.{largest}
use Rattle.kr_fold.specs.Images.{BreaksAt}
use Rattle.kr_fold.specs.Logs.{Folded, IsLog, NoneFollows, settled_end, settled_image}
use Rattle.kr_lines.specs.declared.fault.ShowFault.TheVariants as shows
use Rattle.kr_lines.specs.Endings.{IsImageHead, IsLogHead, IsNotShown, ShowsAll}
use Rattle.kr_snapshot.specs.Grammar.{IsImage}
use Rattle.kr_snapshot.specs.ImageText.{image_text}
use Rattle.kr_wire.specs.Schema.{Is, Schema, ◌▸◌, Array, End, Int32, Structure, Text, written}
use Rattle.kr_door_loop.specs.declared.kind.QuestionKind.{QuestionKind}
use Rattle.kr_door_loop.specs.declared.kind.QuestionKind.TheVariants as kinds
use Rattle.kr_door_loop.specs.declared.refusal.DoorRefusal.{DoorRefusal}
use Rattle.kr_door_loop.specs.declared.refusal.DoorRefusal.TheVariants as refusals
use Rattle.kr_door_loop.specs.Elections.{elect_question, elects}
use Rattle.kr_door_loop.specs.Placements.{place_question, places}
use Rattle.kr_door_loop.specs.Replies.{AnswersReply}
use Rattle.kr_door_loop.specs.Requests.{AnswersRequest}

-- bytes, or a refusal
abbrev pub Answer : Type 0
Answer = Result (List ℕ) DoorRefusal

-- that answer, or memory ran out
abbrev pub GivesBy : Answer → Answer → Type 0
GivesBy wanted answer = (answer ≡ wanted) ⊎ (answer ≡ Err refusals.NoMemory)

-- ---- lines of JSON

-- why bytes have no lines
abbrev pub IsNotShownBy : (List ℕ → List ℕ → Type 0) → List ℕ → DoorRefusal → Type 0
IsNotShownBy IsHead body (refusals.NoBatch at cause) = IsNotShown IsHead body (shows.Malformed at cause)
IsNotShownBy IsHead body refusals.NoHead = IsNotShown IsHead body shows.BadHead
IsNotShownBy IsHead body refusals.NoMemory = Unit {0}
IsNotShownBy IsHead body other = ⊥

abbrev pub ShowsLines : (List ℕ → List ℕ → Type 0) → List ℕ → Answer → Type 0
ShowsLines IsHead body (Ok text) = ShowsAll IsHead body text
ShowsLines IsHead body (Err refusal) = IsNotShownBy IsHead body refusal

-- ---- a log

-- the log that all of the bytes are, and the bytes of its settled image
pub record FoldsTo (body bytes : List ℕ) : Type 0 where
  pub log : Folded
  pub is : IsLog log body
  pub image : bytes ≡ image_text (settled_end log) (settled_image log)

-- behind the log at this place no batch follows
pub record BreaksLogAt (body : List ℕ) (at : ℕ) : Type 0 where
  pub log : Folded
  pub front : List ℕ
  pub behind : List ℕ
  pub parts : body ≡ front ++ behind
  pub is : IsLog log front
  pub place : at ≡ length front
  pub none : NoneFollows log behind

abbrev pub IsNoLog : List ℕ → DoorRefusal → Type 0
IsNoLog body (refusals.Malformed at) = BreaksLogAt body at
IsNoLog body refusals.NoMemory = Unit {0}
IsNoLog body other = ⊥

abbrev pub FoldsLog : List ℕ → Answer → Type 0
FoldsLog body (Ok bytes) = FoldsTo body bytes
FoldsLog body (Err refusal) = IsNoLog body refusal

-- ---- an image

-- the bytes are an image, no longer than one may be
pub record HoldsImage (body : List ℕ) (offset : ℤ) (image : Image) : Type 0 where
  pub is : IsImage offset image body
  pub short : length body ≤ largest

abbrev pub IsNoImage : List ℕ → DoorRefusal → Type 0
IsNoImage body (refusals.Malformed at) = ((at ≡ largest) × (largest < length body)) ⊎ (BreaksAt body at × (length body ≤ largest))
IsNoImage body refusals.NoMemory = Unit {0}
IsNoImage body other = ⊥

-- what stands behind the two numbers of an image, of 8 bytes each
pub record HasBatches (body bytes : List ℕ) : Type 0 where
  pub offset : ℤ
  pub image : Image
  pub holds : HoldsImage body offset image
  pub behind : bytes ≡ drop 16 body

abbrev pub GivesBatches : List ℕ → Answer → Type 0
GivesBatches body (Ok bytes) = HasBatches body bytes
GivesBatches body (Err refusal) = IsNoImage body refusal

-- topic str, index i32
abbrev pub plan_row : Schema (List ℕ × ℤ)
plan_row = Structure (Text ▸ Int32 ▸ End) (λ (topic, (index, end)). (topic, index)) (λ r. (r.0, (r.1, tt))) (λ v. refl) (λ r. refl)

-- a percentage, of one byte, and an image behind it: its plan
pub record PlansFor (body bytes : List ℕ) : Type 0 where
  pub percent : ℕ
  pub behind : List ℕ
  pub parts : body ≡ percent ∷ behind
  pub offset : ℤ
  pub image : Image
  pub holds : HoldsImage behind offset image
  pub rows : bytes ≡ written (Array plan_row) (plan image percent)

pub record HasNoPlan (body : List ℕ) (refusal : DoorRefusal) : Type 0 where
  pub percent : ℕ
  pub behind : List ℕ
  pub parts : body ≡ percent ∷ behind
  pub none : IsNoImage behind refusal

abbrev pub IsNoPlan : List ℕ → DoorRefusal → Type 0
IsNoPlan body refusals.BadBody = body ≡ []
IsNoPlan body refusals.NoMemory = Unit {0}
IsNoPlan body refusal = HasNoPlan body refusal

abbrev pub PlansLeaders : List ℕ → Answer → Type 0
PlansLeaders body (Ok bytes) = PlansFor body bytes
PlansLeaders body (Err refusal) = IsNoPlan body refusal

-- ---- a value

-- the value that the body stands for is answered by this; where it stands for none, that is told
pub data AnswersValue {X : Type 0} (Stands : X → List ℕ → Type 0) (answer_to : X → Answer) (body : List ℕ) (answer : Answer) : Type 0 where
  valued : (x : X) → Stands x body → GivesBy (answer_to x) answer → AnswersValue Stands answer_to body answer
  unread : ((x : X) → Stands x body → ⊥) → answer ≡ Err refusals.BadBody → AnswersValue Stands answer_to body answer
  forgotten : answer ≡ Err refusals.NoMemory → AnswersValue Stands answer_to body answer

-- ---- all kinds

abbrev pub AnswersKind : QuestionKind → List ℕ → Answer → Type 0
AnswersKind kinds.LogLines = ShowsLines IsLogHead
AnswersKind kinds.ImageLines = ShowsLines IsImageHead
AnswersKind kinds.Fold = FoldsLog
AnswersKind kinds.ImageBatches = GivesBatches
AnswersKind kinds.Elect = AnswersValue (Is elect_question) elects
AnswersKind kinds.Place = AnswersValue (Is place_question) places
AnswersKind kinds.Plan = PlansLeaders
AnswersKind kinds.Reply = AnswersReply
AnswersKind kinds.Request = AnswersRequest
