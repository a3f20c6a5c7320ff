-- What the calls tell of bytes that are held.
use Rattle.std.proofs.Common.{◌≡◌, ◌∙◌, ℕ, ℤ, ◌≤◌, inl, inr, List, [], ◌∷◌, ◌++◌, length, append-nil, append_assoc, length-append, drop, Option, Some, None, Result, Ok, Err, refl, sym, ap, subst, arith}
use Rattle.std.specs.Io.KnownBytes.{Appends, Consumes, IsAtEnd}
use Rattle.kr_balance.specs.Plan.{plan}
use Rattle.kr_defs.specs.Image.{Image}
use Rattle.kr_fold.specs.declared.fault.ToolFault.{ToolFault}
use Rattle.kr_fold.specs.declared.fault.ToolFault.TheVariants as tools
use Rattle.kr_fold.specs.Endings.{FoldEnds, IsInputFault, TookAll, largest}
use Rattle.kr_fold.specs.Images.{BreaksAt}
use Rattle.kr_fold.specs.Logs.{IsLog, settled_end, settled_image}
use Rattle.kr_layout.specs.Answers.{Answers}
use Rattle.kr_layout.specs.declared.fault.BodyFault.TheVariants as bodies
use Rattle.kr_lines.specs.declared.fault.ShowFault.{ShowFault}
use Rattle.kr_lines.specs.declared.fault.ShowFault.TheVariants as shows
use Rattle.kr_lines.specs.Endings.{IsNotShown}
use Rattle.kr_snapshot.specs.Grammar.{IsImage}
use Rattle.kr_snapshot.specs.ImageText.{image_text}
use Rattle.kr_wire.specs.declared.WireFault.{WireFault}
use Rattle.kr_wire.specs.Grammar.{Exactly}
use Rattle.kr_wire.specs.Schema.{Array, Is, Schema, written}
use Rattle.kr_door_loop.specs.declared.refusal.DoorRefusal.{DoorRefusal}
use Rattle.kr_door_loop.specs.declared.refusal.DoorRefusal.TheVariants as refusals
use Rattle.kr_door_loop.specs.Answers.{Answer, AnswersValue, FoldsTo, GivesBy, HasBatches, HoldsImage, IsNoImage, IsNoLog, IsNoPlan, IsNotShownBy, PlansFor, forgotten, plan_row, unread, valued}
use Rattle.kr_door_loop.specs.inner.Calls.{of_lines, of_tool}

-- ---- lines of JSON

pub not_shown : (IsHead : List ℕ → List ℕ → Type 0) (body : List ℕ) (fault : ShowFault) → IsNotShown IsHead body fault → IsNotShownBy IsHead body (of_lines fault)
not_shown IsHead body (shows.Malformed at cause) is = is
not_shown IsHead body shows.BadHead is = is
not_shown IsHead body shows.NoMemory is = tt
not_shown IsHead body shows.ReadFault is = tt
not_shown IsHead body shows.WriteFault is = tt
not_shown IsHead body shows.TooLong is = tt

-- ---- bytes that are held

-- all of them were taken
all_taken : (body : List ℕ) (left' : Option (List ℕ)) (taken : List ℕ) → Consumes (Some body) left' taken → IsAtEnd left' → body ≡ taken
all_taken body None taken took end = absurd took
all_taken body (Some l) taken took end = took ∙ (ap (λ (m : List ℕ). taken ++ m) end ∙ append-nil taken)

-- what is left behind what was taken
behind : (body : List ℕ) (left' : Option (List ℕ)) (taken : List ℕ) → Consumes (Some body) left' taken → (more : List ℕ) × (body ≡ taken ++ more)
behind body None taken took = absurd took
behind body (Some l) taken took = (l, took)

-- ---- a log

pub folded : (body : List ℕ) (left' : Option (List ℕ)) (before bytes : List ℕ) → before ≡ [] → FoldEnds (Some body) left' (Some before) (Some bytes) (Ok tt) → FoldsTo body bytes
folded body left' before bytes none ends =
    let text = image_text (settled_end ends.log) (settled_image ends.log) in
    record {
      log = ends.log;
      is = subst (IsLog ends.log) (sym (all_taken body left' ends.ends.taken ends.ends.took ends.ends.end)) ends.ends.is;
      image = ends.wrote ∙ ap (λ (l : List ℕ). l ++ text) none;
    }

pub not_folded : (body : List ℕ) (left' written written' : Option (List ℕ)) (fault : ToolFault) → FoldEnds (Some body) left' written written' (Err fault) → IsNoLog body (of_tool fault)
not_folded body left' written written' (tools.Malformed at) ends =
    let t = ends.0 in
    let b = behind body left' (t.front ++ t.rest) t.took in
    let parts : body ≡ t.front ++ (t.rest ++ b.0) = b.1 ∙ append_assoc t.front t.rest b.0 in
    record { log = t.log; front = t.front; behind = t.rest ++ b.0; parts = parts; is = t.is; place = t.behind.place; none = t.behind.none (t.rest ++ b.0) parts }
not_folded body left' written written' tools.NoMemory ends = tt
not_folded body left' written written' tools.ReadFault ends = tt
not_folded body left' written written' tools.WriteFault ends = tt
not_folded body left' written written' tools.TooLong ends = tt

-- ---- an image

pub image_held : (body : List ℕ) (left' : Option (List ℕ)) (bytes : List ℕ) (offset : ℤ) (image : Image) → TookAll (Exactly bytes) (Some body) left' → IsImage offset image bytes → HoldsImage body offset image
image_held body left' bytes offset image all is =
    let same : body ≡ all.taken = all_taken body left' all.taken all.took all.end in
    record {
      is = subst (IsImage offset image) (sym (same ∙ all.is)) is;
      short = subst (λ (l : List ℕ). length l ≤ largest) (sym same) all.short;
    }

pub no_image : (body : List ℕ) (left' : Option (List ℕ)) (fault : ToolFault) → IsInputFault (Some body) left' fault → IsNoImage body (of_tool fault)
no_image body left' (tools.Malformed at) (inl more) =
    let m = more.1 in
    let b = behind body left' m.taken m.took in
    let joined = ap (λ (l : List ℕ). length l) b.1 ∙ length-append m.taken b.0 in
    let long = m.long in
    inl (more.0, omega (arith, joined, long))
no_image body left' (tools.Malformed at) (inr all) =
    let same : body ≡ all.taken = all_taken body left' all.taken all.took all.end in
    inr (subst (λ (l : List ℕ). BreaksAt l at) (sym same) all.is, subst (λ (l : List ℕ). length l ≤ largest) (sym same) all.short)
no_image body left' tools.NoMemory is = tt
no_image body left' tools.ReadFault is = tt
no_image body left' tools.WriteFault is = tt
no_image body left' tools.TooLong is = tt

pub has_batches : (body bytes : List ℕ) (offset : ℤ) (image : Image) → HoldsImage body offset image → bytes ≡ drop 16 body → HasBatches body bytes
has_batches body bytes offset image holds is = record { offset = offset; image = image; holds = holds; behind = is }

module _ (percent : ℕ) (body bytes : List ℕ) (parts : body ≡ percent ∷ bytes) where
  pub plans_for : (rows : List ℕ) (offset : ℤ) (image : Image) → HoldsImage bytes offset image → rows ≡ written (Array plan_row) (plan image percent) → PlansFor body rows
  plans_for rows offset image holds is = record { percent = percent; behind = bytes; parts = parts; offset = offset; image = image; holds = holds; rows = is }

  pub has_no_plan : (refusal : DoorRefusal) → IsNoImage bytes refusal → IsNoPlan body refusal
  has_no_plan (refusals.Malformed at) none = record { percent = percent; behind = bytes; parts = parts; none = none }
  has_no_plan refusals.NoMemory none = tt
  has_no_plan refusals.UnknownKind none = absurd none
  has_no_plan refusals.BadBody none = absurd none
  has_no_plan refusals.NoHead none = absurd none
  has_no_plan (refusals.NoBatch at cause) none = absurd none
  has_no_plan refusals.BadNumber none = absurd none
  has_no_plan refusals.Repeated none = absurd none
  has_no_plan refusals.TooFew none = absurd none
  has_no_plan refusals.NotJson none = absurd none
  has_no_plan refusals.UnknownRequest none = absurd none
  has_no_plan refusals.BadField none = absurd none

-- ---- a value

module _ {X : Type 0} (s : Schema X) (answer_to : X → Answer) (body : List ℕ) where
  pub unread_wire : (fault : WireFault) → Answers (Is s) s body (Err (bodies.Wire fault)) → AnswersValue (Is s) answer_to body (Err refusals.BadBody)
  unread_wire fault read = unread (λ x is. let clash = read.found x is in cc) refl

  pub unread_rest : Answers (Is s) s body (Err bodies.Trailing) → AnswersValue (Is s) answer_to body (Err refusals.BadBody)
  unread_rest read = unread (λ x is. let clash = read.found x is in cc) refl

  pub value_answered : (x : X) (answer : Answer) → Answers (Is s) s body (Ok x) → GivesBy (answer_to x) answer → AnswersValue (Is s) answer_to body answer
  value_answered x answer read gives = valued x read.stands gives

  pub value_forgotten : AnswersValue (Is s) answer_to body (Err refusals.NoMemory)
  value_forgotten = forgotten refl
