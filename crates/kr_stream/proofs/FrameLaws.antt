-- What bytes tell of the frames at their front.
use Rattle.std.proofs.Common.{◌≡◌, ℕ, ◌+◌, ◌-◌, ◌≤◌, Bool, true, List, [], ◌∷◌, ◌++◌, length, append_assoc, length-append, Result, Ok, Err, refl, sym, ap, subst, ◌∙◌, arith}
use Rattle.std.specs.Prelude.{ℤ}
use Rattle.std.specs.Int.{w8, w32, w64}
use Rattle.kr_wire.specs.Grammar.{◌⌢◌, Exactly, IsNumber, IsSigned}
use Rattle.kr_wire.specs.Reading.{Read}
use Rattle.kr_wire.proofs.ReadingLaws.{IsBytes, IsBytes-behind, Law, one_form, one_value, joined, whole_complete}
use Rattle.kr_wire.proofs.Numbers.{number_law, signed_law}
use Rattle.kr_defs.specs.declared.options.Options.{Options}
use Rattle.kr_calls.specs.declared.events.Event.{Event}
use Rattle.kr_calls.specs.declared.calls.Ask.{Ask}
use Rattle.kr_calls.specs.declared.events.Event.TheVariants as events
use Rattle.kr_calls.specs.declared.events.Output.{Output}
use Rattle.kr_calls.specs.declared.events.Output.TheVariants as outputs
use Rattle.kr_calls.specs.declared.events.Reason.{Reason}
use Rattle.kr_req.specs.Reading.{ask_of}
use Rattle.kr_req.proofs.Asks.{ask_is}
use Rattle.kr_req.proofs.Replies.{replies_apart}
use Rattle.kr_stream.specs.declared.frame.Frame.{Frame}
use Rattle.kr_stream.specs.declared.frame.Frame.TheVariants as frames
use Rattle.kr_stream.specs.declared.kind.FrameKind.{FrameKind}
use Rattle.kr_stream.specs.declared.kind.FrameKind.TheVariants as kinds
use Rattle.kr_stream.specs.Kinds.{number_of}
use Rattle.kr_stream.specs.Frames.{IsFrame, IsBody, IsEventBody, IsTime, frame_kind, kind_of_event}
use Rattle.kr_stream.specs.Reader.{in_size, at_kind, in_body, no_size, no_place, no_fit, Stands}
use Rattle.kr_stream.specs.Laws.{FramesAreToldApart, RefusedBytesBeginNone, UnfinishedBytesBeginNone, OutputsAreToldApart, SameOutput}
use Rattle.kr_stream.specs.Outputs as output
use Rattle.kr_stream.specs.Outputs.{IsOutput, IsOutputBody, IsReason}
use Rattle.kr_stream.specs.RefusalNumbers.{first_number, reason_number, second_number, third_number}
use Rattle.kr_stream.proofs.ReasonNumbers.{one_reason}
use Rattle.kr_stream.specs.inner.Bodies.{is_of_numbers, numbers_at, stamp_at, options_at}
use Rattle.kr_stream.proofs.Sizes.{kind_once, body_short}
use Rattle.kr_stream.proofs.FrameForms.{frame_form, frame_length, same_size, same_head}
use Rattle.kr_stream.proofs.BodyLaws.{numbers_law, stamp_law, options_whole}

-- ---- the frame that a body of a kind gives

abbrev opened_with : Read Options → Frame
opened_with (Ok x) = frames.Open x.0
opened_with (Err e) = frames.End

abbrev happened : Read Event → Frame
happened (Ok x) = frames.Event x.0
happened (Err e) = frames.End

abbrev requested : Read (ℕ × ℤ) → Frame
requested (Ok x) = frames.Event (events.Request x.0.0 x.0.1 (ask_of x.1))
requested (Err e) = frames.End

abbrev given : FrameKind → List ℕ → Frame
given kinds.Open body = opened_with (options_at body)
given kinds.Batch body = frames.Event (events.Batch body)
given kinds.Load body = frames.Event (events.Load body)
given kinds.Request body = requested (stamp_at body)
given kinds.End body = frames.End
given kind body = happened (numbers_at kind body)

numbers_given : (event : Event) (body : List ℕ) → is_of_numbers (kind_of_event event) ≡ true → IsEventBody event body → happened (numbers_at (kind_of_event event) body) ≡ frames.Event event
numbers_given event body has is = ap happened (whole_complete (numbers_law (kind_of_event event) has) body event (record { named = refl; is = is }))

event_given : (event : Event) (body : List ℕ) → IsBytes body → IsEventBody event body → given (kind_of_event event) body ≡ frames.Event event
event_given (events.Lead epoch next now) body fits is = numbers_given (events.Lead epoch next now) body refl is
event_given (events.Commit epoch end) body fits is = numbers_given (events.Commit epoch end) body refl is
event_given (events.Lost epoch) body fits is = numbers_given (events.Lost epoch) body refl is
event_given (events.Tick now) body fits is = numbers_given (events.Tick now) body refl is
event_given events.Image body fits is = refl
event_given (events.Batch bytes) body fits is = ap (λ (l : List ℕ). frames.Event (events.Batch l)) is.all
event_given (events.Load bytes) body fits is = ap (λ (l : List ℕ). frames.Event (events.Load l)) is.all
event_given (events.Request client now ask) body fits is =
    let j = is.second in
    let front : (IsNumber w32 client ⌢ IsTime now) (is.left ++ j.left) = joined is.left j.left is.first j.first in
    let parts : body ≡ (is.left ++ j.left) ++ j.right = is.is ∙ (ap (λ (l : List ℕ). is.left ++ l) j.is ∙ sym (append_assoc is.left j.left j.right)) in
    let read = ap stamp_at parts ∙ stamp_law.complete (client, now) (is.left ++ j.left) j.right front in
    let message : IsBytes j.right = IsBytes-behind (is.left ++ j.left) j.right body parts fits in
    ap requested read ∙ ap (λ (a : Ask). frames.Event (events.Request client now a)) (ask_is ask j.right message j.second.is)

body_given : (frame : Frame) (body : List ℕ) → IsBytes body → IsBody frame body → given (frame_kind frame) body ≡ frame
body_given (frames.Open options) body fits is = ap opened_with (options_whole options body is)
body_given (frames.Event event) body fits is = event_given event body fits is
body_given frames.End body fits is = refl

body_bytes : (kind : ℕ) (Body : List ℕ → Type 0) (bytes : List ℕ) (f : IsFrame kind Body bytes) → IsBytes bytes → IsBytes f.body
body_bytes kind Body bytes f fits =
    let s = f.spelled in
    let right = IsBytes-behind s.left s.right bytes s.is fits in
    IsBytes-behind (kind ∷ []) f.body s.right s.second right

pub frames_apart : FramesAreToldApart
frames_apart a b front other behind rest fits f g same =
    let r = frame_form (number_of (frame_kind a)) (number_of (frame_kind b)) (IsBody a) (IsBody b) front other behind rest f g same in
    let body = body_bytes (number_of (frame_kind a)) (IsBody a) front f fits in
    let kind : frame_kind a ≡ frame_kind b = kind_once (frame_kind a) (frame_kind b) r.0 in
    let one = body_given a f.body body f.holds in
    let two = body_given b g.body (subst IsBytes r.1 body) g.holds in
    (sym one ∙ (ap (λ (k : FrameKind). given k f.body) kind ∙ (ap (λ (l : List ℕ). given (frame_kind b) l) r.1 ∙ two)), r.3)

-- ---- no frame

stands_length : (opened : Bool) (frame : Frame) (front : List ℕ) → Stands opened frame front → 5 ≤ length front
stands_length opened frame front s = let l = frame_length (number_of (frame_kind frame)) (IsBody frame) front s.is in omega (arith, l)

pub refused_none : RefusedBytesBeginNone
refused_none opened bytes behind (no_size zero) frame front rest parts s =
    let r = same_size 0 (number_of (frame_kind frame)) (IsBody frame) bytes behind front rest s.is zero parts in
    let e = r.0 in
    omega (arith, e)
refused_none opened bytes behind (no_place size number some head not_allowed) frame front rest parts s =
    let r = same_head size number (number_of (frame_kind frame)) (IsBody frame) bytes behind front rest s.is head parts in
    let e = r.0 in
    let short = body_short frame s.is.body s.is.holds in
    let length_ : size - 1 ≡ length s.is.body = omega (arith, e) in
    not_allowed (record { kind = frame_kind frame; named = r.1; place = s.place; short = omega (arith, length_, short) })
refused_none opened bytes behind (no_fit whole none) frame front rest parts s =
    let r = frame_form whole.number (number_of (frame_kind frame)) (Exactly whole.body) (IsBody frame) bytes front behind rest whole.is s.is parts in
    none frame (subst (Stands opened frame) (sym r.2) s)

pub unfinished_none : UnfinishedBytesBeginNone
unfinished_none opened bytes (in_size few) frame front rest parts s =
    let l = stands_length opened frame front s in
    let e = ap length parts ∙ length-append front rest in
    omega (arith, few, l, e)
unfinished_none opened bytes (at_kind size some number) frame front rest parts s =
    let l = stands_length opened frame front s in
    let e = ap length parts ∙ length-append front rest in
    let four : length bytes ≡ 4 = number.long in
    omega (arith, four, l, e)
unfinished_none opened bytes (in_body number len head body is begins allowed few) frame front rest parts s =
    let r = same_head (len + 1) number (number_of (frame_kind frame)) (IsBody frame) head body front rest s.is begins (sym is ∙ parts) in
    let e = r.0 in
    let l = ap length r.2 ∙ length-append s.is.body rest in
    omega (arith, e, l, few)

-- ---- outputs

-- the first part of one string is one value, and what is behind it the same
module _ {X E : Type 0} {Is : X → List ℕ → Type 0} {read : List ℕ → Result (X × List ℕ) E} (law : Law Is read) where
  part_once : (x y : X) (A B : List ℕ → Type 0) (a b : List ℕ) → a ≡ b → (j : (Is x ⌢ A) a) (k : (Is y ⌢ B) b) → (x ≡ y) × (j.right ≡ k.right)
  part_once x y A B a b same j k = one_form law x y j.left k.left j.right k.right j.first k.first (sym j.is ∙ (same ∙ k.is))

reason_once : (a b : Reason) (x y : List ℕ) → x ≡ y → IsReason a x → IsReason b y → a ≡ b
reason_once a b x y same j k =
    let number = part_once (number_law w8) (reason_number a) (reason_number b) _ _ x y same j k in
    let first = part_once (signed_law w64) (first_number a) (first_number b) _ _ j.right k.right number.1 j.second k.second in
    let second = part_once (signed_law w64) (second_number a) (second_number b) _ _ _ _ first.1 j.second.second k.second.second in
    let third = one_value (signed_law w64) (third_number a) (third_number b) k.second.second.right (subst (IsSigned w64 (third_number a)) second.1 j.second.second.second) k.second.second.second in
    one_reason a b number.0 first.0 second.0 third

same_output : (a b : Output) (x y : List ℕ) → output.number_of a ≡ output.number_of b → x ≡ y → IsOutputBody a x → IsOutputBody b y → SameOutput a b
same_output (outputs.Append bytes) (outputs.Append bytes') x y number same is is' = ap (λ (l : List ℕ). outputs.Append l) (sym is ∙ (same ∙ is'))
same_output (outputs.Image bytes) (outputs.Image bytes') x y number same is is' = ap (λ (l : List ℕ). outputs.Image l) (sym is ∙ (same ∙ is'))
same_output (outputs.Refused event reason) (outputs.Refused event' reason') x y number same is is' =
    let e = part_once (number_law w64) event event' _ _ x y same is is' in
    let r = reason_once reason reason' is.right is'.right e.1 is.second is'.second in
    rw (e.0, r) refl
same_output (outputs.Reply client correlation reply) (outputs.Reply client' correlation' reply') x y number same is is' =
    let c = part_once (number_law w32) client client' _ _ x y same is is' in
    let again = ap (λ (l : List ℕ). l ++ []) c.1 in
    let k = part_once (signed_law w32) correlation correlation' _ _ is.right is'.right c.1 is.second is'.second in
    (c.0, k.0, λ to. (replies_apart correlation correlation' reply reply' is.right is'.right [] [] to is.second is'.second again).1)
same_output (outputs.Append bytes) (outputs.Reply client correlation reply) x y number same is is' = absurd (omega (arith, number))
same_output (outputs.Append bytes) (outputs.Refused event reason) x y number same is is' = absurd (omega (arith, number))
same_output (outputs.Append bytes) (outputs.Image bytes') x y number same is is' = absurd (omega (arith, number))
same_output (outputs.Reply client correlation reply) (outputs.Append bytes) x y number same is is' = absurd (omega (arith, number))
same_output (outputs.Reply client correlation reply) (outputs.Refused event reason) x y number same is is' = absurd (omega (arith, number))
same_output (outputs.Reply client correlation reply) (outputs.Image bytes) x y number same is is' = absurd (omega (arith, number))
same_output (outputs.Refused event reason) (outputs.Append bytes) x y number same is is' = absurd (omega (arith, number))
same_output (outputs.Refused event reason) (outputs.Reply client correlation reply) x y number same is is' = absurd (omega (arith, number))
same_output (outputs.Refused event reason) (outputs.Image bytes) x y number same is is' = absurd (omega (arith, number))
same_output (outputs.Image bytes) (outputs.Append bytes') x y number same is is' = absurd (omega (arith, number))
same_output (outputs.Image bytes) (outputs.Reply client correlation reply) x y number same is is' = absurd (omega (arith, number))
same_output (outputs.Image bytes) (outputs.Refused event reason) x y number same is is' = absurd (omega (arith, number))

pub outputs_apart : OutputsAreToldApart
outputs_apart a b front other behind rest f g same =
    let r = frame_form (output.number_of a) (output.number_of b) (IsOutputBody a) (IsOutputBody b) front other behind rest f g same in
    (same_output a b f.body g.body r.0 r.1 f.holds g.holds, r.3)
