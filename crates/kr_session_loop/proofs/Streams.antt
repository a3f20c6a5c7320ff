-- Two readings of one stream are one: where no frame follows the one, the other hasn't gone further, and a whole session isn't broken.
use Rattle.std.proofs.Common.{◌≡◌, ℕ, ◌+◌, ◌⊎◌, inl, inr, false, true, List, [], ◌∷◌, ◌++◌, length, append_assoc, append-nil, length-append, refl, sym, ap, ◌∙◌, arith}
use Rattle.kr_wire.specs.Grammar.{Each}
use Rattle.kr_wire.specs.Laws.{IsBytes}
use Rattle.kr_wire.proofs.ReadingLaws.{IsBytes-before, IsBytes-behind}
use Rattle.kr_calls.specs.declared.events.Event.{Event}
use Rattle.kr_calls.specs.declared.events.Event.TheVariants as events
use Rattle.kr_defs.specs.declared.options.Options.{Options}
use Rattle.kr_stream.specs.declared.frame.Frame.{Frame}
use Rattle.kr_stream.specs.declared.frame.Frame.TheVariants as frames
use Rattle.kr_stream.specs.Frames.{IsOpen, IsEvent, IsEnd, IsFrameOf, kind_of_event}
use Rattle.kr_stream.specs.Kinds.{may_stand}
use Rattle.kr_stream.specs.Laws.{NoneBegins}
use Rattle.kr_stream.proofs.FrameLaws.{frames_apart}
use Rattle.kr_session_loop.specs.Session.{Progress, Unopened, Opened, HasRead, IsSession, is_opened}

-- ---- frames at the front of one stream, of which one is known to be bytes

frames_once : (f g : Frame) (a b x y : List ℕ) → IsBytes a ⊎ IsBytes b → IsFrameOf f a → IsFrameOf g b → a ++ x ≡ b ++ y → (f ≡ g) × (x ≡ y)
frames_once f g a b x y (inl bytes) first second same = frames_apart f g a b x y bytes first second same
frames_once f g a b x y (inr bytes) first second same = let d = frames_apart g f b a y x bytes second first (sym same) in (sym d.0, sym d.1)

abbrev event_of : Frame → Event → Event
event_of (frames.Event event) other = event
event_of frame other = other

event_once : (e f : Event) (a b x y : List ℕ) → IsBytes a ⊎ IsBytes b → IsEvent e a → IsEvent f b → a ++ x ≡ b ++ y → (e ≡ f) × (x ≡ y)
event_once e f a b x y bytes first second same =
    let d = frames_once (frames.Event e) (frames.Event f) a b x y bytes first second same in (ap (λ (g : Frame). event_of g e) d.0, d.1)

open_once : (o p : Options) (a b x y : List ℕ) → IsBytes a ⊎ IsBytes b → IsOpen o a → IsOpen p b → a ++ x ≡ b ++ y → x ≡ y
open_once o p a b x y bytes first second same = (frames_once (frames.Open o) (frames.Open p) a b x y bytes first second same).1

-- the parts of bytes are bytes
fronts : (a b a1 a2 b1 b2 : List ℕ) → a ≡ a1 ++ a2 → b ≡ b1 ++ b2 → IsBytes a ⊎ IsBytes b → IsBytes a1 ⊎ IsBytes b1
fronts a b a1 a2 b1 b2 first second (inl bytes) = inl (IsBytes-before a1 a2 a first bytes)
fronts a b a1 a2 b1 b2 first second (inr bytes) = inr (IsBytes-before b1 b2 b second bytes)

rests : (a b a1 a2 b1 b2 : List ℕ) → a ≡ a1 ++ a2 → b ≡ b1 ++ b2 → IsBytes a ⊎ IsBytes b → IsBytes a2 ⊎ IsBytes b2
rests a b a1 a2 b1 b2 first second (inl bytes) = inl (IsBytes-behind a1 a2 a first bytes)
rests a b a1 a2 b1 b2 first second (inr bytes) = inr (IsBytes-behind b1 b2 b second bytes)

-- ---- events

-- the events that the one reading has beyond the other, with their bytes
record Beyond (es fs : List Event) (b x y : List ℕ) : Type 0 where
  more : List Event
  tail : List ℕ
  same : fs ≡ es ++ more
  spelled : Each IsEvent more tail
  rest : x ≡ tail ++ y
  of_bytes : IsBytes b → IsBytes tail

behind_first : (a b c x y : List ℕ) → a ≡ b ++ c → a ++ x ≡ y → b ++ (c ++ x) ≡ y
behind_first a b c x y parts same = sym (append_assoc b c x) ∙ (ap (λ (l : List ℕ). l ++ x) (sym parts) ∙ same)

without_front : (a b x y : List ℕ) → a ≡ [] → a ++ x ≡ b ++ y → x ≡ b ++ y
without_front a b x y none same = sym (ap (λ (l : List ℕ). l ++ x) none) ∙ same

stands_behind : (event : Event) → may_stand true (kind_of_event event) ≡ true
stands_behind (events.Lead epoch next now) = refl
stands_behind (events.Commit epoch end) = refl
stands_behind (events.Lost epoch) = refl
stands_behind (events.Batch bytes) = refl
stands_behind (events.Load bytes) = refl
stands_behind (events.Tick now) = refl
stands_behind (events.Request client now ask) = refl
stands_behind events.Image = refl

-- an event stands at the front of the bytes
begun : (event : Event) (front behind bytes : List ℕ) → bytes ≡ front ++ behind → IsEvent event front → NoneBegins true bytes → ⊥
begun event front behind bytes parts is none = none (frames.Event event) front behind parts (record { place = stands_behind event; is = is })

agree : (es fs : List Event) (a b x y : List ℕ) → IsBytes a ⊎ IsBytes b → Each IsEvent es a → Each IsEvent fs b → a ++ x ≡ b ++ y → NoneBegins true y → Beyond es fs b x y
agree [] fs a b x y bytes first second same none = record { more = fs; tail = b; same = refl; spelled = second; rest = without_front a b x y first same; of_bytes = λ bytes. bytes }
agree (e ∷ es) [] a b x y bytes first second same none =
    let whole : b ++ y ≡ y = ap (λ (l : List ℕ). l ++ y) second in
    absurd (begun e first.left (first.right ++ x) y (sym (behind_first a first.left first.right x y first.is (same ∙ whole))) first.first none)
agree (e ∷ es) (f ∷ fs) a b x y bytes first second same none =
    let front : first.left ++ (first.right ++ x) ≡ second.left ++ (second.right ++ y) =
    behind_first a first.left first.right x _ first.is (same ∙ (ap (λ (l : List ℕ). l ++ y) second.is ∙ append_assoc second.left second.right y)) in
    let d = event_once e f first.left second.left (first.right ++ x) (second.right ++ y) (fronts a b first.left first.right second.left second.right first.is second.is bytes) first.first second.first front in
    let r = agree es fs first.right second.right x y (rests a b first.left first.right second.left second.right first.is second.is bytes) first.second second.second d.1 none in
    record {
      more = r.more;
      tail = r.tail;
      same = ap (λ (g : Event). g ∷ fs) (sym d.0) ∙ ap (λ (l : List Event). e ∷ l) r.same;
      spelled = r.spelled;
      rest = r.rest;
      of_bytes = λ bytes. r.of_bytes (IsBytes-behind second.left second.right b second.is bytes);
    }

-- ---- a whole session isn't broken

-- behind what was read of a whole session a frame follows
not_ended : (more : List Event) (tail end x y : List ℕ) → IsBytes end ⊎ IsBytes tail → IsEnd end → Each IsEvent more tail → end ++ x ≡ tail ++ y → NoneBegins true y → ⊥
not_ended [] tail end x y bytes is spelled same none =
    none frames.End end x (sym (same ∙ ap (λ (l : List ℕ). l ++ y) spelled)) (record { place = refl; is = is })
not_ended (m ∷ more) tail end x y bytes is spelled same none =
    let front : end ++ x ≡ spelled.left ++ (spelled.right ++ y) = same ∙ (ap (λ (l : List ℕ). l ++ y) spelled.is ∙ append_assoc spelled.left spelled.right y) in
    let parts = fronts end tail end [] spelled.left spelled.right (sym (append-nil end)) spelled.is bytes in
    let differs : frames.End ≡ frames.Event m = (frames_once frames.End (frames.Event m) end spelled.left x (spelled.right ++ y) parts is spelled.first front).0 in
    absurd cc

-- a stream that begins with a whole session has no place at which no frame stands
pub whole_not_broken : (options : Options) (es : List Event) (session more : List ℕ) (p : Progress) (front behind : List ℕ) → IsBytes session ⊎ IsBytes front
    → IsSession options es session → session ++ more ≡ front ++ behind → HasRead p front → NoneBegins (is_opened p) behind → ⊥
whole_not_broken options es session more Unopened front behind bytes s same read none =
    let a = s.first in
    let stream : a.left ++ (a.right ++ (s.right ++ more)) ≡ behind =
    behind_first s.left a.left a.right (s.right ++ more) behind a.is
    (behind_first session s.left s.right more behind s.is (same ∙ ap (λ (l : List ℕ). l ++ behind) read)) in
    none (frames.Open options) a.left (a.right ++ (s.right ++ more)) (sym stream) (record { place = refl; is = a.first })
whole_not_broken options es session more (Opened others fs) front behind bytes s same read none =
    let a = s.first in
    let stream : a.left ++ (a.right ++ (s.right ++ more)) ≡ read.left ++ (read.right ++ behind) =
    behind_first s.left a.left a.right (s.right ++ more) _ a.is
    (behind_first session s.left s.right more _ s.is (same ∙ (ap (λ (l : List ℕ). l ++ behind) read.is ∙ append_assoc read.left read.right behind))) in
    let known = fronts session front s.left s.right front [] s.is (sym (append-nil front)) bytes in
    let d = open_once options others a.left read.left (a.right ++ (s.right ++ more)) (read.right ++ behind) (fronts s.left front a.left a.right read.left read.right a.is read.is known) a.first read.first stream in
    let r = agree es fs a.right read.right (s.right ++ more) behind (rests s.left front a.left a.right read.left read.right a.is read.is known) a.second read.second d none in
    let ends : IsBytes s.right ⊎ IsBytes r.tail = elim (rests session front s.left s.right read.left read.right s.is read.is bytes) [
      | inl first ↦ inl first
      | inr second ↦ inr (r.of_bytes second)
    ] in
    not_ended r.more r.tail s.right more behind ends s.second r.spelled r.rest none

-- ---- the place at which no frame stands is one

-- nothing more was read where no frame stands
nothing_beyond : (more : List Event) (tail x y : List ℕ) → Each IsEvent more tail → x ≡ tail ++ y → NoneBegins true x → x ≡ y
nothing_beyond [] tail x y spelled same none = same ∙ ap (λ (l : List ℕ). l ++ y) spelled
nothing_beyond (m ∷ more) tail x y spelled same none =
    absurd (begun m spelled.left (spelled.right ++ y) x (same ∙ (ap (λ (l : List ℕ). l ++ y) spelled.is ∙ append_assoc spelled.left spelled.right y)) spelled.first none)

same_length : (a b x y : List ℕ) → a ++ x ≡ b ++ y → x ≡ y → length a ≡ length b
same_length a b x y whole rest =
    let e : length a + length x ≡ length b + length y = sym (length-append a x) ∙ (ap length whole ∙ length-append b y) in
    omega (arith, e, ap length rest)

-- an Open frame stands there
opens_behind : (options : Options) (fs : List Event) (other front behind rest : List ℕ) → other ≡ [] → HasRead (Opened options fs) front → other ++ rest ≡ front ++ behind → NoneBegins false rest → ⊥
opens_behind options fs other front behind rest nothing read same none =
    none (frames.Open options) read.left (read.right ++ behind)
    (without_front other front rest behind nothing same ∙ (ap (λ (l : List ℕ). l ++ behind) read.is ∙ append_assoc read.left read.right behind)) (record { place = refl; is = read.first })

pub one_break : (p q : Progress) (front behind front' behind' : List ℕ) → IsBytes front ⊎ IsBytes front' → HasRead p front → NoneBegins (is_opened p) behind → HasRead q front' → NoneBegins (is_opened q) behind'
    → front ++ behind ≡ front' ++ behind' → length front ≡ length front'
one_break Unopened Unopened front behind front' behind' bytes read none read' none' same = ap length read ∙ sym (ap length read')
one_break Unopened (Opened options fs) front behind front' behind' bytes read none read' none' same = absurd (opens_behind options fs front front' behind' behind read read' same none)
one_break (Opened options es) Unopened front behind front' behind' bytes read none read' none' same = absurd (opens_behind options es front' front behind behind' read' read (sym same) none')
one_break (Opened options es) (Opened others fs) front behind front' behind' bytes read none read' none' same =
    let stream : read.left ++ (read.right ++ behind) ≡ read'.left ++ (read'.right ++ behind') =
    behind_first front read.left read.right behind _ read.is (same ∙ (ap (λ (l : List ℕ). l ++ behind') read'.is ∙ append_assoc read'.left read'.right behind')) in
    let d = open_once options others read.left read'.left (read.right ++ behind) (read'.right ++ behind') (fronts front front' read.left read.right read'.left read'.right read.is read'.is bytes) read.first read'.first stream in
    let r = agree es fs read.right read'.right behind behind' (rests front front' read.left read.right read'.left read'.right read.is read'.is bytes) read.second read'.second d none' in
    same_length front front' behind behind' same (nothing_beyond r.more r.tail behind behind' r.spelled r.rest none)
