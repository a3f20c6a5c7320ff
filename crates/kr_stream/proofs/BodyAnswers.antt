-- What the readers of bodies answer.
use Rattle.kr_defs.specs.declared.limits.TheConstants.{MOST_MESSAGE_BYTES}
use Rattle.std.proofs.Common.{Fits, w8, get_or, ◌≡◌, ℕ, ℤ, ◌≤◌, ◌<◌, List, [], ◌∷◌, ◌++◌, length, drop, append_assoc, Result, Ok, Err, refl, sym, ap, subst, ◌∙◌, arith}
use Rattle.std.specs.Prelude.{IfOk, OnErr, MatchResult, IsErrOf, IsUtf8, IsTrue}
use Rattle.std.specs.Int.{w32}
use Rattle.std.proofs.lemmas.List.{append-nil}
use Rattle.kr_wire.specs.declared.WireFault.{WireFault}
use Rattle.kr_wire.specs.Grammar.{◌⌢◌, IsNumber}
use Rattle.kr_wire.proofs.ReadingLaws.{Law, joined, ok_value, ok_rest}
use Rattle.kr_defs.specs.OpenOptions.{are_options}
use Rattle.kr_defs.specs.declared.options.Options.{Options}
use Rattle.kr_calls.specs.declared.events.Event.{Event}
use Rattle.kr_calls.specs.declared.events.Event.TheVariants as events
use Rattle.kr_stream.specs.declared.bodies.BodyFault.{BodyFault}
use Rattle.kr_stream.specs.declared.frame.Frame.{Frame}
use Rattle.kr_stream.specs.declared.frame.Frame.TheVariants as frames
use Rattle.kr_stream.specs.declared.kind.FrameKind.{FrameKind}
use Rattle.kr_stream.specs.declared.kind.FrameKind.TheVariants as kinds
use Rattle.kr_stream.specs.Kinds.{longest_body}
use Rattle.kr_stream.specs.Frames.{IsOptions, IsTime, IsMessage}
use Rattle.kr_stream.specs.inner.Bodies.{IsBodyOf, IsEventOf, IsRequestOf, stamp_at, AreSpelled, options_at}
use Rattle.kr_stream.proofs.Sizes.{event_not_open}
use Rattle.kr_stream.proofs.BodyLaws.{stamp_law, options_sound, options_whole, all_read, none_read, none_left}

-- ---- numbers alone

module _ {X E F : Type 0} {Is : X → List ℕ → Type 0} {read : List ℕ → Result (X × List ℕ) E} (law : Law Is read) (body : List ℕ) where
  -- the value, where it was read to the end
  abbrev pub Checked : X → ℕ → Result X F → Type 0
  Checked value at result = MatchResult result (λ x. (x ≡ value) × (at ≡ length body)) (λ e. at ≡ length body → ⊥)

  pub whole_found : (value : X) (at : ℕ) (result : Result X F) → Checked value at result → ((i : ℕ) → Fits w8 (get_or body i 0)) → read body ≡ Ok (value, drop at body) → IfOk result (λ x. Is x body)
  whole_found value at (Ok x) given fits e = subst (λ (y : X). Is y body) (sym given.0) (all_read law body value at (λ i. omega (arith, fits i)) e given.1)
  whole_found value at (Err f) given fits e = tt

  pub whole_misfit : (value : X) (at : ℕ) (result : Result X F) → Checked value at result → (read body ≡ Ok (value, drop at body)) × (at ≤ length body) → OnErr result ((x : X) → Is x body → ⊥)
  whole_misfit value at (Ok x) given e = tt
  whole_misfit value at (Err f) given e = none_left law body value at e.0 e.1 given

  pub misfit : (e : E) (result : Result X F) → read body ≡ Err e → OnErr result ((x : X) → Is x body → ⊥)
  misfit e (Ok x) fault = tt
  misfit e (Err f) fault = none_read law body e fault

-- ---- requests

stamped : (client : ℕ) (now : ℤ) (Message : List ℕ → Type 0) (front rest body : List ℕ) → body ≡ front ++ rest → (IsNumber w32 client ⌢ IsTime now) front → Message rest
    → (IsNumber w32 client ⌢ IsTime now ⌢ Message) body
stamped client now Message front rest body parts h message = record {
  left = h.left;
  right = h.right ++ rest;
  is = parts ∙ (ap (λ (l : List ℕ). l ++ rest) h.is ∙ append_assoc h.left h.right rest);
  first = h.first;
  second = joined h.right rest h.second message;
}

request_is : (client : ℕ) (now : ℤ) (event : Event) (front rest body : List ℕ) → body ≡ front ++ rest → (IsNumber w32 client ⌢ IsTime now) front → IsRequestOf client now event rest → IsEventOf kinds.Request event body
request_is client now event front rest body parts h of =
    let P : Event → Type 0 = λ e. IsEventOf kinds.Request e body in
    subst P (sym of.request) (record { named = refl; is = stamped client now (IsMessage of.ask) front rest body parts h of.is })

pub request_found : (client : ℕ) (now : ℤ) (at : ℕ) (body rest : List ℕ) (result : Result Event BodyFault) → ((i : ℕ) → Fits w8 (get_or body i 0))
    → stamp_at body ≡ Ok ((client, now), drop at body) → rest ≡ drop at body
    → IfOk result (λ event. IsRequestOf client now event rest) → IfOk result (λ event. IsEventOf kinds.Request event body)
request_found client now at body rest (Ok event) fits e behind of =
    let f = stamp_law.sound body (λ i. omega (arith, fits i)) (client, now) (drop at body) e in
    request_is client now event f.front rest body (f.parts ∙ ap (λ (l : List ℕ). f.front ++ l) (sym behind)) f.holds of
request_found client now at body rest (Err f) fits e behind of = tt

-- what a request's body is read as
stamp_read : (event : Event) (body : List ℕ) → IsEventOf kinds.Request event body
    → (client : ℕ) × (now : ℤ) × (rest : List ℕ) × (stamp_at body ≡ Ok ((client, now), rest)) × (length rest ≤ MOST_MESSAGE_BYTES)
stamp_read (events.Request c n ask) body of =
    let is = of.is in
    let j = is.second in
    let front : (IsNumber w32 c ⌢ IsTime n) (is.left ++ j.left) = joined is.left j.left is.first j.first in
    let parts : body ≡ (is.left ++ j.left) ++ j.right = is.is ∙ (ap (λ (l : List ℕ). is.left ++ l) j.is ∙ sym (append_assoc is.left j.left j.right)) in
    (c, n, j.right, ap stamp_at parts ∙ stamp_law.complete (c, n) (is.left ++ j.left) j.right front, j.second.short)
stamp_read (events.Lead epoch next now) body of = let k = of.named in absurd cc
stamp_read (events.Commit epoch end) body of = let k = of.named in absurd cc
stamp_read (events.Lost epoch) body of = let k = of.named in absurd cc
stamp_read (events.Batch bytes) body of = let k = of.named in absurd cc
stamp_read (events.Load bytes) body of = let k = of.named in absurd cc
stamp_read (events.Tick now) body of = let k = of.named in absurd cc
stamp_read events.Image body of = let k = of.named in absurd cc

pub request_unstamped : (body : List ℕ) (fault : WireFault) → stamp_at body ≡ Err fault → (event : Event) → IsEventOf kinds.Request event body → ⊥
request_unstamped body fault e event is = let m = stamp_read event body is in let clash = sym e ∙ m.3 in cc

pub request_too_long : (body message : List ℕ) (client : ℕ) (now : ℤ) (at : ℕ) → stamp_at body ≡ Ok ((client, now), drop at body) → message ≡ drop at body → MOST_MESSAGE_BYTES < length message
    → (event : Event) → IsEventOf kinds.Request event body → ⊥
request_too_long body message client now at e behind long event is =
    let m = stamp_read event body is in
    let rest : drop at body ≡ m.2 = ok_rest _ _ _ _ (sym e ∙ m.3) in
    let short = m.4 in
    let same = ap length (behind ∙ rest) in
    omega (arith, long, short, same)

-- ---- Open

last_as : {A B C : List ℕ → Type 0} (bytes : List ℕ) → (A ⌢ B) bytes → ((b : List ℕ) → B b → C b) → (A ⌢ C) bytes
last_as bytes j as_ = record { left = j.left; right = j.right; is = j.is; first = j.first; second = as_ j.right j.second }

options_are : (o : Options) (body : List ℕ) → AreSpelled o body → IsTrue (are_options o) → IsUtf8 o.cluster → IsOptions o body
options_are o body is fits utf8 = record {
  fits = fits;
  spelled = last_as body is (λ r1 s1. last_as r1 s1 (λ r2 s2. last_as r2 s2 (λ r3 s3. last_as r3 s3 (λ r4 s4. last_as r4 s4 (λ r5 s5. last_as r5 s5 (λ r6 all. record { utf8 = utf8; all = all }))))));
}

pub options_found : (o : Options) (body cluster : List ℕ) (result : Result Options BodyFault) → ((i : ℕ) → Fits w8 (get_or body i 0))
    → options_at body ≡ Ok (o, []) → cluster ≡ o.cluster
    → IfOk result (λ options. IsTrue (are_options options) × IsUtf8 cluster × (options ≡ record o { cluster = cluster })) → IfOk result (λ options. IsOptions options body)
options_found o body cluster (Ok options) fits e same named =
    let f = options_sound body (λ i. omega (arith, fits i)) o [] e in
    let all : body ≡ f.front = f.parts ∙ append-nil f.front in
    let spelled : AreSpelled o body = subst (λ (l : List ℕ). AreSpelled o l) (sym all) f.holds in
    let whole : options ≡ o = named.2 ∙ ap (λ (l : List ℕ). record o { cluster = l }) same in
    let P : Options → Type 0 = λ z. IsOptions z body in
    let Q : Options → Type 0 = λ z. IsTrue (are_options z) in
    subst P (sym whole) (options_are o body spelled (subst Q whole named.0) (subst (λ (l : List ℕ). IsUtf8 l) same named.1))
options_found o body cluster (Err f) fits e same named = tt

pub options_unread : (body : List ℕ) (fault : WireFault) → options_at body ≡ Err fault → (o : Options) → IsOptions o body → ⊥
options_unread body fault e o is = let clash = sym e ∙ options_whole o body is in cc

-- settings that don't fit
pub options_misfit : (body cluster : List ℕ) (p : Options) → options_at body ≡ Ok (p, []) → cluster ≡ p.cluster
    → (IsTrue (are_options (record p { cluster = cluster })) → IsUtf8 cluster → ⊥) → (o : Options) → IsOptions o body → ⊥
options_misfit body cluster p e same wrong o is =
    let q : p ≡ o = ok_value _ _ _ _ (sym e ∙ options_whole o body is) in
    let named : cluster ≡ o.cluster = same ∙ ap (λ (z : Options). z.cluster) q in
    let whole : record p { cluster = cluster } ≡ o = ap (λ (l : List ℕ). record p { cluster = l }) same ∙ q in
    let P : Options → Type 0 = λ z. IsTrue (are_options z) in
    let utf8 : IsUtf8 o.cluster = is.spelled.second.second.second.second.second.second.utf8 in
    wrong (subst P (sym whole) is.fits) (subst (λ (l : List ℕ). IsUtf8 l) (sym named) utf8)

-- ---- frames

pub open_found : (body : List ℕ) (options : Options) → IsOptions options body → IsBodyOf kinds.Open (frames.Open options) body
open_found body options is = record { named = refl; is = is }

pub open_misfit : (body : List ℕ) → ((o : Options) → IsOptions o body → ⊥) → (frame : Frame) → IsBodyOf kinds.Open frame body → ⊥
open_misfit body none (frames.Open options) of = none options of.is
open_misfit body none (frames.Event event) of = event_not_open event of.named
open_misfit body none frames.End of = let k = of.named in absurd cc

pub fault_is : {T E : Type 0} (a b : E) → a ≡ b → IsErrOf {T = T} (Err a) b
fault_is a b same = ap Err same

-- a fault of one result as that of another
pub fault_as : {T U E : Type 0} (a b : E) → IsErrOf {T = T} (Err a) b → IsErrOf {T = U} (Err a) b
fault_as a b is =
    let same : a ≡ b = cc in
    ap Err same

pub open_misfit_as : (kind : FrameKind) (body slice : List ℕ) → kind ≡ kinds.Open → slice ≡ body → ((o : Options) → IsOptions o slice → ⊥) → (frame : Frame) → IsBodyOf kind frame body → ⊥
open_misfit_as kind body slice same value none frame of =
    let P : FrameKind → Type 0 = λ k. IsBodyOf k frame body in
    open_misfit body (λ o is. none o (subst (IsOptions o) (sym value) is)) frame (subst P same of)

pub event_found : (kind : FrameKind) (body : List ℕ) (event : Event) → IsEventOf kind event body → IsBodyOf kind (frames.Event event) body
event_found kind body event of = record { named = of.named; is = of.is }

pub event_misfit : (kind : FrameKind) (body : List ℕ) → (kind ≡ kinds.Open → ⊥) → (kind ≡ kinds.End → ⊥) → ((event : Event) → IsEventOf kind event body → ⊥) → (frame : Frame) → IsBodyOf kind frame body → ⊥
event_misfit kind body no_open no_end none (frames.Open options) of = no_open (sym of.named)
event_misfit kind body no_open no_end none (frames.Event event) of = none event (record { named = of.named; is = of.is })
event_misfit kind body no_open no_end none frames.End of = no_end (sym of.named)

empty : (body : List ℕ) → length body ≤ 0 → body ≡ []
empty [] le = refl
empty (b ∷ body) le = absurd (omega (arith, le))

pub end_found : (body : List ℕ) → length body ≤ 0 → IsBodyOf kinds.End frames.End body
end_found body le = record { named = refl; is = empty body le }

pub batch_found : (body : List ℕ) → length body ≤ longest_body kinds.Batch → IsEventOf kinds.Batch (events.Batch body) body
batch_found body short = record { named = refl; is = record { short = short; all = refl } }

pub load_found : (body : List ℕ) → length body ≤ longest_body kinds.Load → IsEventOf kinds.Load (events.Load body) body
load_found body short = record { named = refl; is = record { short = short; all = refl } }
