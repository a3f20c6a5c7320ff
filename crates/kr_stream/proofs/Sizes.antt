-- The sizes of bodies, and the numbers of kinds.
use Rattle.kr_defs.specs.declared.limits.TheConstants.{LONGEST_CLUSTER, MOST_DEFAULT_PARTITIONS, MOST_TARGETS}
use Rattle.kr_defs.specs.Partition.{is_natural}
use Rattle.std.proofs.Common.{◌≡◌, ℕ, ◌+◌, ◌≤◌, List, length, length-append, refl, sym, ap, ◌∙◌, arith}
use Rattle.std.specs.Prelude.{IsTrue, pos, ◌==◌, ◌&&◌, nat_lt, nat_le, int_le, if◌then◌else◌}
use Rattle.std.proofs.lemmas.Bool.{and_parts, leb-true}
use Rattle.kr_defs.specs.OpenOptions.{are_options}
use Rattle.kr_defs.specs.declared.options.Options.{Options}
use Rattle.kr_calls.specs.declared.events.Event.{Event}
use Rattle.kr_calls.specs.declared.events.Event.TheVariants as events
use Rattle.kr_stream.specs.declared.frame.Frame.{Frame}
use Rattle.kr_stream.specs.declared.frame.Frame.TheVariants as frames
use Rattle.kr_stream.specs.declared.kind.FrameKind.{FrameKind}
use Rattle.kr_stream.specs.declared.kind.FrameKind.TheVariants as kinds
use Rattle.kr_stream.specs.Kinds.{number_of, longest_body}
use Rattle.kr_stream.specs.Frames.{IsOptions, IsBody, IsEventBody, frame_kind, kind_of_event}

-- ---- kinds

abbrev kind_with : ℕ → FrameKind
kind_with n =
    if n == 1 then kinds.Open else (if n == 2 then kinds.Lead else (if n == 3 then kinds.Commit else (if n == 4 then kinds.Lost else (if n == 5 then kinds.Batch
    else (if n == 6 then kinds.Load else (if n == 7 then kinds.Tick else (if n == 8 then kinds.Request else (if n == 9 then kinds.Image else kinds.End))))))))

back : (kind : FrameKind) → kind_with (number_of kind) ≡ kind
back kinds.Open = refl
back kinds.Lead = refl
back kinds.Commit = refl
back kinds.Lost = refl
back kinds.Batch = refl
back kinds.Load = refl
back kinds.Tick = refl
back kinds.Request = refl
back kinds.Image = refl
back kinds.End = refl

pub kind_once : (a b : FrameKind) → number_of a ≡ number_of b → a ≡ b
kind_once a b same = sym (back a) ∙ ap kind_with same ∙ back b

-- no kind has another number
pub named_within : (number : ℕ) → (number ≡ 1 → ⊥) → (number ≡ 2 → ⊥) → (number ≡ 3 → ⊥) → (number ≡ 4 → ⊥) → (number ≡ 5 → ⊥) → (number ≡ 6 → ⊥)
    → (number ≡ 7 → ⊥) → (number ≡ 8 → ⊥) → (number ≡ 9 → ⊥) → (number ≡ 10 → ⊥) → (kind : FrameKind) → number ≡ number_of kind → ⊥
named_within number a b c d e f g h i j kinds.Open same = a same
named_within number a b c d e f g h i j kinds.Lead same = b same
named_within number a b c d e f g h i j kinds.Commit same = c same
named_within number a b c d e f g h i j kinds.Lost same = d same
named_within number a b c d e f g h i j kinds.Batch same = e same
named_within number a b c d e f g h i j kinds.Load same = f same
named_within number a b c d e f g h i j kinds.Tick same = g same
named_within number a b c d e f g h i j kinds.Request same = h same
named_within number a b c d e f g h i j kinds.Image same = i same
named_within number a b c d e f g h i j kinds.End same = j same

pub event_not_open : (event : Event) → kind_of_event event ≡ kinds.Open → ⊥
event_not_open (events.Lead epoch next now) e = cc
event_not_open (events.Commit epoch end) e = cc
event_not_open (events.Lost epoch) e = cc
event_not_open (events.Batch bytes) e = cc
event_not_open (events.Load bytes) e = cc
event_not_open (events.Tick now) e = cc
event_not_open (events.Request client now ask) e = cc
event_not_open events.Image e = cc

pub event_not_end : (event : Event) → kind_of_event event ≡ kinds.End → ⊥
event_not_end (events.Lead epoch next now) e = cc
event_not_end (events.Commit epoch end) e = cc
event_not_end (events.Lost epoch) e = cc
event_not_end (events.Batch bytes) e = cc
event_not_end (events.Load bytes) e = cc
event_not_end (events.Tick now) e = cc
event_not_end (events.Request client now ask) e = cc
event_not_end events.Image e = cc

-- ---- bodies

-- the cluster id is the last part of the test
cluster_short : (o : Options) → IsTrue (are_options o) → length o.cluster ≤ LONGEST_CLUSTER
cluster_short o fits =
    let a = is_natural o.node in
    let b = nat_lt 0 o.session_ms in
    let c = int_le (pos 1) o.partitions && int_le o.partitions MOST_DEFAULT_PARTITIONS in
    let d = int_le (pos 1) o.factor && int_le o.factor (pos MOST_TARGETS) in
    let e = int_le (pos 1) o.minimum in
    let f = nat_le (length o.cluster) LONGEST_CLUSTER in
    leb-true (length o.cluster) LONGEST_CLUSTER
    (and_parts (a && b && c && d && e) f fits).1

options_short : (o : Options) (body : List ℕ) → IsOptions o body → length body ≤ 26 + LONGEST_CLUSTER
options_short o body is =
    let a = is.spelled in
    let b = a.second in
    let c = b.second in
    let d = c.second in
    let e = d.second in
    let f = e.second in
    let la = ap length a.is ∙ length-append a.left a.right in
    let lb = ap length b.is ∙ length-append b.left b.right in
    let lc = ap length c.is ∙ length-append c.left c.right in
    let ld = ap length d.is ∙ length-append d.left d.right in
    let le = ap length e.is ∙ length-append e.left e.right in
    let lf = ap length f.is ∙ length-append f.left f.right in
    let na : length a.left ≡ 4 = a.first.spelled.long in
    let nb : length b.left ≡ 8 = b.first.long in
    let nc : length c.left ≡ 4 = c.first.long in
    let nd : length d.left ≡ 4 = d.first.spelled.long in
    let ne : length e.left ≡ 2 = e.first.spelled.long in
    let nf : length f.left ≡ 4 = f.first.spelled.long in
    let text = ap length f.second.all in
    let short = cluster_short o is.fits in
    omega (arith, la, lb, lc, ld, le, lf, na, nb, nc, nd, ne, nf, text, short)

event_short : (event : Event) (body : List ℕ) → IsEventBody event body → length body ≤ longest_body (kind_of_event event)
event_short (events.Lead epoch next now) body a =
    let b = a.second in
    let la = ap length a.is ∙ length-append a.left a.right in
    let lb = ap length b.is ∙ length-append b.left b.right in
    let na : length a.left ≡ 4 = a.first.spelled.long in
    let nb : length b.left ≡ 8 = b.first.spelled.long in
    let nc : length b.right ≡ 8 = b.second.spelled.spelled.long in
    omega (arith, la, lb, na, nb, nc)
event_short (events.Commit epoch end) body a =
    let la = ap length a.is ∙ length-append a.left a.right in
    let na : length a.left ≡ 4 = a.first.spelled.long in
    let nb : length a.right ≡ 8 = a.second.spelled.long in
    omega (arith, la, na, nb)
event_short (events.Lost epoch) body is = let n : length body ≡ 4 = is.spelled.long in omega (arith, n)
event_short (events.Batch bytes) body is = is.short
event_short (events.Load bytes) body is = is.short
event_short (events.Tick now) body is = let n : length body ≡ 8 = is.spelled.spelled.long in omega (arith, n)
event_short (events.Request client now ask) body a =
    let b = a.second in
    let la = ap length a.is ∙ length-append a.left a.right in
    let lb = ap length b.is ∙ length-append b.left b.right in
    let na : length a.left ≡ 4 = a.first.long in
    let nb : length b.left ≡ 8 = b.first.spelled.spelled.long in
    let short = b.second.short in
    omega (arith, la, lb, na, nb, short)
event_short events.Image body is = let e = ap length is in omega (arith, e)

pub body_short : (frame : Frame) (body : List ℕ) → IsBody frame body → length body ≤ longest_body (frame_kind frame)
body_short (frames.Open options) body is = options_short options body is
body_short (frames.Event event) body is = event_short event body is
body_short frames.End body is = let e = ap length is in omega (arith, e)
