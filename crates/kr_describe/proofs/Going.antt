-- Calls of a reader for one page, one after the other.
use Rattle.std.proofs.Common.{◌≡◌, ◌∙◌, inl, inr, ℕ, ℤ, ◌<◌, ◌^◌, ◌-◌, List, [], ◌∷◌, ◌++◌, fold, refl, sym, ap, subst, append_assoc, append-nil, arith, true, false, cond, ◌≤◌, Result, Ok, Err}
use Rattle.std.specs.Prelude.{IsTrue, IsErrAnd, IfErr}
use Rattle.std.specs.List.{AllByRecursion}
use Rattle.std.proofs.lemmas.List.Sums.{fold-append}
use Rattle.kr_base.specs.Causes.{Rose, raised}
use Rattle.kr_calls.specs.declared.events.Entry.{Entry}
use Rattle.kr_calls.specs.SeatList.{image_below, is_kept_in, is_load, loads_of, loads_with, pinned_log}
use Rattle.kr_calls.specs.SeatListLaws.{KeptImagesStay}
use Rattle.kr_defs.specs.Image.{IsValid}
use Rattle.kr_view.specs.CopiesRule.{GoesOn}
use Rattle.kr_view.specs.Readers.{IsScanCause, Reading}
use Rattle.kr_view.specs.Scans.{IsNotThere}
use Rattle.kr_view.specs.Seats.{Onward}
use Rattle.kr_view.specs.declared.rule.ThreadView.{ThreadView}
use Rattle.kr_view.specs.declared.scans.ScanFault.{ScanFault}
use Rattle.kr_view.specs.declared.scans.ScanFault.TheVariants as scans
use Rattle.kr_describe.specs.declared.steady.PageFault.{PageFault}
use Rattle.kr_describe.specs.declared.steady.PageFault.TheVariants as faults
use Rattle.kr_describe.specs.declared.steady.Steady.{Steady}
use Rattle.kr_describe.specs.SteadyReads.{Calls, GoesSteadily, IsOtherCount, IsPageCause, IsSteady, IsUnsteady, StaysKept, steady_image, none, one_more}

-- ---- lists that go on

pub list_on : (x y z : List Entry) → GoesOn y x → GoesOn z y → GoesOn z x
list_on x y z g h = (g.0 ++ h.0, h.1 ∙ (ap (λ l. l ++ h.0) g.1 ∙ append_assoc x g.0 h.0))

onward_refl : (v : ThreadView) → Onward v v
onward_refl v = record { list = ([], sym (append-nil v.list)); options = λ s. (s, refl) }

pub onward_trans : (u v w : ThreadView) → Onward u v → Onward v w → Onward u w
onward_trans u v w p q = record {
  list = list_on u.list v.list w.list p.list q.list;
  options = λ s. let a = p.options s in let b = q.options a.0 in (b.0, b.1 ∙ a.1);
}

-- ---- where the number of images in place of all stays, none came

abbrev most : ℕ
most = 2 ^ 64 - 1

raised_most : (n : ℕ) → raised n ≤ most
raised_most n = omega arith

one_later : (n : ℕ) (e : Entry) → n ≤ most → n ≤ loads_with n e
one_later n e few = elim (is_load e) as (λ b. n ≤ cond b (raised n) n) [ true ↦ omega (arith, few) | false ↦ omega arith ]

one_most : (n : ℕ) (e : Entry) → n ≤ most → loads_with n e ≤ most
one_most n e few = elim (is_load e) as (λ b. cond b (raised n) n ≤ most) [ true ↦ omega arith | false ↦ few ]

loads_rise : (n : ℕ) (es : List Entry) → n ≤ most → n ≤ fold loads_with n es
loads_rise n [] few = omega arith
loads_rise n (e ∷ es) few =
    let first = one_later n e few in
    let rest = loads_rise (loads_with n e) es (one_most n e few) in
    omega (arith, first, rest)

no_loads : (n : ℕ) (es : List Entry) → fold loads_with n es ≡ n → n < most → AllByRecursion (λ e. is_load e ≡ false) es
no_loads n [] same few = tt
no_loads n (e ∷ es) same few =
    elim (is_load e) as (λ b. is_load e ≡ b → fold loads_with (cond b (raised n) n) es ≡ n → AllByRecursion (λ e. is_load e ≡ false) (e ∷ es)) [
      | true ↦ λ is raises. let up = loads_rise (raised n) es (raised_most n) in absurd (omega (arith, up, raises, few))
      | false ↦ λ is stays. (is, no_loads n es stays few)
    ] refl same

still_kept : KeptImagesStay → (place : ℤ) (first later : List Entry) → IsTrue (is_kept_in first place) → GoesOn later first → IsTrue (is_kept_in later place) → loads_of later ≡ loads_of first → loads_of later < most → StaysKept place first later
still_kept stay place first later before on kept same few =
    let folded : fold loads_with (loads_of first) on.0 ≡ loads_of first = sym (fold-append loads_with 0 first on.0) ∙ ap loads_of (sym on.1) ∙ same in
    let fewer : loads_of first < most = omega (arith, few, same) in
    record {
      kept = kept;
      image = ap (image_below place) on.1 ∙ stay first on.0 place before (no_loads (loads_of first) on.0 folded fewer);
      loads = same;
      few = few;
    }

-- ---- what is true of the fault that an answer has

pub fault_is : {T E : Type 0} (P : E → Type 0) (result : Result T E) (fault : E) → IsErrAnd result (λ (e : E). e ≡ fault) → P fault → IfErr result P
fault_is P (Ok done) fault told holds = tt
fault_is P (Err e) fault told holds = subst P (sym told) holds

-- ---- how often there was no copy

pub cause_of : (a b : Reading) (fault : ScanFault) → IsScanCause a b fault → IsPageCause a b (faults.Scan fault)
cause_of a b (scans.Gone asked oldest) cause = cause
cause_of a b (scans.NotKept asked) cause = cause
cause_of a b scans.NoCopy cause = cause.1
cause_of a b scans.NoMemory cause = cause

rose_from : (n m k : ℕ) → m ≡ n → Rose m k → Rose n k
rose_from n m k same rose = subst (λ (i : ℕ). Rose i k) same rose

cause_behind : (a b c : Reading) (fault : PageFault) → b.misses ≡ a.misses → IsPageCause b c fault → IsPageCause a c fault
cause_behind a b c (faults.Scan (scans.Gone asked oldest)) same cause = cause ∙ same
cause_behind a b c (faults.Scan (scans.NotKept asked)) same cause = cause ∙ same
cause_behind a b c (faults.Scan scans.NoCopy) same cause = rose_from a.misses b.misses c.misses same cause
cause_behind a b c (faults.Scan scans.NoMemory) same cause = cause ∙ same
cause_behind a b c (faults.Loaded before later) same cause = cause ∙ same
cause_behind a b c faults.NoMemory same cause = cause ∙ same

-- ---- calls

module _ {A : Type 0} (reading : A → Reading) (with_reading : A → Reading → A) where
  pub calls_on : (a b c : A) → Calls reading with_reading a b → Calls reading with_reading b c → Calls reading with_reading a c
  calls_on a b _ first (none _) = first
  calls_on a b c first (one_more _ mid _ then last) = one_more a mid c (calls_on a b mid first then) last

  pub one_call : (a b : A) → b ≡ with_reading a (reading b) → Calls reading with_reading a b
  one_call a b same = one_more a a b (none a) same

  module _ (s : Steady) where
    abbrev list : A → List Entry
    list a = (reading a).seen.list

    kept_itself : (a : A) → IsSteady s (reading a) → StaysKept s.place (list a) (list a)
    kept_itself a steady = record {
      kept = steady.kept;
      image = refl;
      loads = refl;
      few = let is = steady.loads in let few = steady.few in omega (arith, is, few);
    }

    -- nothing was called
    pub stays : {T : Type 0} (a : A) (x : T) → IsSteady s (reading a) → GoesSteadily reading with_reading s a a (Ok x)
    stays a x steady = record { calls = none a; onward = onward_refl (reading a).seen; cause = refl; ends = kept_itself a steady }

    pub no_memory : {T : Type 0} (a : A) (result : Result T PageFault) → IsSteady s (reading a) → IsErrAnd result (λ e. e ≡ faults.NoMemory) → GoesSteadily reading with_reading s a a result
    no_memory a (Ok x) steady told = absurd told
    no_memory a (Err e) steady told = record { calls = none a; onward = onward_refl (reading a).seen; cause = subst (IsPageCause (reading a) (reading a)) (sym told) refl; ends = subst (IsUnsteady s.place (list a) (list a)) (sym told) (kept_itself a steady) }

    -- what follows a call is as steady
    pub steady_on : {T : Type 0} (a b : A) (x : T) → IsSteady s (reading a) → GoesSteadily reading with_reading s a b (Ok x) → IsSteady s (reading b)
    steady_on a b x steady g = record {
      fits = steady.fits;
      kept = g.ends.kept;
      loads = steady.loads ∙ sym g.ends.loads;
      few = steady.few;
      valid = subst IsValid (sym g.ends.image) steady.valid;
    }

    kept_on : (a b c : A) → StaysKept s.place (list a) (list b) → StaysKept s.place (list b) (list c) → StaysKept s.place (list a) (list c)
    kept_on a b c first then = record { kept = then.kept; image = then.image ∙ first.image; loads = then.loads ∙ first.loads; few = then.few }

    other_on : (n m k : ℕ) → m ≡ n → IsOtherCount m k → IsOtherCount n k
    other_on n m k same (inl differs) = inl (λ is. differs (is ∙ sym same))
    other_on n m k same (inr full) = inr full

    ends_on : (a b c : A) (fault : PageFault) → StaysKept s.place (list a) (list b) → IsUnsteady s.place (list b) (list c) fault → IsUnsteady s.place (list a) (list c) fault
    ends_on a b c (faults.Scan fault) first ends = ends
    ends_on a b c (faults.Loaded before later) first ends = (ends.0, ends.1 ∙ first.loads, ends.2, other_on (loads_of (list a)) (loads_of (list b)) (loads_of (list c)) first.loads ends.3)
    ends_on a b c faults.NoMemory first ends = kept_on a b c first ends

    -- one after the other
    pub goes_on : {T U : Type 0} (a b c : A) (x : T) (result : Result U PageFault) → GoesSteadily reading with_reading s a b (Ok x) → GoesSteadily reading with_reading s b c result → GoesSteadily reading with_reading s a c result
    goes_on a b c x (Ok y) first then = record {
      calls = calls_on a b c first.calls then.calls;
      onward = onward_trans (reading a).seen (reading b).seen (reading c).seen first.onward then.onward;
      cause = then.cause ∙ first.cause;
      ends = kept_on a b c first.ends then.ends;
    }
    goes_on a b c x (Err fault) first then = record {
      calls = calls_on a b c first.calls then.calls;
      onward = onward_trans (reading a).seen (reading b).seen (reading c).seen first.onward then.onward;
      cause = cause_behind (reading a) (reading b) (reading c) fault first.cause then.cause;
      ends = ends_on a b c fault first.ends then.ends;
    }

    -- another answer of the same calls
    pub goes_as : {T U : Type 0} (a b : A) (x : T) (y : U) → GoesSteadily reading with_reading s a b (Ok x) → GoesSteadily reading with_reading s a b (Ok y)
    goes_as a b x y g = record { calls = g.calls; onward = g.onward; cause = g.cause; ends = g.ends }

    -- the fault is handed on
    pub fails : {T U : Type 0} (a b : A) (fault : PageFault) (result : Result U PageFault) → GoesSteadily {T = T} reading with_reading s a b (Err fault) → IsErrAnd result (λ e. e ≡ fault) → GoesSteadily reading with_reading s a b result
    fails a b fault (Ok x) g told = absurd told
    fails a b fault (Err e) g told = record { calls = g.calls; onward = g.onward; cause = subst (IsPageCause (reading a) (reading b)) (sym told) g.cause; ends = subst (IsUnsteady s.place (list a) (list b)) (sym told) g.ends }

    -- no memory behind calls
    pub then_no_memory : {T U : Type 0} (a b : A) (x : T) (result : Result U PageFault) → IsSteady s (reading a) → GoesSteadily reading with_reading s a b (Ok x) → IsErrAnd result (λ e. e ≡ faults.NoMemory) → GoesSteadily reading with_reading s a b result
    then_no_memory a b x result steady g told = goes_on a b b x result g (no_memory b result (steady_on a b x steady g) told)

    -- ---- one call

    module _ (stay : KeptImagesStay) (a b : A) (steady : IsSteady s (reading a)) (same : b ≡ with_reading a (reading b)) (onward : Onward (reading a).seen (reading b).seen) where
      abbrev later : ℕ
      later = loads_of (list b)

      -- that gave an answer
      pub call_done : {T : Type 0} (x : T) → (reading b).misses ≡ (reading a).misses → IsTrue (is_kept_in (list b) s.place) → (later ≡ s.loads) × (later < 2 ^ 64 - 1) → GoesSteadily reading with_reading s a b (Ok x)
      call_done x cause kept few = record {
        calls = one_call a b same;
        onward = onward;
        cause = cause;
        ends = still_kept stay s.place (list a) (list b) steady.kept onward.list kept (few.0 ∙ steady.loads) few.1;
      }

      -- and it is of the same image
      pub call_image : IsTrue (is_kept_in (list b) s.place) → (later ≡ s.loads) × (later < 2 ^ 64 - 1) → steady_image s (reading b) ≡ steady_image s (reading a)
      call_image kept few = (still_kept stay s.place (list a) (list b) steady.kept onward.list kept (few.0 ∙ steady.loads) few.1).image

      -- that gave none
      pub call_fails : {T : Type 0} (fault : ScanFault) (result : Result T PageFault) → IsScanCause (reading a) (reading b) fault → IsNotThere (pinned_log (list b)) s.place fault → IsErrAnd result (λ e. e ≡ faults.Scan fault) → GoesSteadily reading with_reading s a b result
      call_fails fault (Ok x) cause there told = absurd told
      call_fails fault (Err e) cause there told = record { calls = one_call a b same; onward = onward; cause = subst (IsPageCause (reading a) (reading b)) (sym told) (cause_of (reading a) (reading b) fault cause); ends = subst (IsUnsteady s.place (list a) (list b)) (sym told) there }

      -- that gave one of another image, maybe
      pub call_loaded : {T : Type 0} (fault : PageFault) (result : Result T PageFault) → (reading b).misses ≡ (reading a).misses → IsTrue (is_kept_in (list b) s.place) → (fault ≡ faults.Loaded s.loads later) × IsOtherCount s.loads later → IsErrAnd result (λ e. e ≡ fault) → GoesSteadily reading with_reading s a b result
      call_loaded fault (Ok x) cause kept is told = absurd told
      call_loaded fault (Err e) cause kept is told = record {
        calls = one_call a b same;
        onward = onward;
        cause = subst (IsPageCause (reading a) (reading b)) (sym (told ∙ is.0)) cause;
        ends = subst (IsUnsteady s.place (list a) (list b)) (sym (told ∙ is.0)) (kept, steady.loads, refl, other_on (loads_of (list a)) s.loads later steady.loads is.1);
      }

pub ruleset goings = (no_memory, then_no_memory, fails, goes_as)
