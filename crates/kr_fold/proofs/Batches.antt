-- A batch after the others.
use Rattle.std.proofs.Common.{◌≡◌, ◌∙◌, ℕ, ◌+◌, ◌≤◌, arith, length-append, List, [], ◌∷◌, ◌++◌, length, append_assoc, Option, Some, None, Result, Ok, refl, sym, ap, subst}
use Rattle.std.specs.Option.{option_and_then}
use Rattle.std.proofs.lemmas.List.{append-nil}
use Rattle.kr_defs.specs.declared.limits.TheConstants.{MOST_RECORDS}
use Rattle.kr_wire.specs.Grammar.{Each}
use Rattle.kr_batch.specs.declared.Batch.{Batch}
use Rattle.std.specs.Prelude.{IfOk}
use Rattle.kr_batch.specs.declared.fault.BatchFault.{BatchFault}
use Rattle.kr_batch.specs.declared.fault.BatchFault.TheVariants as faults
use Rattle.kr_batch.specs.Answers.{IsFault}
use Rattle.kr_batch.specs.Grammar.{IsBatch}
use Rattle.kr_fold.specs.inner.NextBatches.{IsBatchOrNone, none_for}
use Rattle.kr_batch.proofs.Batches.{one_value}
use Rattle.kr_fold.specs.Logs.{Folded, nothing, folded_with, folded, IsLog, NoneFollows}
use Rattle.kr_fold.proofs.Sizes.{batch_sized, sized_front}

-- no batch begins another
pub apart : (a b : Batch) (x y u v : List ℕ) → IsBatch a x → IsBatch b y → x ++ u ≡ y ++ v → (a ≡ b) × (u ≡ v)
apart a b x y u v is other same =
    let s = sized_front x y u v (batch_sized a x is) (batch_sized b y other) same in
    (one_value x a b is (subst (IsBatch b) (sym s.0) other), s.1)

abbrev batch_read : Batch → Result Batch BatchFault
batch_read batch = Ok batch

pub batch_few : (batch : Batch) (bytes : List ℕ) → IsBatch batch bytes → length batch.items ≤ MOST_RECORDS
batch_few batch bytes is = is.fixed.first.second.second.second.second.few

pub batch_some : (batch : Batch) (bytes : List ℕ) → IsBatch batch bytes → 1 ≤ length batch.items
batch_some batch bytes is = is.fixed.first.second.second.second.second.some

-- where decoding answers a fault there is no batch, but for want of memory
pub none_read : (bytes : List ℕ) (fault : BatchFault) → ((batch : Batch) → IsBatch batch bytes → IsFault fault (batch_read batch)) → IfOk (none_for fault) (λ o. IsBatchOrNone bytes o)
none_read bytes faults.NoMemory only = tt
none_read bytes faults.Short only = λ batch is. let clash = only batch is in cc
none_read bytes faults.Trailing only = λ batch is. let clash = only batch is in cc
none_read bytes (faults.Magic found) only = λ batch is. let clash = only batch is in cc
none_read bytes (faults.Crc stored counted) only = λ batch is. let clash = only batch is in cc
none_read bytes (faults.Compressed kind) only = λ batch is. let clash = only batch is in cc
none_read bytes (faults.BadCount count delta) only = λ batch is. let clash = only batch is in cc
none_read bytes (faults.BadOffset at) only = λ batch is. let clash = only batch is in cc
none_read bytes (faults.Record at cause) only = λ batch is. let clash = only batch is in cc

-- ---- a log with a batch more

then_some : (o : Option Folded) → option_and_then (λ next. folded next []) o ≡ o
then_some None = refl
then_some (Some log) = refl

folded_more : (batches : List Batch) (batch : Batch) (log : Folded) → folded log (batches ++ batch ∷ []) ≡ option_and_then (λ next. folded_with next batch) (folded log batches)
folded_more [] batch log = then_some (folded_with log batch)
folded_more (first ∷ batches) batch log =
    elim (folded_with log first) as (λ o. option_and_then (λ next. folded next (batches ++ batch ∷ [])) o ≡ option_and_then (λ next. folded_with next batch) (option_and_then (λ next. folded next batches) o)) [
      | None ↦ refl
      | Some next ↦ folded_more batches batch next
    ]

each_more : (batches : List Batch) (batch : Batch) (front bytes : List ℕ) → Each IsBatch batches front → IsBatch batch bytes → Each IsBatch (batches ++ batch ∷ []) (front ++ bytes)
each_more [] batch front bytes first is =
    record { left = bytes; right = []; is = ap (λ (l : List ℕ). l ++ bytes) first ∙ sym (append-nil bytes); first = is; second = refl }
each_more (other ∷ batches) batch front bytes first is = record {
  left = first.left;
  right = first.right ++ bytes;
  is = ap (λ (l : List ℕ). l ++ bytes) first.is ∙ append_assoc first.left first.right bytes;
  first = first.first;
  second = each_more batches batch first.right bytes first.second is;
}

pub log_more : (log next : Folded) (front bytes : List ℕ) (batch : Batch) → IsLog log front → IsBatch batch bytes → folded_with log batch ≡ Some next → IsLog next (front ++ bytes)
log_more log next front bytes batch is spelled follows = record {
  batches = is.batches ++ batch ∷ [];
  made = folded_more is.batches batch nothing ∙ (ap (λ o. option_and_then (λ n. folded_with n batch) o) is.made ∙ follows);
  spelled = each_more is.batches batch front bytes is.spelled spelled;
}

pub log_of_none : IsLog nothing []
log_of_none = record { batches = []; made = refl; spelled = refl }

-- ---- two readings of one stream

some_value : (a b : Folded) → Some a ≡ Some b → a ≡ b
some_value a b same = cc

-- what the second of two steps begins with
middle : (o : Option Folded) (batches : List Batch) (log : Folded) → option_and_then (λ next. folded next batches) o ≡ Some log → (next : Folded) × (o ≡ Some next) × (folded next batches ≡ Some log)
middle None batches log made = absurd cc
middle (Some next) batches log made = (next, refl, made)

-- no front of the bytes is a batch that may follow
abbrev NoBatch : Folded → List ℕ → Type 0
NoBatch log bytes = (front behind : List ℕ) (batch : Batch) (next : Folded) → bytes ≡ front ++ behind → IsBatch batch front → folded_with log batch ≡ Some next → ⊥

-- the batches that the one reading has beyond the other, with their bytes
record Beyond (f g : Folded) (x y : List ℕ) : Type 0 where
  more : List Batch
  tail : List ℕ
  made : folded f more ≡ Some g
  spelled : Each IsBatch more tail
  rest : x ≡ tail ++ y

behind_first : (a : List ℕ) (b c x y : List ℕ) → a ≡ b ++ c → a ++ x ≡ y → b ++ (c ++ x) ≡ y
behind_first a b c x y parts same = sym (append_assoc b c x) ∙ (ap (λ (l : List ℕ). l ++ x) (sym parts) ∙ same)

agree : (log f g : Folded) (es ds : List Batch) (a b x y : List ℕ) → Each IsBatch es a → Each IsBatch ds b → folded log es ≡ Some f → folded log ds ≡ Some g
    → a ++ x ≡ b ++ y → NoBatch g y → Beyond f g x y
agree log f g [] ds a b x y first second made other same none = record {
  more = ds;
  tail = b;
  made = subst (λ (l : Folded). folded l ds ≡ Some g) (some_value log f made) other;
  spelled = second;
  rest = sym (ap (λ (l : List ℕ). l ++ x) first) ∙ same;
}
agree log f g (e ∷ es) [] a b x y first second made other same none =
    let m = middle (folded_with log e) es f made in
    let whole : b ++ y ≡ y = ap (λ (l : List ℕ). l ++ y) second in
    let stands : folded_with g e ≡ Some m.0 = subst (λ (l : Folded). folded_with l e ≡ Some m.0) (some_value log g other) m.1 in
    absurd (none first.left (first.right ++ x) e m.0 (sym (behind_first a first.left first.right x y first.is (same ∙ whole))) first.first stands)
agree log f g (e ∷ es) (d ∷ ds) a b x y first second made other same none =
    let m = middle (folded_with log e) es f made in
    let n = middle (folded_with log d) ds g other in
    let front : first.left ++ (first.right ++ x) ≡ second.left ++ (second.right ++ y) =
    behind_first a first.left first.right x _ first.is (same ∙ (ap (λ (l : List ℕ). l ++ y) second.is ∙ append_assoc second.left second.right y)) in
    let p = apart e d first.left second.left (first.right ++ x) (second.right ++ y) first.first second.first front in
    let one : m.0 ≡ n.0 = some_value m.0 n.0 (sym m.1 ∙ (ap (λ (c : Batch). folded_with log c) p.0 ∙ n.1)) in
    agree m.0 f g es ds first.right second.right x y first.second second.second m.2 (subst (λ (l : Folded). folded l ds ≡ Some g) (sym one) n.2) p.1 none

-- nothing more was read where no batch follows
nothing_beyond : (f g : Folded) (more : List Batch) (tail x y : List ℕ) → folded f more ≡ Some g → Each IsBatch more tail → x ≡ tail ++ y → NoBatch f x → x ≡ y
nothing_beyond f g [] tail x y made spelled same none = same ∙ ap (λ (l : List ℕ). l ++ y) spelled
nothing_beyond f g (e ∷ more) tail x y made spelled same none =
    let m = middle (folded_with f e) more g made in
    absurd (none spelled.left (spelled.right ++ y) e m.0 (sym (behind_first tail spelled.left spelled.right y x spelled.is (sym same))) spelled.first m.1)

-- the place at which no batch follows is one
pub one_break : (f g : Folded) (front behind front' behind' : List ℕ) → IsLog f front → NoneFollows f behind → IsLog g front' → NoneFollows g behind'
    → front ++ behind ≡ front' ++ behind' → length front ≡ length front'
one_break f g front behind front' behind' read none read' none' same =
    let b = agree nothing f g read.batches read'.batches front front' behind behind' read.spelled read'.spelled read.made read'.made same none'.none in
    let rests : behind ≡ behind' = nothing_beyond f g b.more b.tail behind behind' b.made b.spelled b.rest none.none in
    let e : length front + length behind ≡ length front' + length behind' = sym (length-append front behind) ∙ (ap (λ (l : List ℕ). length l) same ∙ length-append front' behind') in
    omega (arith, e, ap (λ (l : List ℕ). length l) rests)

-- a stream that is a log to its end has no place at which none follows
pub whole_not_broken : (f g : Folded) (stream front behind : List ℕ) → IsLog f stream → stream ≡ front ++ behind → IsLog g front → NoneFollows g behind → ⊥
whole_not_broken f g stream front behind whole same read none =
    let b = agree nothing f g whole.batches read.batches stream front [] behind whole.spelled read.spelled whole.made read.made (append-nil stream ∙ same) none.none in
    let e : 0 ≡ length b.tail + length behind = ap (λ (l : List ℕ). length l) b.rest ∙ length-append b.tail behind in
    let s = none.some in
    omega (arith, e, s)
