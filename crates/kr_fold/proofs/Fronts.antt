-- Fronts of an image's bytes: how far they are read, and where they break.
use Rattle.std.proofs.Common.{◌≡◌, ◌∙◌, ℕ, ℤ, ◌+◌, ◌<◌, ◌≤◌, ◌^◌, false, List, [], ◌∷◌, ◌++◌, length, length-append, append_assoc, Option, Some, None, Result, Ok, Err, refl, sym, ap, subst, arith, inl, inr}
use Rattle.std.specs.Prelude.{take, drop, nat_lt, nat_le}
use Rattle.std.proofs.lemmas.Bool.{cases_Bool, cases_lt, le-ltb, ltb-false}
use Rattle.std.proofs.lemmas.List.{append-nil, take-append-drop, length-take-le}
use Rattle.kr_defs.proofs.Tests.{neither}
use Rattle.kr_wire.specs.Reading.{◌>>=◌}
use Rattle.kr_wire.proofs.ReadingLaws.{bind_ok}
use Rattle.kr_batch.specs.declared.fault.BatchFault.{BatchFault}
use Rattle.kr_snapshot.specs.declared.fault.ImageFault.{ImageFault}
use Rattle.kr_snapshot.specs.declared.fault.BatchCause.TheVariants as causes
use Rattle.kr_snapshot.specs.Reading.{Progress, Taken, batch_fault_behind, nothing_found, headed, numbers_at, whole_read, waits, head_taken, extent, is_no_size, size_at, batch_taken, judged, goes_on, so_far, with_piece, ends, image_of}
use Rattle.kr_snapshot.specs.ReaderState.{IsUnfinished, StandsFor, Waits}
use Rattle.kr_snapshot.proofs.Faults.{is_fault}
use Rattle.kr_snapshot.proofs.BatchPieces.{start_is, size_front, size_bad, batch_waits, head_waits, start_waits, goes_on_append, fills, waits_on}
use Rattle.kr_snapshot.proofs.ReaderSteps.{piece_more, faults_stay, end_is}
use Rattle.kr_fold.specs.SourceBytes.{IsSized}
use Rattle.kr_fold.specs.Images.{HasBegun, BreaksAt}
use Rattle.kr_fold.proofs.Sizes.{size_same, one_size, sized_long}

-- a longer front begins with a shorter one
pub longer_front : (a b x y : List ℕ) → a ++ x ≡ b ++ y → length a ≤ length b → (m : List ℕ) × (b ≡ a ++ m)
longer_front [] b x y same le = (b, refl)
longer_front (n ∷ a) [] x y same le = absurd (omega (arith, le))
longer_front (n ∷ a) (m ∷ b) x y same le =
    let head : n ≡ m = cc in
    let tail : a ++ x ≡ b ++ y = cc in
    let shorter : length a ≤ length b = omega (arith, le) in
    let r = longer_front a b x y tail shorter in
    (r.0, ap (λ (k : ℕ). k ∷ b) (sym head) ∙ ap (λ (l : List ℕ). n ∷ l) r.1)

abbrev stage : Option (ℤ × Progress) → List ℕ → Taken
stage body held = record { body = body; held = held }

abbrev kept_bytes : Result Taken ImageFault → List ℕ
kept_bytes (Ok t) = t.held
kept_bytes (Err fault) = []

abbrev kept_body : Result Taken ImageFault → Option (ℤ × Progress)
kept_body (Ok t) = t.body
kept_body (Err fault) = None

abbrev no_body : Option (ℤ × Progress)
no_body = None

-- ---- a batch that isn't whole

-- base and size, and the others
record Parted (bytes : List ℕ) : Type 0 where
  head : List ℕ
  tail : List ℕ
  is : bytes ≡ head ++ tail
  twelve : length head ≡ 12

parted : (bytes : List ℕ) → 12 ≤ length bytes → Parted bytes
parted bytes there = record { head = take 12 bytes; tail = drop 12 bytes; is = sym (take-append-drop 12 bytes); twelve = length-take-le 12 bytes there }

head_size : (bytes : List ℕ) (p : Parted bytes) → size_at bytes ≡ size_at p.head
head_size bytes p = let t = p.twelve in ap size_at p.is ∙ size_same p.head p.tail (omega (arith, t))

-- the size that base and size tell is none, or one that a batch has
good_size : (head : List ℕ) (size : ℕ) → length head ≡ 12 → size_at head ≡ Ok size → (b : ℤ × Progress) → Waits (Some b) head (extent size) × (49 ≤ size)
good_size head size twelve told b =
    let s = start_is head twelve in
    elim (cases_Bool (is_no_size s.0)) [
      | inl bad ↦
          let clash = sym told ∙ (ap size_at (sym (append-nil head)) ∙ size_bad head [] s.0 s.1 bad) in
          absurd cc
      | inr good ↦
          let read : size_at head ≡ Ok s.0 = ap size_at (sym (append-nil head)) ∙ size_front head [] s.0 s.1 good in
          let same : s.0 ≡ size = one_size head s.0 size read told in
          let waiting : Waits (Some b) head (extent s.0) = subst (λ (l : List ℕ). Waits (Some b) l (extent s.0)) (append-nil head) (batch_waits b head [] s.0 s.1 good) in
          let tests = neither (nat_lt s.0 49) (nat_le (2 ^ 31) s.0) good in
          let least : 49 ≤ s.0 = ltb-false s.0 49 tests.0 in
          (subst (λ (n : ℕ). Waits (Some b) head (extent n)) same waiting, omega (arith, least, same))
    ]

-- behind base and size
behind_head : (b : ℤ × Progress) (head tail : List ℕ) → length head ≡ 12 → goes_on (stage (Some b) []) (head ++ tail) ≡ (judged (Some b) head >>= λ next. goes_on next tail)
behind_head b head tail twelve =
    goes_on_append (stage (Some b) []) head tail
    ∙ ap (λ (r : Result Taken ImageFault). r >>= λ next. goes_on next tail) (fills (Some b) [] head 12 (start_waits b []) (omega (arith, twelve)) (omega (arith, twelve)))

waits_there : (b : ℤ × Progress) (head : List ℕ) (size : ℕ) → length head ≡ 12 → Waits (Some b) head (extent size) → 49 ≤ size → judged (Some b) head ≡ waits (Some b) head
waits_there b head size twelve waiting least =
    subst (λ (l : List ℕ). judged (Some b) l ≡ waits (Some b) l) (append-nil head) (waiting [] (omega (arith, twelve, least)))

pub unfinished_waits : (b : ℤ × Progress) (more : List ℕ) → IsUnfinished more → goes_on (stage (Some b) []) more ≡ waits (Some b) more
unfinished_waits b more cut = elim (cases_lt (length more) 12) [
  | inl few ↦ waits_on (Some b) [] more 12 (start_waits b []) (omega (arith, few))
  | inr there ↦
      let u = cut there in
      let p = parted more there in
      let t = p.twelve in
      let told : size_at p.head ≡ Ok u.0 = sym (head_size more p) ∙ u.1 in
      let g = good_size p.head u.0 t told b in
      let long = ap (λ (l : List ℕ). length l) p.is ∙ length-append p.head p.tail in
      let short = u.2 in
      ap (goes_on (stage (Some b) [])) p.is ∙ (behind_head b p.head p.tail t
      ∙ (ap (λ (r : Result Taken ImageFault). r >>= λ next. goes_on next p.tail) (waits_there b p.head u.0 t g.0 g.1)
      ∙ (waits_on (Some b) p.head p.tail (extent u.0) g.0 (omega (arith, long, short)) ∙ ap (waits (Some b)) (sym p.is))))
]

unfinished_front : (bytes more behind : List ℕ) → IsUnfinished bytes → bytes ≡ more ++ behind → IsUnfinished more
unfinished_front bytes more behind cut parts = λ there.
    let long = ap (λ (l : List ℕ). length l) parts ∙ length-append more behind in
    let u = cut (omega (arith, there, long)) in
    let short = u.2 in
    (u.0, sym (size_same more behind there) ∙ (ap size_at (sym parts) ∙ u.1), omega (arith, short, long))

sized_unfinished : (bytes more behind : List ℕ) → IsSized bytes → bytes ≡ more ++ behind → length more < length bytes → IsUnfinished more
sized_unfinished bytes more behind s parts few = λ there.
    let w = s.whole in
    (s.size, sym (size_same more behind there) ∙ (ap size_at (sym parts) ∙ s.told), omega (arith, few, w))

few_unfinished : (more : List ℕ) → length more < 12 → IsUnfinished more
few_unfinished more few = λ there. absurd (omega (arith, few, there))

-- ---- behind the head and whole batches

-- what is read of more bytes
pub read_behind : (front more : List ℕ) (has : HasBegun front) → so_far (front ++ more) ≡ goes_on (stage (Some has.body) []) more
read_behind front more has = piece_more front more ∙ ap (λ (r : Result Taken ImageFault). with_piece r more) has.read

not_begun_waiting : (front more : List ℕ) → HasBegun front → IsUnfinished more → 0 < length more → HasBegun (front ++ more) → ⊥
not_begun_waiting front more has cut some other =
    let waiting : so_far (front ++ more) ≡ waits (Some has.body) more = read_behind front more has ∙ unfinished_waits has.body more cut in
    let none = ap (λ (l : List ℕ). length l) (ap kept_bytes (sym waiting ∙ other.read)) in
    omega (arith, none, some)

-- a fault stays
not_begun_faulty : (front more : List ℕ) (fault : ImageFault) → so_far front ≡ Err fault → HasBegun (front ++ more) → ⊥
not_begun_faulty front more fault read other =
    let clash = sym (piece_more front more ∙ ap (λ (r : Result Taken ImageFault). with_piece r more) read) ∙ other.read in
    cc

ends_amid : (b : ℤ × Progress) (held : List ℕ) → 0 < length held → (fault : ImageFault) × (ends (Some b) held ≡ Err fault)
ends_amid b [] some = absurd (omega (arith, some))
ends_amid b (x ∷ held) some = (_, refl)

-- bytes that end inside a batch
pub breaks_cut : (front rest : List ℕ) → HasBegun front → IsUnfinished rest → 0 < length rest → BreaksAt (front ++ rest) (length front)
breaks_cut front rest has cut some =
    let e = ends_amid has.body rest some in
    record {
      front = front;
      rest = rest;
      parts = refl;
      place = refl;
      begun = inr has;
      last = λ more behind parts there other. not_begun_waiting front more has (unfinished_front rest more behind cut parts) there other;
      fault = e.0;
      none = end_is (stage (Some has.body) rest) (front ++ rest) (read_behind front rest has ∙ unfinished_waits has.body rest cut) ∙ e.1;
    }

-- a size that no batch has
no_size_read : (b : ℤ × Progress) (head : List ℕ) (fault : BatchFault) → length head ≡ 12 → size_at head ≡ Err fault → judged (Some b) head ≡ Err (batch_fault_behind b.1.found (causes.Refused fault))
unfolding batch_taken
no_size_read b head fault twelve told =
    let there : nat_lt (length head) 12 ≡ false = le-ltb (length head) 12 (omega (arith, twelve)) in
    rw (there, told) refl

no_size_faulty : (front more : List ℕ) (fault : BatchFault) (has : HasBegun front) → 12 ≤ length more → size_at more ≡ Err fault → so_far (front ++ more) ≡ Err (batch_fault_behind has.body.1.found (causes.Refused fault))
no_size_faulty front more fault has there told =
    let p = parted more there in
    let of_head : size_at p.head ≡ Err fault = sym (head_size more p) ∙ told in
    read_behind front more has ∙ (ap (goes_on (stage (Some has.body) [])) p.is ∙ (behind_head has.body p.head p.tail p.twelve
    ∙ ap (λ (r : Result Taken ImageFault). r >>= λ next. goes_on next p.tail) (no_size_read has.body p.head fault p.twelve of_head)))

pub breaks_size : (front rest : List ℕ) (fault : BatchFault) → HasBegun front → 12 ≤ length rest → size_at rest ≡ Err fault → BreaksAt (front ++ rest) (length front)
breaks_size front rest fault has there told =
    let read = no_size_faulty front rest fault has there told in
    record {
      front = front;
      rest = rest;
      parts = refl;
      place = refl;
      begun = inr has;
      last = λ more behind parts some other. elim (cases_lt (length more) 12) [
        | inl few ↦ not_begun_waiting front more has (few_unfinished more few) some other
        | inr long ↦
            let clash = sym (no_size_faulty front more fault has long (sym (size_same more behind long) ∙ (ap size_at (sym parts) ∙ told))) ∙ other.read in
            cc
      ];
      fault = batch_fault_behind has.body.1.found (causes.Refused fault);
      none = ap image_of (sym (append-nil (front ++ rest))) ∙ faults_stay (front ++ rest) [] _ read;
    }

-- a whole batch at fault
pub breaks_batch : (front batch behind : List ℕ) (fault : ImageFault) → HasBegun front → IsSized batch → so_far (front ++ batch) ≡ Err fault → BreaksAt (front ++ (batch ++ behind)) (length front)
breaks_batch front batch behind fault has sized read = record {
  front = front;
  rest = batch ++ behind;
  parts = refl;
  place = refl;
  begun = inr has;
  last = λ more others parts some other. elim (cases_lt (length more) (length batch)) [
    | inl few ↦
        let m = longer_front more batch others behind (sym parts) (omega (arith, few)) in
        not_begun_waiting front more has (sized_unfinished batch more m.0 sized m.1 few) some other
    | inr long ↦
        let m = longer_front batch more behind others parts long in
        not_begun_faulty (front ++ batch) m.0 fault read (subst HasBegun (ap (λ (l : List ℕ). front ++ l) m.1 ∙ sym (append_assoc front batch m.0)) other)
  ];
  fault = fault;
  none = ap image_of (sym (append_assoc front batch behind)) ∙ faults_stay (front ++ batch) behind fault read;
}

-- batches are missing
pub breaks_end : (bytes : List ℕ) (fault : ImageFault) → HasBegun bytes → image_of bytes ≡ Err fault → BreaksAt bytes (length bytes)
breaks_end bytes fault has none = record {
  front = bytes;
  rest = [];
  parts = sym (append-nil bytes);
  place = refl;
  begun = inr has;
  last = λ more behind parts some other.
      let e : 0 ≡ length more + length behind = ap (λ (l : List ℕ). length l) parts ∙ length-append more behind in
      omega (arith, e, some);
  fault = fault;
  none = none;
}

-- ---- the head

few_read : (more : List ℕ) → length more < 16 → so_far more ≡ waits None more
few_read more few = waits_on None [] more 16 (head_waits []) (omega (arith, few))

not_begun_few : (more : List ℕ) → length more < 16 → HasBegun more → ⊥
not_begun_few more few has =
    let clash : no_body ≡ Some has.body = ap kept_body (sym (few_read more few) ∙ has.read) in
    cc

pub breaks_short : (bytes : List ℕ) → length bytes < 16 → BreaksAt bytes 0
breaks_short bytes few = record {
  front = [];
  rest = bytes;
  parts = refl;
  place = refl;
  begun = inl refl;
  last = λ more behind parts some other.
      let long = ap (λ (l : List ℕ). length l) parts ∙ length-append more behind in
      not_begun_few more (omega (arith, few, long)) other;
  fault = batch_fault_behind 0 causes.Head;
  none = end_is (stage None bytes) bytes (few_read bytes few);
}

pub breaks_head : (head rest : List ℕ) (fault : ImageFault) → length head ≡ 16 → so_far head ≡ Err fault → BreaksAt (head ++ rest) 0
breaks_head head rest fault sixteen read = record {
  front = [];
  rest = head ++ rest;
  parts = refl;
  place = refl;
  begun = inl refl;
  last = λ more behind parts some other. elim (cases_lt (length more) 16) [
    | inl few ↦ not_begun_few more few other
    | inr long ↦
        let m = longer_front head more rest behind parts (omega (arith, sixteen, long)) in
        not_begun_faulty head m.0 fault read (subst HasBegun m.1 other)
  ];
  fault = fault;
  none = faults_stay head rest fault read;
}

-- ---- what goes on

pub begun_head : (head : List ℕ) (t : Taken) → length head ≡ 16 → so_far head ≡ Ok t → HasBegun head
unfolding head_taken
begun_head head t sixteen read =
    let filled : so_far head ≡ head_taken head = fills None [] head 16 (head_waits []) (omega (arith, sixteen)) (omega (arith, sixteen)) in
    let there : nat_lt (length head) 16 ≡ false = le-ltb (length head) 16 (omega (arith, sixteen)) in
    let taken : head_taken head ≡ Ok t = sym filled ∙ read in
    let numbers : (headed (numbers_at head) >>= λ h. waits (Some (h.0.0, nothing_found h.0.1)) []) ≡ Ok t = rw there at taken in
    let b = bind_ok (headed (numbers_at head)) (λ h. waits (Some (h.0.0, nothing_found h.0.1)) []) t numbers in
    record { body = (b.0.0.0, nothing_found b.0.0.1); read = read ∙ sym b.2 }

whole_taken : (b : ℤ × Progress) (held : List ℕ) (size : ℕ) (t : Taken) → 12 ≤ length held → size_at held ≡ Ok size → length held ≡ extent size → judged (Some b) held ≡ Ok t
    → (body : ℤ × Progress) × (waits (Some body) [] ≡ Ok t)
unfolding batch_taken
whole_taken b held size t there told whole read =
    let start : nat_lt (length held) 12 ≡ false = le-ltb (length held) 12 there in
    let enough : nat_lt (length held) (extent size) ≡ false = le-ltb (length held) (extent size) (omega (arith, whole)) in
    let next : (whole_read b.1 held >>= λ next. waits (Some (b.0, next)) []) ≡ Ok t = rw (start, told, enough) at read in
    let w = bind_ok (whole_read b.1 held) (λ next. waits (Some (b.0, next)) []) t next in
    ((b.0, w.0), w.2)

batch_judged : (b : ℤ × Progress) (batch : List ℕ) → IsSized batch → goes_on (stage (Some b) []) batch ≡ judged (Some b) batch
batch_judged b batch s =
    let p = parted batch (sized_long batch s) in
    let t = p.twelve in
    let told : size_at p.head ≡ Ok s.size = sym (head_size batch p) ∙ s.told in
    let g = good_size p.head s.size t told b in
    let least = g.1 in
    let w = s.whole in
    let long = ap (λ (l : List ℕ). length l) p.is ∙ length-append p.head p.tail in
    ap (goes_on (stage (Some b) [])) p.is ∙ (behind_head b p.head p.tail t
    ∙ (ap (λ (r : Result Taken ImageFault). r >>= λ next. goes_on next p.tail) (waits_there b p.head s.size t g.0 g.1)
    ∙ (fills (Some b) p.head p.tail (extent s.size) g.0 (omega (arith, least, w, long, t)) (omega (arith, w, long)) ∙ ap (judged (Some b)) (sym p.is))))

pub begun_batch : (front batch : List ℕ) (t : Taken) → HasBegun front → IsSized batch → so_far (front ++ batch) ≡ Ok t → HasBegun (front ++ batch)
begun_batch front batch t has s read =
    let taken : judged (Some has.body) batch ≡ Ok t = sym (batch_judged has.body batch s) ∙ (sym (read_behind front batch has) ∙ read) in
    let w = whole_taken has.body batch s.size t (sized_long batch s) s.told s.whole taken in
    record { body = w.0; read = read ∙ sym w.1 }

-- ---- one place

pub without_front : (a x y : List ℕ) → a ++ x ≡ a ++ y → x ≡ y
without_front [] x y same = same
without_front (n ∷ a) x y same = let tail : a ++ x ≡ a ++ y = cc in without_front a x y tail

empty_or : (front : List ℕ) → 0 < length front → (front ≡ []) → ⊥
empty_or front some none = let e = ap (λ (l : List ℕ). length l) none in omega (arith, e, some)

shorter : (bytes : List ℕ) (a b : ℕ) (p : BreaksAt bytes a) (q : BreaksAt bytes b) → length p.front < length q.front → ⊥
shorter bytes a b p q few =
    let same : p.front ++ p.rest ≡ q.front ++ q.rest = sym p.parts ∙ q.parts in
    let m = longer_front p.front q.front p.rest q.rest same (omega (arith, few)) in
    let long = ap (λ (l : List ℕ). length l) m.1 ∙ length-append p.front m.0 in
    let behind : p.front ++ p.rest ≡ p.front ++ (m.0 ++ q.rest) = same ∙ (ap (λ (l : List ℕ). l ++ q.rest) m.1 ∙ append_assoc p.front m.0 q.rest) in
    let rest : p.rest ≡ m.0 ++ q.rest = without_front p.front p.rest (m.0 ++ q.rest) behind in
    elim q.begun [
      | inl none ↦ empty_or q.front (omega (arith, few)) none
      | inr has ↦ p.last m.0 q.rest rest (omega (arith, few, long)) (subst HasBegun m.1 has)
    ]

pub one_place : (bytes : List ℕ) (a b : ℕ) → BreaksAt bytes a → BreaksAt bytes b → a ≡ b
one_place bytes a b p q = elim (cases_lt (length p.front) (length q.front)) [
  | inl few ↦ absurd (shorter bytes a b p q few)
  | inr more ↦ elim (cases_lt (length q.front) (length p.front)) [
    | inl few ↦ absurd (shorter bytes b a q p few)
    | inr less ↦ let x = p.place in let y = q.place in omega (arith, x, y, more, less)
  ]
]

-- ---- what a reader stands for

pub stands_of : (fed : List ℕ) (reader : Result Taken ImageFault) → so_far fed ≡ reader → StandsFor reader fed
stands_of fed (Ok t) read = read
stands_of fed (Err fault) read = is_fault fault (so_far fed) read
