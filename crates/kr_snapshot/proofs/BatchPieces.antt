-- Bytes that come in pieces are read as all of them batch by batch.
use Rattle.std.proofs.Common.{◌≡◌, ◌∙◌, ℕ, ℤ, pos, zero, suc, ◌+◌, ◌<◌, ◌≤◌, ◌^◌, Bool, true, false, List, [], ◌∷◌, ◌++◌, length, length-append, append_assoc, Option, Some, None, Result, Ok, Err, refl, sym, ap, subst, arith, inl, inr}
use Rattle.std.specs.Prelude.{take, drop, nat_lt, nat_le, int_lt, unsigned_abs, ◌||◌}
use Rattle.std.specs.Int.{w32, w64, from_be_bytes, cast_signed}
use Rattle.std.proofs.lemmas.Bool.{cases_Bool, cases_lt, lt-ltb, le-ltb, ltb-true, ltb-false}
use Rattle.std.proofs.lemmas.List.{append-nil, take_at, drop_at, take-append-drop, length-take-le, length-drop}
use Rattle.kr_defs.proofs.Tests.{neither}
use Rattle.kr_defs.specs.Image.{Image}
use Rattle.kr_wire.specs.declared.WireFault.{WireFault}
use Rattle.kr_wire.specs.declared.WireFault.TheVariants as wire
use Rattle.kr_wire.specs.Reading.{◌>>=◌, refuse◌when◌else◌, signed_at}
use Rattle.kr_wire.specs.Grammar.{IsSigned}
use Rattle.kr_wire.proofs.Numbers.{signed_law}
use Rattle.kr_batch.specs.declared.fault.BatchFault.{BatchFault}
use Rattle.kr_batch.specs.declared.fault.BatchFault.TheVariants as refusals
use Rattle.kr_batch.specs.Reading.{start_at, is_short}
use Rattle.kr_batch.proofs.Heads.{start_law}
use Rattle.kr_snapshot.specs.declared.fault.ImageFault.{ImageFault}
use Rattle.kr_snapshot.specs.declared.fault.BatchCause.TheVariants as causes
use Rattle.kr_snapshot.specs.ReaderState.{Waits}
use Rattle.kr_snapshot.specs.Reading.{batch_fault_behind, Progress, nothing_found, headed, numbers_at, batch_refused, whole_read, image_at_end, Taken, waits, head_taken, extent, is_no_size, size_at, batch_taken, judged, goes_on, so_far, ends, image_of}

-- ---- all bytes at once

-- the bytes of the batch at the front, as its size says, and those behind
unfoldable pub front_at : List ℕ → Result (List ℕ × List ℕ) BatchFault
front_at bytes = do
  start ← start_at bytes
  refuse refusals.Short when is_short start.0.1 (length start.1) else Ok (take (extent start.0.1) bytes, drop (extent start.0.1) bytes)

-- at most so many batches; each has bytes
abbrev pub batches_read : ℕ → Progress → List ℕ → Result Image ImageFault
batches_read most p [] = image_at_end p
batches_read zero p (byte ∷ bytes) = image_at_end p
batches_read (suc most) p (byte ∷ bytes) = do
  front ← batch_refused p.found (front_at (byte ∷ bytes))
  next ← whole_read p front.0
  batches_read most next front.1

-- the head, and then all batches
unfoldable pub whole_image : List ℕ → Result (ℤ × Image) ImageFault
whole_image bytes = do
  head ← headed (numbers_at bytes)
  image ← batches_read (length head.1) (nothing_found head.0.1) head.1
  Ok (head.0.0, image)

-- ---- pieces

abbrev stage : Option (ℤ × Progress) → List ℕ → Taken
stage body held = record { body = body; held = held }

then_ok : (r : Result Taken ImageFault) → (r >>= λ t. goes_on t []) ≡ r
then_ok (Ok t) = refl
then_ok (Err f) = refl

-- what came first, and then what came next
pub goes_on_append : (t : Taken) (xs ys : List ℕ) → goes_on t (xs ++ ys) ≡ (goes_on t xs >>= λ next. goes_on next ys)
goes_on_append t [] ys = refl
goes_on_append t (x ∷ xs) ys =
    elim (judged t.body (t.held ++ x ∷ [])) as (λ (r : Result Taken ImageFault). (r >>= λ next. goes_on next (xs ++ ys)) ≡ ((r >>= λ next. goes_on next xs) >>= λ next. goes_on next ys)) [
      | Ok next ↦ goes_on_append next xs ys
      | Err fault ↦ refl
    ]

-- bytes up to there are judged as all that came
pub fills : (body : Option (ℤ × Progress)) (held front : List ℕ) (most : ℕ) → Waits body held most → 1 ≤ length front → length held + length front ≤ most
    → goes_on (record { body = body; held = held }) front ≡ judged body (held ++ front)
fills body held [] most waiting some room = absurd (omega (arith, some))
fills body held (b ∷ []) most waiting some room = then_ok (judged body (held ++ b ∷ []))
fills body held (b ∷ c ∷ front) most waiting some room =
    let long = length-append held (b ∷ []) in
    let one : judged body (held ++ b ∷ []) ≡ waits body (held ++ b ∷ []) = waiting (b ∷ []) (omega (arith, room)) in
    let later : Waits body (held ++ b ∷ []) most = λ more few.
    subst (λ (l : List ℕ). judged body l ≡ waits body l) (sym (append_assoc held (b ∷ []) more)) (waiting (b ∷ more) (omega (arith, few, long))) in
    ap (λ (r : Result Taken ImageFault). r >>= λ next. goes_on next (c ∷ front)) one
    ∙ (fills body (held ++ b ∷ []) (c ∷ front) most later (omega arith) (omega (arith, room, long))
    ∙ ap (judged body) (append_assoc held (b ∷ []) (c ∷ front)))

-- and with fewer there is nothing to judge
pub waits_on : (body : Option (ℤ × Progress)) (held front : List ℕ) (most : ℕ) → Waits body held most → length held + length front < most
    → goes_on (record { body = body; held = held }) front ≡ waits body (held ++ front)
waits_on body held [] most waiting room = ap (waits body) (sym (append-nil held))
waits_on body held (b ∷ front) most waiting room =
    fills body held (b ∷ front) most waiting (omega arith) (omega (arith, room)) ∙ waiting (b ∷ front) room

-- ---- how long nothing is judged

pub head_waits : (held : List ℕ) → Waits None held 16
unfolding head_taken
head_waits held more few = let long = length-append held more in rw (lt-ltb (length (held ++ more)) 16 (omega (arith, long, few))) refl

pub start_waits : (b : ℤ × Progress) (held : List ℕ) → Waits (Some b) held 12
unfolding batch_taken
start_waits b held more few = let long = length-append held more in rw (lt-ltb (length (held ++ more)) 12 (omega (arith, long, few))) refl

-- base and size
pub record StartsWith (bytes : List ℕ) (size : ℕ) : Type 0 where
  pub base : List ℕ
  pub number : List ℕ
  pub is : bytes ≡ base ++ number
  pub base_long : length base ≡ 8
  pub number_long : length number ≡ 4
  pub size_is : size ≡ from_be_bytes w32 number

pub start_front : (head more : List ℕ) (size : ℕ) (s : StartsWith head size) → start_at (head ++ more) ≡ Ok ((cast_signed w64 (from_be_bytes w64 s.base), size), more)
start_front head more size s =
    start_law.complete (cast_signed w64 (from_be_bytes w64 s.base), size) head more (record {
      left = s.base;
      right = s.number;
      is = s.is;
      first = record { bits = from_be_bytes w64 s.base; signed = refl; spelled = record { long = s.base_long; spelled = refl } };
      second = record { long = s.number_long; spelled = s.size_is };
    })

pub start_is : (head : List ℕ) → length head ≡ 12 → (size : ℕ) × StartsWith head size
start_is head long =
    let first : length (take 8 head) ≡ 8 = length-take-le 8 head (omega (arith, long)) in
    let second : length (drop 8 head) ≡ 4 = (let d = length-drop 8 head in omega (arith, d, long)) in (
      from_be_bytes w32 (drop 8 head),
      record {
        base = take 8 head;
        number = drop 8 head;
        is = sym (take-append-drop 8 head);
        base_long = first;
        number_long = second;
        size_is = refl;
      },
    )

start_twelve : (head : List ℕ) (size : ℕ) → StartsWith head size → length head ≡ 12
start_twelve head size s =
    let a = ap (λ (l : List ℕ). length l) s.is in
    let b = length-append s.base s.number in
    let c = s.base_long in
    let d = s.number_long in
    omega (arith, a, b, c, d)

pub size_front : (head more : List ℕ) (size : ℕ) → StartsWith head size → is_no_size size ≡ false → size_at (head ++ more) ≡ Ok size
unfolding size_at
size_front head more size s good = rw (start_front head more size s, good) refl

pub size_bad : (head more : List ℕ) (size : ℕ) → StartsWith head size → is_no_size size ≡ true → size_at (head ++ more) ≡ Err refusals.Short
unfolding size_at
size_bad head more size s bad = rw (start_front head more size s, bad) refl

least : (size : ℕ) → is_no_size size ≡ false → 49 ≤ size
least size good = let a = neither (nat_lt size 49) (nat_le (2 ^ 31) size) good in ltb-false size 49 a.0

-- with base and size a batch waits for all its bytes
pub batch_waits : (b : ℤ × Progress) (head more : List ℕ) (size : ℕ) → StartsWith head size → is_no_size size ≡ false → Waits (Some b) (head ++ more) (extent size)
unfolding batch_taken
batch_waits b head more size s good others few =
    let held : List ℕ = (head ++ more) ++ others in
    let twelve = start_twelve head size s in
    let one = length-append head more in
    let two = length-append (head ++ more) others in
    let enough : nat_lt (length held) 12 ≡ false = le-ltb (length held) 12 (omega (arith, twelve, one, two)) in
    let short : nat_lt (length held) (extent size) ≡ true = lt-ltb (length held) (extent size) (omega (arith, two, few)) in
    let size_is : size_at held ≡ Ok size = ap size_at (append_assoc head more others) ∙ size_front head (more ++ others) size s good in
    rw (enough, size_is, short) refl

-- ---- one batch

abbrev cut : ℕ → Result Taken ImageFault
cut found = Err (batch_fault_behind found (causes.Refused refusals.Short))

abbrev cut_image : ℕ → Result Image ImageFault
cut_image found = Err (batch_fault_behind found (causes.Refused refusals.Short))

-- the end comes inside a batch
ends_inside : (b : ℤ × Progress) (held : List ℕ) → 1 ≤ length held → ends (Some b) held ≡ Err (batch_fault_behind b.1.found (causes.Refused refusals.Short))
ends_inside b [] some = absurd (omega (arith, some))
ends_inside b (x ∷ held) some = refl

batch_bad : (b : ℤ × Progress) (head : List ℕ) (size : ℕ) → StartsWith head size → is_no_size size ≡ true → batch_taken b head ≡ cut b.1.found
unfolding batch_taken
batch_bad b head size s bad =
    let twelve = start_twelve head size s in
    let enough : nat_lt (length head) 12 ≡ false = le-ltb (length head) 12 (omega (arith, twelve)) in
    let size_is : size_at head ≡ Err refusals.Short = ap size_at (sym (append-nil head)) ∙ size_bad head [] size s bad in
    rw (enough, size_is) refl

batch_whole : (b : ℤ × Progress) (head tail : List ℕ) (size : ℕ) → StartsWith head size → is_no_size size ≡ false → length tail ≡ size
    → batch_taken b (head ++ tail) ≡ (whole_read b.1 (head ++ tail) >>= λ next. waits (Some (b.0, next)) [])
unfolding batch_taken
batch_whole b head tail size s good long =
    let twelve = start_twelve head size s in
    let all = length-append head tail in
    let enough : nat_lt (length (head ++ tail)) 12 ≡ false = le-ltb (length (head ++ tail)) 12 (omega (arith, twelve, all)) in
    let whole : nat_lt (length (head ++ tail)) (extent size) ≡ false = le-ltb (length (head ++ tail)) (extent size) (omega (arith, twelve, all, long)) in
    rw (enough, size_front head tail size s good, whole) refl

front_bad : (head rest : List ℕ) (size : ℕ) → StartsWith head size → is_no_size size ≡ true → front_at (head ++ rest) ≡ Err refusals.Short
unfolding front_at
front_bad head rest size s bad = rw (start_front head rest size s, bad) refl

front_cut : (head rest : List ℕ) (size : ℕ) → StartsWith head size → is_no_size size ≡ false → nat_lt (length rest) size ≡ true → front_at (head ++ rest) ≡ Err refusals.Short
unfolding front_at
front_cut head rest size s good short = rw (start_front head rest size s, good, short) refl

front_whole : (head tail more : List ℕ) (size : ℕ) → StartsWith head size → is_no_size size ≡ false → length tail ≡ size
    → front_at (head ++ (tail ++ more)) ≡ Ok (head ++ tail, more)
unfolding front_at
front_whole head tail more size s good long =
    let twelve = start_twelve head size s in
    let all = length-append head tail in
    let behind = length-append tail more in
    let there : nat_lt (length (tail ++ more)) size ≡ false = le-ltb (length (tail ++ more)) size (omega (arith, behind, long)) in
    let whole : length (head ++ tail) ≡ extent size = omega (arith, twelve, all, long) in
    let parts = append_assoc head tail more in
    let taken : take (extent size) (head ++ (tail ++ more)) ≡ head ++ tail = ap (take (extent size)) (sym parts) ∙ take_at (head ++ tail) more (extent size) whole in
    let left : drop (extent size) (head ++ (tail ++ more)) ≡ more = ap (drop (extent size)) (sym parts) ∙ drop_at (head ++ tail) more (extent size) whole in
    rw (start_front head (tail ++ more) size s, good, there, taken, left) refl

-- fewer bytes than base and size
start_short : (bytes : List ℕ) → length bytes < 12 → start_at bytes ≡ Err refusals.Short
unfolding start_at
start_short bytes few = elim (cases_Bool (nat_lt (length bytes) 8)) [
  | inl short ↦ rw short refl
  | inr there ↦
      let rest = length-drop 8 bytes in
      let four : nat_lt (length (drop 8 bytes)) 4 ≡ true = lt-ltb (length (drop 8 bytes)) 4 (omega (arith, rest, few)) in
      rw (there, four) refl
]

front_short : (bytes : List ℕ) → length bytes < 12 → front_at bytes ≡ Err refusals.Short
unfolding front_at
front_short bytes few = rw (start_short bytes few) refl

-- ---- all batches

abbrev meant : ℤ → Result Image ImageFault → Result (ℤ × Image) ImageFault
meant offset r = r >>= λ image. Ok (offset, image)

abbrev ended_at : Result Taken ImageFault → Result (ℤ × Image) ImageFault
ended_at r = r >>= λ t. ends t.body t.held

-- the batch at the front, and then the others
abbrev by_batches : ℕ → Progress → List ℕ → Result Image ImageFault
by_batches most p bytes = batch_refused p.found (front_at bytes) >>= λ front. (whole_read p front.0 >>= λ next. batches_read most next front.1)

first_batch : (most : ℕ) (p : Progress) (bytes : List ℕ) → 1 ≤ length bytes → batches_read (suc most) p bytes ≡ by_batches most p bytes
first_batch most p [] some = absurd (omega (arith, some))
first_batch most p (b ∷ bytes) some = refl

no_batch : (most : ℕ) (p : Progress) → batches_read most p [] ≡ image_at_end p
no_batch zero p = refl
no_batch (suc most) p = refl

-- what the pieces give is what all bytes give
abbrev Same : ℕ → ℤ × Progress → List ℕ → Type 0
Same most b bytes = ended_at (goes_on (record { body = Some b; held = [] }) bytes) ≡ meant b.0 (batches_read most b.1 bytes)

module _ (most : ℕ) (b : ℤ × Progress) where
  few_same : (bytes : List ℕ) → 1 ≤ length bytes → length bytes < 12 → Same (suc most) b bytes
  few_same bytes some few =
      let all : batches_read (suc most) b.1 bytes ≡ cut_image b.1.found = first_batch most b.1 bytes some ∙ rw (front_short bytes few) refl in
      ap ended_at (waits_on (Some b) [] bytes 12 (start_waits b []) (omega (arith, few))) ∙ (ends_inside b bytes some ∙ sym (ap (meant b.0) all))

  begins : (head rest : List ℕ) (size : ℕ) → StartsWith head size
      → goes_on (record { body = Some b; held = [] }) (head ++ rest) ≡ (batch_taken b head >>= λ next. goes_on next rest)
  begins head rest size s =
      let twelve = start_twelve head size s in
      goes_on_append (stage (Some b) []) head rest
      ∙ ap (λ (r : Result Taken ImageFault). r >>= λ next. goes_on next rest) (fills (Some b) [] head 12 (start_waits b []) (omega (arith, twelve)) (omega (arith, twelve)))

  bad_same : (head rest : List ℕ) (size : ℕ) → StartsWith head size → is_no_size size ≡ true → Same (suc most) b (head ++ rest)
  bad_same head rest size s bad =
      let twelve = start_twelve head size s in
      let long = length-append head rest in
      let all : batches_read (suc most) b.1 (head ++ rest) ≡ cut_image b.1.found = first_batch most b.1 (head ++ rest) (omega (arith, twelve, long)) ∙ rw (front_bad head rest size s bad) refl in
      ap ended_at (begins head rest size s ∙ ap (λ (r : Result Taken ImageFault). r >>= λ next. goes_on next rest) (batch_bad b head size s bad)) ∙ sym (ap (meant b.0) all)

  -- with its size it waits
  sized : (head : List ℕ) (size : ℕ) → StartsWith head size → is_no_size size ≡ false → batch_taken b head ≡ waits (Some b) head
  sized head size s good =
      let twelve = start_twelve head size s in
      let w : Waits (Some b) head (extent size) = subst (λ (l : List ℕ). Waits (Some b) l (extent size)) (append-nil head) (batch_waits b head [] size s good) in
      let some : 49 ≤ size = least size good in
      ap (batch_taken b) (sym (append-nil head)) ∙ (w [] (omega (arith, twelve, some)) ∙ ap (waits (Some b)) (append-nil head))

  cut_same : (head rest : List ℕ) (size : ℕ) → StartsWith head size → is_no_size size ≡ false → nat_lt (length rest) size ≡ true → Same (suc most) b (head ++ rest)
  cut_same head rest size s good short =
      let twelve = start_twelve head size s in
      let long = length-append head rest in
      let all : batches_read (suc most) b.1 (head ++ rest) ≡ cut_image b.1.found = first_batch most b.1 (head ++ rest) (omega (arith, twelve, long)) ∙ rw (front_cut head rest size s good short) refl in
      let fewer = ltb-true (length rest) size short in
      let w : Waits (Some b) head (extent size) = subst (λ (l : List ℕ). Waits (Some b) l (extent size)) (append-nil head) (batch_waits b head [] size s good) in
      ap ended_at (begins head rest size s ∙ (ap (λ (r : Result Taken ImageFault). r >>= λ next. goes_on next rest) (sized head size s good)
      ∙ waits_on (Some b) head rest (extent size) w (omega (arith, twelve, fewer))))
      ∙ (ends_inside b (head ++ rest) (omega (arith, twelve, long)) ∙ sym (ap (meant b.0) all))

  whole_same : (head tail more : List ℕ) (size : ℕ) → StartsWith head size → is_no_size size ≡ false → length tail ≡ size
      → ((next : Progress) → Same most (b.0, next) more) → Same (suc most) b (head ++ (tail ++ more))
  whole_same head tail more size s good long same =
      let twelve = start_twelve head size s in
      let sum = length-append head (tail ++ more) in
      let all : batches_read (suc most) b.1 (head ++ (tail ++ more)) ≡ (whole_read b.1 (head ++ tail) >>= λ next. batches_read most next more) =
      first_batch most b.1 (head ++ (tail ++ more)) (omega (arith, twelve, sum)) ∙ rw (front_whole head tail more size s good long) refl in
      let some : 49 ≤ size = least size good in
      let w : Waits (Some b) head (extent size) = subst (λ (l : List ℕ). Waits (Some b) l (extent size)) (append-nil head) (batch_waits b head [] size s good) in
      let onward : Result Taken ImageFault → Result Taken ImageFault = λ r. r >>= λ next. goes_on next more in
      ap ended_at (begins head (tail ++ more) size s ∙ (ap (λ (r : Result Taken ImageFault). r >>= λ next. goes_on next (tail ++ more)) (sized head size s good)
      ∙ (goes_on_append (stage (Some b) head) tail more
      ∙ ap onward (fills (Some b) head tail (extent size) w (omega (arith, some, long)) (omega (arith, twelve, long)) ∙ batch_whole b head tail size s good long))))
      ∙ (elim (whole_read b.1 (head ++ tail)) as (λ (r : Result Progress ImageFault). ended_at (onward (r >>= λ next. waits (Some (b.0, next)) [])) ≡ meant b.0 (r >>= λ next. batches_read most next more)) [
        | Ok next ↦ same next
        | Err fault ↦ refl
      ]
      ∙ sym (ap (meant b.0) all))

  long_same : (bytes : List ℕ) → 12 ≤ length bytes → length bytes ≤ suc most → ((next : Progress) (more : List ℕ) → length more ≤ most → Same most (b.0, next) more)
      → Same (suc most) b bytes
  long_same bytes twelve few same =
      let head : List ℕ = take 12 bytes in
      let rest : List ℕ = drop 12 bytes in
      let long : length head ≡ 12 = length-take-le 12 bytes twelve in
      let behind = length-drop 12 bytes in
      let s = start_is head long in
      subst (λ (l : List ℕ). Same (suc most) b l) (take-append-drop 12 bytes)
      (elim (cases_Bool (is_no_size s.0)) [
        | inl bad ↦ bad_same head rest s.0 s.1 bad
        | inr good ↦ elim (cases_Bool (nat_lt (length rest) s.0)) [
          | inl short ↦ cut_same head rest s.0 s.1 good short
          | inr there ↦
              let enough = ltb-false (length rest) s.0 there in
              let fits : length (take s.0 rest) ≡ s.0 = length-take-le s.0 rest enough in
              let left = length-drop s.0 rest in
              subst (λ (l : List ℕ). Same (suc most) b (head ++ l)) (take-append-drop s.0 rest)
              (whole_same head (take s.0 rest) (drop s.0 rest) s.0 s.1 good fits (λ next. same next (drop s.0 rest) (omega (arith, few, left, behind, twelve))))
        ]
      ])

pub batches_same : (most : ℕ) (b : ℤ × Progress) (bytes : List ℕ) → length bytes ≤ most → Same most b bytes
batches_same most b [] few = sym (ap (meant b.0) (no_batch most b.1))
batches_same zero b (x ∷ xs) few = absurd (omega (arith, few))
batches_same (suc most) b (x ∷ xs) few = elim (cases_lt (length (x ∷ xs)) 12) [
  | inl short ↦ few_same most b (x ∷ xs) (omega arith) short
  | inr there ↦ long_same most b (x ∷ xs) there few (λ next more less. batches_same most (b.0, next) more less)
]

-- ---- the head

pub record IsNumbers (bytes : List ℕ) (offset count : ℤ) : Type 0 where
  pub first : List ℕ
  pub second : List ℕ
  pub is : bytes ≡ first ++ second
  pub offset_is : IsSigned w64 offset first
  pub count_is : IsSigned w64 count second

abbrev is_negative : ℤ → ℤ → Bool
is_negative offset count = int_lt offset (pos 0) || int_lt count (pos 0)

pub numbers_front : (head rest : List ℕ) (offset count : ℤ) → IsNumbers head offset count
    → numbers_at (head ++ rest) ≡ (refuse wire.Short when is_negative offset count else Ok ((offset, unsigned_abs count), rest))
unfolding numbers_at
numbers_front head rest offset count n =
    let regrouped : head ++ rest ≡ n.first ++ (n.second ++ rest) = ap (λ (l : List ℕ). l ++ rest) n.is ∙ append_assoc n.first n.second rest in
    let one : signed_at w64 (head ++ rest) ≡ Ok (offset, n.second ++ rest) = ap (signed_at w64) regrouped ∙ (signed_law w64).complete offset n.first (n.second ++ rest) n.offset_is in
    let two : signed_at w64 (n.second ++ rest) ≡ Ok (count, rest) = (signed_law w64).complete count n.second rest n.count_is in
    rw (one, two) refl

pub numbers_is : (head : List ℕ) → length head ≡ 16 → (x : ℤ × ℤ) × IsNumbers head x.0 x.1
numbers_is head long =
    let a : length (take 8 head) ≡ 8 = length-take-le 8 head (omega (arith, long)) in
    let b : length (drop 8 head) ≡ 8 = (let d = length-drop 8 head in omega (arith, d, long)) in (
      (cast_signed w64 (from_be_bytes w64 (take 8 head)), cast_signed w64 (from_be_bytes w64 (drop 8 head))),
      record {
        first = take 8 head;
        second = drop 8 head;
        is = sym (take-append-drop 8 head);
        offset_is = record { bits = from_be_bytes w64 (take 8 head); signed = refl; spelled = record { long = a; spelled = refl } };
        count_is = record { bits = from_be_bytes w64 (drop 8 head); signed = refl; spelled = record { long = b; spelled = refl } };
      },
    )

numbers_short : (bytes : List ℕ) → length bytes < 16 → numbers_at bytes ≡ Err wire.Short
unfolding numbers_at
numbers_short bytes few = elim (cases_Bool (nat_lt (length bytes) 8)) [
  | inl short ↦ rw short refl
  | inr there ↦
      let rest = length-drop 8 bytes in
      let short : nat_lt (length (drop 8 bytes)) 8 ≡ true = lt-ltb (length (drop 8 bytes)) 8 (omega (arith, rest, few)) in
      rw (there, short) refl
]

abbrev numbers : Bool → ℤ → ℕ → List ℕ → Result ((ℤ × ℕ) × List ℕ) WireFault
numbers bad offset count rest = refuse wire.Short when bad else Ok ((offset, count), rest)

abbrev begins_with : Result ((ℤ × ℕ) × List ℕ) WireFault → Result Taken ImageFault
begins_with r = headed r >>= λ head. waits (Some (head.0.0, nothing_found head.0.1)) []

abbrev whole_with : Result ((ℤ × ℕ) × List ℕ) WireFault → Result (ℤ × Image) ImageFault
whole_with r = headed r >>= λ head. (batches_read (length head.1) (nothing_found head.0.1) head.1 >>= λ image. Ok (head.0.0, image))

abbrev first_taken : Bool → ℤ → ℕ → Result Taken ImageFault
first_taken bad offset count = refuse (batch_fault_behind 0 causes.Head) when bad else waits (Some (offset, nothing_found count)) []

head_full : (head : List ℕ) (offset count : ℤ) → length head ≡ 16 → IsNumbers head offset count
    → head_taken head ≡ first_taken (is_negative offset count) offset (unsigned_abs count)
unfolding head_taken
head_full head offset count long n =
    let enough : nat_lt (length head) 16 ≡ false = le-ltb (length head) 16 (omega (arith, long)) in
    let read : numbers_at head ≡ numbers (is_negative offset count) offset (unsigned_abs count) [] = ap numbers_at (sym (append-nil head)) ∙ numbers_front head [] offset count n in
    rw (enough, read)
    (elim (is_negative offset count) as (λ c. begins_with (numbers c offset (unsigned_abs count) []) ≡ first_taken c offset (unsigned_abs count)) [
      | true ↦ refl
      | false ↦ refl
    ])

headed_same : (head rest : List ℕ) (offset count : ℤ) → length head ≡ 16 → IsNumbers head offset count
    → ended_at (goes_on (record { body = None; held = [] }) (head ++ rest)) ≡ whole_with (numbers_at (head ++ rest))
headed_same head rest offset count long n =
    let onward : Result Taken ImageFault → Result Taken ImageFault = λ r. r >>= λ next. goes_on next rest in
    ap ended_at (goes_on_append (stage None []) head rest
    ∙ ap onward (fills None [] head 16 (head_waits []) (omega (arith, long)) (omega (arith, long)) ∙ head_full head offset count long n))
    ∙ (elim (is_negative offset count) as (λ c. ended_at (onward (first_taken c offset (unsigned_abs count))) ≡ whole_with (numbers c offset (unsigned_abs count) rest)) [
      | true ↦ refl
      | false ↦ batches_same (length rest) (offset, nothing_found (unsigned_abs count)) rest (omega arith)
    ]
    ∙ sym (ap whole_with (numbers_front head rest offset count n)))

pub pieces_whole : (bytes : List ℕ) → image_of bytes ≡ whole_image bytes
unfolding image_of whole_image
pieces_whole bytes = elim (cases_Bool (nat_lt (length bytes) 16)) [
  | inl short ↦
      let few = ltb-true (length bytes) 16 short in
      ap ended_at (waits_on None [] bytes 16 (head_waits []) (omega (arith, few))) ∙ rw (numbers_short bytes few) refl
  | inr there ↦
      let sixteen = ltb-false (length bytes) 16 there in
      let head : List ℕ = take 16 bytes in
      let rest : List ℕ = drop 16 bytes in
      let long : length head ≡ 16 = length-take-le 16 bytes sixteen in
      let n = numbers_is head long in
      subst (λ (l : List ℕ). ended_at (so_far l) ≡ whole_with (numbers_at l)) (take-append-drop 16 bytes) (headed_same head rest n.0.0 n.0.1 long n.1)
]
