-- Fronts of the text of an image, as far as batches were written.
use Rattle.std.proofs.Common.{◌≡◌, ◌∙◌, ◌⊎◌, min, ℕ, ℤ, pos, zero, suc, ◌+◌, ◌*◌, ◌-◌, ◌<◌, ◌≤◌, ◌^◌, List, [], ◌∷◌, ◌++◌, length, map, take, drop, refl, sym, ap, subst, append_assoc, append-nil, inl, inr, arith}
use Rattle.std.specs.Prelude.{Option}
use Rattle.std.specs.Io.KnownBytes.{Appends}
use Rattle.std.proofs.KnownBytes.{Appends-nil, Appends-trans}
use Rattle.std.proofs.Math.Seq.{take-append-add, take-length}
use Rattle.std.proofs.lemmas.Bool.{cases_lt}
use Rattle.std.proofs.lemmas.List.{drop_all, length-append, length-drop, length-map, length-take, length-take-le, map-append, take-append-drop, take-append-le, take_min}
use Rattle.kr_base.specs.FailedPuts.{AppendsFront}
use Rattle.kr_defs.specs.declared.limits.TheConstants.{IMAGE_BATCH}
use Rattle.kr_defs.specs.declared.record.Item.{Item}
use Rattle.kr_defs.specs.declared.record.Item.TheVariants as items
use Rattle.kr_defs.specs.declared.record.Record.{Record}
use Rattle.kr_defs.specs.Image.{Image, IsValid}
use Rattle.kr_defs.specs.ImageLaws.{as_items}
use Rattle.kr_defs.specs.Records.{records_of}
use Rattle.kr_batch.specs.BatchBytes.{batch_bytes}
use Rattle.kr_snapshot.specs.ImageText.{batch_of_group, batches_bytes, chunks, image_head, image_text, text_up_to}
use Rattle.kr_snapshot.specs.Written.{IsFull, IsNextText, MayPut, Written, put_bytes}
use Rattle.kr_snapshot.proofs.Chunks.{chunk_first, no_elements}
use Rattle.kr_snapshot.proofs.Written.{part_may_put, text_of_all}

-- ---- bytes that begin others

abbrev pub Begins : List ℕ → List ℕ → Type 0
Begins whole front = (rest : List ℕ) × (whole ≡ front ++ rest)

begins_itself : (xs : List ℕ) → Begins xs xs
begins_itself xs = ([], sym (append-nil xs))

begins_behind : (xs whole front : List ℕ) → Begins whole front → Begins (xs ++ whole) (xs ++ front)
begins_behind xs whole front begins = (begins.0, ap (λ (l : List ℕ). xs ++ l) begins.1 ∙ sym (append_assoc xs front begins.0))

-- what was appended begins the bytes
pub front_of : (a b : Option (List ℕ)) (whole front : List ℕ) → Begins whole front → Appends a b front → AppendsFront a b whole
front_of a b whole front begins wrote =
    let F : List ℕ → Type 0 = λ (l : List ℕ). Appends a b l in
    (length front, subst F (sym (ap (take (length front)) begins.1 ∙ take-append-le (length front) front begins.0 (omega arith) ∙ take-length front)) wrote)

-- some bytes, and then a front of a piece
pub front_behind : (a b c : Option (List ℕ)) (whole xs ys : List ℕ) → Begins whole (xs ++ ys) → Appends a b xs → AppendsFront b c ys → AppendsFront a c whole
front_behind a b c whole xs ys begins first second =
    let F : List ℕ → Type 0 = λ (l : List ℕ). Appends a c l in
    let n = second.0 in
    let within = min n (length ys) in
    let cut : take within ys ≡ take n ys = take_min n ys in
    let room = length-append xs ys in
    let at : take (length xs + within) whole ≡ xs ++ take n ys =
    ap (take (length xs + within)) begins.1
    ∙ take-append-le (length xs + within) (xs ++ ys) begins.0 (omega (arith, room))
    ∙ take-append-add xs ys within ∙ ap (λ (l : List ℕ). xs ++ l) cut in
    (length xs + within, subst F (sym at) (Appends-trans a b c xs (take n ys) first second.1))

-- ---- full batches begin the text

batches_begin : (k before : ℕ) (first more : List Item) → length first ≡ IMAGE_BATCH * k → Begins (batches_bytes before (chunks IMAGE_BATCH (first ++ more))) (batches_bytes before (chunks IMAGE_BATCH first))
batches_begin zero before first more full =
    let none : first ≡ [] = no_elements first (omega (arith, full)) in
    let whole = batches_bytes before (chunks IMAGE_BATCH (first ++ more)) in
    (whole, ap (λ (l : List Item). batches_bytes before (chunks IMAGE_BATCH l) ++ whole) (sym none))
batches_begin (suc k) before first more full =
    let front : List Item = take IMAGE_BATCH first in
    let rest : List Item = drop IMAGE_BATCH first in
    let whole : front ++ rest ≡ first = take-append-drop IMAGE_BATCH first in
    let long : length front ≡ IMAGE_BATCH = length-take-le IMAGE_BATCH first (omega (arith, full)) in
    let left = length-drop IMAGE_BATCH first in
    let behind = batches_begin k (before + length front) rest more (omega (arith, left, full)) in
    let cut : chunks IMAGE_BATCH first ≡ front ∷ chunks IMAGE_BATCH rest = ap (chunks IMAGE_BATCH) (sym whole) ∙ chunk_first IMAGE_BATCH front rest (omega arith) long in
    let cut_on : chunks IMAGE_BATCH (first ++ more) ≡ front ∷ chunks IMAGE_BATCH (rest ++ more) =
    ap (λ (l : List Item). chunks IMAGE_BATCH (l ++ more)) (sym whole) ∙ (ap (chunks IMAGE_BATCH) (append_assoc front rest more) ∙ chunk_first IMAGE_BATCH front (rest ++ more) (omega arith) long) in
    let own = begins_behind (batch_bytes (batch_of_group before front)) (batches_bytes (before + length front) (chunks IMAGE_BATCH (rest ++ more))) (batches_bytes (before + length front) (chunks IMAGE_BATCH rest)) behind in
    (own.0, ap (batches_bytes before) cut_on ∙ own.1 ∙ ap (λ (l : List ℕ). l ++ own.0) (ap (batches_bytes before) (sym cut)))

text_begins : (offset count : ℤ) (first more : List Record) → IsFull (length first) → Begins (text_up_to offset count (first ++ more)) (text_up_to offset count first)
text_begins offset count first more full =
    let long : length (as_items first) ≡ length first = length-map first (λ r. items.Record r) in
    let joined : as_items (first ++ more) ≡ as_items first ++ as_items more = map-append (λ (r : Record). items.Record r) first more in
    let F : List Item → Type 0 = λ (l : List Item). Begins (batches_bytes 0 (chunks IMAGE_BATCH l)) (batches_bytes 0 (chunks IMAGE_BATCH (as_items first))) in
    begins_behind (image_head offset count) (batches_bytes 0 (chunks IMAGE_BATCH (as_items (first ++ more)))) (batches_bytes 0 (chunks IMAGE_BATCH (as_items first)))
    (subst F (sym joined) (batches_begin full.0 0 (as_items first) (as_items more) (long ∙ full.1)))

-- ---- of a valid image

-- so many of its records are full batches, or all
abbrev pub IsWhole : List Record → ℕ → Type 0
IsWhole records n = (n ≡ length records) ⊎ IsFull n

-- and where they aren't all, they are full batches
pub still_full : (records : List Record) (n : ℕ) → IsWhole records n → n < length records → IsFull n
still_full records n (inl all) less = absurd (omega (arith, all, less))
still_full records n (inr full) less = full

module _ (place : ℤ) (image : Image) where
  abbrev records : List Record
  records = records_of image

  abbrev pub text_to : ℕ → List ℕ
  text_to n = text_up_to place (pos (length records)) (take n records)

  pub text_whole : text_to (length records) ≡ image_text place image
  text_whole = ap (text_up_to place (pos (length records))) (take-length records) ∙ text_of_all place image

  pub text_to_begins : (n : ℕ) → n ≤ length records → IsWhole records n → Begins (image_text place image) (text_to n)
  text_to_begins n within (inl all) =
      let F : ℕ → Type 0 = λ (k : ℕ). Begins (image_text place image) (text_to k) in
      subst F (sym all) (subst (λ (l : List ℕ). Begins (image_text place image) l) (sym text_whole) (begins_itself (image_text place image)))
  text_to_begins n within (inr full) =
      let long : length (take n records) ≡ n = length-take-le n records within in
      let F : List Record → Type 0 = λ (l : List Record). Begins (text_up_to place (pos (length records)) l) (text_to n) in
      let first = text_begins place (pos (length records)) (take n records) (drop n records) (full.0, long ∙ full.1) in
      subst (λ (l : List ℕ). Begins l (text_to n)) (text_of_all place image) (subst F (take-append-drop n records) first)

  pub head_begins : text_to 0 ≡ image_head place (pos (length records))
  head_begins = append-nil (image_head place (pos (length records)))

  -- ---- one batch more

  module _ (valid : IsValid image) (n : ℕ) (page : List Record) (is : page ≡ take IMAGE_BATCH (drop n records)) (within : n < length records) where
    abbrev w : Written
    w = record { count = length records; done = n }

    abbrev left : List Record
    left = drop IMAGE_BATCH (drop n records)

    whole : records ≡ take n records ++ (page ++ left)
    whole =
        sym (take-append-drop n records)
        ∙ ap (λ (l : List Record). take n records ++ l) (sym (take-append-drop IMAGE_BATCH (drop n records)) ∙ ap (λ (l : List Record). l ++ left) (sym is))

    page_long : length page ≡ min IMAGE_BATCH (length records - n)
    page_long = ap (λ (l : List Record). length l) is ∙ length-take IMAGE_BATCH (drop n records) ∙ ap (λ (k : ℕ). min IMAGE_BATCH k) (length-drop n records)

    -- a short page leaves none
    none_left : length page < IMAGE_BATCH → left ≡ []
    none_left short = let long = page_long in let rest = length-drop n records in drop_all IMAGE_BATCH (drop n records) (omega (arith, long, rest, short))

    pub page_may_put : MayPut w page
    page_may_put =
        let long = page_long in
        part_may_put image valid w (take n records) page left whole refl (sym (length-take-le n records (omega (arith, within)))) (omega (arith, long, within)) (omega (arith, long)) none_left

    pub page_whole : (n < length records → IsFull n) → IsWhole records (n + length page)
    page_whole full =
        let long = page_long in
        let before = full within in
        elim (cases_lt (length page) IMAGE_BATCH) [
          | inl short ↦ inl (omega (arith, long, within, short))
          | inr ge ↦ inr (suc before.0, (let b = before.1 in omega (arith, b, long, ge)))
        ]

  -- the text goes on by the batch
  pub text_further : (n : ℕ) (page : List Record) → n ≤ length records → take (n + length page) records ≡ take n records ++ page → IsNextText (record { count = length records; done = n }) page (put_bytes (record { count = length records; done = n }) page)
      → text_to (n + length page) ≡ text_to n ++ put_bytes (record { count = length records; done = n }) page
  text_further n page within further next =
      ap (text_up_to place (pos (length records))) further ∙ next place (take n records) (length-take-le n records within)
