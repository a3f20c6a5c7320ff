-- An image is read part after part.
use Rattle.std.proofs.Common.{◌≡◌, ◌∙◌, ℕ, ◌+◌, ◌<◌, ◌≤◌, List, ◌++◌, length, take, drop, Result, Ok, Err, refl, sym, ap, subst, arith}
use Rattle.std.proofs.Math.Seq.{take-add, take-length}
use Rattle.std.proofs.lemmas.List.{take-append-drop, length-take-le, length-drop}
use Rattle.kr_batch.specs.declared.fault.BatchFault.{BatchFault}
use Rattle.kr_snapshot.specs.declared.fault.ImageFault.{ImageFault}
use Rattle.kr_snapshot.specs.declared.fault.ImageFault.TheVariants as images
use Rattle.kr_snapshot.specs.Reading.{Taken, size_at, so_far, image_of}
use Rattle.kr_snapshot.specs.ReaderState.{IsFault, StandsFor, feed_answer}
use Rattle.kr_fold.specs.declared.fault.ToolFault.{ToolFault}
use Rattle.kr_fold.specs.declared.fault.ToolFault.TheVariants as faults
use Rattle.kr_fold.specs.SourceBytes.{IsSized}
use Rattle.kr_fold.specs.Images.{HasBegun, BreaksAt}
use Rattle.kr_fold.specs.inner.ImageParts.{IsFed, IsImageFault, IsNoBatch, no_size, cut_off, IsPart, fault_as}
use Rattle.kr_fold.proofs.BatchReading.{few_unfinished}
use Rattle.kr_fold.proofs.Sizes.{size_same}
use Rattle.kr_fold.proofs.Fronts.{begun_batch, begun_head, breaks_batch, breaks_cut, breaks_end, breaks_head, breaks_size, stands_of}

-- ---- the batch at the front

pub no_start : (bytes : List ℕ) → 0 < length bytes → length bytes < 12 → IsNoBatch bytes
no_start bytes some few = cut_off some (few_unfinished bytes few)

pub no_told : (bytes : List ℕ) (fault : BatchFault) → 12 ≤ length bytes → size_at bytes ≡ Err fault → IsNoBatch bytes
no_told bytes fault there told = no_size fault there told

pub no_whole : (bytes : List ℕ) (size : ℕ) → 0 < length bytes → size_at bytes ≡ Ok size → length bytes < size + 12 → IsNoBatch bytes
no_whole bytes size some told short = cut_off some (λ there. (size, told, short))

pub sized_take : (bytes : List ℕ) (size len : ℕ) → size_at bytes ≡ Ok size → len ≡ size + 12 → len ≤ length bytes → IsSized (take len bytes)
sized_take bytes size len told is within =
    let long : length (take len bytes) ≡ len = length-take-le len bytes within in
    let same : size_at bytes ≡ size_at (take len bytes) = ap size_at (sym (take-append-drop len bytes)) ∙ size_same (take len bytes) (drop len bytes) (omega (arith, long, is)) in
    record { size = size; told = sym same ∙ told; whole = long ∙ is }

-- ---- what a reader answers

answer_ok : (s t : Result Taken ImageFault) → s ≡ t → Ok tt ≡ feed_answer s → (taken : Taken) × (s ≡ Ok taken)
answer_ok (Ok taken) t same answer = (taken, refl)
answer_ok (Err fault) t same answer = absurd cc

answer_fault : (s : Result Taken ImageFault) (fault : ImageFault) (bytes : List ℕ) → Err fault ≡ feed_answer s → StandsFor s bytes → IsFault fault (so_far bytes)
answer_fault (Ok taken) fault bytes answer stands = absurd cc
answer_fault (Err other) fault bytes answer stands =
    let same : other ≡ fault = cc in
    subst (λ (f : ImageFault). IsFault f (so_far bytes)) same stands

answer_taken : (s : Result Taken ImageFault) (taken : Taken) (bytes : List ℕ) → s ≡ Ok taken → StandsFor s bytes → so_far bytes ≡ Ok taken
answer_taken s taken bytes is stands = subst (λ (r : Result Taken ImageFault). StandsFor r bytes) is stands

of_fault : (fault : ImageFault) (read reader : Result Taken ImageFault) (at : ℕ) → IsFault fault read → IsFed read reader at (Err (fault_as fault at))
of_fault (images.Batch place cause) read reader at is = (refl, _, is)
of_fault (images.NoEnd found expected) read reader at is = (refl, _, is)
of_fault (images.Order place) read reader at is = (refl, _, is)
of_fault (images.IllFormed place cause) read reader at is = (refl, _, is)
of_fault images.NoMemory read reader at is = tt

module _ (fed part : List ℕ) (before after : Result Taken ImageFault) (at : ℕ) (stands : (f : List ℕ) → StandsFor before f → StandsFor after (f ++ part)) (so : StandsFor before fed) where
  pub fed_ok : Ok tt ≡ feed_answer after → IsFed (so_far (fed ++ part)) after at (Ok tt)
  fed_ok answer =
      let t = answer_ok after after refl answer in
      let read = answer_taken after t.0 (fed ++ part) t.1 (stands fed so) in
      (read ∙ sym t.1, t.0, read)

  pub fed_fault : (fault : ImageFault) → Err fault ≡ feed_answer after → IsFed (so_far (fed ++ part)) after at (Err (fault_as fault at))
  fed_fault fault answer = of_fault fault (so_far (fed ++ part)) after at (answer_fault after fault (fed ++ part) answer (stands fed so))

-- ---- parts

pub head_part : (bytes : List ℕ) (reader : Result Taken ImageFault) → 16 ≤ length bytes → IsFed (so_far (take 16 bytes)) reader 0 (Ok tt) → IsPart bytes reader 16
head_part bytes reader there fed = record {
  within = there;
  read = fed.0;
  begun = begun_head (take 16 bytes) fed.1 (length-take-le 16 bytes there) fed.2;
}

pub head_fault : (bytes : List ℕ) (reader : Result Taken ImageFault) (fault : ToolFault) → 16 ≤ length bytes → IsFed (so_far (take 16 bytes)) reader 0 (Err fault) → IsImageFault bytes fault
head_fault bytes reader (faults.Malformed at) there fed =
    let b = breaks_head (take 16 bytes) (drop 16 bytes) fed.1 (length-take-le 16 bytes there) fed.2 in
    subst (λ (n : ℕ). BreaksAt bytes n) (sym fed.0) (subst (λ (l : List ℕ). BreaksAt l 0) (take-append-drop 16 bytes) b)
head_fault bytes reader faults.NoMemory there fed = tt
head_fault bytes reader faults.ReadFault there fed = absurd fed
head_fault bytes reader faults.WriteFault there fed = absurd fed
head_fault bytes reader faults.TooLong there fed = absurd fed

none_breaks : (front rest : List ℕ) → HasBegun front → IsNoBatch rest → BreaksAt (front ++ rest) (length front)
none_breaks front rest begun (no_size fault there told) = breaks_size front rest fault begun there told
none_breaks front rest begun (cut_off some cut) = breaks_cut front rest begun cut some

module _ (bytes : List ℕ) (before : Result Taken ImageFault) (at : ℕ) (part : IsPart bytes before at) where
  whole_of : take at bytes ++ drop at bytes ≡ bytes
  whole_of = take-append-drop at bytes

  front_long : length (take at bytes) ≡ at
  front_long = length-take-le at bytes part.within

  pub no_batch_fault : at < length bytes → IsNoBatch (drop at bytes) → IsImageFault bytes (faults.Malformed at)
  no_batch_fault more none =
      subst (λ (n : ℕ). BreaksAt bytes n) front_long (subst (λ (l : List ℕ). BreaksAt l (length (take at bytes))) whole_of (none_breaks (take at bytes) (drop at bytes) part.begun none))

  pub batch_part : (after : Result Taken ImageFault) (len : ℕ) → len ≤ length (drop at bytes) → IsSized (take len (drop at bytes))
      → IsFed (so_far (take at bytes ++ take len (drop at bytes))) after at (Ok tt) → IsPart bytes after (at + len)
  batch_part after len within sized fed =
      let joined : take at bytes ++ take len (drop at bytes) ≡ take (at + len) bytes = sym (take-add at len bytes) in
      let rest = length-drop at bytes in
      let in_ = part.within in
      record {
        within = omega (arith, within, rest, in_);
        read = ap so_far (sym joined) ∙ fed.0;
        begun = subst HasBegun joined (begun_batch (take at bytes) (take len (drop at bytes)) fed.1 part.begun sized fed.2);
      }

  pub batch_fault : (after : Result Taken ImageFault) (len : ℕ) (fault : ToolFault) → IsSized (take len (drop at bytes))
      → IsFed (so_far (take at bytes ++ take len (drop at bytes))) after at (Err fault) → IsImageFault bytes fault
  batch_fault after len (faults.Malformed place) sized fed =
      let b = breaks_batch (take at bytes) (take len (drop at bytes)) (drop len (drop at bytes)) fed.1 part.begun sized fed.2 in
      let all : take at bytes ++ (take len (drop at bytes) ++ drop len (drop at bytes)) ≡ bytes = ap (λ (l : List ℕ). take at bytes ++ l) (take-append-drop len (drop at bytes)) ∙ whole_of in
      subst (λ (n : ℕ). BreaksAt bytes n) (front_long ∙ sym fed.0) (subst (λ (l : List ℕ). BreaksAt l (length (take at bytes))) all b)
  batch_fault after len faults.NoMemory sized fed = tt
  batch_fault after len faults.ReadFault sized fed = absurd fed
  batch_fault after len faults.WriteFault sized fed = absurd fed
  batch_fault after len faults.TooLong sized fed = absurd fed

-- ---- the end

pub all_begun : (bytes : List ℕ) (reader : Result Taken ImageFault) → IsPart bytes reader (length bytes) → StandsFor reader bytes × HasBegun bytes
all_begun bytes reader part =
    let all : take (length bytes) bytes ≡ bytes = take-length bytes in
    (stands_of bytes reader (ap so_far (sym all) ∙ part.read), subst HasBegun all part.begun)

pub end_fault : (bytes : List ℕ) (fault : ImageFault) → HasBegun bytes → IsFault fault (image_of bytes) → IsImageFault bytes (fault_as fault (length bytes))
end_fault bytes (images.Batch place cause) begun is = breaks_end bytes _ begun is
end_fault bytes (images.NoEnd found expected) begun is = breaks_end bytes _ begun is
end_fault bytes (images.Order place) begun is = breaks_end bytes _ begun is
end_fault bytes (images.IllFormed place cause) begun is = breaks_end bytes _ begun is
end_fault bytes images.NoMemory begun is = tt
