-- A reader that was fed a front of the bytes.
use Rattle.std.proofs.Common.{◌≡◌, ◌∙◌, ℕ, List, [], ◌∷◌, ◌++◌, length, append_assoc, refl, sym, ap, subst, arith, Result, Ok, Err}
use Rattle.std.proofs.lemmas.List.{append-nil}
use Rattle.kr_snapshot.specs.declared.fault.ImageFault.{ImageFault}
use Rattle.kr_snapshot.specs.ReaderState.{IsFault, StandsFor, feed_answer}
use Rattle.kr_snapshot.specs.Reading.{Taken, image_of}
use Rattle.kr_snapshot.proofs.ReaderSteps.{faulty_on, fault_stays}

pub record IsFed (reader : Result Taken ImageFault) (rest bytes : List ℕ) : Type 0 where
  pub fed : List ℕ
  pub parts : fed ++ rest ≡ bytes
  pub stands : StandsFor reader fed

pub fed_none : (reader : Result Taken ImageFault) (bytes : List ℕ) → StandsFor reader [] → IsFed reader bytes bytes
fed_none reader bytes stands = record { fed = []; parts = refl; stands = stands }

pub fed_more : (reader after : Result Taken ImageFault) (rest bytes piece behind : List ℕ) → rest ≡ piece ++ behind → IsFed reader rest bytes
    → ((fed : List ℕ) → StandsFor reader fed → StandsFor after (fed ++ piece)) → IsFed after behind bytes
fed_more reader after rest bytes piece behind is was feeds = record {
  fed = was.fed ++ piece;
  parts = append_assoc was.fed piece behind ∙ (ap (λ (r : List ℕ). was.fed ++ r) (sym is) ∙ was.parts);
  stands = feeds was.fed was.stands;
}

pub fed_all : (reader : Result Taken ImageFault) (rest bytes : List ℕ) → length rest ≡ 0 → IsFed reader rest bytes → StandsFor reader bytes
fed_all reader [] bytes none was = subst (λ (b : List ℕ). StandsFor reader b) (sym (append-nil was.fed) ∙ was.parts) was.stands
fed_all reader (x ∷ rest) bytes none was = absurd (omega (arith, none))

-- the fault that was answered is that of all bytes
pub fed_fault : (after : Result Taken ImageFault) (behind bytes : List ℕ) (fault : ImageFault) → Err fault ≡ feed_answer after → IsFed after behind bytes → IsFault fault (image_of bytes)
fed_fault (Ok taken) behind bytes fault is was = absurd cc
fed_fault (Err found) behind bytes fault is was =
    let same : fault ≡ found = cc in
    let stays : IsFault found (image_of (was.fed ++ behind)) = fault_stays found (was.fed ++ behind) (faulty_on found was.fed behind was.stands) in
    subst (λ (f : ImageFault). IsFault f (image_of bytes)) (sym same) (subst (λ (b : List ℕ). IsFault found (image_of b)) was.parts stays)
