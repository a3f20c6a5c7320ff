-- One read after the other.
use Rattle.std.proofs.Common.{◌≡◌, ℕ, ◌+◌, ◌-◌, ◌<◌, ◌≤◌, List, [], ◌++◌, length, length-append, take, Option, Some, None, append_assoc, sym, ap, subst, refl, ◌∙◌, arith}
use Rattle.std.specs.Io.KnownBytes.{Consumes, IsAtEnd, Keeps}
use Rattle.std.proofs.lemmas.List.{append-nil}
use Rattle.kr_base.proofs.Pieces.{consumes_more}
use Rattle.kr_fold.specs.declared.fault.ToolFault.{ToolFault}
use Rattle.kr_fold.specs.declared.fault.ToolFault.TheVariants as faults
use Rattle.kr_fold.specs.SourceBytes.{longest}
use Rattle.kr_fold.specs.inner.SourceReads.{Grew, IsFilled, IsLast, IsReadFault, IsShortage, Stops}
use Rattle.kr_fold.specs.declared.piece.Filled.{Filled}
use Rattle.kr_fold.specs.declared.piece.Filled.TheVariants as fillings

pub grew_more : (a b c : Option (List ℕ)) (xs ys zs : List ℕ) → Grew a b xs ys → Grew b c ys zs → Grew a c xs zs
grew_more a b c xs ys zs first second = record {
  taken = first.taken ++ second.taken;
  took = consumes_more a b c first.taken second.taken first.took second.took;
  grown = second.grown ∙ (ap (λ (l : List ℕ). l ++ second.taken) first.grown ∙ append_assoc xs first.taken second.taken);
}

pub consumes_none : (a : Option (List ℕ)) → Consumes a a []
consumes_none None = tt
consumes_none (Some x) = refl

pub grew_none : (a : Option (List ℕ)) (xs : List ℕ) → Grew a a xs xs
grew_none a xs = record { taken = []; took = consumes_none a; grown = sym (append-nil xs) }

-- one read
pub grew_by : (a b : Option (List ℕ)) (bytes bytes' piece come : List ℕ) (count : ℕ) → Consumes a b (take count piece) → come ≡ take count piece → bytes' ≡ bytes ++ come → Grew a b bytes bytes'
grew_by a b bytes bytes' piece come count took is grown = record { taken = come; took = subst (λ (l : List ℕ). Consumes a b l) (sym is) took; grown = grown }

pub stops : (a b : Option (List ℕ)) (bytes bytes' : List ℕ) (at len : ℕ) → Grew a b bytes bytes' → length bytes' < len → at + length bytes' ≡ longest → Stops IsLast a b bytes bytes' at len
stops a b bytes bytes' at len grew short most = record { grew = grew; short = short; place = most }

consumes_kept : (a b c : Option (List ℕ)) (xs : List ℕ) → Consumes a b xs → Keeps b c → Consumes a c xs
consumes_kept None b c xs took keeps = tt
consumes_kept (Some x) None c xs took keeps = absurd took
consumes_kept (Some x) (Some y) None xs took keeps = absurd keeps
consumes_kept (Some x) (Some y) (Some z) xs took keeps = took ∙ ap (λ (l : List ℕ). xs ++ l) (sym keeps)

pub grown_by : (a b : Option (List ℕ)) (bytes bytes' : List ℕ) (grew : Grew a b bytes bytes') → length bytes' ≡ length bytes + length grew.taken
grown_by a b bytes bytes' grew = ap (λ (l : List ℕ). length l) grew.grown ∙ length-append bytes grew.taken

-- a read behind others fails, or finds no memory
module _ (a b c : Option (List ℕ)) (count between count' : ℕ) (bytes mid after : List ℕ) (at len most : ℕ) (grew : Grew a b bytes mid) (short : length mid < len) (few : most ≤ len - length mid)
    (fits : at + length mid + most ≤ longest) (some : 0 < most) (later : count ≤ between) where
  pub shortage : (fault : ToolFault) → IsReadFault b c between count' mid after most fault → IsShortage a c count count' bytes after at len fault
  shortage faults.ReadFault (rose, keeps, same) = (
    omega (arith, later, rose),
    record {
      grew = record { taken = grew.taken; took = consumes_kept a b c grew.taken grew.took keeps; grown = same ∙ grew.grown };
      short = subst (λ (l : List ℕ). length l < len) (sym same) short;
      place = subst (λ (l : List ℕ). at + length l < longest) (sym same) (omega (arith, fits, some));
    },
  )
  shortage faults.NoMemory piece =
      let both = length-append grew.taken piece.taken in
      let long = grown_by a b bytes mid grew in
      let little = piece.few in
      record {
        taken = grew.taken ++ piece.taken;
        took = consumes_more a b c grew.taken piece.taken grew.took piece.took;
        few = omega (arith, both, long, little, few, short);
        within = omega (arith, both, long, little, fits);
      }
  shortage faults.TooLong is = absurd is
  shortage faults.WriteFault is = absurd is
  shortage (faults.Malformed place) is = absurd is

-- how far bytes were filled
pub is_full : (filled : Filled) (left' : Option (List ℕ)) (len len' : ℕ) → filled ≡ fillings.Full → IsFilled filled left' len len' → len' ≡ len
is_full filled left' len len' is told = subst (λ (f : Filled). IsFilled f left' len len') is told

pub is_ended : (filled : Filled) (left' : Option (List ℕ)) (len len' : ℕ) → filled ≡ fillings.Ended → IsFilled filled left' len len' → (len' < len) × IsAtEnd left'
is_ended filled left' len len' is told = subst (λ (f : Filled). IsFilled f left' len len') is told
