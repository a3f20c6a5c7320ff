-- Bytes that are read one piece after the other.
use Rattle.std.proofs.Common.{◌≡◌, ℕ, ◌+◌, List, take, drop, Option}
use Rattle.std.specs.Io.KnownBytes.{Consumes}
use Rattle.std.proofs.Math.Seq.{take-add}
use Rattle.kr_base.proofs.Pieces.{consumes_more}

-- bytes that are read behind those that were read before
pub read_more : (a b c : Option (List ℕ)) (at count : ℕ) (before after : List ℕ) → take at after ≡ take at before
    → Consumes a b (take at before) → Consumes b c (take count (drop at after)) → Consumes a c (take (at + count) after)
read_more a b c at count before after same first second =
    let front : Consumes a b (take at after) = rw same first in
    rw (take-add at count after) (consumes_more a b c (take at after) (take count (drop at after)) front second)
