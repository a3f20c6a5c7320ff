-- Reading tagged fields one after the other.
use Rattle.std.proofs.Common.{◌≡◌, ℕ, suc, ◌+◌, ◌-◌, ◌<◌, ◌≤◌, List, drop, Option, Some, Ok, Err, refl, sym, ap, ◌∙◌, arith}
use Rattle.std.proofs.lemmas.List.{drop-drop}
use Rattle.kr_wire.specs.declared.WireFault.{WireFault}
use Rattle.kr_wire.specs.Reading.{Read, none_known, tag_at, fields_at}

-- one field more
pub skips_one : (count i : ℕ) (last : Option ℕ) (bytes : List ℕ) (next tag place end : ℕ) (whole : Read (Unit {0})) → i < count → place ≤ end
    → tag_at last (drop next bytes) ≡ Ok ((tag, end - place), drop place bytes)
    → fields_at none_known (count - i) last tt (drop next bytes) ≡ whole
    → fields_at none_known (count - (i + 1)) (Some tag) tt (drop end bytes) ≡ whole
unfolding fields_at
skips_one count i last bytes next tag place end whole lt le read so_far =
    let e : count - i ≡ suc (count - (i + 1)) = omega arith in
    let d : place + (end - place) ≡ end = omega arith in
    let behind : drop (end - place) (drop place bytes) ≡ drop end bytes = drop-drop (end - place) place bytes ∙ ap (λ (n : ℕ). drop n bytes) d in
    let one : fields_at none_known (count - i) last tt (drop next bytes) ≡ fields_at none_known (count - (i + 1)) (Some tag) tt (drop end bytes) = rw (e, read, behind) refl in
    sym one ∙ so_far

-- a fault in one
pub skips_fault : (count i : ℕ) (last : Option ℕ) (bytes : List ℕ) (fault : WireFault) (whole : Read (Unit {0})) → i < count
    → tag_at last bytes ≡ Err fault
    → fields_at none_known (count - i) last tt bytes ≡ whole
    → whole ≡ Err fault
unfolding fields_at
skips_fault count i last bytes fault whole lt read so_far =
    let e : count - i ≡ suc (count - (i + 1)) = omega arith in
    let one : fields_at none_known (count - i) last tt bytes ≡ Err fault = rw (e, read) refl in
    sym so_far ∙ one

pub skips_none : (count i : ℕ) (last : Option ℕ) (bytes : List ℕ) (whole : Read (Unit {0})) → count ≤ i
    → fields_at none_known (count - i) last tt bytes ≡ whole
    → whole ≡ Ok (tt, bytes)
unfolding fields_at
skips_none count i last bytes whole le so_far =
    let e : count - i ≡ 0 = omega arith in
    let one : fields_at none_known (count - i) last tt bytes ≡ Ok (tt, bytes) = rw e refl in
    sym so_far ∙ one
