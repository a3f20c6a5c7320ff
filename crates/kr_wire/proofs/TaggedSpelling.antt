-- What is written of tagged fields of which each may be there or not: their tags rise, and each is found by its tag.
use Rattle.std.proofs.Common.{◌≡◌, ℕ, ◌<◌, ◌≤◌, true, false, eqb, ltb, List, [], ◌∷◌, ◌++◌, Some, None, refl, arith}
use Rattle.std.proofs.lemmas.Bool.Decides.{nat_tests}
use Rattle.kr_wire.specs.Grammar.{AreRising, data_of}
use Rattle.kr_wire.specs.Tables.{Table, NoField, Field, are_above, are_rising, written_data, written_fields}
use Rattle.kr_wire.specs.Spelling as written
use Rattle.kr_wire.proofs.Tables.{both}

-- ---- rising tags

lower : (low last : ℕ) (fields : List (ℕ × List ℕ)) → low < last → AreRising (Some last) fields → AreRising (Some low) fields
lower low last [] lt h = tt
lower low last (f ∷ fields) lt h = let above : last < f.0 = h.0 in (omega arith, h.1)

forget : (last : ℕ) (fields : List (ℕ × List ℕ)) → AreRising (Some last) fields → AreRising None fields
forget last [] h = tt
forget last (f ∷ fields) h = h.1

climbing : {Z : Type 0} (last : ℕ) (t : Table Z) (z : Z) → are_above last t ≡ true → AreRising (Some last) (written_fields t z)
climbing last NoField z e = tt
climbing last (Field tag first part more) z e =
    let h = both (ltb last tag) (are_above tag more) e in
    let lt : last < tag = grind (arith, nat_tests) in
    let others = climbing tag more z.1 h.1 in
    elim (written_data part z.0) as (λ o. AreRising (Some last) (written.tagged tag o ++ written_fields more z.1)) [
      | None ↦ lower last tag (written_fields more z.1) lt others
      | Some d ↦ (lt, others)
    ]

pub rising : {Z : Type 0} (t : Table Z) (z : Z) → are_rising t ≡ true → AreRising None (written_fields t z)
rising NoField z e = tt
rising (Field tag first part more) z e =
    let others = climbing tag more z.1 e in
    elim (written_data part z.0) as (λ o. AreRising None (written.tagged tag o ++ written_fields more z.1)) [
      | None ↦ forget tag (written_fields more z.1) others
      | Some d ↦ others
    ]

-- ---- the data of a tag

below : (last tag : ℕ) (fields : List (ℕ × List ℕ)) → tag ≤ last → AreRising (Some last) fields → data_of tag fields ≡ None
below last tag [] le h = refl
below last tag (f ∷ fields) le h =
    let above : last < f.0 = h.0 in
    let apart : eqb f.0 tag ≡ false = grind (arith, nat_tests) in
    rw apart (below f.0 tag fields (omega arith) h.1)

-- each field's data are found by its tag
abbrev pub AreFound : {Z : Type 0} → Table Z → Z → List (ℕ × List ℕ) → Type 0
AreFound NoField z fields = Unit {0}
AreFound (Field tag first part more) z fields = (data_of tag fields ≡ written_data part z.0) × AreFound more z.1 fields

behind : {Z : Type 0} (low last : ℕ) (d : List ℕ) (fields : List (ℕ × List ℕ)) (t : Table Z) (z : Z) → low ≤ last → are_above last t ≡ true → AreFound t z fields → AreFound t z ((low, d) ∷ fields)
behind low last d fields NoField z le e found = tt
behind low last d fields (Field tag first part more) z le e found =
    let h = both (ltb last tag) (are_above tag more) e in
    let lt : last < tag = grind (arith, nat_tests) in
    let other : eqb low tag ≡ false = grind (arith, nat_tests) in
    (rw other found.0, behind low tag d fields more z.1 (omega arith) h.1 found.1)

rises : {Z : Type 0} (last : ℕ) (t : Table Z) → are_above last t ≡ true → are_rising t ≡ true
rises last NoField e = refl
rises last (Field tag first part more) e = (both (ltb last tag) (are_above tag more) e).1

pub found : {Z : Type 0} (t : Table Z) (z : Z) → are_rising t ≡ true → AreFound t z (written_fields t z)
found NoField z e = tt
found (Field tag first part more) z e =
    let own : eqb tag tag ≡ true = grind (arith, nat_tests) in
    let others = found more z.1 (rises tag more e) in
    elim (written_data part z.0) as (λ o. (data_of tag (written.tagged tag o ++ written_fields more z.1) ≡ o) × AreFound more z.1 (written.tagged tag o ++ written_fields more z.1)) [
      | None ↦ (below tag tag (written_fields more z.1) (omega arith) (climbing tag more z.1 e), others)
      | Some d ↦ (rw own refl, behind tag tag d (written_fields more z.1) more z.1 (omega arith) e others)
    ]
