-- The law of the tagged fields that a structure knows, by one induction over its table. Each part of the value is looked up in
-- the whole list of fields, so that no part depends on another.
use Rattle.std.proofs.Common.{◌≡◌, ℕ, ◌+◌, ◌≤◌, Bool, true, false, cond, ◌&&◌, eqb, ltb, List, [], ◌∷◌, ◌++◌, Option, Some, None, Result, Ok, refl, sym, ap, subst, ◌∙◌, arith}
use Rattle.std.specs.Prelude.{◌||◌}
use Rattle.std.specs.Int.{w8, w32}
use Rattle.std.proofs.lemmas.Bool.Decides.{nat_tests}
use Rattle.kr_wire.specs.declared.WireFault.{WireFault}
use Rattle.kr_wire.specs.Reading.{◌>>=◌, Read, Known, field_of, whole_field, field_as, structure_at, tags_at}
use Rattle.kr_wire.specs.Grammar.{AreRising, data_of, given, IfTagged, IfTaggedSince, IsTags, includes}
use Rattle.kr_wire.specs.Schema.{Dropped, ArrayOrNull, Int32, TextOrNull, Uuid}
use Rattle.kr_wire.specs.Tables.{Part, Int8NotZero, Int8OrNone, Int32OrNone, Int32sOrNull, Int32sOrEmpty, TextOrNone, UuidsDropped, IsTaggedPart, part_at, absent, Table, NoField, Field, Are, absents, set_part, known, are_above, are_rising}
use Rattle.kr_wire.proofs.Numbers.{signed_law}
use Rattle.kr_wire.proofs.ReadingLaws.{IsBytes, Law, bind_ok, is_ok, sound_last, complete_last, whole_sound, whole_complete}
use Rattle.kr_wire.proofs.Schemas as schemas
use Rattle.kr_wire.proofs.Tags.{run, AreBytes, Makes, tags_law}
use Rattle.kr_wire.proofs.Slots.{IsSlot, Keeps, Opens, slot_sound, slot_complete, reads_all, whole_ok}

-- ---- the data of a field

-- a value that is seen of another
seen_law : {V P : Type 0} {One : V → List ℕ → Type 0} {read : List ℕ → Read V} (Seen : P → List ℕ → Type 0) → Law One read → (of : V → P)
    → ((v : V) (d : List ℕ) → One v d → Seen (of v) d) → ((p : P) (d : List ℕ) → Seen p d → (v : V) × One v d × (p ≡ of v)) → Law Seen (structure_at of read)
seen_law {V} {P} {One} {read} Seen law of into outof = record {
  sound = λ bytes fits. sound_last law Seen of bytes fits into;
  complete = λ p front rest is.
      let o = outof p front is in
      subst (λ (q : P). structure_at of read (front ++ rest) ≡ Ok (q, rest)) (sym o.2) (complete_last law o.0 of rest front o.1);
}

part_law : {P : Type 0} (part : Part P) → Law (IsTaggedPart part) (part_at part)
part_law Int8NotZero = signed_law w8
part_law (Int8OrNone default) = seen_law _ (signed_law w8) _ (λ n d is. record { n = n; is = refl; spelled = is }) (λ o d is. (is.n, is.spelled, is.is))
part_law (Int32OrNone default) = seen_law _ (signed_law w32) _ (λ n d is. record { n = n; is = refl; spelled = is }) (λ o d is. (is.n, is.spelled, is.is))
part_law Int32sOrNull = schemas.law (ArrayOrNull Int32) refl
part_law Int32sOrEmpty = seen_law _ (schemas.law (ArrayOrNull Int32) refl) _ (λ o d is. record { listed = o; is = refl; spelled = is }) (λ xs d is. (is.listed, is.spelled, is.is))
part_law TextOrNone = schemas.law TextOrNull refl
part_law UuidsDropped = schemas.law (Dropped (ArrayOrNull Uuid)) refl

part_whole : {P : Type 0} (part : Part P) (p : P) (d : List ℕ) → IsTaggedPart part p d → whole_field (part_at part d) ≡ Ok p
part_whole part p d is = rw (whole_complete (part_law part) d p is) refl

-- ---- no tag stands twice

pub both : (a b : Bool) → (a && b) ≡ true → (a ≡ true) × (b ≡ true)
both true b e = (refl, e)
both false b e = absurd cc

abbrev pub has_tag : {Z : Type 0} → Table Z → ℕ → Bool
has_tag NoField t = false
has_tag (Field tag first part more) t = eqb t tag || has_tag more t

-- No tag stands twice.
abbrev pub Distinct : {Z : Type 0} → Table Z → Type 0
Distinct NoField = Unit {0}
Distinct (Field tag first part more) = (has_tag more tag ≡ false) × Distinct more

apart : (last tag t : ℕ) → ltb last tag ≡ true → t ≤ last → eqb t tag ≡ false
apart last tag t above le = grind (arith, nat_tests)

behind : (last tag t : ℕ) → ltb last tag ≡ true → t ≤ last → t ≤ tag
behind last tag t above le = grind (arith, nat_tests)

no_tag : {Z : Type 0} (last : ℕ) (t : Table Z) (tag : ℕ) → are_above last t ≡ true → tag ≤ last → has_tag t tag ≡ false
no_tag last NoField tag above le = refl
no_tag last (Field next first part more) tag above le =
    let h = both (ltb last next) (are_above next more) above in
    rw (apart last next tag h.0 le) (no_tag next more tag h.1 (behind last next tag h.0 le))

distinct : {Z : Type 0} (last : ℕ) (t : Table Z) → are_above last t ≡ true → Distinct t
distinct last NoField above = tt
distinct last (Field tag first part more) above =
    let h = both (ltb last tag) (are_above tag more) above in
    (no_tag tag more tag h.1 (omega arith), distinct tag more h.1)

apart_tags : {Z : Type 0} (t : Table Z) → are_rising t ≡ true → Distinct t
apart_tags NoField rising = tt
apart_tags (Field tag first part more) rising = (no_tag tag more tag rising (omega arith), distinct tag more rising)

-- ---- the known fields of a version, and what one of them does to each part

abbrev moved : Bool → Type 0 → Type 0 → Type 0
moved true So Not = So
moved false So Not = Not

abbrev Step : {Z : Type 0} → Table Z → ℕ → ℕ → List ℕ → Z → Z → Type 0
Step NoField version t d z after = Unit {0}
Step (Field {P} {Y} tag first part more) version t d z after =
    moved (includes first version && eqb t tag) (whole_field (part_at part d) ≡ Ok after.0) (after.0 ≡ z.0) × Step more version t d z.1 after.1

neither : (a b : Bool) → (a || b) ≡ false → (a ≡ false) × (b ≡ false)
neither true b e = absurd cc
neither false b e = (refl, e)

not_second : (a b : Bool) → b ≡ false → (a && b) ≡ false
not_second true b e = e
not_second false b e = refl

same_tag : (t tag : ℕ) → eqb t tag ≡ true → t ≡ tag
same_tag t tag e = grind (arith, nat_tests)

stays : {Z : Type 0} (fs : Table Z) (version t : ℕ) (d : List ℕ) (z : Z) → has_tag fs t ≡ false → Step fs version t d z z
stays NoField version t d z none = tt
stays (Field {P} {Y} tag first part more) version t d z none =
    let n = neither (eqb t tag) (has_tag more t) none in
    (rw (not_second (includes first version) (eqb t tag) n.0) refl, stays more version t d z.1 n.1)

steps : {Z : Type 0} (fs : Table Z) (version : ℕ) → Distinct fs → (t : ℕ) (before after : Z) (d : List ℕ) → set_part fs version t before d ≡ Ok after → Step fs version t d before after
steps NoField version agrees t before after d e = tt
steps (Field {P} {Y} tag n part more) version agrees t before after d e =
    let Q : Bool → Type 0 = λ b. (includes n version && eqb t tag) ≡ b → cond b (field_as (part_at part) (λ z v. (v, z.1)) before d) (set_part more version t before.1 d >>= λ y. Ok (before.0, y)) ≡ Ok after
    → moved b (whole_field (part_at part d) ≡ Ok after.0) (after.0 ≡ before.0) × Step more version t d before.1 after.1 in
    let step : Q (includes n version && eqb t tag) = elim (includes n version && eqb t tag) as Q [
      | true ↦ λ is e.
          let k = bind_ok (whole_field (part_at part d)) (λ v. Ok (v, before.1)) after e in
          let there : tag ≡ t = sym (same_tag t tag (both (includes n version) (eqb t tag) is).1) in
          let none : has_tag more t ≡ false = subst (λ (u : ℕ). has_tag more u ≡ false) there agrees.0 in
          subst (λ (z : P × Y). (whole_field (part_at part d) ≡ Ok z.0) × Step more version t d before.1 z.1) (is_ok _ _ k.2) (k.1, stays more version t d before.1 none)
      | false ↦ λ is e.
          let k = bind_ok (set_part more version t before.1 d) (λ y. Ok (before.0, y)) after e in
          subst (λ (z : P × Y). (z.0 ≡ before.0) × Step more version t d before.1 z.1) (is_ok _ _ k.2) (refl, steps more version agrees.1 t before.1 k.0 d k.1)
    ] in
    step refl e

-- ---- known fields that move the parts so

abbrev Moves : {X Z : Type 0} → Table Z → ℕ → Known X → (X → Z) → Type 0
Moves {X} fs version known get = (t : ℕ) (before after : X) (d : List ℕ) → field_of (known t) before d ≡ Ok after → Step fs version t d (get before) (get after)

-- fields that all keep a part leave it as it was
all_kept : {X P : Type 0} (known : Known X) (get : X → P) → ((t : ℕ) → Keeps get (known t)) → (fields : List (ℕ × List ℕ)) (before after : X) → run known before fields ≡ Ok after → get after ≡ get before
all_kept known get keeps [] before after e = ap get (sym (is_ok _ _ e))
all_kept known get keeps (f ∷ fields) before after e =
    let m = bind_ok (field_of (known f.0) before f.1) (λ mid. run known mid fields) after e in
    all_kept known get keeps fields m.0 after m.2 ∙ keeps f.0 before m.0 f.1 m.1

module _ {X P Y : Type 0} (tag first : ℕ) (part : Part P) (more : Table Y)
    (version : ℕ) (known : Known X) (get : X → P × Y) (moves : Moves (Field tag first part more) version known get) where
  abbrev sets_part : X → List ℕ → Type 0
  sets_part after d = whole_field (part_at part d) ≡ Ok (get after).0

  sets_it : includes first version ≡ true → (before after : X) (d : List ℕ) → field_of (known tag) before d ≡ Ok after → sets_part after d
  sets_it has before after d e =
      let own : eqb tag tag ≡ true = grind (arith, nat_tests) in
      let it : (includes first version && eqb tag tag) ≡ true = rw (has, own) refl in
      subst (λ (b : Bool). moved b (sets_part after d) ((get after).0 ≡ (get before).0)) it (moves tag before after d e).0

  keeps_other : (t : ℕ) → (includes first version && eqb t tag) ≡ false → Keeps (λ x. (get x).0) (known t)
  keeps_other t not before after d e = subst (λ (b : Bool). moved b (sets_part after d) ((get after).0 ≡ (get before).0)) not (moves t before after d e).0

  slot : includes first version ≡ true → IsSlot known tag (λ x. (get x).0) (IsTaggedPart part)
  slot has = record {
    sets = λ before after d fits e. whole_sound (part_law part) d (get after).0 fits (whole_ok (part_at part d) (get after).0 (sets_it has before after d e));
    gives = λ before after d p is e. is_ok _ _ (sym (sets_it has before after d e) ∙ part_whole part p d is);
    keeps = λ other apart. keeps_other other (not_second (includes first version) (eqb other tag) apart);
  }

  kept : includes first version ≡ false → (fields : List (ℕ × List ℕ)) (before after : X) → run known before fields ≡ Ok after → (get after).0 ≡ (get before).0
  kept lacks fields before after e = all_kept known (λ x. (get x).0) (λ t. keeps_other t (rw lacks refl)) fields before after e

  module _ (fields : List (ℕ × List ℕ)) (rising : AreRising None fields) (before after : X) (start : (get before).0 ≡ absent part) (e : run known before fields ≡ Ok after) where
    first_is : AreBytes fields → IfTaggedSince (includes first version) tag (IsTaggedPart part (get after).0) ((get after).0 ≡ absent part) fields
    first_is fit =
        let Q : Bool → Type 0 = λ b. includes first version ≡ b → IfTaggedSince b tag (IsTaggedPart part (get after).0) ((get after).0 ≡ absent part) fields in
        let step : Q (includes first version) = elim (includes first version) as Q [
          | true ↦ λ has. subst (λ (p : P). IfTagged tag (IsTaggedPart part (get after).0) ((get after).0 ≡ p) fields) start (slot_sound known tag (λ x. (get x).0) (IsTaggedPart part) (slot has) fields None rising fit before after e)
          | false ↦ λ lacks. kept lacks fields before after e ∙ start
        ] in
        step refl

    first_given : (p : P) → IfTaggedSince (includes first version) tag (IsTaggedPart part p) (p ≡ absent part) fields → (get after).0 ≡ p
    first_given p h =
        let Q : Bool → Type 0 = λ b. includes first version ≡ b → IfTaggedSince b tag (IsTaggedPart part p) (p ≡ absent part) fields → (get after).0 ≡ p in
        let step : Q (includes first version) = elim (includes first version) as Q [
          | true ↦ λ has h. slot_complete known tag (λ x. (get x).0) (IsTaggedPart part) (slot has) fields None rising before after p e (subst (λ (q : P). IfTagged tag (IsTaggedPart part p) (p ≡ q) fields) (sym start) h)
          | false ↦ λ lacks h. kept lacks fields before after e ∙ start ∙ sym h
        ] in
        step refl h

are : {X Z : Type 0} (fs : Table Z) (version : ℕ) (known : Known X) (get : X → Z) → Moves fs version known get → (fields : List (ℕ × List ℕ)) → AreRising None fields → AreBytes fields
    → (before after : X) → get before ≡ absents fs → run known before fields ≡ Ok after → Are fs version (get after) fields
are NoField version known get moves fields rising fit before after start e = tt
are {X} {Z} (Field {P} {Y} tag first part more) version known get moves fields rising fit before after start e = (
  first_is tag first part more version known get moves fields rising before after (ap (λ (z : P × Y). z.0) start) e fit,
  are more version known (λ x. (get x).1) (λ t b a d f. (moves t b a d f).1) fields rising fit before after (ap (λ (z : P × Y). z.1) start) e,
)

gives_back : {X Z : Type 0} (fs : Table Z) (version : ℕ) (known : Known X) (get : X → Z) → Moves fs version known get → (fields : List (ℕ × List ℕ)) → AreRising None fields
    → (before after : X) (z : Z) → get before ≡ absents fs → run known before fields ≡ Ok after → Are fs version z fields → get after ≡ z
gives_back NoField version known get moves fields rising before after z start e h = refl
gives_back {X} {Z} (Field {P} {Y} tag first part more) version known get moves fields rising before after z start e h =
    let one = first_given tag first part more version known get moves fields rising before after (ap (λ (z : P × Y). z.0) start) e z.0 h.0 in
    let others = gives_back more version known (λ x. (get x).1) (λ t b a d f. (moves t b a d f).1) fields rising before after z.1 (ap (λ (z : P × Y). z.1) start) e h.1 in
    λ i. (one i, others i)

opens : {Z : Type 0} (fs : Table Z) (version : ℕ) (z : Z) (fields : List (ℕ × List ℕ)) → Are fs version z fields → (t : ℕ) (d : List ℕ) → data_of t fields ≡ Some d → Opens (known fs version t) d
opens NoField version z fields h t d e before = (before, refl)
opens (Field {P} {Y} tag first part more) version z fields h t d e before =
    let Q : Bool → Type 0 = λ b. (includes first version && eqb t tag) ≡ b
    → (after : P × Y) × (cond b (field_as (part_at part) (λ z v. (v, z.1)) before d) (set_part more version t before.1 d >>= λ y. Ok (before.0, y)) ≡ Ok after) in
    let step : Q (includes first version && eqb t tag) = elim (includes first version && eqb t tag) as Q [
      | true ↦ λ is.
          let p = both (includes first version) (eqb t tag) is in
          let there : data_of tag fields ≡ Some d = subst (λ (u : ℕ). data_of u fields ≡ Some d) (same_tag t tag p.1) e in
          let tagged : IfTagged tag (IsTaggedPart part z.0) (z.0 ≡ absent part) fields = subst (λ (b : Bool). IfTaggedSince b tag (IsTaggedPart part z.0) (z.0 ≡ absent part) fields) p.0 h.0 in
          let spelled : IsTaggedPart part z.0 d = subst (λ (o : Option (List ℕ)). given o (IsTaggedPart part z.0) (z.0 ≡ absent part)) there tagged in
          ((z.0, before.1), rw (part_whole part z.0 d spelled) refl)
      | false ↦ λ not. let o = opens more version z.1 fields h.1 t d e before.1 in ((before.0, o.0), rw o.1 refl)
    ] in
    step refl

-- ---- the law of a structure's tagged fields

module _ {Z : Type 0} (t : Table Z) (rising : are_rising t ≡ true) (version : ℕ) where
  complete : (z : Z) (fields : List (ℕ × List ℕ)) → AreRising None fields → Are t version z fields → run (known t version) (absents t) fields ≡ Ok z
  complete z fields up is =
      let r = reads_all (known t version) fields None up (opens t version z fields is) (absents t) in
      r.1 ∙ ap (λ (y : Z). Ok y) (gives_back t version (known t version) (λ z. z) (steps t version (apart_tags t rising)) fields up (absents t) r.0 z refl r.1 is)

  makes : Makes (known t version) (absents t) (Are t version)
  makes = record {
    sound = λ x fields up fit e. are t version (known t version) (λ z. z) (steps t version (apart_tags t rising)) fields up fit (absents t) x refl e;
    complete = complete;
  }

  pub fields_law : Law (λ z. IsTags (Are t version z)) (tags_at (known t version) (absents t))
  fields_law = tags_law makes
