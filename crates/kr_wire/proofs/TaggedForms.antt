-- Tagged fields of which each may be there or not: what is written of them, in rising order of their tags, and what follows of
-- those that stand in bytes.
use Rattle.std.proofs.Common.{◌≡◌, ℕ, ◌+◌, ◌*◌, ◌^◌, ◌<◌, ◌≤◌, Bool, true, false, cond, eqb, List, [], ◌∷◌, ◌++◌, length, Option, Some, None, refl, subst, ap, ◌∙◌, arith}
use Rattle.std.specs.Prelude.{IfSome}
use Rattle.std.specs.List.{AllByRecursion, flat_map, sum_by}
use Rattle.std.specs.Option.{option_map}
use Rattle.std.proofs.lemmas.Bool.{lt-ltb}
use Rattle.std.proofs.lemmas.List.{length-append}
use Rattle.std.proofs.lemmas.List.Sums.{sum_by-cons}
use Rattle.std.proofs.Math.Nat.{mul-le-mul}
use Rattle.kr_wire.specs.Laws.{IsBytes}
use Rattle.kr_wire.specs.Grammar.{AreRising, Each, IsField, IsTags, data_of, given, IfTaggedSince}
use Rattle.kr_wire.specs.Spelling as written
use Rattle.kr_wire.proofs.ReadingLaws.{IsBytes-before, IsBytes-behind}
use Rattle.kr_wire.proofs.Lengths.{uvarint_bytes, uvarint_least, uvarint_one, length_uvarint, some_uvarint, both_lengths}
use Rattle.kr_wire.proofs.WrittenForms.{IsShortField, tags_spelled}
use Rattle.kr_wire.proofs.WrittenBytes.{OfBytes, field_fits, tags_fits}
use Rattle.kr_wire.proofs.SpellingLaws.{Form, Plain}

-- ---- how many bytes fields have as they are written, each with a tag of one byte

-- data of so many bytes, where the field is there
abbrev pub field_bytes : Option ℕ → ℕ
field_bytes None = 0
field_bytes (Some size) = 1 + uvarint_bytes size + size

abbrev pub field_there : Option ℕ → ℕ
field_there None = 0
field_there (Some _) = 1

abbrev pub tags_bytes : List (Option ℕ) → ℕ
tags_bytes sizes = uvarint_bytes (sum_by field_there sizes) + sum_by field_bytes sizes

-- ---- the data of a tag

-- data with a tag and their size stand in the bytes
pub record IsIn (d bytes : List ℕ) : Type 0 where
  pub room : (m : ℕ) → m ≤ length d → 1 + uvarint_bytes m + m ≤ length bytes
  pub fit : IsBytes bytes → IsBytes d

abbrev pub AreIn : List (ℕ × List ℕ) → List ℕ → Type 0
AreIn fields bytes = (tag : ℕ) (d : List ℕ) → data_of tag fields ≡ Some d → IsIn d bytes

one_in : (f : ℕ × List ℕ) (bytes : List ℕ) → IsField f bytes → IsIn f.1 bytes
one_in f bytes is =
    let sized = is.second in
    record {
      room = λ m le. omega (arith, some_uvarint _ is.left is.first, uvarint_least m _ sized.left le sized.first, both_lengths bytes is, both_lengths is.right sized, ap (λ (l : List ℕ). length l) sized.second);
      fit = λ fit. subst IsBytes sized.second (IsBytes-behind sized.left sized.right is.right sized.is (IsBytes-behind is.left is.right bytes is.is fit));
    }

wider : (d part bytes : List ℕ) → IsIn d part → length part ≤ length bytes → (IsBytes bytes → IsBytes part) → IsIn d bytes
wider d part bytes inside le fit = record { room = λ m few. omega (arith, inside.room m few); fit = λ whole. inside.fit (fit whole) }

are_in : (fields : List (ℕ × List ℕ)) (bytes : List ℕ) → Each IsField fields bytes → AreIn fields bytes
are_in [] bytes is tag d e = absurd cc
are_in (f ∷ fields) bytes is tag d e =
    let P : Bool → Type 0 = λ b. cond b (Some f.1) (data_of tag fields) ≡ Some d → IsIn d bytes in
    let step : P (eqb f.0 tag) = elim (eqb f.0 tag) as P [
      | true ↦ λ e.
          let same : f.1 ≡ d = cc in
          subst (λ (l : List ℕ). IsIn l bytes) same (wider f.1 is.left bytes (one_in f is.left is.first) (omega (arith, both_lengths bytes is)) (IsBytes-before is.left is.right bytes is.is))
      | false ↦ λ e. wider d is.right bytes (are_in fields is.right is.second tag d e) (omega (arith, both_lengths bytes is)) (IsBytes-behind is.left is.right bytes is.is)
    ] in
    step e

-- ---- one field

-- data of at most so many bytes, where the field is there
abbrev pub Within : Option ℕ → ℕ → Type 0
Within None k = Unit {0}
Within (Some m) k = m ≤ k

-- what is written of a field, whose data may be there, and what follows of its data, and what where it is absent
pub record FieldForm (Is : List ℕ → Type 0) (Absent : Type 0) (piece : Option (List ℕ)) (size : Option ℕ) (Short Held : Type 0) : Type 0 where
  pub long : Short → option_map (λ d. length d) piece ≡ size
  pub few : Short → IfSome piece (λ d. length d < 2 ^ 32)
  pub stands : Short → Held → given piece Is Absent
  pub fits : Short → Held → IfSome piece OfBytes
  pub within : (d : List ℕ) → Is d → Within size (length d)
  pub short : (d : List ℕ) → Is d → length d < 2 ^ 31 → Short
  pub held : (d : List ℕ) → Is d → IsBytes d → Held
  pub absent : Absent → (size ≡ None) × Short × Held

-- nothing is written
pub left_out : {Is : List ℕ → Type 0} {Absent P Q : Type 0} → Absent → P → Q → FieldForm Is Absent None None P Q
left_out is short held = record {
  long = λ p. refl;
  few = λ p. tt;
  stands = λ p q. is;
  fits = λ p q. tt;
  within = λ d is. tt;
  short = λ d is few. short;
  held = λ d is fit. held;
  absent = λ none. (refl, short, held);
}

pub present : {Is : List ℕ → Type 0} {Absent : Type 0} {bytes : List ℕ} {n : ℕ} {P Q : Type 0} → Plain Is bytes n P Q → (P → length bytes < 2 ^ 32) → (Absent → ⊥) → FieldForm Is Absent (Some bytes) (Some n) P Q
present {Is} {Absent} {bytes} {n} part few some = record {
  long = λ p. ap (λ (n : ℕ). Some n) (part.size p);
  few = few;
  stands = part.stands;
  fits = part.fits;
  within = λ d is. omega (arith, part.follows.cost d is);
  short = part.follows.short;
  held = part.follows.held;
  absent = λ none. absurd (some none);
}

module _ {Is : List ℕ → Type 0} {Absent : Type 0} {piece : Option (List ℕ)} {size : Option ℕ} {P Q : Type 0} (tag : ℕ) (one : FieldForm Is Absent piece size P Q)
    (bytes : List ℕ) (found : List (ℕ × List ℕ)) (known : AreIn found bytes) where
  -- what follows of it in some bytes
  abbrev OneFollows : Type 0
  OneFollows = (field_bytes size ≤ field_there size * length bytes) × ((length bytes < 2 ^ 31 → P) × (IsBytes bytes → Q))

  none_follows : Absent → OneFollows
  none_follows is = let h = one.absent is in let none : size ≡ None = h.0 in (rw none (omega arith), (λ few. h.1, λ fit. h.2))

  room : (size : Option ℕ) (d : List ℕ) → IsIn d bytes → Within size (length d) → field_bytes size ≤ field_there size * length bytes
  room None d inside le = omega arith
  room (Some m) d inside le = omega (arith, inside.room m le)

  one_follows : (has : Bool) → IfTaggedSince has tag Is Absent found → OneFollows
  one_follows true is =
      let T : Option (List ℕ) → Type 0 = λ o. data_of tag found ≡ o → given o Is Absent → OneFollows in
      let step : T (data_of tag found) = elim (data_of tag found) as T [
        | None ↦ λ e is. none_follows is
        | Some d ↦ λ e is.
            let inside = known tag d e in
            let small : length bytes < 2 ^ 31 → length d < 2 ^ 31 = λ few. let same : length d ≤ length d = omega arith in omega (arith, inside.room (length d) same) in
            (room size d inside (one.within d is), (λ few. one.short d is (small few), λ fit. one.held d is (inside.fit fit)))
      ] in
      step refl is
  one_follows false is = none_follows is

-- ---- fields

-- what follows of those in some bytes
pub record FieldsFollow (bytes : List ℕ) (sizes : List (Option ℕ)) (Short Held : Type 0) : Type 0 where
  pub cost : sum_by field_bytes sizes ≤ sum_by field_there sizes * length bytes
  pub short : length bytes < 2 ^ 31 → Short
  pub held : IsBytes bytes → Held

-- what is written of fields of these sizes, and what follows of what was found in bytes
pub record FieldsForm (Was : List (ℕ × List ℕ) → Type 0) (fields : List (ℕ × List ℕ)) (sizes : List (Option ℕ)) (Short Held : Type 0) : Type 0 where
  pub size : Short → length (flat_map written.field fields) ≡ sum_by field_bytes sizes
  pub there : Short → length fields ≡ sum_by field_there sizes
  pub short : Short → AllByRecursion IsShortField fields
  pub fits : Short → Held → AllByRecursion (λ f. OfBytes (written.field f)) fields
  pub follow : (bytes : List ℕ) (found : List (ℕ × List ℕ)) → AreIn found bytes → Was found → FieldsFollow bytes sizes Short Held

pub no_more : FieldsForm (λ found. Unit {0}) [] [] (Unit {0}) (Unit {0})
no_more = record {
  size = λ p. refl;
  there = λ p. refl;
  short = λ p. tt;
  fits = λ p q. tt;
  follow = λ bytes found known is. record { cost = omega arith; short = λ few. tt; held = λ fit. tt };
}

field_size : (tag : ℕ) (d : List ℕ) → tag < 128 → length d < 2 ^ 32 → length (written.field (tag, d)) ≡ 1 + uvarint_bytes (length d) + length d
field_size tag d low fits =
    let t = uvarint_one tag low in
    let s = length_uvarint (length d) fits in
    simp (length-append, t, s) refl

plus_times : (m n room : ℕ) → (m + n) * room ≡ m * room + n * room
plus_times m n room = grind arith

-- a field, and those behind it
module _ {Was : List (ℕ × List ℕ) → Type 0} {fields : List (ℕ × List ℕ)} {sizes : List (Option ℕ)} {R S : Type 0} (has : Bool) (tag : ℕ) (low : tag < 128) (more : FieldsForm Was fields sizes R S)
    {Is : List ℕ → Type 0} {Absent P Q : Type 0} where
  follow_more : {piece : Option (List ℕ)} {size : Option ℕ} → FieldForm Is Absent piece size P Q → (bytes : List ℕ) (found : List (ℕ × List ℕ)) → AreIn found bytes
      → IfTaggedSince has tag Is Absent found × Was found → FieldsFollow bytes (size ∷ sizes) (P × R) (Q × S)
  follow_more {piece} {size} one bytes found known is =
      let first = one_follows tag one bytes found known has is.0 in
      let others = more.follow bytes found known is.1 in
      record {
        cost = rw (sum_by-cons field_there size sizes, plus_times) (omega (arith, first.0, others.cost, sum_by-cons field_bytes size sizes));
        short = λ few. (first.1.0 few, others.short few);
        held = λ fit. (first.1.1 fit, others.held fit);
      }

  pub field : (piece : Option (List ℕ)) (size : Option ℕ) → FieldForm Is Absent piece size P Q
      → FieldsForm (λ found. IfTaggedSince has tag Is Absent found × Was found) (written.tagged tag piece ++ fields) (size ∷ sizes) (P × R) (Q × S)
  field None size one = record {
    size = λ p. rw (← one.long p.0) (omega (arith, more.size p.1, sum_by-cons field_bytes None sizes));
    there = λ p. rw (← one.long p.0) (omega (arith, more.there p.1, sum_by-cons field_there None sizes));
    short = λ p. more.short p.1;
    fits = λ p q. more.fits p.1 q.1;
    follow = follow_more one;
  }
  field (Some d) size one = record {
    size = λ p. rw (← one.long p.0) (omega (arith, field_size tag d low (one.few p.0), more.size p.1, sum_by-cons field_bytes (Some (length d)) sizes, length-append (written.field (tag, d)) (flat_map written.field fields)));
    there = λ p. rw (← one.long p.0) (omega (arith, more.there p.1, sum_by-cons field_there (Some (length d)) sizes));
    short = λ p. ((omega arith, one.few p.0), more.short p.1);
    fits = λ p q. (field_fits tag d (omega arith) (one.few p.0) (one.fits p.0 q.0), more.fits p.1 q.1);
    follow = follow_more one;
  }

-- ---- all of them

pub tags : {fields : List (ℕ × List ℕ)} {sizes : List (Option ℕ)} {P Q : Type 0} {Holds Was : List (ℕ × List ℕ) → Type 0} → FieldsForm Was fields sizes P Q → sum_by field_there sizes ≤ 8
    → AreRising None fields → (P → Q → Holds fields) → Form (IsTags Holds) (IsTags Was) (written.tags fields) (tags_bytes sizes) (tags_bytes sizes) P Q
tags {fields} {sizes} {P} {Q} {Holds} {Was} all few up holds =
    let small : P → length fields < 2 ^ 32 = λ p. omega (arith, all.there p) in
    let inner : (b : List ℕ) (is : IsTags Was b) → FieldsFollow is.spelled.right sizes P Q = λ b is. all.follow is.spelled.right is.fields (are_in is.fields is.spelled.right is.spelled.second) is.holds in
    record {
      size = λ r.
          length-append (written.uvarint (length fields)) (flat_map written.field fields)
          ∙ (λ i. (length_uvarint (length fields) (small r) ∙ ap uvarint_bytes (all.there r)) i + all.size r i);
      stands = λ r s. tags_spelled Holds fields up (holds r s) (small r) (all.short r);
      fits = λ r s. tags_fits fields (small r) (all.fits r s);
      follows = record {
        cost = λ b is.
            let times : sum_by field_there sizes * length is.spelled.right ≤ 8 * length is.spelled.right = mul-le-mul few (omega arith) in
            let count : sum_by field_there sizes < 128 = omega arith in
            rw (lt-ltb _ 128 count) (omega (arith, (inner b is).cost, some_uvarint _ is.spelled.left is.spelled.first, both_lengths b is.spelled));
        short = λ b is few. (inner b is).short (omega (arith, both_lengths b is.spelled));
        held = λ b is fit. (inner b is).held (IsBytes-behind is.spelled.left is.spelled.right b is.spelled.is fit);
      };
    }
